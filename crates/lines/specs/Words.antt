-- Words in a text, parted by white space, and numbers in words.
use Rattle.std.specs.Prelude.{◌≡◌, ℕ, ◌^◌, ◌<◌, List, [], ◌∷◌, ◌++◌, ◌⊎◌, length, Some, None, Ok, Err, Option, Result, min, ⊤}
use Rattle.std.specs.Str.{NoCharPasses, EmptyOrStartsWithPassing}
use Rattle.std.specs.Str.Parse.{IsNumeral, digits_value, without_leading_plus}
use Rattle.std.specs.Char.{is_whitespace, is_not_whitespace}
use Rattle.lines.specs.declared.words.ReadFault.{ReadFault}
use Rattle.lines.specs.declared.words.ReadFault.TheVariants.{NotBytes, Memory}

-- bs is white space, the word w, and rest, which is empty or begins with white space
pub record StartsWithWord (bs w rest : List ℕ) : Type 0 where
  pub gap : List ℕ
  pub split : bs ≡ gap ++ (w ++ rest)
  pub nonempty : 0 < length w
  pub gap_is_blank : NoCharPasses is_not_whitespace gap
  pub word_has_no_space : NoCharPasses is_whitespace w
  pub rest_starts_blank : (more : List ℕ) × EmptyOrStartsWithPassing is_whitespace rest more

-- bs is the words ws and then rest
abbrev pub SplitsTo : List ℕ → List (List ℕ) → List ℕ → Type 0
SplitsTo bs [] rest = bs ≡ rest
SplitsTo bs (w ∷ ws) rest = (mid : List ℕ) × StartsWithWord bs w mid × SplitsTo mid ws rest

-- no word is left
abbrev pub Blank : List ℕ → Type 0
Blank bs = NoCharPasses is_not_whitespace bs

-- ws are the words of bs
abbrev pub SplitsInto : List ℕ → List (List ℕ) → Type 0
SplitsInto bs ws = (rest : List ℕ) × SplitsTo bs ws rest × Blank rest

-- the word w is the number n, which has at most k bits: decimal digits, a plus before them or none
pub record Writes (k : ℕ) (w : List ℕ) (n : ℕ) : Type 0 where
  pub digits : IsNumeral 10 (without_leading_plus w)
  pub value : digits_value 10 (without_leading_plus w) ≡ n
  pub fits : n < 2 ^ k

abbrev pub AllWrite : ℕ → List (List ℕ) → List ℕ → Type 0
AllWrite k [] [] = ⊤
AllWrite k [] (n ∷ ns) = ⊥
AllWrite k (w ∷ ws) [] = ⊥
AllWrite k (w ∷ ws) (n ∷ ns) = Writes k w n × AllWrite k ws ns

-- a word of the text is no byte; memory may be wanting of any text
abbrev pub NotRead : List ℕ → ReadFault → Type 0
NotRead text NotBytes =
    (ws : List (List ℕ)) × (w : List ℕ) × (mid : List ℕ) × (rest : List ℕ) × SplitsTo text ws mid × StartsWithWord mid w rest × ((n : ℕ) → Writes 8 w n → ⊥)
NotRead text Memory = ⊤

-- BYTES: those of all words come behind the old ones; or a word is none
abbrev pub ReadsBytes : List ℕ → List ℕ → List ℕ → Result (Unit {0}) ReadFault → Type 0
ReadsBytes text old new (Ok u) = (ws : List (List ℕ)) × (ns : List ℕ) × SplitsInto text ws × AllWrite 8 ws ns × (new ≡ old ++ ns)
ReadsBytes text old new (Err fault) = NotRead text fault

-- A NUMBER of at most 64 bits, one above 255 being 255; or the word is none
abbrev pub ReadsCapped : List ℕ → Option ℕ → Type 0
ReadsCapped w (Some v) = (n : ℕ) × Writes 64 w n × (v ≡ min n 255)
ReadsCapped w None = (n : ℕ) → Writes 64 w n → ⊥

-- no word or one
abbrev pub FewWords : List ℕ → Type 0
FewWords text = SplitsInto text [] ⊎ ((v : List ℕ) × SplitsInto text (v ∷ []))

-- a third word behind two
abbrev pub ManyWords : List ℕ → Type 0
ManyWords text = (v : List ℕ) × (w : List ℕ) × (z : List ℕ) × (mid : List ℕ) × (rest : List ℕ) × SplitsTo text (v ∷ w ∷ []) mid × StartsWithWord mid z rest

-- A PAIR: the text has two words, and both are numbers; or it has not, or one is none
abbrev pub ReadsPair : List ℕ → Option (ℕ × ℕ) → Type 0
ReadsPair text (Some p) = (v : List ℕ) × (w : List ℕ) × SplitsInto text (v ∷ w ∷ []) × ReadsCapped v (Some p.0) × ReadsCapped w (Some p.1)
ReadsPair text None =
    FewWords text ⊎ (ManyWords text ⊎ ((v : List ℕ) × (w : List ℕ) × SplitsInto text (v ∷ w ∷ []) × (ReadsCapped v None ⊎ ReadsCapped w None)))
