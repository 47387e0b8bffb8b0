-- One word more of a text.
use Rattle.std.proofs.Common.{◌≡◌, ℕ, ◌<◌, List, [], ◌∷◌, ◌++◌, length, refl, sym, subst}
use Rattle.std.specs.Str.{NoCharPasses, EmptyOrStartsWithPassing}
use Rattle.std.specs.Char.{is_whitespace, is_not_whitespace}
use Rattle.lines.specs.Words.{StartsWithWord, SplitsTo, Writes, AllWrite}

-- what `split_whitespace` says of an item
abbrev pub Item : List ℕ → List ℕ → List ℕ → Type 0
Item bs w rest =
    (gap : List ℕ) × (bs ≡ gap ++ (w ++ rest)) × (0 < length w) × NoCharPasses is_not_whitespace gap × NoCharPasses is_whitespace w × ((more : List ℕ) × EmptyOrStartsWithPassing is_whitespace rest more)

pub a_word : (bs w rest : List ℕ) → Item bs w rest → StartsWithWord bs w rest
a_word bs w rest item = record { gap = item.0; split = item.1; nonempty = item.2; gap_is_blank = item.3; word_has_no_space = item.4; rest_starts_blank = item.5 }

pub one_word_more : (bs : List ℕ) (ws : List (List ℕ)) (mid w rest : List ℕ) → SplitsTo bs ws mid → StartsWithWord mid w rest → SplitsTo bs (ws ++ (w ∷ [])) rest
one_word_more bs [] mid w rest s t = (rest, subst (λ (x : List ℕ). StartsWithWord x w rest) (sym s) t, refl)
one_word_more bs (v ∷ ws) mid w rest s t = (s.0, s.1, one_word_more s.0 ws mid w rest s.2 t)

pub one_number_more : (k : ℕ) (ws : List (List ℕ)) (ns : List ℕ) (w : List ℕ) (n : ℕ) → AllWrite k ws ns → Writes k w n → AllWrite k (ws ++ (w ∷ [])) (ns ++ (n ∷ []))
one_number_more k [] [] w n a t = (t, tt)
one_number_more k [] (m ∷ ns) w n a t = absurd a
one_number_more k (v ∷ ws) [] w n a t = absurd a
one_number_more k (v ∷ ws) (m ∷ ns) w n a t = (a.0, one_number_more k ws ns w n a.1 t)

-- the first word, and the first two
pub first_word : {bs start rest : List ℕ} (v : List ℕ) → start ≡ bs → Item start v rest → SplitsTo bs (v ∷ []) rest
first_word {bs} {start} {rest} v s i = one_word_more bs [] start v rest (sym s) (a_word start v rest i)

pub two_words : {bs start mid rest : List ℕ} (v w : List ℕ) → start ≡ bs → Item start v mid → Item mid w rest → SplitsTo bs (v ∷ w ∷ []) rest
two_words {bs} {mid = mid} {rest = rest} v w s i j = one_word_more bs (v ∷ []) mid w rest (first_word v s i) (a_word mid w rest j)
