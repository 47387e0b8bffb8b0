-- When a text is read as a formula, and where a text is at fault.
use Rattle.std.specs.Prelude.{◌≡◌, ℕ, zero, suc, ◌+◌, ◌<◌, ◌≤◌, Bool, true, false, cond, not, ◌||◌, ◌⊎◌, List, [], ◌∷◌, length, Some, None, Ok, Err, Option, Result, slice_index}
use Rattle.ltlf.specs.Operators.{temporal1, temporal2}
use Rattle.ltlf.specs.Numbers.{number}
use Rattle.ltlf.specs.Formulas.{Ltl, prefix, digits_below, IsRule}
use Rattle.ltlf.specs.Tokens.{kind}
use Rattle.ltlf.specs.Reading.{outcome}
use Rattle.ltlf.specs.declared.fault.TextFault.{TextFault}
use Rattle.ltlf.specs.declared.fault.TextFault.TheVariants.{Empty, TooLong, UnknownByte, DigitTooLarge, TextEnds, ByteAfterEnd, NotRule}
use Rattle.ltlf.specs.declared.token.Token.{Token}
use Rattle.ltlf.specs.declared.token.Token.TheVariants.{Truth, Digit, Unary, Binary}

-- each exactly if the other
abbrev pub Both : Type 0 → Type 0 → Type 0
Both P Q = (P → Q) × (Q → P)

-- the text of a formula
pub record TextOf (bits : ℕ) (text : List ℕ) (p : Ltl) : Type 0 where
  pub prefixed : text ≡ prefix p
  pub rule : IsRule p
  pub digits : digits_below bits p ≡ true
  pub some : 1 ≤ length text
  pub short : length text ≤ 64

-- a text is read as p exactly if it is p's
abbrev pub ReadsAs : ℕ → List ℕ → Type 0
ReadsAs bits text = (p : Ltl) → Both (outcome bits text ≡ Ok p) (TextOf bits text p)

-- a text is accepted exactly if it is the text of some formula
abbrev pub Accepts : ℕ → List ℕ → Result (Unit {0}) TextFault → Type 0
Accepts bits text r = Both (r ≡ Ok tt) ((p : Ltl) × TextOf bits text p)

-- a place between two bytes: for each formula still awaited, the next first, whether it stands beneath a temporal operator; and the terms so far
pub record Place : Type 0 where
  pub awaited : List Bool
  pub terms : ℕ

-- before the first byte one formula is awaited, beneath no operator
abbrev pub front : Place
front = record { awaited = false ∷ []; terms = 0 }

-- a temporal operator
abbrev pub temporal : Token → Bool
temporal (Truth v) = false
temporal (Digit j) = false
temporal (Unary o) = temporal1 o
temporal (Binary o) = temporal2 o

-- a term: a temporal operator, or a digit beneath none
abbrev pub is_term : Token → Bool → Bool
is_term (Truth v) beneath = false
is_term (Digit j) beneath = not beneath
is_term (Unary o) beneath = temporal1 o
is_term (Binary o) beneath = temporal2 o

-- the formulas awaited behind a token, where one was awaited before it
abbrev pub awaits : Token → Bool → List Bool → List Bool
awaits (Truth v) b bs = bs
awaits (Digit j) b bs = bs
awaits (Unary o) b bs = (b || temporal1 o) ∷ bs
awaits (Binary o) b bs = (b || temporal2 o) ∷ (b || temporal2 o) ∷ bs

-- the place behind a byte; behind one that is unknown or no longer awaited it is as before
abbrev pub behind : Option Token → List Bool → ℕ → Place
behind None bs n = record { awaited = bs; terms = n }
behind (Some t) [] n = record { awaited = []; terms = n }
behind (Some t) (b ∷ bs) n = record { awaited = awaits t b bs; terms = cond (is_term t b) (n + 1) n }

-- the place before byte i of a text that begins at place s
abbrev pub before : Place → List ℕ → ℕ → Place
before s text zero = s
before s [] (suc i) = s
before s (c ∷ cs) (suc i) = before (behind (kind c) s.awaited s.terms) cs i

-- whether the formula awaited next stands beneath a temporal operator
abbrev pub beneath : List Bool → Bool
beneath [] = false
beneath (b ∷ bs) = b

-- the faults of a byte at its place, one by one
abbrev pub Faulty : ℕ → Place → Option Token → TextFault → Type 0
Faulty bits s k Empty = ⊥
Faulty bits s k TooLong = ⊥
Faulty bits s k UnknownByte = k ≡ None
Faulty bits s k DigitTooLarge = (j : ℕ) × (k ≡ Some (Digit j)) × (bits ≤ j)
Faulty bits s k TextEnds = ⊥
Faulty bits s k ByteAfterEnd = s.awaited ≡ []
Faulty bits s k NotRule =
    (t : Token) × (k ≡ Some t) ×
    (((temporal t ≡ true) × (beneath s.awaited ≡ true))  -- an operator beneath another
    ⊎ ((is_term t (beneath s.awaited) ≡ true) × (3 ≤ s.terms)))  -- a fourth term

-- the faults of a text's places, and of the place just past it
abbrev pub Fault : ℕ → Place → List ℕ → ℕ → TextFault → Type 0
Fault bits s text i e =
    ((i < length text) × Faulty bits (before s text i) (kind (slice_index text i)) e)
    ⊎ ((i ≡ length text) × (e ≡ TextEnds) × (0 < length (before s text i).awaited))

-- e is the lowest fault of the first faulty place
pub record Least (bits : ℕ) (s : Place) (text : List ℕ) (e : TextFault) : Type 0 where
  pub place : ℕ
  pub here : Fault bits s text place e
  pub first : (j : ℕ) (f : TextFault) → j < place → Fault bits s text j f → ⊥
  pub lowest : (f : TextFault) → Fault bits s text place f → number e ≤ number f

-- how a text is refused
pub record Refuses (bits : ℕ) (text : List ℕ) (r : Result (Unit {0}) TextFault) : Type 0 where
  pub empty : length text ≡ 0 → r ≡ Err Empty
  pub long : 64 < length text → r ≡ Err TooLong
  pub least : 1 ≤ length text → length text ≤ 64 → (e : TextFault) → Both (r ≡ Err e) (Least bits front text e)
  pub faultless : 1 ≤ length text → length text ≤ 64 → Both (r ≡ Ok tt) ((i : ℕ) (e : TextFault) → Fault bits front text i e → ⊥)
