-- Formulas, their prefix form, and which of them are rules.
use Rattle.std.specs.Prelude.{◌≡◌, ℕ, ◌+◌, ◌≤◌, Bool, true, cond, not, ◌&&◌, List, [], ◌∷◌, ◌++◌, length, nat_lt}
use Rattle.ltlf.specs.Operators.{temporal1, temporal2}
use Rattle.ltlf.specs.declared.formula.Formula.{Formula}
use Rattle.ltlf.specs.declared.formula.Formula.TheVariants.{Truth, Digit, Unary', Binary'}
use Rattle.ltlf.specs.declared.formula.Unary.{Unary}
use Rattle.ltlf.specs.declared.formula.Unary.TheVariants.{Not, Next, Eventually, Always}
use Rattle.ltlf.specs.declared.formula.Binary.{Binary}
use Rattle.ltlf.specs.declared.formula.Binary.TheVariants.{And, Or, Until}

-- a formula, whatever memory holds it
pub data Ltl : Type 0 where
  truth : Bool → Ltl
  digit : ℕ → Ltl
  one : Unary → Ltl → Ltl
  two : Binary → Ltl → Ltl → Ltl

abbrev pub shape : Formula → Ltl
shape (Truth v) = truth v
shape (Digit j) = digit j
shape (Unary' o p f) = one o (shape f)
shape (Binary' o p f q g) = two o (shape f) (shape g)

-- an operator's byte, in ASCII
abbrev pub byte1 : Unary → ℕ
byte1 Not = 33  -- !
byte1 Next = 88  -- X
byte1 Eventually = 70  -- F
byte1 Always = 71  -- G

abbrev pub byte2 : Binary → ℕ
byte2 And = 38  -- &
byte2 Or = 124  -- |
byte2 Until = 85  -- U

-- the prefix form: an operator, and behind it its operands
abbrev pub prefix : Ltl → List ℕ
prefix (truth v) = cond v 116 102 ∷ []  -- t or f
prefix (digit j) = (48 + j) ∷ []  -- from 0 on
prefix (one o p) = byte1 o ∷ prefix p
prefix (two o p q) = byte2 o ∷ (prefix p ++ prefix q)

-- each digit is one of ten, and below the number of bits
abbrev pub digits_below : ℕ → Ltl → Bool
digits_below bits (truth v) = true
digits_below bits (digit j) = nat_lt j 10 && nat_lt j bits
digits_below bits (one o p) = digits_below bits p
digits_below bits (two o p q) = digits_below bits p && digits_below bits q

-- no operator is temporal
abbrev pub plain : Ltl → Bool
plain (truth v) = true
plain (digit j) = true
plain (one o p) = not (temporal1 o) && plain p
plain (two o p q) = not (temporal2 o) && (plain p && plain q)

-- no temporal operator stands beneath another
abbrev pub unnested : Ltl → Bool
unnested (truth v) = true
unnested (digit j) = true
unnested (one o p) = cond (temporal1 o) (plain p) (unnested p)
unnested (two o p q) = cond (temporal2 o) (plain p && plain q) (unnested p && unnested q)

-- the terms from the left: temporal operators, and digits beneath none
abbrev pub terms : Ltl → List Ltl
terms (truth v) = []
terms (digit j) = digit j ∷ []
terms (one o p) = cond (temporal1 o) (one o p ∷ []) (terms p)
terms (two o p q) = cond (temporal2 o) (two o p q ∷ []) (terms p ++ terms q)

-- a rule
pub record IsRule (p : Ltl) : Type 0 where
  pub flat : unnested p ≡ true
  pub few : length (terms p) ≤ 3
