-- The first byte of a prefix form tells the formula's head.
use Rattle.std.proofs.Common.{◌≡◌, ℕ, ◌+◌, ◌<◌, Bool, true, false, cond, ◌&&◌, ltb, List, ◌∷◌, ◌++◌, length, Some, None, refl, ap, ◌∙◌, append_assoc, arith}
use Rattle.std.proofs.lemmas.Bool.{and_parts}
use Rattle.std.proofs.lemmas.Bool.Decides.{nat_tests}
use Rattle.ltlf.specs.Formulas.{Ltl, truth, digit, one, two, byte1, byte2, prefix, digits_below}
use Rattle.ltlf.specs.Tokens.{kind}
use Rattle.ltlf.specs.declared.formula.Unary.{Unary as UnaryOp}
use Rattle.ltlf.specs.declared.formula.Unary.TheVariants.{Not, Next, Eventually, Always}
use Rattle.ltlf.specs.declared.formula.Binary.{Binary as BinaryOp}
use Rattle.ltlf.specs.declared.formula.Binary.TheVariants.{And, Or, Until}
use Rattle.ltlf.specs.declared.token.Token.{Token}
use Rattle.ltlf.specs.declared.token.Token.TheVariants.{Truth, Digit, Unary, Binary}

pub kind_one : (o : UnaryOp) → kind (byte1 o) ≡ Some (Unary o)
kind_one Not = refl
kind_one Next = refl
kind_one Eventually = refl
kind_one Always = refl

pub kind_two : (o : BinaryOp) → kind (byte2 o) ≡ Some (Binary o)
kind_two And = refl
kind_two Or = refl
kind_two Until = refl

pub kind_truth : (v : Bool) → kind (cond v 116 102) ≡ Some (Truth v)
kind_truth true = refl
kind_truth false = refl

pub kind_digit : (j bits : ℕ) → (ltb j 10 && ltb j bits) ≡ true → kind (48 + j) ≡ Some (Digit j)
kind_digit j bits h = grind (arith, nat_tests)

-- the head of a formula
abbrev head : Ltl → Token
head (truth v) = Truth v
head (digit j) = Digit j
head (one o p) = Unary o
head (two o p q) = Binary o

first : (bits : ℕ) (p : Ltl) (c : ℕ) (cs after : List ℕ) → c ∷ cs ≡ prefix p ++ after → digits_below bits p ≡ true → kind c ≡ Some (head p)
first bits (truth v) c cs after e d = let f : c ≡ cond v 116 102 = cc in ap kind f ∙ kind_truth v
first bits (digit j) c cs after e d = let f : c ≡ 48 + j = cc in ap kind f ∙ kind_digit j bits d
first bits (one o p) c cs after e d = let f : c ≡ byte1 o = cc in ap kind f ∙ kind_one o
first bits (two o p q) c cs after e d = let f : c ≡ byte2 o = cc in ap kind f ∙ kind_two o

pub no_head : (bits : ℕ) (p : Ltl) (c : ℕ) (cs after : List ℕ) → c ∷ cs ≡ prefix p ++ after → digits_below bits p ≡ true → kind c ≡ None → ⊥
no_head bits p c cs after e d n =
    let f : kind c ≡ Some (head p) = first bits p c cs after e d in
    let z : ◌≡◌ {A = ℕ} 0 1 = cc in omega arith

pub some_head : (p : Ltl) (bs after : List ℕ) → bs ≡ prefix p ++ after → length bs < 1 → ⊥
some_head (truth v) bs after e l = omega (arith, ap length e)
some_head (digit j) bs after e l = omega (arith, ap length e)
some_head (one o p) bs after e l = omega (arith, ap length e)
some_head (two o p q) bs after e l = omega (arith, ap length e)

module _ (bits : ℕ) (c : ℕ) (cs after : List ℕ) where
  same_head : (p : Ltl) (t : Token) → c ∷ cs ≡ prefix p ++ after → digits_below bits p ≡ true → kind c ≡ Some t → head p ≡ t
  same_head p t e d k = let f : kind c ≡ Some (head p) = first bits p c cs after e d in cc

  pub truth_head : (p : Ltl) (v : Bool) → c ∷ cs ≡ prefix p ++ after → digits_below bits p ≡ true → kind c ≡ Some (Truth v) → (truth v ≡ p) × (cs ≡ after)
  truth_head (truth u) v e d k = let h : Truth u ≡ Truth v = same_head (truth u) (Truth v) e d k in (cc, cc)
  truth_head (digit j) v e d k = absurd (let h : Digit j ≡ Truth v = same_head (digit j) (Truth v) e d k in let z : ◌≡◌ {A = ℕ} 0 1 = cc in omega arith)
  truth_head (one o p) v e d k = absurd (let h : Unary o ≡ Truth v = same_head (one o p) (Truth v) e d k in let z : ◌≡◌ {A = ℕ} 0 1 = cc in omega arith)
  truth_head (two o p q) v e d k = absurd (let h : Binary o ≡ Truth v = same_head (two o p q) (Truth v) e d k in let z : ◌≡◌ {A = ℕ} 0 1 = cc in omega arith)

  pub digit_head : (p : Ltl) (j : ℕ) → c ∷ cs ≡ prefix p ++ after → digits_below bits p ≡ true → kind c ≡ Some (Digit j) → (digit j ≡ p) × (cs ≡ after)
  digit_head (truth u) j e d k = absurd (let h : Truth u ≡ Digit j = same_head (truth u) (Digit j) e d k in let z : ◌≡◌ {A = ℕ} 0 1 = cc in omega arith)
  digit_head (digit i) j e d k = let h : Digit i ≡ Digit j = same_head (digit i) (Digit j) e d k in (cc, cc)
  digit_head (one o p) j e d k = absurd (let h : Unary o ≡ Digit j = same_head (one o p) (Digit j) e d k in let z : ◌≡◌ {A = ℕ} 0 1 = cc in omega arith)
  digit_head (two o p q) j e d k = absurd (let h : Binary o ≡ Digit j = same_head (two o p q) (Digit j) e d k in let z : ◌≡◌ {A = ℕ} 0 1 = cc in omega arith)

  pub one_head : (p : Ltl) (o : UnaryOp) → c ∷ cs ≡ prefix p ++ after → digits_below bits p ≡ true → kind c ≡ Some (Unary o) →
      (q : Ltl) × (one o q ≡ p) × (cs ≡ prefix q ++ after) × (digits_below bits q ≡ true)
  one_head (truth u) o e d k = absurd (let h : Truth u ≡ Unary o = same_head (truth u) (Unary o) e d k in let z : ◌≡◌ {A = ℕ} 0 1 = cc in omega arith)
  one_head (digit i) o e d k = absurd (let h : Digit i ≡ Unary o = same_head (digit i) (Unary o) e d k in let z : ◌≡◌ {A = ℕ} 0 1 = cc in omega arith)
  one_head (one u q) o e d k = let h : Unary u ≡ Unary o = same_head (one u q) (Unary o) e d k in (q, cc, cc, d)
  one_head (two u p q) o e d k = absurd (let h : Binary u ≡ Unary o = same_head (two u p q) (Unary o) e d k in let z : ◌≡◌ {A = ℕ} 0 1 = cc in omega arith)

  pub two_head : (p : Ltl) (o : BinaryOp) → c ∷ cs ≡ prefix p ++ after → digits_below bits p ≡ true → kind c ≡ Some (Binary o) →
      (q : Ltl) × (r : Ltl) × (two o q r ≡ p) × (cs ≡ prefix q ++ (prefix r ++ after)) × (digits_below bits q ≡ true) × (digits_below bits r ≡ true)
  two_head (truth u) o e d k = absurd (let h : Truth u ≡ Binary o = same_head (truth u) (Binary o) e d k in let z : ◌≡◌ {A = ℕ} 0 1 = cc in omega arith)
  two_head (digit i) o e d k = absurd (let h : Digit i ≡ Binary o = same_head (digit i) (Binary o) e d k in let z : ◌≡◌ {A = ℕ} 0 1 = cc in omega arith)
  two_head (one u q) o e d k = absurd (let h : Unary u ≡ Binary o = same_head (one u q) (Binary o) e d k in let z : ◌≡◌ {A = ℕ} 0 1 = cc in omega arith)
  two_head (two u q r) o e d k =
      let h : Binary u ≡ Binary o = same_head (two u q r) (Binary o) e d k in
      let f : cs ≡ (prefix q ++ prefix r) ++ after = cc in
      (q, r, cc, f ∙ append_assoc (prefix q) (prefix r) after, (and_parts _ _ d).0, (and_parts _ _ d).1)
