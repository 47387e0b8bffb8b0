-- The codes of a rule's terms stay below their number, so a rule's automaton keeps the laws.
use Rattle.std.specs.Prelude.{◌≡◌, ℕ, ◌+◌, ◌-◌, ◌*◌, ◌/◌, ◌%◌, ◌^◌, ◌<◌, ◌≤◌, Bool, true, false, cond, ◌&&◌, ◌∷◌, [], ◌++◌, length, Some, None, refl}
use Rattle.std.proofs.Common.{zero, suc, eqb, ltb, sym, ap, ◌∙◌, subst, mod-lt, mul_comm, div-lt_iff_lt-mul, pow-suc, pow-add, length-append, arith}
use Rattle.std.proofs.lemmas.Bool.Decides.{nat_tests}
use lib.Arith.{digits_lt}
use Rattle.automata.specs.Steps.{Inside}
use Rattle.ltlf.specs.Operators.{temporal2}
use Rattle.ltlf.specs.Formulas.{Ltl, truth, digit, one, two, terms}
use Rattle.ltlf.specs.Words.{digit_bit}
use Rattle.ltlf.specs.Codes.{shows, while_open, until_code, codes, stepped, count, rule_step}
use Rattle.ltlf.specs.declared.formula.Unary.TheVariants.{Not, Next, Eventually, Always}
use Rattle.ltlf.specs.declared.formula.Binary.{Binary as BinaryOp}
use Rattle.ltlf.specs.declared.formula.Binary.TheVariants.{And, Or, Until}
use Rattle.automata.specs.declared.word.Round.{Round}

pub codes_some : (p : Ltl) → 1 ≤ codes p
codes_some p = powers (length (terms p))
  where
    powers : (n : ℕ) → 1 ≤ 3 ^ n
    powers zero = omega arith
    powers (suc n) = omega (arith, pow-suc 3 n, powers n)

cubes : (n : ℕ) → n ≤ 3 → 3 ^ n ≤ 27
cubes zero h = omega arith
cubes (suc zero) h = omega arith
cubes (suc (suc zero)) h = omega arith
cubes (suc (suc (suc zero))) h = omega arith
cubes (suc (suc (suc (suc n)))) h = absurd (omega arith)

pub codes_few : (p : Ltl) → length (terms p) ≤ 3 → codes p ≤ 27
codes_few p h = cubes (length (terms p)) h

pub terms_two : (o : BinaryOp) (p q : Ltl) → temporal2 o ≡ false → length (terms (two o p q)) ≡ length (terms p) + length (terms q)
terms_two o p q e = ap (λ b. length (cond b (two o p q ∷ []) (terms p ++ terms q))) e ∙ length-append (terms p) (terms q)

pub codes_two : (o : BinaryOp) (p q : Ltl) → temporal2 o ≡ false → codes (two o p q) ≡ codes p * codes q
codes_two o p q e = ap (λ n. 3 ^ n) (terms_two o p q e) ∙ pow-add 3 (length (terms p)) (length (terms q))

-- the codes of the left side and of the right one
pub low : (c m : ℕ) → 1 ≤ m → c % m < m
low c m h = mod-lt c h

pub high : (c m k n : ℕ) → n ≡ m * k → 1 ≤ m → c < n → c / m < k
high c m k n e h l = (div-lt_iff_lt-mul h).1 (subst (λ x. c < x) (e ∙ mul_comm m k) l)

pub together : (u v m k n : ℕ) → n ≡ m * k → u < m → v < k → u + m * v < n
together u v m k n e h l =
    let d : v * m + u < k * m = digits_lt l h in
    rw (e, mul_comm m k, mul_comm m v) (omega (arith, d))

three : (c : ℕ) (b : Bool) (u v : ℕ) → c < 3 → u < 3 → v < 3 → while_open c (cond b u v) < 3
three c b u v h k l = elim (eqb c 0) as (λ e. cond e (cond b u v) c < 3) [ true ↦ elim b as (λ b. cond b u v < 3) [ true ↦ k | false ↦ l ] | false ↦ h ]

pub stepped_two : (a : ℕ) (first : Bool) (r : Round) (o : BinaryOp) (p q : Ltl) (c : ℕ) → temporal2 o ≡ false →
    stepped a first r (two o p q) c ≡ stepped a first r p (c % codes p) + codes p * stepped a first r q (c / codes p)
stepped_two a first r o p q c e =
    ap (λ b. cond b (until_code (shows a r p) (shows a r q) c) (stepped a first r p (c % codes p) + codes p * stepped a first r q (c / codes p))) e

sides_lt : (a : ℕ) (first : Bool) (r : Round) (o : BinaryOp) (p q : Ltl) (c : ℕ) → temporal2 o ≡ false →
    ((c : ℕ) → c < codes p → stepped a first r p c < codes p) → ((c : ℕ) → c < codes q → stepped a first r q c < codes q) →
    c < codes (two o p q) → stepped a first r (two o p q) c < codes (two o p q)
sides_lt a first r o p q c e left right h =
    subst (λ n. n < codes (two o p q)) (sym (stepped_two a first r o p q c e))
    (together _ _ (codes p) (codes q) _ (codes_two o p q e)
    (left (c % codes p) (low c (codes p) (codes_some p)))
    (right (c / codes p) (high c (codes p) (codes q) _ (codes_two o p q e) (codes_some p) h)))

pub stepped_lt : (a : ℕ) (first : Bool) (r : Round) (p : Ltl) (c : ℕ) → c < codes p → stepped a first r p c < codes p
stepped_lt a first r (truth v) c h = omega arith
stepped_lt a first r (digit j) c h =
    elim first as (λ f. cond f (cond (digit_bit a r j) 1 2) c < 3)
    [ true ↦ elim (digit_bit a r j) as (λ b. cond b 1 2 < 3) [ true ↦ omega arith | false ↦ omega arith ] | false ↦ h ]
stepped_lt a first r (one Not p) c h = stepped_lt a first r p c h
stepped_lt a first r (one Next p) c h =
    elim first as (λ f. cond f 0 (while_open c (cond (shows a r p) 1 2)) < 3)
    [ true ↦ omega arith | false ↦ three c (shows a r p) 1 2 h (omega arith) (omega arith) ]
stepped_lt a first r (one Eventually p) c h = three c (shows a r p) 1 0 h (omega arith) (omega arith)
stepped_lt a first r (one Always p) c h = three c (shows a r p) 0 2 h (omega arith) (omega arith)
stepped_lt a first r (two And p q) c h = sides_lt a first r And p q c refl (λ c h. stepped_lt a first r p c h) (λ c h. stepped_lt a first r q c h) h
stepped_lt a first r (two Or p q) c h = sides_lt a first r Or p q c refl (λ c h. stepped_lt a first r p c h) (λ c h. stepped_lt a first r q c h) h
stepped_lt a first r (two Until p q) c h =
    three c (shows a r q) 1 (cond (shows a r p) 0 2) h (omega arith)
    (elim (shows a r p) as (λ b. cond b 0 2 < 3) [ true ↦ omega arith | false ↦ omega arith ])

module _ (a b : ℕ) (p : Ltl) where
  next_lt : (q x y : ℕ) → q < count p → 1 + stepped a (eqb q 0) (record { reading = x; command = y }) p (q - 1) < count p
  next_lt q x y h =
      let s : 1 ≤ codes p = codes_some p in
      let m : stepped a (eqb q 0) (record { reading = x; command = y }) p (q - 1) < codes p = stepped_lt a (eqb q 0) (record { reading = x; command = y }) p (q - 1) (omega arith) in
      omega arith

  pub step_inside : (q x y : ℕ) → Inside (count p) (rule_step a b p q x y)
  step_inside q x y = go (ltb q (count p)) refl (ltb x (2 ^ a) && ltb y (2 ^ b))
    where
      go : (t : Bool) → ltb q (count p) ≡ t → (u : Bool) → Inside (count p) (cond (t && u) (Some (1 + stepped a (eqb q 0) (record { reading = x; command = y }) p (q - 1))) None)
      go true e true = next_lt q x y (grind (arith, nat_tests))
      go true e false = tt
      go false e u = tt
