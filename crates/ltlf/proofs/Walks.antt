-- The steps of a rule's automaton over words.
use Rattle.std.proofs.Common.{◌≡◌, ℕ, suc, ◌+◌, ◌-◌, ◌*◌, ◌^◌, ◌<◌, Bool, true, false, cond, not, ◌&&◌, eqb, ltb, List, [], ◌∷◌, ◌++◌, map, length, Some, None, Decides, Option, sym, refl, ap, ◌∙◌, mul_assoc, mul_comm, pow-suc, arith}
use Rattle.std.proofs.lemmas.Bool.{and_from, and_parts, false≢true}
use Rattle.std.proofs.lemmas.Bool.Decides.{nat_tests, Decides-at}
use Rattle.automata.specs.Steps.{onward}
use Rattle.ltlf.specs.Formulas.{Ltl, truth, digit, one, two, unnested, terms}
use Rattle.ltlf.specs.Words.{Holds, Satisfies, in_range}
use Rattle.ltlf.specs.Codes.{codes, stepped, marks, count, rule_step, rule_marked, later, code_after, number_of}
use Rattle.automata.specs.Walks.{led}
use Rattle.ltlf.specs.declared.formula.Unary.TheVariants.{Not, Next, Eventually, Always}
use Rattle.ltlf.specs.declared.formula.Binary.TheVariants.{And, Or, Until}
use Rattle.automata.specs.declared.word.Round.{Round}
use Rattle.ltlf.specs.CodeLaws.{codes_some, stepped_lt}
use Rattle.ltlf.proofs.Marking.{later_lt, two_codes, not_later, after}

module _ (a b : ℕ) (p : Ltl) where
  abbrev walk : ℕ → List Round → Option ℕ
  walk = led (rule_step a b p)

  taken : (q : ℕ) (r : Round) → q < count p → ltb r.reading (2 ^ a) ≡ true → ltb r.command (2 ^ b) ≡ true →
      rule_step a b p q r.reading r.command ≡ Some (1 + stepped a (eqb q 0) r p (q - 1))
  taken q r h x y =
      let t : ltb q (count p) ≡ true = grind (arith, nat_tests) in
      ap (λ t. cond t (Some (1 + stepped a (eqb q 0) r p (q - 1))) None) (and_from (ltb q (count p)) _ t (and_from (ltb r.reading (2 ^ a)) (ltb r.command (2 ^ b)) x y))

  refused : (q : ℕ) (r : Round) → (ltb r.reading (2 ^ a) && ltb r.command (2 ^ b)) ≡ false → rule_step a b p q r.reading r.command ≡ None
  refused q r h =
      ap (λ t. cond (ltb q (count p) && t) (Some (1 + stepped a (eqb q 0) r p (q - 1))) None) h
      ∙ elim (ltb q (count p)) as (λ t. cond (t && false) (Some (1 + stepped a (eqb q 0) r p (q - 1))) None ≡ None) [ true ↦ refl | false ↦ refl ]

  walk_later : (c : ℕ) (w : List Round) → c < codes p → in_range a b w ≡ true → walk (1 + c) w ≡ Some (1 + later a p c w)
  walk_later c [] h i = refl
  walk_later c (r ∷ w) h i =
      let x = (and_parts (ltb r.reading (2 ^ a)) (ltb r.command (2 ^ b) && in_range a b w) i).0 in
      let yz = (and_parts (ltb r.reading (2 ^ a)) (ltb r.command (2 ^ b) && in_range a b w) i).1 in
      let y = (and_parts (ltb r.command (2 ^ b)) (in_range a b w) yz).0 in
      let z = (and_parts (ltb r.command (2 ^ b)) (in_range a b w) yz).1 in
      let e : eqb (1 + c) 0 ≡ false = grind (arith, nat_tests) in
      let f : (1 + c) - 1 ≡ c = omega arith in
      ap (λ o. onward o None (λ t. walk t w))
      (taken (1 + c) r (omega arith) x y
      ∙ ap (λ t. Some (1 + stepped a t r p ((1 + c) - 1))) e
      ∙ ap (λ d. Some (1 + stepped a false r p d)) f)
      ∙ walk_later (stepped a false r p c) w (stepped_lt a false r p c h) z

  walk_first : (r : Round) (w : List Round) → in_range a b (r ∷ w) ≡ true → walk 0 (r ∷ w) ≡ Some (1 + code_after a r w p)
  walk_first r w i =
      let x = (and_parts (ltb r.reading (2 ^ a)) (ltb r.command (2 ^ b) && in_range a b w) i).0 in
      let yz = (and_parts (ltb r.reading (2 ^ a)) (ltb r.command (2 ^ b) && in_range a b w) i).1 in
      let y = (and_parts (ltb r.command (2 ^ b)) (in_range a b w) yz).0 in
      let z = (and_parts (ltb r.command (2 ^ b)) (in_range a b w) yz).1 in
      ap (λ o. onward o None (λ t. walk t w)) (taken 0 r (omega arith) x y)
      ∙ walk_later (stepped a true r p 0) w (stepped_lt a true r p 0 (codes_some p)) z

  -- a word out of range leads nowhere
  pub walk_none : (q : ℕ) (w : List Round) → in_range a b w ≡ false → walk q w ≡ None
  walk_none q [] i = absurd (false≢true (sym i))
  walk_none q (r ∷ w) i = go (ltb r.reading (2 ^ a)) (ltb r.command (2 ^ b)) refl refl i (λ t. walk_none t w)
    where
      onwards : (o : Option ℕ) → ((t : ℕ) → walk t w ≡ None) → onward o None (λ t. walk t w) ≡ None
      onwards None h = refl
      onwards (Some t) h = h t

      go : (x y : Bool) → ltb r.reading (2 ^ a) ≡ x → ltb r.command (2 ^ b) ≡ y → (x && (y && in_range a b w)) ≡ false →
          ((t : ℕ) → in_range a b w ≡ false → walk t w ≡ None) → walk q (r ∷ w) ≡ None
      go true true ex ey i rest = onwards (rule_step a b p q r.reading r.command) (λ t. rest t i)
      go true false ex ey i rest = ap (λ o. onward o None (λ t. walk t w)) (refused q r (ap (λ x. x && ltb r.command (2 ^ b)) ex ∙ ey))
      go false y ex ey i rest = ap (λ o. onward o None (λ t. walk t w)) (refused q r (ap (λ x. x && ltb r.command (2 ^ b)) ex))

  marked_at : (c : ℕ) → c < codes p → rule_marked p (1 + c) ≡ marks p c
  marked_at c h =
      let e : eqb (1 + c) 0 ≡ false = grind (arith, nat_tests) in
      let f : ltb (1 + c) (count p) ≡ true = grind (arith, nat_tests) in
      let g : (1 + c) - 1 ≡ c = omega arith in
      ap (λ t. not t && (ltb (1 + c) (count p) && marks p ((1 + c) - 1))) e
      ∙ ap (λ t. t && marks p ((1 + c) - 1)) f
      ∙ ap (marks p) g

  pub walk_judges : unnested p ≡ true → (w : List Round) → in_range a b w ≡ true → (q : ℕ) × (walk 0 w ≡ Some q) × Decides (rule_marked p q) (Satisfies a w p)
  walk_judges u [] i = (0, refl, (λ e. absurd (false≢true e), λ x. absurd (omega (arith, x.0))))
  walk_judges u (r ∷ w) i =
      let c : ℕ = code_after a r w p in
      let h : c < codes p = later_lt a p _ w (stepped_lt a true r p 0 (codes_some p)) in
      let d : Decides (rule_marked p (1 + c)) (Holds a (r ∷ w) 0 p) = Decides-at (rule_marked p (1 + c)) (marks p c) (marked_at c h) (after a p u r w) in
      (1 + c, walk_first r w i, (λ e. (omega arith, d.0 e), λ x. d.1 x.1))

-- ---- the state's number by the terms' own codes

number_append : (xs ys : List ℕ) → number_of (xs ++ ys) ≡ number_of xs + 3 ^ length xs * number_of ys
number_append [] ys = omega arith
number_append (x ∷ xs) ys =
    let h = number_append xs ys in
    let m : 3 ^ suc (length xs) * number_of ys ≡ 3 * (3 ^ length xs * number_of ys) = ap (λ n. n * number_of ys) (pow-suc 3 (length xs) ∙ mul_comm (3 ^ length xs) 3) ∙ mul_assoc 3 (3 ^ length xs) (number_of ys) in
    omega (arith, h, m)

length_map : (f : Ltl → ℕ) (ts : List Ltl) → length (map f ts) ≡ length ts
length_map f [] = refl
length_map f (t ∷ ts) = ap suc (length_map f ts)

map_append : (f : Ltl → ℕ) (xs ys : List Ltl) → map f (xs ++ ys) ≡ map f xs ++ map f ys
map_append f [] ys = refl
map_append f (x ∷ xs) ys = ap (λ l. f x ∷ l) (map_append f xs ys)

module _ (a : ℕ) (r : Round) (w : List Round) where
  abbrev own : Ltl → ℕ
  own = code_after a r w

  alone : (c : ℕ) → c ≡ c + 3 * 0
  alone c = omega arith

  truth_later : (v : Bool) (w : List Round) → later a (truth v) 0 w ≡ 0
  truth_later v [] = refl
  truth_later v (s ∷ w) = truth_later v w

  sides_number : (p q : Ltl) → own p ≡ number_of (map own (terms p)) → own q ≡ number_of (map own (terms q)) →
      own p + codes p * own q ≡ number_of (map own (terms p ++ terms q))
  sides_number p q h k =
      ap (λ x. x + codes p * own q) h
      ∙ ap (λ x. number_of (map own (terms p)) + codes p * x) k
      ∙ ap (λ n. number_of (map own (terms p)) + 3 ^ n * number_of (map own (terms q))) (sym (length_map own (terms p)))
      ∙ sym (number_append (map own (terms p)) (map own (terms q)))
      ∙ ap number_of (sym (map_append own (terms p) (terms q)))

  numbers : (p : Ltl) → own p ≡ number_of (map own (terms p))
  numbers (truth v) = truth_later v w
  numbers (digit j) = alone (own (digit j))
  numbers (one Not p) = not_later a p _ w ∙ numbers p
  numbers (one Next p) = alone (own (one Next p))
  numbers (one Eventually p) = alone (own (one Eventually p))
  numbers (one Always p) = alone (own (one Always p))
  numbers (two And p q) = two_codes a And refl p q r w ∙ sides_number p q (numbers p) (numbers q)
  numbers (two Or p q) = two_codes a Or refl p q r w ∙ sides_number p q (numbers p) (numbers q)
  numbers (two Until p q) = alone (own (two Until p q))

pub walk_numbers : (a b : ℕ) (p : Ltl) (r : Round) (w : List Round) → in_range a b (r ∷ w) ≡ true →
    led (rule_step a b p) 0 (r ∷ w) ≡ Some (1 + number_of (map (code_after a r w) (terms p)))
walk_numbers a b p r w i = walk_first a b p r w i ∙ ap (λ c. Some (1 + c)) (numbers a r w p)
