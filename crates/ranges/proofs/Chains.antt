-- What `all`, `any` and `find` over the numbers below a bound answer.
use Rattle.std.proofs.Common.{◌≡◌, ℕ, zero, suc, ◌+◌, ◌<◌, ◌≤◌, Bool, true, false, ◌&&◌, ◌||◌, List, sym, refl, ap, ◌∙◌, arith, None, Some}
use Rattle.std.specs.List.{list_all, list_any, range_with_len, FoldsTo}
use Rattle.std.specs.declared.ops.Range.{Range}
use Rattle.std.specs.declared.option.Option.{Option}
use Rattle.std.specs.Bool.{⊤}
use Rattle.std.specs.Option.{MatchOption, unwrap_or}
use Rattle.std.specs.Iterator.{YieldsThen}
use Rattle.std.specs.Fn.{Called, CalledAt}
use Rattle.std.proofs.iter.Yields.{nat_range_steps}
use denote.Ref.{Bor}
use denote.Param.Members.{Mut}
use Rattle.std.proofs.lemmas.Iterator.{YieldsList-from_range, first_from_Range}
use Rattle.std.proofs.lemmas.Iterator.Search.{all_from_yields_List, any_from_yields_List}
use Rattle.ranges.specs.Ranges.{all, any, least}
use Rattle.ranges.proofs.RangeLaws.{T_true, false_T, least_is, least_none}

and_swap : (a b c : Bool) → (a && (b && c)) ≡ (b && (a && c))
and_swap true b c = refl
and_swap false true c = refl
and_swap false false c = refl

or_swap : (a b c : Bool) → (a || (b || c)) ≡ (b || (a || c))
or_swap true true c = refl
or_swap true false c = refl
or_swap false b c = refl

all_front : (n : ℕ) (f : ℕ → Bool) → all (suc n) f ≡ (f 0 && all n (λ x. f (suc x)))
all_front zero f = refl
all_front (suc n) f = ap (λ b. f (suc n) && b) (all_front n f) ∙ and_swap (f (suc n)) (f 0) (all n (λ x. f (suc x)))

any_front : (n : ℕ) (f : ℕ → Bool) → any (suc n) f ≡ (f 0 || any n (λ x. f (suc x)))
any_front zero f = refl
any_front (suc n) f = ap (λ b. f (suc n) || b) (any_front n f) ∙ or_swap (f (suc n)) (f 0) (any n (λ x. f (suc x)))

list_all_below : (n a : ℕ) (f : ℕ → Bool) → list_all f (range_with_len a n) ≡ all n (λ x. f (a + x))
list_all_below zero a f = refl
list_all_below (suc n) a f =
    let start : a ≡ a + 0 = omega arith in
    let moved : (x : ℕ) → a + 1 + x ≡ a + suc x = λ x. omega arith in
    ap (λ b. f a && b) (list_all_below n (a + 1) f ∙ (λ i. all n (λ x. f (moved x i)))) ∙ ap (λ k. f k && all n (λ x. f (a + suc x))) start ∙ sym (all_front n (λ x. f (a + x)))

list_any_below : (n a : ℕ) (f : ℕ → Bool) → list_any f (range_with_len a n) ≡ any n (λ x. f (a + x))
list_any_below zero a f = refl
list_any_below (suc n) a f =
    let start : a ≡ a + 0 = omega arith in
    let moved : (x : ℕ) → a + 1 + x ≡ a + suc x = λ x. omega arith in
    ap (λ b. f a || b) (list_any_below n (a + 1) f ∙ (λ i. any n (λ x. f (moved x i)))) ∙ ap (λ k. f k || any n (λ x. f (a + suc x))) start ∙ sym (any_front n (λ x. f (a + x)))

module _ {F : Type 0} {g : Mut F (ℕ × Unit {0}) Bool} {s u : Range ℕ} {f : F} {r : Bool} where
  -- `all` over the numbers below n
  pub all_below : (n : ℕ) (test : ℕ → Bool) → s ≡ record { start = 0; end = n }
      → (xs : List ℕ) × (o : Option ℕ) × (j : F) × YieldsThen nat_range_steps s xs o u × FoldsTo (λ p x q. Called g p (x, tt) true q) f xs j × MatchOption o (r ≡ true) (λ x. (r ≡ false) × ((h : F) × Called g j (x, tt) false h))
      → ((x : ℕ) (b : Bool) (q : F) → Called g f (x, tt) b q → (q ≡ f) × (b ≡ test x)) → r ≡ all n test
  all_below n test e d k = all_from_yields_List test u f r d (YieldsList-from_range 0 n n e (omega arith)) k ∙ list_all_below n 0 test ∙ (λ i. all n (λ x. test ((let p : 0 + x ≡ x = omega arith in p) i)))

  -- `any` over the numbers below n
  pub any_below : (n : ℕ) (test : ℕ → Bool) → s ≡ record { start = 0; end = n }
      → (xs : List ℕ) × (o : Option ℕ) × (j : F) × YieldsThen nat_range_steps s xs o u × FoldsTo (λ p x q. Called g p (x, tt) false q) f xs j × MatchOption o (r ≡ false) (λ x. (r ≡ true) × ((h : F) × Called g j (x, tt) true h))
      → ((x : ℕ) (b : Bool) (q : F) → Called g f (x, tt) b q → (q ≡ f) × (b ≡ test x)) → r ≡ any n test
  any_below n test e d k = any_from_yields_List test u f r d (YieldsList-from_range 0 n n e (omega arith)) k ∙ list_any_below n 0 test ∙ (λ i. any n (λ x. test ((let p : 0 + x ≡ x = omega arith in p) i)))

-- `find` over the numbers below n, and n where none passes
pub least_found : {F : Type 0} {g : Mut F (Bor ℕ × Unit {0}) Bool} {s : Range ℕ} {f : F} (n : ℕ) (test : ℕ → Bool) (u : Range ℕ) (r : Option ℕ) → s ≡ record { start = 0; end = n }
    → (xs : List ℕ) × (j : F) × YieldsThen nat_range_steps s xs r u × FoldsTo (λ p x q. CalledAt g p x false q) f xs j × MatchOption r ⊤ (λ x. (h : F) × CalledAt g j x true h)
    → ((x : ℕ) (b : Bool) (q : F) → CalledAt g f x b q → (q ≡ f) × (b ≡ test x)) → unwrap_or r n ≡ least n test
least_found {s = s} {f = f} n test u r e d k =
    go r (first_from_Range s u f r (λ x. true ≡ test x) (λ x. false ≡ test x) d (λ x q c. (k x true q c).1) (λ x q c. k x false q c))
  where
    from_start : s.start ≡ 0
    from_start = ap (λ (w : Range ℕ). w.start) e

    to_end : s.end ≡ n
    to_end = ap (λ (w : Range ℕ). w.end) e

    go : (o : Option ℕ) → MatchOption o ((i : ℕ) → s.start ≤ i → i < s.end → false ≡ test i) (λ i. (s.start ≤ i) × (i < s.end) × (true ≡ test i) × ((j : ℕ) → s.start ≤ j → j < i → false ≡ test j)) → unwrap_or o n ≡ least n test
    go None h = sym (least_none n test (λ i l. false_T (test i) (sym (h i (omega (arith, from_start)) (omega (arith, to_end, l))))))
    go (Some i) h = sym (least_is n test i (omega (arith, to_end, h.1)) (T_true (test i) (sym h.2)) (λ j l. false_T (test j) (sym (h.3 j (omega (arith, from_start)) l))))
