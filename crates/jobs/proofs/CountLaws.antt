-- How many states and rights the nested pairs have.
use Rattle.std.proofs.Common.{◌≡◌, ℕ, zero, suc, ◌+◌, ◌*◌, ◌<◌, ◌≤◌, Bool, true, false, cond, ◌&&◌, ltb, leb, [], ◌∷◌, sym, refl, ap, ◌∙◌, add-one, arith}
use Rattle.std.proofs.lemmas.Bool.{lt-ltb}
use Rattle.std.proofs.lemmas.Fn.{fold_over}
use Rattle.std.proofs.lemmas.Iterator.{YieldsList-from_range}
use Rattle.std.proofs.lemmas.List.Sums.{fold-append}
use Rattle.std.proofs.iter.Yields.{nat_range_steps}
use Rattle.std.specs.List.{fold, range_with_len}
use Rattle.std.specs.declared.ops.Range.{Range}
use Rattle.std.specs.Fn.{Called}
use Rattle.std.specs.Iterator.{FoldsItems}
use denote.Param.Members.{Mut}
use Rattle.automata.specs.Machine.{Machine}
use Rattle.automata.specs.Layers.{right_fits}
use Rattle.jobs.specs.Parts.{nested}

-- how many states a pair has, or 257
abbrev pub paired : ℕ → ℕ → ℕ
paired n m = cond (leb (n * m) 256) (n * m) 257

pub nested_rights : (part : ℕ → Machine) (i : ℕ) → (nested part i).k ≤ i
nested_rights part zero = omega arith
nested_rights part (suc i) = go (right_fits (nested part i) (part (i + 2))) (nested_rights part i)
  where
    go : (b : Bool) → (nested part i).k ≤ i → cond b ((nested part i).k + 1) 0 ≤ suc i
    go true h = omega arith
    go false h = omega arith

pub nested_states : (part : ℕ → Machine) (i : ℕ) → i < 4 → (nested part (suc i)).n ≡ paired (nested part i).n (part (i + 2)).n
nested_states part i h =
    let A = nested part i in
    let few : ltb A.k 4 ≡ true = lt-ltb A.k 4 (omega (arith, nested_rights part i)) in
    ap (λ b. cond b (A.n * (part (i + 2)).n) 257) (ap (λ b. leb (A.n * (part (i + 2)).n) 256 && b) few ∙ and_true (leb (A.n * (part (i + 2)).n) 256))
  where
    and_true : (b : Bool) → (b && true) ≡ b
    and_true true = refl
    and_true false = refl

-- the states of so many nested pairs, counted right by right
pub nested_fold : (part : ℕ → Machine) (m j n : ℕ) → n ≡ (nested part j).n → j + m ≤ 4 → fold (λ n i. paired n (part (i + 2)).n) n (range_with_len j m) ≡ (nested part (j + m)).n
nested_fold part zero j n e l = e ∙ ap (λ k. (nested part k).n) (let p : j ≡ j + 0 = omega arith in p)
nested_fold part (suc m) j n e l =
    nested_fold part m (j + 1) (paired n (part (j + 2)).n)
    (ap (λ n. paired n (part (j + 2)).n) e ∙ sym (nested_states part j (omega arith)) ∙ ap (λ k. (nested part k).n) (sym (add-one j)))
    (omega arith)
    ∙ ap (λ k. (nested part k).n) (let p : j + 1 + m ≡ j + suc m = omega arith in p)

-- `fold` over the numbers below n
pub fold_below : {F : Type 0} {g : Mut F (ℕ × (ℕ × Unit {0})) ℕ} {s : Range ℕ} {f : F} (n : ℕ) (h : ℕ → ℕ → ℕ) (a r : ℕ) → s ≡ record { start = 0; end = n } → FoldsItems nat_range_steps g s f a r
    → ((c x b : ℕ) (q : F) → Called g f (c, (x, tt)) b q → (q ≡ f) × (b ≡ h c x)) → r ≡ fold h a (range_with_len 0 n)
fold_below {g = g} {s = s} {f = f} n h a r e ran k =
    fold_over nat_range_steps (λ x. x) g (λ ys c. c ≡ fold h a ys) f
    (λ ys c x b q j call. ((k c x b q call).1 ∙ ap (λ c. h c x) j ∙ sym (fold-append h a ys (x ∷ [])), (k c x b q call).0))
    s (range_with_len 0 n) a r (YieldsList-from_range 0 n n e (omega arith)).runs refl ran
