-- Where the sections begin, counted section by section.
use Rattle.std.proofs.Common.{◌≡◌, ℕ, zero, suc, ◌+◌, ◌*◌, ◌≤◌, List, [], ◌∷◌, length, refl, ap, ◌∙◌, sym, add-one, arith, length-append}
use Rattle.std.proofs.lemmas.Fn.{fold_over}
use Rattle.std.proofs.lemmas.Iterator.{YieldsList-from_range}
use Rattle.std.proofs.lemmas.Iterator.Adapters.{serves_from_total}
use Rattle.std.proofs.lemmas.List.FromFn.{length-range_with_len}
use Rattle.std.proofs.lemmas.List.Sums.{sum_by-cons}
use Rattle.std.proofs.iter.Yields.{nat_range_steps}
use Rattle.std.specs.List.{fold, range_with_len, sum_by}
use Rattle.std.specs.declared.ops.Range.{Range}
use Rattle.std.specs.Fn.{Called, Takes}
use Rattle.std.specs.Iterator.{FoldsItems, CallableInFold}
use denote.Param.Members.{Mut}
use Rattle.jobs.specs.Sections.{end}
use Rattle.jobs.specs.Parts.{offset}

pub offset_fold : (a b : ℕ) (bs : List ℕ) (m j at : ℕ) → at ≡ offset a b bs j → fold (λ at (_ : ℕ). end a b bs at) at (range_with_len j m) ≡ offset a b bs (j + m)
offset_fold a b bs zero j at e = e ∙ ap (offset a b bs) (let p : j ≡ j + 0 = omega arith in p)
offset_fold a b bs (suc m) j at e =
    offset_fold a b bs m (j + 1) (end a b bs at) (ap (end a b bs) e ∙ ap (offset a b bs) (sym (add-one j)))
    ∙ ap (offset a b bs) (let p : j + 1 + m ≡ j + suc m = omega arith in p)

spread : (m j : ℕ) → sum_by (λ (_ : ℕ). 16579) (range_with_len j m) ≡ 16579 * m
spread zero j = refl
spread (suc m) j = sum_by-cons (λ (_ : ℕ). 16579) j (range_with_len (j + 1) m) ∙ omega (arith, spread m (j + 1))

module _ {F : Type 0} {g : Mut F (ℕ × (ℕ × Unit {0})) ℕ} {s : Range ℕ} {f : F} (n : ℕ) (few : n ≤ 5) (e : s ≡ record { start = 0; end = n })
    (raises : (c x b : ℕ) (q : F) → Called g f (c, (x, tt)) b q → (q ≡ f) × (b ≤ c + 16579)) where
  pub near_fold : (r : ℕ) → FoldsItems nat_range_steps g s f 8 r → r ≤ 100000
  near_fold r ran =
      let all : r ≤ 8 + 16579 * length (range_with_len 0 n) =
      fold_over nat_range_steps (λ x. x) g (λ ys c. c ≤ 8 + 16579 * length ys) f
      (λ ys c x b q j call. (omega (arith, (raises c x b q call).1, length-append ys (x ∷ [])), (raises c x b q call).0))
      s (range_with_len 0 n) 8 r (YieldsList-from_range 0 n n e (omega arith)).runs (omega arith) ran in
      omega (arith, length-range_with_len 0 n)

  pub nearby : ((c x : ℕ) → c ≤ 100000 → Takes g f (c, (x, tt))) → CallableInFold nat_range_steps g s f 8
  nearby takes =
      serves_from_total (YieldsList-from_range 0 n n e (omega arith)) (λ (_ : ℕ). 16579) (λ c x q r. raises c x q.1 q.0 r)
      (λ c x l. takes c x (omega (arith, spread n 0)))
