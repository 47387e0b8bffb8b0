-- The joining rules never lose a state when their set grows.
use Rattle.std.specs.Prelude.{ℕ, ◌^◌, Bool, true, false, not, ◌&&◌, ◌||◌, T, ◌⊎◌, Some, None, Option}
use Rattle.std.proofs.Common.{inl, inr}
use Rattle.ranges.specs.Ranges.{any}
use Rattle.automata.specs.Steps.{Inside, onward}
use Rattle.automata.specs.Arena.{Arena}
use Rattle.ranges.proofs.RangeLaws.{and_l, and_r, and_mk, or_l, or_r, or_case, all_at, all_mk, any_at, any_mk}
use Rattle.games.specs.Search.{Within, Monotone, StepsInside}
use Rattle.games.specs.Regions.{breaks, forces_by}

-- a step that lands in a set lands in a larger one
lands_mono : (n : ℕ) (o : Option ℕ) (none : Bool) (S S' : ℕ → Bool) → Inside n o → Within n S S' → T (onward o none S) → T (onward o none S')
lands_mono n None none S S' i w t = t
lands_mono n (Some q) none S S' i w t = w q i t

module _ (A : Arena) (inside : StepsInside A) where
  any_mono : (none : Bool) (S S' : ℕ → Bool) → Within A.n S S' → (q x : ℕ) →
      T (any (2 ^ A.b) (λ y. onward (A.step q x y) none S)) → T (any (2 ^ A.b) (λ y. onward (A.step q x y) none S'))
  any_mono none S S' w q x t =
      let u = any_at (2 ^ A.b) _ t in
      any_mk (2 ^ A.b) _ u.0 u.1 (lands_mono A.n (A.step q x u.0) none S S' (inside q x u.0) w u.2)

  pub breaks_mono : Monotone A.n (breaks A)
  breaks_mono S S' w q l t = all_mk (2 ^ A.a) _ (λ x h. any_mono true S S' w q x (all_at (2 ^ A.a) _ t x h))

  pub column_mono : (R : ℕ → Bool) (W : ℕ → ℕ → Bool) → Monotone A.n (λ S q. R q && forces_by A W S q)
  column_mono R W S S' w q l t =
      and_mk (R q) _ (and_l (R q) _ t) (all_mk (2 ^ A.a) _ (λ x h. go x (or_case (not (W q x)) _ (all_at (2 ^ A.a) _ (and_r (R q) _ t) x h))))
    where
      go : (x : ℕ) → T (not (W q x)) ⊎ T (any (2 ^ A.b) (λ y. onward (A.step q x y) false S)) →
          T (not (W q x) || any (2 ^ A.b) (λ y. onward (A.step q x y) false S'))
      go x (inl u) = or_l (not (W q x)) _ u
      go x (inr u) = or_r (not (W q x)) _ (any_mono false S S' w q x u)
