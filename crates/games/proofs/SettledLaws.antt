-- A staged search with a monotone rule settles.
use Rattle.std.proofs.Common.{◌≡◌, ℕ, zero, suc, ◌<◌, Bool, true, false, ◌&&◌, ◌||◌, T, ◌⊎◌, refl, inl, inr, arith}
use Rattle.automata.specs.Arena.{Arena}
use Rattle.ranges.proofs.RangeLaws.{or_l, or_r, or_case}
use Rattle.games.specs.Search.{stage, Within, Monotone, StepsInside, Settled}
use Rattle.games.specs.Settled.{SettledRegions}
use Rattle.games.specs.Regions.{nowhere, breaks, unbroken, fence, lawful, forces}
use Rattle.games.proofs.StageLaws.{closed, stage_up}
use Rattle.games.specs.RuleLaws.{breaks_mono, column_mono}

module _ (n : ℕ) (first : ℕ → Bool) (joins : (ℕ → Bool) → ℕ → Bool) (mono : Monotone n joins) where
  abbrev S : ℕ → ℕ → Bool
  S = stage first joins

  joins_last : (q : ℕ) → q < n → T (joins (S n) q) → T (S n q)
  joins_last q l t = closed n first joins mono q l (or_r (S n q) (joins (S n) q) t)

  last : (r : ℕ) → Within n (S r) (S n)
  last zero q l t = stage_up n first joins 0 n q (omega arith) t
  last (suc r) q l t = go (or_case (S r q) (joins (S r) q) t) (last r)
    where
      go : T (S r q) ⊎ T (joins (S r) q) → Within n (S r) (S n) → T (S n q)
      go (inl s) ih = ih q l s
      go (inr s) ih = joins_last q l (mono (S r) (S n) ih q l s)

  came : (r q : ℕ) → q < n → T (S r q) → T (first q || joins (S n) q)
  came zero q l t = or_l (first q) (joins (S n) q) t
  came (suc r) q l t = go (or_case (S r q) (joins (S r) q) t) (came r q l)
    where
      go : T (S r q) ⊎ T (joins (S r) q) → (T (S r q) → T (first q || joins (S n) q)) → T (first q || joins (S n) q)
      go (inl s) ih = ih s
      go (inr s) ih = or_r (first q) (joins (S n) q) (mono (S r) (S n) (last r) q l s)

  back : (q : ℕ) → q < n → T (first q || joins (S n) q) → T (S n q)
  back q l t = go (or_case (first q) (joins (S n) q) t)
    where
      go : T (first q) ⊎ T (joins (S n) q) → T (S n q)
      go (inl s) = last 0 q l s
      go (inr s) = joins_last q l s

  same : (a b : Bool) → (T a → T b) → (T b → T a) → a ≡ b
  same true true f g = refl
  same true false f g = absurd (f tt)
  same false true f g = absurd (g tt)
  same false false f g = refl

  pub settles : Settled n first joins
  settles = record { last = last; exactly = λ q l. same (S n q) (first q || joins (S n) q) (came n q l) (back q l) }

pub regions_settle : (A : Arena) → StepsInside A → SettledRegions A
regions_settle A inside = record {
  broken = settles A.n nowhere (breaks A) (breaks_mono A inside);
  rights = λ i. settles A.n _ (λ S q. unbroken A q && forces A S q) (column_mono A inside (unbroken A) (lawful A));
  duty = settles A.n _ (λ S q. fence A q && forces A S q) (column_mono A inside (fence A) (lawful A));
}
