-- The regions have come to rest: no later stage adds a state, and the ranked states are exactly
-- those of the first set and those that join given the ranked ones.
use Rattle.std.specs.Prelude.{ℕ, ◌&&◌}
use Rattle.automata.specs.Arena.{Arena}
use Rattle.games.specs.Search.{Settled}
use Rattle.games.specs.Regions.{nowhere, breaks, unbroken, fence, forces}

pub record SettledRegions (A : Arena) : Type 0 where
  pub broken : Settled A.n nowhere (breaks A)
  pub rights : (i : ℕ) → Settled A.n (λ q. unbroken A q && (A.marked q && A.right i q)) (λ S q. unbroken A q && forces A S q)
  pub duty : Settled A.n (λ q. fence A q && A.marked q) (λ S q. fence A q && forces A S q)
