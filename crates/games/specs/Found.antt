-- What the search has found of an arena's regions, as lists of ranks.
use Rattle.std.specs.Prelude.{◌≡◌, ℕ, suc, ◌<◌, List, [], slice_index, slice_index_or}
use Rattle.automata.specs.Arena.{Arena}
use Rattle.games.specs.declared.regions.Regions.{Regions}
use Rattle.games.specs.Search.{RanksAt}
use Rattle.games.specs.Regions.{nowhere, breaks, rank}

-- the ranks of the broken states
abbrev pub BrokenFound : Arena → List ℕ → Type 0
BrokenFound A broken = RanksAt A.n nowhere (breaks A) broken

-- the ranks of column i
abbrev pub ColumnFound : Arena → ℕ → List ℕ → Type 0
ColumnFound A i ranks = (q : ℕ) → q < A.n → slice_index ranks q ≡ rank A i q

-- the ranks of the columns 1 to m
abbrev pub RightsFound : Arena → ℕ → List (List ℕ) → Type 0
RightsFound A m ranks = (j q : ℕ) → (j < m) × (q < A.n) → slice_index (slice_index_or ranks j []) q ≡ rank A (suc j) q

-- the ranks of the broken states and of every column
pub record Found (A : Arena) (regions : Regions) : Type 0 where
  pub broken : BrokenFound A regions.broken
  pub rights : RightsFound A A.k regions.rights
  pub duty : ColumnFound A 0 regions.duty
