-- A staged search: a first set, a joining rule, stages and ranks.
use Rattle.std.specs.Prelude.{◌≡◌, ℕ, zero, suc, ◌<◌, Bool, true, false, ◌&&◌, ◌||◌, T, List, length, nat_le, nat_lt, slice_index}
use Rattle.ranges.specs.Ranges.{least}
use Rattle.automata.specs.Steps.{Inside}
use Rattle.automata.specs.Arena.{Arena}

-- stage 0 is the first set; each stage adds the states that join given the stage before
abbrev pub stage : (ℕ → Bool) → ((ℕ → Bool) → ℕ → Bool) → ℕ → ℕ → Bool
stage first joins zero q = first q
stage first joins (suc r) q = stage first joins r q || joins (stage first joins r) q

-- a state's rank: the first stage that has it, or 65535. Stages after stage n add none of n states
abbrev pub rank_of : ℕ → (ℕ → ℕ → Bool) → ℕ → ℕ
rank_of n stages q = elim (stages n q) [ true ↦ least n (λ r. stages r q) | false ↦ 65535 ]

-- S' has what S has, of the states below n
abbrev pub Within : ℕ → (ℕ → Bool) → (ℕ → Bool) → Type 0
Within n S S' = (q : ℕ) → q < n → T (S q) → T (S' q)

-- a joining rule never loses a state when its set grows
abbrev pub Monotone : ℕ → ((ℕ → Bool) → ℕ → Bool) → Type 0
Monotone n joins = (S S' : ℕ → Bool) → Within n S S' → Within n (joins S) (joins S')

-- the steps of an arena stay among its states
abbrev pub StepsInside : Arena → Type 0
StepsInside A = (q x y : ℕ) → Inside A.n (A.step q x y)

-- the states that a list of ranks puts in stage r
abbrev pub ranked_by : List ℕ → ℕ → ℕ → Bool
ranked_by ranks r q = nat_lt q (length ranks) && nat_le (slice_index ranks q) r

-- a list has the rank of each of n states
abbrev pub RanksAt : ℕ → (ℕ → Bool) → ((ℕ → Bool) → ℕ → Bool) → List ℕ → Type 0
RanksAt n first joins ranks = (q : ℕ) → q < n → slice_index ranks q ≡ rank_of n (stage first joins) q

-- and no place more
pub record Ranks (n : ℕ) (first : ℕ → Bool) (joins : (ℕ → Bool) → ℕ → Bool) (ranks : List ℕ) : Type 0 where
  pub long : length ranks ≡ n
  pub rank : RanksAt n first joins ranks

-- what the search comes to rest at: no stage has a state that stage n lacks, and the states of
-- stage n are exactly those of the first set and those that join given stage n itself
pub record Settled (n : ℕ) (first : ℕ → Bool) (joins : (ℕ → Bool) → ℕ → Bool) : Type 0 where
  pub last : (r q : ℕ) → q < n → T (stage first joins r q) → T (stage first joins n q)
  pub exactly : (q : ℕ) → q < n → stage first joins n q ≡ (first q || joins (stage first joins n) q)
