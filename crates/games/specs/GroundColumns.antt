-- The columns of a ground sheet: how the ground keeps a state unranked.
use Rattle.std.specs.Prelude.{ℕ, zero, suc, ◌^◌, Bool, false, cond, not, ◌&&◌}
use Rattle.ranges.specs.Ranges.{all, least}
use Rattle.automata.specs.Steps.{onward}
use Rattle.automata.specs.Arena.{Arena}
use Rattle.games.specs.Regions.{unbroken, lawful, fence, ranked}

-- the states of column i: the fence for column 0, the unbroken states for a right's column
abbrev pub region : Arena → ℕ → ℕ → Bool
region A zero = fence A
region A (suc j) = unbroken A

-- column i of the ground has a reading at those that it does not rank
abbrev pub kept : Arena → ℕ → ℕ → Bool
kept A i q = region A i q && not (ranked A i q)

-- x is lawful at q, and under it every command steps to a state unranked in column i
abbrev pub holds_off : Arena → ℕ → ℕ → ℕ → Bool
holds_off A i q x = lawful A q x && all (2 ^ A.b) (λ y. onward (A.step q x y) false (λ q'. not (ranked A i q')))

-- column i's byte at q: the lowest such reading, or 255 where the column has none
abbrev pub ground_byte : Arena → ℕ → ℕ → ℕ
ground_byte A i q = cond (kept A i q) (least (2 ^ A.a) (holds_off A i q)) 255
