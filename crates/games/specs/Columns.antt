-- The columns that an arena has: column 0 for the duty and one for each right. Beyond them nothing
-- is ranked, no command is permitted, and no reading is told.
use Rattle.std.specs.Prelude.{ℕ, ◌^◌, Bool, cond, ◌&&◌, nat_le}
use Rattle.ranges.specs.Ranges.{bits}
use Rattle.automata.specs.Arena.{Arena}
use Rattle.games.specs.Regions.{rank, permits}
use Rattle.games.specs.GroundColumns.{ground_byte}

abbrev pub rank_in : Arena → ℕ → ℕ → ℕ
rank_in A i q = cond (nat_le i A.k) (rank A i q) 65535

abbrev pub permits_in : Arena → ℕ → ℕ → ℕ → ℕ → Bool
permits_in A i q x y = nat_le i A.k && permits A i q x y

-- the command set as a byte: bit y for command y
abbrev pub set_in : Arena → ℕ → ℕ → ℕ → ℕ
set_in A i q x = bits (2 ^ A.b) (permits_in A i q x)

abbrev pub ground_byte_in : Arena → ℕ → ℕ → ℕ
ground_byte_in A i q = cond (nat_le i A.k) (ground_byte A i q) 255
