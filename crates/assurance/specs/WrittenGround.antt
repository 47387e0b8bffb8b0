-- The ground that follows the bytes of a written ground sheet, by the arena's steps.
use Rattle.std.specs.Prelude.{ℕ, zero, suc, cond, not, List, [], ◌∷◌, ◌==◌, nat_lt}
use Rattle.ranges.specs.Ranges.{least}
use Rattle.automata.specs.Steps.{onward}
use Rattle.automata.specs.Arena.{Arena}
use Rattle.games.specs.Plays.{Ground}
use Rattle.planner.specs.GroundReading.{ground_reading}

-- the byte of a column at a state
abbrev pub byte_in : List ℕ → ℕ → ℕ → ℕ
byte_in bs c q = onward (ground_reading bs c q) 255 (λ x. x)

-- a state is outside the fence where one of the columns 1 to k has a reading; the lowest such column
-- is the one to follow from there on, else column 0
abbrev pub column_at : Arena → List ℕ → ℕ → ℕ
column_at A bs q =
    let j = least A.k (λ j. not (byte_in bs (suc j) q == 255)) in
    cond (nat_lt j A.k) (suc j) zero

-- the column followed at q, if column i was followed so far: a right's for good
abbrev pub turned_by : Arena → List ℕ → ℕ → ℕ → ℕ
turned_by A bs zero q = column_at A bs q
turned_by A bs (suc j) q = suc j

-- the reading after a list of commands is the followed column's byte at the state where they led
abbrev pub follows_bytes : Arena → List ℕ → ℕ → ℕ → Ground
follows_bytes A bs i q [] = byte_in bs i q
follows_bytes A bs i q (y ∷ ys) = onward (A.step q (byte_in bs i q) y) 255 (λ q'. follows_bytes A bs (turned_by A bs i q') q' ys)

abbrev pub written_ground : Arena → List ℕ → Ground
written_ground A bs = follows_bytes A bs (turned_by A bs 0 A.start) A.start
