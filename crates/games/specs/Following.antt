-- The ground that follows a ground sheet's columns.
use Rattle.std.specs.Prelude.{ℕ, zero, suc, cond, not, [], ◌∷◌, ◌==◌, nat_lt}
use Rattle.ranges.specs.Ranges.{least}
use Rattle.automata.specs.Steps.{onward}
use Rattle.automata.specs.Arena.{Arena}
use Rattle.games.specs.Verdicts.{lacking}
use Rattle.games.specs.GroundColumns.{ground_byte}
use Rattle.games.specs.Plays.{Ground}

-- the column followed at q, if column i was followed so far: column 0 inside the fence, and from
-- the first state outside it the column of the lowest right lacking that state, for good
abbrev pub turned : Arena → ℕ → ℕ → ℕ
turned A zero q = lacking A q
turned A (suc j) q = suc j

-- the ground that follows column i from q, turning to other columns by t: its reading is the
-- column's byte at the state led to
abbrev pub follows_by : Arena → (ℕ → ℕ → ℕ) → ℕ → ℕ → Ground
follows_by A t i q [] = ground_byte A i q
follows_by A t i q (y ∷ ys) = onward (A.step q (ground_byte A i q) y) 255 (λ q'. follows_by A t (t i q') q' ys)

abbrev pub follows : Arena → ℕ → ℕ → Ground
follows A = follows_by A (turned A)

abbrev pub followed : Arena → Ground
followed A = follows A (turned A 0 A.start) A.start

-- the same, read off the columns' bytes alone: outside the fence is where one of the columns 1 to
-- k has a reading, and the lowest such column is the one to turn to
abbrev pub told_column : Arena → ℕ → ℕ
told_column A q =
    let j = least A.k (λ j. not (ground_byte A (suc j) q == 255)) in
    cond (nat_lt j A.k) (suc j) zero

abbrev pub told_turned : Arena → ℕ → ℕ → ℕ
told_turned A zero q = told_column A q
told_turned A (suc j) q = suc j

abbrev pub followed_told : Arena → Ground
followed_told A = follows_by A (told_turned A) (told_turned A 0 A.start) A.start
