-- The regions of an arena: broken states, lawful readings, columns, the fence, ranks, command sets.
use Rattle.std.specs.Prelude.{ℕ, zero, suc, ◌^◌, Bool, true, false, not, ◌&&◌, ◌||◌, nat_lt}
use Rattle.ranges.specs.Ranges.{all, any}
use Rattle.automata.specs.Steps.{onward}
use Rattle.automata.specs.Arena.{Arena}
use Rattle.games.specs.Search.{stage, rank_of}

-- BROKEN: the ground cannot keep going. Stage 0 is empty, and a state joins when every reading
-- has a command that steps to none or into the stage before
abbrev pub nowhere : ℕ → Bool
nowhere q = false

abbrev pub breaks : Arena → (ℕ → Bool) → ℕ → Bool
breaks A S q = all (2 ^ A.a) (λ x. any (2 ^ A.b) (λ y. onward (A.step q x y) true S))

abbrev pub broken : Arena → ℕ → Bool
broken A = stage nowhere (breaks A) A.n

abbrev pub unbroken : Arena → ℕ → Bool
unbroken A q = not (broken A q)

-- LAWFUL READINGS: x is lawful at q if q is unbroken and all commands step to unbroken states;
-- first for any set U that is taken for the unbroken states
abbrev pub lawful_by : Arena → (ℕ → Bool) → ℕ → ℕ → Bool
lawful_by A U q x = U q && all (2 ^ A.b) (λ y. onward (A.step q x y) false U)

abbrev pub lawful : Arena → ℕ → ℕ → Bool
lawful A = lawful_by A (unbroken A)

-- every lawful reading at q has a command into S; first for any W that is taken for the lawful readings
abbrev pub forces_by : Arena → (ℕ → ℕ → Bool) → (ℕ → Bool) → ℕ → Bool
forces_by A W S q = all (2 ^ A.a) (λ x. not (W q x) || any (2 ^ A.b) (λ y. onward (A.step q x y) false S))

abbrev pub forces : Arena → (ℕ → Bool) → ℕ → Bool
forces A = forces_by A (lawful A)

-- COLUMNS: the stages of a column whose states are those of R, and whose stage 0 are the states
-- of R that M marks. A state of R joins when every lawful reading has a command into the stage before
abbrev pub column : Arena → (ℕ → Bool) → (ℕ → Bool) → ℕ → ℕ → Bool
column A R M = stage (λ q. R q && M q) (λ S q. R q && forces A S q)

-- right i's column: in the unbroken states, to those marked for the duty and right i
abbrev pub right_column : Arena → ℕ → ℕ → ℕ → Bool
right_column A i = column A (unbroken A) (λ q. A.marked q && A.right i q)

-- the fence: the unbroken states ranked in all columns 1 to k
abbrev pub fence : Arena → ℕ → Bool
fence A q = unbroken A q && all A.k (λ j. right_column A (suc j) A.n q)

-- the duty's column, column 0: in the fence, to its duty-marked states
abbrev pub duty_column : Arena → ℕ → ℕ → Bool
duty_column A = column A (fence A) A.marked

-- the stages of column i
abbrev pub stages : Arena → ℕ → ℕ → ℕ → Bool
stages A zero = duty_column A
stages A (suc j) = right_column A (suc j)

-- RANKS
abbrev pub ranked : Arena → ℕ → ℕ → Bool
ranked A i = stages A i A.n

abbrev pub rank : Arena → ℕ → ℕ → ℕ
rank A i = rank_of A.n (stages A i)

-- COMMAND SETS: column i's set at q on the reading x holds y. At a ranked state and on a lawful
-- reading these are the commands whose step has a lower rank; at rank 0 there is none
abbrev pub permits : Arena → ℕ → ℕ → ℕ → ℕ → Bool
permits A i q x y = ranked A i q && lawful A q x && onward (A.step q x y) false (λ q'. nat_lt (rank A i q') (rank A i q))
