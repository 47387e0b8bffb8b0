-- What is promised of every run of a drive.
use Rattle.std.specs.Prelude.{◌≡◌, ℕ, ◌<◌, List, [], ◌∷◌, ◌++◌, Some}
use Rattle.automata.specs.Arena.{Arena}
use Rattle.games.specs.Regions.{rank}
use Rattle.assurance.specs.Calls.{Command, Performed, Answered}
use Rattle.assurance.specs.Runs.{reached, column_in_force, reading_waiting, has_ended}
use Rattle.assurance.specs.Causes.{answer_by_causes}
use Rattle.assurance.specs.Promised.{Promised}

-- at every place of a run, the answer is what the causes say at the state reached before it, in
-- the column then in force
abbrev pub AnswersByCauses : Arena → List Answered → Type 0
AnswersByCauses A ts =
    (before behind : List Answered) (t : Answered) → ts ≡ before ++ (t ∷ behind) →
    (q : ℕ) × (reached A before ≡ Some q)
    × (t.answer ≡ answer_by_causes A q (column_in_force before) (reading_waiting before) (has_ended before) t.call)

-- what is promised holds at the state reached and in the column in force
abbrev pub PromisedAfter : Arena → List Answered → Type 0
PromisedAfter A ts =
    (q : ℕ) × (reached A ts ≡ Some q) × Promised A q (column_in_force ts) (reading_waiting ts) (has_ended ts)

-- a performed command
abbrev pub commanded : ℕ → Answered
commanded y = record { call = Command y; answer = Performed }

-- each performed command lowers the number of rounds
abbrev pub Lowers : Arena → List Answered → Type 0
Lowers A ts =
    (before behind : List Answered) (y : ℕ) → ts ≡ before ++ (commanded y ∷ behind) →
    (q q' : ℕ) × (reached A before ≡ Some q) × (reached A (before ++ (commanded y ∷ [])) ≡ Some q')
    × (rank A (column_in_force before) q' < rank A (column_in_force before) q)

pub record Driven (A : Arena) (ts : List Answered) : Type 0 where
  pub answers : AnswersByCauses A ts
  -- at begin and after every call, performed or not
  pub promised : (before behind : List Answered) → ts ≡ before ++ behind → PromisedAfter A before
  pub lowers : Lowers A ts
