-- A drive as it stands, and what calls make of it: the run that the causes determine.
use Rattle.std.specs.Prelude.{◌≡◌, ℕ, Bool, true, false, List, [], ◌∷◌, Some, None, Option}
use Rattle.automata.specs.Steps.{onward}
use Rattle.automata.specs.Arena.{Arena}
use Rattle.assurance.specs.Calls.{Call, Read, Command, Claim, Stop, Answer, Performed, Refused, NotAdmitted, Answered}
use Rattle.assurance.specs.Runs.{reached, column_in_force, reading_waiting, has_ended}
use Rattle.assurance.specs.Causes.{answer_by_causes}

pub record Stand : Type 0 where
  pub state : ℕ
  pub column : ℕ  -- the claimed right, or 0
  pub waiting : Option ℕ  -- the reading that waits for its command
  pub over : Bool

-- at begin: at the start, in column 0
abbrev pub first : Arena → Stand
first A = record { state = A.start; column = 0; waiting = None; over = false }

abbrev pub answer_at : Arena → Stand → Call → Answer
answer_at A s call = answer_by_causes A s.state s.column s.waiting s.over call

-- after a performed call: read keeps the reading, command steps, claim changes the column, stop ends
abbrev pub moved : Arena → Stand → Call → Stand
moved A s (Read x) = record { state = s.state; column = s.column; waiting = Some x; over = s.over }
moved A s (Command y) =
    let step : ℕ → Option ℕ = λ x. A.step s.state x y in
    record { state = onward s.waiting s.state (λ x. onward (step x) s.state (λ t. t)); column = s.column; waiting = None; over = s.over }
moved A s (Claim i) = record { state = s.state; column = i; waiting = s.waiting; over = s.over }
moved A s Stop = record { state = s.state; column = s.column; waiting = s.waiting; over = true }

-- after a call with its answer: as before unless it was performed
abbrev pub after : Arena → Stand → Call → Answer → Stand
after A s call Performed = moved A s call
after A s call (Refused why) = s
after A s call NotAdmitted = s

-- one call: the drive then, and the answer
abbrev pub one : Arena → Stand → Call → Stand × Answer
one A s call = (after A s call (answer_at A s call), answer_at A s call)

-- the run that calls make from a drive, and the drive at its end
abbrev pub runs : Arena → Stand → List Call → List Answered
runs A s [] = []
runs A s (call ∷ calls) = record { call = call; answer = (one A s call).1 } ∷ runs A (one A s call).0 calls

abbrev pub stands : Arena → Stand → List Call → Stand
stands A s [] = s
stands A s (call ∷ calls) = stands A (one A s call).0 calls

-- a drive stands as is read off a run
pub record ReadOff (A : Arena) (ts : List Answered) (s : Stand) : Type 0 where
  pub state : reached A ts ≡ Some s.state
  pub column : s.column ≡ column_in_force ts
  pub waiting : s.waiting ≡ reading_waiting ts
  pub over : s.over ≡ has_ended ts
