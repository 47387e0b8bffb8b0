-- Where the verdict is planned: every run keeps what is promised, and the causes determine it.
use Rattle.std.specs.Prelude.{◌≡◌, ℕ, List, map}
use Rattle.automata.specs.Arena.{Arena}
use Rattle.automata.specs.Lawful.{LawfulArena}
use Rattle.games.specs.Regions.{rank}
use Rattle.games.specs.Verdicts.{verdict}
use Rattle.games.specs.declared.verdict.Verdict.TheVariants.{Planned}
use Rattle.assurance.specs.Calls.{Call, Answered}
use Rattle.assurance.specs.Driven.{Driven, AnswersByCauses}
use Rattle.assurance.specs.Stands.{first, runs, stands, ReadOff}

pub record Holds (A : Arena) (rounds : ℕ) : Type 0 where
  -- at begin the verdict's number is shown
  pub shown : rank A 0 A.start ≡ rounds
  -- every run whose answers are by the causes keeps what is promised
  pub kept : (ts : List Answered) → AnswersByCauses A ts → Driven A ts
  -- every list of calls has such a run, at whose end the drive stands as is read off it
  pub driven : (calls : List Call) → Driven A (runs A (first A) calls)
  pub read_off : (calls : List Call) → ReadOff A (runs A (first A) calls) (stands A (first A) calls)
  -- and no other
  pub told : (ts : List Answered) → AnswersByCauses A ts → ts ≡ runs A (first A) (map (λ t. t.call) ts)

abbrev pub DrivesHold : Type 0
DrivesHold = (A : Arena) → LawfulArena A → (rounds : ℕ) → verdict A ≡ Planned rounds → Holds A rounds
