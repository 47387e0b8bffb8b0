-- The whole promise: what planning an arena and driving on its sheet answers and leaves. The buffer
-- then holds bs, the entries handed in were es and are fs.
use Rattle.std.specs.Prelude.{◌≡◌, ℕ, List, Some, None, Ok, Err, Option, Result}
use Rattle.automata.specs.Arena.{Arena}
use Rattle.automata.specs.Lawful.{LawfulArena}
use Rattle.games.specs.Plays.{LawfulGround, Plan, FulfilsAgainst}
use Rattle.games.specs.Verdicts.{verdict}
use Rattle.games.specs.declared.verdict.Verdict.{Verdict}
use Rattle.games.specs.declared.verdict.Verdict.TheVariants.{Groundless, Planned, Unplayable}
use Rattle.sheets.specs.Format.{tables_of}
use Rattle.sheets.specs.Laws.{OpensTo}
use Rattle.planner.specs.ArenaTables.{arena_tables}
use Rattle.planner.specs.declared.fault.PlanFault.{PlanFault}
use Rattle.assurance.specs.declared.calls.Entry.{Entry}
use Rattle.assurance.specs.declared.drive.Drive.{Drive}
use Rattle.assurance.specs.declared.outcome.Outcome.{Outcome}
use Rattle.assurance.specs.Calls.{Answered}
use Rattle.assurance.specs.Entries.{calls_in, filled}
use Rattle.assurance.specs.Conducted.{Conducted}
use Rattle.assurance.specs.WrittenGround.{written_ground}

-- what is answered, without the drive
abbrev pub verdict_of : Result Outcome PlanFault → Result Verdict PlanFault
verdict_of (Ok o) = Ok o.verdict
verdict_of (Err fault) = Err fault

-- WHERE PLANNED: what was written opens to the arena's tables, a drive began and is left, each answer
-- is in its place, and the run keeps what is promised
pub record DrivesWell (A : Arena) (bs : List ℕ) (rounds : ℕ) (es fs : List Entry) (left : Option Drive) : Type 0 where
  pub opens : OpensTo (arena_tables A) bs
  pub drive : Drive
  pub run : List Answered
  pub stands : left ≡ Some drive
  pub written : fs ≡ filled run
  pub conducted : Conducted A (tables_of bs) rounds (calls_in es) run drive

-- WHERE UNPLAYABLE: the ground that follows the written bytes is lawful, and no plan fulfils the job
-- against it
pub record GroundHolds (A : Arena) (bs : List ℕ) : Type 0 where
  pub lawful : LawfulGround A A.start (written_ground A bs)
  pub unbeaten : (p : Plan) → FulfilsAgainst A p (written_ground A bs) → ⊥

-- no drive begins, no call is made, and every place for an answer is as before
abbrev pub Untouched : List Entry → List Entry → Option Drive → Type 0
Untouched es fs left = (left ≡ None) × (fs ≡ es)

abbrev pub ByVerdict : Arena → List ℕ → List Entry → List Entry → Option Drive → Verdict → Type 0
ByVerdict A bs es fs left Groundless = Untouched es fs left
ByVerdict A bs es fs left (Planned rounds) = DrivesWell A bs rounds es fs left
ByVerdict A bs es fs left (Unplayable right) = Untouched es fs left × GroundHolds A bs

abbrev pub Assured : Arena → List ℕ → List Entry → List Entry → Result Outcome PlanFault → Type 0
Assured A bs es fs (Ok o) = ByVerdict A bs es fs o.drive o.verdict
Assured A bs es fs (Err fault) = fs ≡ es

-- a drive on bytes that open to the tables of a planned arena
abbrev pub DrivesOn : List ℕ → List Entry → List Entry → Option Drive → Type 0
DrivesOn bs es fs left =
    (A : Arena) → LawfulArena A → OpensTo (arena_tables A) bs → (rounds : ℕ) → verdict A ≡ Planned rounds → DrivesWell A bs rounds es fs left
