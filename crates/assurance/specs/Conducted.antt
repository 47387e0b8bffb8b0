-- A drive begun on a sheet and run through a list of calls; and what is promised of it where the sheet
-- says what the arena's tables say and the verdict is planned.
use Rattle.std.specs.Prelude.{◌≡◌, ℕ, List, map, Some, Ok, Err, Result}
use Rattle.automata.specs.Arena.{Arena}
use Rattle.automata.specs.Lawful.{LawfulArena}
use Rattle.games.specs.Regions.{rank}
use Rattle.games.specs.Verdicts.{verdict}
use Rattle.games.specs.declared.verdict.Verdict.TheVariants.{Planned}
use Rattle.sheets.specs.Tables.{Tables, SameTables}
use Rattle.drives.specs.Model.{begun, shows, reports}
use Rattle.drives.specs.declared.between.Between.{Between}
use Rattle.drives.specs.declared.refusal.Refusal.{Refusal}
use Rattle.assurance.specs.declared.calls.Entry.{Entry}
use Rattle.assurance.specs.declared.drive.Drive.{Drive}
use Rattle.assurance.specs.declared.drive.Drive.TheVariants.{Between as between, Waiting as waiting, Ended as ended}
use Rattle.assurance.specs.Calls.{Call, Answered}
use Rattle.assurance.specs.Runs.{reached, column_in_force}
use Rattle.assurance.specs.Driven.{Driven}
use Rattle.assurance.specs.Stands.{answer_at, ReadOff}
use Rattle.assurance.specs.Made.{makes}
use Rattle.assurance.specs.Held.{holds}
use Rattle.assurance.specs.Entries.{runs_on, after_calls, calls_in, filled}
use Rattle.planner.specs.ArenaTables.{arena_tables}

-- from what begin answers: the drive after the calls, or the refusal
abbrev pub drive_from : Tables → List Entry → Result Between Refusal → Result Drive Refusal
drive_from T es (Ok d) = Ok (after_calls T (between d) (calls_in es))
drive_from T es (Err why) = Err why

-- and the entries: each answer in its place; where begin refuses, no place is touched
abbrev pub places_from : Tables → List Entry → Result Between Refusal → List Entry
places_from T es (Ok d) = filled (runs_on T (between d) (calls_in es))
places_from T es (Err why) = es

abbrev pub conducted : Tables → List Entry → Result Drive Refusal
conducted T es = drive_from T es (begun T)

abbrev pub places : Tables → List Entry → List Entry
places T es = places_from T es (begun T)

-- what a drive shows or reports after a run: between rounds the rank of the state reached in the
-- column in force; ended, the claimed right, or 0, and the state reached
abbrev pub Tells : Arena → Tables → List Answered → Drive → Type 0
Tells A T ts (between d) = (q : ℕ) × (reached A ts ≡ Some q) × (shows T d ≡ Ok (rank A (column_in_force ts) q))
Tells A T ts (waiting d) = Unit {0}
Tells A T ts (ended d) = (q : ℕ) × (reached A ts ≡ Some q) × (reports d ≡ (column_in_force ts, q))

-- the run ts of the calls handed in left the drive d, on a sheet with the tables T of a job that is
-- planned in so many rounds
pub record Conducted (A : Arena) (T : Tables) (rounds : ℕ) (calls : List Call) (ts : List Answered) (d : Drive) : Type 0 where
  -- a drive begins, and the verdict's number is shown
  pub begins : (e : Between) × (begun T ≡ Ok e) × (shows T e ≡ Ok rounds)
  -- the calls are those handed in, each made once, in order
  pub made : map (λ t. t.call) ts ≡ calls
  -- every answer is by the causes at the state reached and in the column in force; what is promised
  -- holds at begin and after each call; each performed command lowers the number of rounds
  pub driven : Driven A ts
  -- the drive holds what is read off the performed calls, and tells it
  pub stands : ReadOff A ts (holds d)
  pub tells : Tells A T ts d
  -- and any next call answers by the causes there
  pub next : (call : Call) → (makes T d call).1 ≡ answer_at A (holds d) call

-- the entries es have become fs, and r is answered: a drive, with the answers of its run in their places
abbrev pub WellConducted : Arena → Tables → ℕ → List Entry → List Entry → Result Drive Refusal → Type 0
WellConducted A T rounds es fs (Ok d) = (ts : List Answered) × (fs ≡ filled ts) × Conducted A T rounds (calls_in es) ts d
WellConducted A T rounds es fs (Err why) = ⊥

-- THE PROMISE, for every lawful arena whose tables the sheet says and whose verdict is planned
abbrev pub KeepsPromise : Tables → List Entry → List Entry → Result Drive Refusal → Type 0
KeepsPromise T es fs r =
    (A : Arena) → LawfulArena A → SameTables (arena_tables A) T → (rounds : ℕ) → verdict A ≡ Planned rounds →
    WellConducted A T rounds es fs r
