-- What planning an arena answers, and what it writes.
use Rattle.std.specs.Prelude.{ℕ, cond, ◌&&◌, List, [], length, Ok, Err, Result, nat_le}
use Rattle.automata.specs.Arena.{Arena}
use Rattle.games.specs.Verdicts.{verdict}
use Rattle.games.specs.Solved.{solver_arena}
use Rattle.games.specs.declared.verdict.Verdict.{Verdict}
use Rattle.games.specs.declared.verdict.Verdict.TheVariants.{Groundless, Planned, Unplayable}
use Rattle.sheets.specs.Encoding.{sheet_length, sheet_bytes}
use Rattle.planner.specs.GroundFormat.{ground_bytes}
use Rattle.planner.specs.Writing.{fronted}
use Rattle.planner.specs.ArenaTables.{arena_tables, arena_grounds}
use Rattle.planner.specs.declared.Planner.{Planner}
use Rattle.planner.specs.declared.fault.PlanFault.{PlanFault}
use Rattle.planner.specs.declared.fault.PlanFault.TheVariants.{TooManyStates, BufferTooShort}

-- too many states come first, then a buffer shorter than the drive sheet, whatever the verdict
abbrev pub planned_answer : Arena → ℕ → Result Verdict PlanFault
planned_answer A size =
    cond (nat_le A.n 256) (cond (nat_le (sheet_length (arena_tables A)) size) (Ok (verdict A)) (Err BufferTooShort)) (Err TooManyStates)

-- the sheet of a verdict: planned writes the drive sheet, unplayable the ground sheet with the
-- verdict's number, groundless nothing
abbrev pub sheet_for : Arena → Verdict → List ℕ
sheet_for A Groundless = []
sheet_for A (Planned rounds) = sheet_bytes (arena_tables A)
sheet_for A (Unplayable right) = ground_bytes (arena_grounds A right)

-- the sheet fills the buffer's front; refused, the buffer is as before
abbrev pub planned_buffer : Arena → List ℕ → List ℕ
planned_buffer A old =
    cond (nat_le A.n 256 && nat_le (sheet_length (arena_tables A)) (length old)) (fronted (sheet_for A (verdict A)) old) old

-- the arena that a planner holds
abbrev pub planner_arena : Planner → Arena
planner_arena p = solver_arena p.solver
