-- What is printed of an arena and of a job's bytes, with a buffer of so many bytes for the sheet.
use Rattle.std.specs.Prelude.{ℕ, List, [], ◌++◌, Some, None, Ok, Err, Option, Result}
use Rattle.automata.specs.Arena.{Arena}
use Rattle.games.specs.Columns.{ground_byte_in}
use Rattle.games.specs.declared.verdict.Verdict.{Verdict}
use Rattle.games.specs.declared.verdict.Verdict.TheVariants.{Groundless, Planned, Unplayable}
use Rattle.jobs.specs.Faults.{fault_number, fault_section}
use Rattle.jobs.specs.JobFile.{job_checked}
use Rattle.jobs.specs.Loaded.{bytes_arena}
use Rattle.jobs.specs.declared.fault.JobFault.{JobFault}
use Rattle.planner.specs.ArenaTables.{arena_tables}
use Rattle.planner.specs.Faults.{plan_fault_number}
use Rattle.planner.specs.Planned.{planned_answer, planned_buffer}
use Rattle.planner.specs.declared.fault.PlanFault.{PlanFault}
use Rattle.lines.specs.Columns.{column_lines}
use Rattle.lines.specs.Ranks.{rank_lines}
use Rattle.lines.specs.Refusals.{refused_line, section_line}
use Rattle.lines.specs.Verdicts.{verdict_line}

-- behind the verdict's line: of a planned arena its ranked states, of an unplayable one its ground
-- columns
abbrev pub sheet_text : Arena → Verdict → List ℕ
sheet_text A Groundless = []
sheet_text A (Planned rounds) = rank_lines (arena_tables A)
sheet_text A (Unplayable right) = column_lines (ground_byte_in A) A.n A.k

abbrev pub answer_text : Arena → Result Verdict PlanFault → List ℕ
answer_text A (Ok v) = verdict_line v A.n A.k ++ sheet_text A v
answer_text A (Err fault) = refused_line (plan_fault_number fault)

-- AN ARENA
abbrev pub arena_text : Arena → ℕ → List ℕ
arena_text A size = answer_text A (planned_answer A size)

abbrev pub verdict_in : Result Verdict PlanFault → Option Verdict
verdict_in (Ok v) = Some v
verdict_in (Err fault) = None

-- A JOB'S BYTES: what is printed, the verdict if there is one, and what the buffer then holds
abbrev pub checked_text : List ℕ → ℕ → Result (Unit {0}) JobFault → List ℕ
checked_text bs size (Ok u) = arena_text (bytes_arena bs) size
checked_text bs size (Err fault) = section_line (fault_number fault) (fault_section fault)

abbrev pub job_text : List ℕ → ℕ → List ℕ
job_text bs size = checked_text bs size (job_checked bs)

abbrev pub checked_verdict : List ℕ → ℕ → Result (Unit {0}) JobFault → Option Verdict
checked_verdict bs size (Ok u) = verdict_in (planned_answer (bytes_arena bs) size)
checked_verdict bs size (Err fault) = None

abbrev pub job_verdict : List ℕ → ℕ → Option Verdict
job_verdict bs size = checked_verdict bs size (job_checked bs)

abbrev pub checked_buffer : List ℕ → List ℕ → Result (Unit {0}) JobFault → List ℕ
checked_buffer bs old (Ok u) = planned_buffer (bytes_arena bs) old
checked_buffer bs old (Err fault) = old

abbrev pub job_buffer : List ℕ → List ℕ → List ℕ
job_buffer bs old = checked_buffer bs old (job_checked bs)
