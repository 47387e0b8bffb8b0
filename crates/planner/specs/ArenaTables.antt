-- What the sheets of an arena say.
use Rattle.std.specs.Prelude.{ℕ}
use Rattle.automata.specs.Arena.{Arena}
use Rattle.games.specs.Regions.{lawful}
use Rattle.games.specs.Columns.{rank_in, permits_in, ground_byte_in}
use Rattle.games.specs.declared.verdict.Verdict.{Verdict}
use Rattle.games.specs.declared.verdict.Verdict.TheVariants.{Groundless, Planned, Unplayable}
use Rattle.sheets.specs.Tables.{Tables}
use Rattle.planner.specs.GroundFormat.{GroundTables}

-- the drive sheet has the arena's steps, its lawful readings, its ranks and its command sets
abbrev pub arena_tables : Arena → Tables
arena_tables A = record {
  a = A.a;
  b = A.b;
  k = A.k;
  n = A.n;
  start = A.start;
  lawful = lawful A;
  step = A.step;
  rank = rank_in A;
  permits = permits_in A;
}

-- the ground sheet has the arena's ground columns, and the number of a verdict
abbrev pub arena_grounds : Arena → ℕ → GroundTables
arena_grounds A number = record {
  a = A.a;
  b = A.b;
  k = A.k;
  n = A.n;
  start = A.start;
  number = number;
  byte = ground_byte_in A;
}

-- the right that a verdict says is lost at the start, or 0
abbrev pub lost_right : Verdict → ℕ
lost_right Groundless = 0
lost_right (Planned rounds) = 0
lost_right (Unplayable right) = right
