-- The arena that a solver holds.
use Rattle.automata.specs.Arena.{Arena}
use Rattle.games.specs.declared.solver.Solver.{Solver}
use Rattle.games.specs.Tables.{table_arena}

abbrev pub solver_arena : Solver → Arena
solver_arena s = table_arena s.table
