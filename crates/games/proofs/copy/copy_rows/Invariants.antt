use Rattle.std.proofs.Common.{ℕ, ◌<◌, get_or}
use Rattle.automata.specs.Arena.{arena_of}
use Rattle.games.specs.Tables.{blank, Holds}
use Rattle.games.proofs.copy.copy_rows.Given as goal

abbrev pub invariant-loop-q : goal.invariant-loop-q
invariant-loop-q g l = (q : ℕ) → q < l.q → Holds (arena_of g.P.Automaton g.P.Arena l.arena) q (get_or l.rows q blank)
