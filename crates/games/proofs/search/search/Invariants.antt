use Rattle.std.proofs.Common.{◌-◌, ◌≤◌}
use Rattle.automata.specs.Arena.{arena_of}
use Rattle.games.proofs.Rows.{Row}
use Rattle.games.proofs.search.search.Given as goal

abbrev pub invariant-loop-stage : goal.invariant-loop-stage
invariant-loop-stage g l =
    let A = arena_of g.P.Automaton g.P.Arena l.arena in
    Row A.n (g.J.JoiningRule.first l.rule A) (g.J.JoiningRule.joins l.rule A) l.ranks l.stage × (l.stage ≤ A.n)

abbrev pub decreases-loop-stage : goal.decreases-loop-stage
decreases-loop-stage g l = l.count - l.stage
