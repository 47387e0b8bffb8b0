use Rattle.automata.specs.Arena.{arena_of}
use Rattle.games.proofs.Pass.{PassInv}
use Rattle.games.proofs.search.pass.Given as goal

abbrev pub invariant-loop-q : goal.invariant-loop-q
invariant-loop-q g l =
    PassInv (g.J.JoiningRule.joins l.rule (arena_of g.P.Automaton g.P.Arena l.arena)) l.initial.ranks l.stage l.ranks l.q l.any
