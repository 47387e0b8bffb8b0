use Rattle.std.proofs.Common.{◌≡◌, ℕ, ◌<◌, cond, get_or}
use Rattle.automata.specs.Arena.{arena_of}
use Rattle.games.proofs.search.seed.Given as goal

abbrev pub invariant-loop-q : goal.invariant-loop-q
invariant-loop-q g l =
    (p : ℕ) → p < l.q → get_or l.ranks p 0 ≡ cond (g.J.JoiningRule.first l.rule (arena_of g.P.Automaton g.P.Arena l.arena) p) 0 65535
