use Rattle.std.proofs.Common.{leb, Ok, Err, Result, sym, ap, ◌∙◌, subst, arith}
use Rattle.std.proofs.lemmas.Bool.{le-leb, cond-true}
use Rattle.automata.specs.Arena.{arena_of}
use Rattle.games.specs.declared.verdict.Verdict.{Verdict}
use Rattle.games.specs.declared.verdict.GameFault.{GameFault}
use Rattle.games.specs.declared.verdict.GameFault.TheVariants.{TooManyStates}
use Rattle.games.specs.Meant.{Meant}
use Rattle.games.specs.Solved.{solver_arena}
use Rattle.games.specs.Verdicts.{verdict}
use Rattle.games.proofs.MeantLaws.{meant}
use Rattle.games.proofs.SettledLaws.{regions_settle}
use Rattle.games.proofs.SolverLaws.{solver_lawful}
use Rattle.games.proofs.solver.Solver.solve.Goals as goal

pub returns-then-count-gt256-clause-settled : goal.returns-then-count-gt256-clause-settled
returns-then-count-gt256-clause-settled g c = regions_settle _ (g.met.P.Automaton.enters c.args.arena.now)

pub returns-clause-answer : goal.returns-clause-answer
returns-clause-answer g c =
    let A = arena_of g.P.Automaton g.P.Arena c.args.arena.now in
    ap {B = Result Verdict GameFault} Ok (c.verdict.ensures ∙ ap verdict c.take_over.ensures)
    ∙ sym (cond-true (leb A.n 256) (Ok (verdict A)) (Err TooManyStates) (le-leb A.n 256 (omega (arith, c.count.ensures))))

pub returns-clause-meant : goal.returns-clause-meant
returns-clause-meant g c _ = subst Meant c.take_over.ensures (meant (solver_arena c.take_over.new.self) (solver_lawful c.take_over.new.self))

pub returns-clause-settled : goal.returns-clause-settled
returns-clause-settled g c = regions_settle _ (g.met.P.Automaton.enters c.args.arena.now)
