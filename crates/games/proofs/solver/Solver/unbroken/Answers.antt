use Rattle.games.proofs.SolverLaws.{solver_unbroken}
use Rattle.games.proofs.solver.Solver.unbroken.Goals as goal

pub returns : goal.returns
returns c = solver_unbroken c.args.self.now c.as_slice.result.now c.as_slice.ensures
