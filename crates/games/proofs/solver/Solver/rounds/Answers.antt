use Rattle.std.proofs.Common.{ℕ, not, eqb, ap, ◌∙◌}
use Rattle.std.specs.Bool.{then_some}
use Rattle.games.proofs.SolverLaws.{rounds_is}
use Rattle.games.proofs.solver.Solver.rounds.Goals as goal

pub returns : goal.returns
returns c = c.then_some.ensures ∙ ap (λ (r : ℕ). then_some (not (eqb r 65535)) r) c.rank-rank.ensures ∙ rounds_is c.args.self.now c.args.q
