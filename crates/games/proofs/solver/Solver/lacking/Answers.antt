use Rattle.std.proofs.Common.{rules, ◌∙◌}
use Rattle.std.proofs.lemmas.Iterator.{first_from_Range}
use Rattle.games.proofs.SolverLaws.{lacking_is}
use Rattle.games.proofs.solver.Solver.lacking.Goals as goal

pub returns : goal.returns
returns c =
    search rules ∙ lacking_is c.args.self.now c.args.q c.find.result (first_from_Range _ _ _ c.find.result _ _ c.find.ensures.ran (λ x p k. search rules) (λ x p k. search rules))
