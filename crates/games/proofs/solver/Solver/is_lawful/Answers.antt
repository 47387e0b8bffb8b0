use Rattle.std.proofs.Common.{ℕ, Bool, ap, ◌∙◌}
use Rattle.games.specs.Regions.{lawful_by}
use Rattle.games.specs.Solved.{solver_arena}
use Rattle.games.proofs.solver.Solver.is_lawful.Goals as goal

pub returns : goal.returns
returns c = c.is_lawful.ensures ∙ ap (λ (U : ℕ → Bool). lawful_by (solver_arena c.args.self.now) U c.args.q c.args.x) c.unbroken.ensures
