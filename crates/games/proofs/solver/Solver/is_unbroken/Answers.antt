use Rattle.std.proofs.Common.{ℕ, Bool, ap, ◌∙◌}
use Rattle.games.proofs.solver.Solver.is_unbroken.Goals as goal

pub returns : goal.returns
returns c = c.has.ensures ∙ ap (λ (U : ℕ → Bool). U c.args.q) c.unbroken.ensures
