use Rattle.std.proofs.Common.{ℕ, Bool, refl, ap, ◌∙◌}
use Rattle.games.proofs.SolverLaws.{solver_fence}
use Rattle.games.proofs.solver.Solver.is_fenced.Goals as goal

pub returns : goal.returns
returns c =
    let s = c.args.self.now in
    c.has.ensures ∙ ap (λ (F : ℕ → Bool). F c.args.q) (solver_fence s c.as_slice.result.now s.regions.rights c.as_slice.ensures refl)
