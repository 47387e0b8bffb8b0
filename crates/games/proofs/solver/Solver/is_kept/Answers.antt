use Rattle.std.proofs.Common.{◌&&◌, not, sym, ap, ◌∙◌}
use Rattle.games.specs.Regions.{ranked}
use Rattle.games.specs.Solved.{solver_arena}
use Rattle.games.proofs.SolverLaws.{rank_in_lacks}
use Rattle.games.proofs.solver.Solver.is_kept.Goals as goal

pub returns-then-is_in : goal.returns-then-is_in
returns-then-is_in c =
    c.lacks.ensures ∙ rank_in_lacks c.args.self.now c.args.column c.args.q c.requires
    ∙ ap (λ b. b && not (ranked (solver_arena c.args.self.now) c.args.column c.args.q)) (sym c.if-is_in.true ∙ c.is_in.ensures)
