use Rattle.std.proofs.Common.{◌&&◌, sym, ◌∙◌, ap₂}
use Rattle.games.proofs.SolverLaws.{off_asked}
use Rattle.games.proofs.solver.Solver.holds_off.Goals as goal

pub returns-then-is_lawful : goal.returns-then-is_lawful
returns-then-is_lawful c =
    ap₂ ◌&&◌ (sym c.if-is_lawful.true ∙ c.is_lawful.ensures) c.all_enter.ensures ∙ off_asked c.args.self.now c.args.column c.args.q c.args.x c.requires
