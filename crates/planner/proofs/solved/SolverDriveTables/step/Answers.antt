use Rattle.std.proofs.Common.{ap, ◌∙◌}
use Rattle.automata.specs.Arena.{Arena}
use Rattle.planner.proofs.solved.SolverDriveTables.step.Goals as goal

pub returns : goal.returns
returns c = c.step.ensures ∙ ap (λ (A : Arena). A.step c.args.state c.args.reading c.args.command) c.arena.ensures
