use Rattle.std.proofs.Common.{rules, ap, ◌∙◌}
use Rattle.ranges.proofs.Chains.{least_found}
use Rattle.games.proofs.solver.Solver.least_held_off.Goals as goal

pub returns : goal.returns
returns c = search rules ∙ least_found _ _ _ c.find.result (ap (λ n. record { start = 0; end = n }) c.readings-count.ensures) c.find.ensures.ran (λ x b q k. search rules)
