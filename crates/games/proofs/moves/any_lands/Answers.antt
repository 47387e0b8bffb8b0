use Rattle.std.proofs.Common.{rules, ap}
use Rattle.ranges.proofs.Chains.{any_below}
use Rattle.games.proofs.moves.any_lands.Goals as goal

pub returns : goal.returns
returns g c = any_below _ _ (ap (λ n. record { start = 0; end = n }) c.commands.ensures) c.any.ensures.ran (λ x b q k. search rules)
