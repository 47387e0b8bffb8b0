use Rattle.std.proofs.Common.{rules, ap}
use Rattle.ranges.proofs.Chains.{all_below}
use Rattle.games.proofs.moves.breaks.Goals as goal

pub returns : goal.returns
returns g c = all_below _ _ (ap (λ n. record { start = 0; end = n }) c.readings.ensures) c.all.ensures.ran (λ x b q k. search rules)
