use Rattle.std.proofs.Common.{refl, rules}
use Rattle.ranges.proofs.Chains.{all_below}
use Rattle.games.proofs.states.in_all.Goals as goal

pub returns : goal.returns
returns c = all_below _ _ refl c.all.ensures.ran (λ x b q k. search rules)
