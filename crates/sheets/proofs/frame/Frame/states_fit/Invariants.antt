use Rattle.std.proofs.Common.{◌≡◌}
use Rattle.ranges.specs.Ranges.{all}
use Rattle.sheets.specs.Whole.{state_fits}
use Rattle.sheets.proofs.frame.Frame.states_fit.Given as goal

abbrev pub invariant-loop-state : goal.invariant-loop-state
invariant-loop-state l = l.all ≡ all l.state (λ x. state_fits l.self.bytes.now x)
