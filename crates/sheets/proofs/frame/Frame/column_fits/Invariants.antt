use Rattle.std.proofs.Common.{◌≡◌}
use Rattle.ranges.specs.Ranges.{all}
use Rattle.sheets.specs.Whole.{state_sets_fit}
use Rattle.sheets.proofs.frame.Frame.column_fits.Given as goal

abbrev pub invariant-loop-state : goal.invariant-loop-state
invariant-loop-state l = l.all ≡ all l.state (λ x. state_sets_fit l.self.bytes.now l.column x)
