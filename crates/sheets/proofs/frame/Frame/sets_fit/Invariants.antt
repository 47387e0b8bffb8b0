use Rattle.std.proofs.Common.{◌≡◌}
use Rattle.ranges.specs.Ranges.{all}
use Rattle.sheets.specs.Whole.{column_fits}
use Rattle.sheets.proofs.frame.Frame.sets_fit.Given as goal

abbrev pub invariant-loop-column : goal.invariant-loop-column
invariant-loop-column l = l.all ≡ all l.column (λ x. column_fits l.self.bytes.now x)
