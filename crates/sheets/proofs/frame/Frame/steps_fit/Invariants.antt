use Rattle.std.proofs.Common.{◌≡◌}
use Rattle.ranges.specs.Ranges.{all}
use Rattle.sheets.specs.Whole.{reading_fits}
use Rattle.sheets.proofs.frame.Frame.steps_fit.Given as goal

abbrev pub invariant-loop-reading : goal.invariant-loop-reading
invariant-loop-reading l = l.all ≡ all l.reading (λ x. reading_fits l.self.bytes.now l.state x)
