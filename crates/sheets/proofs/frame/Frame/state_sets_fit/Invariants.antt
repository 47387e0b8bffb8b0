use Rattle.std.proofs.Common.{◌≡◌}
use Rattle.ranges.specs.Ranges.{all}
use Rattle.sheets.specs.Whole.{set_fits}
use Rattle.sheets.proofs.frame.Frame.state_sets_fit.Given as goal

abbrev pub invariant-loop-reading : goal.invariant-loop-reading
invariant-loop-reading l = l.all ≡ all l.reading (λ x. set_fits l.self.bytes.now l.column l.state x)
