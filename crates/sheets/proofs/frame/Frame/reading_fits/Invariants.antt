use Rattle.std.proofs.Common.{◌≡◌}
use Rattle.ranges.specs.Ranges.{all}
use Rattle.sheets.specs.Whole.{step_fits}
use Rattle.sheets.proofs.frame.Frame.reading_fits.Given as goal

abbrev pub invariant-loop-command : goal.invariant-loop-command
invariant-loop-command l = l.all ≡ all l.command (λ y. step_fits l.self.bytes.now l.state l.reading y)
