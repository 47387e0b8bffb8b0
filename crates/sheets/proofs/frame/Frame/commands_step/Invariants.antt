use Rattle.std.proofs.Common.{◌≡◌}
use Rattle.ranges.specs.Ranges.{all}
use Rattle.sheets.specs.Whole.{set_steps}
use Rattle.sheets.proofs.frame.Frame.commands_step.Given as goal

abbrev pub invariant-loop-command : goal.invariant-loop-command
invariant-loop-command l = l.all ≡ all l.command (λ x. set_steps l.self.bytes.now l.column l.state l.reading x)
