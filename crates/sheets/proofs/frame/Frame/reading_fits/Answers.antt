use Rattle.sheets.proofs.Turns.{all_more}
use Rattle.sheets.proofs.frame.Frame.reading_fits.Goals as goal

pub loop-command-preserved : goal.loop-command-preserved
loop-command-preserved c = all_more c.loop-command.command _ c.loop-command.all c.step_fits-all.result c.loop-command.invariant c.step_fits-all.ensures
