use Rattle.sheets.proofs.Turns.{all_more}
use Rattle.sheets.proofs.frame.Frame.steps_fit.Goals as goal

pub loop-reading-preserved : goal.loop-reading-preserved
loop-reading-preserved c = all_more c.loop-reading.reading _ c.loop-reading.all c.reading_fits-all.result c.loop-reading.invariant c.reading_fits-all.ensures
