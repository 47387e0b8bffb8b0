use Rattle.sheets.proofs.Turns.{all_more}
use Rattle.sheets.proofs.frame.Frame.sets_fit.Goals as goal

pub loop-column-preserved : goal.loop-column-preserved
loop-column-preserved c = all_more c.loop-column.column _ c.loop-column.all c.column_fits-all.result c.loop-column.invariant c.column_fits-all.ensures
