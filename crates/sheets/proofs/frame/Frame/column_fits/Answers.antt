use Rattle.sheets.proofs.Turns.{all_more}
use Rattle.sheets.proofs.frame.Frame.column_fits.Goals as goal

pub loop-state-preserved : goal.loop-state-preserved
loop-state-preserved c = all_more c.loop-state.state _ c.loop-state.all c.state_sets_fit-all.result c.loop-state.invariant c.state_sets_fit-all.ensures
