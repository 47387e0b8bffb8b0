use Rattle.std.proofs.Common.{refl, ap}
use Rattle.sheets.specs.Format.{word, lawful_byte, step_word, set_byte}
use Rattle.sheets.specs.Whole.{whole}
use Rattle.sheets.proofs.Sheet.built_in.Goals as goal

pub frame-requires : goal.frame-requires
unfolding word
frame-requires c = record { fits = refl; laid = refl }

pub invariant_of-result : goal.invariant_of-result
unfolding word lawful_byte step_word set_byte whole
invariant_of-result c = record { checked = ap whole c.frame.ensures }
