use Rattle.std.proofs.Common.{refl, string_bytes}
use Rattle.lines.specs.Columns.{column_line, column_reading}
use Rattle.lines.proofs.TextLaws.{texts_more}
use Rattle.lines.proofs.columns.show_columns.Goals as goal

pub loop-column-preserved : goal.loop-column-preserved
loop-column-preserved g c = texts_more c.loop-column.column (column_line (column_reading c.args.sheet.now) c.count-count.result) (string_bytes c.args.out.now) c.loop-column.invariant c.in_ok-show_column.ensures refl
