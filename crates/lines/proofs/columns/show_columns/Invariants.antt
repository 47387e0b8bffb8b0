use Rattle.std.proofs.Common.{◌≡◌, ◌++◌, string_bytes}
use Rattle.lines.specs.Columns.{column_reading, column_line}
use Rattle.lines.specs.Texts.{texts}
use Rattle.lines.proofs.columns.show_columns.Given as goal

abbrev pub invariant-loop-column : goal.invariant-loop-column
invariant-loop-column g l = string_bytes l.out ≡ string_bytes l.fn.out ++ texts l.column (column_line (column_reading l.sheet) l.count)
