use Rattle.std.proofs.Common.{◌≡◌, ◌++◌, string_bytes}
use Rattle.lines.specs.Columns.{column_reading, column_texts}
use Rattle.lines.proofs.columns.show_readings.Given as goal

abbrev pub invariant-loop-q : goal.invariant-loop-q
invariant-loop-q l = string_bytes l.out ≡ string_bytes l.fn.out ++ column_texts (column_reading l.sheet l.column) l.q
