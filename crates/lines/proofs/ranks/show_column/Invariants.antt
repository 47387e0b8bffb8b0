use Rattle.std.proofs.Common.{◌≡◌, ◌++◌, string_bytes}
use Rattle.sheets.specs.Format.{tables_of}
use Rattle.sheets.specs.Opened.{bytes_of}
use Rattle.lines.specs.Ranks.{rank_line}
use Rattle.lines.specs.Texts.{texts}
use Rattle.lines.proofs.ranks.show_column.Given as goal

abbrev pub invariant-loop-q : goal.invariant-loop-q
invariant-loop-q l = string_bytes l.out ≡ string_bytes l.fn.out ++ texts l.q (rank_line (tables_of (bytes_of l.sheet)) l.column)
