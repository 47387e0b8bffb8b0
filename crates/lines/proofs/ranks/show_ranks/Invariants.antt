use Rattle.std.proofs.Common.{◌≡◌, ◌++◌, string_bytes}
use Rattle.sheets.specs.Format.{tables_of}
use Rattle.sheets.specs.Opened.{bytes_of}
use Rattle.lines.specs.Ranks.{rank_lines_of}
use Rattle.lines.specs.Texts.{texts}
use Rattle.lines.proofs.ranks.show_ranks.Given as goal

abbrev pub invariant-loop-column : goal.invariant-loop-column
invariant-loop-column l = string_bytes l.out ≡ string_bytes l.fn.out ++ texts l.column (rank_lines_of (tables_of (bytes_of l.sheet)))
