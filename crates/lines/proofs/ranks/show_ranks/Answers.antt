use Rattle.std.proofs.Common.{refl, arith, string_bytes}
use Rattle.sheets.specs.Format.{tables_of}
use Rattle.lines.specs.Ranks.{rank_lines_of}
use Rattle.sheets.specs.Opened.{bytes_of}
use Rattle.sheets.proofs.Told.{whole_fits}
use Rattle.lines.proofs.TextLaws.{texts_more}
use Rattle.lines.proofs.ranks.show_ranks.Goals as goal

pub overflow_add-column-end : goal.overflow_add-column-end
overflow_add-column-end c = omega (arith, c.rights-column-end.ensures, (whole_fits (bytes_of c.args.sheet.now) c.args.sheet.now.checked).few_rights)

pub loop-column-preserved : goal.loop-column-preserved
loop-column-preserved c = texts_more c.loop-column.column (rank_lines_of (tables_of (bytes_of c.args.sheet.now))) (string_bytes c.args.out.now) c.loop-column.invariant c.in_ok-show_column.ensures refl
