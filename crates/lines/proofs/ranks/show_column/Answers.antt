use Rattle.std.proofs.Common.{refl, string_bytes}
use Rattle.sheets.specs.Format.{tables_of}
use Rattle.sheets.specs.Opened.{bytes_of}
use Rattle.lines.specs.Ranks.{rank_line}
use Rattle.lines.proofs.TextLaws.{texts_more}
use Rattle.lines.proofs.ranks.show_column.Goals as goal

pub loop-q-preserved : goal.loop-q-preserved
loop-q-preserved c = texts_more c.loop-q.q (rank_line (tables_of (bytes_of c.args.sheet.now)) c.args.column) (string_bytes c.args.out.now) c.loop-q.invariant c.in_ok-show_state.ensures refl
