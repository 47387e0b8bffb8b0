use Rattle.std.proofs.Common.{ap, ◌++◌, codes, decimal, string_bytes}
use Rattle.lines.specs.Columns.{column_reading}
use Rattle.lines.proofs.TextLaws.{texts_more}
use Rattle.lines.proofs.columns.show_readings.Goals as goal

pub loop-q-preserved : goal.loop-q-preserved
loop-q-preserved c = texts_more c.loop-q.q (λ q. codes " " ++ decimal (column_reading c.args.sheet.now c.args.column q)) (string_bytes c.args.out.now) c.loop-q.invariant c.in_ok-write.ensures.bytes (ap (λ n. codes " " ++ decimal n) c.reading-byte.ensures)
