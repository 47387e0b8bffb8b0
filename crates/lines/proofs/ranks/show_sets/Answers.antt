use Rattle.std.proofs.Common.{ap, ◌++◌, codes, decimal, string_bytes}
use Rattle.sheets.specs.Format.{tables_of}
use Rattle.sheets.specs.Opened.{bytes_of}
use Rattle.sheets.specs.Encoding.{set_of}
use Rattle.lines.proofs.TextLaws.{texts_more}
use Rattle.lines.proofs.ranks.show_sets.Goals as goal

pub loop-x-preserved : goal.loop-x-preserved
loop-x-preserved c = texts_more c.loop-x.x (λ x. codes " " ++ decimal (set_of (tables_of (bytes_of c.args.sheet.now)) c.args.column c.args.q x)) (string_bytes c.args.out.now) c.loop-x.invariant c.in_ok-write.ensures.bytes (ap (λ n. codes " " ++ decimal n) c.set_byte-set.ensures)
