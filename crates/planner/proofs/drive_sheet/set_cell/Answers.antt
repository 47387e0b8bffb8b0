use Rattle.std.proofs.Common.{◌<◌, ◌∙◌, arith}
use Rattle.std.proofs.lemmas.Nat.{one_shl}
use Rattle.sheets.specs.Encoding.{set_cell}
use Rattle.planner.proofs.drive_sheet.set_cell.Goals as goal

pub returns : goal.returns
unfolding set_cell
returns g c =
    let T = g.T.DriveTables.tables c.args.tables.now in
    let I = g.met.T.DriveTables.in_range c.args.tables.now in
    let a : T.a < 64 = omega (arith, I.few_reading_bits) in
    let n = c.numbers-numbers.ensures in
    c.set_byte.ensures ∙ simp (n.reading_bits, n.count, one_shl T.a 64 a)
