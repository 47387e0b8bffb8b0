use Rattle.std.proofs.Common.{◌≡◌, ℕ, ◌<◌, Some, None, Option, refl, ap, ◌∙◌, arith}
use Rattle.std.specs.Option.{unwrap_or}
use Rattle.std.proofs.lemmas.Nat.{one_shl}
use Rattle.sheets.specs.Encoding.{step_cell, field_of}
use Rattle.planner.proofs.drive_sheet.step_cell.Goals as goal

field_is : (o : Option ℕ) → unwrap_or o 65535 ≡ field_of o
field_is None = refl
field_is (Some t) = refl

pub returns : goal.returns
unfolding step_cell
returns g c =
    let T = g.T.DriveTables.tables c.args.tables.now in
    let I = g.met.T.DriveTables.in_range c.args.tables.now in
    let a : T.a < 64 = omega (arith, I.few_reading_bits) in
    let b : T.b < 64 = omega (arith, I.few_command_bits) in
    let n = c.numbers-numbers.ensures in
    c.unwrap_or.ensures ∙ field_is c.step.result ∙ ap field_of c.step.ensures ∙ simp (n.reading_bits, n.command_bits, one_shl T.a 64 a, one_shl T.b 64 b)
