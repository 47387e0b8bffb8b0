use Rattle.std.proofs.Common.{◌≡◌, ◌^◌, ◌≤◌, rules, ◌∙◌, ap, min, arith, pow_mono}
use Rattle.ranges.specs.Ranges.{bits}
use Rattle.sheets.specs.Format.{tables_of}
use Rattle.sheets.specs.Opened.{bytes_of}
use Rattle.sheets.proofs.Told.{whole_fits}
use Rattle.lines.proofs.ranks.set_byte.Goals as goal

-- there are at most eight commands
pub returns : goal.returns
returns c =
    let T = tables_of (bytes_of c.args.sheet.now) in
    let f = T.permits c.args.column c.args.q c.args.x in
    let w : 2 ^ T.b ≤ 2 ^ 3 = pow_mono (whole_fits (bytes_of c.args.sheet.now) c.args.sheet.now.checked).few_command_bits in
    let m : min c.commands.result 8 ≡ 2 ^ T.b = omega (arith, c.commands.ensures) in
    c.bits_where.ensures f (λ i b l k. search rules) ∙ ap (λ n. bits n f) m
