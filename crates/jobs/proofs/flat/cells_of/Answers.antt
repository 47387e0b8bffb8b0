use Rattle.std.proofs.Common.{arith, pow_mono}
use Rattle.std.proofs.lemmas.Nat.{mul-le}
use Rattle.jobs.proofs.flat.cells_of.Goals as goal

pub returns-clause-bound : goal.returns-clause-bound
returns-clause-bound c =
    let w = c.args.widths in
    mul-le _ _ 2040 8 (mul-le _ _ 255 8 (omega arith) (omega (arith, pow_mono w.narrow_readings))) (omega (arith, pow_mono w.narrow_commands))
