use Rattle.std.proofs.Common.{arith}
use Rattle.ltlf.specs.Formulas.{shape}
use Rattle.ltlf.specs.CodeLaws.{codes_some}
use Rattle.ltlf.proofs.formula.Formula.+marked.Goals as goal

pub nonzero_rem-c : goal.nonzero_rem-c
nonzero_rem-c t c = omega (arith, c.codes-k.ensures, codes_some (shape c.deref-else-is_temporal-2.result.now))

pub nonzero_div-c : goal.nonzero_div-c
nonzero_div-c t c = omega (arith, c.codes-k.ensures, codes_some (shape c.deref-else-is_temporal-2.result.now))
