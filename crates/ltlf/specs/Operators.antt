-- The operators of formulas.
use Rattle.std.specs.Prelude.{Bool, true, false, ◌&&◌, ◌||◌}
use Rattle.ltlf.specs.declared.formula.Unary.{Unary}
use Rattle.ltlf.specs.declared.formula.Unary.TheVariants.{Not, Next, Eventually, Always}
use Rattle.ltlf.specs.declared.formula.Binary.{Binary}
use Rattle.ltlf.specs.declared.formula.Binary.TheVariants.{And, Or, Until}

-- which operators are temporal
abbrev pub temporal1 : Unary → Bool
temporal1 Not = false
temporal1 Next = true
temporal1 Eventually = true
temporal1 Always = true

abbrev pub temporal2 : Binary → Bool
temporal2 And = false
temporal2 Or = false
temporal2 Until = true

-- the value of two operands' values, where the operator is not temporal
abbrev pub joined : Binary → Bool → Bool → Bool
joined And x y = x && y
joined Or x y = x || y
joined Until x y = false
