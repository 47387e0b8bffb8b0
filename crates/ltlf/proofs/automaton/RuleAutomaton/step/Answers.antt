use Rattle.std.proofs.Common.{arith}
use Rattle.ltlf.specs.Formulas.{shape}
use Rattle.ltlf.specs.CodeLaws.{codes_some}
use Rattle.ltlf.proofs.automaton.RuleAutomaton.step.Goals as goal

pub step-requires-clause-within : goal.step-requires-clause-within
step-requires-clause-within c =
    omega (arith, c.saturating_sub-codes.ensures, codes_some (shape c.args.self.now.formula), c.if-q-codes.false, c.codes.ensures)
