use Rattle.std.proofs.Common.{arith}
use Rattle.ltlf.specs.Formulas.{shape}
use Rattle.ltlf.specs.CodeLaws.{codes_few}
use Rattle.ltlf.proofs.automaton.RuleAutomaton.count.Goals as goal

pub overflow_add-result : goal.overflow_add-result
overflow_add-result c = omega (arith, c.codes.ensures, codes_few (shape c.args.self.now.formula) c.args.self.now.few)
