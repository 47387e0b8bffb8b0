-- What is made from a text.
use Rattle.std.specs.Prelude.{◌≡◌, ℕ, ◌+◌, List, Ok, Err, Result}
use Rattle.automata.specs.declared.automaton.Automaton.{Ghosts as Automatic}
use Rattle.ltlf.specs.Formulas.{Ltl, shape}
use Rattle.ltlf.specs.Judged.{Judges, Numbered}
use Rattle.ltlf.specs.Laws.{TextOf}
use Rattle.ltlf.specs.Reading.{outcome, checked}
use Rattle.ltlf.specs.declared.fault.RuleFault.{RuleFault}
use Rattle.ltlf.specs.declared.fault.RuleFault.TheVariants.{Text, Memory}
use Rattle.ltlf.specs.declared.rule.Rule.{Rule}
use Rattle.ltlf.specs.declared.widths.Widths.{Widths}

-- the number of bits
abbrev pub bits_of : Widths → ℕ
bits_of w = w.reading_bits + w.command_bits

-- the rule of the formula that the text is read as, or the text's refusal; memory may be wanting only where the text is good
abbrev pub Makes : Widths → List ℕ → Result Rule RuleFault → Type 0
Makes w text (Ok m) = (outcome (bits_of w) text ≡ Ok (shape m.formula)) × (m.widths ≡ w)
Makes w text (Err (Text e)) = checked (bits_of w) text ≡ Err e
Makes w text (Err Memory) = checked (bits_of w) text ≡ Ok tt

-- the theorem: where a text is that of p, the rule made from it judges words by p
abbrev pub JudgesWords : Automatic Rule → Widths → List ℕ → Result Rule RuleFault → Type 0
JudgesWords f w text (Ok m) = (p : Ltl) → TextOf (bits_of w) text p → Judges f m p
JudgesWords f w text (Err e) = Unit {0}

-- and its states are numbered by the codes of p's terms
abbrev pub NumbersStates : Automatic Rule → Widths → List ℕ → Result Rule RuleFault → Type 0
NumbersStates f w text (Ok m) = (p : Ltl) → TextOf (bits_of w) text p → Numbered f m p
NumbersStates f w text (Err e) = Unit {0}
