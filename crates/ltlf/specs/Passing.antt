-- What is promised of a reader that is on its way through a text.
use Rattle.std.specs.Prelude.{◌≡◌, ℕ, List, Ok, Err, Result}
use Rattle.ltlf.specs.Formulas.{Ltl, shape}
use Rattle.ltlf.specs.Reading.{Read}
use Rattle.ltlf.specs.declared.fault.TextFault.{TextFault}
use Rattle.ltlf.specs.declared.fault.RuleFault.{RuleFault}
use Rattle.ltlf.specs.declared.fault.RuleFault.TheVariants.{Memory}
use Rattle.ltlf.specs.declared.formula.Formula.{Formula}

-- it passed over one formula, and left the terms and the bytes behind it; or it met the fault
abbrev pub Passes : Result (Unit {0}) TextFault → ℕ → List ℕ → Result Read TextFault → Type 0
Passes (Ok u) n bytes s = (p : Ltl) × (s ≡ Ok (record { formula = p; terms = n; rest = bytes }))
Passes (Err e) n bytes s = s ≡ Err e

-- it built the formula, and left the bytes behind it; or it lacked memory
abbrev pub Builds : Result Formula RuleFault → List ℕ → Ltl → List ℕ → Type 0
Builds (Ok f) bytes p after = (shape f ≡ p) × (bytes ≡ after)
Builds (Err e) bytes p after = e ≡ Memory
