-- A rule's automaton judges words by its formula.
use Rattle.std.proofs.Common.{◌≡◌, ℕ, true, List, [], ◌++◌, Ok, sym, refl, ◌∙◌, subst, append-nil}
use Rattle.ltlf.specs.Formulas.{Ltl, shape, prefix, digits_below}
use Rattle.ltlf.specs.Passing.{Builds}
use Rattle.ltlf.specs.Reading.{outcome, checked}
use Rattle.ltlf.specs.Laws.{TextOf}
use Rattle.ltlf.specs.Judged.{Judges, Numbered}
use Rattle.ltlf.specs.contracts.automaton.RuleAutomaton.TheImpl.{ghosts as automatic}
use Rattle.ltlf.specs.declared.formula.Formula.{Formula}
use Rattle.ltlf.specs.declared.rule.Rule.{Rule}
use Rattle.ltlf.proofs.Prefixes.{chain_ok, ok_inj, reads_as}
use Rattle.ltlf.proofs.Walks.{walk_judges, walk_none, walk_numbers}

rule_judges : (m : Rule) → Judges automatic m (shape m.formula)
rule_judges m =
    let a : ℕ = m.widths.reading_bits in
    let b : ℕ = m.widths.command_bits in
    let p : Ltl = shape m.formula in
    record { inside = walk_judges a b p m.flat; outside = walk_none a b p 0 }

rule_numbers : (m : Rule) → Numbered automatic m (shape m.formula)
rule_numbers m =
    record { before = refl; behind = walk_numbers m.widths.reading_bits m.widths.command_bits (shape m.formula) }

-- a text is read as one formula
same_formula : (bits : ℕ) (text : List ℕ) (p q : Ltl) → TextOf bits text p → TextOf bits text q → p ≡ q
same_formula bits text p q x y = ok_inj (sym ((reads_as bits text p).1 x) ∙ (reads_as bits text q).1 y)

pub judges : (bits : ℕ) (text : List ℕ) (m : Rule) → TextOf bits text (shape m.formula) → (p : Ltl) → TextOf bits text p → Judges automatic m p
judges bits text m x p y = subst (Judges automatic m) (same_formula bits text (shape m.formula) p x y) (rule_judges m)

pub numbers : (bits : ℕ) (text : List ℕ) (m : Rule) → TextOf bits text (shape m.formula) → (p : Ltl) → TextOf bits text p → Numbered automatic m p
numbers bits text m x p y = subst (Numbered automatic m) (same_formula bits text (shape m.formula) p x y) (rule_numbers m)

-- a text that the check passes has a formula
pub good : (bits : ℕ) (text : List ℕ) (u : Unit {0}) → Ok u ≡ checked bits text → (p : Ltl) × TextOf bits text p
good bits text u h =
    let o = chain_ok (outcome bits text) _ u (sym h) in
    (o.0, (reads_as bits text o.0).0 o.1)

pub whole_prefix : (bits : ℕ) (text : List ℕ) (p : Ltl) → TextOf bits text p → text ≡ prefix p ++ []
whole_prefix bits text p x = x.prefixed ∙ sym (append-nil (prefix p))

-- the text is that of the formula built from it
pub built_text : (bits : ℕ) (text : List ℕ) (u : Unit {0}) → Ok u ≡ checked bits text → (f : Formula) (rest : List ℕ) →
    ((bits : ℕ) (p : Ltl) (after : List ℕ) → text ≡ prefix p ++ after → digits_below bits p ≡ true → Builds (Ok f) rest p after) →
    TextOf bits text (shape f)
built_text bits text u h f rest i =
    let g = good bits text u h in
    let m = i bits g.0 [] (whole_prefix bits text g.0 g.1) g.1.digits in
    subst (TextOf bits text) (sym m.0) g.1
