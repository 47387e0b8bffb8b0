use Rattle.std.proofs.Common.{ℕ, List, [], sym, refl}
use Rattle.std.proofs.lemmas.Result.{err_from_is_err_and}
use Rattle.ltlf.specs.Making.{bits_of}
use Rattle.ltlf.proofs.Prefixes.{reads_as}
use Rattle.ltlf.proofs.Theorem.{judges, numbers, good, whole_prefix, built_text}
use Rattle.ltlf.proofs.text.build.Goals as goal

pub returns-in_err-formula-clause-makes : goal.returns-in_err-formula-clause-makes
returns-in_err-formula-clause-makes c =
    let bits : ℕ = bits_of c.args.widths in
    let text : List ℕ = c.args.text.now in
    let r = err_from_is_err_and c.from_residual.result c.from_residual.ensures.1 in
    let g = good bits text tt (sym c.requires) in
    let m = c.in_err-formula.ensures.built bits g.0 [] (whole_prefix bits text g.0 g.1) g.1.digits in
    rw (r.1, r.2, m) c.requires

pub invariant_of-result : goal.invariant_of-result
invariant_of-result c =
    let x = built_text (bits_of c.args.widths) c.args.text.now tt (sym c.requires) _ _ c.in_ok-formula.ensures.built in
    record { flat = x.rule.flat; few = x.rule.few }

pub returns : goal.returns
returns c =
    let bits : ℕ = bits_of c.args.widths in
    let text : List ℕ = c.args.text.now in
    let x = built_text bits text tt (sym c.requires) _ _ c.in_ok-formula.ensures.built in
    record { makes = ((reads_as bits text _).1 x, refl); judges = judges bits text _ x; numbers = numbers bits text _ x }
