use Rattle.std.proofs.Common.{◌≡◌, ℕ, ◌<◌, ◌≤◌, List, length, Ok, sym, ap, ◌∙◌, subst, arith, ltb-false, ltb-true}
use Rattle.std.proofs.lemmas.Result.{err_from_is_err_and}
use Rattle.ltlf.specs.Operators.{temporal1, temporal2}
use Rattle.ltlf.specs.Formulas.{truth, digit}
use Rattle.ltlf.specs.Tokens.{terms_with}
use Rattle.ltlf.specs.declared.token.Token.TheVariants.{Unary, Binary}
use Rattle.ltlf.proofs.Passages.{peel, ends, token_fault, term_fault, truth_passes, digit_passes, one_passes, two_left, two_passes}
use Rattle.ltlf.proofs.check.Reader.+formula.Goals as goal

pub returns-in_default-clause-told : goal.returns-in_default-clause-told
returns-in_default-clause-told t c =
    let bs : List ℕ = c.args.self.now.rest.now in
    let h : length bs < 1 = omega (arith, ltb-true) in
    λ k _. ends k _ _ _ bs h

pub returns-in_err-token-clause-told : goal.returns-in_err-token-clause-told
returns-in_err-token-clause-told t c =
    let bs : List ℕ = c.args.self.now.rest.now in
    let h : 1 ≤ length bs = omega (arith, ltb-false) in
    let p = err_from_is_err_and c.from_residual.result c.from_residual.ensures.1 in
    rw (p.1, p.2) (token_fault _ _ _ bs _ _ (peel bs h) _ (sym c.in_err-token.ensures))

pub returns-in_err-self-clause-told : goal.returns-in_err-self-clause-told
returns-in_err-self-clause-told t c =
    let bs : List ℕ = c.args.self.now.rest.now in
    let h : 1 ≤ length bs = omega (arith, ltb-false) in
    let p = err_from_is_err_and c.from_residual-in_err-self.result c.from_residual-in_err-self.ensures.1 in
    rw (p.1, p.2) (term_fault _ _ _ bs _ _ (peel bs h) _ _ (sym c.in_ok-token.ensures) (sym c.in_err-self.ensures))

pub returns-in-Truth-clause-told : goal.returns-in-Truth-clause-told
returns-in-Truth-clause-told t c =
    let bs : List ℕ = c.args.self.now.rest.now in
    let h : 1 ≤ length bs = omega (arith, ltb-false) in
    λ k l. (truth _, truth_passes _ _ _ bs _ _ (peel bs h) _ _ (sym c.in_ok-token.ensures ∙ ap Ok c.in-Truth.is) (subst (λ x. terms_with x c.args.beneath c.args.self.now.terms ≡ Ok c.in_ok-self.field-0) c.in-Truth.is (sym c.in_ok-self.ensures)) k l)

pub returns-in-Digit-clause-told : goal.returns-in-Digit-clause-told
returns-in-Digit-clause-told t c =
    let bs : List ℕ = c.args.self.now.rest.now in
    let h : 1 ≤ length bs = omega (arith, ltb-false) in
    λ k l. (digit _, digit_passes _ _ _ bs _ _ (peel bs h) _ _ (sym c.in_ok-token.ensures ∙ ap Ok c.in-Digit.is) (subst (λ x. terms_with x c.args.beneath c.args.self.now.terms ≡ Ok c.in_ok-self.field-0) c.in-Digit.is (sym c.in_ok-self.ensures)) k l)

pub returns-in-Unary-clause-told : goal.returns-in-Unary-clause-told
returns-in-Unary-clause-told t c =
    let bs : List ℕ = c.args.self.now.rest.now in
    let h : 1 ≤ length bs = omega (arith, ltb-false) in
    let op = c.in-Unary.op in
    let temp : c.is_temporal.result ≡ temporal1 op = c.is_temporal.ensures in
    let a : terms_with (Unary op) c.args.beneath c.args.self.now.terms ≡ Ok c.in_ok-self.field-0 = subst (λ x. terms_with x c.args.beneath c.args.self.now.terms ≡ Ok c.in_ok-self.field-0) c.in-Unary.is (sym c.in_ok-self.ensures) in
    one_passes _ _ _ bs _ _ (peel bs h) op _ _ _ _ (sym c.in_ok-token.ensures ∙ ap Ok c.in-Unary.is) a (rw (← temp) c.formula.ensures.told)

pub returns-in_err-formula-in-Binary-clause-told : goal.returns-in_err-formula-in-Binary-clause-told
returns-in_err-formula-in-Binary-clause-told t c =
    let bs : List ℕ = c.args.self.now.rest.now in
    let h : 1 ≤ length bs = omega (arith, ltb-false) in
    let op = c.in-Binary.op in
    let temp : c.is_temporal-in-Binary.result ≡ temporal2 op = c.is_temporal-in-Binary.ensures in
    let a : terms_with (Binary op) c.args.beneath c.args.self.now.terms ≡ Ok c.in_ok-self.field-0 = subst (λ x. terms_with x c.args.beneath c.args.self.now.terms ≡ Ok c.in_ok-self.field-0) c.in-Binary.is (sym c.in_ok-self.ensures) in
    let p = err_from_is_err_and c.from_residual-in_err-formula-in-Binary.result c.from_residual-in_err-formula-in-Binary.ensures.1 in
    rw (p.1, p.2) (two_left _ _ _ bs _ _ (peel bs h) op _ _ (sym c.in_ok-token.ensures ∙ ap Ok c.in-Binary.is) a (rw (← temp) c.in_err-formula-in-Binary.ensures.told))

pub returns-in_ok-formula-in-Binary-clause-told : goal.returns-in_ok-formula-in-Binary-clause-told
returns-in_ok-formula-in-Binary-clause-told t c =
    let bs : List ℕ = c.args.self.now.rest.now in
    let h : 1 ≤ length bs = omega (arith, ltb-false) in
    let op = c.in-Binary.op in
    let temp : c.is_temporal-in-Binary.result ≡ temporal2 op = c.is_temporal-in-Binary.ensures in
    let a : terms_with (Binary op) c.args.beneath c.args.self.now.terms ≡ Ok c.in_ok-self.field-0 = subst (λ x. terms_with x c.args.beneath c.args.self.now.terms ≡ Ok c.in_ok-self.field-0) c.in-Binary.is (sym c.in_ok-self.ensures) in
    two_passes _ _ _ bs _ _ (peel bs h) op _ c.formula-in-Binary.new.self.terms c.formula-in-Binary.new.self.rest.now _ _ _ (sym c.in_ok-token.ensures ∙ ap Ok c.in-Binary.is) a (rw (← temp) c.in_ok-formula-in-Binary.ensures.told) c.formula-in-Binary.ensures.shorter (rw (← temp, ← c.formula-in-Binary.ensures.kept) c.formula-in-Binary-2.ensures.told)
