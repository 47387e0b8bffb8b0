use Rattle.std.proofs.Common.{ℕ, ◌<◌, ◌≤◌, List, ◌++◌, length, Some, sym, ap, ◌∙◌, arith, ltb-false, ltb-true}
use Rattle.std.proofs.lemmas.Result.{err_from_is_err_and}
use Rattle.ltlf.specs.Formulas.{one, two, shape, prefix}
use Rattle.ltlf.proofs.Passages.{peel}
use Rattle.ltlf.proofs.Heads.{no_head, some_head, truth_head, digit_head, one_head, two_head}
use Rattle.ltlf.proofs.build.Builder.+formula.Goals as goal

pub returns-in_default-clause-built : goal.returns-in_default-clause-built
returns-in_default-clause-built t c =
    let bs : List ℕ = c.args.self.now.rest.now in
    let h : length bs < 1 = omega (arith, ltb-true) in
    λ bits p after e d. absurd (some_head p bs after e h)

pub returns-in_err-v-clause-built : goal.returns-in_err-v-clause-built
returns-in_err-v-clause-built t c =
    let bs : List ℕ = c.args.self.now.rest.now in
    let h : 1 ≤ length bs = omega (arith, ltb-false) in
    λ bits p after e d. absurd (no_head bits p _ _ after (sym (peel bs h) ∙ e) d (sym c.kind_of.ensures ∙ c.in_err-v.ensures.ok_part))

pub returns-in-Truth-clause-built : goal.returns-in-Truth-clause-built
returns-in-Truth-clause-built t c =
    let bs : List ℕ = c.args.self.now.rest.now in
    let h : 1 ≤ length bs = omega (arith, ltb-false) in
    λ bits p after e d. truth_head bits _ _ after p _ (sym (peel bs h) ∙ e) d (sym c.kind_of.ensures ∙ c.in_ok-v.ensures.ok_part ∙ ap Some c.in-Truth.is)

pub returns-in-Digit-clause-built : goal.returns-in-Digit-clause-built
returns-in-Digit-clause-built t c =
    let bs : List ℕ = c.args.self.now.rest.now in
    let h : 1 ≤ length bs = omega (arith, ltb-false) in
    λ bits p after e d. digit_head bits _ _ after p _ (sym (peel bs h) ∙ e) d (sym c.kind_of.ensures ∙ c.in_ok-v.ensures.ok_part ∙ ap Some c.in-Digit.is)

pub returns-in_err-p-in-Unary-clause-built : goal.returns-in_err-p-in-Unary-clause-built
returns-in_err-p-in-Unary-clause-built t c =
    let bs : List ℕ = c.args.self.now.rest.now in
    let h : 1 ≤ length bs = omega (arith, ltb-false) in
    let r = err_from_is_err_and c.from_residual-in_err-p-in-Unary.result c.from_residual-in_err-p-in-Unary.ensures.1 in
    λ bits p after e d.
    let s = one_head bits _ _ after p c.in-Unary.op (sym (peel bs h) ∙ e) d (sym c.kind_of.ensures ∙ c.in_ok-v.ensures.ok_part ∙ ap Some c.in-Unary.is) in
    rw (r.1, r.2) (c.in_err-p-in-Unary.ensures.built bits s.0 after s.2 s.3)

pub returns-in_ok-new-in-Unary-clause-built : goal.returns-in_ok-new-in-Unary-clause-built
returns-in_ok-new-in-Unary-clause-built t c =
    let bs : List ℕ = c.args.self.now.rest.now in
    let h : 1 ≤ length bs = omega (arith, ltb-false) in
    λ bits p after e d.
    let s = one_head bits _ _ after p c.in-Unary.op (sym (peel bs h) ∙ e) d (sym c.kind_of.ensures ∙ c.in_ok-v.ensures.ok_part ∙ ap Some c.in-Unary.is) in
    let i = c.in_ok-p-in-Unary.ensures.built bits s.0 after s.2 s.3 in
    (ap (one c.in-Unary.op) (ap shape c.in_ok-new-in-Unary.ensures.ok ∙ i.0) ∙ s.1, i.1)

pub returns-in_err-p-in-Binary-clause-built : goal.returns-in_err-p-in-Binary-clause-built
returns-in_err-p-in-Binary-clause-built t c =
    let bs : List ℕ = c.args.self.now.rest.now in
    let h : 1 ≤ length bs = omega (arith, ltb-false) in
    let r = err_from_is_err_and c.from_residual-in_err-p-in-Binary.result c.from_residual-in_err-p-in-Binary.ensures.1 in
    λ bits p after e d.
    let s = two_head bits _ _ after p c.in-Binary.op (sym (peel bs h) ∙ e) d (sym c.kind_of.ensures ∙ c.in_ok-v.ensures.ok_part ∙ ap Some c.in-Binary.is) in
    rw (r.1, r.2) (c.in_err-p-in-Binary.ensures.built bits s.0 (prefix s.1 ++ after) s.3 s.4)

pub returns-in_err-q-in-Binary-clause-built : goal.returns-in_err-q-in-Binary-clause-built
returns-in_err-q-in-Binary-clause-built t c =
    let bs : List ℕ = c.args.self.now.rest.now in
    let h : 1 ≤ length bs = omega (arith, ltb-false) in
    let r = err_from_is_err_and c.from_residual-in_err-q-in-Binary.result c.from_residual-in_err-q-in-Binary.ensures.1 in
    λ bits p after e d.
    let s = two_head bits _ _ after p c.in-Binary.op (sym (peel bs h) ∙ e) d (sym c.kind_of.ensures ∙ c.in_ok-v.ensures.ok_part ∙ ap Some c.in-Binary.is) in
    let i = c.in_ok-p-in-Binary.ensures.built bits s.0 (prefix s.1 ++ after) s.3 s.4 in
    rw (r.1, r.2) (c.in_err-q-in-Binary.ensures.built bits s.1 after i.1 s.5)

pub returns-in_ok-new-in-Binary-2-clause-built : goal.returns-in_ok-new-in-Binary-2-clause-built
returns-in_ok-new-in-Binary-2-clause-built t c =
    let bs : List ℕ = c.args.self.now.rest.now in
    let h : 1 ≤ length bs = omega (arith, ltb-false) in
    let op = c.in-Binary.op in
    λ bits p after e d.
    let s = two_head bits _ _ after p op (sym (peel bs h) ∙ e) d (sym c.kind_of.ensures ∙ c.in_ok-v.ensures.ok_part ∙ ap Some c.in-Binary.is) in
    let i = c.in_ok-p-in-Binary.ensures.built bits s.0 (prefix s.1 ++ after) s.3 s.4 in
    let j = c.in_ok-q-in-Binary.ensures.built bits s.1 after i.1 s.5 in (
      ap (λ f. two op f (shape c.in_ok-new-in-Binary-2.field-0.value)) (ap shape c.in_ok-new-in-Binary.ensures.ok ∙ i.0)
          ∙ ap (two op s.0) (ap shape c.in_ok-new-in-Binary-2.ensures.ok ∙ j.0)
          ∙ s.2,
      j.1,
    )
