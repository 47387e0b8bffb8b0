use Rattle.std.proofs.Common.{◌≡◌, ℕ, ◌*◌, sym, ap, ◌∙◌, arith}
use Rattle.ltlf.specs.Formulas.{shape}
use Rattle.ltlf.specs.Codes.{codes}
use Rattle.ltlf.proofs.Sides.{Sides, sides}
use Rattle.ltlf.proofs.formula.Formula.+codes.Goals as goal

product : (t : ℕ) (c : goal.After-codes-else-is_temporal-2-2 t) →
    c.codes-else-is_temporal-2.result * c.codes-else-is_temporal-2-2.result ≡ codes (shape c.args.self.now)
product t c =
    let s : Sides (shape c.args.self.now) (shape c.in-Binary.p.value) (shape c.in-Binary.q.value) = sides c.in-Binary.is (sym c.if-is_temporal-2.ensures) c.requires in
    let k : c.codes-else-is_temporal-2.result ≡ codes (shape c.in-Binary.p.value) = c.codes-else-is_temporal-2.ensures ∙ ap (λ f. codes (shape f)) c.deref-else-is_temporal-2.ensures in
    let l : c.codes-else-is_temporal-2-2.result ≡ codes (shape c.in-Binary.q.value) = c.codes-else-is_temporal-2-2.ensures ∙ ap (λ f. codes (shape f)) c.deref-else-is_temporal-2-2.ensures in
    ap (λ n. n * c.codes-else-is_temporal-2-2.result) k ∙ ap (λ n. codes (shape c.in-Binary.p.value) * n) l ∙ sym s.whole

pub overflow_mul-result : goal.overflow_mul-result
overflow_mul-result t c =
    let s : Sides (shape c.args.self.now) (shape c.in-Binary.p.value) (shape c.in-Binary.q.value) = sides c.in-Binary.is (sym c.if-is_temporal-2.ensures) c.requires in
    omega (arith, product t c, s.small)

pub returns-else-is_temporal-2 : goal.returns-else-is_temporal-2
returns-else-is_temporal-2 t c = product t c
