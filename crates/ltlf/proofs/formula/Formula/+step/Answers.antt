use Rattle.std.proofs.Common.{◌≡◌, ℕ, ◌+◌, ◌*◌, ◌<◌, sym, ap, ◌∙◌, arith}
use Rattle.ltlf.specs.Formulas.{Ltl, shape}
use Rattle.ltlf.specs.Codes.{codes}
use Rattle.ltlf.specs.CodeLaws.{low, high, together, codes_some}
use Rattle.ltlf.proofs.Sides.{Sides, sides, fewer}
use Rattle.ltlf.proofs.formula.Formula.+step.Goals as goal

pub nonzero_rem-c : goal.nonzero_rem-c
nonzero_rem-c t c = omega (arith, c.codes-k.ensures, codes_some (shape c.deref-else-is_temporal-2.result.now))

pub step-u-requires : goal.step-u-requires
step-u-requires t c =
    let p : Ltl = shape c.in-Binary.p.value in
    let s = sides c.in-Binary.is (sym c.if-is_temporal-2.ensures) c.requires.few in
    let k : c.codes-k.result ≡ codes p = c.codes-k.ensures ∙ ap (λ f. codes (shape f)) c.deref-else-is_temporal-2.ensures in
    let d = c.deref-else-is_temporal-2-2.ensures in
    (rw d (fewer c.in-Binary.is c.decreases).0, (rw d s.left, rw (d, k) (low c.args.c (codes p) s.left_some)))

pub step-v-requires : goal.step-v-requires
step-v-requires t c =
    let p : Ltl = shape c.in-Binary.p.value in
    let q : Ltl = shape c.in-Binary.q.value in
    let s = sides c.in-Binary.is (sym c.if-is_temporal-2.ensures) c.requires.few in
    let k : c.codes-k.result ≡ codes p = c.codes-k.ensures ∙ ap (λ f. codes (shape f)) c.deref-else-is_temporal-2.ensures in
    let d = c.deref-else-is_temporal-2-3.ensures in
    (rw d (fewer c.in-Binary.is c.decreases).1, (rw d s.right, rw (d, k) (high c.args.c (codes p) (codes q) _ s.whole s.left_some c.requires.within)))

-- the two sides' codes together, and their bound
module _ (t : ℕ) (c : goal.After-step-v t) where
  abbrev left : Ltl
  left = shape c.in-Binary.p.value

  abbrev right : Ltl
  right = shape c.in-Binary.q.value

  parted : Sides (shape c.args.self.now) left right
  parted = sides c.in-Binary.is (sym c.if-is_temporal-2.ensures) c.requires.few

  many : c.codes-k.result ≡ codes left
  many = c.codes-k.ensures ∙ ap (λ f. codes (shape f)) c.deref-else-is_temporal-2.ensures

  bounded : c.step-u.result + c.codes-k.result * c.step-v.result < codes (shape c.args.self.now)
  bounded =
      let u : c.step-u.result < codes left = rw c.deref-else-is_temporal-2-2.ensures at c.step-u.ensures.bound in
      let v : c.step-v.result < codes right = rw c.deref-else-is_temporal-2-3.ensures at c.step-v.ensures.bound in
      rw many (together _ _ _ _ _ parted.whole u v)

pub overflow_mul-result : goal.overflow_mul-result
overflow_mul-result t c = omega (arith, bounded t c, (parted t c).small)

pub overflow_add-result : goal.overflow_add-result
overflow_add-result t c = omega (arith, bounded t c, (parted t c).small)

pub returns-else-is_temporal-2-clause-bound : goal.returns-else-is_temporal-2-clause-bound
returns-else-is_temporal-2-clause-bound t c = bounded t c
