-- The terms and codes of a formula of two sides.
use Rattle.std.proofs.Common.{◌≡◌, ℕ, ◌*◌, ◌<◌, ◌≤◌, false, length, Box, ap, ◌∙◌, arith}
use Rattle.ltlf.specs.Operators.{temporal2}
use Rattle.ltlf.specs.Formulas.{Ltl, two, shape, terms}
use Rattle.ltlf.specs.Codes.{codes}
use Rattle.ltlf.specs.declared.formula.Binary.{Binary as BinaryOp}
use Rattle.ltlf.specs.declared.formula.Formula.{Formula, Binary}
use Rattle.ltlf.proofs.formula.Formula.TheLaws.{the_size}
use Rattle.ltlf.specs.declared.formula.Formula.TheViews.{sized-Binary}
use Rattle.ltlf.specs.CodeLaws.{codes_some, codes_few, terms_two, codes_two}
use Rattle.std.specs.declared.alloc.Global.{Global}

pub record Sides (s p q : Ltl) : Type 0 where
  pub whole : codes s ≡ codes p * codes q
  pub left : length (terms p) ≤ 3
  pub right : length (terms q) ≤ 3
  pub left_some : 1 ≤ codes p
  pub small : codes s ≤ 27

pub sides : {f : Formula} {o : BinaryOp} {p q : Box Formula Global} → f ≡ Binary o p q → temporal2 o ≡ false → length (terms (shape f)) ≤ 3 →
    Sides (shape f) (shape p.value) (shape q.value)
sides {f} {o} {p} {q} e t h =
    let n = terms_two o (shape p.value) (shape q.value) t in
    let m : length (terms (shape f)) ≡ length (terms (two o (shape p.value) (shape q.value))) = ap (λ f. length (terms (shape f))) e in
    record {
      whole = ap (λ f. codes (shape f)) e ∙ codes_two o (shape p.value) (shape q.value) t;
      left = omega (arith, n, m);
      right = omega (arith, n, m);
      left_some = codes_some (shape p.value);
      small = codes_few (shape f) h;
    }

-- the operands are smaller trees than the formula
pub fewer : {f : Formula} {o : BinaryOp} {p q : Box Formula Global} {t : ℕ} → f ≡ Binary o p q → the_size f ≡ t → (the_size p.value < t) × (the_size q.value < t)
fewer {o = o} {p = p} {q = q} e m = omega (arith, ap the_size e, sized-Binary o p q)
