use Rattle.std.proofs.Common.{◌+◌, Ok, sym, ap, ◌∙◌, arith}
use Rattle.ltlf.proofs.Prefixes.{sized_ok}
use Rattle.ltlf.proofs.check.count_states.Goals as goal

pub pow-requires : goal.pow-requires
pow-requires c = omega (arith, (sized_ok (c.args.a + c.args.b) c.args.text.now c.in_ok-terms.terms (sym c.in_ok-terms.ensures)).1)

pub overflow_add-result : goal.overflow_add-result
overflow_add-result c = omega (arith, c.pow.ensures, (sized_ok (c.args.a + c.args.b) c.args.text.now c.in_ok-terms.terms (sym c.in_ok-terms.ensures)).1)

pub returns : goal.returns
returns c = ap (λ n. Ok (1 + n)) c.pow.ensures ∙ sym (sized_ok (c.args.a + c.args.b) c.args.text.now c.in_ok-terms.terms (sym c.in_ok-terms.ensures)).0
