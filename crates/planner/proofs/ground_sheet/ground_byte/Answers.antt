use Rattle.std.proofs.Common.{ℕ, List, get_or, sym, ap, ◌∙◌, arith}
use Rattle.planner.proofs.GroundLaws.{byte_head, byte_column}
use Rattle.planner.proofs.ground_sheet.ground_byte.Goals as goal

pub returns-then-i-lt16 : goal.returns-then-i-lt16
returns-then-i-lt16 g c =
    ap (λ (l : List ℕ). get_or l c.args.i 0) (c.as_flattened.ensures.value ∙ c.ground_header.ensures) ∙ sym (byte_head (g.T.GroundColumns.columns c.args.columns.now) c.args.i (omega arith))

pub returns : goal.returns
returns g c =
    c.ground_byte.ensures ∙ simp c.numbers-count.ensures.count (sym (byte_column (g.T.GroundColumns.columns c.args.columns.now) c.args.i (omega arith)))
