use Rattle.std.proofs.Common.{ℕ, ◌-◌, ◌%◌, List, get_or, sym, ap, ◌∙◌, arith}
use Rattle.sheets.specs.Encoding.{half}
use Rattle.sheets.proofs.Encoded.{byte_head, byte_lawful, byte_step, byte_rank, byte_set}
use Rattle.planner.proofs.Halves.{half_is}
use Rattle.planner.proofs.drive_sheet.drive_byte.Goals as goal

pub returns-then-i-lt20 : goal.returns-then-i-lt20
returns-then-i-lt20 g c =
    ap (λ (l : List ℕ). get_or l c.args.i 0) (c.as_flattened.ensures.value ∙ c.drive_header.ensures) ∙ sym (byte_head (g.T.DriveTables.tables c.args.tables.now) c.args.i (omega arith))

pub returns-then-i-at : goal.returns-then-i-at
returns-then-i-at g c =
    c.lawful_byte.ensures ∙ sym (byte_lawful (g.T.DriveTables.tables c.args.tables.now) c.args.i (omega arith) (omega arith))

pub returns-then-i-at-2 : goal.returns-then-i-at-2
returns-then-i-at-2 g c =
    let j = (c.args.i - c.layout-at.result.steps) % 2 in
    ap (λ (l : List ℕ). get_or l j 0) c.to_le_bytes.ensures
    ∙ half_is c.step_cell.result j (omega arith) (omega arith)
    ∙ ap (λ (w : ℕ). half w j) c.step_cell.ensures
    ∙ simp c.layout-at.ensures.steps (sym (byte_step (g.T.DriveTables.tables c.args.tables.now) c.args.i (omega arith) (omega arith)))

pub returns-then-i-at-3 : goal.returns-then-i-at-3
returns-then-i-at-3 g c =
    let j = (c.args.i - c.layout-at.result.ranks) % 2 in
    ap (λ (l : List ℕ). get_or l j 0) c.to_le_bytes-then-i-at-3.ensures
    ∙ half_is c.rank_cell.result j (omega arith) (omega arith)
    ∙ ap (λ (w : ℕ). half w j) c.rank_cell.ensures
    ∙ simp c.layout-at.ensures.ranks (sym (byte_rank (g.T.DriveTables.tables c.args.tables.now) c.args.i (omega arith) (omega arith)))

pub returns-else-i-at-3 : goal.returns-else-i-at-3
returns-else-i-at-3 g c =
    c.set_cell.ensures
    ∙ simp c.layout-at.ensures.sets (sym (byte_set (g.T.DriveTables.tables c.args.tables.now) c.args.i (omega arith)))
