use Rattle.std.proofs.Common.{◌∙◌}
use Rattle.sheets.specs.Encoding.{rank_cell}
use Rattle.planner.proofs.drive_sheet.rank_cell.Goals as goal

pub returns : goal.returns
unfolding rank_cell
returns g c = c.rank.ensures ∙ simp c.numbers-count.ensures.count
