use Rattle.std.proofs.Common.{◌<◌, sym, arith}
use Rattle.sheets.specs.Format.{count}
use Rattle.planner.proofs.GroundPlaces.{ground_place}
use Rattle.planner.proofs.ground_reading.ground_reading.Goals as goal

pub bounds-sheet-column : goal.bounds-sheet-column
bounds-sheet-column c =
    let bs = c.args.sheet.now in
    let q : c.args.state < count bs = omega (arith, c.word_at-count.ensures) in
    simp c.word_at-count.ensures (ground_place bs (sym c.if-not-is_whole.ensures) c.args.column c.args.state c.if-column-sheet.false q)
