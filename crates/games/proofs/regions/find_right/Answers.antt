use Rattle.std.proofs.Common.{◌+◌, add-one}
use Rattle.games.specs.Tables.{table_arena}
use Rattle.games.proofs.RegionLaws.{right_found}
use Rattle.games.proofs.TableLaws.{table_lawful}
use Rattle.games.proofs.regions.find_right.Goals as goal

pub returns : goal.returns
returns c =
    let t = c.args.table.now in
    right_found (table_arena t) (table_lawful t) c.args.broken.now c.requires.found c.args.j c.ranks.result c.count.result (c.args.j + 1) c.count.ensures (add-one c.args.j) c.ranks.ensures
