use Rattle.games.specs.Tables.{table_arena}
use Rattle.games.proofs.RegionLaws.{duty_found}
use Rattle.games.proofs.TableLaws.{table_lawful}
use Rattle.games.proofs.regions.find_duty.Goals as goal

pub returns : goal.returns
returns c =
    let t = c.args.table.now in
    duty_found (table_arena t) (table_lawful t) c.args.broken.now c.requires.unbroken c.args.rights.now c.requires.fenced c.ranks.result c.count-count.result c.rights.result c.count-count.ensures c.rights.ensures c.ranks.ensures
