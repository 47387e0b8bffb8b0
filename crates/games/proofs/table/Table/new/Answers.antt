use Rattle.games.proofs.TableLaws.{tells_lone}
use Rattle.games.proofs.table.Table.new.Goals as goal

pub returns : goal.returns
returns c = tells_lone c.in_ok-rows.rows.value c.in_ok-rows.ensures.ok
