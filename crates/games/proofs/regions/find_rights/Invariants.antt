use Rattle.std.proofs.Common.{◌≡◌, length}
use Rattle.games.specs.Tables.{table_arena}
use Rattle.games.specs.Found.{RightsFound}
use Rattle.games.proofs.regions.find_rights.Given as goal

abbrev pub invariant-loop-j : goal.invariant-loop-j
invariant-loop-j l = (length l.rights ≡ 4) × RightsFound (table_arena l.table) l.j l.rights
