use Rattle.std.proofs.Common.{rules}
use Rattle.planner.proofs.Written.{buffer_opens}
use Rattle.planner.proofs.drive_sheet.write_drive_sheet.Goals as goal

pub returns-clause-opens : goal.returns-clause-opens
returns-clause-opens g c = buffer_opens (g.T.DriveTables.tables c.args.tables.now) (g.met.T.DriveTables.in_range c.args.tables.now) c.args.buffer.now c.fill.new.buffer (search rules)
