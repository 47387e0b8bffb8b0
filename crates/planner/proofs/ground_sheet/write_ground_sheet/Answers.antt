use Rattle.std.proofs.Common.{rules}
use Rattle.planner.proofs.Written.{buffer_reads}
use Rattle.planner.proofs.ground_sheet.write_ground_sheet.Goals as goal

pub returns-clause-reads : goal.returns-clause-reads
returns-clause-reads g c = buffer_reads (g.T.GroundColumns.columns c.args.columns.now) (g.met.T.GroundColumns.in_range c.args.columns.now) c.args.buffer.now c.fill.new.buffer (search rules)
