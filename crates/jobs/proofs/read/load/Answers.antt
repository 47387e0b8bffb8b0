use Rattle.jobs.proofs.ComposeLaws.{composes}
use Rattle.jobs.proofs.read.load.Goals as goal

pub returns-else-leads-clause-composes : goal.returns-else-leads-clause-composes
returns-else-leads-clause-composes c = composes c.args.bytes.now
