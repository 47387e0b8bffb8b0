use Rattle.std.proofs.Common.{length}
use Rattle.ltlf.proofs.check.Reader.+formula.Given as goal

abbrev pub decreases-formula : goal.decreases-formula
decreases-formula l = length l.self.now.rest.now
