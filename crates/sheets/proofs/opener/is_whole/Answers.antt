use Rattle.std.proofs.Common.{rules}
use Rattle.sheets.specs.Whole.{whole}
use Rattle.sheets.proofs.opener.is_whole.Goals as goal

pub returns-then-not-header_fits : goal.returns-then-not-header_fits
unfolding whole
returns-then-not-header_fits c = search rules

pub returns-then-not-laid_out : goal.returns-then-not-laid_out
unfolding whole
returns-then-not-laid_out c = search rules

pub returns : goal.returns
unfolding whole
returns c = search rules
