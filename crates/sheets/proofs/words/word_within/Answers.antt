use Rattle.std.proofs.Common.{arith}
use Rattle.sheets.specs.Format.{word}
use Rattle.sheets.proofs.words.word_within.Goals as goal

pub returns : goal.returns
unfolding word
returns c = omega arith
