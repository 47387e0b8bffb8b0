use Rattle.std.proofs.Common.{◌+◌, ◌*◌, ap, ◌∙◌, arith}
use Rattle.sheets.specs.Format.{step_word, word}
use Rattle.sheets.specs.declared.header.Header.{Header}
use Rattle.sheets.proofs.Places.{frame_step}
use Rattle.sheets.proofs.frame.Frame.step_word.Goals as goal

pub word_within-requires : goal.word_within-requires
word_within-requires c = omega (arith, frame_step c.args.self.now c.args.state c.args.reading c.args.command c.requires.state c.requires.reading c.requires.command)

pub returns : goal.returns
unfolding step_word
returns c = c.word_within.ensures ∙ ap (λ (s : Header). word c.args.self.now.bytes.now (s.places.steps + 2 * ((c.args.state * s.readings + c.args.reading) * s.commands + c.args.command))) c.args.self.now.told
