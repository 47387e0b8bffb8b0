use Rattle.std.proofs.Common.{◌+◌, ◌*◌, ap, ◌∙◌, arith}
use Rattle.sheets.specs.Format.{rank_word, word}
use Rattle.sheets.specs.declared.header.Header.{Header}
use Rattle.sheets.proofs.Places.{frame_rank}
use Rattle.sheets.proofs.frame.Frame.rank_word.Goals as goal

pub overflow_add-self : goal.overflow_add-self
overflow_add-self c = omega (arith, frame_rank c.args.self.now c.args.column c.args.state c.requires.column c.requires.state)

pub word_within-requires : goal.word_within-requires
word_within-requires c = omega (arith, frame_rank c.args.self.now c.args.column c.args.state c.requires.column c.requires.state)

pub returns : goal.returns
unfolding rank_word
returns c = c.word_within.ensures ∙ ap (λ (s : Header). word c.args.self.now.bytes.now (s.places.ranks + 2 * (c.args.column * s.count + c.args.state))) c.args.self.now.told
