use Rattle.std.proofs.Common.{◌+◌, ◌*◌, ap, arith}
use Rattle.sheets.specs.Format.{set_byte, byte}
use Rattle.sheets.specs.declared.header.Header.{Header}
use Rattle.sheets.proofs.Places.{frame_set}
use Rattle.sheets.proofs.frame.Frame.set_byte.Goals as goal

pub overflow_add-result : goal.overflow_add-result
overflow_add-result c = omega (arith, frame_set c.args.self.now c.args.column c.args.state c.args.reading c.requires.column c.requires.state c.requires.reading)

pub bounds-self-self : goal.bounds-self-self
bounds-self-self c = omega (arith, frame_set c.args.self.now c.args.column c.args.state c.args.reading c.requires.column c.requires.state c.requires.reading)

pub returns : goal.returns
unfolding set_byte
returns c = ap (λ (s : Header). byte c.args.self.now.bytes.now (s.places.sets + ((c.args.column * s.count + c.args.state) * s.readings + c.args.reading))) c.args.self.now.told
