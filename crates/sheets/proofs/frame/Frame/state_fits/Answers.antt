use Rattle.std.proofs.Common.{arith}
use Rattle.sheets.proofs.Places.{frame_small}
use Rattle.sheets.proofs.frame.Frame.state_fits.Goals as goal

pub bits_below-requires : goal.bits_below-requires
bits_below-requires c = omega (arith, frame_small c.args.self.now)
