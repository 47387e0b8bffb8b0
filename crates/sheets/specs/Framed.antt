-- The bytes of a frame.
use Rattle.std.specs.Prelude.{ℕ, List}
use Rattle.sheets.specs.declared.frame.Frame.{Frame}

abbrev pub framed : Frame → List ℕ
framed f = f.bytes.now
