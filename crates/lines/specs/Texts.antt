-- Texts one behind another.
use Rattle.std.specs.Prelude.{ℕ, zero, suc, List, [], ◌++◌}

-- the texts of the numbers below m, in order
abbrev pub texts : ℕ → (ℕ → List ℕ) → List ℕ
texts zero f = []
texts (suc m) f = texts m f ++ f m
