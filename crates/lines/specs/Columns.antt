-- The lines of ground columns.
use Rattle.std.specs.Prelude.{ℕ, ◌+◌, List, ◌++◌, codes, decimal}
use Rattle.std.specs.Option.{unwrap_or}
use Rattle.planner.specs.GroundReading.{ground_reading}
use Rattle.lines.specs.Texts.{texts}

-- the byte that a ground sheet gives in a column at a state, or 255
abbrev pub column_reading : List ℕ → ℕ → ℕ → ℕ
column_reading bs c q = unwrap_or (ground_reading bs c q) 255

-- the bytes of n states, a space before each
abbrev pub column_texts : (ℕ → ℕ) → ℕ → List ℕ
column_texts byte n = texts n (λ q. codes " " ++ decimal (byte q))

-- the column's number and its bytes
abbrev pub column_line : (ℕ → ℕ → ℕ) → ℕ → ℕ → List ℕ
column_line byte n c = (decimal c ++ column_texts (byte c) n) ++ codes "\n"

-- a line for each column, 0 being the duty's
abbrev pub column_lines : (ℕ → ℕ → ℕ) → ℕ → ℕ → List ℕ
column_lines byte n k = texts (k + 1) (column_line byte n)
