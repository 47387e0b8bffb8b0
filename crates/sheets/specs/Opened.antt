-- What opening answers, and what an opened sheet is.
use Rattle.std.specs.Prelude.{ℕ, cond, List, [], ◌∷◌, Ok, Err, Result}
use Rattle.sheets.specs.Tables.{Tables}
use Rattle.sheets.specs.Format.{tables_of}
use Rattle.sheets.specs.Whole.{whole}
use Rattle.sheets.specs.declared.Sheet.{Sheet}
use Rattle.sheets.specs.declared.fault.SheetFault.{SheetFault}
use Rattle.sheets.specs.declared.fault.SheetFault.TheVariants.{Malformed}

-- the bytes that an opened sheet was lent
abbrev pub bytes_of : Sheet → List ℕ
bytes_of s = s.frame.bytes.now

-- what an opened sheet says
abbrev pub tables : Sheet → Tables
tables s = tables_of (bytes_of s)

-- what opening answers
abbrev pub opened : List ℕ → Result (Unit {0}) SheetFault
opened bs = cond (whole bs) (Ok tt) (Err Malformed)

-- the sheet of one state, with no reading bit, command bit or right; its reading is unlawful, its
-- step none, its rank 65535 and its set empty
abbrev pub built_in : List ℕ
built_in = 68 ∷ 83 ∷ 1 ∷ 0 ∷ 0 ∷ 0 ∷ 1 ∷ 0 ∷ 0 ∷ 0 ∷ 20 ∷ 0 ∷ 21 ∷ 0 ∷ 23 ∷ 0 ∷ 25 ∷ 0 ∷ 26 ∷ 0 ∷ 0 ∷ 255 ∷ 255 ∷ 255 ∷ 255 ∷ 0 ∷ []
