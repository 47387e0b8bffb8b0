-- The laws of the drive sheet.
use Rattle.std.specs.Prelude.{◌≡◌, ℕ, ◌<◌, true, List, ◌++◌, take, drop}
use Rattle.sheets.specs.Tables.{Tables, InRange, SameTables}
use Rattle.sheets.specs.Format.{byte, total, tables_of}
use Rattle.sheets.specs.Whole.{whole}
use Rattle.sheets.specs.Encoding.{sheet_bytes}

-- a list of bytes
abbrev pub Bytes : List ℕ → Type 0
Bytes bs = (i : ℕ) → byte bs i < 256

-- the bytes are a well-formed sheet that says what the tables say
pub record OpensTo (T : Tables) (bs : List ℕ) : Type 0 where
  pub opens : whole bs ≡ true
  pub says : SameTables T (tables_of bs)

-- WRITTEN SHEETS are bytes, and open to the tables that were written, whatever stands behind them
pub record Written (T : Tables) : Type 0 where
  pub bytes : Bytes (sheet_bytes T)
  pub opens : (rest : List ℕ) → OpensTo T (sheet_bytes T ++ rest)

abbrev pub OpensWritten : Type 0
OpensWritten = (T : Tables) → InRange T → Written T

-- NOTHING ELSE OPENS: a well-formed sheet is that of its tables, which fit, and what stands behind it
pub record SheetOfTables (bs : List ℕ) : Type 0 where
  pub fits : InRange (tables_of bs)
  pub written : bs ≡ sheet_bytes (tables_of bs) ++ drop (total bs) bs

abbrev pub OpensNothingElse : Type 0
OpensNothingElse = (bs : List ℕ) → Bytes bs → whole bs ≡ true → SheetOfTables bs

-- EQUAL SHEETS: two that say the same have the same bytes
abbrev pub EqualSheets : Type 0
EqualSheets = (bs cs : List ℕ) → Bytes bs → Bytes cs → whole bs ≡ true → whole cs ≡ true →
    SameTables (tables_of bs) (tables_of cs) → take (total bs) bs ≡ take (total cs) cs

-- BYTES BEHIND a sheet may be any: it opens all the same, and says the same
abbrev pub BehindIgnored : Type 0
BehindIgnored = (bs : List ℕ) → whole bs ≡ true → (rest : List ℕ) → OpensTo (tables_of bs) (take (total bs) bs ++ rest)
