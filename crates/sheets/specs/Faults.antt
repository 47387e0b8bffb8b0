-- The number of the refusal of a sheet.
use Rattle.std.specs.Prelude.{ℕ}
use Rattle.sheets.specs.declared.fault.SheetFault.{SheetFault}
use Rattle.sheets.specs.declared.fault.SheetFault.TheVariants.{Malformed}

abbrev pub fault_number : SheetFault → ℕ
fault_number Malformed = 18
