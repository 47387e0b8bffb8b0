use Rattle.std.proofs.Common.{◌≡◌, ◌++◌, string_bytes, None, drop}
use Rattle.sheets.specs.Opened.{bytes_of, built_in}
use Rattle.lines.specs.Drives.{drive_lines}
use Rattle.lines.proofs.drive.show_drive.Given as goal

-- what is printed so far, and then what the lines that are left print
abbrev pub invariant-loop-line : goal.invariant-loop-line
invariant-loop-line l = string_bytes l.out ++ drive_lines (bytes_of l.sheet) l.standing (drop l.line-index l.lines) ≡ drive_lines built_in None l.lines
