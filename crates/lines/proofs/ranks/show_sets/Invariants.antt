use Rattle.std.proofs.Common.{◌≡◌, ◌++◌, string_bytes, codes, decimal}
use Rattle.sheets.specs.Format.{tables_of}
use Rattle.sheets.specs.Encoding.{set_of}
use Rattle.sheets.specs.Opened.{bytes_of}
use Rattle.lines.specs.Texts.{texts}
use Rattle.lines.proofs.ranks.show_sets.Given as goal

abbrev pub invariant-loop-x : goal.invariant-loop-x
invariant-loop-x l = string_bytes l.out ≡ string_bytes l.fn.out ++ texts l.x (λ x. codes " " ++ decimal (set_of (tables_of (bytes_of l.sheet)) l.column l.q x))
