-- The lines of refusals.
use Rattle.std.specs.Prelude.{ℕ, List, ◌++◌, codes, decimal, Some, None, Option}

-- `refused` and the refusal's number
abbrev pub refused_line : ℕ → List ℕ
refused_line n = codes "refused " ++ (decimal n ++ codes "\n")

-- and the section, where the refusal names one
abbrev pub section_line : ℕ → Option ℕ → List ℕ
section_line n None = refused_line n
section_line n (Some s) = codes "refused " ++ (decimal n ++ (codes " " ++ (decimal s ++ codes "\n")))
