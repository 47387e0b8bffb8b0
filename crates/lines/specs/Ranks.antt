-- The lines of a drive sheet's tables.
use Rattle.std.specs.Prelude.{ℕ, ◌+◌, ◌^◌, if◌then◌else◌, List, [], ◌++◌, codes, decimal, ◌==◌}
use Rattle.sheets.specs.Tables.{Tables}
use Rattle.sheets.specs.Encoding.{set_of}
use Rattle.lines.specs.Texts.{texts}

-- the command set of each reading, a space before each: bit y of the number is set for command y
abbrev pub set_texts : Tables → ℕ → ℕ → List ℕ
set_texts T c q = texts (2 ^ T.a) (λ x. codes " " ++ decimal (set_of T c q x))

-- the line of a state in a column: column, state, rank and the command sets; an unranked state has none
abbrev pub rank_line : Tables → ℕ → ℕ → List ℕ
rank_line T c q =
    if T.rank c q == 65535 then [] else
    ((decimal c ++ (codes " " ++ (decimal q ++ (codes " " ++ decimal (T.rank c q))))) ++ set_texts T c q) ++ codes "\n"

abbrev pub rank_lines_of : Tables → ℕ → List ℕ
rank_lines_of T c = texts T.n (rank_line T c)

-- by column, 0 being the duty's, and then by state
abbrev pub rank_lines : Tables → List ℕ
rank_lines T = texts (T.k + 1) (rank_lines_of T)
