-- The line of a verdict.
use Rattle.std.specs.Prelude.{ℕ, List, ◌++◌, codes, decimal}
use Rattle.games.specs.Verdicts.{verdict_word, verdict_number}
use Rattle.games.specs.declared.verdict.Verdict.{Verdict}

-- the verdict, the count of states, the rights, and the verdict's number
abbrev pub verdict_line : Verdict → ℕ → ℕ → List ℕ
verdict_line v n k =
    verdict_word v ++ (codes " " ++ (decimal n ++ (codes " " ++ (decimal k ++ (codes " " ++ (decimal (verdict_number v) ++ codes "\n"))))))
