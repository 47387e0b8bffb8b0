-- The lines of an automaton over a word.
use Rattle.std.specs.Prelude.{ℕ, Bool, if◌then◌else◌, List, ◌++◌, codes, decimal, Some, None, Option}

-- a state, and 1 where it is marked, else 0
abbrev pub state_line : ℕ → Bool → List ℕ
state_line q marked = decimal q ++ (codes " " ++ (decimal (if marked then 1 else 0) ++ codes "\n"))

-- the state that a round steps to, with its mark, or `none`
abbrev pub round_line : (ℕ → Bool) → Option ℕ → List ℕ
round_line marked None = codes "none\n"
round_line marked (Some t) = state_line t (marked t)
