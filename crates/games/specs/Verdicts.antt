-- The verdict on an arena, with its number.
use Rattle.std.specs.Prelude.{ℕ, zero, suc, cond, not, List, codes, Ok, Err, Result, nat_le, nat_lt}
use Rattle.ranges.specs.Ranges.{least}
use Rattle.automata.specs.Arena.{Arena}
use Rattle.games.specs.Regions.{broken, right_column, ranked, rank}
use Rattle.games.specs.declared.verdict.Verdict.{Verdict}
use Rattle.games.specs.declared.verdict.Verdict.TheVariants.{Groundless, Planned, Unplayable}
use Rattle.games.specs.declared.verdict.GameFault.{GameFault}
use Rattle.games.specs.declared.verdict.GameFault.TheVariants.{TooManyStates}

-- the lowest right whose column lacks q, or 0
abbrev pub lacking : Arena → ℕ → ℕ
lacking A q =
    let j = least A.k (λ j. not (right_column A (suc j) A.n q)) in
    cond (nat_lt j A.k) (suc j) zero

-- groundless where the start is broken; planned in the start's rank in column 0, where it has one;
-- else unplayable
abbrev pub verdict : Arena → Verdict
verdict A =
    cond (broken A A.start) Groundless
    (cond (ranked A 0 A.start) (Planned (rank A 0 A.start)) (Unplayable (lacking A A.start)))

-- how a verdict is printed
abbrev pub verdict_word : Verdict → List ℕ
verdict_word Groundless = codes "groundless"
verdict_word (Planned rounds) = codes "planned"
verdict_word (Unplayable right) = codes "unplayable"

-- a verdict's number: the rounds of a plan, or the lost right, or 0
abbrev pub verdict_number : Verdict → ℕ
verdict_number Groundless = 0
verdict_number (Planned rounds) = rounds
verdict_number (Unplayable right) = right

-- the number of a refusal
abbrev pub fault_number : GameFault → ℕ
fault_number TooManyStates = 16

-- what solving an arena answers
abbrev pub answer : Arena → Result Verdict GameFault
answer A = cond (nat_le A.n 256) (Ok (verdict A)) (Err TooManyStates)
