-- The automata of a job's sections, and the arena that they make.
use Rattle.std.specs.Prelude.{ℕ, zero, suc, ◌+◌, false, cond, List, Ok, Err, Result}
use Rattle.automata.specs.Arena.{Arena}
use Rattle.automata.specs.Machine.{Machine}
use Rattle.automata.specs.Table.{table_by}
use Rattle.automata.specs.Layers.{held, duty_arena, right_arena}
use Rattle.ltlf.specs.Formulas.{Ltl, truth}
use Rattle.ltlf.specs.Reading.{outcome}
use Rattle.ltlf.specs.Codes.{count as states, rule_step, rule_marked}
use Rattle.ltlf.specs.declared.fault.TextFault.{TextFault}
use Rattle.jobs.specs.FlatJob.{byte}
use Rattle.jobs.specs.Sections.{is_table, is_held, count, fourth, body, end}

-- the automaton of a rule
abbrev pub rule_machine : ℕ → ℕ → Ltl → Machine
rule_machine a b p = record { a = a; b = b; n = states p; start = 0; marked = rule_marked p; step = rule_step a b p }

-- the formula that was read; where a text is refused, no job is made and the formula does not matter
abbrev pub formula : Result Ltl TextFault → Ltl
formula (Ok p) = p
formula (Err e) = truth false

-- the automaton of the section at o, before it is held
abbrev pub plain : ℕ → ℕ → List ℕ → ℕ → Machine
plain a b bs o =
    cond (is_table bs o) (table_by a b (count bs o) (fourth bs o) (body a b bs o)) (rule_machine a b (formula (outcome (a + b) (body a b bs o))))

abbrev pub machine : ℕ → ℕ → List ℕ → ℕ → Machine
machine a b bs o = cond (is_held bs o) (held (plain a b bs o)) (plain a b bs o)

-- where section i begins: the ground after the head, and each behind the one before
abbrev pub offset : ℕ → ℕ → List ℕ → ℕ → ℕ
offset a b bs zero = 8
offset a b bs (suc i) = end a b bs (offset a b bs i)

-- the arena of the parts 0 to k + 1: ground and duty paired, and that with each right in turn
abbrev pub nested : (ℕ → Machine) → ℕ → Arena
nested part zero = duty_arena (part 0) (part 1)
nested part (suc i) = right_arena (nested part i) (part (i + 2))

-- the automaton of section i
abbrev pub part_by : ℕ → ℕ → List ℕ → ℕ → Machine
part_by a b bs i = machine a b bs (offset a b bs i)

-- the parts of a job
abbrev pub part : List ℕ → ℕ → Machine
part bs = part_by (byte bs 3) (byte bs 4) bs

-- the job's arena
abbrev pub sections_arena : List ℕ → Arena
sections_arena bs = nested (part bs) (byte bs 5)
