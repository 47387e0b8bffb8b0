-- Every part and every job keeps the laws of automata and arenas.
use Rattle.std.specs.Prelude.{ℕ, ◌<◌, ◌≤◌, List, length, vec_items, refl}
use Rattle.std.proofs.Common.{rules, arith}
use Rattle.automata.specs.Arena.{Arena}
use Rattle.automata.specs.Flat.{flat_arena}
use Rattle.automata.specs.Machine.{machine_of, machine_in}
use Rattle.automata.specs.Table.{table, table_by}
use Rattle.automata.specs.Layers.{duty_arena, right_arena}
use Rattle.automata.specs.declared.header.FlatHeader.{FlatHeader}
use Rattle.automata.specs.declared.shape.Shape.{Shape}
use Rattle.automata.proofs.LayerLaws.{Sane, Entitled, held_sane, duty_sane, right_sane, duty_entitled, right_entitled}
use Rattle.ltlf.specs.Formulas.{Ltl, shape, terms}
use Rattle.ltlf.specs.Codes.{count}
use Rattle.ltlf.specs.CodeLaws.{codes_few, step_inside}
use Rattle.ltlf.specs.contracts.automaton.RuleAutomaton.TheImpl.{ghosts as rule}
use Rattle.ltlf.specs.declared.rule.Rule.{Rule as Rules}
use Rattle.jobs.specs.Parts.{rule_machine}
use Rattle.jobs.specs.Meanings.{part_machine, job_arena}
use Rattle.jobs.specs.declared.part.Part.{Part}
use Rattle.jobs.specs.declared.part.Part.TheVariants.{Table, Rule, HeldTable, HeldRule}
use Rattle.jobs.specs.declared.job.Job.{Job}
use Rattle.jobs.specs.declared.job.Job.TheVariants.{Flat, None, One, Two, Three, Four}

-- a table by its numbers
pub table_by_sane : (a b n start : ℕ) (bs : List ℕ) → a ≤ 3 → b ≤ 3 → 1 ≤ n → n ≤ 64 → start < n → Sane (table_by a b n start bs)
table_by_sane a b n start bs la lb some few begin = record {
  narrow_readings = la;
  narrow_commands = lb;
  some_state = some;
  sized = omega arith;
  begins = begin;
  enters = λ q x y. search rules;
  state_outside = λ q x y e. search rules;
  reading_outside = λ q x y e. search rules;
  command_outside = λ q x y e. search rules;
  mark_outside = λ q e. search rules;
  full_start = λ e. absurd (omega arith);
  full_step = λ q x y e. absurd (omega arith);
  full_mark = λ q e. absurd (omega arith);
}

table_sane : (h : Shape 64) (bs : List ℕ) → Sane (table h bs)
table_sane h bs = table_by_sane h.reading_bits h.command_bits h.count h.start bs h.narrow_readings h.narrow_commands h.some_state h.few_states h.start_inside

-- a rule by its formula
pub rule_by_sane : (a b : ℕ) (p : Ltl) → a ≤ 3 → b ≤ 3 → length (terms p) ≤ 3 → Sane (rule_machine a b p)
rule_by_sane a b p la lb short =
    let few : count p ≤ 28 = omega (arith, codes_few p short) in
    record {
      narrow_readings = la;
      narrow_commands = lb;
      some_state = omega arith;
      sized = omega (arith, few);
      begins = omega arith;
      enters = step_inside a b p;
      state_outside = λ q x y e. search rules;
      reading_outside = λ q x y e. search rules;
      command_outside = λ q x y e. search rules;
      mark_outside = λ q e. search rules;
      full_start = λ e. refl;
      full_step = λ q x y e. absurd (omega (arith, few, e));
      full_mark = λ q e. absurd (omega (arith, few, e));
    }

rule_sane : (r : Rules) → Sane (machine_of rule r)
rule_sane r = rule_by_sane r.widths.reading_bits r.widths.command_bits (shape r.formula) r.widths.narrow_readings r.widths.narrow_commands r.few

pub part_sane : (p : Part) → Sane (part_machine p)
part_sane (Table t) = table_sane t.shape (vec_items t.bytes)
part_sane (Rule r) = rule_sane r
part_sane (HeldTable h) = held_sane (table h.below.shape (vec_items h.below.bytes)) (table_sane h.below.shape (vec_items h.below.bytes))
part_sane (HeldRule h) = held_sane (machine_of rule h.below) (rule_sane h.below)

-- an arena that keeps all laws
abbrev Keeps : Arena → Type 0
Keeps A = Sane (machine_in A) × Entitled A

flat_keeps : (h : FlatHeader) (bs : List ℕ) → Keeps (flat_arena h bs)
flat_keeps h bs = (
  record {
    narrow_readings = h.shape.narrow_readings;
    narrow_commands = h.shape.narrow_commands;
    some_state = h.shape.some_state;
    sized = omega (arith, h.shape.few_states);
    begins = h.shape.start_inside;
    enters = λ q x y. search rules;
    state_outside = λ q x y e. search rules;
    reading_outside = λ q x y e. search rules;
    command_outside = λ q x y e. search rules;
    mark_outside = λ q e. search rules;
    full_start = λ e. absurd (omega (arith, h.shape.few_states, e));
    full_step = λ q x y e. absurd (omega (arith, h.shape.few_states, e));
    full_mark = λ q e. absurd (omega (arith, h.shape.few_states, e));
  },
  record {
    few = h.few_rights;
    no_zeroth = λ q. refl;
    right_outside = λ i q e. search rules;
    right_state_outside = λ i q e. search rules;
    full_rights = λ e. absurd (omega (arith, h.shape.few_states, e));
  },
)

duty_keeps : (h : Shape 64) (bs : List ℕ) (d : Part) → Keeps (duty_arena (table h bs) (part_machine d))
duty_keeps h bs d = (duty_sane (table h bs) (part_machine d) (table_sane h bs) (part_sane d), duty_entitled (table h bs) (part_machine d))

right_keeps : (A : Arena) (r : Part) → Keeps A → Keeps (right_arena A (part_machine r))
right_keeps A r K = (right_sane A (part_machine r) K.0 (part_sane r), right_entitled A (part_machine r) K.1)

pub job_keeps : (j : Job) → Keeps (job_arena j)
job_keeps (Flat f) = flat_keeps f.header (vec_items f.bytes)
job_keeps (None j) = duty_keeps j.terrain.shape (vec_items j.terrain.bytes) j.duty
job_keeps (One b) =
    let g = b.value.arena in
    right_keeps _ b.value.right (duty_keeps g.terrain.shape (vec_items g.terrain.bytes) g.duty)
job_keeps (Two b) =
    let h = b.value.arena in
    let g = h.arena in
    right_keeps _ b.value.right (right_keeps _ h.right (duty_keeps g.terrain.shape (vec_items g.terrain.bytes) g.duty))
job_keeps (Three b) =
    let i = b.value.arena in
    let h = i.arena in
    let g = h.arena in
    right_keeps _ b.value.right (right_keeps _ i.right (right_keeps _ h.right (duty_keeps g.terrain.shape (vec_items g.terrain.bytes) g.duty)))
job_keeps (Four b) =
    let j = b.value.arena in
    let i = j.arena in
    let h = i.arena in
    let g = h.arena in
    right_keeps _ b.value.right (right_keeps _ j.right (right_keeps _ i.right (right_keeps _ h.right (duty_keeps g.terrain.shape (vec_items g.terrain.bytes) g.duty))))
