-- What the parts of a job mean, and the job they make.
use Rattle.std.specs.Prelude.{vec_items}
use Rattle.automata.specs.Arena.{Arena}
use Rattle.automata.specs.Machine.{Machine, machine_of}
use Rattle.automata.specs.Flat.{flat_arena}
use Rattle.automata.specs.Table.{table}
use Rattle.automata.specs.Layers.{held, duty_arena, right_arena}
use Rattle.ltlf.specs.contracts.automaton.RuleAutomaton.TheImpl.{ghosts as rule}
use Rattle.jobs.specs.declared.part.Part.{Part}
use Rattle.jobs.specs.declared.part.Part.TheVariants.{Table, Rule, HeldTable, HeldRule}
use Rattle.jobs.specs.declared.job.Job.{Job}
use Rattle.jobs.specs.declared.job.Job.TheVariants.{Flat, None, One, Two, Three, Four}

-- the automaton within a part
abbrev pub part_machine : Part → Machine
part_machine (Table t) = table t.shape (vec_items t.bytes)
part_machine (Rule r) = machine_of rule r
part_machine (HeldTable h) = held (table h.below.shape (vec_items h.below.bytes))
part_machine (HeldRule h) = held (machine_of rule h.below)

-- the arena within a job
abbrev pub job_arena : Job → Arena
job_arena (Flat f) = flat_arena f.header (vec_items f.bytes)
job_arena (None j) = duty_arena (table j.terrain.shape (vec_items j.terrain.bytes)) (part_machine j.duty)
job_arena (One b) =
    let j = b.value in
    right_arena (duty_arena (table j.arena.terrain.shape (vec_items j.arena.terrain.bytes)) (part_machine j.arena.duty)) (part_machine j.right)
job_arena (Two b) =
    let j = b.value in
    let i = j.arena in
    right_arena (right_arena (duty_arena (table i.arena.terrain.shape (vec_items i.arena.terrain.bytes)) (part_machine i.arena.duty)) (part_machine i.right)) (part_machine j.right)
job_arena (Three b) =
    let j = b.value in
    let i = j.arena in
    let h = i.arena in
    right_arena (right_arena (right_arena (duty_arena (table h.arena.terrain.shape (vec_items h.arena.terrain.bytes)) (part_machine h.arena.duty)) (part_machine h.right)) (part_machine i.right)) (part_machine j.right)
job_arena (Four b) =
    let j = b.value in
    let i = j.arena in
    let h = i.arena in
    let g = h.arena in
    right_arena (right_arena (right_arena (right_arena (duty_arena (table g.arena.terrain.shape (vec_items g.arena.terrain.bytes)) (part_machine g.arena.duty)) (part_machine g.right)) (part_machine h.right)) (part_machine i.right)) (part_machine j.right)
