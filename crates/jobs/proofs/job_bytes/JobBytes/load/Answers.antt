use Rattle.std.proofs.Common.{◌≡◌, vec_items, sym, ap, ◌∙◌, arith}
use Rattle.automata.specs.Table.{table}
use Rattle.automata.specs.Layers.{duty_arena, right_arena}
use Rattle.jobs.specs.FlatJob.{byte}
use Rattle.jobs.specs.Meanings.{part_machine}
use Rattle.jobs.specs.Parts.{part, nested}
use Rattle.jobs.proofs.job_bytes.JobBytes.load.Goals as goal

pub returns-then-self-eq1 : goal.returns-then-self-eq1
returns-then-self-eq1 c =
    ap (λ w. right_arena (duty_arena (table w.arena.terrain.shape (vec_items w.arena.terrain.bytes)) (part_machine w.arena.duty)) (part_machine w.right)) c.in_ok-new.ensures.ok
    ∙ c.in_ok-one.ensures ∙ ap (nested (part c.args.self.now.bytes.now)) (sym c.if-self-eq1.true ∙ c.args.self.now.numbered)

pub returns-then-self-eq2 : goal.returns-then-self-eq2
returns-then-self-eq2 c =
    ap (λ w. right_arena (right_arena (duty_arena (table w.arena.arena.terrain.shape (vec_items w.arena.arena.terrain.bytes)) (part_machine w.arena.arena.duty)) (part_machine w.arena.right)) (part_machine w.right)) c.in_ok-new-2.ensures.ok
    ∙ c.in_ok-two.ensures ∙ ap (nested (part c.args.self.now.bytes.now)) (sym c.if-self-eq2.true ∙ c.args.self.now.numbered)

pub returns-then-self-eq3 : goal.returns-then-self-eq3
returns-then-self-eq3 c =
    ap (λ w. right_arena (right_arena (right_arena (duty_arena (table w.arena.arena.arena.terrain.shape (vec_items w.arena.arena.arena.terrain.bytes)) (part_machine w.arena.arena.arena.duty)) (part_machine w.arena.arena.right)) (part_machine w.arena.right)) (part_machine w.right)) c.in_ok-new-3.ensures.ok
    ∙ c.in_ok-three.ensures ∙ ap (nested (part c.args.self.now.bytes.now)) (sym c.if-self-eq3.true ∙ c.args.self.now.numbered)

pub returns : goal.returns
returns c =
    ap (λ w. right_arena (right_arena (right_arena (right_arena (duty_arena (table w.arena.arena.arena.arena.terrain.shape (vec_items w.arena.arena.arena.arena.terrain.bytes)) (part_machine w.arena.arena.arena.arena.duty)) (part_machine w.arena.arena.arena.right)) (part_machine w.arena.arena.right)) (part_machine w.arena.right)) (part_machine w.right)) c.in_ok-new-4.ensures.ok
    ∙ c.in_ok-four.ensures ∙ ap (nested (part c.args.self.now.bytes.now)) (let p : 4 ≡ byte c.args.self.now.bytes.now 5 = omega (arith, c.args.self.now.numbered, c.args.self.now.few) in p)
