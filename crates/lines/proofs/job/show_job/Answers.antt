use Rattle.std.proofs.Common.{◌≡◌, ◌++◌, IfOk, OnOk, length, string_bytes, sym, subst}
use Rattle.planner.specs.Planned.{planned_answer}
use Rattle.lines.specs.Jobs.{verdict_in, arena_text, checked_verdict, checked_text}
use Rattle.lines.proofs.job.show_job.Goals as goal

pub returns-in-Ok-clause-verdict : goal.returns-in-Ok-clause-verdict
returns-in-Ok-clause-verdict c =
    let size = length c.args.buffer.now in
    let made = c.in-Ok.ensures.loads in
    subst (λ k. IfOk c.show_arena.result (λ v. v ≡ checked_verdict c.args.bytes.now size k)) (sym made.0)
    (subst (λ A. IfOk c.show_arena.result (λ v. v ≡ verdict_in (planned_answer A size))) made.1 c.show_arena.ensures.verdict)

pub returns-in-Ok-clause-text : goal.returns-in-Ok-clause-text
returns-in-Ok-clause-text c =
    let size = length c.args.buffer.now in
    let made = c.in-Ok.ensures.loads in
    subst (λ k. OnOk c.show_arena.result (string_bytes c.show_arena.new.out ≡ string_bytes c.args.out.now ++ checked_text c.args.bytes.now size k)) (sym made.0)
    (subst (λ A. OnOk c.show_arena.result (string_bytes c.show_arena.new.out ≡ string_bytes c.args.out.now ++ arena_text A size)) made.1 c.show_arena.ensures.text)
