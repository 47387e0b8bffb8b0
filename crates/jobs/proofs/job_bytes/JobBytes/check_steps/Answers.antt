use Rattle.std.proofs.Common.{◌+◌, refl, ap, ◌∙◌, rules}
use Rattle.jobs.specs.JobFile.{in_turn, none_at}
use Rattle.jobs.proofs.TurnLaws.{turn_below}
use Rattle.jobs.proofs.job_bytes.JobBytes.check_steps.Goals as goal

pub returns : goal.returns
returns c =
    let job = c.args.self.now in
    turn_below _ (none_at job.bytes.now) _ (λ x v q k. search rules) _ refl c.try_for_each.ensures.ran
    ∙ ap (λ n. in_turn (n + 2) (none_at job.bytes.now)) job.numbered
