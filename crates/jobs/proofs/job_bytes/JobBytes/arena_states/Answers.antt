use Rattle.std.proofs.Common.{◌≡◌, ◌+◌, refl, ap, ◌∙◌, ap₂, arith, rules}
use Rattle.jobs.specs.FlatJob.{byte}
use Rattle.jobs.specs.Parts.{part, nested}
use Rattle.jobs.proofs.CountLaws.{paired, fold_below, nested_fold}
use Rattle.jobs.proofs.job_bytes.JobBytes.arena_states.Goals as goal

pub returns : goal.returns
returns c =
    let job = c.args.self.now in
    let P = part job.bytes.now in
    let all : 0 + job.rights ≡ byte job.bytes.now 5 = omega (arith, job.numbered) in
    fold_below _ (λ n i. paired n (P (i + 2)).n) _ _ refl c.fold.ensures.ran (λ n i r q k. search rules)
    ∙ nested_fold P job.rights 0 _ (c.paired-base.ensures ∙ ap₂ paired c.part_states.ensures c.part_states-2.ensures) (omega (arith, job.few))
    ∙ ap (λ k. (nested P k).n) all
