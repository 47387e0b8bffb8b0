use Rattle.std.proofs.Common.{◌+◌, ◌^◌, ltb, refl, ◌∙◌, ap₂, rules}
use Rattle.ranges.specs.Ranges.{all}
use Rattle.ranges.proofs.Chains.{all_below}
use Rattle.jobs.specs.FlatJob.{byte}
use Rattle.jobs.proofs.flat.marks_fit.Goals as goal

pub returns : goal.returns
returns c =
    let job = c.args.job.now in
    let bs = job.bytes.now in
    all_below _ (λ q. ltb (byte bs (8 + q)) (2 ^ (job.rights + 1))) refl c.all.ensures.ran (λ x b q k. search rules)
    ∙ ap₂ (λ n r. all n (λ q. ltb (byte bs (8 + q)) (2 ^ (r + 1)))) c.at.ensures job.numbered
