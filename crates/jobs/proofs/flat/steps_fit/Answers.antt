use Rattle.std.proofs.Common.{◌+◌, ◌||◌, ◌==◌, nat_lt, refl, ◌∙◌, ap₂, rules}
use Rattle.ranges.specs.Ranges.{all}
use Rattle.ranges.proofs.Chains.{all_below}
use Rattle.jobs.specs.FlatJob.{byte}
use Rattle.jobs.proofs.flat.steps_fit.Goals as goal

pub returns : goal.returns
returns c =
    let bs = c.args.job.now.bytes.now in
    let n = c.at-count.result in
    all_below _ (λ i. nat_lt (byte bs (8 + n + i)) n || byte bs (8 + n + i) == 255) refl c.all.ensures.ran (λ x b q k. search rules)
    ∙ ap₂ (λ m n. all m (λ i. nat_lt (byte bs (8 + n + i)) n || byte bs (8 + n + i) == 255)) c.cells.ensures.value c.at-count.ensures
