use Rattle.std.proofs.Common.{ℕ, Bool, ◌||◌, ◌==◌, nat_lt, refl, ap, ◌∙◌, rules}
use Rattle.ranges.specs.Ranges.{all}
use Rattle.ranges.proofs.Chains.{all_below}
use Rattle.jobs.specs.Sections.{count, cell}
use Rattle.jobs.proofs.section.Section.steps_fit.Goals as goal

pub returns : goal.returns
returns c =
    let s = c.args.self.now in
    let test : ℕ → Bool = λ i. nat_lt (cell s.bytes.now s.at i) (count s.bytes.now s.at) || (cell s.bytes.now s.at i == 255) in
    all_below _ test refl c.all.ensures.ran (λ x b q k. search rules) ∙ ap (λ n. all n test) c.cells.ensures.value
