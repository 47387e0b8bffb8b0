use Rattle.std.proofs.Common.{ℕ, Bool, not, ◌==◌, refl, ap, ◌∙◌, rules}
use Rattle.ranges.specs.Ranges.{all}
use Rattle.ranges.proofs.Chains.{all_below}
use Rattle.jobs.specs.Sections.{cell}
use Rattle.jobs.proofs.section.Section.never_stops.Goals as goal

pub returns : goal.returns
returns c =
    let s = c.args.self.now in
    let test : ℕ → Bool = λ i. not (cell s.bytes.now s.at i == 255) in
    all_below _ test refl c.all.ensures.ran (λ x b q k. search rules) ∙ ap (λ n. all n test) c.cells.ensures.value
