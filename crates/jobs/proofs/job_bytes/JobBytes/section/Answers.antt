use Rattle.std.proofs.Common.{◌≡◌, ℕ, ◌+◌, refl, ap, ◌∙◌, arith, rules}
use Rattle.jobs.specs.FlatJob.{byte}
use Rattle.jobs.specs.Sections.{end}
use Rattle.jobs.specs.Parts.{offset}
use Rattle.jobs.proofs.CountLaws.{fold_below}
use Rattle.jobs.proofs.OffsetLaws.{offset_fold, near_fold, nearby}
use Rattle.jobs.proofs.job_bytes.JobBytes.section.Goals as goal

pub fold-at-requires-clause-callable : goal.fold-at-requires-clause-callable
fold-at-requires-clause-callable c = nearby _ c.requires refl (λ at x b q k. search rules) (λ at x l. search rules)

pub section_at-requires : goal.section_at-requires
section_at-requires c = near_fold _ c.requires refl (λ at x b q k. search rules) _ c.fold-at.ensures.ran

pub returns-clause-at : goal.returns-clause-at
returns-clause-at c =
    let bs = c.args.self.now.bytes.now in
    let a = byte bs 3 in
    let b = byte bs 4 in
    c.section_at.ensures.at
    ∙ fold_below c.args.i (λ at (_ : ℕ). end a b bs at) 8 _ refl c.fold-at.ensures.ran (λ at x r q k. search rules)
    ∙ offset_fold a b bs c.args.i 0 8 refl
    ∙ ap (offset a b bs) (let p : 0 + c.args.i ≡ c.args.i = omega arith in p)
