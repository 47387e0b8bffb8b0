use Rattle.std.proofs.Common.{◌≡◌, true, false, cond, Ok, Err, sym, ap, ◌∙◌}
use Rattle.jobs.specs.Sections.{is_ground}
use Rattle.jobs.specs.JobFile.{of_section}
use Rattle.jobs.specs.declared.fault.SectionFault.TheVariants.{NotAGround}
use Rattle.jobs.proofs.TurnLaws.{ground_turn}
use Rattle.jobs.proofs.job_bytes.JobBytes.check_ground.Goals as goal

pub returns-then-is_ground : goal.returns-then-is_ground
returns-then-is_ground c =
    let bs = c.args.self.now.bytes.now in
    let e : is_ground bs 8 ≡ true = cc in
    sym (ground_turn bs ∙ ap (λ t. of_section 0 (cond t (Ok tt) (Err NotAGround))) e)

pub returns-else-is_ground : goal.returns-else-is_ground
returns-else-is_ground c =
    let bs = c.args.self.now.bytes.now in
    let e : is_ground bs 8 ≡ false = cc in
    sym (ground_turn bs ∙ ap (λ t. of_section 0 (cond t (Ok tt) (Err NotAGround))) e)
