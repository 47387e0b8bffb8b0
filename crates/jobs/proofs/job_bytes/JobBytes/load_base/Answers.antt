use Rattle.std.proofs.Common.{◌≡◌, vec_items, ap, ◌∙◌, ap₂, arith}
use Rattle.automata.specs.Table.{table}
use Rattle.automata.specs.Layers.{duty_arena}
use Rattle.jobs.specs.FlatJob.{byte}
use Rattle.jobs.specs.Parts.{plain}
use Rattle.jobs.specs.Meanings.{part_machine}
use Rattle.jobs.proofs.LoadLaws.{ground_plain}
use Rattle.jobs.proofs.job_bytes.JobBytes.load_base.Goals as goal

pub load_table-requires-clause-fits : goal.load_table-requires-clause-fits
load_table-requires-clause-fits c = let fits = (c.requires.each 0 (omega arith)).fits in cc

pub returns : goal.returns
returns c =
    let bs = c.args.self.now.bytes.now in
    let w = c.section.result.widths in
    let ground : plain w.reading_bits w.command_bits c.section.result.bytes.now c.section.result.at ≡ plain (byte bs 3) (byte bs 4) bs 8 = cc in
    ap₂ duty_arena
    (ap (λ t. table t.shape (vec_items t.bytes)) c.of.ensures.made.0 ∙ c.in_ok-ground.ensures ∙ ground ∙ ground_plain bs c.requires.ground_fits)
    (ap part_machine c.of.ensures.made.1 ∙ c.in_ok-duty.ensures)
