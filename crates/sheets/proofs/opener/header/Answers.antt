use Rattle.std.proofs.Common.{rules, ap₂, ◌∙◌}
use Rattle.sheets.specs.Format.{reading_bits, command_bits, rights}
use Rattle.sheets.specs.Placed.{places_for}
use Rattle.sheets.proofs.Places.{bounds, power_small}
use Rattle.sheets.proofs.opener.header.Goals as goal

pub returns : goal.returns
returns c =
    let bs = c.args.bytes.now in
    let d = bounds bs c.requires in
    let r = power_small (reading_bits bs) d.few_reading_bits in
    let m = power_small (command_bits bs) d.few_command_bits in
    let p = c.lay_out.ensures ∙ ap₂ (λ x y. places_for x y (rights bs) c.word_within-count.result) r m in
    search rules
