use Rattle.std.proofs.Common.{is_some, sym, ap, ◌∙◌}
use Rattle.sheets.specs.Opened.{bytes_of}
use Rattle.sheets.proofs.Told.{steps_below}
use Rattle.drives.proofs.Steps.{permitted_step}
use Rattle.drives.proofs.waiting.Waiting.landing.Goals as goal

pub unwrap-requires : goal.unwrap-requires
unwrap-requires c =
    let d = c.args.self.now in
    ap is_some c.step.ensures ∙ permitted_step c.args.sheet.now d.column d.state d.reading c.args.command c.requires

pub returns : goal.returns
returns c =
    let d = c.args.self.now in
    let s = c.args.sheet.now in
    let e = sym c.step.ensures ∙ c.unwrap.ensures in
    record { step = e; below = steps_below (bytes_of s) s.checked d.state d.reading c.args.command c.unwrap.result e }
