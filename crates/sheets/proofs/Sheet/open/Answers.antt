use Rattle.std.proofs.Common.{sym, ◌∙◌, rules}
use Rattle.sheets.proofs.Places.{whole_parts}
use Rattle.sheets.proofs.SheetLaws.{opens_written, opens_nothing_else, equal_sheets, behind_ignored}
use Rattle.sheets.proofs.Sheet.open.Goals as goal

pub frame-requires : goal.frame-requires
frame-requires c =
    let p = whole_parts c.args.bytes.now (sym c.is_whole.ensures ∙ c.if-not-is_whole.false) in
    record { fits = p.fits; laid = p.laid }

pub returns-then-not-is_whole : goal.returns-then-not-is_whole
returns-then-not-is_whole c = record {
  answer = search rules;
  holds = search rules;
  kept = search rules;
  written = opens_written;
  only = opens_nothing_else;
  once = equal_sheets;
  behind = behind_ignored;
}

pub returns : goal.returns
returns c = record {
  answer = search rules;
  holds = search rules;
  kept = search rules;
  written = opens_written;
  only = opens_nothing_else;
  once = equal_sheets;
  behind = behind_ignored;
}
