use Rattle.std.proofs.Common.{Ok, length, string_bytes, sym, ap, ◌∙◌}
use Rattle.automata.specs.Arena.{arena_of}
use Rattle.sheets.specs.Format.{tables_of}
use Rattle.planner.specs.ArenaTables.{arena_tables, arena_grounds}
use Rattle.planner.proofs.FewLawful.{few_lawful}
use Rattle.planner.proofs.PlanLaws.{answer_opens, answer_reads}
use Rattle.assurance.specs.Assured.{verdict_of}
use Rattle.lines.specs.Jobs.{sheet_text}
use Rattle.lines.proofs.SheetTexts.{same_rank_lines, same_column_lines, verdict_shown}
use Rattle.lines.proofs.job.show_arena.Goals as goal

pub returns-in_ok-show_sheet-in-Planned-clause-text :
    goal.returns-in_ok-show_sheet-in-Planned-clause-text
returns-in_ok-show_sheet-in-Planned-clause-text g c =
    let A = arena_of g.P.Automaton g.P.Arena c.args.arena.now in
    let lawful = few_lawful g.world g.row.P g.P.Automaton g.P.Arena g.P.Automaton-dict g.P.Arena-dict g.met.P.Automaton g.met.P.Arena c.args.arena.now in
    let ok = ap verdict_of c.in-Ok.is in
    let opens = answer_opens A c.args.buffer.now lawful (verdict_of c.assure.result) c.assure.new.buffer c.assure.ensures.answer c.assure.ensures.buffer c.in-Planned.field-0 (ok ∙ ap Ok c.in-Planned.is) in
    verdict_shown A (length c.args.buffer.now) c.in-Ok.outcome.verdict c.count.result c.rights.result (string_bytes c.args.out.now) (sym c.assure.ensures.answer ∙ ok) c.count.ensures c.rights.ensures
    c.in_ok-show_verdict-in-Ok.ensures c.in_ok-show_sheet-in-Planned.ensures (sym (same_rank_lines (arena_tables A) (tables_of c.assure.new.buffer) opens.says) ∙ ap (sheet_text A) (sym c.in-Planned.is))

pub returns-in_ok-show_columns-in-Unplayable-clause-text :
    goal.returns-in_ok-show_columns-in-Unplayable-clause-text
returns-in_ok-show_columns-in-Unplayable-clause-text g c =
    let A = arena_of g.P.Automaton g.P.Arena c.args.arena.now in
    let lawful = few_lawful g.world g.row.P g.P.Automaton g.P.Arena g.P.Automaton-dict g.P.Arena-dict g.met.P.Automaton g.met.P.Arena c.args.arena.now in
    let ok = ap verdict_of c.in-Ok.is in
    let right = c.in-Unplayable.field-0 in
    let reads = answer_reads A c.args.buffer.now lawful (verdict_of c.assure.result) c.assure.new.buffer c.assure.ensures.answer c.assure.ensures.buffer right (ok ∙ ap Ok c.in-Unplayable.is) in
    verdict_shown A (length c.args.buffer.now) c.in-Ok.outcome.verdict c.count.result c.rights.result (string_bytes c.args.out.now) (sym c.assure.ensures.answer ∙ ok) c.count.ensures c.rights.ensures
    c.in_ok-show_verdict-in-Ok.ensures c.in_ok-show_columns-in-Unplayable.ensures (same_column_lines (arena_grounds A right) c.assure.new.buffer reads ∙ ap (sheet_text A) (sym c.in-Unplayable.is))
