use Rattle.std.proofs.Common.{rules, ◌≤◌, length, Ok, sym, ap, ◌∙◌, arith}
use Rattle.automata.specs.Arena.{arena_of}
use Rattle.automata.specs.Lawful.{LawfulArena}
use Rattle.games.specs.Solved.{solver_arena}
use Rattle.games.specs.Verdicts.{verdict}
use Rattle.games.proofs.MeantLaws.{meant}
use Rattle.sheets.specs.Encoding.{sheet_length}
use Rattle.planner.specs.ArenaTables.{arena_tables}
use Rattle.planner.proofs.FewLawful.{few_lawful}
use Rattle.planner.proofs.PlanLaws.{solved_verdict, solved_arena, write_takes, answer_opens, answer_reads}
use Rattle.planner.proofs.Planner.plan.Given as given
use Rattle.planner.proofs.Planner.plan.Goals as goal

-- an arena of few states is lawful
lawful : (g : given.Over) (arena : g.row.P.Denot) → (arena_of g.P.Automaton g.P.Arena arena).n ≤ 256 → LawfulArena (arena_of g.P.Automaton g.P.Arena arena)
lawful g = few_lawful g.world g.row.P g.P.Automaton g.P.Arena g.P.Automaton-dict g.P.Arena-dict g.met.P.Automaton g.met.P.Arena

pub returns-then-buffer-drive_sheet_length-clause-meant : goal.returns-then-buffer-drive_sheet_length-clause-meant
returns-then-buffer-drive_sheet_length-clause-meant g c few = meant (arena_of g.P.Automaton g.P.Arena c.args.arena.now) (lawful g c.args.arena.now few)

pub write-requires : goal.write-requires
write-requires g c =
    let A = arena_of g.P.Automaton g.P.Arena c.args.arena.now in
    let few : A.n ≤ 256 = omega (arith, c.count.ensures) in
    solved_verdict A few c.in_ok-verdict.verdict c.in_ok-verdict.ensures.answer
    ∙ ap verdict (sym (solved_arena A few (solver_arena c.solve.new.self) _ c.solve.ensures.holds))

pub returns-in_err-write : goal.returns-in_err-write
returns-in_err-write g c =
    let A = arena_of g.P.Automaton g.P.Arena c.args.arena.now in
    let old = c.args.buffer.now in
    let few : A.n ≤ 256 = omega (arith, c.count.ensures) in
    let room : sheet_length (arena_tables A) ≤ length old = omega (arith, c.drive_sheet_length.ensures) in
    let held = solved_arena A few (solver_arena c.solve.new.self) _ c.solve.ensures.holds in
    absurd (write_takes A (solver_arena c.solve.new.self) held old few room c.in_ok-verdict.verdict _ c.in_err-write.ensures.answer)

pub returns-clause-opens : goal.returns-clause-opens
returns-clause-opens g c =
    answer_opens (arena_of g.P.Automaton g.P.Arena c.args.arena.now) c.args.buffer.now (lawful g c.args.arena.now) (Ok c.in_ok-verdict.verdict) c.write.new.buffer (search rules) (search rules)

pub returns-clause-reads : goal.returns-clause-reads
returns-clause-reads g c =
    answer_reads (arena_of g.P.Automaton g.P.Arena c.args.arena.now) c.args.buffer.now (lawful g c.args.arena.now) (Ok c.in_ok-verdict.verdict) c.write.new.buffer (search rules) (search rules)
