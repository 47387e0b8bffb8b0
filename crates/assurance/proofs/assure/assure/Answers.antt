use Rattle.std.proofs.Common.{◌≡◌, ◌≤◌, inl, inr, None, Ok, Result, sym, refl, ap, ◌∙◌, subst}
use Rattle.automata.specs.Arena.{arena_of}
use Rattle.automata.specs.Lawful.{LawfulArena}
use Rattle.games.specs.declared.verdict.Verdict.{Verdict}
use Rattle.games.specs.declared.verdict.Verdict.TheVariants.{Planned}
use Rattle.planner.specs.declared.fault.PlanFault.{PlanFault}
use Rattle.planner.proofs.FewLawful.{few_lawful}
use Rattle.planner.proofs.PlanLaws.{answered}
use Rattle.assurance.specs.Assured.{ByVerdict}
use Rattle.assurance.proofs.RunLaws.{drives}
use Rattle.assurance.proofs.GroundJoin.{ground_holds}
use Rattle.assurance.proofs.assure.assure.Given as given
use Rattle.assurance.proofs.assure.assure.Goals as goal

-- an arena of few states is lawful
lawful : (g : given.Over) (arena : g.row.P.Denot) → (arena_of g.P.Automaton g.P.Arena arena).n ≤ 256 → LawfulArena (arena_of g.P.Automaton g.P.Arena arena)
lawful g = few_lawful g.world g.row.P g.P.Automaton g.P.Arena g.P.Automaton-dict g.P.Arena-dict g.met.P.Automaton g.met.P.Arena

pub returns-in_err-verdict-clause-runs : goal.returns-in_err-verdict-clause-runs
returns-in_err-verdict-clause-runs g c few = drives (arena_of g.P.Automaton g.P.Arena c.args.arena.now) (lawful g c.args.arena.now few)

pub returns-in-Planned-clause-runs : goal.returns-in-Planned-clause-runs
returns-in-Planned-clause-runs g c few = drives (arena_of g.P.Automaton g.P.Arena c.args.arena.now) (lawful g c.args.arena.now few)

pub returns-in-Planned-clause-assured : goal.returns-in-Planned-clause-assured
returns-in-Planned-clause-assured g c =
    let arena = c.args.arena.now in
    let A = arena_of g.P.Automaton g.P.Arena arena in
    let v = c.in_ok-verdict.verdict in
    let bs = c.plan.new.buffer in
    let was = c.in_ok-verdict.was in
    let is : v ≡ Planned c.in-Planned.field-0 = c.in-Planned.is in
    let known = answered A c.args.buffer.now v (sym c.plan.ensures.answer ∙ was) in
    let L = lawful g arena known.few_states in
    let O = c.plan.ensures.opens c.in-Planned.field-0 (was ∙ ap {B = Result Verdict PlanFault} Ok is) in
    subst (ByVerdict A bs c.args.entries.now c.drive_on-drive.new.entries c.drive_on-drive.result) (sym is) (c.drive_on-drive.ensures A L O c.in-Planned.field-0 (known.is ∙ is))

pub returns-in-Groundless-clause-runs : goal.returns-in-Groundless-clause-runs
returns-in-Groundless-clause-runs g c few = drives (arena_of g.P.Automaton g.P.Arena c.args.arena.now) (lawful g c.args.arena.now few)

pub returns-in-Groundless-clause-assured : goal.returns-in-Groundless-clause-assured
returns-in-Groundless-clause-assured g c =
    let arena = c.args.arena.now in
    let A = arena_of g.P.Automaton g.P.Arena arena in
    let v = c.in_ok-verdict.verdict in
    let bs = c.plan.new.buffer in
    let was = c.in_ok-verdict.was in
    let known = answered A c.args.buffer.now v (sym c.plan.ensures.answer ∙ was) in
    let L = lawful g arena known.few_states in
    elim c.in-Groundless.is [
      | inl is ↦ subst (ByVerdict A bs c.args.entries.now c.args.entries.now None) (sym is) (refl, refl)
      | inr is ↦
          let R = c.plan.ensures.reads is.0 (was ∙ ap {B = Result Verdict PlanFault} Ok is.1) in
          let holds = ground_holds A L bs is.0 R (c.plan.ensures.meant known.few_states) (is.0, known.is ∙ is.1) in
          subst (ByVerdict A bs c.args.entries.now c.args.entries.now None) (sym is.1) ((refl, refl), holds)
    ]
