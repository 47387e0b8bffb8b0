use Rattle.std.proofs.Common.{◌≡◌, sym, subst, arith}
use Rattle.automata.specs.Arena.{arena_of}
use Rattle.games.specs.Search.{Monotone, Ranks}
use Rattle.games.specs.Passes.{Passed}
use Rattle.games.proofs.Rows.{row_more, row_last, row_ranks}
use Rattle.games.proofs.SettledLaws.{settles}
use Rattle.games.proofs.search.search.Goals as goal

pub loop-stage-preserved : goal.loop-stage-preserved
loop-stage-preserved g c =
    let arena = c.args.arena.now in
    let A = arena_of g.P.Automaton g.P.Arena arena in
    let rule = c.args.rule.now in
    let mono : Monotone A.n (g.J.JoiningRule.joins rule A) = g.met.J.JoiningRule.grows rule A (g.met.P.Automaton.enters arena) in (
      row_more A.n (g.J.JoiningRule.first rule A) (g.J.JoiningRule.joins rule A) mono c.loop-stage.ranks c.loop-stage.stage (omega arith) c.loop-stage.invariant.0 c.pass.new.ranks c.pass.auto.ranks c.pass.ensures.passed,
      omega arith,
    )

pub returns-else-pass : goal.returns-else-pass
returns-else-pass g c =
    let arena = c.args.arena.now in
    let A = arena_of g.P.Automaton g.P.Arena arena in
    let rule = c.args.rule.now in
    let first = g.J.JoiningRule.first rule A in
    let joins = g.J.JoiningRule.joins rule A in
    let mono : Monotone A.n joins = g.met.J.JoiningRule.grows rule A (g.met.P.Automaton.enters arena) in
    let ranks = c.loop-stage.ranks in
    let same : c.pass.new.ranks ≡ ranks = c.pass.ensures.still c.if-pass.false in
    let still : Passed joins ranks c.loop-stage.stage ranks = subst (Passed joins ranks c.loop-stage.stage) same c.pass.ensures.passed in
    record {
      ranks = subst (Ranks A.n first joins) (sym same)
          (row_ranks A.n first joins ranks (row_last A.n first joins mono ranks c.loop-stage.stage (omega arith) c.loop-stage.invariant.0 still (omega arith)));
      settled = settles A.n first joins mono;
    }

pub returns-after-loop-stage-clause-settled : goal.returns-after-loop-stage-clause-settled
returns-after-loop-stage-clause-settled g c =
    let arena = c.args.arena.now in
    let A = arena_of g.P.Automaton g.P.Arena arena in
    let rule = c.args.rule.now in
    settles A.n (g.J.JoiningRule.first rule A) (g.J.JoiningRule.joins rule A) (g.met.J.JoiningRule.grows rule A (g.met.P.Automaton.enters arena))
