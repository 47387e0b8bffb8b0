use Rattle.std.proofs.Common.{sym, ◌∙◌}
use Rattle.std.proofs.lemmas.Bool.{lt-leb, cond-false}
use Rattle.games.specs.Solved.{solver_arena}
use Rattle.games.proofs.RegionLaws.{rank_outside}
use Rattle.games.proofs.SolverLaws.{solver_lawful, rank_in_at, stored_is}
use Rattle.games.proofs.solver.Solver.rank.Goals as goal
use Rattle.games.proofs.solver.Solver.rank.Goals.{else-column-self-via-then-column-self+else-q-self, else-column-self-via-else-column-self}

pub returns-then-q-self : goal.returns-then-q-self
returns-then-q-self c = c.stored_rank.ensures ∙ stored_is c.args.self.now c.args.column c.args.q c.if-column-self.true c.if-q-self.true

pub returns-else-column-self : goal.returns-else-column-self
returns-else-column-self c =
    let s = c.args.self.now in
    elim c.else-column-self.branch [
      | else-column-self-via-then-column-self+else-q-self w ↦ sym (rank_in_at s c.args.column c.args.q w.if-column-self.true ∙ rank_outside (solver_arena s) (solver_lawful s) c.args.column c.args.q w.if-q-self.false)
      | else-column-self-via-else-column-self w ↦ sym (cond-false _ _ 65535 (lt-leb _ _ w.if-column-self.false))
    ]
