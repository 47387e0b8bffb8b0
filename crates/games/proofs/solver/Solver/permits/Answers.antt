use Rattle.std.proofs.Common.{◌≡◌, false, not, ◌&&◌, eqb, sym, ap, ◌∙◌}
use Rattle.std.proofs.lemmas.Bool.{and_left, and_right}
use Rattle.games.specs.Columns.{rank_in}
use Rattle.games.specs.Regions.{lawful}
use Rattle.games.specs.Solved.{solver_arena}
use Rattle.games.proofs.SolverLaws.{permits_asked}
use Rattle.games.proofs.solver.Solver.permits.Goals as goal
use Rattle.games.proofs.solver.Solver.permits.Goals.{then-not-lacks, else-not-lacks}

pub returns-else-is_lawful : goal.returns-else-is_lawful
returns-else-is_lawful c =
    let A = solver_arena c.args.self.now in
    let off : (not (eqb (rank_in A c.args.column c.args.q) 65535) && lawful A c.args.q c.args.x) ≡ false =
    elim c.if-not-lacks.branch [
      | then-not-lacks w ↦ and_right _ _ (sym w.is_lawful.ensures ∙ sym w.value-is ∙ c.if-is_lawful.false)
      | else-not-lacks w ↦ and_left _ _ (ap not (sym c.lacks.ensures ∙ w.if-not-lacks.false))
    ] in
    c.if-is_lawful.false ∙ sym (and_left _ _ off) ∙ permits_asked c.args.self.now c.args.column c.args.q c.args.x c.args.y
