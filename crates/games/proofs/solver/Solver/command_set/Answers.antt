use Rattle.std.proofs.Common.{◌^◌, ◌≤◌, rules, ap, ◌∙◌, arith, pow_mono}
use Rattle.std.proofs.Math.Nat.{min-eq_left}
use Rattle.ranges.specs.Ranges.{bits}
use Rattle.games.specs.Columns.{permits_in}
use Rattle.games.specs.Solved.{solver_arena}
use Rattle.games.proofs.solver.Solver.command_set.Goals as goal

pub returns : goal.returns
returns c =
    let f = permits_in (solver_arena c.args.self.now) c.args.column c.args.q c.args.x in
    let few : 2 ^ c.args.self.now.table.command_bits ≤ 2 ^ 3 = pow_mono c.args.self.now.table.narrow_commands in
    c.bits_where.ensures f (λ i b l k. search rules) ∙ ap (λ n. bits n f) (min-eq_left (omega (arith, few, c.commands.ensures)) ∙ c.commands.ensures)
