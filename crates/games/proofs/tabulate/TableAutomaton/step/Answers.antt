use Rattle.std.proofs.Common.{◌^◌, ◌≤◌, arith, pow_mono}
use Rattle.std.proofs.lemmas.Nat.{one_shl}
use Rattle.games.proofs.tabulate.TableAutomaton.step.Goals as goal

pub bounds-deref-x : goal.bounds-deref-x
bounds-deref-x c =
    let t = c.args.self.now in
    let a : 2 ^ t.reading_bits ≤ 2 ^ 3 = pow_mono t.narrow_readings in
    omega (arith, one_shl t.reading_bits 8 (omega arith))

pub bounds-deref-y : goal.bounds-deref-y
bounds-deref-y c =
    let t = c.args.self.now in
    let a : 2 ^ t.command_bits ≤ 2 ^ 3 = pow_mono t.narrow_commands in
    omega (arith, one_shl t.command_bits 8 (omega arith))
