use Rattle.std.proofs.Common.{◌≡◌, ◌^◌, ◌≤◌, min, ap, ◌∙◌, rules, arith, pow_mono, ℕ}
use Rattle.ranges.specs.Ranges.{bits}
use Rattle.automata.specs.Arena.{Arena}
use Rattle.games.specs.Regions.{lawful}
use Rattle.games.specs.Solved.{solver_arena}
use Rattle.games.proofs.SolverLaws.{solver_lawful}
use Rattle.planner.proofs.solved.SolverDriveTables.lawful_byte.Goals as goal

pub returns : goal.returns
returns c =
    let A = solver_arena c.args.self.now in
    let f = lawful A c.args.state in
    let few : 2 ^ A.a ≤ 2 ^ 3 = pow_mono (solver_lawful c.args.self.now).few_reading_bits in
    let n : c.readings.result ≡ 2 ^ A.a = c.readings.ensures ∙ ap (λ (B : Arena). 2 ^ B.a) c.arena.ensures in
    let m : min c.readings.result 8 ≡ 2 ^ A.a = omega arith in
    c.bits_where.ensures f (λ i b l p. search rules) ∙ ap (λ (m : ℕ). bits m f) m
