use Rattle.std.proofs.Common.{refl}
use Rattle.automata.specs.Machine.{machine_of}
use Rattle.automata.proofs.WalkLaws.{holds}
use Rattle.automata.proofs.held.Held.over.Goals as goal

pub returns : goal.returns
returns g c =
    let s = c.args.below in
    record { made = refl; holds = λ few. holds (machine_of g.A.Automaton s) (g.met.A.Automaton.begins s, g.met.A.Automaton.enters s) few }
