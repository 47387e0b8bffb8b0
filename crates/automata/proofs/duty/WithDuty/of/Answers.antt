use Rattle.std.proofs.Common.{refl}
use Rattle.automata.specs.Machine.{machine_of}
use Rattle.automata.proofs.WalkLaws.{carries}
use Rattle.automata.proofs.duty.WithDuty.of.Goals as goal

pub returns : goal.returns
returns g c =
    let s = c.args.terrain in
    let t = c.args.duty in
    record {
      made = (refl, refl);
      carries = λ few. carries (machine_of g.G.Automaton s) (machine_of g.D.Automaton t) (g.met.G.Automaton.begins s, g.met.G.Automaton.enters s) (g.met.D.Automaton.begins t, g.met.D.Automaton.enters t) few;
    }
