use Rattle.std.proofs.Common.{refl}
use Rattle.automata.specs.Arena.{arena_of}
use Rattle.automata.specs.Machine.{machine_of}
use Rattle.automata.proofs.WalkLaws.{adds}
use Rattle.automata.proofs.right.WithRight.of.Goals as goal

pub returns : goal.returns
returns g c =
    let s = c.args.arena in
    let t = c.args.right in
    record {
      made = (refl, refl);
      adds = λ few more. adds (arena_of g.P.Automaton g.P.Arena s) (machine_of g.R.Automaton t) (g.met.P.Automaton.begins s, g.met.P.Automaton.enters s) (g.met.R.Automaton.begins t, g.met.R.Automaton.enters t) few more;
    }
