use Rattle.std.proofs.Common.{ap, ◌∙◌, ap₂}
use Rattle.automata.specs.Arena.{arena_of}
use Rattle.automata.specs.Layers.{right_arena}
use Rattle.jobs.specs.Meanings.{part_machine}
use Rattle.jobs.proofs.job_bytes.JobBytes.add_right.Goals as goal

pub returns : goal.returns
returns g c =
    ap₂ right_arena
    (ap (arena_of g.P.Automaton g.P.Arena) c.of.ensures.made.0 ∙ c.requires.made)
    (ap part_machine c.of.ensures.made.1 ∙ c.in_ok-right.ensures)
