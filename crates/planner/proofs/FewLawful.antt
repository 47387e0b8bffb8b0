-- An arena of few states is lawful.
use Rattle.std.proofs.Common.{◌≤◌}
use borrow.Fn.World.{World}
use denote.RattleType.{RattleType}
use mir.Syntax.{Dict}
use Rattle.automata.specs.declared.automaton.Automaton.{Ghosts as Automatic}
use Rattle.automata.specs.declared.arena.Arena.{Ghosts as Entitled}
use Rattle.automata.specs.contracts.automaton.Automaton.TheBound as AutomatonBound
use Rattle.automata.specs.contracts.arena.Arena.TheBound as ArenaBound
use Rattle.automata.specs.Arena.{arena_of}
use Rattle.automata.specs.Lawful.{LawfulArena}

module _ (w : World) (P : RattleType) (f : Automatic P.Denot) (h : Entitled P.Denot) (d e : Dict) where
  pub few_lawful : AutomatonBound.Met w.𝓛 w.𝓜 w.𝓡 w.𝓡.env P f d → ArenaBound.Met w.𝓛 w.𝓜 w.𝓡 w.𝓡.env P h e f d → (arena : P.Denot) → (arena_of f h arena).n ≤ 256 → LawfulArena (arena_of f h arena)
  few_lawful a b arena few = record {
    few_reading_bits = (a.narrow arena).0;
    few_command_bits = (a.narrow arena).1;
    few_rights = b.few arena;
    few_states = few;
    start_inside = a.begins arena;
    step_inside = a.enters arena;
    state_outside = a.state_outside arena;
    reading_outside = a.reading_outside arena;
    command_outside = a.command_outside arena;
    mark_outside = a.mark_outside arena;
    no_zeroth = b.no_zeroth arena;
    right_outside = b.right_outside arena;
    right_state_outside = b.right_state_outside arena;
  }
