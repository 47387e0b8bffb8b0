use Rattle.automata.specs.Arena.{arena_of}
use Rattle.games.proofs.TableLaws.{tells_arena}
use Rattle.games.proofs.table.Table.copy.Goals as goal

pub returns : goal.returns
returns g c =
    let arena = c.args.arena.now in
    let f = g.met.P.Automaton in
    let h = g.met.P.Arena in
    let t = c.args.self.now in
    tells_arena (arena_of g.P.Automaton g.P.Arena arena)
    (record {
      few_reading_bits = (f.narrow arena).0;
      few_command_bits = (f.narrow arena).1;
      few_rights = h.few arena;
      few_states = c.requires;
      start_inside = f.begins arena;
      step_inside = f.enters arena;
      state_outside = f.state_outside arena;
      reading_outside = f.reading_outside arena;
      command_outside = f.command_outside arena;
      mark_outside = f.mark_outside arena;
      no_zeroth = h.no_zeroth arena;
      right_outside = h.right_outside arena;
      right_state_outside = h.right_state_outside arena;
    }) _ c.copy_rows.ensures _ _ _ _ _ c.reading_bits-self.ensures c.command_bits-self.ensures c.count-self.ensures c.start-self.ensures c.rights-self.ensures
