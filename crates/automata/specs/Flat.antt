-- The arena of a flat job: eight bytes of head, a mark byte for each state, a step byte for each
-- state, reading and command, in that order; a step byte that is no state is none.
use Rattle.std.specs.Prelude.{ℕ, ◌+◌, ◌&&◌, List, nat_le, nat_lt, slice_index}
use Rattle.ranges.specs.Ranges.{bit}
use Rattle.automata.specs.Steps.{step_told}
use Rattle.automata.specs.Arena.{Arena}
use Rattle.automata.specs.declared.header.FlatHeader.{FlatHeader}

-- by its numbers: reading bits, command bits, rights, states and the start
abbrev pub flat_by : ℕ → ℕ → ℕ → ℕ → ℕ → List ℕ → Arena
flat_by a b k n start bytes =
    record {
      a = a;
      b = b;
      n = n;
      start = start;
      k = k;
      -- bit 0 of a mark byte is the duty's, bit i is right i's
      marked = λ q. nat_lt q n && bit (slice_index bytes (8 + q)) 0;
      right = λ i q. nat_le 1 i && nat_le i k && nat_lt q n && bit (slice_index bytes (8 + q)) i;
      step = step_told a b n (8 + n) bytes;
    }

abbrev pub flat_arena : FlatHeader → List ℕ → Arena
flat_arena h bytes = flat_by h.shape.reading_bits h.shape.command_bits h.rights h.shape.count h.shape.start bytes
