-- The automaton of a table: a mark byte for each state, 1 where it is marked, and then a step byte
-- for each state, reading and command; one that is no state is none.
use Rattle.std.specs.Prelude.{ℕ, ◌&&◌, List, ◌==◌, nat_lt, slice_index}
use Rattle.automata.specs.Steps.{step_told}
use Rattle.automata.specs.Machine.{Machine}
use Rattle.automata.specs.declared.shape.Shape.{Shape}

-- by its numbers: reading bits, command bits, states and the start
abbrev pub table_by : ℕ → ℕ → ℕ → ℕ → List ℕ → Machine
table_by a b n start bytes =
    record {
      a = a;
      b = b;
      n = n;
      start = start;
      marked = λ q. nat_lt q n && (slice_index bytes q == 1);
      step = step_told a b n n bytes;
    }

abbrev pub table : {most : ℕ} → Shape most → List ℕ → Machine
table h bytes = table_by h.reading_bits h.command_bits h.count h.start bytes
