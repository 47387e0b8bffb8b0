-- The arena that a table holds.
use Rattle.std.specs.Prelude.{◌≡◌, ℕ, ◌+◌, ◌-◌, ◌^◌, ◌<◌, false, if◌then◌else◌, ◌&&◌, List, [], None, nat_le, nat_lt, slice_index_or}
use Rattle.automata.specs.Steps.{named, onward}
use Rattle.automata.specs.Arena.{Arena}
use Rattle.games.specs.declared.table.Table.{Table}
use Rattle.games.specs.declared.table.Row.{Row}

-- a row in which nothing is marked and nothing is stored
abbrev pub blank : Row
blank = record { marked = false; rights = []; steps = [] }

-- a row holds what an arena answers at the state q
pub record Holds (A : Arena) (q : ℕ) (row : Row) : Type 0 where
  pub marked : row.marked ≡ A.marked q
  pub rights : (i : ℕ) → i < 4 → slice_index_or row.rights i false ≡ A.right (i + 1) q
  pub steps : (x y : ℕ) → x < 8 → y < 8 → slice_index_or (slice_index_or row.steps x []) y None ≡ A.step q x y

-- the arena of n states with a reading bits, b command bits and k rights that the rows of its
-- states tell. A stored step that is no state is none
abbrev pub tabled : (a b n start k : ℕ) → List Row → Arena
tabled a b n start k rows = record {
  a = a;
  b = b;
  n = n;
  start = start;
  k = k;
  marked = λ q. nat_lt q n && (slice_index_or rows q blank).marked;
  right = λ i q. nat_le 1 i && nat_le i k && nat_lt q n && slice_index_or (slice_index_or rows q blank).rights (i - 1) false;
  step = λ q x y.
      if nat_lt q n && nat_lt x (2 ^ a) && nat_lt y (2 ^ b) then onward (slice_index_or (slice_index_or (slice_index_or rows q blank).steps x []) y None) None (named n) else None;
}

abbrev pub table_arena : Table → Arena
table_arena t = tabled t.reading_bits t.command_bits t.count t.start t.rights t.rows.value

-- one state, with no mark, no right and no step: what a table holds before it takes over an arena
abbrev pub lone : Arena
lone = record {
  a = 0;
  b = 0;
  n = 1;
  start = 0;
  k = 0;
  marked = λ q. false;
  right = λ i q. false;
  step = λ q x y. None;
}
