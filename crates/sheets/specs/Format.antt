-- The tables that the bytes of a drive sheet hold.
use Rattle.std.specs.Prelude.{ℕ, ◌+◌, ◌*◌, ◌^◌, cond, ◌&&◌, List, Some, None, Option, ◌==◌, nat_le, nat_lt, slice_index}
use Rattle.ranges.specs.Ranges.{bit}
use Rattle.sheets.specs.Tables.{Tables}
use Rattle.sheets.specs.Layout.{lawful_from, steps_from, ranks_from, sets_from, ends_at}

-- the byte at a place, or 0 past the end
abbrev pub byte : List ℕ → ℕ → ℕ
byte bs i = slice_index bs i

-- the two-byte field at a place, its low byte first
unfoldable pub word : List ℕ → ℕ → ℕ
word bs i = byte bs i + 256 * byte bs (i + 1)

-- THE HEADER: 68, 83, 1, reading bits, command bits and rights, a byte each; then the count of states,
-- the start, four offsets and the total length, two bytes each
abbrev pub reading_bits : List ℕ → ℕ
reading_bits bs = byte bs 3

abbrev pub command_bits : List ℕ → ℕ
command_bits bs = byte bs 4

abbrev pub rights : List ℕ → ℕ
rights bs = byte bs 5

abbrev pub count : List ℕ → ℕ
count bs = word bs 6

abbrev pub start : List ℕ → ℕ
start bs = word bs 8

-- how many readings, and how many commands
abbrev pub readings : List ℕ → ℕ
readings bs = 2 ^ reading_bits bs

abbrev pub commands : List ℕ → ℕ
commands bs = 2 ^ command_bits bs

-- where the parts begin, and where the last ends
abbrev pub steps_at : List ℕ → ℕ
steps_at bs = steps_from (count bs)

abbrev pub ranks_at : List ℕ → ℕ
ranks_at bs = ranks_from (reading_bits bs) (command_bits bs) (count bs)

abbrev pub sets_at : List ℕ → ℕ
sets_at bs = sets_from (reading_bits bs) (command_bits bs) (rights bs) (count bs)

abbrev pub total : List ℕ → ℕ
total bs = ends_at (reading_bits bs) (command_bits bs) (rights bs) (count bs)

-- THE FIELDS of the four parts
unfoldable pub lawful_byte : List ℕ → ℕ → ℕ
lawful_byte bs q = byte bs (lawful_from + q)

unfoldable pub step_word : List ℕ → ℕ → ℕ → ℕ → ℕ
step_word bs q x y = word bs (steps_at bs + 2 * ((q * readings bs + x) * commands bs + y))

unfoldable pub rank_word : List ℕ → ℕ → ℕ → ℕ
rank_word bs c q = word bs (ranks_at bs + 2 * (c * count bs + q))

unfoldable pub set_byte : List ℕ → ℕ → ℕ → ℕ → ℕ
set_byte bs c q x = byte bs (sets_at bs + ((c * count bs + q) * readings bs + x))

-- the step that a field stands for: 65535 is none
abbrev pub step_in : ℕ → Option ℕ
step_in w = cond (w == 65535) None (Some w)

-- THE TABLES. Out of range no reading is lawful, every step is none, nothing is ranked or permitted
unfoldable pub tables_of : List ℕ → Tables
tables_of bs = record {
  a = reading_bits bs;
  b = command_bits bs;
  k = rights bs;
  n = count bs;
  start = start bs;
  -- bit x of a lawful byte is for reading x
  lawful = λ q x. nat_lt q (count bs) && nat_lt x (readings bs) && bit (lawful_byte bs q) x;
  step = λ q x y. cond (nat_lt q (count bs) && nat_lt x (readings bs) && nat_lt y (commands bs)) (step_in (step_word bs q x y)) None;
  rank = λ c q. cond (nat_le c (rights bs) && nat_lt q (count bs)) (rank_word bs c q) 65535;
  -- bit y of a set byte is for command y
  permits = λ c q x y. nat_le c (rights bs) && nat_lt q (count bs) && nat_lt x (readings bs) && nat_lt y (commands bs) && bit (set_byte bs c q x) y;
}
