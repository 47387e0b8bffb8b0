-- When bytes are a well-formed drive sheet. Ranks are free, a lawful reading may step to none, and
-- bytes behind the sheet's end are ignored.
use Rattle.std.specs.Prelude.{ℕ, ◌+◌, ◌^◌, Bool, not, ◌&&◌, ◌||◌, List, length, ◌==◌, nat_le, nat_lt}
use Rattle.ranges.specs.Ranges.{all, bit}
use Rattle.sheets.specs.Layout.{lawful_from}
use Rattle.sheets.specs.Format.{byte, word, reading_bits, command_bits, rights, count, start, readings, commands, steps_at, ranks_at, sets_at, total, lawful_byte, step_word, set_byte}

-- at least 20 bytes, the first three 68, 83 and 1
abbrev pub leads : List ℕ → Bool
leads bs = nat_le 20 (length bs) && byte bs 0 == 68 && byte bs 1 == 83 && byte bs 2 == 1

-- at most three reading bits and three command bits
abbrev pub narrow : List ℕ → Bool
narrow bs = nat_le (reading_bits bs) 3 && nat_le (command_bits bs) 3

-- at most four rights
abbrev pub rights_fit : List ℕ → Bool
rights_fit bs = nat_le (rights bs) 4

-- 1 to 256 states
abbrev pub count_fits : List ℕ → Bool
count_fits bs = nat_le 1 (count bs) && nat_le (count bs) 256

-- the start is a state
abbrev pub start_fits : List ℕ → Bool
start_fits bs = nat_lt (start bs) (count bs)

-- the numbers of the header are in order
abbrev pub header_fits : List ℕ → Bool
header_fits bs = leads bs && narrow bs && rights_fit bs && count_fits bs && start_fits bs

-- the four parts follow the header without gaps, the total is where the last ends, and no byte is missing
abbrev pub laid_out : List ℕ → Bool
laid_out bs = word bs 10 == lawful_from && word bs 12 == steps_at bs && word bs 14 == ranks_at bs
    && word bs 16 == sets_at bs && word bs 18 == total bs && nat_le (total bs) (length bs)

-- a step is a state or none
abbrev pub step_fits : List ℕ → ℕ → ℕ → ℕ → Bool
step_fits bs q x y = nat_lt (step_word bs q x y) (count bs) || step_word bs q x y == 65535

-- a lawful byte has no bit beyond the readings
abbrev pub lawful_narrow : List ℕ → ℕ → Bool
lawful_narrow bs q = nat_lt (lawful_byte bs q) (2 ^ readings bs)

-- a set byte has no bit beyond the commands
abbrev pub set_narrow : List ℕ → ℕ → ℕ → ℕ → Bool
set_narrow bs c q x = nat_lt (set_byte bs c q x) (2 ^ commands bs)

-- no command whose step is none is in a command set
abbrev pub set_steps : List ℕ → ℕ → ℕ → ℕ → ℕ → Bool
set_steps bs c q x y = not (bit (set_byte bs c q x) y) || not (step_word bs q x y == 65535)

-- STATES: every lawful byte and every step is in order
abbrev pub reading_fits : List ℕ → ℕ → ℕ → Bool
reading_fits bs q x = all (commands bs) (λ y. step_fits bs q x y)

abbrev pub state_fits : List ℕ → ℕ → Bool
state_fits bs q = lawful_narrow bs q && all (readings bs) (λ x. reading_fits bs q x)

abbrev pub states_fit : List ℕ → Bool
states_fit bs = all (count bs) (λ q. state_fits bs q)

-- SETS: in every column, at every state and on every reading the command set is in order
abbrev pub set_fits : List ℕ → ℕ → ℕ → ℕ → Bool
set_fits bs c q x = set_narrow bs c q x && all (commands bs) (λ y. set_steps bs c q x y)

abbrev pub state_sets_fit : List ℕ → ℕ → ℕ → Bool
state_sets_fit bs c q = all (readings bs) (λ x. set_fits bs c q x)

abbrev pub column_fits : List ℕ → ℕ → Bool
column_fits bs c = all (count bs) (λ q. state_sets_fit bs c q)

abbrev pub sets_fit : List ℕ → Bool
sets_fit bs = all (rights bs + 1) (λ c. column_fits bs c)

-- THE SHEET is well formed: neither lead, widths, rights, count, start nor layout is wrong, nor a step or a bit
unfoldable pub whole : List ℕ → Bool
whole bs = header_fits bs && laid_out bs && states_fit bs && sets_fit bs
