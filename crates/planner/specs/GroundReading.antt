-- The reading that the bytes of a ground sheet give, in a column and at a state.
use Rattle.std.specs.Prelude.{◌≡◌, ℕ, ◌+◌, ◌*◌, ◌<◌, ◌≤◌, Bool, cond, ◌&&◌, List, length, Some, None, Option, ◌==◌, nat_le, nat_lt}
use Rattle.sheets.specs.Format.{byte, word, reading_bits, command_bits, rights, count, start}
use Rattle.planner.specs.GroundFormat.{GroundTables, columns_from, columns_end}

-- at least 16 bytes, the first three 68, 71 and 1
abbrev pub ground_leads : List ℕ → Bool
ground_leads bs = nat_le 16 (length bs) && byte bs 0 == 68 && byte bs 1 == 71 && byte bs 2 == 1

-- at most three bits each and four rights
abbrev pub ground_narrow : List ℕ → Bool
ground_narrow bs = nat_le (reading_bits bs) 3 && nat_le (command_bits bs) 3 && nat_le (rights bs) 4

-- 1 to 256 states, the start among them
abbrev pub ground_states : List ℕ → Bool
ground_states bs = nat_le 1 (count bs) && nat_le (count bs) 256 && nat_lt (start bs) (count bs)

-- the verdict's number is a right or 0, and a 0 follows it
abbrev pub ground_number : List ℕ → Bool
ground_number bs = nat_le (byte bs 10) (rights bs) && byte bs 11 == 0

-- the columns follow the header, the total is where they end, and no byte is missing
abbrev pub ground_laid_out : List ℕ → Bool
ground_laid_out bs =
    (word bs 12 == columns_from) && word bs 14 == columns_end (rights bs) (count bs) && nat_le (columns_end (rights bs) (count bs)) (length bs)

-- the bytes are a well-formed ground sheet; what stands behind it is ignored
abbrev pub ground_whole : List ℕ → Bool
ground_whole bs = ground_leads bs && ground_narrow bs && ground_states bs && ground_number bs && ground_laid_out bs

-- the byte of a column that there is at a state that there is
abbrev pub ground_reading : List ℕ → ℕ → ℕ → Option ℕ
ground_reading bs c q =
    cond (ground_whole bs && nat_le c (rights bs) && nat_lt q (count bs)) (Some (byte bs (columns_from + (c * count bs + q)))) None

-- the bytes read back as the columns
abbrev pub ReadsBack : GroundTables → List ℕ → Type 0
ReadsBack G bs = (c q : ℕ) → c ≤ G.k → q < G.n → ground_reading bs c q ≡ Some (G.byte c q)
