-- What a ground sheet says, and its bytes.
use Rattle.std.specs.Prelude.{ℕ, ◌+◌, ◌-◌, ◌*◌, ◌/◌, ◌%◌, ◌<◌, ◌≤◌, cond, List, [], ◌∷◌, map, nat_lt, slice_index}
use Rattle.std.specs.List.{range_with_len}
use Rattle.sheets.specs.Encoding.{half}

pub record GroundTables : Type 0 where
  pub a : ℕ  -- reading bits
  pub b : ℕ  -- command bits
  pub k : ℕ  -- rights, numbered from 1; column 0 is the job's, column i that of right i
  pub n : ℕ  -- the count of states
  pub start : ℕ
  pub number : ℕ  -- the verdict's number: the lowest right that is lost at the start, or 0
  pub byte : ℕ → ℕ → ℕ  -- in a column, at a state: the ground's reading, or 255

-- the numbers fit the fields of a sheet
pub record GroundInRange (G : GroundTables) : Type 0 where
  pub few_reading_bits : G.a ≤ 3
  pub few_command_bits : G.b ≤ 3
  pub few_rights : G.k ≤ 4
  pub some_state : 1 ≤ G.n
  pub few_states : G.n ≤ 256
  pub start_inside : G.start < G.n
  pub number_fits : G.number ≤ G.k
  pub byte_fits : (c q : ℕ) → c ≤ G.k → q < G.n → G.byte c q < 256

-- the bytes of the columns follow a header of 16 bytes
abbrev pub columns_from : ℕ
columns_from = 16

-- where the columns of k rights and n states end: a byte for each column and state
abbrev pub columns_end : ℕ → ℕ → ℕ
columns_end k n = columns_from + (k + 1) * n

abbrev pub ground_length : GroundTables → ℕ
ground_length G = columns_end G.k G.n

abbrev pub ground_header : GroundTables → List ℕ
ground_header G = 68 ∷ 71 ∷ 1 ∷ G.a ∷ G.b ∷ G.k ∷ half G.n 0 ∷ half G.n 1 ∷ half G.start 0 ∷ half G.start 1
    ∷ G.number ∷ 0 ∷ half columns_from 0 ∷ half columns_from 1 ∷ half (ground_length G) 0 ∷ half (ground_length G) 1 ∷ []

-- byte i of the sheet: behind the header the columns' bytes, by column and state
unfoldable pub ground_byte_of : GroundTables → ℕ → ℕ
ground_byte_of G i =
    cond (nat_lt i columns_from) (slice_index (ground_header G) i) (G.byte ((i - columns_from) / G.n) ((i - columns_from) % G.n))

abbrev pub ground_bytes : GroundTables → List ℕ
ground_bytes G = map (ground_byte_of G) (range_with_len 0 (ground_length G))
