-- The bytes of a drive sheet, from its tables.
use Rattle.std.specs.Prelude.{ℕ, ◌-◌, ◌/◌, ◌%◌, ◌^◌, cond, List, [], ◌∷◌, map, Some, None, Option, ◌==◌, nat_lt, slice_index}
use Rattle.std.specs.List.{range_with_len}
use Rattle.ranges.specs.Ranges.{bits}
use Rattle.sheets.specs.Tables.{Tables}
use Rattle.sheets.specs.Layout.{lawful_from, steps_from, ranks_from, sets_from, ends_at}

-- where the parts of the tables' sheet begin, and its length
abbrev pub steps_offset : Tables → ℕ
steps_offset T = steps_from T.n

abbrev pub ranks_offset : Tables → ℕ
ranks_offset T = ranks_from T.a T.b T.n

abbrev pub sets_offset : Tables → ℕ
sets_offset T = sets_from T.a T.b T.k T.n

abbrev pub sheet_length : Tables → ℕ
sheet_length T = ends_at T.a T.b T.k T.n

-- byte h of a two-byte field: byte 0 is the low one
abbrev pub half : ℕ → ℕ → ℕ
half w h = cond (h == 0) (w % 256) (w / 256)

abbrev pub header : Tables → List ℕ
header T = 68 ∷ 83 ∷ 1 ∷ T.a ∷ T.b ∷ T.k ∷ half T.n 0 ∷ half T.n 1 ∷ half T.start 0 ∷ half T.start 1
    ∷ half lawful_from 0 ∷ half lawful_from 1 ∷ half (steps_offset T) 0 ∷ half (steps_offset T) 1
    ∷ half (ranks_offset T) 0 ∷ half (ranks_offset T) 1 ∷ half (sets_offset T) 0 ∷ half (sets_offset T) 1
    ∷ half (sheet_length T) 0 ∷ half (sheet_length T) 1 ∷ []

-- the lawful byte of a state: bit x for reading x
abbrev pub lawful_of : Tables → ℕ → ℕ
lawful_of T q = bits (2 ^ T.a) (λ x. T.lawful q x)

-- the field of a step: 65535 for none
abbrev pub field_of : Option ℕ → ℕ
field_of None = 65535
field_of (Some t) = t

-- the set byte of a column, state and reading: bit y for command y
abbrev pub set_of : Tables → ℕ → ℕ → ℕ → ℕ
set_of T c q x = bits (2 ^ T.b) (λ y. T.permits c q x y)

-- field j of the steps, by state, reading and command
unfoldable pub step_cell : Tables → ℕ → ℕ
step_cell T j = field_of (T.step (j / 2 ^ T.b / 2 ^ T.a) (j / 2 ^ T.b % 2 ^ T.a) (j % 2 ^ T.b))

-- field j of the ranks, by column and state
unfoldable pub rank_cell : Tables → ℕ → ℕ
rank_cell T j = T.rank (j / T.n) (j % T.n)

-- byte j of the sets, by column, state and reading
unfoldable pub set_cell : Tables → ℕ → ℕ
set_cell T j = set_of T (j / 2 ^ T.a / T.n) (j / 2 ^ T.a % T.n) (j % 2 ^ T.a)

-- byte i of the sheet
unfoldable pub byte_of : Tables → ℕ → ℕ
byte_of T i =
    cond (nat_lt i lawful_from) (slice_index (header T) i)
    (cond (nat_lt i (steps_offset T)) (lawful_of T (i - lawful_from))
    (cond (nat_lt i (ranks_offset T)) (half (step_cell T ((i - steps_offset T) / 2)) ((i - steps_offset T) % 2))
    (cond (nat_lt i (sets_offset T)) (half (rank_cell T ((i - ranks_offset T) / 2)) ((i - ranks_offset T) % 2))
    (set_cell T (i - sets_offset T)))))

abbrev pub sheet_bytes : Tables → List ℕ
sheet_bytes T = map (byte_of T) (range_with_len 0 (sheet_length T))
