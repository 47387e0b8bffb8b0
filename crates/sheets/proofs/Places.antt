-- Where the fields of a sheet lie: bounds on the numbers of a header that is in order.
use Rattle.std.proofs.Common.{◌≡◌, ℕ, ◌+◌, ◌*◌, ◌%◌, ◌^◌, ◌<◌, ◌≤◌, true, ◌&&◌, List, length, mul_comm, arith, pow_mono}
use Rattle.std.proofs.lemmas.Nat.{mul-le, mul-add-lt}
use Rattle.std.proofs.lemmas.Bool.{and_parts}
use Rattle.std.proofs.lemmas.Bool.Decides.{nat_tests}
use Rattle.sheets.specs.Format.{byte, word, reading_bits, command_bits, readings, commands, rights, count, start, steps_at, ranks_at, sets_at, total}
use Rattle.sheets.specs.Whole.{header_fits, laid_out, states_fit, sets_fit, whole}
use Rattle.sheets.specs.Headers.{header_of}
use Rattle.sheets.specs.Framed.{framed}
use Rattle.sheets.specs.declared.header.Header.{Header}
use Rattle.sheets.specs.declared.frame.Frame.{Frame}

pub record Bounds (bs : List ℕ) : Type 0 where
  pub long : 20 ≤ length bs
  pub few_reading_bits : reading_bits bs ≤ 3
  pub few_command_bits : command_bits bs ≤ 3
  pub few_rights : rights bs ≤ 4
  pub some_state : 1 ≤ count bs
  pub few_states : count bs ≤ 256
  pub start_inside : start bs < count bs

pub bounds : (bs : List ℕ) → header_fits bs ≡ true → Bounds bs
bounds bs h = record {
  long = grind (arith, nat_tests);
  few_reading_bits = grind (arith, nat_tests);
  few_command_bits = grind (arith, nat_tests);
  few_rights = grind (arith, nat_tests);
  some_state = grind (arith, nat_tests);
  few_states = grind (arith, nat_tests);
  start_inside = grind (arith, nat_tests);
}

pub record Lead (bs : List ℕ) : Type 0 where
  pub first : byte bs 0 ≡ 68
  pub second : byte bs 1 ≡ 83
  pub third : byte bs 2 ≡ 1

pub lead : (bs : List ℕ) → header_fits bs ≡ true → Lead bs
lead bs h = record { first = grind (arith, nat_tests); second = grind (arith, nat_tests); third = grind (arith, nat_tests) }

pub record Offsets (bs : List ℕ) : Type 0 where
  pub lawful_begins : word bs 10 ≡ 20
  pub steps_begin : word bs 12 ≡ steps_at bs
  pub ranks_begin : word bs 14 ≡ ranks_at bs
  pub sets_begin : word bs 16 ≡ sets_at bs
  pub ends : word bs 18 ≡ total bs

pub offsets : (bs : List ℕ) → laid_out bs ≡ true → Offsets bs
offsets bs l = record {
  lawful_begins = grind (arith, nat_tests);
  steps_begin = grind (arith, nat_tests);
  ranks_begin = grind (arith, nat_tests);
  sets_begin = grind (arith, nat_tests);
  ends = grind (arith, nat_tests);
}

-- how much the parts hold
pub record Sizes (a b k n : ℕ) : Type 0 where
  pub few_readings : 2 ^ a ≤ 8
  pub few_commands : 2 ^ b ≤ 8
  pub rows : n * 2 ^ a ≤ 2048
  pub cells : n * 2 ^ a * 2 ^ b ≤ 16384
  pub ranks : (k + 1) * n ≤ 1280
  pub sets : (k + 1) * n * 2 ^ a ≤ 10240

pub sizes : (a b k n : ℕ) → a ≤ 3 → b ≤ 3 → k ≤ 4 → n ≤ 256 → Sizes a b k n
sizes a b k n ha hb hk hn =
    let x : 2 ^ a ≤ 8 = pow_mono ha in
    let y : 2 ^ b ≤ 8 = pow_mono hb in
    let r = mul-le n (2 ^ a) 256 8 hn x in
    let k' : k + 1 ≤ 5 = omega arith in
    let s = mul-le (k + 1) n 5 256 k' hn in
    record {
      few_readings = x;
      few_commands = y;
      rows = r;
      cells = mul-le (n * 2 ^ a) (2 ^ b) 2048 8 r y;
      ranks = s;
      sets = mul-le ((k + 1) * n) (2 ^ a) 1280 8 s x;
    }

-- how many numbers have so many bits, in a byte
pub power_small : (a : ℕ) → a ≤ 3 → 1 * 2 ^ a % 256 ≡ 2 ^ a
power_small a h = let p : 2 ^ a ≤ 8 = pow_mono h in omega arith

-- the places of cells within their parts
pub row_in : (n r q x : ℕ) → q < n → x < r → q * r + x < n * r
row_in n r q x hq hx = omega (arith, mul-add-lt q r x n hq hx, mul_comm r n)

pub cell_in : (n r s q x y : ℕ) → q < n → x < r → y < s → (q * r + x) * s + y < n * r * s
cell_in n r s q x y hq hx hy = row_in (n * r) s (q * r + x) y (row_in n r q x hq hx) hy

pub within : (bs : List ℕ) → laid_out bs ≡ true → total bs ≤ length bs
within bs l = grind (arith, nat_tests)

module _ (bs : List ℕ) (h : header_fits bs ≡ true) where
  pub sizes_of : Sizes (reading_bits bs) (command_bits bs) (rights bs) (count bs)
  sizes_of = let d = bounds bs h in sizes (reading_bits bs) (command_bits bs) (rights bs) (count bs) d.few_reading_bits d.few_command_bits d.few_rights d.few_states

-- the place of a field of two bytes, and of one
pub record Place (bs : List ℕ) (p : ℕ) : Type 0 where
  pub small : p + 2 ≤ 65536
  pub inside : p + 2 ≤ length bs

pub record Byte (bs : List ℕ) (p : ℕ) : Type 0 where
  pub small : p + 1 ≤ 65536
  pub inside : p + 1 ≤ length bs

module _ (bs : List ℕ) (h : header_fits bs ≡ true) (l : laid_out bs ≡ true) where
  step_place : (q x y : ℕ) → q < count bs → x < readings bs → y < commands bs → Place bs (steps_at bs + 2 * ((q * readings bs + x) * commands bs + y))
  step_place q x y hq hx hy =
      let z = sizes_of bs h in
      let d = bounds bs h in
      let w = within bs l in
      let p = cell_in (count bs) (readings bs) (commands bs) q x y hq hx hy in
      record { small = omega arith; inside = omega arith }

  rank_place : (c q : ℕ) → c ≤ rights bs → q < count bs → Place bs (ranks_at bs + 2 * (c * count bs + q))
  rank_place c q hc hq =
      let z = sizes_of bs h in
      let d = bounds bs h in
      let w = within bs l in
      let c' : c < rights bs + 1 = omega arith in
      let p = row_in (rights bs + 1) (count bs) c q c' hq in
      record { small = omega arith; inside = omega arith }

  set_place : (c q x : ℕ) → c ≤ rights bs → q < count bs → x < readings bs → Byte bs (sets_at bs + ((c * count bs + q) * readings bs + x))
  set_place c q x hc hq hx =
      let z = sizes_of bs h in
      let d = bounds bs h in
      let w = within bs l in
      let c' : c < rights bs + 1 = omega arith in
      let p = cell_in (rights bs + 1) (count bs) (readings bs) c q x c' hq hx in
      record { small = omega arith; inside = omega arith }

-- the same in the numbers that a frame holds
pub frame_step : (f : Frame) (q x y : ℕ) → q < count (framed f) → x < readings (framed f) → y < commands (framed f) → Place (framed f) (f.header.places.steps + 2 * ((q * f.header.readings + x) * f.header.commands + y))
frame_step f q x y hq hx hy = go f.header f.told
  where
    go : (s : Header) → s ≡ header_of (framed f) → Place (framed f) (s.places.steps + 2 * ((q * s.readings + x) * s.commands + y))
    go s e = rw e (step_place (framed f) f.fits f.laid q x y hq hx hy)

pub frame_rank : (f : Frame) (c q : ℕ) → c ≤ rights (framed f) → q < count (framed f) → Place (framed f) (f.header.places.ranks + 2 * (c * f.header.count + q))
frame_rank f c q hc hq = go f.header f.told
  where
    go : (s : Header) → s ≡ header_of (framed f) → Place (framed f) (s.places.ranks + 2 * (c * s.count + q))
    go s e = rw e (rank_place (framed f) f.fits f.laid c q hc hq)

pub frame_set : (f : Frame) (c q x : ℕ) → c ≤ rights (framed f) → q < count (framed f) → x < readings (framed f) → Byte (framed f) (f.header.places.sets + ((c * f.header.count + q) * f.header.readings + x))
frame_set f c q x hc hq hx = go f.header f.told
  where
    go : (s : Header) → s ≡ header_of (framed f) → Byte (framed f) (s.places.sets + ((c * s.count + q) * s.readings + x))
    go s e = rw e (set_place (framed f) f.fits f.laid c q x hc hq hx)

-- the numbers of a frame are small
pub record Small (h : Header) : Type 0 where
  pub few_readings : h.readings ≤ 8
  pub few_commands : h.commands ≤ 8
  pub few_rights : h.rights ≤ 4
  pub steps_begin : h.places.steps ≤ 65535
  pub ranks_begin : h.places.ranks ≤ 65535
  pub sets_begin : h.places.sets ≤ 65535

pub frame_small : (f : Frame) → Small f.header
frame_small f = go f.header f.told
  where
    go : (h : Header) → h ≡ header_of (framed f) → Small h
    go h e =
        let d = bounds (framed f) f.fits in
        let z = sizes_of (framed f) f.fits in
        rw e (record { few_readings = z.few_readings; few_commands = z.few_commands; few_rights = d.few_rights; steps_begin = omega arith; ranks_begin = omega arith; sets_begin = omega arith })

-- the parts of a well-formed sheet
pub record WholeParts (bs : List ℕ) : Type 0 where
  pub fits : header_fits bs ≡ true
  pub laid : laid_out bs ≡ true
  pub states : states_fit bs ≡ true
  pub sets : sets_fit bs ≡ true

pub whole_parts : (bs : List ℕ) → whole bs ≡ true → WholeParts bs
unfolding whole
whole_parts bs w =
    let p = and_parts (header_fits bs && laid_out bs && states_fit bs) (sets_fit bs) w in
    let q = and_parts (header_fits bs && laid_out bs) (states_fit bs) p.0 in
    let r = and_parts (header_fits bs) (laid_out bs) q.0 in
    record { fits = r.0; laid = r.1; states = q.1; sets = p.1 }
