-- The bytes of a written sheet, and that they say what its tables say.
use Rattle.std.proofs.Common.{◌≡◌, ℕ, ◌+◌, ◌-◌, ◌*◌, ◌/◌, ◌%◌, ◌^◌, ◌<◌, ◌≤◌, List, ◌++◌, length, get_or, refl, ap, ◌∙◌, arith}
use Rattle.std.proofs.lemmas.Nat.{div-mul-add, mod-mul-add}
use Rattle.std.proofs.lemmas.List.{get_or_append_left, length-append}
use Rattle.std.proofs.lemmas.List.FromFn.{length-map-range_with_len, get_or-map-range_with_len}
use Rattle.std.proofs.lemmas.Bool.{cond-true, cond-false, lt-ltb, le-ltb}
use Rattle.sheets.specs.Tables.{Tables}
use Rattle.sheets.specs.Format.{byte, word, lawful_byte, step_word, rank_word, set_byte}
use Rattle.sheets.specs.Encoding.{steps_offset, ranks_offset, sets_offset, sheet_length, half, header, lawful_of, field_of, set_of, step_cell, rank_cell, set_cell, byte_of, sheet_bytes}
use Rattle.sheets.proofs.Places.{row_in, cell_in}
use Rattle.sheets.proofs.Says.{Heads, Says, step_at, rank_at, set_at}

-- byte i, by the part that it lies in
module _ (T : Tables) (i : ℕ) where
  pub byte_head : i < 20 → byte_of T i ≡ get_or (header T) i 0
  unfolding byte_of
  byte_head h = cond-true _ _ _ (lt-ltb i 20 h)

  pub byte_lawful : 20 ≤ i → i < steps_offset T → byte_of T i ≡ lawful_of T (i - 20)
  unfolding byte_of
  byte_lawful h l = cond-false _ _ _ (le-ltb i 20 h) ∙ cond-true _ _ _ (lt-ltb i (steps_offset T) l)

  pub byte_step : steps_offset T ≤ i → i < ranks_offset T → byte_of T i ≡ half (step_cell T ((i - steps_offset T) / 2)) ((i - steps_offset T) % 2)
  unfolding byte_of
  byte_step h l = cond-false _ _ _ (le-ltb i 20 (omega arith)) ∙ cond-false _ _ _ (le-ltb i (steps_offset T) h) ∙ cond-true _ _ _ (lt-ltb i (ranks_offset T) l)

  pub byte_rank : ranks_offset T ≤ i → i < sets_offset T → byte_of T i ≡ half (rank_cell T ((i - ranks_offset T) / 2)) ((i - ranks_offset T) % 2)
  unfolding byte_of
  byte_rank h l = cond-false _ _ _ (le-ltb i 20 (omega arith)) ∙ cond-false _ _ _ (le-ltb i (steps_offset T) (omega arith)) ∙ cond-false _ _ _ (le-ltb i (ranks_offset T) h) ∙ cond-true _ _ _ (lt-ltb i (sets_offset T) l)

  pub byte_set : sets_offset T ≤ i → byte_of T i ≡ set_cell T (i - sets_offset T)
  unfolding byte_of
  byte_set h = cond-false _ _ _ (le-ltb i 20 (omega arith)) ∙ cond-false _ _ _ (le-ltb i (steps_offset T) (omega arith)) ∙ cond-false _ _ _ (le-ltb i (ranks_offset T) (omega arith)) ∙ cond-false _ _ _ (le-ltb i (sets_offset T) h)

-- the front of the bytes is the tables' sheet
pub record Holds (T : Tables) (bs : List ℕ) : Type 0 where
  pub at : (i : ℕ) → i < sheet_length T → byte bs i ≡ byte_of T i
  pub long : sheet_length T ≤ length bs

pub written_holds : (T : Tables) (rest : List ℕ) → Holds T (sheet_bytes T ++ rest)
written_holds T rest =
    let n = length-map-range_with_len (byte_of T) 0 (sheet_length T) in
    record {
      at = λ i h. get_or_append_left (sheet_bytes T) rest 0 i (omega (arith, n)) ∙ get_or-map-range_with_len (byte_of T) 0 (sheet_length T) i i 0 h (omega arith);
      long = omega (arith, n, length-append (sheet_bytes T) rest);
    }

-- a two-byte field is read back
pub word_is : (bs : List ℕ) (p w : ℕ) → byte bs p ≡ half w 0 → byte bs (p + 1) ≡ half w 1 → word bs p ≡ w
unfolding word
word_is bs p w e f = omega (arith, e, f)

-- the cell of a place
step_cell_at : (T : Tables) (q x y : ℕ) → x < 2 ^ T.a → y < 2 ^ T.b → step_cell T ((q * 2 ^ T.a + x) * 2 ^ T.b + y) ≡ field_of (T.step q x y)
unfolding step_cell
step_cell_at T q x y hx hy = simp (step_cell, div-mul-add (q * 2 ^ T.a + x) (2 ^ T.b) y hy, mod-mul-add (q * 2 ^ T.a + x) (2 ^ T.b) y hy, div-mul-add q (2 ^ T.a) x hx, mod-mul-add q (2 ^ T.a) x hx)

rank_cell_at : (T : Tables) (c q : ℕ) → q < T.n → rank_cell T (c * T.n + q) ≡ T.rank c q
unfolding rank_cell
rank_cell_at T c q hq = simp (rank_cell, div-mul-add c T.n q hq, mod-mul-add c T.n q hq)

set_cell_at : (T : Tables) (c q x : ℕ) → q < T.n → x < 2 ^ T.a → set_cell T ((c * T.n + q) * 2 ^ T.a + x) ≡ set_of T c q x
unfolding set_cell
set_cell_at T c q x hq hx = simp (set_cell, div-mul-add (c * T.n + q) (2 ^ T.a) x hx, mod-mul-add (c * T.n + q) (2 ^ T.a) x hx, div-mul-add c T.n q hq, mod-mul-add c T.n q hq)

module _ (T : Tables) (bs : List ℕ) (H : Holds T bs) where
  head_at : (i : ℕ) → i < 20 → byte bs i ≡ get_or (header T) i 0
  head_at i h = H.at i (omega arith) ∙ byte_head T i h

  head_word : (i w : ℕ) → i < 19 → get_or (header T) i 0 ≡ half w 0 → get_or (header T) (i + 1) 0 ≡ half w 1 → word bs i ≡ w
  head_word i w h e f = word_is bs i w (head_at i (omega arith) ∙ e) (head_at (i + 1) (omega arith) ∙ f)

  heads : Heads T bs
  heads = record {
    reading_bits_are = head_at 3 (omega arith);
    command_bits_are = head_at 4 (omega arith);
    rights_are = head_at 5 (omega arith);
    count_is = head_word 6 T.n (omega arith) refl refl;
  }

  -- a field in a part of two-byte cells that begins at s
  cell_word : (s j : ℕ) (cell : ℕ → ℕ) → s + 2 * j + 1 < sheet_length T →
      ((i : ℕ) → s ≤ i → i < s + 2 * j + 2 → byte_of T i ≡ half (cell ((i - s) / 2)) ((i - s) % 2)) → word bs (s + 2 * j) ≡ cell j
  cell_word s j cell h part =
      let p = s + 2 * j in
      let d : (p - s) / 2 ≡ j = omega arith in
      let m : (p - s) % 2 ≡ 0 = omega arith in
      let d' : (p + 1 - s) / 2 ≡ j = omega arith in
      let m' : (p + 1 - s) % 2 ≡ 1 = omega arith in
      word_is bs p (cell j)
      (H.at p (omega arith) ∙ part p (omega arith) (omega arith) ∙ simp (d, m))
      (H.at (p + 1) (omega arith) ∙ part (p + 1) (omega arith) (omega arith) ∙ simp (d', m'))

  lawful_says : (q : ℕ) → q < T.n → lawful_byte bs q ≡ lawful_of T q
  unfolding lawful_byte
  lawful_says q h = H.at (20 + q) (omega arith) ∙ byte_lawful T (20 + q) (omega arith) (omega arith) ∙ ap (λ (i : ℕ). lawful_of T i) (omega arith)

  step_says : (q x y : ℕ) → q < T.n → x < 2 ^ T.a → y < 2 ^ T.b → step_word bs q x y ≡ field_of (T.step q x y)
  step_says q x y hq hx hy =
      let j = (q * 2 ^ T.a + x) * 2 ^ T.b + y in
      let l = cell_in T.n (2 ^ T.a) (2 ^ T.b) q x y hq hx hy in
      step_at T bs heads q x y
      ∙ cell_word (steps_offset T) j (step_cell T) (omega arith) (λ i h g. byte_step T i h (omega arith))
      ∙ step_cell_at T q x y hx hy

  rank_says : (c q : ℕ) → c ≤ T.k → q < T.n → rank_word bs c q ≡ T.rank c q
  rank_says c q hc hq =
      let c' : c < T.k + 1 = omega arith in
      let l = row_in (T.k + 1) T.n c q c' hq in
      rank_at T bs heads c q
      ∙ cell_word (ranks_offset T) (c * T.n + q) (rank_cell T) (omega arith) (λ i h g. byte_rank T i h (omega arith))
      ∙ rank_cell_at T c q hq

  set_says : (c q x : ℕ) → c ≤ T.k → q < T.n → x < 2 ^ T.a → set_byte bs c q x ≡ set_of T c q x
  set_says c q x hc hq hx =
      let c' : c < T.k + 1 = omega arith in
      let l = cell_in (T.k + 1) T.n (2 ^ T.a) c q x c' hq hx in
      let j = (c * T.n + q) * 2 ^ T.a + x in
      let p = sets_offset T + j in
      let d : p - sets_offset T ≡ j = omega arith in
      set_at T bs heads c q x ∙ H.at p (omega arith) ∙ byte_set T p (omega arith) ∙ ap (λ (i : ℕ). set_cell T i) d ∙ set_cell_at T c q x hq hx

  pub held_says : Says T bs
  held_says = record {
    heads = heads;
    first = head_at 0 (omega arith);
    second = head_at 1 (omega arith);
    third = head_at 2 (omega arith);
    start_is = head_word 8 T.start (omega arith) refl refl;
    lawful_begins = head_word 10 20 (omega arith) refl refl;
    steps_begin = head_word 12 (steps_offset T) (omega arith) refl refl;
    ranks_begin = head_word 14 (ranks_offset T) (omega arith) refl refl;
    sets_begin = head_word 16 (sets_offset T) (omega arith) refl refl;
    ends = head_word 18 (sheet_length T) (omega arith) refl refl;
    long = H.long;
    lawful_is = lawful_says;
    step_is = step_says;
    rank_is = rank_says;
    set_is = set_says;
  }
