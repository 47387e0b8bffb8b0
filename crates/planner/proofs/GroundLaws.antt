-- The bytes of a written ground sheet, and that they read back.
use Rattle.std.proofs.Common.{◌≡◌, ℕ, ◌+◌, ◌-◌, ◌*◌, ◌/◌, ◌%◌, ◌<◌, ◌≤◌, true, ◌&&◌, ltb, leb, List, ◌++◌, length, get_or, Some, None, Option, sym, refl, ap, ◌∙◌, arith}
use Rattle.std.proofs.lemmas.Nat.{div-mul-add, mod-mul-add}
use Rattle.std.proofs.lemmas.List.FromFn.{length-map-range_with_len, get_or-map-range_with_len}
use Rattle.std.proofs.lemmas.List.{get_or_append_left, length-append}
use Rattle.std.proofs.lemmas.Bool.{and_from, cond-true, cond-false, eq-eqb, le-leb, le-ltb, lt-ltb}
use Rattle.sheets.specs.Encoding.{half}
use Rattle.sheets.proofs.Encoded.{word_is}
use Rattle.sheets.specs.Format.{byte, word, reading_bits, command_bits, rights, count, start}
use Rattle.sheets.proofs.Places.{row_in}
use Rattle.planner.specs.GroundFormat.{GroundTables, GroundInRange, columns_end, ground_length, ground_header, ground_byte_of, ground_bytes}
use Rattle.planner.specs.GroundReading.{ground_leads, ground_narrow, ground_states, ground_number, ground_laid_out, ground_whole, ReadsBack}

-- byte i, by the part that it lies in
module _ (G : GroundTables) (i : ℕ) where
  pub byte_head : i < 16 → ground_byte_of G i ≡ get_or (ground_header G) i 0
  unfolding ground_byte_of
  byte_head h = cond-true _ _ _ (lt-ltb i 16 h)

  pub byte_column : 16 ≤ i → ground_byte_of G i ≡ G.byte ((i - 16) / G.n) ((i - 16) % G.n)
  unfolding ground_byte_of
  byte_column h = cond-false _ _ _ (le-ltb i 16 h)

module _ (G : GroundTables) (I : GroundInRange G) (rest : List ℕ) where
  abbrev bs : List ℕ
  bs = ground_bytes G ++ rest

  sized : length (ground_bytes G) ≡ ground_length G
  sized = length-map-range_with_len (ground_byte_of G) 0 (ground_length G)

  at : (i : ℕ) → i < ground_length G → byte bs i ≡ ground_byte_of G i
  at i h = get_or_append_left (ground_bytes G) rest 0 i (omega (arith, sized)) ∙ get_or-map-range_with_len (ground_byte_of G) 0 (ground_length G) i i 0 h (omega arith)

  long : ground_length G ≤ length bs
  long = omega (arith, sized, length-append (ground_bytes G) rest)

  head_at : (i : ℕ) → i < 16 → byte bs i ≡ get_or (ground_header G) i 0
  head_at i h = at i (omega arith) ∙ byte_head G i h

  head_word : (i w : ℕ) → i < 15 → get_or (ground_header G) i 0 ≡ half w 0 → get_or (ground_header G) (i + 1) 0 ≡ half w 1 → word bs i ≡ w
  head_word i w h e f = word_is bs i w (head_at i (omega arith) ∙ e) (head_at (i + 1) (omega arith) ∙ f)

  rights_are : rights bs ≡ G.k
  rights_are = head_at 5 (omega arith)

  count_is : count bs ≡ G.n
  count_is = head_word 6 G.n (omega arith) refl refl

  start_is : start bs ≡ G.start
  start_is = head_word 8 G.start (omega arith) refl refl

  ends_is : columns_end (rights bs) (count bs) ≡ ground_length G
  ends_is = ap (λ (k : ℕ). columns_end k (count bs)) rights_are ∙ ap (λ (n : ℕ). columns_end G.k n) count_is

  leads : ground_leads bs ≡ true
  leads =
      and_from _ _ (and_from _ _ (and_from _ _ (le-leb 16 _ (omega (arith, long))) (eq-eqb _ 68 (head_at 0 (omega arith)))) (eq-eqb _ 71 (head_at 1 (omega arith)))) (eq-eqb _ 1 (head_at 2 (omega arith)))

  narrow : ground_narrow bs ≡ true
  narrow =
      and_from _ _
      (and_from _ _ (le-leb (reading_bits bs) 3 (omega (arith, head_at 3 (omega arith), I.few_reading_bits))) (le-leb (command_bits bs) 3 (omega (arith, head_at 4 (omega arith), I.few_command_bits))))
      (le-leb (rights bs) 4 (omega (arith, rights_are, I.few_rights)))

  states : ground_states bs ≡ true
  states =
      and_from _ _ (and_from _ _ (le-leb 1 (count bs) (omega (arith, count_is, I.some_state))) (le-leb (count bs) 256 (omega (arith, count_is, I.few_states))))
      (lt-ltb (start bs) (count bs) (omega (arith, count_is, start_is, I.start_inside)))

  numbered : ground_number bs ≡ true
  numbered = and_from _ _ (le-leb _ _ (omega (arith, head_at 10 (omega arith), rights_are, I.number_fits))) (eq-eqb _ 0 (head_at 11 (omega arith)))

  laid : ground_laid_out bs ≡ true
  laid =
      and_from _ _ (and_from _ _ (eq-eqb _ 16 (head_word 12 16 (omega arith) refl refl)) (eq-eqb _ _ (head_word 14 (ground_length G) (omega arith) refl refl ∙ sym ends_is)))
      (le-leb _ _ (omega (arith, ends_is, long)))

  whole : ground_whole bs ≡ true
  whole = and_from _ _ (and_from _ _ (and_from _ _ (and_from _ _ leads narrow) states) numbered) laid

  -- a written sheet reads back as its columns, whatever stands behind it
  pub reads_back : ReadsBack G bs
  reads_back c q hc hq =
      let c' : c < G.k + 1 = omega arith in
      let l = row_in (G.k + 1) G.n c q c' hq in
      let test = and_from (ground_whole bs && leb c (rights bs)) (ltb q (count bs)) (and_from (ground_whole bs) _ whole (le-leb c _ (omega (arith, rights_are)))) (lt-ltb q _ (omega (arith, count_is))) in
      let i : ℕ = 16 + (c * G.n + q) in
      let j : i - 16 ≡ c * G.n + q = omega arith in
      let d : (i - 16) / G.n ≡ c = ap (λ (z : ℕ). z / G.n) j ∙ div-mul-add c G.n q hq in
      let m : (i - 16) % G.n ≡ q = ap (λ (z : ℕ). z % G.n) j ∙ mod-mul-add c G.n q hq in
      let here : byte bs i ≡ G.byte c q = at i (omega arith) ∙ byte_column G i (omega arith) ∙ ap (λ (z : ℕ). G.byte z ((i - 16) % G.n)) d ∙ ap (λ (z : ℕ). G.byte c z) m in
      cond-true _ _ None test ∙ ap {B = Option ℕ} Some (ap (λ (n : ℕ). byte bs (16 + (c * n + q))) count_is ∙ here)
