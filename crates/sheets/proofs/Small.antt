-- The numbers of a written sheet are bytes.
use Rattle.std.proofs.Common.{◌≡◌, ℕ, ◌+◌, ◌-◌, ◌*◌, ◌/◌, ◌%◌, ◌^◌, ◌<◌, ◌≤◌, Bool, eqb, get_or, Some, None, Option, sym, refl, subst, ⊎_elim, arith, pow_mono, below_none, below_more}
use Rattle.std.proofs.lemmas.Nat.{pow_pos}
use Rattle.std.proofs.lemmas.List.FromFn.{length-map-range_with_len, get_or-map-range_with_len}
use Rattle.std.proofs.lemmas.List.{get_or_past}
use Rattle.std.proofs.lemmas.Bool.{cases_lt, cond_both}
use Rattle.ranges.specs.Ranges.{bits}
use Rattle.ranges.proofs.RangeLaws.{bits_below}
use Rattle.sheets.specs.Tables.{Tables, InRange}
use Rattle.sheets.specs.Encoding.{steps_offset, ranks_offset, sets_offset, sheet_length, half, header, lawful_of, field_of, step_cell, rank_cell, set_cell, byte_of, sheet_bytes}
use Rattle.sheets.specs.Laws.{Bytes}
use Rattle.sheets.proofs.Cells.{in_three, in_two}
use Rattle.sheets.proofs.Encoded.{byte_head, byte_lawful, byte_step, byte_rank, byte_set}
use Rattle.sheets.proofs.Places.{sizes}

half_small : (w h : ℕ) → w < 65536 → half w h < 256
half_small w h l = cond_both (eqb h 0) (w % 256) (w / 256) (λ v. v < 256) (λ _. omega arith) (λ _. omega arith)

-- a byte of at most eight bits
bits_small : (m : ℕ) (f : ℕ → Bool) → m ≤ 8 → bits m f < 256
bits_small m f h =
    let p : 2 ^ m ≤ 2 ^ 8 = pow_mono h in
    omega (arith, bits_below m f)

field_small : (n : ℕ) (o : Option ℕ) → n ≤ 256 → ((t : ℕ) → o ≡ Some t → t < n) → field_of o < 65536
field_small n None l h = omega arith
field_small n (Some t) l h = omega (arith, h t refl)

module _ (T : Tables) (I : InRange T) where
  head_small : (i : ℕ) → i < 20 → get_or (header T) i 0 < 256
  head_small =
      let z = sizes T.a T.b T.k T.n I.few_reading_bits I.few_command_bits I.few_rights I.few_states in
      let P : ℕ → Type 0 = λ i. get_or (header T) i 0 < 256 in
      let n : T.n < 65536 = omega (arith, I.few_states) in
      let s : T.start < 65536 = omega (arith, I.start_inside) in
      let l : steps_offset T < 65536 = omega arith in
      let r : ranks_offset T < 65536 = omega arith in
      let t : sets_offset T < 65536 = omega arith in
      let e : sheet_length T < 65536 = omega arith in
      below_more P 19 (below_more P 18 (below_more P 17 (below_more P 16 (below_more P 15 (below_more P 14 (below_more P 13 (below_more P 12
      (below_more P 11 (below_more P 10 (below_more P 9 (below_more P 8 (below_more P 7 (below_more P 6 (below_more P 5 (below_more P 4 (below_more P 3
      (below_more P 2 (below_more P 1 (below_more P 0 (below_none P) (omega arith)) (omega arith)) (omega arith)) (omega (arith, I.few_reading_bits))) (omega (arith, I.few_command_bits))) (omega (arith, I.few_rights)))
      (half_small T.n 0 n)) (half_small T.n 1 n)) (half_small T.start 0 s)) (half_small T.start 1 s))
      (omega arith)) (omega arith)) (half_small (steps_offset T) 0 l)) (half_small (steps_offset T) 1 l))
      (half_small (ranks_offset T) 0 r)) (half_small (ranks_offset T) 1 r)) (half_small (sets_offset T) 0 t)) (half_small (sets_offset T) 1 t))
      (half_small (sheet_length T) 0 e)) (half_small (sheet_length T) 1 e)

  step_small : (j : ℕ) → j < T.n * 2 ^ T.a * 2 ^ T.b → step_cell T j < 65536
  unfolding step_cell
  step_small j h =
      let z = in_three T.n (2 ^ T.a) (2 ^ T.b) j (pow_pos T.a) (pow_pos T.b) h in
      field_small T.n _ I.few_states (λ t e. I.step_inside (j / 2 ^ T.b / 2 ^ T.a) (j / 2 ^ T.b % 2 ^ T.a) (j % 2 ^ T.b) t z.high z.middle z.low e)

  rank_small : (j : ℕ) → j < (T.k + 1) * T.n → rank_cell T j < 65536
  unfolding rank_cell
  rank_small j h =
      let z = in_two (T.k + 1) T.n j I.some_state h in
      I.rank_fits (j / T.n) (j % T.n) (omega arith) z.low

  lawful_small : (q : ℕ) → lawful_of T q < 256
  lawful_small q = bits_small (2 ^ T.a) (λ x. T.lawful q x) (pow_mono I.few_reading_bits)

  set_small : (j : ℕ) → set_cell T j < 256
  unfolding set_cell
  set_small j = bits_small (2 ^ T.b) _ (pow_mono I.few_command_bits)

  byte_small : (i : ℕ) → i < sheet_length T → byte_of T i < 256
  byte_small i h =
      let P : ℕ → Type 0 = λ v. v < 256 in
      ⊎_elim (λ l. subst P (sym (byte_head T i l)) (head_small i l)) (λ g₀.
      ⊎_elim (λ l. subst P (sym (byte_lawful T i g₀ l)) (lawful_small (i - 20))) (λ g₁.
      ⊎_elim (λ l. subst P (sym (byte_step T i g₁ l)) (half_small _ ((i - steps_offset T) % 2) (step_small ((i - steps_offset T) / 2) (omega arith)))) (λ g₂.
      ⊎_elim (λ l. subst P (sym (byte_rank T i g₂ l)) (half_small _ ((i - ranks_offset T) % 2) (rank_small ((i - ranks_offset T) / 2) (omega arith)))) (λ g₃.
      subst P (sym (byte_set T i g₃)) (set_small (i - sets_offset T)))
      (cases_lt i (sets_offset T))) (cases_lt i (ranks_offset T))) (cases_lt i (steps_offset T))) (cases_lt i 20)

  pub sheet_is_bytes : Bytes (sheet_bytes T)
  sheet_is_bytes i =
      let P : ℕ → Type 0 = λ v. v < 256 in
      let n = length-map-range_with_len (byte_of T) 0 (sheet_length T) in
      ⊎_elim
      (λ l. subst P (sym (get_or-map-range_with_len (byte_of T) 0 (sheet_length T) i i 0 l (omega arith))) (byte_small i l))
      (λ g. subst P (sym (get_or_past (sheet_bytes T) i 0 (omega (arith, n)))) (omega arith))
      (cases_lt i (sheet_length T))
