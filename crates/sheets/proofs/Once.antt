-- Bytes that say what tables say are the bytes of the tables' sheet.
use Rattle.std.proofs.Common.{◌≡◌, ℕ, ◌+◌, ◌-◌, ◌*◌, ◌/◌, ◌%◌, ◌^◌, ◌<◌, ◌≤◌, ◌⊎◌, List, get_or, take, sym, refl, ap, ◌∙◌, inl, inr, ⊎_elim, arith, below_none, below_more}
use Rattle.std.proofs.lemmas.Nat.{div-add-mod', pow_pos}
use Rattle.std.proofs.lemmas.List.{ext_get_or, get_or-take, length-take-le}
use Rattle.std.proofs.lemmas.Bool.{cases_lt}
use Rattle.sheets.specs.Tables.{Tables}
use Rattle.sheets.specs.Layout.{lawful_from}
use Rattle.sheets.specs.Format.{byte, word, lawful_byte}
use Rattle.sheets.specs.Encoding.{steps_offset, ranks_offset, sets_offset, sheet_length, half, header, step_cell, rank_cell, set_cell, byte_of}
use Rattle.sheets.specs.Laws.{Bytes}
use Rattle.sheets.proofs.Cells.{in_three, in_two}
use Rattle.sheets.proofs.Encoded.{byte_head, byte_lawful, byte_step, byte_rank, byte_set, Holds}
use Rattle.sheets.proofs.Says.{Says, step_at, rank_at, set_at}

low_is : (bs : List ℕ) → Bytes bs → (p w : ℕ) → word bs p ≡ w → byte bs p ≡ half w 0
unfolding word
low_is bs small p w e = omega (arith, small p, small (p + 1), e)

high_is : (bs : List ℕ) → Bytes bs → (p w : ℕ) → word bs p ≡ w → byte bs (p + 1) ≡ half w 1
unfolding word
high_is bs small p w e = omega (arith, small p, small (p + 1), e)

module _ (T : Tables) (some : 1 ≤ T.n) (bs : List ℕ) (small : Bytes bs) (S : Says T bs) where
  head_at : (i : ℕ) → i < 20 → byte bs i ≡ get_or (header T) i 0
  head_at =
      let H = S.heads in
      let P : ℕ → Type 0 = λ i. byte bs i ≡ get_or (header T) i 0 in
      below_more P 19 (below_more P 18 (below_more P 17 (below_more P 16 (below_more P 15 (below_more P 14 (below_more P 13 (below_more P 12
      (below_more P 11 (below_more P 10 (below_more P 9 (below_more P 8 (below_more P 7 (below_more P 6 (below_more P 5 (below_more P 4 (below_more P 3
      (below_more P 2 (below_more P 1 (below_more P 0 (below_none P) S.first) S.second) S.third) H.reading_bits_are) H.command_bits_are) H.rights_are)
      (low_is bs small 6 T.n H.count_is)) (high_is bs small 6 T.n H.count_is))
      (low_is bs small 8 T.start S.start_is)) (high_is bs small 8 T.start S.start_is))
      (low_is bs small 10 lawful_from S.lawful_begins)) (high_is bs small 10 lawful_from S.lawful_begins))
      (low_is bs small 12 (steps_offset T) S.steps_begin)) (high_is bs small 12 (steps_offset T) S.steps_begin))
      (low_is bs small 14 (ranks_offset T) S.ranks_begin)) (high_is bs small 14 (ranks_offset T) S.ranks_begin))
      (low_is bs small 16 (sets_offset T) S.sets_begin)) (high_is bs small 16 (sets_offset T) S.sets_begin))
      (low_is bs small 18 (sheet_length T) S.ends)) (high_is bs small 18 (sheet_length T) S.ends)

  lawful_at : (i : ℕ) → 20 ≤ i → i < steps_offset T → byte bs i ≡ byte_of T i
  unfolding lawful_byte
  lawful_at i g l =
      let p : 20 + (i - 20) ≡ i = omega arith in
      ap (λ (n : ℕ). byte bs n) (sym p) ∙ S.lawful_is (i - 20) (omega arith) ∙ sym (byte_lawful T i g l)

  step_cell_is : (j : ℕ) → j < T.n * 2 ^ T.a * 2 ^ T.b → word bs (steps_offset T + 2 * j) ≡ step_cell T j
  unfolding step_cell
  step_cell_is j h =
      let z = in_three T.n (2 ^ T.a) (2 ^ T.b) j (pow_pos T.a) (pow_pos T.b) h in
      let q = j / 2 ^ T.b / 2 ^ T.a in
      let x = j / 2 ^ T.b % 2 ^ T.a in
      let y = j % 2 ^ T.b in
      let d : (q * 2 ^ T.a + x) * 2 ^ T.b + y ≡ j = ap (λ (m : ℕ). m * 2 ^ T.b + y) (div-add-mod' (j / 2 ^ T.b) (2 ^ T.a)) ∙ div-add-mod' j (2 ^ T.b) in
      ap (λ (m : ℕ). word bs (steps_offset T + 2 * m)) (sym d) ∙ sym (step_at T bs S.heads q x y) ∙ S.step_is q x y z.high z.middle z.low

  rank_cell_is : (j : ℕ) → j < (T.k + 1) * T.n → word bs (ranks_offset T + 2 * j) ≡ rank_cell T j
  unfolding rank_cell
  rank_cell_is j h =
      let z = in_two (T.k + 1) T.n j some h in
      let c = j / T.n in
      let q = j % T.n in
      ap (λ (m : ℕ). word bs (ranks_offset T + 2 * m)) (sym (div-add-mod' j T.n)) ∙ sym (rank_at T bs S.heads c q) ∙ S.rank_is c q (omega arith) z.low

  set_cell_is : (j : ℕ) → j < (T.k + 1) * T.n * 2 ^ T.a → byte bs (sets_offset T + j) ≡ set_cell T j
  unfolding set_cell
  set_cell_is j h =
      let z = in_three (T.k + 1) T.n (2 ^ T.a) j some (pow_pos T.a) h in
      let c = j / 2 ^ T.a / T.n in
      let q = j / 2 ^ T.a % T.n in
      let x = j % 2 ^ T.a in
      let d : (c * T.n + q) * 2 ^ T.a + x ≡ j = ap (λ (m : ℕ). m * 2 ^ T.a + x) (div-add-mod' (j / 2 ^ T.a) T.n) ∙ div-add-mod' j (2 ^ T.a) in
      ap (λ (m : ℕ). byte bs (sets_offset T + m)) (sym d) ∙ sym (set_at T bs S.heads c q x) ∙ S.set_is c q x (omega arith) z.middle z.low

  -- both bytes of a field at an even place of a part that begins at s
  halves : (s j w i : ℕ) → word bs (s + 2 * j) ≡ w → s ≤ i → (i - s) / 2 ≡ j → byte bs i ≡ half w ((i - s) % 2)
  halves s j w i e h d = ⊎_elim
      (λ (m : (i - s) % 2 ≡ 0). let p : i ≡ s + 2 * j = omega arith in ap (λ (n : ℕ). byte bs n) p ∙ low_is bs small (s + 2 * j) w e ∙ ap (λ (n : ℕ). half w n) (sym m))
      (λ (m : (i - s) % 2 ≡ 1). let p : i ≡ s + 2 * j + 1 = omega arith in ap (λ (n : ℕ). byte bs n) p ∙ high_is bs small (s + 2 * j) w e ∙ ap (λ (n : ℕ). half w n) (sym m))
      parity
    where
      parity : ((i - s) % 2 ≡ 0) ⊎ ((i - s) % 2 ≡ 1)
      parity = ⊎_elim (λ l. inl (omega arith)) (λ l. inr (omega arith)) (cases_lt ((i - s) % 2) 1)

  pub says_holds : Holds T bs
  says_holds = record { at = at; long = S.long }
    where
      at : (i : ℕ) → i < sheet_length T → byte bs i ≡ byte_of T i
      at i h =
          ⊎_elim (λ l. head_at i l ∙ sym (byte_head T i l)) (λ g₀.
          ⊎_elim (λ l. lawful_at i g₀ l) (λ g₁.
          ⊎_elim (λ l. halves (steps_offset T) ((i - steps_offset T) / 2) _ i (step_cell_is ((i - steps_offset T) / 2) (omega arith)) g₁ refl ∙ sym (byte_step T i g₁ l)) (λ g₂.
          ⊎_elim (λ l. halves (ranks_offset T) ((i - ranks_offset T) / 2) _ i (rank_cell_is ((i - ranks_offset T) / 2) (omega arith)) g₂ refl ∙ sym (byte_rank T i g₂ l)) (λ g₃.
          ap (λ (n : ℕ). byte bs n) (omega arith) ∙ set_cell_is (i - sets_offset T) (omega arith) ∙ sym (byte_set T i g₃))
          (cases_lt i (sets_offset T))) (cases_lt i (ranks_offset T))) (cases_lt i (steps_offset T))) (cases_lt i 20)

-- two lists that hold the same sheet have the same front
pub once : (T : Tables) (bs cs : List ℕ) → Holds T bs → Holds T cs → take (sheet_length T) bs ≡ take (sheet_length T) cs
once T bs cs H K =
    let e = length-take-le (sheet_length T) bs H.long in
    let f = length-take-le (sheet_length T) cs K.long in
    ext_get_or 0 (take (sheet_length T) bs) (take (sheet_length T) cs) (e ∙ sym f) (λ i h.
    let h' : i < sheet_length T = omega arith in
    get_or-take (sheet_length T) bs i 0 h' ∙ H.at i h' ∙ sym (K.at i h') ∙ sym (get_or-take (sheet_length T) cs i 0 h'))
