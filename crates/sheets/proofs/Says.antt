-- Bytes that say what tables say: they are well formed, and their tables are the same.
use Rattle.std.proofs.Common.{◌≡◌, ℕ, ◌+◌, ◌*◌, ◌^◌, ◌<◌, ◌≤◌, Bool, true, false, not, ◌&&◌, ◌||◌, eqb, ltb, leb, List, length, Some, None, Option, sym, refl, ap, ◌∙◌, ap₂, ⊎_elim, arith}
use Rattle.std.proofs.lemmas.Bool.{cond-true, cond-false, lt-ltb, le-leb, eq-eqb, ne_eqb, and_from, or_left, or_right, cases_Bool, not_from_false}
use Rattle.ranges.specs.Ranges.{bit}
use Rattle.ranges.proofs.RangeLaws.{all_from, bit_of_bits, bits_below}
use Rattle.sheets.specs.Tables.{Tables, InRange, SameTables}
use Rattle.sheets.specs.Layout.{lawful_from}
use Rattle.sheets.specs.Format.{byte, word, reading_bits, command_bits, rights, count, start, readings, commands, lawful_byte, step_word, rank_word, set_byte, step_in, tables_of, total}
use Rattle.sheets.specs.Whole.{leads, narrow, rights_fit, count_fits, start_fits, header_fits, laid_out, step_fits, lawful_narrow, set_narrow, set_steps, states_fit, sets_fit, whole}
use Rattle.sheets.specs.Encoding.{steps_offset, ranks_offset, sets_offset, sheet_length, lawful_of, field_of, set_of}
use Rattle.sheets.specs.Laws.{OpensTo}

-- the numbers on which the layout depends
pub record Heads (T : Tables) (bs : List ℕ) : Type 0 where
  pub reading_bits_are : reading_bits bs ≡ T.a
  pub command_bits_are : command_bits bs ≡ T.b
  pub rights_are : rights bs ≡ T.k
  pub count_is : count bs ≡ T.n

-- the bytes say field by field what the tables say
pub record Says (T : Tables) (bs : List ℕ) : Type 0 where
  pub heads : Heads T bs
  pub first : byte bs 0 ≡ 68
  pub second : byte bs 1 ≡ 83
  pub third : byte bs 2 ≡ 1
  pub start_is : start bs ≡ T.start
  pub lawful_begins : word bs 10 ≡ lawful_from
  pub steps_begin : word bs 12 ≡ steps_offset T
  pub ranks_begin : word bs 14 ≡ ranks_offset T
  pub sets_begin : word bs 16 ≡ sets_offset T
  pub ends : word bs 18 ≡ sheet_length T
  pub long : sheet_length T ≤ length bs
  pub lawful_is : (q : ℕ) → q < T.n → lawful_byte bs q ≡ lawful_of T q
  pub step_is : (q x y : ℕ) → q < T.n → x < 2 ^ T.a → y < 2 ^ T.b → step_word bs q x y ≡ field_of (T.step q x y)
  pub rank_is : (c q : ℕ) → c ≤ T.k → q < T.n → rank_word bs c q ≡ T.rank c q
  pub set_is : (c q x : ℕ) → c ≤ T.k → q < T.n → x < 2 ^ T.a → set_byte bs c q x ≡ set_of T c q x

-- tables that fit, whatever their ranks
pub record Fits (T : Tables) : Type 0 where
  pub few_reading_bits : T.a ≤ 3
  pub few_command_bits : T.b ≤ 3
  pub few_rights : T.k ≤ 4
  pub some_state : 1 ≤ T.n
  pub few_states : T.n ≤ 256
  pub start_inside : T.start < T.n
  pub step_inside : (q x y t : ℕ) → q < T.n → x < 2 ^ T.a → y < 2 ^ T.b → T.step q x y ≡ Some t → t < T.n
  pub permitted_steps : (c q x y : ℕ) → c ≤ T.k → q < T.n → x < 2 ^ T.a → y < 2 ^ T.b → T.permits c q x y ≡ true → T.step q x y ≡ None → ⊥

pub fits : (T : Tables) → InRange T → Fits T
fits T I = record {
  few_reading_bits = I.few_reading_bits;
  few_command_bits = I.few_command_bits;
  few_rights = I.few_rights;
  some_state = I.some_state;
  few_states = I.few_states;
  start_inside = I.start_inside;
  step_inside = I.step_inside;
  permitted_steps = I.permitted_steps;
}

module _ (T : Tables) (bs : List ℕ) (H : Heads T bs) where
  pub readings_are : readings bs ≡ 2 ^ T.a
  readings_are = ap (λ (a : ℕ). 2 ^ a) H.reading_bits_are

  pub commands_are : commands bs ≡ 2 ^ T.b
  commands_are = ap (λ (b : ℕ). 2 ^ b) H.command_bits_are

  pub total_is : total bs ≡ sheet_length T
  total_is = simp (H.reading_bits_are, H.command_bits_are, H.rights_are, H.count_is)

  -- where the fields lie
  pub step_at : (q x y : ℕ) → step_word bs q x y ≡ word bs (steps_offset T + 2 * ((q * 2 ^ T.a + x) * 2 ^ T.b + y))
  unfolding step_word
  step_at q x y = simp (H.reading_bits_are, H.command_bits_are, H.count_is)

  pub rank_at : (c q : ℕ) → rank_word bs c q ≡ word bs (ranks_offset T + 2 * (c * T.n + q))
  unfolding rank_word
  rank_at c q = simp (H.reading_bits_are, H.command_bits_are, H.count_is)

  pub set_at : (c q x : ℕ) → set_byte bs c q x ≡ byte bs (sets_offset T + ((c * T.n + q) * 2 ^ T.a + x))
  unfolding set_byte
  set_at c q x = simp (H.reading_bits_are, H.command_bits_are, H.rights_are, H.count_is)

guarded : (g v w : Bool) → g ≡ true → v ≡ w → (g && v) ≡ w
guarded g v w e f = ap₂ ◌&&◌ e f

-- a step that is not the field for none is read back
read_back : (o : Option ℕ) → (o ≡ Some 65535 → ⊥) → step_in (field_of o) ≡ o
read_back None h = refl
read_back (Some t) h = cond-false (eqb t 65535) None (Some t) (ne_eqb t 65535 (λ e. h (ap Some e)))

module _ (T : Tables) (F : Fits T) (bs : List ℕ) (S : Says T bs) where
  state_in : (q : ℕ) → q < T.n → ltb q (count bs) ≡ true
  state_in q h = lt-ltb q (count bs) (omega (arith, S.heads.count_is))

  reading_in : (x : ℕ) → x < 2 ^ T.a → ltb x (readings bs) ≡ true
  reading_in x h = lt-ltb x (readings bs) (omega (arith, readings_are T bs S.heads))

  command_in : (y : ℕ) → y < 2 ^ T.b → ltb y (commands bs) ≡ true
  command_in y h = lt-ltb y (commands bs) (omega (arith, commands_are T bs S.heads))

  column_in : (c : ℕ) → c ≤ T.k → leb c (rights bs) ≡ true
  column_in c h = le-leb c (rights bs) (omega (arith, S.heads.rights_are))

  pub same : SameTables T (tables_of bs)
  unfolding tables_of
  same = record {
    same_a = sym S.heads.reading_bits_are;
    same_b = sym S.heads.command_bits_are;
    same_k = sym S.heads.rights_are;
    same_n = sym S.heads.count_is;
    same_start = sym S.start_is;
    same_lawful = λ q x hq hx. sym (guarded _ _ _ (and_from _ _ (state_in q hq) (reading_in x hx))
        (ap (λ (v : ℕ). bit v x) (S.lawful_is q hq) ∙ bit_of_bits (2 ^ T.a) (λ x. T.lawful q x) x hx));
    same_step = λ q x y hq hx hy. sym (cond-true _ _ _ (and_from _ _ (and_from _ _ (state_in q hq) (reading_in x hx)) (command_in y hy))
        ∙ ap step_in (S.step_is q x y hq hx hy) ∙ read_back (T.step q x y) (λ e. absurd (omega (arith, F.step_inside q x y 65535 hq hx hy e, F.few_states))));
    same_rank = λ c q hc hq. sym (cond-true _ _ _ (and_from _ _ (column_in c hc) (state_in q hq)) ∙ S.rank_is c q hc hq);
    same_permits = λ c q x y hc hq hx hy. sym (guarded _ _ _ (and_from _ _ (and_from _ _ (and_from _ _ (column_in c hc) (state_in q hq)) (reading_in x hx)) (command_in y hy))
        (ap (λ (v : ℕ). bit v y) (S.set_is c q x hc hq hx) ∙ bit_of_bits (2 ^ T.b) (λ y. T.permits c q x y) y hy));
  }

  header_holds : header_fits bs ≡ true
  header_holds =
      let H = S.heads in
      let g₁ : narrow bs ≡ true = and_from _ _ (le-leb (reading_bits bs) 3 (omega (arith, H.reading_bits_are, F.few_reading_bits))) (le-leb (command_bits bs) 3 (omega (arith, H.command_bits_are, F.few_command_bits))) in
      let g₂ : rights_fit bs ≡ true = le-leb (rights bs) 4 (omega (arith, H.rights_are, F.few_rights)) in
      let g₃ : count_fits bs ≡ true = and_from _ _ (le-leb 1 (count bs) (omega (arith, H.count_is, F.some_state))) (le-leb (count bs) 256 (omega (arith, H.count_is, F.few_states))) in
      let g₄ : start_fits bs ≡ true = lt-ltb (start bs) (count bs) (omega (arith, H.count_is, S.start_is, F.start_inside)) in
      let g₀ : leads bs ≡ true = and_from _ _ (and_from _ _ (and_from _ _ (le-leb 20 (length bs) (omega (arith, S.long))) (eq-eqb _ _ S.first)) (eq-eqb _ _ S.second)) (eq-eqb _ _ S.third) in
      and_from _ _ (and_from _ _ (and_from _ _ (and_from _ _ g₀ g₁) g₂) g₃) g₄

  layout_holds : laid_out bs ≡ true
  layout_holds =
      let H = S.heads in
      simp (H.reading_bits_are, H.command_bits_are, H.rights_are, H.count_is)
      (and_from _ _ (and_from _ _ (and_from _ _ (and_from _ _ (and_from _ _ (eq-eqb _ _ S.lawful_begins) (eq-eqb _ _ S.steps_begin)) (eq-eqb _ _ S.ranks_begin)) (eq-eqb _ _ S.sets_begin)) (eq-eqb _ _ S.ends)) (le-leb _ _ S.long))

  -- a step's field is a state or none
  field_holds : (o : Option ℕ) → ((t : ℕ) → o ≡ Some t → t < T.n) → (ltb (field_of o) T.n || eqb (field_of o) 65535) ≡ true
  field_holds None h = or_right _ _ refl
  field_holds (Some t) h = or_left _ _ (lt-ltb t T.n (h t refl))

  step_holds : (q x y : ℕ) → q < T.n → x < 2 ^ T.a → y < 2 ^ T.b → step_fits bs q x y ≡ true
  step_holds q x y hq hx hy =
      ap₂ (λ (w n : ℕ). ltb w n || eqb w 65535) (S.step_is q x y hq hx hy) S.heads.count_is
      ∙ field_holds (T.step q x y) (λ t e. F.step_inside q x y t hq hx hy e)

  lawful_holds : (q : ℕ) → q < T.n → lawful_narrow bs q ≡ true
  lawful_holds q hq =
      ap₂ (λ (v m : ℕ). ltb v (2 ^ m)) (S.lawful_is q hq) (readings_are T bs S.heads)
      ∙ lt-ltb (lawful_of T q) (2 ^ 2 ^ T.a) (bits_below (2 ^ T.a) (λ x. T.lawful q x))

  set_holds : (c q x : ℕ) → c ≤ T.k → q < T.n → x < 2 ^ T.a → set_narrow bs c q x ≡ true
  set_holds c q x hc hq hx =
      ap₂ (λ (v m : ℕ). ltb v (2 ^ m)) (S.set_is c q x hc hq hx) (commands_are T bs S.heads)
      ∙ lt-ltb (set_of T c q x) (2 ^ 2 ^ T.b) (bits_below (2 ^ T.b) (λ y. T.permits c q x y))

  -- the field of a step that is not none is not 65535
  field_some : (o : Option ℕ) → ((t : ℕ) → o ≡ Some t → t < T.n) → (o ≡ None → ⊥) → field_of o ≡ 65535 → ⊥
  field_some None h s e = s refl
  field_some (Some t) h s e = omega (arith, h t refl, F.few_states, e)

  permitted_holds : (c q x y : ℕ) → c ≤ T.k → q < T.n → x < 2 ^ T.a → y < 2 ^ T.b → set_steps bs c q x y ≡ true
  permitted_holds c q x y hc hq hx hy =
      let e : bit (set_byte bs c q x) y ≡ T.permits c q x y = ap (λ (v : ℕ). bit v y) (S.set_is c q x hc hq hx) ∙ bit_of_bits (2 ^ T.b) (λ y. T.permits c q x y) y hy in
      ap₂ (λ (p : Bool) (w : ℕ). not p || not (eqb w 65535)) e (S.step_is q x y hq hx hy)
      ∙ ⊎_elim
      (λ (p : T.permits c q x y ≡ true). or_right _ _ (not_from_false _ (ne_eqb (field_of (T.step q x y)) 65535 (field_some (T.step q x y) (λ t e. F.step_inside q x y t hq hx hy e) (F.permitted_steps c q x y hc hq hx hy p)))))
      (λ (p : T.permits c q x y ≡ false). or_left _ _ (not_from_false _ p))
      (cases_Bool (T.permits c q x y))

  pub opens : whole bs ≡ true
  unfolding whole
  opens =
      let H = S.heads in
      let r = readings_are T bs H in
      let m = commands_are T bs H in
      let states : states_fit bs ≡ true = all_from (count bs) _ (λ q hq.
      let hq' : q < T.n = omega (arith, H.count_is) in
      and_from _ _ (lawful_holds q hq') (all_from (readings bs) _ (λ x hx. all_from (commands bs) _ (λ y hy. step_holds q x y hq' (omega arith) (omega arith))))) in
      let sets : sets_fit bs ≡ true = all_from (rights bs + 1) _ (λ c hc. all_from (count bs) _ (λ q hq. all_from (readings bs) _ (λ x hx.
      let hc' : c ≤ T.k = omega (arith, H.rights_are) in
      let hq' : q < T.n = omega (arith, H.count_is) in
      let hx' : x < 2 ^ T.a = omega arith in
      and_from _ _ (set_holds c q x hc' hq' hx') (all_from (commands bs) _ (λ y hy. permitted_holds c q x y hc' hq' hx' (omega arith)))))) in
      and_from _ _ (and_from _ _ (and_from _ _ header_holds layout_holds) states) sets

  pub opens_to : OpensTo T bs
  opens_to = record { opens = opens; says = same }
