-- A well-formed sheet says, field by field, what its tables say; and its tables fit.
use Rattle.std.proofs.Common.{◌≡◌, ℕ, ◌+◌, ◌*◌, ◌^◌, ◌<◌, ◌≤◌, true, false, not, ◌&&◌, eqb, ltb, leb, ◌⊎◌, List, Some, None, Option, sym, refl, ap, ◌∙◌, subst, ap₂, inl, inr, ⊎_elim, arith}
use Rattle.std.proofs.lemmas.Bool.{cond-true, cond-false, lt-ltb, le-leb, eqb-true, ltb-true, leb-true, and_parts, and_from, or_cases, cases_Bool, both_ways, eq-eqb, not-true}
use Rattle.ranges.specs.Ranges.{bit}
use Rattle.ranges.proofs.RangeLaws.{all_holds, bits_of_bit, bits_same}
use Rattle.sheets.specs.Tables.{Tables, InRange, SameTables}
use Rattle.sheets.specs.Format.{word, rights, count, start, readings, commands, lawful_byte, step_word, rank_word, set_byte, step_in, tables_of, steps_at, ranks_at, sets_at}
use Rattle.sheets.specs.Whole.{step_fits, lawful_narrow, set_narrow, set_steps, reading_fits, state_fits, set_fits, state_sets_fit, column_fits, whole}
use Rattle.sheets.specs.Encoding.{steps_offset, ranks_offset, sets_offset, lawful_of, field_of, set_of}
use Rattle.sheets.specs.Laws.{Bytes}
use Rattle.sheets.proofs.Places.{Bounds, bounds, lead, offsets, within, whole_parts}
use Rattle.sheets.proofs.Says.{Heads, Says, Fits, readings_are, commands_are, total_is}

pub field_back : (w : ℕ) → field_of (step_in w) ≡ w
field_back w = ⊎_elim
    (λ (e : eqb w 65535 ≡ true). ap field_of (cond-true (eqb w 65535) None (Some w) e) ∙ sym (eqb-true w 65535 e))
    (λ (e : eqb w 65535 ≡ false). ap field_of (cond-false (eqb w 65535) None (Some w) e))
    (cases_Bool (eqb w 65535))

-- what the tests of a well-formed sheet tell of its fields
module _ (bs : List ℕ) (w : whole bs ≡ true) where
  state_holds : (q : ℕ) → q < count bs → state_fits bs q ≡ true
  state_holds q hq = all_holds (count bs) (λ q. state_fits bs q) (whole_parts bs w).states q hq

  pub lawful_small : (q : ℕ) → q < count bs → lawful_byte bs q < 2 ^ readings bs
  lawful_small q hq = ltb-true _ _ (and_parts (lawful_narrow bs q) _ (state_holds q hq)).0

  pub step_holds : (q x y : ℕ) → q < count bs → x < readings bs → y < commands bs → step_fits bs q x y ≡ true
  step_holds q x y hq hx hy =
      let r = all_holds (readings bs) (λ x. reading_fits bs q x) (and_parts (lawful_narrow bs q) _ (state_holds q hq)).1 x hx in
      all_holds (commands bs) (λ y. step_fits bs q x y) r y hy

  row_holds : (c q x : ℕ) → c ≤ rights bs → q < count bs → x < readings bs → set_fits bs c q x ≡ true
  row_holds c q x hc hq hx =
      let p = all_holds (rights bs + 1) (λ c. column_fits bs c) (whole_parts bs w).sets c (omega arith) in
      let r = all_holds (count bs) (λ q. state_sets_fit bs c q) p q hq in
      all_holds (readings bs) (λ x. set_fits bs c q x) r x hx

  pub set_small : (c q x : ℕ) → c ≤ rights bs → q < count bs → x < readings bs → set_byte bs c q x < 2 ^ commands bs
  set_small c q x hc hq hx = ltb-true _ _ (and_parts (set_narrow bs c q x) _ (row_holds c q x hc hq hx)).0

  pub set_holds : (c q x y : ℕ) → c ≤ rights bs → q < count bs → x < readings bs → y < commands bs → set_steps bs c q x y ≡ true
  set_holds c q x y hc hq hx hy = all_holds (commands bs) (λ y. set_steps bs c q x y) (and_parts (set_narrow bs c q x) _ (row_holds c q x hc hq hx)).1 y hy

-- what the tables of bytes are within their range
module _ (bs : List ℕ) where
  pub lawful_told : (q x : ℕ) → q < count bs → x < readings bs → (tables_of bs).lawful q x ≡ bit (lawful_byte bs q) x
  unfolding tables_of
  lawful_told q x hq hx = ap₂ ◌&&◌ (and_from _ _ (lt-ltb q (count bs) hq) (lt-ltb x (readings bs) hx)) refl

  pub step_told : (q x y : ℕ) → q < count bs → x < readings bs → y < commands bs → (tables_of bs).step q x y ≡ step_in (step_word bs q x y)
  unfolding tables_of
  step_told q x y hq hx hy = cond-true _ _ _ (and_from _ _ (and_from _ _ (lt-ltb q (count bs) hq) (lt-ltb x (readings bs) hx)) (lt-ltb y (commands bs) hy))

  pub rank_told : (c q : ℕ) → c ≤ rights bs → q < count bs → (tables_of bs).rank c q ≡ rank_word bs c q
  unfolding tables_of
  rank_told c q hc hq = cond-true _ _ _ (and_from _ _ (le-leb c (rights bs) hc) (lt-ltb q (count bs) hq))

  pub permits_told : (c q x y : ℕ) → c ≤ rights bs → q < count bs → x < readings bs → y < commands bs → (tables_of bs).permits c q x y ≡ bit (set_byte bs c q x) y
  unfolding tables_of
  permits_told c q x y hc hq hx hy =
      ap₂ ◌&&◌ (and_from _ _ (and_from _ _ (and_from _ _ (le-leb c (rights bs) hc) (lt-ltb q (count bs) hq)) (lt-ltb x (readings bs) hx)) (lt-ltb y (commands bs) hy)) refl

-- a well-formed sheet says what any tables say that are the same as its own
module _ (T : Tables) (bs : List ℕ) (w : whole bs ≡ true) (S : SameTables T (tables_of bs)) where
  heads : Heads T bs
  unfolding tables_of
  heads = record { reading_bits_are = sym S.same_a; command_bits_are = sym S.same_b; rights_are = sym S.same_k; count_is = sym S.same_n }

  state_in : (q : ℕ) → q < T.n → q < count bs
  state_in q h = omega (arith, heads.count_is)

  reading_in : (x : ℕ) → x < 2 ^ T.a → x < readings bs
  reading_in x h = omega (arith, readings_are T bs heads)

  command_in : (y : ℕ) → y < 2 ^ T.b → y < commands bs
  command_in y h = omega (arith, commands_are T bs heads)

  column_in : (c : ℕ) → c ≤ T.k → c ≤ rights bs
  column_in c h = omega (arith, heads.rights_are)

  lawful_says : (q : ℕ) → q < T.n → lawful_byte bs q ≡ lawful_of T q
  lawful_says q hq =
      let small : lawful_byte bs q < 2 ^ 2 ^ T.a = subst (λ (m : ℕ). lawful_byte bs q < 2 ^ m) (readings_are T bs heads) (lawful_small bs w q (state_in q hq)) in
      sym (bits_of_bit (2 ^ T.a) (lawful_byte bs q) small)
      ∙ bits_same (2 ^ T.a) (λ x. bit (lawful_byte bs q) x) (λ x. T.lawful q x)
      (λ x hx. sym (S.same_lawful q x hq hx ∙ lawful_told bs q x (state_in q hq) (reading_in x hx)))

  step_says : (q x y : ℕ) → q < T.n → x < 2 ^ T.a → y < 2 ^ T.b → step_word bs q x y ≡ field_of (T.step q x y)
  step_says q x y hq hx hy =
      sym (ap field_of (S.same_step q x y hq hx hy ∙ step_told bs q x y (state_in q hq) (reading_in x hx) (command_in y hy)) ∙ field_back (step_word bs q x y))

  rank_says : (c q : ℕ) → c ≤ T.k → q < T.n → rank_word bs c q ≡ T.rank c q
  rank_says c q hc hq = sym (S.same_rank c q hc hq ∙ rank_told bs c q (column_in c hc) (state_in q hq))

  set_says : (c q x : ℕ) → c ≤ T.k → q < T.n → x < 2 ^ T.a → set_byte bs c q x ≡ set_of T c q x
  set_says c q x hc hq hx =
      let small : set_byte bs c q x < 2 ^ 2 ^ T.b = subst (λ (m : ℕ). set_byte bs c q x < 2 ^ m) (commands_are T bs heads) (set_small bs w c q x (column_in c hc) (state_in q hq) (reading_in x hx)) in
      sym (bits_of_bit (2 ^ T.b) (set_byte bs c q x) small)
      ∙ bits_same (2 ^ T.b) (λ y. bit (set_byte bs c q x) y) (λ y. T.permits c q x y)
      (λ y hy. sym (S.same_permits c q x y hc hq hx hy ∙ permits_told bs c q x y (column_in c hc) (state_in q hq) (reading_in x hx) (command_in y hy)))

  start_says : start bs ≡ T.start
  unfolding tables_of
  start_says = sym S.same_start

  pub whole_says : Says T bs
  whole_says =
      let h = (whole_parts bs w).fits in
      let l = (whole_parts bs w).laid in
      let H = heads in
      let d = lead bs h in
      let o = offsets bs l in
      let s : steps_at bs ≡ steps_offset T = simp H.count_is in
      let r : ranks_at bs ≡ ranks_offset T = simp (H.count_is, H.reading_bits_are, H.command_bits_are) in
      let z : sets_at bs ≡ sets_offset T = simp (H.count_is, H.reading_bits_are, H.command_bits_are, H.rights_are) in
      record {
        heads = heads;
        first = d.first;
        second = d.second;
        third = d.third;
        start_is = start_says;
        lawful_begins = o.lawful_begins;
        steps_begin = o.steps_begin ∙ s;
        ranks_begin = o.ranks_begin ∙ r;
        sets_begin = o.sets_begin ∙ z;
        ends = o.ends ∙ total_is T bs heads;
        long = omega (arith, within bs l, total_is T bs heads);
        lawful_is = lawful_says;
        step_is = step_says;
        rank_is = rank_says;
        set_is = set_says;
      }

-- the tables of a well-formed sheet fit
module _ (bs : List ℕ) (w : whole bs ≡ true) where
  pub whole_bounds : Bounds bs
  whole_bounds = bounds bs (whole_parts bs w).fits

  -- a step that is a state is one below the count
  pub whole_step : (q x y t : ℕ) → q < count bs → x < readings bs → y < commands bs → (tables_of bs).step q x y ≡ Some t → t < count bs
  whole_step q x y t hq hx hy e =
      let v = step_word bs q x y in
      let f : step_in v ≡ Some t = sym (step_told bs q x y hq hx hy) ∙ e in
      let back : v ≡ t = sym (field_back v) ∙ ap field_of f in
      ⊎_elim
      (λ (l : ltb v (count bs) ≡ true). omega (arith, ltb-true v (count bs) l, back))
      (λ (n : eqb v 65535 ≡ true). let z : ◌≡◌ {A = Option ℕ} None (Some t) = sym (cond-true (eqb v 65535) None (Some v) n) ∙ f in let y : ◌≡◌ {A = ℕ} 0 1 = cc in absurd (omega arith))
      (or_cases _ _ (step_holds bs w q x y hq hx hy))

  -- a permitted command steps to a state
  pub whole_permitted : (c q x y : ℕ) → c ≤ rights bs → q < count bs → x < readings bs → y < commands bs → (tables_of bs).permits c q x y ≡ true → (tables_of bs).step q x y ≡ None → ⊥
  whole_permitted c q x y hc hq hx hy p e =
      let v = step_word bs q x y in
      let f : step_in v ≡ None = sym (step_told bs q x y hq hx hy) ∙ e in
      let none : v ≡ 65535 = sym (field_back v) ∙ ap field_of f in
      let held : bit (set_byte bs c q x) y ≡ true = sym (permits_told bs c q x y hc hq hx hy) ∙ p in
      ⊎_elim
      (λ (n : not (bit (set_byte bs c q x) y) ≡ true). both_ways (bit (set_byte bs c q x) y) (not-true _ n) held)
      (λ (n : not (eqb v 65535) ≡ true). both_ways (eqb v 65535) (not-true _ n) (eq-eqb v 65535 none))
      (or_cases _ _ (set_holds bs w c q x y hc hq hx hy))

  pub whole_fits : Fits (tables_of bs)
  unfolding tables_of
  whole_fits =
      let d = whole_bounds in
      record {
        few_reading_bits = d.few_reading_bits;
        few_command_bits = d.few_command_bits;
        few_rights = d.few_rights;
        some_state = d.some_state;
        few_states = d.few_states;
        start_inside = d.start_inside;
        step_inside = whole_step;
        permitted_steps = whole_permitted;
      }

  word_small : (i : ℕ) → Bytes bs → word bs i < 65536
  unfolding word
  word_small i small = omega (arith, small i, small (i + 1))

  rank_small : (c q : ℕ) → Bytes bs → rank_word bs c q < 65536
  unfolding rank_word
  rank_small c q small = word_small (ranks_at bs + 2 * (c * count bs + q)) small

  pub whole_in_range : Bytes bs → InRange (tables_of bs)
  unfolding tables_of
  whole_in_range small =
      let d = whole_bounds in
      record {
        few_reading_bits = d.few_reading_bits;
        few_command_bits = d.few_command_bits;
        few_rights = d.few_rights;
        some_state = d.some_state;
        few_states = d.few_states;
        start_inside = d.start_inside;
        step_inside = whole_step;
        rank_fits = λ c q hc hq. subst (λ (r : ℕ). r < 65536) (sym (rank_told bs c q hc hq)) (rank_small c q small);
        permitted_steps = whole_permitted;
      }

-- what a well-formed sheet permits and steps to, with nothing asked of the numbers: out of range there is neither
pub record Inside (bs : List ℕ) (c q x y : ℕ) : Type 0 where
  pub column : c ≤ rights bs
  pub state : q < count bs
  pub reading : x < readings bs
  pub command : y < commands bs

pub permits_inside : (bs : List ℕ) (c q x y : ℕ) → (tables_of bs).permits c q x y ≡ true → Inside bs c q x y
unfolding tables_of
permits_inside bs c q x y p =
    let g = (and_parts _ (bit (set_byte bs c q x) y) p).0 in
    let h = and_parts _ (ltb y (commands bs)) g in
    let i = and_parts _ (ltb x (readings bs)) h.0 in
    let j = and_parts (leb c (rights bs)) (ltb q (count bs)) i.0 in
    record { column = leb-true _ _ j.0; state = ltb-true _ _ j.1; reading = ltb-true _ _ i.1; command = ltb-true _ _ h.1 }

pub step_inside : (bs : List ℕ) (q x y t : ℕ) → (tables_of bs).step q x y ≡ Some t → Inside bs 0 q x y
unfolding tables_of
step_inside bs q x y t e = go (cases_Bool (ltb q (count bs) && ltb x (readings bs) && ltb y (commands bs)))
  where
    go : ((ltb q (count bs) && ltb x (readings bs) && ltb y (commands bs)) ≡ true) ⊎ ((ltb q (count bs) && ltb x (readings bs) && ltb y (commands bs)) ≡ false) → Inside bs 0 q x y
    go (inl g) =
        let h = and_parts (ltb q (count bs) && ltb x (readings bs)) (ltb y (commands bs)) g in
        let i = and_parts (ltb q (count bs)) (ltb x (readings bs)) h.0 in
        record { column = omega arith; state = ltb-true _ _ i.0; reading = ltb-true _ _ i.1; command = ltb-true _ _ h.1 }
    go (inr g) = let z : ◌≡◌ {A = Option ℕ} None (Some t) = sym (cond-false _ (step_in (step_word bs q x y)) None g) ∙ e in let o : ◌≡◌ {A = ℕ} 0 1 = cc in absurd (omega arith)

pub permitted_steps : (bs : List ℕ) → whole bs ≡ true → (c q x y : ℕ) → (tables_of bs).permits c q x y ≡ true → (tables_of bs).step q x y ≡ None → ⊥
permitted_steps bs w c q x y p = let i = permits_inside bs c q x y p in whole_permitted bs w c q x y i.column i.state i.reading i.command p

pub steps_below : (bs : List ℕ) → whole bs ≡ true → (q x y t : ℕ) → (tables_of bs).step q x y ≡ Some t → t < (tables_of bs).n
unfolding tables_of
steps_below bs w q x y t e = let i = step_inside bs q x y t e in whole_step bs w q x y t i.state i.reading i.command e
