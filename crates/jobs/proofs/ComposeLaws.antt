-- What the nested pairs make of words.
use Rattle.std.proofs.Common.{◌≡◌, ℕ, zero, suc, ◌+◌, ◌*◌, ◌<◌, ◌≤◌, Bool, true, false, cond, ◌&&◌, ltb, leb, ◌⊎◌, List, length, Some, None, Ok, Err, Option, Result, sym, refl, ap, ◌∙◌, subst, ap₂, inl, inr, le-mul_of_pos_right, arith}
use Rattle.ranges.proofs.RangeLaws.{below_suc}
use Rattle.std.proofs.lemmas.Bool.{leb-true, ltb-true, and_parts}
use Rattle.automata.specs.Arena.{Arena}
use Rattle.automata.specs.Machine.{Machine, machine_in}
use Rattle.automata.specs.Layers.{both, held, right_fits}
use Rattle.automata.specs.Walks.{walked, Carries, Adds}
use Rattle.automata.specs.declared.word.Round.{Round}
use Rattle.automata.proofs.LayerLaws.{Sane, held_sane, duty_sane, right_sane}
use Rattle.automata.proofs.WalkLaws.{Rooted, holds, carries, adds}
use Rattle.ltlf.specs.Formulas.{Ltl, terms}
use Rattle.ltlf.specs.Reading.{outcome}
use Rattle.ltlf.proofs.Prefixes.{reads_as}
use Rattle.ltlf.specs.CodeLaws.{codes_few}
use Rattle.ltlf.specs.declared.fault.TextFault.{TextFault}
use Rattle.jobs.specs.FlatJob.{byte}
use Rattle.jobs.specs.Sections.{is_table, is_held, count, fourth, body, section_fits, table_fits, rule_fits, text_fault}
use Rattle.automata.specs.Table.{table_by}
use Rattle.jobs.specs.Parts.{rule_machine, plain, machine, offset, part, nested, formula, sections_arena}
use Rattle.jobs.specs.Composed.{together, Stand, Composed}
use Rattle.jobs.specs.Loaded.{Composes}
use Rattle.jobs.specs.PartLaws.{table_by_sane, rule_by_sane}
use Rattle.jobs.proofs.CheckedLaws.{Passed, passed, sectioned, all_sound}

rooted : (m : Machine) → Sane m → Rooted m
rooted m L = (L.begins, L.enters)

-- NESTED PAIRS of sane parts
module _ (part : ℕ → Machine) (k : ℕ) (L : (i : ℕ) → i < k + 2 → Sane (part i)) where
  pub nested_sane : (j : ℕ) → j ≤ k → Sane (machine_in (nested part j))
  nested_sane zero h = duty_sane (part 0) (part 1) (L 0 (omega arith)) (L 1 (omega arith))
  nested_sane (suc j) h = right_sane (nested part j) (part (j + 2)) (nested_sane j (omega arith)) (L (j + 2) (omega arith))

-- where the whole fits, so does each nest, and it has its number of rights
fitted : (b : Bool) (n k : ℕ) → cond b n 257 ≤ 256 → b ≡ true
fitted true n k h = refl
fitted false n k h = absurd (omega arith)

module _ (part : ℕ → Machine) where
  right_few : (j : ℕ) → (nested part (suc j)).n ≤ 256 → right_fits (nested part j) (part (j + 2)) ≡ true
  right_few j h = fitted (right_fits (nested part j) (part (j + 2))) ((nested part j).n * (part (j + 2)).n) 0 h

  pub product_few : (j : ℕ) → (nested part (suc j)).n ≤ 256 → (nested part j).n * (part (j + 2)).n ≤ 256
  product_few j h = leb-true ((nested part j).n * (part (j + 2)).n) 256 (and_parts (leb ((nested part j).n * (part (j + 2)).n) 256) (ltb (nested part j).k 4) (right_few j h)).0

  pub rights_more : (j : ℕ) → (nested part (suc j)).n ≤ 256 → (nested part j).k < 4
  rights_more j h = ltb-true (nested part j).k 4 (and_parts (leb ((nested part j).n * (part (j + 2)).n) 256) (ltb (nested part j).k 4) (right_few j h)).1

-- none on either side
both_none : (n : ℕ) (o u : Option ℕ) → (o ≡ None) ⊎ (u ≡ None) → both n o u ≡ None
both_none n o u (inl e) = ap (λ (p : Option ℕ). both n p u) e
both_none n None u (inr e) = refl
both_none n (Some p) u (inr e) = ap (λ (r : Option ℕ). both n (Some p) r) e

module _ (part : ℕ → Machine) (k : ℕ) (L : (i : ℕ) → i < k + 2 → Sane (part i)) where
  abbrev A : ℕ → Arena
  A j = nested part j

  -- each nest's states are few where the whole's are
  few_below : (d j : ℕ) → j + d ≤ k → (A (j + d)).n ≤ 256 → (A j).n ≤ 256
  few_below zero j l h = let same : j + 0 ≡ j = omega arith in subst (λ (i : ℕ). (A i).n ≤ 256) same h
  few_below (suc d) j l h =
      let same : j + suc d ≡ suc (j + d) = omega arith in
      let h' : (A (suc (j + d))).n ≤ 256 = subst (λ (i : ℕ). (A i).n ≤ 256) same h in
      few_below d j (omega arith) (narrower (A (j + d)).n (part (j + d + 2)).n (product_few part (j + d) h') (L (j + d + 2) (omega arith)).some_state)
    where
      narrower : (n m : ℕ) → n * m ≤ 256 → 1 ≤ m → n ≤ 256
      narrower n m p s = omega (arith, le-mul_of_pos_right {m = m} n s)

  duty_law : (A 0).n ≤ 256 → Carries (part 0) (part 1)
  duty_law h =
      carries (part 0) (part 1) (rooted (part 0) (L 0 (omega arith))) (rooted (part 1) (L 1 (omega arith)))
      (leb-true ((part 0).n * (part 1).n) 256 (fitted (leb ((part 0).n * (part 1).n) 256) ((part 0).n * (part 1).n) 0 h))

  right_law : (j : ℕ) → suc j ≤ k → (A (suc j)).n ≤ 256 → Adds (A j) (part (j + 2))
  right_law j l h =
      adds (A j) (part (j + 2)) (rooted (machine_in (A j)) (nested_sane part k L j (omega arith))) (rooted (part (j + 2)) (L (j + 2) (omega arith)))
      (product_few part j h) (rights_more part j h)

  -- all nests up to j, over a word
  pub record Nest (j : ℕ) : Type 0 where
    pub stands : (w : List Round) (s : ℕ → ℕ) → Stand part j w s → walked (machine_in (A j)) w ≡ Some (together part s j)
    pub falls : (w : List Round) (i : ℕ) → i < j + 2 → walked (part i) w ≡ None → walked (machine_in (A j)) w ≡ None
    pub rights_are : (A j).k ≡ j
    pub duty : (w : List Round) (s : ℕ → ℕ) → Stand part j w s → (A j).marked (together part s j) ≡ (part 1).marked (s 1)
    pub right : (w : List Round) (s : ℕ → ℕ) → Stand part j w s → (i : ℕ) → 1 ≤ i → i ≤ j → (A j).right i (together part s j) ≡ (part (suc i)).marked (s (suc i))

  pub nest : (j : ℕ) → j ≤ k → (A j).n ≤ 256 → Nest j
  nest zero l h =
      let C = duty_law h in
      record {
        stands = λ w s st. C.stands w ∙ ap₂ (both (part 1).n) (st 0 (omega arith)) (st 1 (omega arith));
        falls = λ w i li e. C.stands w ∙ both_none (part 1).n (walked (part 0) w) (walked (part 1) w) (first i li w e);
        rights_are = refl;
        duty = λ w s st. C.duty w (s 0) (s 1) (st 0 (omega arith)) (st 1 (omega arith));
        right = λ w s st i li hi. absurd (omega arith);
      }
    where
      first : (i : ℕ) → i < 2 → (w : List Round) → walked (part i) w ≡ None → (walked (part 0) w ≡ None) ⊎ (walked (part 1) w ≡ None)
      first zero li w e = inl e
      first (suc zero) li w e = inr e
      first (suc (suc i)) li w e = absurd (omega arith)
  nest (suc j) l h =
      let same : suc j ≡ j + 1 = omega arith in
      step (nest j (omega arith) (few_below 1 j (omega arith) (subst (λ (i : ℕ). (A i).n ≤ 256) same h)))
    where
      step : Nest j → Nest (suc j)
      step N =
          let D = right_law j l h in
          let R = part (j + 2) in
          record {
            stands = λ w s st. D.stands w ∙ ap₂ (both R.n) (N.stands w s (λ i li. st i (omega arith))) (st (j + 2) (omega arith));
            falls = λ w i li e. D.stands w ∙ both_none R.n (walked (machine_in (A j)) w) (walked R w) (either i li w e);
            rights_are = D.count ∙ ap (λ (n : ℕ). n + 1) N.rights_are ∙ omega arith;
            duty = λ w s st.
                D.duty w (together part s j) (s (j + 2)) (N.stands w s (λ i li. st i (omega arith))) (st (j + 2) (omega arith)) ∙ N.duty w s (λ i li. st i (omega arith));
            right = λ w s st i li hi. pick w s st i li (below_suc i (suc j) (omega arith));
          }
        where
          either : (i : ℕ) → i < suc j + 2 → (w : List Round) → walked (part i) w ≡ None → (walked (machine_in (A j)) w ≡ None) ⊎ (walked (part (j + 2)) w ≡ None)
          either i li w e = go (below_suc i (j + 2) (omega arith))
            where
              go : (i ≡ j + 2) ⊎ (i < j + 2) → (walked (machine_in (A j)) w ≡ None) ⊎ (walked (part (j + 2)) w ≡ None)
              go (inl same) = inr (subst (λ (m : ℕ). walked (part m) w ≡ None) same e)
              go (inr less) = inl (N.falls w i less e)

          pick : (w : List Round) (s : ℕ → ℕ) → Stand part (suc j) w s → (i : ℕ) → 1 ≤ i → (i ≡ suc j) ⊎ (i < suc j) → (A (suc j)).right i (together part s (suc j)) ≡ (part (suc i)).marked (s (suc i))
          pick w s st i li (inr less) =
              let below = N.stands w s (λ i li. st i (omega arith)) in
              (right_law j l h).others w (together part s j) (s (j + 2)) below (st (j + 2) (omega arith)) i (omega (arith, N.rights_are)) ∙ N.right w s (λ i li. st i (omega arith)) i li (omega arith)
          pick w s st i li (inl same) =
              let below = N.stands w s (λ i li. st i (omega arith)) in
              let last = (right_law j l h).last w (together part s j) (s (j + 2)) below (st (j + 2) (omega arith)) in
              let is-i : (A j).k + 1 ≡ i = omega (arith, N.rights_are) in
              let next : j + 2 ≡ suc i = omega arith in
              subst (λ (m : ℕ). (A (suc j)).right m (together part s (suc j)) ≡ (part (j + 2)).marked (s (j + 2))) is-i last ∙ ap (λ (m : ℕ). (part m).marked (s m)) next

-- THE PARTS of a job that is not refused are sane
module _ (a b : ℕ) (bs : List ℕ) (la : a ≤ 3) (lb : b ≤ 3) where
  text_few : (o : ℕ) → is_table bs o ≡ false → text_fault a b bs o ≡ Ok tt → length (terms (formula (outcome (a + b) (body a b bs o)))) ≤ 3
  text_few o kind ok = go (outcome (a + b) (body a b bs o)) refl
    where
      go : (r : Result Ltl TextFault) → outcome (a + b) (body a b bs o) ≡ r → length (terms (formula r)) ≤ 3
      go (Ok p) e = ((reads_as (a + b) (body a b bs o) p).0 e).rule.few
      go (Err x) e = omega arith

  module _ (o : ℕ) (fits : section_fits a b bs o ≡ true) (e : is_table bs o ≡ true) where
    table_front : (leb 1 (count bs o) && leb (count bs o) 64 && ltb (fourth bs o) (count bs o)) ≡ true
    table_front =
        let table_is : table_fits a b bs o ≡ true = sym (ap (λ (t : Bool). cond t (table_fits a b bs o) (rule_fits bs o)) e) ∙ (and_parts _ _ fits).1 in
        (and_parts _ _ (and_parts _ _ table_is).0).0

    table_some : 1 ≤ count bs o
    table_some = leb-true 1 (count bs o) (and_parts (leb 1 (count bs o)) _ (and_parts (leb 1 (count bs o) && leb (count bs o) 64) _ table_front).0).0

    table_few : count bs o ≤ 64
    table_few = leb-true (count bs o) 64 (and_parts (leb 1 (count bs o)) _ (and_parts (leb 1 (count bs o) && leb (count bs o) 64) _ table_front).0).1

    table_begins : fourth bs o < count bs o
    table_begins = ltb-true (fourth bs o) (count bs o) (and_parts (leb 1 (count bs o) && leb (count bs o) 64) _ table_front).1

  plain_sane : (o : ℕ) → section_fits a b bs o ≡ true → text_fault a b bs o ≡ Ok tt → Sane (plain a b bs o)
  plain_sane o fits text = go (is_table bs o) refl
    where
      go : (t : Bool) → is_table bs o ≡ t → Sane (plain a b bs o)
      go true e =
          subst (λ (t : Bool). Sane (cond t (table_by a b (count bs o) (fourth bs o) (body a b bs o)) (rule_machine a b (formula (outcome (a + b) (body a b bs o)))))) (sym e) (table_by_sane a b (count bs o) (fourth bs o) (body a b bs o) la lb (table_some o fits e) (table_few o fits e) (table_begins o fits e))
      go false e = subst (λ (t : Bool). Sane (cond t (table_by a b (count bs o) (fourth bs o) (body a b bs o)) (rule_machine a b (formula (outcome (a + b) (body a b bs o)))))) (sym e) (rule_by_sane a b (formula (outcome (a + b) (body a b bs o))) la lb (text_few o e text))

  plain_few : (o : ℕ) → section_fits a b bs o ≡ true → text_fault a b bs o ≡ Ok tt → (plain a b bs o).n ≤ 128
  plain_few o fits text = go (is_table bs o) refl
    where
      go : (t : Bool) → is_table bs o ≡ t → (plain a b bs o).n ≤ 128
      go true e = subst (λ (t : Bool). (cond t (table_by a b (count bs o) (fourth bs o) (body a b bs o)) (rule_machine a b (formula (outcome (a + b) (body a b bs o))))).n ≤ 128) (sym e) (omega (arith, table_few o fits e))
      go false e =
          subst (λ (t : Bool). (cond t (table_by a b (count bs o) (fourth bs o) (body a b bs o)) (rule_machine a b (formula (outcome (a + b) (body a b bs o))))).n ≤ 128) (sym e)
          (omega (arith, codes_few (formula (outcome (a + b) (body a b bs o))) (text_few o e text)))

  part_sane : (o : ℕ) → section_fits a b bs o ≡ true → text_fault a b bs o ≡ Ok tt → Sane (machine a b bs o)
  part_sane o fits text = go (is_held bs o)
    where
      go : (t : Bool) → Sane (cond t (held (plain a b bs o)) (plain a b bs o))
      go true = held_sane (plain a b bs o) (plain_sane o fits text)
      go false = plain_sane o fits text

-- THE JOB
pub composed : (bs : List ℕ) → Passed bs → Composed bs
composed bs p =
    let a = byte bs 3 in
    let b = byte bs 4 in
    let k = byte bs 5 in
    let wide = and_parts (leb a 3) (leb b 3) p.narrow_is in
    let la = leb-true a 3 wide.0 in
    let lb = leb-true b 3 wide.1 in
    let sound = all_sound bs p in
    let L : (i : ℕ) → i < k + 2 → Sane (part bs i) = λ i l. part_sane a b bs la lb (offset a b bs i) (sound.each i l).fits (sound.each i l).text in
    let few : (sections_arena bs).n ≤ 256 = leb-true (sections_arena bs).n 256 p.states_few in
    let N = nest (part bs) k L k (omega arith) few in
    record {
      stands = N.stands;
      falls = N.falls;
      duty = N.duty;
      right = N.right;
      held = λ i l h.
          let o = offset a b bs i in
          let M = plain_sane a b bs la lb o (sound.each i l).fits (sound.each i l).text in
          holds (plain a b bs o) (rooted (plain a b bs o) M) (plain_few a b bs la lb o (sound.each i l).fits (sound.each i l).text);
    }

pub composes : (bs : List ℕ) → Composes bs
composes bs ok lead = composed bs (passed bs (sectioned bs ok lead))
