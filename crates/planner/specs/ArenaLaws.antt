-- The sheets of a lawful arena fit their fields.
use Rattle.std.specs.Prelude.{◌≡◌, ℕ, suc, ◌^◌, ◌<◌, ◌≤◌, Bool, true, false, not, ◌&&◌, ltb, Some, None, Option, ◌≢◌, nat_le, nat_lt}
use Rattle.std.proofs.Common.{ap, subst, arith, pow_mono}
use Rattle.std.proofs.lemmas.Bool.{and_parts, both_ways, cond_both, ltb-true}
use Rattle.ranges.specs.Ranges.{least}
use Rattle.ranges.proofs.RangeLaws.{least_bound}
use Rattle.automata.specs.Arena.{Arena}
use Rattle.automata.specs.Lawful.{LawfulArena}
use Rattle.automata.specs.Steps.{Inside, onward}
use Rattle.games.specs.Search.{rank_of}
use Rattle.games.specs.Regions.{broken, lawful, right_column, stages, ranked, rank, permits}
use Rattle.games.specs.GroundColumns.{kept, holds_off}
use Rattle.games.specs.Columns.{rank_in, permits_in, ground_byte_in}
use Rattle.games.specs.Verdicts.{lacking, verdict}
use Rattle.games.specs.declared.verdict.Verdict.{Verdict}
use Rattle.sheets.specs.Tables.{InRange}
use Rattle.planner.specs.GroundFormat.{GroundInRange}
use Rattle.planner.specs.ArenaTables.{arena_tables, arena_grounds, lost_right}

rank_small : (n : ℕ) (S : ℕ → ℕ → Bool) (q : ℕ) → n ≤ 256 → rank_of n S q < 65536
rank_small n S q h = go (S n q)
  where
    go : (b : Bool) → elim b [ true ↦ least n (λ r. S r q) | false ↦ 65535 ] < 65536
    go true = omega (arith, least_bound n (λ r. S r q))
    go false = omega arith

inside_at : (n : ℕ) (o : Option ℕ) → Inside n o → (t : ℕ) → o ≡ Some t → t < n
inside_at n o i t e = subst (Inside n) e i

module _ (A : Arena) (L : LawfulArena A) where
  rank_fits : (c q : ℕ) → rank_in A c q < 65536
  rank_fits c q = cond_both (nat_le c A.k) (rank A c q) 65535 (λ v. v < 65536) (λ _. rank_small A.n (stages A c) q L.few_states) (λ _. omega arith)

  permitted_steps : (c q x y : ℕ) → permits_in A c q x y ≡ true → A.step q x y ≢ None
  permitted_steps c q x y p e =
      let f : ℕ → Bool = λ q'. ltb (rank A c q') (rank A c q) in
      let s = (and_parts (ranked A c q && lawful A q x) _ (and_parts (nat_le c A.k) (permits A c q x y) p).1).1 in
      both_ways (onward (A.step q x y) false f) (ap (λ (o : Option ℕ). onward o false f) e) s

  pub tables_in_range : InRange (arena_tables A)
  tables_in_range = record {
    few_reading_bits = L.few_reading_bits;
    few_command_bits = L.few_command_bits;
    few_rights = L.few_rights;
    some_state = omega (arith, L.start_inside);
    few_states = L.few_states;
    start_inside = L.start_inside;
    step_inside = λ q x y t _ _ _ e. inside_at A.n (A.step q x y) (L.step_inside q x y) t e;
    rank_fits = λ c q _ _. rank_fits c q;
    permitted_steps = λ c q x y _ _ _ _ p e. permitted_steps c q x y p e;
  }

  byte_small : (c q : ℕ) → ground_byte_in A c q < 256
  byte_small c q =
      let P : ℕ → Type 0 = λ v. v < 256 in
      let w : 2 ^ A.a ≤ 2 ^ 3 = pow_mono L.few_reading_bits in
      cond_both (nat_le c A.k) _ 255 P
      (λ _. cond_both (kept A c q) (least (2 ^ A.a) (holds_off A c q)) 255 P (λ _. omega (arith, least_bound (2 ^ A.a) (holds_off A c q))) (λ _. omega arith))
      (λ _. omega arith)

  lacking_few : (q : ℕ) → lacking A q ≤ A.k
  lacking_few q =
      let j = least A.k (λ j. not (right_column A (suc j) A.n q)) in
      cond_both (nat_lt j A.k) (suc j) 0 (λ v. v ≤ A.k) (λ e. omega (arith, ltb-true j A.k e)) (λ _. omega arith)

  lost_few : lost_right (verdict A) ≤ A.k
  lost_few =
      let P : Verdict → Type 0 = λ v. lost_right v ≤ A.k in
      cond_both (broken A A.start) _ _ P (λ _. omega arith)
      (λ _. cond_both (ranked A 0 A.start) _ _ P (λ _. omega arith) (λ _. lacking_few A.start))

  pub grounds_in_range : GroundInRange (arena_grounds A (lost_right (verdict A)))
  grounds_in_range = record {
    few_reading_bits = L.few_reading_bits;
    few_command_bits = L.few_command_bits;
    few_rights = L.few_rights;
    some_state = omega (arith, L.start_inside);
    few_states = L.few_states;
    start_inside = L.start_inside;
    number_fits = lost_few;
    byte_fits = λ c q _ _. byte_small c q;
  }
