-- The ranks of a staged search, stage by stage, as a list has them.
use Rattle.std.proofs.Common.{◌≡◌, ℕ, zero, suc, ◌+◌, ◌<◌, ◌≤◌, Bool, true, false, ◌&&◌, T, eqb, leb, ◌⊎◌, List, length, get_or, sym, refl, ap, ◌∙◌, subst, inl, inr, add-one, arith}
use native.Mathlib.Decide.{dec_lt}
use Rattle.std.proofs.lemmas.Bool.{and_left, and_from, eq-eqb, ne_eqb, lt-ltb, cond-true, cond-false}
use Rattle.ranges.specs.Ranges.{least}
use Rattle.ranges.proofs.RangeLaws.{T-dec, T_true, T-eq, T_false, false_T, or_r, or_case, least_bound}
use Rattle.games.specs.Search.{stage, rank_of, ranked_by, Within, Monotone, Ranks}
use Rattle.games.specs.Passes.{passed_at, Passed}
use Rattle.games.proofs.StageLaws.{closed_next, rank_ranked, rank_unranked, rank_tells, rank_stays, rank_comes, rank_waits}

module _ (n : ℕ) (first : ℕ → Bool) (joins : (ℕ → Bool) → ℕ → Bool) where
  abbrev S : ℕ → ℕ → Bool
  S = stage first joins

  -- a list has the ranks of n states as far as stage r tells
  pub record Row (ranks : List ℕ) (r : ℕ) : Type 0 where
    pub long : length ranks ≡ n
    pub rank : (q : ℕ) → q < n → get_or ranks q 0 ≡ rank_of r S q

  module _ (mono : Monotone n joins) (ranks : List ℕ) (r : ℕ) (small : r < 65534) (row : Row ranks r) where
    -- the list puts the states of stage r in stage r
    row_set : (q : ℕ) → q < n → ranked_by ranks r q ≡ S r q
    row_set q l =
        ap (λ b. b && leb (get_or ranks q 0) r) (lt-ltb q (length ranks) (omega (arith, row.long)))
        ∙ ap (λ v. leb v r) (row.rank q l) ∙ rank_tells first joins r q (omega arith)

    joins_same : (q : ℕ) → q < n → joins (ranked_by ranks r) q ≡ joins (S r) q
    joins_same q l = go (joins (ranked_by ranks r) q) (joins (S r) q) refl refl
      where
        go : (a b : Bool) → joins (ranked_by ranks r) q ≡ a → joins (S r) q ≡ b → a ≡ b
        go true true e f = refl
        go true false e f = absurd (false_T _ f (mono (ranked_by ranks r) (S r) (λ p k t. subst T (row_set p k) t) q l (T_true _ e)))
        go false true e f = absurd (false_T _ e (mono (S r) (ranked_by ranks r) (λ p k t. subst T (sym (row_set p k)) t) q l (T_true _ f)))
        go false false e f = refl

    -- a state's rank after the pass is its rank as far as the next stage tells
    passes : (q : ℕ) → q < n → passed_at joins ranks r q ≡ rank_of (suc r) S q
    passes q l = go (T-dec (S r q)) (T-dec (joins (S r) q))
      where
        v : ℕ
        v = get_or ranks q 0

        test : Bool
        test = eqb v 65535 && joins (ranked_by ranks r) q

        go : T (S r q) ⊎ (T (S r q) → ⊥) → T (joins (S r) q) ⊎ (T (joins (S r) q) → ⊥) → passed_at joins ranks r q ≡ rank_of (suc r) S q
        go (inl t) d =
            let e : v ≡ least r (λ i. S i q) = row.rank q l ∙ rank_ranked r first joins q t in
            let b = least_bound r (λ i. S i q) in
            cond-false _ (r + 1) v (and_left (eqb v 65535) _ (ne_eqb v 65535 (λ z. omega arith))) ∙ row.rank q l ∙ sym (rank_stays first joins r q t)
        go (inr f) (inl t) =
            cond-true _ (r + 1) v (and_from (eqb v 65535) _ (eq-eqb v 65535 (row.rank q l ∙ rank_unranked r first joins q f)) (joins_same q l ∙ T-eq _ t))
            ∙ add-one r ∙ sym (rank_comes first joins r q f t)
        go (inr f) (inr g) =
            let e : joins (ranked_by ranks r) q ≡ false = joins_same q l ∙ T_false _ g in
            cond-false _ (r + 1) v (ap (λ b. eqb v 65535 && b) e ∙ none (eqb v 65535)) ∙ row.rank q l ∙ rank_unranked r first joins q f ∙ sym (rank_waits first joins r q f g)
          where
            none : (b : Bool) → (b && false) ≡ false
            none true = refl
            none false = refl

    pub row_more : (after : List ℕ) → length after ≡ length ranks → Passed joins ranks r after → Row after (r + 1)
    row_more after same passed = record {
      long = same ∙ row.long;
      rank = λ q l. passed q (omega (arith, row.long)) ∙ passes q l ∙ ap (λ (k : ℕ). rank_of k S q) (sym (add-one r));
    }

    -- where a pass changed nothing, the ranks are those of every later stage
    pub row_last : Passed joins ranks r ranks → r ≤ n → Row ranks n
    row_last still most = record { long = row.long; rank = λ q l. row.rank q l ∙ sym (same n most q l) }
      where
        rests : (q : ℕ) → q < n → rank_of (suc r) S q ≡ rank_of r S q
        rests q l = sym (passes q l) ∙ sym (still q (omega (arith, row.long))) ∙ row.rank q l

        shut : Within n (S (suc r)) (S r)
        shut q l t =
            subst T (rank_tells first joins r q (omega arith)) (subst (λ (k : ℕ). T (leb k r)) (rests q l) (T_true _ (go (T-dec (S r q)) (or_case (S r q) _ t))))
          where
            go : T (S r q) ⊎ (T (S r q) → ⊥) → T (S r q) ⊎ T (joins (S r) q) → leb (rank_of (suc r) S q) r ≡ true
            go (inl s) d = ap (λ k. leb k r) (rests q l) ∙ rank_tells first joins r q (omega arith) ∙ T-eq _ s
            go (inr f) (inl s) = absurd (f s)
            go (inr f) (inr s) =
                let e = rank_comes first joins r q f s in
                let u = rank_unranked r first joins q f in
                absurd (omega (arith, rests q l))

        shut_on : (m : ℕ) → r ≤ m → Within n (S (suc m)) (S m)
        shut_on zero h = let e : r ≡ zero = omega arith in subst (λ (k : ℕ). Within n (S (suc k)) (S k)) e shut
        shut_on (suc m) h = pick (dec_lt m r) (shut_on m)
          where
            pick : Dec (m < r) → (r ≤ m → Within n (S (suc m)) (S m)) → Within n (S (suc (suc m))) (S (suc m))
            pick (yes p) ih = let e : r ≡ suc m = omega arith in subst (λ (k : ℕ). Within n (S (suc k)) (S k)) e shut
            pick (no p) ih = closed_next n first joins mono m (ih (omega arith))

        step_same : (m : ℕ) → r ≤ m → (q : ℕ) → q < n → rank_of (suc m) S q ≡ rank_of m S q
        step_same m h q l = go (T-dec (S m q))
          where
            go : T (S m q) ⊎ (T (S m q) → ⊥) → rank_of (suc m) S q ≡ rank_of m S q
            go (inl t) = rank_stays first joins m q t
            go (inr f) = rank_waits first joins m q f (λ t. f (shut_on m h q l (or_r (S m q) _ t))) ∙ sym (rank_unranked m first joins q f)

        same : (m : ℕ) → r ≤ m → (q : ℕ) → q < n → rank_of m S q ≡ rank_of r S q
        same zero h q l = let e : r ≡ zero = omega arith in rw e
        same (suc m) h q l = pick (dec_lt m r) (same m)
          where
            pick : Dec (m < r) → (r ≤ m → (q : ℕ) → q < n → rank_of m S q ≡ rank_of r S q) → rank_of (suc m) S q ≡ rank_of r S q
            pick (yes p) ih = let e : r ≡ suc m = omega arith in ap (λ (k : ℕ). rank_of k S q) (sym e)
            pick (no p) ih = step_same m (omega arith) q l ∙ ih (omega arith) q l

  pub row_ranks : (ranks : List ℕ) → Row ranks n → Ranks n first joins ranks
  row_ranks ranks row = record { long = row.long; rank = row.rank }
