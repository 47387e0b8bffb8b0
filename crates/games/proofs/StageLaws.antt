-- A staged search over n states with a monotone joining rule: stages grow, and after n of them none joins.
use Rattle.std.proofs.Common.{◌≡◌, ℕ, zero, suc, ◌<◌, ◌≤◌, Bool, true, false, not, ◌||◌, T, leb, ◌⊎◌, sym, refl, ◌∙◌, subst, inl, inr, arith, rules}
use native.Mathlib.Decide.{dec_le, dec_lt}
use Rattle.std.proofs.lemmas.Bool.{le-leb, lt-leb}
use Rattle.ranges.specs.Ranges.{all, least}
use Rattle.games.specs.Search.{Within, Monotone, stage, rank_of}
use Rattle.ranges.proofs.RangeLaws.{T-dec, T_true, false_T, or_l, or_r, or_case, not_mk, not_at, all_at, not_all, least_passes, least_bound, least_holds, least_before, least_is, least_none}
use Rattle.games.proofs.CountLaws.{count, count_more, count_full}

module _ (n : ℕ) (first : ℕ → Bool) (joins : (ℕ → Bool) → ℕ → Bool) where
  pub stage_up : (r r' q : ℕ) → r ≤ r' → T (stage first joins r q) → T (stage first joins r' q)
  stage_up r zero q h t = let e : r ≡ zero = omega arith in subst (λ (z : ℕ). T (stage first joins z q)) e t
  stage_up r (suc r') q h t = go (dec_le r r') (stage_up r r' q)
    where
      go : Dec (r ≤ r') → (r ≤ r' → T (stage first joins r q) → T (stage first joins r' q)) → T (stage first joins (suc r') q)
      go (yes p) ih = or_l (stage first joins r' q) (joins (stage first joins r') q) (ih p t)
      go (no p) ih = let e : r ≡ suc r' = omega arith in subst (λ (z : ℕ). T (stage first joins z q)) e t

  abbrev Closed : ℕ → Type 0
  Closed r = Within n (stage first joins (suc r)) (stage first joins r)

  closed_test : (r : ℕ) → Closed r ⊎ ((q : ℕ) × (q < n) × T (stage first joins (suc r) q) × (T (stage first joins r q) → ⊥))
  closed_test r = go (T-dec (all n test))
    where
      test : ℕ → Bool
      test q = not (stage first joins (suc r) q) || stage first joins r q

      go : T (all n test) ⊎ (T (all n test) → ⊥) → Closed r ⊎ ((q : ℕ) × (q < n) × T (stage first joins (suc r) q) × (T (stage first joins r q) → ⊥))
      go (inl t) = inl (λ q l s. pick q s (or_case (not (stage first joins (suc r) q)) (stage first joins r q) (all_at n test t q l)))
        where
          pick : (q : ℕ) → T (stage first joins (suc r) q) → T (not (stage first joins (suc r) q)) ⊎ T (stage first joins r q) → T (stage first joins r q)
          pick q s (inl u) = absurd (not_at (stage first joins (suc r) q) u s)
          pick q s (inr u) = u
      go (inr f) =
          let w = not_all n test f in
          inr (w.0, w.1, yes_of w.0 w.2, λ s. w.2 (or_r (not (stage first joins (suc r) w.0)) (stage first joins r w.0) s))
        where
          yes_of : (q : ℕ) → (T (test q) → ⊥) → T (stage first joins (suc r) q)
          yes_of q g = pick (T-dec (stage first joins (suc r) q))
            where
              pick : T (stage first joins (suc r) q) ⊎ (T (stage first joins (suc r) q) → ⊥) → T (stage first joins (suc r) q)
              pick (inl u) = u
              pick (inr u) = absurd (g (or_l (not (stage first joins (suc r) q)) (stage first joins r q) (not_mk (stage first joins (suc r) q) u)))

module _ (n : ℕ) (first : ℕ → Bool) (joins : (ℕ → Bool) → ℕ → Bool) (mono : Monotone n joins) where
  pub closed_next : (r : ℕ) → Closed n first joins r → Closed n first joins (suc r)
  closed_next r c q l t = search rules

  closed_or_count : (r : ℕ) → Closed n first joins r ⊎ (r ≤ count n (stage first joins r))
  closed_or_count zero = inr (omega arith)
  closed_or_count (suc r) = go (closed_or_count r) (closed_test n first joins r)
    where
      go : Closed n first joins r ⊎ (r ≤ count n (stage first joins r)) →
          Closed n first joins r ⊎ ((q : ℕ) × (q < n) × T (stage first joins (suc r) q) × (T (stage first joins r q) → ⊥)) →
          Closed n first joins (suc r) ⊎ (suc r ≤ count n (stage first joins (suc r)))
      go (inl c) d = inl (closed_next r c)
      go (inr c) (inl d) = inl (closed_next r d)
      go (inr c) (inr w) =
          let m = count_more n (stage first joins r) (stage first joins (suc r)) (λ q l s. stage_up n first joins r (suc r) q (omega arith) s) w.0 w.1 w.2 w.3 in
          inr (omega arith)

  -- after n stages none joins
  pub closed : Closed n first joins n
  closed = go (closed_or_count n)
    where
      go : Closed n first joins n ⊎ (n ≤ count n (stage first joins n)) → Closed n first joins n
      go (inl c) = c
      go (inr c) = λ q l s. count_full n (stage first joins n) c q l

  pub not_joining : (q : ℕ) → q < n → (T (stage first joins n q) → ⊥) → T (joins (stage first joins n) q) → ⊥
  not_joining q l f t = f (closed q l (or_r (stage first joins n q) (joins (stage first joins n) q) t))

-- ranks
module _ (n : ℕ) (first : ℕ → Bool) (joins : (ℕ → Bool) → ℕ → Bool) where
  pub rank_unranked : (q : ℕ) → (T (stage first joins n q) → ⊥) → rank_of n (stage first joins) q ≡ 65535
  rank_unranked q f = search rules

  pub rank_ranked : (q : ℕ) → T (stage first joins n q) → rank_of n (stage first joins) q ≡ least n (λ r. stage first joins r q)
  rank_ranked q t = search rules

  pub rank_at_most : (r q : ℕ) → r ≤ n → T (stage first joins r q) → rank_of n (stage first joins) q ≤ r
  rank_at_most r q h t = rw (rank_ranked q (stage_up n first joins r n q h t)) (go (dec_lt r n))
    where
      go : Dec (r < n) → least n (λ r. stage first joins r q) ≤ r
      go (yes p) = (least_passes n (λ r. stage first joins r q) r p t).2
      go (no p) = let b = least_bound n (λ r. stage first joins r q) in omega arith

  pub rank_small : (q : ℕ) → T (stage first joins n q) → rank_of n (stage first joins) q ≤ n
  rank_small q t = rank_at_most n q (omega arith) t

  pub rank_stage : (q : ℕ) → T (stage first joins n q) → T (stage first joins (rank_of n (stage first joins) q) q)
  rank_stage q t = rw (rank_ranked q t) (go (dec_lt (least n (λ r. stage first joins r q)) n))
    where
      go : Dec (least n (λ r. stage first joins r q) < n) → T (stage first joins (least n (λ r. stage first joins r q)) q)
      go (yes p) = least_holds n (λ r. stage first joins r q) p
      go (no p) =
          let e : n ≡ least n (λ r. stage first joins r q) = omega (arith, least_bound n (λ r. stage first joins r q)) in
          subst (λ (z : ℕ). T (stage first joins z q)) e t

  -- a ranked state of rank above 0 joins by the stage before
  pub rank_joins : (q r : ℕ) → T (stage first joins n q) → rank_of n (stage first joins) q ≡ suc r → T (joins (stage first joins r) q)
  rank_joins q r t e = go (or_case (stage first joins r q) (joins (stage first joins r) q) (subst (λ (z : ℕ). T (stage first joins z q)) e (rank_stage q t)))
    where
      go : T (stage first joins r q) ⊎ T (joins (stage first joins r) q) → T (joins (stage first joins r) q)
      go (inl s) = let m = rank_small q t in absurd (omega (arith, rank_at_most r q (omega arith) s))
      go (inr s) = s

-- the next stage's ranks from those of this one
module _ (first : ℕ → Bool) (joins : (ℕ → Bool) → ℕ → Bool) where
  abbrev S : ℕ → ℕ → Bool
  S = stage first joins

  -- stage r has the states whose rank, as far as stage r tells, is at most r
  pub rank_tells : (r q : ℕ) → r < 65535 → leb (rank_of r S q) r ≡ S r q
  rank_tells r q small = go (S r q) refl
    where
      go : (b : Bool) → S r q ≡ b → leb (rank_of r S q) r ≡ S r q
      go true e = rw (rank_ranked r first joins q (T_true _ e)) (le-leb _ r (least_bound r (λ i. S i q)) ∙ sym e)
      go false e = rw (rank_unranked r first joins q (false_T _ e)) (lt-leb 65535 r small ∙ sym e)

  -- a state that has a rank keeps it
  pub rank_stays : (r q : ℕ) → T (S r q) → rank_of (suc r) S q ≡ rank_of r S q
  rank_stays r q t =
      rw (rank_ranked (suc r) first joins q (or_l (S r q) _ t), rank_ranked r first joins q t) (go (dec_lt (least r f) r))
    where
      f : ℕ → Bool
      f i = S i q

      go : Dec (least r f < r) → least (suc r) f ≡ least r f
      go (yes p) = least_is (suc r) f (least r f) (omega arith) (least_holds r f p) (least_before r f)
      go (no p) =
          let e : least r f ≡ r = omega (arith, least_bound r f) in
          rw e (least_is (suc r) f r (omega arith) t (λ i l. least_before r f i (omega arith)))

  -- a state that joins gets the next rank
  pub rank_comes : (r q : ℕ) → (T (S r q) → ⊥) → T (joins (S r) q) → rank_of (suc r) S q ≡ suc r
  rank_comes r q f t =
      rw (rank_ranked (suc r) first joins q (or_r (S r q) _ t))
      (least_none (suc r) (λ i. S i q) (λ i l s. f (stage_up r first joins i r q (omega arith) s)))

  -- a state that does not join stays without
  pub rank_waits : (r q : ℕ) → (T (S r q) → ⊥) → (T (joins (S r) q) → ⊥) → rank_of (suc r) S q ≡ 65535
  rank_waits r q f g = search rules
