-- The regions of an arena, from lists of ranks.
use Rattle.std.proofs.Common.{◌≡◌, ℕ, zero, suc, ◌^◌, ◌<◌, ◌≤◌, Bool, true, false, not, ◌&&◌, T, eqb, ltb, ◌⊎◌, List, [], get_or, sym, refl, ap, ◌∙◌, ap₂, subst₂, inl, inr, arith, pow_pos}
use mathlib.Core.Path.{fun_ext}
use Rattle.std.proofs.Math.Bool.{not-not}
use Rattle.std.proofs.lemmas.Bool.{cases_lt, le-ltb, lt-ltb, and_left, eq-eqb, ne_eqb}
use Rattle.ranges.specs.Ranges.{all}
use Rattle.automata.specs.Arena.{Arena}
use Rattle.automata.specs.Lawful.{LawfulArena}
use Rattle.ranges.proofs.RangeLaws.{T-eq, T_true, false_T, and_l, or_case, all_mk, any_mk, least_bound}
use Rattle.games.specs.Search.{stage, rank_of, RanksAt}
use Rattle.games.specs.Regions.{nowhere, breaks, broken, unbroken, lawful_by, forces_by, forces, right_column, fence, ranked, rank}
use Rattle.games.specs.Found.{BrokenFound, ColumnFound, RightsFound}
use Rattle.games.proofs.StageLaws.{stage_up, rank_ranked, rank_unranked}

-- tests that agree below a bound
pub all_same : (m : ℕ) (f g : ℕ → Bool) → ((x : ℕ) → x < m → f x ≡ g x) → all m f ≡ all m g
all_same zero f g h = refl
all_same (suc m) f g h = ap₂ ◌&&◌ (h m (omega arith)) (all_same m f g (λ x l. h x (omega arith)))

-- a state has no rank exactly where the last stage lacks it
pub rank_lacks : (n : ℕ) (first : ℕ → Bool) (joins : (ℕ → Bool) → ℕ → Bool) (q : ℕ) → n ≤ 256 → eqb (rank_of n (stage first joins) q) 65535 ≡ not (stage first joins n q)
rank_lacks n first joins q small = go (stage first joins n q) refl
  where
    go : (b : Bool) → stage first joins n q ≡ b → eqb (rank_of n (stage first joins) q) 65535 ≡ not (stage first joins n q)
    go true e =
        rw (rank_ranked n first joins q (T_true _ e))
        (ne_eqb _ 65535 (λ z. omega (arith, least_bound n (λ r. stage first joins r q))) ∙ sym (ap not e))
    go false e = rw (rank_unranked n first joins q (false_T _ e)) (eq-eqb 65535 65535 refl ∙ sym (ap not e))

module _ (A : Arena) (L : LawfulArena A) where
  -- a state out of range is broken
  pub broken_outside : (q : ℕ) → A.n ≤ q → broken A q ≡ true
  broken_outside q o =
      let s = L.start_inside in
      let joins : T (breaks A nowhere q) = all_mk (2 ^ A.a) _ (λ x h. any_mk (2 ^ A.b) _ 0 (pow_pos A.b) (rw (L.state_outside q x 0 o) tt)) in
      T-eq _ (stage_up A.n nowhere (breaks A) 1 A.n q (omega arith) joins)

  pub rank_lacks_in : (i q : ℕ) → eqb (rank A i q) 65535 ≡ not (ranked A i q)
  rank_lacks_in zero q = rank_lacks A.n _ (λ S q. fence A q && forces A S q) q L.few_states
  rank_lacks_in (suc j) q = rank_lacks A.n _ (λ S q. unbroken A q && forces A S q) q L.few_states

  module _ (ranks : List ℕ) (found : BrokenFound A ranks) where
    abbrev pub unranked : ℕ → Bool
    unranked q = ltb q A.n && eqb (get_or ranks q 0) 65535

    unranked_at : (q : ℕ) → unranked q ≡ unbroken A q
    unranked_at q = go (cases_lt q A.n)
      where
        go : (q < A.n) ⊎ (A.n ≤ q) → unranked q ≡ unbroken A q
        go (inl l) = ap₂ ◌&&◌ (lt-ltb q A.n l) (ap (λ v. eqb v 65535) (found q l) ∙ rank_lacks A.n nowhere (breaks A) q L.few_states)
        go (inr l) = and_left (ltb q A.n) _ (le-ltb q A.n l) ∙ sym (ap not (broken_outside q l))

    -- the states without a rank in the search for broken states are the unbroken ones
    pub unranked_is : unranked ≡ unbroken A
    unranked_is = fun_ext unranked_at

    pub right_found : (j : ℕ) (row : List ℕ) (n i : ℕ) → n ≡ A.n → i ≡ suc j →
        RanksAt A.n (λ q. (ltb q n && eqb (get_or ranks q 0) 65535) && (A.marked q && A.right i q))
        (λ S q. (ltb q n && eqb (get_or ranks q 0) 65535) && forces_by A (lawful_by A (λ q. ltb q n && eqb (get_or ranks q 0) 65535)) S q) row →
        ColumnFound A (suc j) row
    right_found j row n i en ei r =
        let Rule : (ℕ → Bool) → ℕ → Type 0 = λ U i. RanksAt A.n (λ q. U q && (A.marked q && A.right i q)) (λ S q. U q && forces_by A (lawful_by A U) S q) row in
        let un : ℕ → ℕ → Bool = λ m q. ltb q m && eqb (get_or ranks q 0) 65535 in
        let U : un n ≡ unbroken A = ap un en ∙ unranked_is in
        subst₂ Rule U ei r

    module _ (rights : List (List ℕ)) (fenced : RightsFound A A.k rights) where
      abbrev pub fenced_in : ℕ → Bool
      fenced_in q = unranked q && all A.k (λ j. not (eqb (get_or (get_or rights j []) q 0) 65535))

      fenced_at : (q : ℕ) → fenced_in q ≡ fence A q
      fenced_at q = go (cases_lt q A.n)
        where
          go : (q < A.n) ⊎ (A.n ≤ q) → fenced_in q ≡ fence A q
          go (inl l) = ap₂ ◌&&◌ (unranked_at q) (all_same A.k _ _ (λ j h.
              ap not (ap (λ v. eqb v 65535) (fenced j q (h, l)) ∙ rank_lacks_in (suc j) q) ∙ not-not (right_column A (suc j) A.n q)))
          go (inr l) =
              let e = ap not (broken_outside q l) in
              and_left (unranked q) _ (unranked_at q ∙ e) ∙ sym (and_left (unbroken A q) _ e)

      pub fenced_is : fenced_in ≡ fence A
      fenced_is = fun_ext fenced_at

      pub duty_found : (row : List ℕ) (n k : ℕ) → n ≡ A.n → k ≡ A.k →
          RanksAt A.n (λ q. ((ltb q n && eqb (get_or ranks q 0) 65535) && all k (λ j. not (eqb (get_or (get_or rights j []) q 0) 65535))) && A.marked q)
          (λ S q. ((ltb q n && eqb (get_or ranks q 0) 65535) && all k (λ j. not (eqb (get_or (get_or rights j []) q 0) 65535))) && forces_by A (lawful_by A (λ q. ltb q n && eqb (get_or ranks q 0) 65535)) S q) row →
          ColumnFound A 0 row
      duty_found row n k en ek r =
          let Rule : (ℕ → Bool) → (ℕ → Bool) → Type 0 = λ U F. RanksAt A.n (λ q. F q && A.marked q) (λ S q. F q && forces_by A (lawful_by A U) S q) row in
          let un : ℕ → ℕ → Bool = λ m q. ltb q m && eqb (get_or ranks q 0) 65535 in
          let fe : ℕ → ℕ → ℕ → Bool = λ m c q. un m q && all c (λ j. not (eqb (get_or (get_or rights j []) q 0) 65535)) in
          let U : un n ≡ unbroken A = ap un en ∙ unranked_is in
          let F : fe n k ≡ fence A = ap₂ fe en ek ∙ fenced_is in
          subst₂ Rule U F r

-- a column has only states of its set
pub stage_in : (R M : ℕ → Bool) (J : (ℕ → Bool) → ℕ → Bool) (r q : ℕ) → T (stage (λ q. R q && M q) (λ S q. R q && J S q) r q) → T (R q)
stage_in R M J zero q t = and_l (R q) (M q) t
stage_in R M J (suc r) q t = go (or_case (stage (λ q. R q && M q) (λ S q. R q && J S q) r q) _ t) (stage_in R M J r q)
  where
    go : T (stage (λ q. R q && M q) (λ S q. R q && J S q) r q) ⊎ T (R q && J (stage (λ q. R q && M q) (λ S q. R q && J S q) r) q) →
        (T (stage (λ q. R q && M q) (λ S q. R q && J S q) r q) → T (R q)) → T (R q)
    go (inl s) ih = ih s
    go (inr s) ih = and_l (R q) _ s

module _ (A : Arena) (L : LawfulArena A) where
  pub ranked_unbroken : (i q : ℕ) → T (ranked A i q) → T (unbroken A q)
  ranked_unbroken zero q t = and_l (unbroken A q) _ (stage_in (fence A) A.marked (forces A) A.n q t)
  ranked_unbroken (suc j) q t = stage_in (unbroken A) (λ q. A.marked q && A.right (suc j) q) (forces A) A.n q t

  ranked_lacks : (i q : ℕ) → (T (ranked A i q) → ⊥) → rank A i q ≡ 65535
  ranked_lacks zero q f = rank_unranked A.n _ (λ S q. fence A q && forces A S q) q f
  ranked_lacks (suc j) q f = rank_unranked A.n _ (λ S q. unbroken A q && forces A S q) q f

  -- a state out of range has no rank
  pub rank_outside : (i q : ℕ) → A.n ≤ q → rank A i q ≡ 65535
  rank_outside i q l = ranked_lacks i q (λ t. false_T _ (ap not (broken_outside A L q l)) (ranked_unbroken i q t))
