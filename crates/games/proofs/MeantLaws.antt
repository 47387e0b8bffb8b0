-- A verdict means what it says of grounds and plans.
use Rattle.std.proofs.Common.{◌≡◌, ℕ, zero, suc, ◌^◌, ◌≤◌, Bool, false, cond, not, T, eqb, ltb, ◌⊎◌, ◌↔◌, List, [], ◌∷◌, Option, sym, refl, ap, ◌∙◌, subst, inl, inr, arith, pow_mono, rules}
use Rattle.std.proofs.lemmas.Bool.{eq-eqb, ne_eqb, cond-false}
use Rattle.ranges.specs.Ranges.{least}
use Rattle.automata.specs.Steps.{onward}
use Rattle.automata.specs.Arena.{Arena}
use Rattle.automata.specs.Lawful.{LawfulArena}
use Rattle.ranges.proofs.RangeLaws.{T-dec, T-eq, T_false, and_r, and_mk, not_mk, not_at}
use Rattle.games.specs.declared.verdict.Verdict.TheVariants.{Groundless, Planned, Unplayable}
use Rattle.games.specs.Regions.{broken, unbroken, lawful, ranked, rank}
use Rattle.games.specs.GroundColumns.{kept, ground_byte}
use Rattle.games.specs.Verdicts.{verdict, lacking}
use Rattle.games.specs.Plays.{Below, Plan, Fulfils}
use Rattle.games.specs.Following.{turned, follows_by, follows, followed, told_column, told_turned, followed_told}
use Rattle.games.specs.Meant.{Meant, IsUnplayable, IsPlanned, SomeLawfulGround}
use Rattle.games.proofs.GroundLaws.{ground_unbroken, ground_lawful, safe, safe_lawful, first_then, lawful_first}
use Rattle.games.proofs.FollowLaws.{kept_unbroken, byte_holds_off, keeps, start_kept, followed_lawful, followed_beats, open_ranked, ranked_open, ranked_fulfils}

least_same : (m : ℕ) (f g : ℕ → Bool) → ((x : ℕ) → f x ≡ g x) → least m f ≡ least m g
least_same m f g h = search rules

module _ (A : Arena) where
  is_groundless : T (broken A A.start) → verdict A ≡ Groundless
  is_groundless t = search rules

  is_planned : T (unbroken A A.start) → T (ranked A 0 A.start) → verdict A ≡ Planned (rank A 0 A.start)
  is_planned u t = search rules

  is_unplayable : T (unbroken A A.start) → (T (ranked A 0 A.start) → ⊥) → verdict A ≡ Unplayable (lacking A A.start)
  is_unplayable u f = search rules

module _ (A : Arena) (L : LawfulArena A) where
  groundless_exactly : (verdict A ≡ Groundless) ↔ (SomeLawfulGround A → ⊥)
  groundless_exactly = go (T-dec (broken A A.start))
    where
      go : T (broken A A.start) ⊎ (T (broken A A.start) → ⊥) → (verdict A ≡ Groundless) ↔ (SomeLawfulGround A → ⊥)
      go (inl t) = (λ e s. not_at _ (ground_unbroken A L A.start s.0 s.1) t, λ f. is_groundless A t)
      go (inr t) = (
        λ e. absurd (pick (T-dec (ranked A 0 A.start)) e),
        λ f. absurd (f (safe A L A.start, safe_lawful A L A.start (not_mk _ t))),
      )
        where
          pick : T (ranked A 0 A.start) ⊎ (T (ranked A 0 A.start) → ⊥) → verdict A ≡ Groundless → ⊥
          pick (inl s) e = let d = is_planned A (not_mk _ t) s in cc (d, e)
          pick (inr s) e = let d = is_unplayable A (not_mk _ t) s in cc (d, e)

  -- an unplayable verdict says that the start is unbroken and has no rank in column 0
  unplayable_start : IsUnplayable A → T (unbroken A A.start) × (T (ranked A 0 A.start) → ⊥)
  unplayable_start u = search rules

  module _ (s : SomeLawfulGround A) where
    start_unbroken : T (unbroken A A.start)
    start_unbroken = ground_unbroken A L A.start s.0 s.1

    unplayable_exactly : IsUnplayable A ↔ ((p : Plan) → Fulfils A p → ⊥)
    unplayable_exactly = (none, back)
      where
        none : IsUnplayable A → (p : Plan) → Fulfils A p → ⊥
        none u p f = let w = unplayable_start u in followed_beats A L w.0 w.1 p (f (followed A) (followed_lawful A L w.0 w.1))

        back : ((p : Plan) → Fulfils A p → ⊥) → IsUnplayable A
        back f = (lacking A A.start, is_unplayable A start_unbroken (λ t. let w = ranked_fulfils A L t in f w.0 w.1))

    planned_exactly : IsPlanned A ↔ ((p : Plan) × Fulfils A p)
    planned_exactly = (some, back)
      where
        some : IsPlanned A → (p : Plan) × Fulfils A p
        some u = go (T-dec (ranked A 0 A.start))
          where
            go : T (ranked A 0 A.start) ⊎ (T (ranked A 0 A.start) → ⊥) → (p : Plan) × Fulfils A p
            go (inl t) = ranked_fulfils A L t
            go (inr t) = let d = is_unplayable A start_unbroken t in let e = u.1 in absurd (cc (d, e))

        back : (p : Plan) × Fulfils A p → IsPlanned A
        back f = go (T-dec (ranked A 0 A.start))
          where
            go : T (ranked A 0 A.start) ⊎ (T (ranked A 0 A.start) → ⊥) → IsPlanned A
            go (inl t) = (rank A 0 A.start, is_planned A start_unbroken t)
            go (inr t) = absurd (followed_beats A L start_unbroken t f.0 (f.1 (followed A) (followed_lawful A L start_unbroken t)))

  -- at an unbroken state a right's column has a reading exactly where it does not rank the state
  byte_tells : (j q : ℕ) → T (unbroken A q) → not (eqb (ground_byte A (suc j) q) 255) ≡ not (ranked A (suc j) q)
  byte_tells j q u = go (T-dec (ranked A (suc j) q))
    where
      go : T (ranked A (suc j) q) ⊎ (T (ranked A (suc j) q) → ⊥) → not (eqb (ground_byte A (suc j) q) 255) ≡ not (ranked A (suc j) q)
      go (inl t) =
          let none : kept A (suc j) q ≡ false = T_false _ (λ k. not_at _ (and_r (unbroken A q) _ k) t) in
          ap not (eq-eqb _ 255 (cond-false (kept A (suc j) q) _ 255 none) ∙ sym (T-eq _ t))
      go (inr f) =
          let h = (byte_holds_off A L (suc j) q (and_mk (unbroken A q) _ u (not_mk _ f))).0 in
          let w : 2 ^ A.a ≤ 2 ^ 3 = pow_mono L.few_reading_bits in
          ap not (ne_eqb _ 255 (λ z. omega arith) ∙ sym (T_false _ f))

  told_is : (q : ℕ) → T (unbroken A q) → told_column A q ≡ lacking A q
  told_is q u =
      ap (λ (j : ℕ). cond (ltb j A.k) (suc j) zero) (least_same A.k _ _ (λ j. byte_tells j q u))

  turned_told : (i q : ℕ) → T (unbroken A q) → told_turned A i q ≡ turned A i q
  turned_told zero q u = told_is q u
  turned_told (suc j) q u = refl

  follows_told : (ys : List ℕ) (i q : ℕ) → i ≤ A.k → T (kept A i q) → Below (2 ^ A.b) ys → follows_by A (told_turned A) i q ys ≡ follows A i q ys
  follows_told [] i q l t bs = refl
  follows_told (y ∷ ys) i q l t bs =
      let u = keeps A L i q l t y bs.0 in
      let next : (ℕ → ℕ → ℕ) → ℕ → ℕ = λ w q'. follows_by A w (w i q') q' ys in
      ap (λ (o : Option ℕ). onward o 255 (next (told_turned A))) u.1
      ∙ ap (λ (c : ℕ). follows_by A (told_turned A) c u.0 ys) (turned_told i u.0 (kept_unbroken A L (turned A i u.0) u.0 u.3))
      ∙ follows_told ys (turned A i u.0) u.0 u.2 u.3 bs.1
      ∙ sym (ap (λ (o : Option ℕ). onward o 255 (next (turned A))) u.1)

  read_off_is : IsUnplayable A → (ys : List ℕ) → Below (2 ^ A.b) ys → followed_told A ys ≡ followed A ys
  read_off_is u ys bs =
      let w = unplayable_start u in
      let k = start_kept A L w.0 w.1 in
      ap (λ (c : ℕ). follows_by A (told_turned A) c A.start ys) (told_is A.start w.0)
      ∙ follows_told ys (lacking A A.start) A.start k.0 k.1 bs

  pub meant : Meant A
  meant = record {
    groundless = groundless_exactly;
    readings = λ q x. (λ t. (first_then A L q x, lawful_first A L q x t, refl), λ w. subst (λ (x : ℕ). T (lawful A q x)) w.2 (ground_lawful A L q w.0 w.1));
    rights = λ j q l u. (ranked_open A L j q, open_ranked A L j q l u);
    unplayable = unplayable_exactly;
    planned = planned_exactly;
    lawful_followed = λ u. let w = unplayable_start u in followed_lawful A L w.0 w.1;
    defeats = λ u. let w = unplayable_start u in followed_beats A L w.0 w.1;
    told = told_is;
    read_off = read_off_is;
  }
