-- The ground columns followed are a lawful ground that no plan overcomes; rights are open where ranked.
use Rattle.std.proofs.Common.{◌≡◌, ℕ, zero, suc, ◌^◌, ◌<◌, ◌≤◌, not, ◌&&◌, T, ltb, ◌⊎◌, [], Some, sym, refl, ap, ◌∙◌, subst, inl, inr, arith, ltb→lt, lt→ltb, rules}
use native.Mathlib.Decide.{dec_lt}
use Rattle.std.proofs.lemmas.Bool.{cond-true, cond-false}
use Rattle.ranges.specs.Ranges.{all, least}
use Rattle.automata.specs.Arena.{Arena}
use Rattle.automata.specs.Lawful.{LawfulArena}
use Rattle.games.specs.Plays.{Ground, after, LawfulGround, Plan, Play, ends, goes, Open, AllOpen, FulfilsAgainst, Fulfils}
use Rattle.games.specs.Regions.{unbroken, lawful, right_column, fence, ranked}
use Rattle.games.specs.GroundColumns.{kept, holds_off, ground_byte}
use Rattle.games.specs.Verdicts.{lacking}
use Rattle.games.specs.Following.{turned, follows, followed}
use Rattle.ranges.proofs.RangeLaws.{T-dec, T-eq, T_false, and_l, and_r, and_mk, not_mk, not_at, all_at, all_mk, least_passes, least_holds}
use Rattle.games.proofs.GroundLaws.{in_of, lawful_kept}
use Rattle.games.proofs.ColumnLaws.{play_map, plan_of, plan_wins, held_off, marked_ranked}

module _ (A : Arena) (L : LawfulArena A) where
  pub kept_unbroken : (i q : ℕ) → T (kept A i q) → T (unbroken A q)
  kept_unbroken zero q t = and_l (unbroken A q) _ (and_l (fence A q) _ t)
  kept_unbroken (suc j) q t = and_l (unbroken A q) _ t

  some_off : (i q : ℕ) → T (kept A i q) → (x : ℕ) × (x < 2 ^ A.a) × T (holds_off A i q x)
  some_off zero q t =
      held_off A L (fence A) A.marked q (kept_unbroken zero q t) (and_l (fence A q) _ t) (not_at _ (and_r (fence A q) _ t))
  some_off (suc j) q t =
      held_off A L (unbroken A) (λ q. A.marked q && A.right (suc j) q) q (kept_unbroken (suc j) q t) (and_l (unbroken A q) _ t) (not_at _ (and_r (unbroken A q) _ t))

  pub byte_holds_off : (i q : ℕ) → T (kept A i q) → (ground_byte A i q < 2 ^ A.a) × T (holds_off A i q (ground_byte A i q))
  byte_holds_off i q t =
      let u = some_off i q t in
      let m = least_passes (2 ^ A.a) (holds_off A i q) u.0 u.1 u.2 in
      rw is (m.0, m.1)
    where
      is : ground_byte A i q ≡ least (2 ^ A.a) (holds_off A i q)
      is = cond-true (kept A i q) (least (2 ^ A.a) (holds_off A i q)) 255 (T-eq (kept A i q) t)

  lost_at : ℕ → ℕ
  lost_at q = least A.k (λ j. not (right_column A (suc j) A.n q))

  -- the lowest right that lacks q is below k, or all have q
  pub lacking_cases : (q : ℕ) → ((j : ℕ) × (j < A.k) × (lacking A q ≡ suc j) × (T (ranked A (suc j) q) → ⊥)) ⊎ ((lacking A q ≡ zero) × T (all A.k (λ j. right_column A (suc j) A.n q)))
  unfolding lost_at
  lacking_cases q = go (dec_lt (lost_at q) A.k)
    where
      go : Dec (lost_at q < A.k) → ((j : ℕ) × (j < A.k) × (lacking A q ≡ suc j) × (T (ranked A (suc j) q) → ⊥)) ⊎ ((lacking A q ≡ zero) × T (all A.k (λ j. right_column A (suc j) A.n q)))
      go (yes p) = inl (lost_at q, p, cond-true (ltb (lost_at q) A.k) (suc (lost_at q)) zero (T-eq (ltb (lost_at q) A.k) (lt→ltb _ _ p)), not_at _ (least_holds A.k _ p))
      go (no p) =
          inr (
            cond-false (ltb (lost_at q) A.k) (suc (lost_at q)) zero (T_false (ltb (lost_at q) A.k) (λ t. p (ltb→lt _ _ t))),
            all_mk A.k _ (λ j h. pick j h (T-dec (right_column A (suc j) A.n q))),
          )
        where
          pick : (j : ℕ) → j < A.k → T (right_column A (suc j) A.n q) ⊎ (T (right_column A (suc j) A.n q) → ⊥) → T (right_column A (suc j) A.n q)
          pick j h (inl s) = s
          pick j h (inr s) = absurd (p (least_passes A.k (λ j. not (right_column A (suc j) A.n q)) j h (not_mk _ s)).0)

  pub lacking_kept : (q : ℕ) → T (unbroken A q) → (T (ranked A 0 q) → ⊥) → (lacking A q ≤ A.k) × T (kept A (lacking A q) q)
  lacking_kept q ub nr = go (lacking_cases q)
    where
      go : ((j : ℕ) × (j < A.k) × (lacking A q ≡ suc j) × (T (ranked A (suc j) q) → ⊥)) ⊎ ((lacking A q ≡ zero) × T (all A.k (λ j. right_column A (suc j) A.n q))) →
          (lacking A q ≤ A.k) × T (kept A (lacking A q) q)
      go (inl u) = rw u.2 (u.1, and_mk (unbroken A q) _ ub (not_mk _ u.3))
      go (inr u) = rw u.0 (omega arith, and_mk (fence A q) _ (and_mk (unbroken A q) _ ub u.1) (not_mk _ nr))

  -- a command against a column's byte leads to a state that the columns keep
  pub keeps : (i q : ℕ) → i ≤ A.k → T (kept A i q) → (y : ℕ) → y < 2 ^ A.b →
      (q' : ℕ) × (A.step q (ground_byte A i q) y ≡ Some q') × (turned A i q' ≤ A.k) × T (kept A (turned A i q') q')
  keeps i q l t y h =
      let s = (byte_holds_off i q t).1 in
      let v = in_of _ (λ q'. not (ranked A i q')) (all_at (2 ^ A.b) _ (and_r (lawful A q (ground_byte A i q)) _ s) y h) in
      let w = in_of _ (unbroken A) (all_at (2 ^ A.b) _ (and_r (unbroken A q) _ (and_l (lawful A q (ground_byte A i q)) _ s)) y h) in
      let same : w.0 ≡ v.0 = cc (v.1, w.1) in
      let r = go i v.0 l (rw same at w.2) (not_at _ v.2) in
      (v.0, v.1, r.0, r.1)
    where
      go : (i q' : ℕ) → i ≤ A.k → T (unbroken A q') → (T (ranked A i q') → ⊥) → (turned A i q' ≤ A.k) × T (kept A (turned A i q') q')
      go zero q' l ub nr = lacking_kept q' ub nr
      go (suc j) q' l ub nr = (l, and_mk (unbroken A q') _ ub (not_mk _ nr))

  after_next : (g : Ground) (i q y q' : ℕ) → g ≡ follows A i q → A.step q (ground_byte A i q) y ≡ Some q' → after g y ≡ follows A (turned A i q') q'
  after_next g i q y q' d e = search rules

  pub follows_lawful : (i q : ℕ) → i ≤ A.k → T (kept A i q) → LawfulGround A q (follows A i q)
  follows_lawful i q l t = lawful_kept A L (λ q g. (i : ℕ) × (i ≤ A.k) × T (kept A i q) × (g ≡ follows A i q)) next q (follows A i q) (i, l, t, refl)
    where
      next : (q : ℕ) (g : Ground) → (i : ℕ) × (i ≤ A.k) × T (kept A i q) × (g ≡ follows A i q) → (y : ℕ) → y < 2 ^ A.b →
          (q' : ℕ) × (A.step q (g []) y ≡ Some q') × ((i : ℕ) × (i ≤ A.k) × T (kept A i q') × (after g y ≡ follows A i q'))
      next q g h y b =
          let u = keeps h.0 q h.1 h.2 y b in
          (u.0, ap (λ (g : Ground). A.step q (g []) y) h.3 ∙ u.1, (turned A h.0 u.0, u.2, u.3, after_next g h.0 q y u.0 h.3 u.1))

  command_inside : (q x y q' : ℕ) → A.step q x y ≡ Some q' → y < 2 ^ A.b
  command_inside q x y q' e = search rules

  -- no play against a right's column stops where the duty and the right are marked
  beaten_right : {P : ℕ → Type 0} {p : Plan} {g : Ground} {q q' : ℕ} → Play A P p g q q' → (j : ℕ) → suc j ≤ A.k → g ≡ follows A (suc j) q → T (kept A (suc j) q) →
      T (A.marked q') → T (A.right (suc j) q') → ⊥
  beaten_right (ends {q = q} h e) j l d t m r =
      not_at _ (and_r (unbroken A q) _ t) (marked_ranked A L (unbroken A) (λ q. A.marked q && A.right (suc j) q) q (and_l (unbroken A q) _ t) (and_mk (A.marked q) _ m r))
  beaten_right (goes {p = p} {g = g} {q = q} {q' = q1} h e f rest) j l d t m r =
      let f' : A.step q (ground_byte A (suc j) q) (p.gives [] (g [])) ≡ Some q1 = sym (ap (λ (z : Ground). A.step q (z []) (p.gives [] (g []))) d) ∙ f in
      let u = keeps (suc j) q l t (p.gives [] (g [])) (command_inside q (g []) _ q1 f) in
      let same : u.0 ≡ q1 = cc (u.1, f') in
      beaten_right rest j l (after_next g (suc j) q _ q1 d f') (subst (λ (z : ℕ). T (kept A (suc j) z)) same u.3) m r

  pub open_ranked : (j q : ℕ) → suc j ≤ A.k → T (unbroken A q) → Open A (suc j) q → T (ranked A (suc j) q)
  open_ranked j q l ub o = go (T-dec (ranked A (suc j) q))
    where
      go : T (ranked A (suc j) q) ⊎ (T (ranked A (suc j) q) → ⊥) → T (ranked A (suc j) q)
      go (inl s) = s
      go (inr s) =
          let t : T (kept A (suc j) q) = and_mk (unbroken A q) _ ub (not_mk _ s) in
          let w = o.1 (follows A (suc j) q) (follows_lawful (suc j) q l t) in
          absurd (beaten_right w.1 j l refl t w.2.0 w.2.1)

  pub ranked_open : (j q : ℕ) → T (ranked A (suc j) q) → Open A (suc j) q
  ranked_open j q t = (
    plan_of A (unbroken A) (λ q. A.marked q && A.right (suc j) q) A.n q,
    λ g h. let w = plan_wins A L (unbroken A) (λ q. A.marked q && A.right (suc j) q) A.n q g h t in
        (w.0, play_map (λ s u. tt) w.1, (and_l (A.marked w.0) _ w.2, and_r (A.marked w.0) _ w.2)),
  )

  pub fence_open : (q : ℕ) → T (fence A q) → AllOpen A q
  fence_open q t zero l h = absurd (omega arith)
  fence_open q t (suc j) l h = ranked_open j q (all_at A.k _ (and_r (unbroken A q) _ t) j h)

  -- no plan fulfils the job against the columns
  beaten : {p : Plan} {g : Ground} {q q' : ℕ} → Play A (AllOpen A) p g q q' → (i : ℕ) → i ≤ A.k → g ≡ follows A i q → T (kept A i q) → T (A.marked q') → ⊥
  beaten (ends {q = q} h e) zero l d t m = not_at _ (and_r (fence A q) _ t) (marked_ranked A L (fence A) A.marked q (and_l (fence A q) _ t) m)
  beaten (ends {q = q} h e) (suc j) l d t m = not_at _ (and_r (unbroken A q) _ t) (open_ranked j q l (and_l (unbroken A q) _ t) (h (suc j) (omega arith) l))
  beaten (goes {q = q} h e f rest) (suc j) l d t m = not_at _ (and_r (unbroken A q) _ t) (open_ranked j q l (and_l (unbroken A q) _ t) (h (suc j) (omega arith) l))
  beaten (goes {p = p} {g = g} {q = q} {q' = q1} h e f rest) zero l d t m =
      let f' : A.step q (ground_byte A zero q) (p.gives [] (g [])) ≡ Some q1 = sym (ap (λ (z : Ground). A.step q (z []) (p.gives [] (g []))) d) ∙ f in
      let u = keeps zero q l t (p.gives [] (g [])) (command_inside q (g []) _ q1 f) in
      let same : u.0 ≡ q1 = cc (u.1, f') in
      beaten rest (turned A zero q1) (rw same at u.2) (after_next g zero q _ q1 d f') (rw same at u.3) m

  pub start_kept : T (unbroken A A.start) → (T (ranked A 0 A.start) → ⊥) → (lacking A A.start ≤ A.k) × T (kept A (lacking A A.start) A.start)
  start_kept ub nr = lacking_kept A.start ub nr

  pub followed_lawful : T (unbroken A A.start) → (T (ranked A 0 A.start) → ⊥) → LawfulGround A A.start (followed A)
  followed_lawful ub nr = let u = start_kept ub nr in follows_lawful (lacking A A.start) A.start u.0 u.1

  pub followed_beats : T (unbroken A A.start) → (T (ranked A 0 A.start) → ⊥) → (p : Plan) → FulfilsAgainst A p (followed A) → ⊥
  followed_beats ub nr p w = let u = start_kept ub nr in beaten w.1 (lacking A A.start) u.0 refl u.1 w.2

  pub ranked_fulfils : T (ranked A 0 A.start) → (p : Plan) × Fulfils A p
  ranked_fulfils t = (
    plan_of A (fence A) A.marked A.n A.start,
    λ g h. let w = plan_wins A L (fence A) A.marked A.n A.start g h t in (w.0, play_map fence_open w.1, w.2),
  )
