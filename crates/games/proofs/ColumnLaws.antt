-- Columns: a ranked state has a plan, and at an unranked one the ground column's reading keeps the state unranked.
use Rattle.std.proofs.Common.{◌≡◌, ℕ, zero, suc, ◌^◌, ◌<◌, Bool, true, false, not, ◌&&◌, ◌||◌, T, ◌⊎◌, List, [], ◌∷◌, Option, sym, refl, ap, subst, inl, inr, arith}
use Rattle.ranges.specs.Ranges.{all, any, least}
use Rattle.automata.specs.Steps.{onward}
use Rattle.automata.specs.Arena.{Arena}
use Rattle.automata.specs.Lawful.{LawfulArena}
use Rattle.games.specs.Plays.{Ground, after, LawfulGround, Plan, Play, ends, goes, StopsIn}
use Rattle.games.specs.Regions.{unbroken, lawful, forces, column}
use Rattle.ranges.proofs.RangeLaws.{T-dec, T-eq, T_false, and_l, and_r, and_mk, or_l, or_r, or_case, not_mk, not_at, all_at, all_mk, any_at, any_mk, not_all, least_passes}
use Rattle.games.proofs.StageLaws.{stage_up, not_joining}
use Rattle.games.specs.RuleLaws.{column_mono}
use Rattle.games.proofs.GroundLaws.{in_of, of_in, lawful_after, lawful_reads, ground_lawful, unbroken_inside}

-- what holds at the states of a play may be weakened
pub play_map : {A : Arena} {P P' : ℕ → Type 0} {p : Plan} {g : Ground} {q q' : ℕ} → ((s : ℕ) → P s → P' s) → Play A P p g q q' → Play A P' p g q q'
play_map f (ends h e) = ends (f _ h) e
play_map f (goes h e d r) = goes (f _ h) e d (play_map f r)

-- the plan that goes on, gives Y x after the first reading x, and is then P x
abbrev pub stops_by : (ℕ → Plan) → List ℕ → Bool
stops_by P [] = false
stops_by P (x ∷ xs) = (P x).stops xs

abbrev pub gives_by : (ℕ → ℕ) → (ℕ → Plan) → List ℕ → ℕ → ℕ
gives_by Y P [] x = Y x
gives_by Y P (x ∷ xs) x' = (P x).gives xs x'

abbrev pub on_by : (ℕ → ℕ) → (ℕ → Plan) → Plan
on_by Y P = record { stops = stops_by P; gives = gives_by Y P }

abbrev pub at_once : Plan
at_once = record { stops = λ xs. true; gives = λ xs x. 0 }

abbrev pub stepped : Option ℕ → ℕ
stepped o = onward o 0 (λ q. q)

module _ (A : Arena) (R M : ℕ → Bool) where
  -- the least command into stage r
  abbrev pub into : ℕ → ℕ → ℕ → ℕ
  into r q x = least (2 ^ A.b) (λ y. onward (A.step q x y) false (column A R M r))

  unfoldable pub plan_of : ℕ → ℕ → Plan
  plan_of zero q = at_once
  plan_of (suc r) q =
      elim (column A R M r q) [ true ↦ plan_of r q | false ↦ on_by (into r q) (λ x. plan_of r (stepped (A.step q x (into r q x)))) ]

  plan_stays : (r q : ℕ) → column A R M r q ≡ true → plan_of (suc r) q ≡ plan_of r q
  unfolding plan_of
  plan_stays r q e = rw (e, plan_of)

  plan_goes : (r q : ℕ) → column A R M r q ≡ false → plan_of (suc r) q ≡ on_by (into r q) (λ x. plan_of r (stepped (A.step q x (into r q x))))
  unfolding plan_of
  plan_goes r q e = rw (e, plan_of)

module _ (A : Arena) (L : LawfulArena A) (R M : ℕ → Bool) where
  -- a state that forces a stage has, on a lawful reading, a command into it
  pub forced : (S : ℕ → Bool) (q x : ℕ) → T (forces A S q) → T (lawful A q x) → x < 2 ^ A.a → (y : ℕ) × (y < 2 ^ A.b) × T (onward (A.step q x y) false S)
  forced S q x t h l = go (or_case (not (lawful A q x)) _ (all_at (2 ^ A.a) _ t x l))
    where
      go : T (not (lawful A q x)) ⊎ T (any (2 ^ A.b) (λ y. onward (A.step q x y) false S)) → (y : ℕ) × (y < 2 ^ A.b) × T (onward (A.step q x y) false S)
      go (inl u) = absurd (not_at (lawful A q x) u h)
      go (inr u) = any_at (2 ^ A.b) _ u

  -- the plan of a stage stops where M holds, within R
  pub plan_wins : (r q : ℕ) (g : Ground) → LawfulGround A q g → T (column A R M r q) → StopsIn A (λ s. T (R s)) (λ s. T (M s)) (plan_of A R M r q) g q
  unfolding plan_of
  plan_wins zero q g h t = (q, ends (and_l (R q) (M q) t) refl, and_r (R q) (M q) t)
  plan_wins (suc r) q g h t = go (T-dec (column A R M r q)) (plan_wins r)
    where
      go : T (column A R M r q) ⊎ (T (column A R M r q) → ⊥) →
          ((q : ℕ) (g : Ground) → LawfulGround A q g → T (column A R M r q) → StopsIn A (λ s. T (R s)) (λ s. T (M s)) (plan_of A R M r q) g q) →
          StopsIn A (λ s. T (R s)) (λ s. T (M s)) (plan_of A R M (suc r) q) g q
      go (inl s) ih = rw (plan_stays A R M r q (T-eq _ s)) (ih q g h s)
      go (inr s) ih = rw (plan_goes A R M r q (T_false _ s)) (joined (or_case (column A R M r q) _ t))
        where
          joined : T (column A R M r q) ⊎ T (R q && forces A (column A R M r) q) →
              StopsIn A (λ s. T (R s)) (λ s. T (M s)) (on_by (into A R M r q) (λ x. plan_of A R M r (stepped (A.step q x (into A R M r q x))))) g q
          joined (inl u) = absurd (s u)
          joined (inr u) =
              let f = forced (column A R M r) q (g []) (and_r (R q) _ u) (ground_lawful A L q g h) (lawful_reads A L q g h) in
              let m = least_passes (2 ^ A.b) (λ y. onward (A.step q (g []) y) false (column A R M r)) f.0 f.1 f.2 in
              let v = in_of _ (column A R M r) m.1 in
              let w = ih v.0 (after g (into A R M r q (g []))) (lawful_after A L q g h _ v.0 m.0 v.1) v.2 in
              (w.0, goes (and_l (R q) _ u) refl v.1 (subst (λ (z : ℕ). Play A (λ s. T (R s)) (plan_of A R M r z) (after g (into A R M r q (g []))) v.0 w.0) (sym (ap stepped v.1)) w.1), w.2)

  -- at an unranked state of R some lawful reading has every command lead to unranked states
  pub held_off : (q : ℕ) → T (unbroken A q) → T (R q) → (T (column A R M A.n q) → ⊥) →
      (x : ℕ) × (x < 2 ^ A.a) × T (lawful A q x && all (2 ^ A.b) (λ y. onward (A.step q x y) false (λ q'. not (column A R M A.n q'))))
  held_off q ub rq nr =
      let l = unbroken_inside A L q ub in
      let nj = not_joining A.n (λ q. R q && M q) (λ S q. R q && forces A S q) (column_mono A L.step_inside R (lawful A)) q l nr in
      let u = not_all (2 ^ A.a) _ (λ t. nj (and_mk (R q) _ rq t)) in
      (u.0, u.1, both u.0 u.2 (T-dec (lawful A q u.0)))
    where
      both : (x : ℕ) → (T (not (lawful A q x) || any (2 ^ A.b) (λ y. onward (A.step q x y) false (column A R M A.n))) → ⊥) →
          T (lawful A q x) ⊎ (T (lawful A q x) → ⊥) →
          T (lawful A q x && all (2 ^ A.b) (λ y. onward (A.step q x y) false (λ q'. not (column A R M A.n q'))))
      both x f (inr nl) = absurd (f (or_l (not (lawful A q x)) _ (not_mk (lawful A q x) nl)))
      both x f (inl lw) = and_mk (lawful A q x) _ lw (all_mk (2 ^ A.b) _ (λ y h.
          let v = in_of (A.step q x y) (unbroken A) (all_at (2 ^ A.b) _ (and_r (unbroken A q) _ lw) y h) in
          of_in _ _ v.0 v.1 (not_mk (column A R M A.n v.0) (λ s. f (or_r (not (lawful A q x)) _ (any_mk (2 ^ A.b) _ y h (of_in _ (column A R M A.n) v.0 v.1 s)))))))

  -- a state marked in R is ranked
  pub marked_ranked : (q : ℕ) → T (R q) → T (M q) → T (column A R M A.n q)
  marked_ranked q rq mq = stage_up A.n (λ q. R q && M q) (λ S q. R q && forces A S q) 0 A.n q (omega arith) (and_mk (R q) (M q) rq mq)
