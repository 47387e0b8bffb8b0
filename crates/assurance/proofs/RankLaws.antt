-- Ranks and command sets: what a drive needs of them.
use Rattle.std.proofs.Common.{◌≡◌, ℕ, zero, suc, ◌^◌, ◌<◌, ◌≤◌, Bool, false, ◌&&◌, T, ltb, Some, sym, refl, ◌∙◌, subst, arith, ltb→lt, lt→ltb, pow_pos}
use native.Mathlib.Decide.{dec_lt}
use Rattle.std.proofs.lemmas.Bool.{ne_eqb, not-false}
use Rattle.ranges.proofs.RangeLaws.{T_true, and_l, and_r, and_mk, all_at}
use Rattle.automata.specs.Steps.{onward}
use Rattle.automata.specs.Arena.{Arena}
use Rattle.automata.specs.Lawful.{LawfulArena}
use Rattle.games.specs.Search.{rank_of}
use Rattle.games.specs.Regions.{unbroken, lawful, forces, column, fence, ranked, rank, permits}
use Rattle.games.proofs.StageLaws.{rank_at_most, rank_small, rank_stage, rank_joins}
use Rattle.games.proofs.RegionLaws.{rank_lacks_in, stage_in}
use Rattle.games.proofs.GroundLaws.{in_of, of_in, none≢some}
use Rattle.games.proofs.ColumnLaws.{forced}
use Rattle.assurance.specs.Promised.{Carried}

module _ (A : Arena) (L : LawfulArena A) where
  pub lawful_inside : (q x : ℕ) → T (lawful A q x) → x < 2 ^ A.a
  lawful_inside q x t = go (dec_lt x (2 ^ A.a))
    where
      go : Dec (x < 2 ^ A.a) → x < 2 ^ A.a
      go (yes p) = p
      go (no p) =
          let v = in_of (A.step q x 0) (unbroken A) (all_at (2 ^ A.b) _ (and_r (unbroken A q) _ t) 0 (pow_pos A.b)) in
          absurd (none≢some _ v.0 (L.reading_outside q x 0 (omega arith)) v.1)

-- a column of states of R, with stage 0 marked by M
module _ (A : Arena) (L : LawfulArena A) (R M : ℕ → Bool) where
  abbrev first : ℕ → Bool
  first q = R q && M q

  abbrev joins : (ℕ → Bool) → ℕ → Bool
  joins S q = R q && forces A S q

  abbrev level : ℕ → ℕ
  level = rank_of A.n (column A R M)

  level_zero : (q : ℕ) → T (column A R M A.n q) → level q ≡ 0 → T (M q)
  level_zero q t e = and_r (R q) (M q) (subst (λ (z : ℕ). T (column A R M z q)) e (rank_stage A.n first joins q t))

  level_forces : (q x : ℕ) → T (column A R M A.n q) → 0 < level q → T (lawful A q x) →
      (y : ℕ) × (y < 2 ^ A.b) × T (onward (A.step q x y) false (λ t. ltb (level t) (level q)))
  level_forces q x t h l = go (level q) refl h
    where
      go : (m : ℕ) → level q ≡ m → 0 < m → (y : ℕ) × (y < 2 ^ A.b) × T (onward (A.step q x y) false (λ t. ltb (level t) (level q)))
      go zero e z = absurd (omega arith)
      go (suc r) e z =
          let j = rank_joins A.n first joins q r t e in
          let f = forced A L R M (column A R M r) q x (and_r (R q) _ j) l (lawful_inside A L q x l) in
          let v = in_of (A.step q x f.0) (column A R M r) f.2 in
          let s = rank_small A.n first joins q t in
          let m = rank_at_most A.n first joins r v.0 (omega arith) v.2 in
          (f.0, f.1, of_in _ (λ t. ltb (level t) (level q)) v.0 v.1 (lt→ltb _ _ (omega arith)))

module _ (A : Arena) (L : LawfulArena A) where
  rank_few : (i q : ℕ) → T (ranked A i q) → rank A i q ≤ A.n
  rank_few zero q t = rank_small A.n _ (joins A L (fence A) A.marked) q t
  rank_few (suc j) q t = rank_small A.n _ (joins A L (unbroken A) (λ q. A.marked q && A.right (suc j) q)) q t

  pub rank_below_none : (i q : ℕ) → T (ranked A i q) → rank A i q < 65535
  rank_below_none i q t = let s = L.few_states in omega (arith, rank_few i q t)

  pub has_rank : (i q : ℕ) → (rank A i q ≡ 65535 → ⊥) → T (ranked A i q)
  has_rank i q f = T_true _ (not-false _ (sym (rank_lacks_in A L i q) ∙ ne_eqb _ 65535 f))

  -- a rank below that of a ranked state is one
  rank_lower : (i q t : ℕ) → T (ranked A i q) → rank A i t < rank A i q → T (ranked A i t)
  rank_lower i q t r l = has_rank i t (λ e. omega (arith, rank_below_none i q r))

  pub rank_carried : (i q : ℕ) → T (ranked A i q) → rank A i q ≡ 0 → Carried A q i
  rank_carried zero q t e = record { duty = level_zero A L (fence A) A.marked q t e; right = λ l. absurd (omega arith) }
  rank_carried (suc j) q t e =
      let m = level_zero A L (unbroken A) (λ q. A.marked q && A.right (suc j) q) q t e in
      record { duty = and_l (A.marked q) _ m; right = λ l. and_r (A.marked q) _ m }

  pub rank_permits : (i q x : ℕ) → T (ranked A i q) → 0 < rank A i q → T (lawful A q x) → (y : ℕ) × (y < 2 ^ A.b) × T (permits A i q x y)
  rank_permits i q x t h l = let u = go i t h in (u.0, u.1, and_mk (ranked A i q && lawful A q x) _ (and_mk (ranked A i q) (lawful A q x) t l) u.2)
    where
      go : (i : ℕ) → T (ranked A i q) → 0 < rank A i q → (y : ℕ) × (y < 2 ^ A.b) × T (onward (A.step q x y) false (λ t. ltb (rank A i t) (rank A i q)))
      go zero t h = level_forces A L (fence A) A.marked q x t h l
      go (suc j) t h = level_forces A L (unbroken A) (λ q. A.marked q && A.right (suc j) q) q x t h l

  -- a permitted command steps to a state of lower rank
  pub permits_step : (i q x y : ℕ) → T (permits A i q x y) → (t : ℕ) × (A.step q x y ≡ Some t) × (rank A i t < rank A i q) × T (ranked A i t)
  permits_step i q x y p =
      let v = in_of (A.step q x y) (λ t. ltb (rank A i t) (rank A i q)) (and_r (ranked A i q && lawful A q x) _ p) in
      let l = ltb→lt _ _ v.2 in
      (v.0, v.1, l, rank_lower i q v.0 (and_l (ranked A i q) _ (and_l (ranked A i q && lawful A q x) _ p)) l)

  pub permits_inside : (i q x y : ℕ) → T (permits A i q x y) → y < 2 ^ A.b
  permits_inside i q x y p = go (dec_lt y (2 ^ A.b))
    where
      go : Dec (y < 2 ^ A.b) → y < 2 ^ A.b
      go (yes l) = l
      go (no l) = let v = permits_step i q x y p in absurd (none≢some _ v.0 (L.command_outside q x y (omega arith)) v.1)

  -- what is ranked for the duty is ranked for each right
  pub duty_rights : (q j : ℕ) → T (ranked A 0 q) → j < A.k → T (ranked A (suc j) q)
  duty_rights q j t l = all_at A.k _ (and_r (unbroken A q) _ (stage_in (fence A) A.marked (forces A) A.n q t)) j l
