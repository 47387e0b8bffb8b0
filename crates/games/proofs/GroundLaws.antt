-- Broken states, lawful readings and lawful grounds.
use Rattle.std.proofs.Common.{◌≡◌, ℕ, zero, suc, ◌^◌, ◌<◌, Bool, true, false, T, ◌⊎◌, [], ◌∷◌, Some, None, Option, sym, refl, ap, ◌∙◌, inl, inr, arith, pow_pos}
use mathlib.Core.Path.{fun_ext}
use native.Mathlib.Decide.{dec_lt}
use Rattle.std.proofs.lemmas.Option.{none-some}
use Rattle.ranges.specs.Ranges.{least}
use Rattle.automata.specs.Steps.{onward}
use Rattle.automata.specs.Arena.{Arena}
use Rattle.automata.specs.Lawful.{LawfulArena}
use Rattle.games.specs.Plays.{Ground, after, led, LawfulGround}
use Rattle.games.specs.Search.{stage}
use Rattle.games.specs.Regions.{breaks, nowhere, broken, unbroken, lawful}
use Rattle.ranges.proofs.RangeLaws.{T_true, and_r, and_mk, or_case, not_mk, not_at, all_at, all_mk, any_at, any_mk, not_all, least_passes}
use Rattle.games.proofs.StageLaws.{not_joining}
use Rattle.games.specs.RuleLaws.{breaks_mono}
use Rattle.games.proofs.RegionLaws.{broken_outside}

-- what a test on a step tells
pub in_of : (o : Option ℕ) (S : ℕ → Bool) → T (onward o false S) → (q : ℕ) × (o ≡ Some q) × T (S q)
in_of None S t = absurd t
in_of (Some q) S t = (q, refl, t)

pub of_in : (o : Option ℕ) (S : ℕ → Bool) (q : ℕ) → o ≡ Some q → T (S q) → T (onward o false S)
of_in o S q e t = rw e t

pub not_none_or_in : (o : Option ℕ) (S : ℕ → Bool) → (T (onward o true S) → ⊥) → (q : ℕ) × (o ≡ Some q) × (T (S q) → ⊥)
not_none_or_in None S f = absurd (f tt)
not_none_or_in (Some q) S f = (q, refl, f)

pub none≢some : (o : Option ℕ) (q : ℕ) → o ≡ None → o ≡ Some q → ⊥
none≢some o q d e = none-some q (sym d ∙ e)

module _ (A : Arena) (L : LawfulArena A) where
  -- what is left of a lawful ground is lawful
  pub lawful_after : (q : ℕ) (g : Ground) → LawfulGround A q g → (y q' : ℕ) → y < 2 ^ A.b → A.step q (g []) y ≡ Some q' → LawfulGround A q' (after g y)
  lawful_after q g h y q' l e ys bs d = h (y ∷ ys) (l, bs) (rw e d)

  -- a lawful ground meets no None
  pub lawful_steps : (q : ℕ) (g : Ground) → LawfulGround A q g → (y : ℕ) → y < 2 ^ A.b → (q' : ℕ) × (A.step q (g []) y ≡ Some q')
  lawful_steps q g h y l = go (A.step q (g []) y) refl
    where
      go : (o : Option ℕ) → A.step q (g []) y ≡ o → (q' : ℕ) × (A.step q (g []) y ≡ Some q')
      go None e = absurd (h (y ∷ []) (l, tt) (rw e refl))
      go (Some q') e = (q', e)

  pub lawful_reads : (q : ℕ) (g : Ground) → LawfulGround A q g → g [] < 2 ^ A.a
  lawful_reads q g h = go (dec_lt (g []) (2 ^ A.a))
    where
      go : Dec (g [] < 2 ^ A.a) → g [] < 2 ^ A.a
      go (yes p) = p
      go (no p) = let u = lawful_steps q g h 0 (pow_pos A.b) in absurd (none≢some _ u.0 (L.reading_outside q (g []) 0 (omega arith)) u.1)

  -- no lawful ground from a state of a stage
  no_ground : (r q : ℕ) (g : Ground) → LawfulGround A q g → T (stage nowhere (breaks A) r q) → ⊥
  no_ground zero q g h t = t
  no_ground (suc r) q g h t = go (or_case (stage nowhere (breaks A) r q) (breaks A (stage nowhere (breaks A) r) q) t) (no_ground r)
    where
      go : T (stage nowhere (breaks A) r q) ⊎ T (breaks A (stage nowhere (breaks A) r) q) →
          ((q : ℕ) (g : Ground) → LawfulGround A q g → T (stage nowhere (breaks A) r q) → ⊥) → ⊥
      go (inl s) ih = ih q g h s
      go (inr s) ih =
          let u = any_at (2 ^ A.b) _ (all_at (2 ^ A.a) _ s (g []) (lawful_reads q g h)) in
          let v = lawful_steps q g h u.0 u.1 in
          ih v.0 (after g u.0) (lawful_after q g h u.0 v.0 u.1 v.1) (rw v.1 at u.2)

  pub ground_unbroken : (q : ℕ) (g : Ground) → LawfulGround A q g → T (unbroken A q)
  ground_unbroken q g h = not_mk (broken A q) (no_ground A.n q g h)

  -- the first reading of a lawful ground is lawful
  pub ground_lawful : (q : ℕ) (g : Ground) → LawfulGround A q g → T (lawful A q (g []))
  ground_lawful q g h =
      and_mk (unbroken A q) _ (ground_unbroken q g h)
      (all_mk (2 ^ A.b) _ (λ y l. let v = lawful_steps q g h y l in
      of_in _ (unbroken A) v.0 v.1 (ground_unbroken v.0 (after g y) (lawful_after q g h y v.0 l v.1))))

  pub unbroken_inside : (q : ℕ) → T (unbroken A q) → q < A.n
  unbroken_inside q t = go (dec_lt q A.n)
    where
      go : Dec (q < A.n) → q < A.n
      go (yes p) = p
      go (no p) = absurd (not_at (broken A q) t (T_true _ (broken_outside A L q (omega arith))))

  -- an unbroken state has a lawful reading
  pub some_lawful : (q : ℕ) → T (unbroken A q) → (x : ℕ) × (x < 2 ^ A.a) × T (lawful A q x)
  some_lawful q t =
      let l = unbroken_inside q t in
      let u = not_all (2 ^ A.a) _ (not_joining A.n nowhere (breaks A) (breaks_mono A L.step_inside) q l (not_at (broken A q) t)) in (
        u.0,
        u.1,
        and_mk (unbroken A q) _ t (all_mk (2 ^ A.b) _ (λ y h.
            let v = not_none_or_in (A.step q u.0 y) (broken A) (λ s. u.2 (any_mk (2 ^ A.b) _ y h s)) in
            of_in _ (unbroken A) v.0 v.1 (not_mk (broken A v.0) v.2))),
      )

  -- a ground is lawful if what is kept by it is kept by each command
  pub lawful_kept : (Kept : ℕ → Ground → Type 0) →
      ((q : ℕ) (g : Ground) → Kept q g → (y : ℕ) → y < 2 ^ A.b → (q' : ℕ) × (A.step q (g []) y ≡ Some q') × Kept q' (after g y)) →
      (q : ℕ) (g : Ground) → Kept q g → LawfulGround A q g
  lawful_kept Kept next q g h [] bs e = none-some q (sym e)
  lawful_kept Kept next q g h (y ∷ ys) bs e =
      let u = next q g h y bs.0 in
      lawful_kept Kept next u.0 (after g y) u.2 ys bs.1 (rw u.1 at e)

  -- the lowest lawful reading, at every state
  abbrev pub safe : ℕ → Ground
  safe q [] = least (2 ^ A.a) (lawful A q)
  safe q (y ∷ ys) = onward (A.step q (least (2 ^ A.a) (lawful A q)) y) 0 (λ q'. safe q' ys)

  pub safe_lawful : (q : ℕ) → T (unbroken A q) → LawfulGround A q (safe q)
  safe_lawful q t = lawful_kept (λ q g. T (unbroken A q) × (g ≡ safe q)) next q (safe q) (t, refl)
    where
      next : (q : ℕ) (g : Ground) → T (unbroken A q) × (g ≡ safe q) → (y : ℕ) → y < 2 ^ A.b →
          (q' : ℕ) × (A.step q (g []) y ≡ Some q') × (T (unbroken A q') × (after g y ≡ safe q'))
      next q g h y l =
          let u = some_lawful q h.0 in
          let m = least_passes (2 ^ A.a) (lawful A q) u.0 u.1 u.2 in
          let v = in_of _ (unbroken A) (all_at (2 ^ A.b) _ (and_r (unbroken A q) _ m.1) y l) in
          (v.0, ap (λ (g : Ground). A.step q (g []) y) h.1 ∙ v.1, (v.2, fun_ext (λ ys. ap (λ (g : Ground). g (y ∷ ys)) h.1 ∙ ap (λ (o : Option ℕ). onward o 0 (λ q'. safe q' ys)) v.1)))

  -- a lawful reading is the first of some lawful ground: read it, and then the lowest lawful ones
  abbrev pub first_then : ℕ → ℕ → Ground
  first_then q x [] = x
  first_then q x (y ∷ ys) = onward (A.step q x y) 0 (λ q'. safe q' ys)

  pub lawful_first : (q x : ℕ) → T (lawful A q x) → LawfulGround A q (first_then q x)
  lawful_first q x t [] bs e = none-some q (sym e)
  lawful_first q x t (y ∷ ys) bs e =
      let v = in_of (A.step q x y) (unbroken A) (all_at (2 ^ A.b) _ (and_r (unbroken A q) _ t) y bs.0) in
      let same : after (first_then q x) y ≡ safe v.0 = fun_ext (λ zs. ap (λ (o : Option ℕ). onward o 0 (λ q'. safe q' zs)) v.1) in
      safe_lawful v.0 v.2 ys bs.1 (sym (ap (λ (g : Ground). led A g v.0 ys) same) ∙ (rw v.1 at e))
