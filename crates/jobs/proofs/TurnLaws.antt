-- Turns through the sections.
use Rattle.std.proofs.Common.{◌≡◌, ℕ, zero, suc, ◌+◌, cond, not, ◌||◌, List, [], ◌∷◌, Ok, Err, None, Some, Result, sym, refl, ap, ◌∙◌, subst, arith}
use Rattle.std.proofs.lemmas.Bool.{ne_eqb}
use Rattle.std.proofs.lemmas.Result.{err_from_is_err_and}
use Rattle.std.specs.declared.ops.Range.{Range}
use Rattle.std.specs.declared.option.Option.{Option}
use Rattle.std.specs.List.{FoldsTo}
use Rattle.std.specs.Option.{MatchOption}
use Rattle.std.specs.Result.{result_and, IsErr, IsErrAnd}
use Rattle.std.specs.Iterator.{YieldsThen}
use Rattle.std.specs.Fn.{Called}
use Rattle.std.proofs.iter.Yields.{nat_range_steps}
use denote.Param.Members.{Mut}
use Rattle.jobs.specs.FlatJob.{byte}
use Rattle.jobs.specs.Sections.{is_ground}
use Rattle.jobs.specs.Parts.{offset}
use Rattle.jobs.specs.JobFile.{in_turn, of_section, turn, ground_at}
use Rattle.jobs.specs.declared.fault.JobFault.{JobFault}
use Rattle.jobs.specs.declared.fault.SectionFault.TheVariants.{NotAGround}

abbrev Found : Type 0
Found = Result (Unit {0}) JobFault

module _ (fault : ℕ → Found) where
  -- the first fault from a on, among m
  abbrev first : ℕ → ℕ → Found
  first a zero = Ok tt
  first a (suc m) = result_and (fault a) (first (a + 1) m)

  and_nothing : (r : Found) → result_and r (Ok tt) ≡ r
  and_nothing (Ok t) = refl
  and_nothing (Err e) = refl

  and_and : (r s t : Found) → result_and r (result_and s t) ≡ result_and (result_and r s) t
  and_and (Ok x) s t = refl
  and_and (Err e) s t = refl

  first_more : (m a : ℕ) → first a (suc m) ≡ result_and (first a m) (fault (a + m))
  first_more zero a = and_nothing (fault a) ∙ ap fault (let p : a ≡ a + 0 = omega arith in p)
  first_more (suc m) a =
      ap {B = Found} (λ r. result_and (fault a) r) (first_more m (a + 1))
      ∙ and_and (fault a) (first (a + 1) m) (fault (a + 1 + m))
      ∙ ap (λ i. result_and (first a (suc m)) (fault i)) (let p : a + 1 + m ≡ a + suc m = omega arith in p)

  first_in_turn : (m : ℕ) → first 0 m ≡ in_turn m fault
  first_in_turn zero = refl
  first_in_turn (suc m) =
      first_more m 0
      ∙ ap (λ i. result_and (first 0 m) (fault i)) (let p : 0 + m ≡ m = omega arith in p)
      ∙ ap {B = Found} (λ r. result_and r (fault m)) (first_in_turn m)

  first_alone : (m : ℕ) → ((i : ℕ) → fault (suc i) ≡ Ok tt) → in_turn (suc m) fault ≡ fault 0
  first_alone zero none = refl
  first_alone (suc m) none = ap (λ r. result_and (in_turn (suc m) fault) r) (none m) ∙ and_nothing (in_turn (suc m) fault) ∙ first_alone m none

-- only the first section can be no ground
pub ground_turn : (bs : List ℕ) → turn ground_at bs ≡ ground_at bs 0
ground_turn bs =
    ap (λ n. in_turn n (ground_at bs)) (let p : byte bs 5 + 2 ≡ suc (byte bs 5 + 1) = omega arith in p)
    ∙ first_alone (ground_at bs) (byte bs 5 + 1) none
  where
    none : (i : ℕ) → ground_at bs (suc i) ≡ Ok tt
    none i = ap (λ t. of_section (suc i) (cond (not t || is_ground bs (offset (byte bs 3) (byte bs 4) bs (suc i))) (Ok tt) (Err NotAGround))) (ne_eqb (suc i) 0 (λ e. absurd (omega arith)))

-- a call that found nothing, and how the calls ended
abbrev Turn : {F : Type 0} → Mut F (ℕ × Unit {0}) Found → F → ℕ → F → Type 0
Turn g p x q = (v : Found) × Called g p (x, tt) v q × (v ≡ Ok tt)

abbrev End : {F X : Type 0} → Mut F (ℕ × Unit {0}) Found → (X → JobFault) → Found → F → Option ℕ → Type 0
End {F} {X} g err r t o = MatchOption o (r ≡ Ok tt) (λ x. (v : Found) × (h : F) × (e : X) × Called g t (x, tt) v h × (v ≡ Err (err e)) × (IsErr r × IsErrAnd r (λ d. d ≡ err e)))

module _ {F X : Type 0} {g : Mut F (ℕ × Unit {0}) Found} {f : F} (err : X → JobFault) (fault : ℕ → Found) (r : Found)
    (k : (x : ℕ) (v : Found) (q : F) → Called g f (x, tt) v q → (q ≡ f) × (v ≡ fault x)) where
  walk : (u : Range ℕ) (xs : List ℕ) (o : Option ℕ) (m a : ℕ) (s : Range ℕ) (t : F) → s.start ≡ a → s.end ≡ a + m
      → YieldsThen nat_range_steps s xs o u → FoldsTo (Turn g) f xs t → End g err r t o → r ≡ first fault a m
  walk u [] None zero a s t b d y w z = z
  walk u [] None (suc m) a s t b d y w z =
      let e : s.end ≡ y.0.end = ap (λ (x : Range ℕ). x.end) y.1 in
      let i : s.start ≡ y.0.start = ap (λ (x : Range ℕ). x.start) y.1 in
      absurd (omega (arith, y.2.1.0))
  walk u [] (Some x) zero a s t b d y w z =
      let e : s.end ≡ y.0.end = ap (λ (x : Range ℕ). x.end) y.1 in
      let i : s.start ≡ y.0.start = ap (λ (x : Range ℕ). x.start) y.1 in
      absurd (omega (arith, y.2.1.0))
  walk u [] (Some x) (suc m) a s t b d y w z =
      let i : s.start ≡ y.0.start = ap (λ (x : Range ℕ). x.start) y.1 in
      let at : x ≡ a = omega (arith, y.2.1.1) in
      let called : Called g f (x, tt) z.0 z.1 = subst (λ (q : F). Called g q (x, tt) z.0 z.1) (sym w) z.3 in
      let found : fault a ≡ Err (err z.2) = ap fault (sym at) ∙ sym (k x z.0 z.1 called).1 ∙ z.4 in
      let last = err_from_is_err_and r z.5.1 in
      last.1 ∙ ap Err last.2 ∙ sym (ap {B = Found} (λ v. result_and v (first fault (a + 1) m)) found)
  walk u (x ∷ xs) o zero a s t b d y w z = absurd (omega (arith, y.1.1.1.0))
  walk u (x ∷ xs) o (suc m) a s t b d y w z =
      let at : x ≡ a = omega (arith, y.1.1.1.1) in
      let step = k x w.1.0 w.0 w.1.1 in
      let found : fault a ≡ Ok tt = ap fault (sym at) ∙ sym step.1 ∙ w.1.2 in
      let rest : r ≡ first fault (a + 1) m =
      walk u xs o m (a + 1) y.1.0 t (omega (arith, y.1.1.1.2)) (omega (arith, y.1.1.0)) (y.0, y.1.2, y.2)
      (subst (λ (q : F). FoldsTo (Turn g) q xs t) step.0 w.2) z in
      rest ∙ sym (ap {B = Found} (λ v. result_and v (first fault (a + 1) m)) found)

  -- `try_for_each` over the numbers below n
  pub turn_below : {s u : Range ℕ} (n : ℕ) → s ≡ record { start = 0; end = n }
      → (xs : List ℕ) × (o : Option ℕ) × (t : F) × YieldsThen nat_range_steps s xs o u × FoldsTo (Turn g) f xs t × End g err r t o → r ≡ in_turn n fault
  turn_below {s = s} {u = u} n e d =
      walk u d.0 d.1 n 0 s d.2 (ap (λ (w : Range ℕ). w.start) e) (ap (λ (w : Range ℕ). w.end) e ∙ (let p : n ≡ 0 + n = omega arith in p)) d.3 d.4 d.5
      ∙ first_in_turn fault n
