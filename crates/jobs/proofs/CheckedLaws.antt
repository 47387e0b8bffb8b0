-- What a job that is not refused is known to be.
use Rattle.std.proofs.Common.{◌≡◌, ℕ, zero, suc, ◌+◌, ◌<◌, Bool, true, false, cond, eqb, leb, ◌⊎◌, List, length, Ok, Err, Result, sym, refl, subst, inl, inr, arith}
use Rattle.std.specs.Result.{result_and, result_map_both}
use Rattle.ranges.proofs.RangeLaws.{below_suc}
use Rattle.std.proofs.lemmas.Bool.{and_parts, eqb-true}
use Rattle.jobs.specs.FlatJob.{byte, begins_as, leads, narrow, flat_job}
use Rattle.jobs.specs.Sections.{section_fits, is_ground, ground_fault, text_fault}
use Rattle.jobs.specs.Parts.{offset, sections_arena}
use Rattle.jobs.specs.JobFile.{in_turn, form_at, ground_at, none_at, text_at, turn, total, ended, few_states, sectioned_checked, job_checked}
use Rattle.jobs.specs.Loaded.{AllSound}
use Rattle.jobs.specs.declared.fault.JobFault.{JobFault}
use Rattle.jobs.specs.declared.fault.JobFault.TheVariants.{Section}

abbrev Good : {E : Type 0} → Result (Unit {0}) E → Type 0
Good {E} r = ◌≡◌ {A = Result (Unit {0}) E} r (Ok tt)

err_not : {A E : Type 0} {e : E} → Good {E = E} (Err e) → A
err_not h = absurd cc

and_ok : {E : Type 0} (r s : Result (Unit {0}) E) → Good (result_and r s) → Good r × Good s
and_ok (Ok t) s h = (refl, h)
and_ok (Err e) s h = err_not h

cond_ok : {E : Type 0} (t : Bool) (x : Result (Unit {0}) E) (e : E) → Good (cond t x (Err e)) → (t ≡ true) × Good x
cond_ok true x e h = (refl, h)
cond_ok false x e h = err_not h

mapped_ok : {E D : Type 0} (g : E → D) (r : Result (Unit {0}) E) → Good (result_map_both (λ u. u) g r) → Good r
mapped_ok g (Ok t) h = refl
mapped_ok g (Err e) h = err_not h

-- a turn without a fault finds none anywhere
pub in_turn_at : (f : ℕ → Result (Unit {0}) JobFault) (n i : ℕ) → Good (in_turn n f) → i < n → Good (f i)
in_turn_at f zero i h l = absurd (omega arith)
in_turn_at f (suc n) i h l =
    let two = and_ok (in_turn n f) (f n) h in
    go (below_suc i n l) two.1 (in_turn_at f n i two.0)
  where
    go : (i ≡ n) ⊎ (i < n) → Good (f n) → (i < n → Good (f i)) → Good (f i)
    go (inl e) here ih = subst (λ (m : ℕ). Good (f m)) (sym e) here
    go (inr less) here ih = ih less

-- all that a check that passes has found
pub record Passed (bs : List ℕ) : Type 0 where
  pub narrow_is : narrow bs ≡ true
  pub forms : Good (turn form_at bs)
  pub ground : Good (turn ground_at bs)
  pub texts : Good (turn text_at bs)
  pub states_few : leb (sections_arena bs).n 256 ≡ true

pub passed : (bs : List ℕ) → Good (sectioned_checked bs) → Passed bs
passed bs h =
    let lead = cond_ok (begins_as 74 bs) _ _ h in
    let wide = cond_ok (narrow bs) _ _ lead.1 in
    let rights = cond_ok (leb (byte bs 5) 4) _ _ wide.1 in
    let whole = cond_ok (eqb (total bs) (length bs)) _ _ rights.1 in
    let forms = and_ok (turn form_at bs) _ whole.1 in
    let end = and_ok (ended bs) _ forms.1 in
    let ground = and_ok (turn ground_at bs) _ end.1 in
    let nones = and_ok (turn none_at bs) _ ground.1 in
    let texts = and_ok (turn text_at bs) (few_states bs) nones.1 in
    record {
      narrow_is = wide.0;
      forms = forms.0;
      ground = ground.0;
      texts = texts.0;
      states_few = (cond_ok (leb (sections_arena bs).n 256) _ _ texts.1).0;
    }

-- so its sections can be made
pub all_sound : (bs : List ℕ) → Passed bs → AllSound bs
all_sound bs p = record {
  each = λ i l. record {
    fits = (cond_ok (section_fits (byte bs 3) (byte bs 4) bs (offset (byte bs 3) (byte bs 4) bs i)) _ _ (in_turn_at (form_at bs) (byte bs 5 + 2) i p.forms l)).0;
    text = mapped_ok (Section i) (text_fault (byte bs 3) (byte bs 4) bs (offset (byte bs 3) (byte bs 4) bs i)) (in_turn_at (text_at bs) (byte bs 5 + 2) i p.texts l);
  };
  ground_fits = (cond_ok (is_ground bs 8) _ _ (mapped_ok (Section 0) (ground_fault bs 0 8) (in_turn_at (ground_at bs) (byte bs 5 + 2) 0 p.ground (omega arith)))).0;
}

-- the form that a job begins as
begun : (form : ℕ) (bs : List ℕ) → begins_as form bs ≡ true → byte bs 1 ≡ form
begun form bs e = eqb-true (byte bs 1) form (and_parts _ _ (and_parts _ _ e).0).1

-- a job in sections is checked as one
pub sectioned : (bs : List ℕ) → Good (job_checked bs) → begins_as 74 bs ≡ true → Good (sectioned_checked bs)
sectioned bs ok lead = go (leads bs) refl ok
  where
    go : (t : Bool) → leads bs ≡ t → Good (cond t (result_map_both (λ h. tt) (λ e. e) (flat_job bs)) (sectioned_checked bs)) → Good (sectioned_checked bs)
    go false e h = h
    go true e h =
        let flat : byte bs 1 ≡ 70 = begun 70 bs e in
        let in_sections : byte bs 1 ≡ 74 = begun 74 bs lead in
        absurd (omega arith)
