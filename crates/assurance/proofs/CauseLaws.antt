-- Which causes apply, from the answer and for it.
use Rattle.std.proofs.Common.{◌≡◌, ℕ, Bool, true, false, cond, not, T, List, [], ◌∷◌, Some, None, Option, refl, ◌∙◌}
use Rattle.std.proofs.lemmas.Bool.{cond-false}
use Rattle.ranges.proofs.RangeLaws.{T_false}
use Rattle.automata.specs.Arena.{Arena}
use Rattle.drives.specs.declared.refusal.Refusal.{Refusal}
use Rattle.assurance.specs.Calls.{Call, Performed, NotAdmitted}
use Rattle.assurance.specs.Runs.{admits}
use Rattle.assurance.specs.Causes.{Cause, first_cause, causes, by_cause, answer_by_causes}

-- no cause of a list applies
abbrev pub AllPass : List Cause → Type 0
AllPass [] = Unit {0}
AllPass (c ∷ cs) = (T c.applies → ⊥) × AllPass cs

pub passes : (cs : List Cause) → AllPass cs → first_cause cs ≡ None
passes [] h = refl
passes (c ∷ cs) h = cond-false c.applies _ _ (T_false c.applies h.0) ∙ passes cs h.1

pub passed : (cs : List Cause) → first_cause cs ≡ None → AllPass cs
passed [] e = tt
passed (c ∷ cs) e = go c.applies (first_cause cs) refl e (passed cs)
  where
    go : (b : Bool) (o : Option Refusal) → c.applies ≡ b → cond b (Some c.why) o ≡ None → (o ≡ None → AllPass cs) → (T c.applies → ⊥) × AllPass cs
    go true o d e ih = absurd (cc)
    go false o d e ih = (λ t. rw d at t, ih e)

pub not_not : (b : Bool) → (T (not b) → ⊥) → T b
not_not true f = tt
not_not false f = f tt

-- a performed call is admitted, and no cause applies to it
pub performed_free : (A : Arena) (q c : ℕ) (w : Option ℕ) (o : Bool) (call : Call) → answer_by_causes A q c w o call ≡ Performed →
    T (admits w o call) × AllPass (causes A q c w call)
performed_free A q c w o call e = let u = go (admits w o call) (first_cause (causes A q c w call)) e in (u.0, passed _ u.1)
  where
    go : (b : Bool) (f : Option Refusal) → cond b (by_cause f) NotAdmitted ≡ Performed → T b × (f ≡ None)
    go true None e = (tt, refl)
    go true (Some n) e = absurd (cc)
    go false f e = absurd (cc)
