-- Every run of a planned job keeps what is promised, and the causes determine it.
use Rattle.std.proofs.Common.{◌≡◌, ℕ, ◌<◌, Bool, true, false, cond, T, List, [], ◌∷◌, ◌++◌, map, Some, None, Option, sym, refl, ap, ◌∙◌, subst, append-nil}
use Rattle.automata.specs.Steps.{onward}
use Rattle.automata.specs.Arena.{Arena}
use Rattle.automata.specs.Lawful.{LawfulArena}
use Rattle.automata.specs.Walks.{led}
use Rattle.games.specs.Regions.{broken, ranked, rank}
use Rattle.games.specs.Verdicts.{verdict, lacking}
use Rattle.games.specs.declared.verdict.Verdict.TheVariants.{Groundless, Planned, Unplayable}
use Rattle.assurance.specs.Calls.{Call, Command, Answer, Performed, Answered}
use Rattle.assurance.specs.Runs.{performed, rounds, waits, claimed, stopped}
use Rattle.assurance.specs.Causes.{answer_by_causes}
use Rattle.assurance.specs.Promised.{Promised}
use Rattle.assurance.specs.Driven.{AnswersByCauses, commanded, Driven}
use Rattle.assurance.specs.Stands.{Stand, first, answer_at, after, runs, stands, ReadOff}
use Rattle.assurance.specs.Statement.{DrivesHold}
use Rattle.assurance.proofs.CauseLaws.{not_not, performed_free}
use Rattle.assurance.proofs.RankLaws.{permits_step}
use Rattle.assurance.proofs.KeptLaws.{Good, kept_promised, good_first}
use Rattle.assurance.proofs.FrontLaws.{reached_from, read_from, shifts, front}

-- a planned verdict says that the start is ranked in column 0, and tells its rank
pub planned_start : (A : Arena) (m : ℕ) → verdict A ≡ Planned m → T (ranked A 0 A.start) × (rank A 0 A.start ≡ m)
planned_start A m e = go (broken A A.start) (ranked A 0 A.start) e
  where
    go : (b c : Bool) → cond b Groundless (cond c (Planned (rank A 0 A.start)) (Unplayable (lacking A A.start))) ≡ Planned m →
        T c × (rank A 0 A.start ≡ m)
    go true c e = absurd (cc)
    go false true e = (tt, cc)
    go false false e = absurd (cc)

module _ (A : Arena) (L : LawfulArena A) where
  -- the answer to the first call of a run
  first_answer : (s : Stand) (left : List Call) (t : Answered) (behind : List Answered) → (t ∷ behind) ≡ runs A s left → t.answer ≡ answer_at A s t.call
  first_answer s [] t behind e = absurd (cc)
  first_answer s (call ∷ left) t behind e =
      let same : t ≡ record { call = call; answer = answer_at A s call } = cc in
      ap (λ (t : Answered). t.answer) same ∙ sym (ap (λ (t : Answered). answer_at A s t.call) same)

  -- a performed command steps to a state of lower rank
  command_lowers : (q c : ℕ) (w : Option ℕ) (o : Bool) (y : ℕ) → answer_by_causes A q c w o (Command y) ≡ Performed →
      (t : ℕ) × (led A.step q (rounds w (Command y ∷ [])) ≡ Some t) × (rank A c t < rank A c q)
  command_lowers q c None true y e = absurd (performed_free A q c None true (Command y) e).0
  command_lowers q c None false y e = absurd (performed_free A q c None false (Command y) e).0
  command_lowers q c (Some x) o y e =
      let v = permits_step A L c q x y (not_not _ (performed_free A q c (Some x) o (Command y) e).1.1.0) in
      (v.0, ap (λ (o : Option ℕ). onward o None (λ t. Some t)) v.1, v.2)

  module _ (s : Stand) (h : Good A L s) (calls : List Call) where
    run_answers : (before behind : List Answered) (t : Answered) → runs A s calls ≡ before ++ (t ∷ behind) →
        (q : ℕ) × (reached_from A s before ≡ Some q) × (t.answer ≡ answer_at A (read_from s before q) t.call)
    run_answers before behind t e =
        let f = front A L calls s h before (t ∷ behind) e in
        (f.state, f.reaches, first_answer (read_from s before f.state) f.left t behind f.goes_on)

    run_promised : (before behind : List Answered) → runs A s calls ≡ before ++ behind →
        (q : ℕ) × (reached_from A s before ≡ Some q)
        × Promised A q (claimed s.column (performed before)) (waits s.waiting (performed before)) (stopped s.over (performed before))
    run_promised before behind e =
        let f = front A L calls s h before behind e in
        let d = read_from s before f.state in
        (f.state, f.reaches, kept_promised A L f.state d.column d.waiting d.over f.good.1)

    run_lowers : (before behind : List Answered) (y : ℕ) → runs A s calls ≡ before ++ (commanded y ∷ behind) →
        (q q' : ℕ) × (reached_from A s before ≡ Some q) × (reached_from A s (before ++ (commanded y ∷ [])) ≡ Some q')
        × (rank A (claimed s.column (performed before)) q' < rank A (claimed s.column (performed before)) q)
    run_lowers before behind y e =
        let f = front A L calls s h before (commanded y ∷ behind) e in
        let d = read_from s before f.state in
        let v = command_lowers f.state d.column d.waiting d.over y (sym (first_answer d f.left (commanded y) behind f.goes_on)) in
        (f.state, v.0, f.reaches, f.longer (commanded y ∷ []) ∙ v.1, v.2)

    run_read_off : (q : ℕ) × (reached_from A s (runs A s calls) ≡ Some q) × (stands A s calls ≡ read_from s (runs A s calls) q)
    run_read_off =
        let f = front A L calls s h (runs A s calls) [] (sym (append-nil (runs A s calls))) in
        (f.state, f.reaches, f.ends ∙ none_left (read_from s (runs A s calls) f.state) f.left f.goes_on)
      where
        none_left : (d : Stand) (left : List Call) → [] ≡ runs A d left → stands A d left ≡ d
        none_left d [] e = refl
        none_left d (call ∷ left) e = absurd (cc)

  -- answers by the causes from a drive on
  abbrev Told : Stand → List Answered → Type 0
  Told s ts =
      (before behind : List Answered) (t : Answered) → ts ≡ before ++ (t ∷ behind) →
      (q : ℕ) × (reached_from A s before ≡ Some q) × (t.answer ≡ answer_at A (read_from s before q) t.call)

  told_first : (s : Stand) (t : Answered) (ts : List Answered) → Told s (t ∷ ts) → t.answer ≡ answer_at A s t.call
  told_first s t ts h =
      let u = h [] ts t refl in
      let d = u.1 in
      let same : u.0 ≡ s.state = cc in
      u.2 ∙ ap (λ (q : ℕ). answer_at A (read_from s [] q) t.call) same

  told_next : (s : Stand) (t : Answered) (ts : List Answered) → Told s (t ∷ ts) → Told (after A s t.call t.answer) ts
  told_next s t ts h before behind u e =
      let v = h (t ∷ before) behind u (ap (λ (l : List Answered). t ∷ l) e) in
      let m = shifts A L s t.call t.answer (told_first s t ts h) before in
      (v.0, sym m.reaches ∙ v.1, v.2 ∙ ap (λ (d : Stand). answer_at A d u.call) (m.reads v.0))

  -- they are the answers of the run of the same calls
  told_runs : (ts : List Answered) (s : Stand) → Told s ts → ts ≡ runs A s (map (λ t. t.call) ts)
  told_runs [] s h = refl
  told_runs (t ∷ ts) s h =
      let calls : List Call = map (λ t. t.call) ts in
      ap (λ (l : List Answered). t ∷ l) (told_runs ts (after A s t.call t.answer) (told_next s t ts h))
      ∙ ap (λ (a : Answer). record { call = t.call; answer = a } ∷ runs A (after A s t.call a) calls) (told_first s t ts h)

module _ (A : Arena) (L : LawfulArena A) (h : Good A L (first A)) where
  begun_driven : (calls : List Call) → Driven A (runs A (first A) calls)
  begun_driven calls = record {
    answers = run_answers A L (first A) h calls;
    promised = run_promised A L (first A) h calls;
    lowers = run_lowers A L (first A) h calls;
  }

  begun_read_off : (calls : List Call) → ReadOff A (runs A (first A) calls) (stands A (first A) calls)
  begun_read_off calls =
      let u = run_read_off A L (first A) h calls in
      let d = u.2 in
      record {
        state = u.1 ∙ ap {B = Option ℕ} Some (sym (ap (λ (s : Stand). s.state) d));
        column = ap (λ (s : Stand). s.column) d;
        waiting = ap (λ (s : Stand). s.waiting) d;
        over = ap (λ (s : Stand). s.over) d;
      }

  begun_kept : (ts : List Answered) → AnswersByCauses A ts → Driven A ts
  begun_kept ts t = subst (λ (l : List Answered). Driven A l) (sym (told_runs A L ts (first A) t)) (begun_driven (map (λ t. t.call) ts))

pub drives : DrivesHold
drives A L m e =
    let p = planned_start A m e in
    let h = good_first A L p.0 in
    record {
      shown = p.1;
      kept = begun_kept A L h;
      driven = begun_driven A L h;
      read_off = begun_read_off A L h;
      told = λ ts. told_runs A L ts (first A);
    }
