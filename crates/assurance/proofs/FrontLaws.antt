-- The drive after the front of a run, and what is read off that front.
use Rattle.std.proofs.Common.{◌≡◌, ℕ, List, [], ◌∷◌, ◌++◌, Some, None, Option, sym, refl, ap, ◌∙◌, subst}
use Rattle.automata.specs.Steps.{onward}
use Rattle.automata.specs.Arena.{Arena}
use Rattle.automata.specs.Lawful.{LawfulArena}
use Rattle.automata.specs.Walks.{led}
use Rattle.automata.specs.declared.word.Round.{Round}
use Rattle.assurance.specs.Calls.{Call, Read, Command, Claim, Stop, Answer, Performed, Refused, NotAdmitted, Answered}
use Rattle.assurance.specs.Runs.{performed, rounds, waits, claimed, stopped}
use Rattle.assurance.specs.Causes.{answer_by_causes}
use Rattle.assurance.specs.Stands.{Stand, answer_at, after, runs, stands}
use Rattle.assurance.proofs.CauseLaws.{not_not, performed_free}
use Rattle.assurance.proofs.RankLaws.{permits_step}
use Rattle.assurance.proofs.KeptLaws.{Good, good_after}

-- where a run's rounds step the arena from a drive
abbrev pub reached_from : Arena → Stand → List Answered → Option ℕ
reached_from A s ts = led A.step s.state (rounds s.waiting (performed ts))

-- the drive as it is read off a run from s, at the state q
abbrev pub read_from : Stand → List Answered → ℕ → Stand
read_from s ts q = record {
  state = q;
  column = claimed s.column (performed ts);
  waiting = waits s.waiting (performed ts);
  over = stopped s.over (performed ts);
}

module _ (A : Arena) (L : LawfulArena A) where
  -- the first call of a run may be made at once: what is read off is the same
  pub record Shifts (s s' : Stand) (t : Answered) (ts : List Answered) : Type 0 where
    pub reaches : reached_from A s (t ∷ ts) ≡ reached_from A s' ts
    pub reads : (q : ℕ) → read_from s (t ∷ ts) q ≡ read_from s' ts q

  pub shifts : (s : Stand) (call : Call) (a : Answer) → a ≡ answer_at A s call → (ts : List Answered) →
      Shifts s (after A s call a) (record { call = call; answer = a }) ts
  shifts s (Read x) Performed e ts = record { reaches = refl; reads = λ q. refl }
  shifts s (Command y) Performed e ts = record { reaches = go s.waiting (sym e); reads = λ q. refl }
    where
      go : (w : Option ℕ) → answer_by_causes A s.state s.column w s.over (Command y) ≡ Performed →
          led A.step s.state (rounds w (Command y ∷ performed ts)) ≡
          led A.step (onward w s.state (λ x. onward (A.step s.state x y) s.state (λ t. t))) (rounds None (performed ts))
      go None d = refl
      go (Some x) d =
          let p = (performed_free A s.state s.column (Some x) s.over (Command y) d).1 in
          let v = permits_step A L s.column s.state x y (not_not _ p.1.0) in
          let rest : List Round = rounds None (performed ts) in
          ap (λ (o : Option ℕ). onward o None (λ t. led A.step t rest)) v.1
          ∙ sym (ap (λ (o : Option ℕ). led A.step (onward o s.state (λ t. t)) rest) v.1)
  shifts s (Claim i) Performed e ts = record { reaches = refl; reads = λ q. refl }
  shifts s Stop Performed e ts = record { reaches = refl; reads = λ q. refl }
  shifts s call (Refused n) e ts = record { reaches = refl; reads = λ q. refl }
  shifts s call NotAdmitted e ts = record { reaches = refl; reads = λ q. refl }

  -- after the front `before` of a run, which goes on with `behind`: the state, and the calls still to be made
  pub record Front (s : Stand) (calls : List Call) (before behind : List Answered) : Type 0 where
    pub state : ℕ
    pub reaches : reached_from A s before ≡ Some state
    pub good : Good A L (read_from s before state)
    pub left : List Call
    pub goes_on : behind ≡ runs A (read_from s before state) left
    pub ends : stands A s calls ≡ stands A (read_from s before state) left
    pub longer : (ts : List Answered) → reached_from A s (before ++ ts) ≡ reached_from A (read_from s before state) ts

  -- one call
  abbrev made : Stand → Call → Answered
  made s call = record { call = call; answer = answer_at A s call }

  abbrev next : Stand → Call → Stand
  next s call = after A s call (answer_at A s call)

  one_more : (s : Stand) (call : Call) (calls : List Call) (before behind : List Answered) →
      Front (next s call) calls before behind → Front s (call ∷ calls) (made s call ∷ before) behind
  one_more s call calls before behind f =
      let shift : (ts : List Answered) → Shifts s (next s call) (made s call) ts = shifts s call (answer_at A s call) refl in
      let same = sym ((shift before).reads f.state) in
      record {
        state = f.state;
        reaches = (shift before).reaches ∙ f.reaches;
        good = subst (λ (d : Stand). Good A L d) same f.good;
        left = f.left;
        goes_on = f.goes_on ∙ ap (λ (d : Stand). runs A d f.left) same;
        ends = f.ends ∙ ap (λ (d : Stand). stands A d f.left) same;
        longer = λ ts. (shift (before ++ ts)).reaches ∙ f.longer ts ∙ ap (λ (d : Stand). reached_from A d ts) same;
      }

  pub front : (calls : List Call) (s : Stand) → Good A L s → (before behind : List Answered) → runs A s calls ≡ before ++ behind → Front s calls before behind
  front calls s h [] behind e = record {
    state = s.state;
    reaches = refl;
    good = h;
    left = calls;
    goes_on = sym e;
    ends = refl;
    longer = λ ts. refl;
  }
  front [] s h (t ∷ before) behind e = absurd (cc)
  front (call ∷ calls) s h (t ∷ before) behind e =
      let same : made s call ≡ t = cc in
      let rest : runs A (next s call) calls ≡ before ++ behind = cc in
      subst (λ (t : Answered). Front s (call ∷ calls) (t ∷ before) behind) same
      (one_more s call calls before behind (front calls (next s call) (good_after A L s call h) before behind rest))
