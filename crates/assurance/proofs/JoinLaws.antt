-- A drive on a sheet that says what the arena's tables say goes as the causes over the arena determine.
use Rattle.std.proofs.Common.{◌≡◌, ℕ, ◌^◌, ◌<◌, ◌≤◌, Bool, true, false, cond, not, ◌&&◌, eqb, ltb, leb, [], ◌∷◌, None, Ok, Err, Option, Result, sym, refl, ap, ◌∙◌, subst, arith}
use native.Mathlib.Decide.{dec_lt, dec_le}
use Rattle.std.proofs.lemmas.Bool.{cond-true, cond-false, lt-ltb, le-leb, le-ltb, lt-leb, and_from, not_from_true, not_from_false, not-false, ltb-true, and_right}
use Rattle.ranges.proofs.RangeLaws.{T_true}
use Rattle.automata.specs.Steps.{onward}
use Rattle.automata.specs.Arena.{Arena}
use Rattle.automata.specs.Lawful.{LawfulArena}
use Rattle.games.specs.Regions.{lawful, rank, permits}
use Rattle.sheets.specs.Tables.{Tables, SameTables}
use Rattle.sheets.specs.Encoding.{field_of}
use Rattle.drives.specs.Refusals.{refused}
use Rattle.drives.specs.Stands.{between_at, waiting_at, ended_at}
use Rattle.drives.specs.Model.{fits, reads, commands, claims, stops}
use Rattle.drives.specs.declared.between.Between.{Between}
use Rattle.drives.specs.declared.waiting.Waiting.{Waiting}
use Rattle.drives.specs.declared.ended.Ended.{Ended}
use Rattle.drives.specs.declared.refusal.Refusal.{Refusal}
use Rattle.drives.specs.declared.refusal.Refused.{Refused as Kept}
use Rattle.drives.specs.declared.refusal.Refusal.TheVariants.{ReadingTooLarge, RightOutOfRange, CommandTooLarge, ReadAtZero, ReadingUnlawful, CommandNotPermitted, ClaimedAlready, RightUnranked, StopAboveZero}
use Rattle.assurance.specs.declared.drive.Drive.{Drive}
use Rattle.assurance.specs.declared.drive.Drive.TheVariants.{Between as between, Waiting as waiting, Ended as ended}
use Rattle.assurance.specs.Calls.{Call, Read, Command, Claim, Stop, Answer, Performed}
use Rattle.assurance.specs.Causes.{Cause, first_cause, by_cause}
use Rattle.assurance.specs.Stands.{Stand, answer_at, after}
use Rattle.assurance.specs.Made.{settled, makes}
use Rattle.assurance.specs.Held.{holds}
use Rattle.planner.specs.ArenaTables.{arena_tables}
use Rattle.assurance.proofs.RankLaws.{permits_step}
use Rattle.assurance.proofs.KeptLaws.{Good, good_state, good_reading}

-- up to three tests, the first that holds refuses
abbrev picked₁ : {S N : Type 0} → S → N → Refusal → Bool → Result N (Kept S)
picked₁ d e r₁ t₁ = cond t₁ (Err (refused d r₁)) (Ok e)

abbrev picked₂ : {S N : Type 0} → S → N → Refusal → Refusal → Bool → Bool → Result N (Kept S)
picked₂ d e r₁ r₂ t₁ t₂ = cond t₁ (Err (refused d r₁)) (picked₁ d e r₂ t₂)

abbrev picked₃ : {S N : Type 0} → S → N → Refusal → Refusal → Refusal → Bool → Bool → Bool → Result N (Kept S)
picked₃ d e r₁ r₂ r₃ t₁ t₂ t₃ = cond t₁ (Err (refused d r₁)) (picked₂ d e r₂ r₃ t₂ t₃)

abbrev cause : Bool → Refusal → Cause
cause t r = record { applies = t; why = r }

module _ (A : Arena) where
  -- a drive and an answer are those of a call with that answer on a drive that stood so
  abbrev pub Agree : Stand → Call → Drive × Answer → Answer → Type 0
  Agree s call r a = (holds r.0 ≡ after A s call a) × (r.1 ≡ a)

  module _ (S N : Type 0) (was : S → Drive) (next : N → Drive) (call : Call) (d : S) (e : N) (goes : holds (next e) ≡ after A (holds (was d)) call Performed) where
    agree₁ : (r₁ : Refusal) (t₁ : Bool) →
        Agree (holds (was d)) call (settled was next (picked₁ d e r₁ t₁)) (by_cause (first_cause (cause t₁ r₁ ∷ [])))
    agree₁ r₁ true = (refl, refl)
    agree₁ r₁ false = (goes, refl)

    agree₃ : (r₁ r₂ r₃ : Refusal) (t₁ t₂ t₃ : Bool) →
        Agree (holds (was d)) call (settled was next (picked₃ d e r₁ r₂ r₃ t₁ t₂ t₃)) (by_cause (first_cause (cause t₁ r₁ ∷ cause t₂ r₂ ∷ cause t₃ r₃ ∷ [])))
    agree₃ r₁ r₂ r₃ true t₂ t₃ = (refl, refl)
    agree₃ r₁ r₂ r₃ false true t₃ = (refl, refl)
    agree₃ r₁ r₂ r₃ false false t₃ = agree₁ r₃ t₃

  agree₂ : (S N : Type 0) (was : S → Drive) (next : N → Drive) (call : Call) (d : S) (e : N) (r₁ r₂ : Refusal) (t₁ t₂ : Bool) →
      (t₁ ≡ false → t₂ ≡ false → holds (next e) ≡ after A (holds (was d)) call Performed) →
      Agree (holds (was d)) call (settled was next (picked₂ d e r₁ r₂ t₁ t₂)) (by_cause (first_cause (cause t₁ r₁ ∷ cause t₂ r₂ ∷ [])))
  agree₂ S N was next call d e r₁ r₂ true t₂ goes = (refl, refl)
  agree₂ S N was next call d e r₁ r₂ false true goes = (refl, refl)
  agree₂ S N was next call d e r₁ r₂ false false goes = (goes refl refl, refl)

module _ (A : Arena) (L : LawfulArena A) (H : Tables) (S : SameTables (arena_tables A) H) where
  pub fitting : (q c : ℕ) → q < A.n → c ≤ A.k → fits H q c ≡ true
  fitting q c l m =
      let n : A.n ≡ H.n = S.same_n in
      let k : A.k ≡ H.k = S.same_k in
      and_from _ _ (lt-ltb q H.n (omega arith)) (le-leb c H.k (omega arith))

  pub rank_same : (c q : ℕ) → c ≤ A.k → q < A.n → H.rank c q ≡ rank A c q
  rank_same c q l m = sym (S.same_rank c q l m) ∙ cond-true _ _ _ (le-leb c A.k l)

  permits_same : (c q x y : ℕ) → c ≤ A.k → q < A.n → x < 2 ^ A.a → y < 2 ^ A.b → H.permits c q x y ≡ permits A c q x y
  permits_same c q x y l m h g = sym (S.same_permits c q x y l m h g) ∙ ap (λ (t : Bool). t && permits A c q x y) (le-leb c A.k l)

  readings_same : 2 ^ H.a ≡ 2 ^ A.a
  readings_same = ap (λ (m : ℕ). 2 ^ m) (sym S.same_a)

  commands_same : 2 ^ H.b ≡ 2 ^ A.b
  commands_same = ap (λ (m : ℕ). 2 ^ m) (sym S.same_b)

  reads_at : (d : Between) (x : ℕ) → d.state < A.n → d.column ≤ A.k →
      reads H d x ≡ picked₃ d (waiting_at d.state d.column x) ReadingTooLarge ReadAtZero ReadingUnlawful
      (not (ltb x (2 ^ A.a))) (eqb (rank A d.column d.state) 0) (not (lawful A d.state x))
  reads_at d x l m =
      let pick : Bool → Bool → Bool → Result Waiting (Kept Between) = picked₃ d (waiting_at d.state d.column x) ReadingTooLarge ReadAtZero ReadingUnlawful in
      cond-false _ _ _ (not_from_true _ (fitting d.state d.column l m))
      ∙ ap (λ (z : ℕ). pick (not (ltb x z)) (eqb (H.rank d.column d.state) 0) (not (H.lawful d.state x))) readings_same
      ∙ ap (λ (z : ℕ). pick (not (ltb x (2 ^ A.a))) (eqb z 0) (not (H.lawful d.state x))) (rank_same d.column d.state m l)
      ∙ go (dec_lt x (2 ^ A.a))
    where
      go : Dec (x < 2 ^ A.a) →
          picked₃ d (waiting_at d.state d.column x) ReadingTooLarge ReadAtZero ReadingUnlawful (not (ltb x (2 ^ A.a))) (eqb (rank A d.column d.state) 0) (not (H.lawful d.state x))
          ≡ picked₃ d (waiting_at d.state d.column x) ReadingTooLarge ReadAtZero ReadingUnlawful (not (ltb x (2 ^ A.a))) (eqb (rank A d.column d.state) 0) (not (lawful A d.state x))
      go (yes h) =
          ap (λ (t : Bool). picked₃ d (waiting_at d.state d.column x) ReadingTooLarge ReadAtZero ReadingUnlawful (not (ltb x (2 ^ A.a))) (eqb (rank A d.column d.state) 0) (not t))
          (sym (S.same_lawful d.state x l h))
      go (no h) =
          let t = not_from_false _ (le-ltb x (2 ^ A.a) (omega arith)) in
          cond-true _ _ _ t ∙ sym (cond-true _ _ _ t)

  claims_at : (d : Between) (i : ℕ) → d.state < A.n → d.column ≤ A.k →
      claims H d i ≡ picked₃ d (between_at d.state i) RightOutOfRange ClaimedAlready RightUnranked
      (not (leb 1 i && leb i A.k)) (not (eqb d.column 0)) (eqb (rank A i d.state) 65535)
  claims_at d i l m =
      let pick : Bool → Bool → Bool → Result Between (Kept Between) = picked₃ d (between_at d.state i) RightOutOfRange ClaimedAlready RightUnranked in
      cond-false _ _ _ (not_from_true _ (fitting d.state d.column l m))
      ∙ ap (λ (z : ℕ). pick (not (leb 1 i && leb i z)) (not (eqb d.column 0)) (eqb (H.rank i d.state) 65535)) (sym S.same_k)
      ∙ go (dec_le i A.k)
    where
      go : Dec (i ≤ A.k) →
          picked₃ d (between_at d.state i) RightOutOfRange ClaimedAlready RightUnranked (not (leb 1 i && leb i A.k)) (not (eqb d.column 0)) (eqb (H.rank i d.state) 65535)
          ≡ picked₃ d (between_at d.state i) RightOutOfRange ClaimedAlready RightUnranked (not (leb 1 i && leb i A.k)) (not (eqb d.column 0)) (eqb (rank A i d.state) 65535)
      go (yes h) =
          ap (λ (z : ℕ). picked₃ d (between_at d.state i) RightOutOfRange ClaimedAlready RightUnranked (not (leb 1 i && leb i A.k)) (not (eqb d.column 0)) (eqb z 65535))
          (rank_same i d.state h l)
      go (no h) =
          let t : not (leb 1 i && leb i A.k) ≡ true = not_from_false _ (and_right (leb 1 i) _ (lt-leb i A.k (omega arith))) in
          cond-true _ _ _ t ∙ sym (cond-true _ _ _ t)

  stops_at : (d : Between) → d.state < A.n → d.column ≤ A.k →
      stops H d ≡ picked₁ d (ended_at d.state d.column) StopAboveZero (not (eqb (rank A d.column d.state) 0))
  stops_at d l m =
      cond-false _ _ _ (not_from_true _ (fitting d.state d.column l m))
      ∙ ap (λ (z : ℕ). picked₁ d (ended_at d.state d.column) StopAboveZero (not (eqb z 0))) (rank_same d.column d.state m l)

  commands_at : (d : Waiting) (y : ℕ) → d.state < A.n → d.column ≤ A.k → d.reading < 2 ^ A.a →
      commands H d y ≡ picked₂ d (between_at (field_of (H.step d.state d.reading y)) d.column) CommandTooLarge CommandNotPermitted
      (not (ltb y (2 ^ A.b))) (not (permits A d.column d.state d.reading y))
  commands_at d y l m r =
      let pick : Bool → Bool → Result Between (Kept Waiting) = picked₂ d (between_at (field_of (H.step d.state d.reading y)) d.column) CommandTooLarge CommandNotPermitted in
      let e = readings_same in
      cond-false _ _ _ (not_from_true _ (and_from _ _ (fitting d.state d.column l m) (lt-ltb d.reading (2 ^ H.a) (omega arith))))
      ∙ ap (λ (z : ℕ). pick (not (ltb y z)) (not (H.permits d.column d.state d.reading y))) commands_same
      ∙ go (dec_lt y (2 ^ A.b))
    where
      go : Dec (y < 2 ^ A.b) →
          picked₂ d (between_at (field_of (H.step d.state d.reading y)) d.column) CommandTooLarge CommandNotPermitted (not (ltb y (2 ^ A.b))) (not (H.permits d.column d.state d.reading y))
          ≡ picked₂ d (between_at (field_of (H.step d.state d.reading y)) d.column) CommandTooLarge CommandNotPermitted (not (ltb y (2 ^ A.b))) (not (permits A d.column d.state d.reading y))
      go (yes h) =
          ap (λ (t : Bool). picked₂ d (between_at (field_of (H.step d.state d.reading y)) d.column) CommandTooLarge CommandNotPermitted (not (ltb y (2 ^ A.b))) (not t))
          (permits_same d.column d.state d.reading y m l r h)
      go (no h) =
          let t : not (ltb y (2 ^ A.b)) ≡ true = not_from_false _ (le-ltb y (2 ^ A.b) (omega arith)) in
          cond-true _ _ _ t ∙ sym (cond-true _ _ _ t)

  -- the step of a permitted command is the arena's
  lands : (d : Waiting) (y : ℕ) → d.state < A.n → d.reading < 2 ^ A.a → not (ltb y (2 ^ A.b)) ≡ false → not (permits A d.column d.state d.reading y) ≡ false →
      field_of (H.step d.state d.reading y) ≡ onward (A.step d.state d.reading y) d.state (λ t. t)
  lands d y l r small held =
      let v = permits_step A L d.column d.state d.reading y (T_true _ (not-false _ held)) in
      let same = S.same_step d.state d.reading y l r (ltb-true y (2 ^ A.b) (not-false _ small)) in
      ap field_of (sym same ∙ v.1) ∙ sym (ap (λ (o : Option ℕ). onward o d.state (λ t. t)) v.1)

  -- one call on a drive that keeps what every call keeps
  pub joined : (d : Drive) (call : Call) → Good A L (holds d) → Agree A (holds d) call (makes H d call) (answer_at A (holds d) call)
  joined (between d) (Read x) g =
      let next : Waiting = waiting_at d.state d.column x in
      subst (λ (r : Result Waiting (Kept Between)). Agree A (holds (between d)) (Read x) (settled between waiting r) (answer_at A (holds (between d)) (Read x)))
      (sym (reads_at d x (good_state A L (holds (between d)) g) g.0))
      (agree₃ A Between Waiting between waiting (Read x) d next refl ReadingTooLarge ReadAtZero ReadingUnlawful
      (not (ltb x (2 ^ A.a))) (eqb (rank A d.column d.state) 0) (not (lawful A d.state x)))
  joined (between d) (Command y) g = (refl, refl)
  joined (between d) (Claim i) g =
      let next : Between = between_at d.state i in
      subst (λ (r : Result Between (Kept Between)). Agree A (holds (between d)) (Claim i) (settled between between r) (answer_at A (holds (between d)) (Claim i)))
      (sym (claims_at d i (good_state A L (holds (between d)) g) g.0))
      (agree₃ A Between Between between between (Claim i) d next refl RightOutOfRange ClaimedAlready RightUnranked
      (not (leb 1 i && leb i A.k)) (not (eqb d.column 0)) (eqb (rank A i d.state) 65535))
  joined (between d) Stop g =
      let next : Ended = ended_at d.state d.column in
      subst (λ (r : Result Ended (Kept Between)). Agree A (holds (between d)) Stop (settled between ended r) (answer_at A (holds (between d)) Stop))
      (sym (stops_at d (good_state A L (holds (between d)) g) g.0))
      (agree₁ A Between Ended between ended Stop d next refl StopAboveZero (not (eqb (rank A d.column d.state) 0)))
  joined (waiting d) (Read x) g = (refl, refl)
  joined (waiting d) (Command y) g =
      let next : Between = between_at (field_of (H.step d.state d.reading y)) d.column in
      let l = good_state A L (holds (waiting d)) g in
      let r = good_reading A L (holds (waiting d)) g refl in
      subst (λ (r : Result Between (Kept Waiting)). Agree A (holds (waiting d)) (Command y) (settled waiting between r) (answer_at A (holds (waiting d)) (Command y)))
      (sym (commands_at d y l g.0 r))
      (agree₂ A Waiting Between waiting between (Command y) d next CommandTooLarge CommandNotPermitted
      (not (ltb y (2 ^ A.b))) (not (permits A d.column d.state d.reading y))
      (λ small held. ap (λ (q : ℕ). record { state = q; column = d.column; waiting = None; over = false }) (lands d y l r small held)))
  joined (waiting d) (Claim i) g = (refl, refl)
  joined (waiting d) Stop g = (refl, refl)
  joined (ended d) call g = (refl, refl)
