-- What planning answers and writes, case by case.
use Rattle.std.proofs.Common.{◌≡◌, ℕ, ◌<◌, ◌≤◌, Bool, cond, ◌&&◌, leb, ◌⊎◌, List, length, Ok, Err, Result, sym, ap, ◌∙◌, subst, inl, inr, arith}
use Rattle.std.proofs.lemmas.Bool.{cases_lt, le-leb, lt-leb, and_from, cond-true, cond-false}
use Rattle.automata.specs.Arena.{Arena}
use Rattle.automata.specs.Lawful.{LawfulArena}
use Rattle.games.specs.Verdicts.{verdict, answer}
use Rattle.games.specs.declared.verdict.Verdict.{Verdict}
use Rattle.games.specs.declared.verdict.Verdict.TheVariants.{Groundless, Planned, Unplayable}
use Rattle.sheets.specs.Encoding.{sheet_length}
use Rattle.sheets.specs.Laws.{OpensTo}
use Rattle.sheets.proofs.SheetLaws.{opens_written}
use Rattle.planner.specs.GroundFormat.{GroundInRange}
use Rattle.planner.specs.GroundReading.{ReadsBack}
use Rattle.planner.specs.Writing.{fronted, written_answer}
use Rattle.planner.specs.ArenaTables.{arena_tables, arena_grounds, lost_right}
use Rattle.planner.specs.Planned.{planned_answer, sheet_for, planned_buffer}
use Rattle.planner.specs.declared.fault.WriteFault.{WriteFault}
use Rattle.planner.specs.declared.fault.PlanFault.{PlanFault}
use Rattle.planner.specs.declared.fault.PlanFault.TheVariants.{TooManyStates, BufferTooShort}
use Rattle.planner.specs.ArenaLaws.{tables_in_range, grounds_in_range}
use Rattle.planner.proofs.Filling.{long_answer}
use Rattle.planner.proofs.GroundLaws.{reads_back}
use Rattle.planner.proofs.Written.{sheet_sized, ground_sized}

-- no sheet of an arena is longer than its drive sheet
sheet_short : (A : Arena) (v : Verdict) → length (sheet_for A v) ≤ sheet_length (arena_tables A)
sheet_short A Groundless = omega arith
sheet_short A (Planned rounds) = omega (arith, sheet_sized (arena_tables A))
sheet_short A (Unplayable right) = omega (arith, ground_sized (arena_grounds A right))

module _ (A : Arena) (old : List ℕ) where
  abbrev few : Bool
  few = leb A.n 256

  abbrev roomy : Bool
  roomy = leb (sheet_length (arena_tables A)) (length old)

  many_answer : 256 < A.n → planned_answer A (length old) ≡ Err TooManyStates
  many_answer h = cond-false few _ _ (lt-leb A.n 256 h)

  short_answer : A.n ≤ 256 → length old < sheet_length (arena_tables A) → planned_answer A (length old) ≡ Err BufferTooShort
  short_answer h l = cond-true few _ _ (le-leb A.n 256 h) ∙ cond-false roomy _ _ (lt-leb _ _ l)

  module _ (h : A.n ≤ 256) (l : sheet_length (arena_tables A) ≤ length old) where
    roomy_answer : planned_answer A (length old) ≡ Ok (verdict A)
    roomy_answer = cond-true few _ _ (le-leb A.n 256 h) ∙ cond-true roomy _ _ (le-leb _ _ l)

    roomy_buffer : planned_buffer A old ≡ fronted (sheet_for A (verdict A)) old
    roomy_buffer = cond-true (few && roomy) _ old (and_from few roomy (le-leb A.n 256 h) (le-leb _ _ l))

    fits : (v : Verdict) → length (sheet_for A v) ≤ length old
    fits v = omega (arith, sheet_short A v)

    -- the verdict's sheet is written
    sheet_answer : (v : Verdict) → written_answer (sheet_for A v) old ≡ Ok tt
    sheet_answer v = long_answer (sheet_for A v) old (fits v)

    module _ (L : LawfulArena A) where
      planned_opens : (rounds : ℕ) → verdict A ≡ Planned rounds → OpensTo (arena_tables A) (planned_buffer A old)
      planned_opens rounds e =
          subst (OpensTo (arena_tables A)) (sym (roomy_buffer ∙ ap (λ (v : Verdict). fronted (sheet_for A v) old) e)) ((opens_written (arena_tables A) (tables_in_range A L)).opens _)

      unplayable_reads : (right : ℕ) → verdict A ≡ Unplayable right → ReadsBack (arena_grounds A right) (planned_buffer A old)
      unplayable_reads right e =
          let I : GroundInRange (arena_grounds A right) = subst (λ (v : Verdict). GroundInRange (arena_grounds A (lost_right v))) e (grounds_in_range A L) in
          subst (ReadsBack (arena_grounds A right)) (sym (roomy_buffer ∙ ap (λ (v : Verdict). fronted (sheet_for A v) old) e)) (reads_back (arena_grounds A right) I _)

-- an answer is no refusal, and has one verdict
ok_never : {X E : Type 0} (v : X) (f : E) → ◌≡◌ {A = Result X E} (Err f) (Ok v) → ⊥
ok_never v f e = cc

ok_same : {E : Type 0} (v w : Verdict) → ◌≡◌ {A = Result Verdict E} (Ok v) (Ok w) → v ≡ w
ok_same v w e = cc

-- where planning answers a verdict
pub record Answered (A : Arena) (old : List ℕ) (v : Verdict) : Type 0 where
  pub few_states : A.n ≤ 256
  pub room : sheet_length (arena_tables A) ≤ length old
  pub is : verdict A ≡ v

module _ (A : Arena) (old : List ℕ) where
  pub answered : (v : Verdict) → planned_answer A (length old) ≡ Ok v → Answered A old v
  answered v e = go (cases_lt 256 A.n) (cases_lt (length old) (sheet_length (arena_tables A)))
    where
      go : (256 < A.n) ⊎ (A.n ≤ 256) → (length old < sheet_length (arena_tables A)) ⊎ (sheet_length (arena_tables A) ≤ length old) → Answered A old v
      go (inl m) d = absurd (ok_never v TooManyStates (sym (many_answer A old m) ∙ e))
      go (inr h) (inl s) = absurd (ok_never v BufferTooShort (sym (short_answer A old h s) ∙ e))
      go (inr h) (inr l) = record { few_states = h; room = l; is = ok_same (verdict A) v (sym (roomy_answer A old h l) ∙ e) }

  module _ (lawful : A.n ≤ 256 → LawfulArena A) (r : Result Verdict PlanFault) (new : List ℕ) (a : r ≡ planned_answer A (length old)) (b : new ≡ planned_buffer A old) where
    pub answer_opens : (rounds : ℕ) → r ≡ Ok (Planned rounds) → OpensTo (arena_tables A) new
    answer_opens rounds e =
        let t = answered (Planned rounds) (sym a ∙ e) in
        subst (OpensTo (arena_tables A)) (sym b) (planned_opens A old t.few_states t.room (lawful t.few_states) rounds t.is)

    pub answer_reads : (right : ℕ) → r ≡ Ok (Unplayable right) → ReadsBack (arena_grounds A right) new
    answer_reads right e =
        let t = answered (Unplayable right) (sym a ∙ e) in
        subst (ReadsBack (arena_grounds A right)) (sym b) (unplayable_reads A old t.few_states t.room (lawful t.few_states) right t.is)

-- what a solver that took over an arena of few states answers and holds
module _ (A : Arena) (few : A.n ≤ 256) where
  pub solved_verdict : (v : Verdict) → Ok v ≡ answer A → v ≡ verdict A
  solved_verdict v e = ok_same v (verdict A) (e ∙ cond-true (leb A.n 256) _ _ (le-leb A.n 256 few))

  pub solved_arena : (B C : Arena) → B ≡ cond (leb A.n 256) A C → B ≡ A
  solved_arena B C e = e ∙ cond-true (leb A.n 256) A C (le-leb A.n 256 few)

-- and what writing its verdict's sheet answers and leaves, where there is room
module _ (A B : Arena) (same : B ≡ A) (old : List ℕ) (few : A.n ≤ 256) (room : sheet_length (arena_tables A) ≤ length old) (v : Verdict) where
  pub write_takes : (f : WriteFault) → Err f ≡ written_answer (sheet_for B v) old → ⊥
  write_takes f e = ok_never tt f (e ∙ ap (λ (C : Arena). written_answer (sheet_for C v) old) same ∙ sheet_answer A old few room v)
