-- A drive begun on a sheet of the arena's tables and run through a list of calls keeps what is promised.
use Rattle.std.proofs.Common.{◌≡◌, ℕ, T, List, [], ◌∷◌, map, Ok, Result, sym, refl, ap, ◌∙◌, subst, ap₂, arith}
use Rattle.std.proofs.lemmas.Bool.{cond-false, ne_eqb, not_from_true}
use Rattle.automata.specs.Arena.{Arena}
use Rattle.automata.specs.Lawful.{LawfulArena}
use Rattle.games.specs.Regions.{ranked, rank}
use Rattle.games.specs.Verdicts.{verdict}
use Rattle.games.specs.declared.verdict.Verdict.TheVariants.{Planned}
use Rattle.sheets.specs.Tables.{Tables, SameTables}
use Rattle.drives.specs.Stands.{between_at}
use Rattle.drives.specs.Model.{begun, shows}
use Rattle.drives.specs.declared.between.Between.{Between}
use Rattle.drives.specs.declared.refusal.Refusal.{Refusal}
use Rattle.assurance.specs.declared.calls.Entry.{Entry}
use Rattle.assurance.specs.declared.drive.Drive.{Drive}
use Rattle.assurance.specs.declared.drive.Drive.TheVariants.{Between as between, Waiting as waiting, Ended as ended}
use Rattle.assurance.specs.Calls.{Call, Answer, Answered}
use Rattle.assurance.specs.Driven.{Driven}
use Rattle.assurance.specs.Stands.{Stand, first, runs, stands, ReadOff}
use Rattle.assurance.specs.Made.{makes}
use Rattle.assurance.specs.Held.{holds}
use Rattle.assurance.specs.Entries.{runs_on, after_calls, calls_in}
use Rattle.planner.specs.ArenaTables.{arena_tables}
use Rattle.assurance.specs.Conducted.{drive_from, places_from, conducted, places, Tells, Conducted, WellConducted, KeepsPromise}
use Rattle.assurance.proofs.RankLaws.{rank_below_none}
use Rattle.assurance.proofs.KeptLaws.{Good, good_first, good_after, good_state}
use Rattle.assurance.proofs.StandLaws.{good_stands}
use Rattle.assurance.proofs.JoinLaws.{fitting, rank_same, joined}
use Rattle.assurance.proofs.RunLaws.{planned_start, drives}

-- a run is of the calls that were made
run_calls : (H : Tables) (calls : List Call) (d : Drive) → map (λ t. t.call) (runs_on H d calls) ≡ calls
run_calls H [] d = refl
run_calls H (call ∷ calls) d = ap (λ (l : List Call). call ∷ l) (run_calls H calls (makes H d call).0)

module _ (A : Arena) (L : LawfulArena A) (H : Tables) (S : SameTables (arena_tables A) H) where
  -- the run of calls is that of the causes, and the drive stands at its end as they determine
  pub joined_runs : (calls : List Call) (d : Drive) → Good A L (holds d) →
      (runs_on H d calls ≡ runs A (holds d) calls) × (holds (after_calls H d calls) ≡ stands A (holds d) calls)
  joined_runs [] d g = (refl, refl)
  joined_runs (call ∷ calls) d g =
      let j = joined A L H S d call g in
      let next : Drive = (makes H d call).0 in
      let u = joined_runs calls next (subst (λ (s : Stand). Good A L s) (sym j.0) (good_after A L (holds d) call g)) in (
        ap₂ (λ (a : Answer) (ts : List Answered). record { call = call; answer = a } ∷ ts) j.1 (u.0 ∙ ap (λ (s : Stand). runs A s calls) j.0),
        u.1 ∙ ap (λ (s : Stand). stands A s calls) j.0,
      )

  shows_rank : (d : Between) → Good A L (holds (between d)) → shows H d ≡ Ok (rank A d.column d.state)
  shows_rank d g =
      let l = good_state A L (holds (between d)) g in
      cond-false _ _ _ (not_from_true _ (fitting A L H S d.state d.column l g.0))
      ∙ ap {B = Result ℕ Refusal} Ok (rank_same A L H S d.column d.state g.0 l)

  tells : (ts : List Answered) (d : Drive) → Good A L (holds d) → ReadOff A ts (holds d) → Tells A H ts d
  tells ts (between d) g o = (d.state, o.state, shows_rank d g ∙ ap {B = Result ℕ Refusal} (λ (c : ℕ). Ok (rank A c d.state)) o.column)
  tells ts (waiting d) g o = tt
  tells ts (ended d) g o = (d.state, o.state, ap (λ (c : ℕ). (c, d.state)) o.column)

  -- where the start is ranked a drive begins there, in column 0
  begins : T (ranked A 0 A.start) → begun H ≡ Ok (between_at A.start 0)
  begins t =
      let g = good_first A L t in
      let same : H.rank 0 H.start ≡ rank A 0 A.start = ap (λ (q : ℕ). H.rank 0 q) (sym S.same_start) ∙ rank_same A L H S 0 A.start g.0 (good_state A L (first A) g) in
      let few = rank_below_none A L 0 A.start t in
      let some : H.rank 0 H.start ≡ 65535 → ⊥ = λ e. omega arith in
      cond-false _ _ _ (ne_eqb _ 65535 some)
      ∙ ap {B = Result Between Refusal} (λ (q : ℕ). Ok (between_at q 0)) (sym S.same_start)

  keeps : (es : List Entry) (rounds : ℕ) → verdict A ≡ Planned rounds → WellConducted A H rounds es (places H es) (conducted H es)
  keeps es rounds e =
      let p = planned_start A rounds e in
      let g = good_first A L p.0 in
      let b = begins p.0 in
      let d₀ : Drive = between (between_at A.start 0) in
      let calls : List Call = calls_in es in
      let ts : List Answered = runs_on H d₀ calls in
      let d : Drive = after_calls H d₀ calls in
      let j = joined_runs calls d₀ g in
      let h = drives A L rounds e in
      let driven : Driven A ts = subst (λ (l : List Answered). Driven A l) (sym j.0) (h.driven calls) in
      let stand : ReadOff A ts (holds d) =
      subst (λ (l : List Answered). ReadOff A l (holds d)) (sym j.0) (subst (λ (s : Stand). ReadOff A (runs A (first A) calls) s) (sym j.1) (h.read_off calls)) in
      let good : Good A L (holds d) = subst (λ (s : Stand). Good A L s) (sym j.1) (good_stands A L calls (first A) g) in
      let run : Conducted A H rounds calls ts d = record {
        begins = (between_at A.start 0, b, shows_rank (between_at A.start 0) g ∙ ap {B = Result ℕ Refusal} Ok p.1);
        made = run_calls H calls d₀;
        driven = driven;
        stands = stand;
        tells = tells ts d good stand;
        next = λ call. (joined A L H S d call good).1;
      } in
      subst (λ (r : Result Between Refusal). WellConducted A H rounds es (places_from H es r) (drive_from H es r)) (sym b) (ts, refl, run)

pub kept_promise : (H : Tables) (es fs : List Entry) (r : Result Drive Refusal) → r ≡ conducted H es → fs ≡ places H es → KeepsPromise H es fs r
kept_promise H es fs r d p A L S rounds e =
    subst (λ (r : Result Drive Refusal). WellConducted A H rounds es fs r) (sym d)
    (subst (λ (fs : List Entry). WellConducted A H rounds es fs (conducted H es)) (sym p) (keeps A L H S es rounds e))
