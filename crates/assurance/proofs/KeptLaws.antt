-- What every call keeps, and why what is promised follows.
use Rattle.std.proofs.Common.{◌≡◌, ℕ, zero, suc, ◌^◌, ◌<◌, ◌≤◌, Bool, true, false, T, eqb, leb, Some, None, Option, sym, refl, subst, arith, le→leb, eqb→eq, lt→ltb, leb→le}
use Rattle.std.proofs.lemmas.Bool.{eq-eqb}
use Rattle.ranges.proofs.RangeLaws.{T_true, and_r, and_mk, not_at}
use Rattle.automata.specs.Steps.{Inside, onward}
use Rattle.automata.specs.Arena.{Arena}
use Rattle.automata.specs.Lawful.{LawfulArena}
use Rattle.games.specs.Regions.{lawful, ranked, rank}
use Rattle.games.proofs.RegionLaws.{ranked_unbroken}
use Rattle.games.proofs.GroundLaws.{unbroken_inside}
use Rattle.assurance.specs.Calls.{Call, Read, Command, Claim, Stop, Answer, Performed, Refused, NotAdmitted}
use Rattle.assurance.specs.Runs.{admits}
use Rattle.assurance.specs.Causes.{causes, Unrefused}
use Rattle.assurance.specs.Promised.{Carried, Promised}
use Rattle.assurance.specs.Stands.{Stand, first, answer_at, moved, after}
use Rattle.assurance.proofs.CauseLaws.{passes, not_not, AllPass, performed_free}
use Rattle.assurance.proofs.RankLaws.{lawful_inside, rank_below_none, has_rank, rank_carried, rank_permits, permits_step, permits_inside, duty_rights}

zero_test : (m : ℕ) → m ≡ 0 → T (eqb m 0)
zero_test m e = T_true _ (eq-eqb m 0 e)

module _ (A : Arena) (L : LawfulArena A) where
  -- at the state q, in column c, with the reading w that waits, o if ended
  abbrev pub Kept : ℕ → ℕ → Option ℕ → Bool → Type 0
  Kept q c None false = T (ranked A c q)
  Kept q c (Some x) false = T (ranked A c q) × (0 < rank A c q) × T (lawful A q x)
  Kept q c w true = T (ranked A c q) × Carried A q c

  pub kept_promised : (q c : ℕ) (w : Option ℕ) (o : Bool) → Kept q c w o → Promised A q c w o
  kept_promised q c None false r = record {
    shown = rank_below_none A L c q r;
    reads = λ h x l. passes (causes A q c None (Read x)) (
      λ t. not_at _ t (lt→ltb _ _ (lawful_inside A L q x l)),
      (λ t. let e = eqb→eq _ _ t in omega arith, (λ t. not_at _ t l, tt)),
    );
    stops = λ e. (passes (causes A q c None Stop) (λ t. not_at _ t (zero_test _ e), tt), rank_carried A L c q r e);
    claims = can;
  }
    where
      can : c ≡ 0 → (i : ℕ) → 1 ≤ i → i ≤ A.k → Unrefused A q c None (Claim i)
      can e zero l m = absurd (omega arith)
      can e (suc j) l m = passes (causes A q c None (Claim (suc j))) (
        λ t. not_at _ t (and_mk (leb 1 (suc j)) (leb (suc j) A.k) (le→leb 1 (suc j) l) (le→leb (suc j) A.k m)),
        (
          λ t. not_at _ t (zero_test c e),
          (λ t. let d = eqb→eq _ _ t in omega (arith, rank_below_none A L (suc j) q (duty_rights A L q j (subst (λ (z : ℕ). T (ranked A z q)) e r) m)), tt),
        ),
      )
  kept_promised q c (Some x) false h = record {
    shown = (h.1, rank_below_none A L c q h.0);
    reading = h.2;
    some_command = rank_permits A L c q x h.0 h.1 h.2;
    commands = λ y p.
        let v = permits_step A L c q x y p in
        (passes (causes A q c (Some x) (Command y)) (λ t. not_at _ t (lt→ltb _ _ (permits_inside A L c q x y p)), (λ t. not_at _ t p, tt)), (v.0, v.1, v.2));
  }
  kept_promised q c w true h = h.1

  pub kept_moved : (q c : ℕ) (w : Option ℕ) (o : Bool) (call : Call) → Kept q c w o → T (admits w o call) → AllPass (causes A q c w call) →
      let s = moved A (record { state = q; column = c; waiting = w; over = o }) call in Kept s.state s.column s.waiting s.over
  kept_moved q c None false (Read x) h a p =
      let ne : rank A c q ≡ 0 → ⊥ = λ e. p.1.0 (zero_test _ e) in
      (h, omega arith, not_not _ p.1.1.0)
  kept_moved q c None false (Command y) h a p = absurd a
  kept_moved q c None false (Claim i) h a p = has_rank A L i q (λ e. p.1.1.0 (T_true _ (eq-eqb _ 65535 e)))
  kept_moved q c None false Stop h a p = (h, rank_carried A L c q h (eqb→eq _ _ (not_not _ p.0)))
  kept_moved q c (Some x) false (Read z) h a p = absurd a
  kept_moved q c (Some x) false (Command y) h a p =
      let v = permits_step A L c q x y (not_not _ p.1.0) in
      subst (λ (o : Option ℕ). T (ranked A c (onward o q (λ t. t)))) (sym v.1) v.3
  kept_moved q c (Some x) false (Claim i) h a p = absurd a
  kept_moved q c (Some x) false Stop h a p = absurd a
  kept_moved q c w true call h a p = absurd a

  -- the same of a drive as it stands
  abbrev pub Good : Stand → Type 0
  Good s = (s.column ≤ A.k) × Kept s.state s.column s.waiting s.over

  column_moved : (q c : ℕ) (w : Option ℕ) (o : Bool) (call : Call) → c ≤ A.k → AllPass (causes A q c w call) →
      (moved A (record { state = q; column = c; waiting = w; over = o }) call).column ≤ A.k
  column_moved q c w o (Read x) l p = l
  column_moved q c w o (Command y) l p = l
  column_moved q c w o (Claim i) l p = leb→le i A.k (and_r (leb 1 i) _ (not_not _ p.0))
  column_moved q c w o Stop l p = l

  pub good_after : (s : Stand) (call : Call) → Good s → Good (after A s call (answer_at A s call))
  good_after s call h = go (answer_at A s call) refl
    where
      go : (a : Answer) → answer_at A s call ≡ a → Good (after A s call a)
      go Performed e =
          let u = performed_free A s.state s.column s.waiting s.over call e in
          (column_moved s.state s.column s.waiting s.over call h.0 u.1, kept_moved s.state s.column s.waiting s.over call h.1 u.0 u.1)
      go (Refused n) e = h
      go NotAdmitted e = h

  kept_ranked : (q c : ℕ) (w : Option ℕ) (o : Bool) → Kept q c w o → T (ranked A c q)
  kept_ranked q c None false h = h
  kept_ranked q c (Some x) false h = h.0
  kept_ranked q c w true h = h.0

  kept_reading : (q c : ℕ) (w : Option ℕ) → Kept q c w false → Inside (2 ^ A.a) w
  kept_reading q c None h = tt
  kept_reading q c (Some x) h = lawful_inside A L q x h.2

  -- state, column and reading of a drive are in range
  pub good_state : (s : Stand) → Good s → s.state < A.n
  good_state s h = unbroken_inside A L s.state (ranked_unbroken A L s.column s.state (kept_ranked s.state s.column s.waiting s.over h.1))

  pub good_reading : (s : Stand) → Good s → s.over ≡ false → Inside (2 ^ A.a) s.waiting
  good_reading s h e =
      kept_reading s.state s.column s.waiting (subst (λ (o : Bool). Kept s.state s.column s.waiting o) e h.1)

  pub good_first : T (ranked A 0 A.start) → Good (first A)
  good_first t = (omega arith, t)
