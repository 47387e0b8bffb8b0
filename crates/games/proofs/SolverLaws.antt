-- What the lists of a solver tell of the arena that it holds.
use Rattle.std.proofs.Common.{◌≡◌, ℕ, zero, suc, ◌+◌, ◌-◌, ◌^◌, ◌<◌, ◌≤◌, Bool, true, false, cond, not, ◌&&◌, T, eqb, ltb, leb, ◌⊎◌, List, [], get_or, Some, None, Option, sym, refl, ap, ◌∙◌, ap₂, inl, inr, rules, arith}
use Rattle.std.specs.Bool.{then_some}
use Rattle.std.specs.Option.{MatchOption, unwrap_or}
use mathlib.Core.Path.{fun_ext}
use Rattle.std.proofs.Math.Bool.{not-not}
use Rattle.std.proofs.lemmas.Bool.{cases_lt, and_left, le-leb, lt-leb, lt-ltb, le-ltb, ne_eqb, cond-true, cond-false}
use Rattle.ranges.specs.Ranges.{all, least}
use Rattle.automata.specs.Arena.{Arena}
use Rattle.automata.specs.Steps.{onward}
use Rattle.ranges.proofs.RangeLaws.{T_true, false_T, least_is, least_none}
use Rattle.automata.specs.Lawful.{LawfulArena}
use Rattle.games.specs.declared.solver.Solver.{Solver}
use Rattle.games.specs.Solved.{solver_arena}
use Rattle.games.specs.Regions.{unbroken, lawful, fence, rank, ranked, permits}
use Rattle.games.specs.GroundColumns.{holds_off}
use Rattle.games.specs.Verdicts.{lacking}
use Rattle.games.specs.Columns.{rank_in, permits_in}
use Rattle.games.proofs.TableLaws.{table_lawful}
use Rattle.games.proofs.RegionLaws.{unranked_is, fenced_is, rank_lacks_in}

pub solver_lawful : (s : Solver) → LawfulArena (solver_arena s)
solver_lawful s = table_lawful s.table

pub solver_unbroken : (s : Solver) (xs : List ℕ) → xs ≡ s.regions.broken → (λ (q : ℕ). ltb q s.table.count && eqb (get_or xs q 0) 65535) ≡ unbroken (solver_arena s)
solver_unbroken s xs e =
    let f : List ℕ → ℕ → Bool = λ l q. ltb q s.table.count && eqb (get_or l q 0) 65535 in
    ap f e ∙ unranked_is (solver_arena s) (solver_lawful s) s.regions.broken s.found.broken

pub solver_fence : (s : Solver) (xs : List ℕ) (ys : List (List ℕ)) → xs ≡ s.regions.broken → ys ≡ s.regions.rights →
    (λ (q : ℕ). (ltb q s.table.count && eqb (get_or xs q 0) 65535) && all s.table.rights (λ j. not (eqb (get_or (get_or ys j []) q 0) 65535))) ≡ fence (solver_arena s)
solver_fence s xs ys e f =
    let g : List ℕ → List (List ℕ) → ℕ → Bool = λ l m q. (ltb q s.table.count && eqb (get_or l q 0) 65535) && all s.table.rights (λ j. not (eqb (get_or (get_or m j []) q 0) 65535)) in
    ap (λ l. g l ys) e ∙ ap (g s.regions.broken) f
    ∙ fenced_is (solver_arena s) (solver_lawful s) s.regions.broken s.found.broken s.regions.rights s.found.rights

-- in a column that there is, what has no rank is what is not ranked
pub rank_in_at : (s : Solver) (i q : ℕ) → i ≤ (solver_arena s).k → rank_in (solver_arena s) i q ≡ rank (solver_arena s) i q
rank_in_at s i q l = search rules

pub rank_in_lacks : (s : Solver) (i q : ℕ) → i ≤ (solver_arena s).k → eqb (rank_in (solver_arena s) i q) 65535 ≡ not (ranked (solver_arena s) i q)
rank_in_lacks s i q l = ap (λ v. eqb v 65535) (rank_in_at s i q l) ∙ rank_lacks_in (solver_arena s) (solver_lawful s) i q

-- what a solver has stored of a state is its rank
pub stored_is : (s : Solver) (i q : ℕ) → i ≤ (solver_arena s).k → q < (solver_arena s).n →
    cond (eqb i 0) (get_or s.regions.duty q 0) (get_or (get_or s.regions.rights (i - 1) []) q 0) ≡ rank_in (solver_arena s) i q
stored_is s zero q k l = s.found.duty q l ∙ sym (rank_in_at s 0 q k)
stored_is s (suc j) q k l =
    let e : suc j - 1 ≡ j = omega arith in
    cond-false (eqb (suc j) 0) _ _ (ne_eqb (suc j) 0 (λ z. omega arith))
    ∙ ap (λ (i : ℕ). get_or (get_or s.regions.rights i []) q 0) e ∙ s.found.rights j q (k, l) ∙ sym (rank_in_at s (suc j) q k)

-- in column 0 a state is ranked where it has a rank
pub rounds_is : (s : Solver) (q : ℕ) → then_some (not (eqb (rank_in (solver_arena s) 0 q) 65535)) (rank_in (solver_arena s) 0 q) ≡ cond (ranked (solver_arena s) 0 q) (Some (rank (solver_arena s) 0 q)) None
rounds_is s q =
    let A : Arena = solver_arena s in
    ap₂ (λ (b : Bool) (r : ℕ). then_some b r) (ap not (rank_in_lacks s 0 q (omega arith)) ∙ not-not (ranked A 0 q)) (rank_in_at s 0 q (omega arith)) ∙ if_some (ranked A 0 q)
  where
    if_some : (b : Bool) → then_some b (rank (solver_arena s) 0 q) ≡ cond b (Some (rank (solver_arena s) 0 q)) None
    if_some true = refl
    if_some false = refl

-- the search for the lowest right that lacks a state
module _ (s : Solver) (q : ℕ) where
  abbrev A : Arena
  A = solver_arena s

  abbrev lost : ℕ → Bool
  lost j = not (ranked A (suc j) q)

  has : (j : ℕ) → j < A.k → false ≡ eqb (rank_in A (suc j) q) 65535 → T (lost j) → ⊥
  has j l e = false_T (lost j) (sym (e ∙ rank_in_lacks s (suc j) q (omega arith)))

  pub lacking_is : (o : Option ℕ) → MatchOption o ((i : ℕ) → 1 ≤ i → i < A.k + 1 → false ≡ eqb (rank_in A i q) 65535) (λ i. (1 ≤ i) × (i < A.k + 1) × (true ≡ eqb (rank_in A i q) 65535) × ((j : ℕ) → 1 ≤ j → j < i → false ≡ eqb (rank_in A j q) 65535))
      → unwrap_or o 0 ≡ lacking A q
  lacking_is None h =
      let none : least A.k lost ≡ A.k = least_none A.k lost (λ j l. has j l (h (suc j) (omega arith) (omega arith))) in
      sym (ap (λ (j : ℕ). cond (ltb j A.k) (suc j) zero) none ∙ cond-false (ltb A.k A.k) (suc A.k) zero (le-ltb A.k A.k (omega arith)))
  lacking_is (Some zero) h = absurd (omega (arith, h.0))
  lacking_is (Some (suc m)) h =
      let l : m < A.k = omega (arith, h.1) in
      let found : least A.k lost ≡ m = least_is A.k lost m l (T_true (lost m) (sym (h.2 ∙ rank_in_lacks s (suc m) q (omega arith)))) (λ j b. has j (omega arith) (h.3 (suc j) (omega arith) (omega arith))) in
      sym (ap (λ (j : ℕ). cond (ltb j A.k) (suc j) zero) found ∙ cond-true (ltb m A.k) (suc m) zero (lt-ltb m A.k l))

-- what the solver asks of a command is what its set holds
pub permits_asked : (s : Solver) (i q x y : ℕ) →
    ((not (eqb (rank_in (solver_arena s) i q) 65535) && lawful (solver_arena s) q x) && onward ((solver_arena s).step q x y) false (λ t. ltb (rank_in (solver_arena s) i t) (rank_in (solver_arena s) i q))) ≡ permits_in (solver_arena s) i q x y
permits_asked s i q x y = go (cases_lt (solver_arena s).k i)
  where
    C : Arena
    C = solver_arena s

    go : (C.k < i) ⊎ (i ≤ C.k) →
        ((not (eqb (rank_in C i q) 65535) && lawful C q x) && onward (C.step q x y) false (λ t. ltb (rank_in C i t) (rank_in C i q))) ≡ permits_in C i q x y
    go (inl m) =
        let none : rank_in C i q ≡ 65535 = cond-false (leb i C.k) (rank C i q) 65535 (lt-leb i C.k m) in
        ap (λ v. (not (eqb v 65535) && lawful C q x) && onward (C.step q x y) false (λ t. ltb (rank_in C i t) (rank_in C i q))) none
        ∙ sym (and_left (leb i C.k) _ (lt-leb i C.k m))
    go (inr m) =
        let same : rank_in C i ≡ rank C i = fun_ext (λ t. rank_in_at s i t m) in
        ap₂ (λ a f. (a && lawful C q x) && onward (C.step q x y) false (λ t. ltb (f t) (f q)))
        (ap not (rank_in_lacks s i q m) ∙ not-not (ranked C i q)) same
        ∙ sym (ap (λ b. b && permits C i q x y) (le-leb i C.k m))

-- what the solver asks of a reading is that it holds the state off the column
pub off_asked : (s : Solver) (i q x : ℕ) → i ≤ (solver_arena s).k →
    (lawful (solver_arena s) q x && all (2 ^ (solver_arena s).b) (λ y. onward ((solver_arena s).step q x y) false (λ t. eqb (rank_in (solver_arena s) i t) 65535))) ≡ holds_off (solver_arena s) i q x
off_asked s i q x m =
    let C = solver_arena s in
    let same : (λ (t : ℕ). eqb (rank_in C i t) 65535) ≡ (λ t. not (ranked C i t)) = fun_ext (λ t. rank_in_lacks s i t m) in
    ap (λ (f : ℕ → Bool). lawful C q x && all (2 ^ C.b) (λ y. onward (C.step q x y) false f)) same
