-- The ground that follows a written ground sheet is the arena's.
use Rattle.std.proofs.Common.{◌≡◌, ℕ, zero, suc, ◌^◌, ◌<◌, ◌≤◌, Bool, true, false, cond, not, eqb, ltb, leb, List, [], ◌∷◌, Some, None, Option, sym, refl, ap, ◌∙◌, subst, arith}
use native.Mathlib.Decide.{dec_lt}
use Rattle.std.proofs.lemmas.Bool.{cond-true, le-leb, ltb-true}
use Rattle.ranges.specs.Ranges.{least}
use Rattle.automata.specs.Steps.{Inside, onward}
use Rattle.automata.specs.Arena.{Arena}
use Rattle.automata.specs.Lawful.{LawfulArena}
use Rattle.games.specs.Plays.{Ground, after, led, Below, LawfulGround, Plan, later, Play, ends, goes, FulfilsAgainst}
use Rattle.games.specs.GroundColumns.{ground_byte}
use Rattle.games.specs.Following.{follows_by, followed, told_column, told_turned, followed_told}
use Rattle.games.specs.Meant.{Meant, IsUnplayable}
use Rattle.planner.specs.ArenaTables.{arena_grounds}
use Rattle.planner.specs.GroundReading.{ReadsBack}
use Rattle.assurance.specs.WrittenGround.{byte_in, column_at, turned_by, follows_bytes, written_ground}
use Rattle.assurance.specs.Assured.{GroundHolds}

abbrev pick : Bool → ℕ → ℕ
pick b n = elim b [ true ↦ zero | false ↦ suc n ]

-- the least number does not depend on what is asked past the bound
least_same : (m : ℕ) (f g : ℕ → Bool) → ((x : ℕ) → x < m → f x ≡ g x) → least m f ≡ least m g
least_same zero f g h = refl
least_same (suc m) f g h = go (f zero) (g zero) (h zero (omega arith)) (least_same m (λ x. f (suc x)) (λ x. g (suc x)) (λ x l. h (suc x) (omega arith)))
  where
    go : (b c : Bool) → b ≡ c → least m (λ x. f (suc x)) ≡ least m (λ x. g (suc x)) →
        pick b (least m (λ x. f (suc x))) ≡ pick c (least m (λ x. g (suc x)))
    go true true e ih = refl
    go false false e ih = ap suc ih
    go true false e ih = absurd (cc)
    go false true e ih = absurd (cc)

-- THE BYTES are the arena's ground columns
module _ (A : Arena) (L : LawfulArena A) (bs : List ℕ) (right : ℕ) (R : ReadsBack (arena_grounds A right) bs) where
  byte_is : (i q : ℕ) → i ≤ A.k → q < A.n → byte_in bs i q ≡ ground_byte A i q
  byte_is i q hi hq = ap (λ (o : Option ℕ). onward o 255 (λ x. x)) (R i q hi hq) ∙ cond-true (leb i A.k) (ground_byte A i q) 255 (le-leb i A.k hi)

  column_is : (q : ℕ) → q < A.n → column_at A bs q ≡ told_column A q
  column_is q hq =
      ap (λ (j : ℕ). cond (ltb j A.k) (suc j) zero)
      (least_same A.k (λ j. not (eqb (byte_in bs (suc j) q) 255)) (λ j. not (eqb (ground_byte A (suc j) q) 255)) (λ j l. ap (λ (b : ℕ). not (eqb b 255)) (byte_is (suc j) q (omega arith) hq)))

  turned_is : (i q : ℕ) → q < A.n → turned_by A bs i q ≡ told_turned A i q
  turned_is zero q hq = column_is q hq
  turned_is (suc j) q hq = refl

  turned_few : (i q : ℕ) → i ≤ A.k → told_turned A i q ≤ A.k
  turned_few zero q h = go (least A.k (λ j. not (eqb (ground_byte A (suc j) q) 255)))
    where
      inner : (j : ℕ) (b : Bool) → (b ≡ true → j < A.k) → cond b (suc j) zero ≤ A.k
      inner j true s = let l : j < A.k = s refl in omega arith
      inner j false s = omega arith

      go : (j : ℕ) → cond (ltb j A.k) (suc j) zero ≤ A.k
      go j = inner j (ltb j A.k) (ltb-true j A.k)
  turned_few (suc j) q h = h

  follows_is : (ys : List ℕ) (i q : ℕ) → i ≤ A.k → q < A.n → follows_bytes A bs i q ys ≡ follows_by A (told_turned A) i q ys
  follows_is [] i q hi hq = byte_is i q hi hq
  follows_is (y ∷ ys) i q hi hq =
      ap (λ (b : ℕ). onward (A.step q b y) 255 (λ q'. follows_bytes A bs (turned_by A bs i q') q' ys)) (byte_is i q hi hq)
      ∙ go (A.step q (ground_byte A i q) y) (L.step_inside q (ground_byte A i q) y) (follows_is ys)
    where
      go : (o : Option ℕ) → Inside A.n o → ((i q : ℕ) → i ≤ A.k → q < A.n → follows_bytes A bs i q ys ≡ follows_by A (told_turned A) i q ys) →
          onward o 255 (λ q'. follows_bytes A bs (turned_by A bs i q') q' ys) ≡ onward o 255 (λ q'. follows_by A (told_turned A) (told_turned A i q') q' ys)
      go None s ih = refl
      go (Some t) s ih = ap (λ (c : ℕ). follows_bytes A bs c t ys) (turned_is i t s) ∙ ih (told_turned A i t) t (turned_few i t hi) s

  written_told : (ys : List ℕ) → written_ground A bs ys ≡ followed_told A ys
  written_told ys =
      ap (λ (c : ℕ). follows_bytes A bs c A.start ys) (turned_is 0 A.start L.start_inside)
      ∙ follows_is ys (told_turned A 0 A.start) A.start (turned_few 0 A.start (omega arith)) L.start_inside

-- GROUNDS THAT AGREE on every list of commands
module _ (A : Arena) (L : LawfulArena A) where
  abbrev Agree : Ground → Ground → Type 0
  Agree g h = (ys : List ℕ) → Below (2 ^ A.b) ys → g ys ≡ h ys

  led_agree : (ys : List ℕ) (g h : Ground) (q : ℕ) → Agree g h → Below (2 ^ A.b) ys → led A g q ys ≡ led A h q ys
  led_agree [] g h q a b = refl
  led_agree (y ∷ ys) g h q a (l, b) =
      ap (λ (x : ℕ). onward (A.step q x y) None (λ q'. led A (after g y) q' ys)) (a [] tt) ∙ go (A.step q (h []) y) (led_agree ys (after g y) (after h y))
    where
      go : (o : Option ℕ) → ((q : ℕ) → Agree (after g y) (after h y) → Below (2 ^ A.b) ys → led A (after g y) q ys ≡ led A (after h y) q ys) →
          onward o None (λ q'. led A (after g y) q' ys) ≡ onward o None (λ q'. led A (after h y) q' ys)
      go None ih = refl
      go (Some t) ih = ih t (λ zs c. a (y ∷ zs) (l, c)) b

  lawful_agree : (g h : Ground) (q : ℕ) → Agree g h → LawfulGround A q g → LawfulGround A q h
  lawful_agree g h q a law ys b e = law ys b (led_agree ys g h q a b ∙ e)

  -- a command that steps is one
  given_small : (q x y t : ℕ) → A.step q x y ≡ Some t → y < 2 ^ A.b
  given_small q x y t e = go (dec_lt y (2 ^ A.b))
    where
      go : Dec (y < 2 ^ A.b) → y < 2 ^ A.b
      go (yes p) = p
      go (no p) =
          let none : A.step q x y ≡ None = L.command_outside q x y (omega (arith, p)) in
          absurd (cc)

  play_agree : {P : ℕ → Type 0} {p : Plan} {g : Ground} {q q' : ℕ} → Play A P p g q q' → (h : Ground) → Agree g h → Play A P p h q q'
  play_agree (ends x s) h a = ends x s
  play_agree {P} {p} {g} {q} (goes {q' = t} {q'' = u} x s st rest) h a =
      let e : g [] ≡ h [] = a [] tt in
      let y = p.gives [] (g []) in
      let small = given_small q (g []) y t st in
      let r : Play A P (later p (g [])) (after h y) t u = play_agree rest (after h y) (λ zs b. a (y ∷ zs) (small, b)) in
      goes x s (subst (λ (z : ℕ). A.step q z (p.gives [] z) ≡ Some t) e st) (subst (λ (z : ℕ). Play A P (later p z) (after h (p.gives [] z)) t u) e r)

  fulfils_agree : (p : Plan) (g h : Ground) → Agree g h → FulfilsAgainst A p g → FulfilsAgainst A p h
  fulfils_agree p g h a (t, play, m) = (t, play_agree play h a, m)

-- so the written ground is lawful, and no plan fulfils the job against it
pub ground_holds : (A : Arena) → LawfulArena A → (bs : List ℕ) (right : ℕ) → ReadsBack (arena_grounds A right) bs → Meant A → IsUnplayable A → GroundHolds A bs
ground_holds A L bs right R M u =
    let same : (ys : List ℕ) → Below (2 ^ A.b) ys → written_ground A bs ys ≡ followed A ys = λ ys b. written_told A L bs right R ys ∙ M.read_off u ys b in
    record {
      lawful = lawful_agree A L (followed A) (written_ground A bs) A.start (λ ys b. sym (same ys b)) (M.lawful_followed u);
      unbeaten = λ p f. M.defeats u p (fulfils_agree A L p (written_ground A bs) (followed A) same f);
    }
