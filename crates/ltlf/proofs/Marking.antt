-- The codes of a rule's terms against its meaning.
use Rattle.std.proofs.Common.{◌≡◌, ℕ, zero, suc, ◌+◌, ◌*◌, ◌/◌, ◌%◌, ◌<◌, ◌≤◌, Bool, true, false, cond, not, ◌&&◌, ◌||◌, eqb, List, [], ◌∷◌, length, Decides, refl, ap, ◌∙◌, mod-eq_of_lt, zero-add, arith}
use Rattle.std.proofs.lemmas.Bool.{and_from, and_parts, false≢true, or_right}
use native.Mathlib.Nat.{add-mul-mod_self_left, add-mul-div_left, div-eq_of_lt, zero-mod, zero-div}
use Rattle.std.proofs.lemmas.Bool.Decides.{Decides-not, Decides-and, Decides-or, Decides-at}
use Rattle.ltlf.specs.Operators.{temporal2, joined}
use Rattle.ltlf.specs.Formulas.{Ltl, truth, digit, one, two, plain, unnested}
use Rattle.ltlf.specs.Words.{digit_bit, round_at, Holds}
use Rattle.ltlf.specs.Codes.{shows, codes, stepped, marks, later, code_after}
use Rattle.ltlf.specs.declared.formula.Unary.TheVariants.{Not, Next, Eventually, Always}
use Rattle.ltlf.specs.declared.formula.Binary.{Binary}
use Rattle.ltlf.specs.declared.formula.Binary.TheVariants.{And, Or, Until}
use Rattle.automata.specs.declared.word.Round.{Round}
use Rattle.ltlf.specs.CodeLaws.{codes_some, stepped_two, stepped_lt}

-- ---- one round

shows_decides : (a : ℕ) (w : List Round) (i : ℕ) (p : Ltl) → plain p ≡ true → Decides (shows a (round_at w i) p) (Holds a w i p)
shows_decides a w i (truth v) h = (λ e. e, λ e. e)
shows_decides a w i (digit j) h = (λ e. e, λ e. e)
shows_decides a w i (one Not p) h = Decides-not _ (shows_decides a w i p h)
shows_decides a w i (one Next p) h = absurd (false≢true h)
shows_decides a w i (one Eventually p) h = absurd (false≢true h)
shows_decides a w i (one Always p) h = absurd (false≢true h)
shows_decides a w i (two And p q) h = Decides-and _ _ (shows_decides a w i p (and_parts (plain p) (plain q) h).0) (shows_decides a w i q (and_parts (plain p) (plain q) h).1)
shows_decides a w i (two Or p q) h = Decides-or _ _ (shows_decides a w i p (and_parts (plain p) (plain q) h).0) (shows_decides a w i q (and_parts (plain p) (plain q) h).1)
shows_decides a w i (two Until p q) h = absurd (false≢true h)

hit : (b : Bool) → eqb (cond b 1 0) 1 ≡ b
hit true = refl
hit false = refl

told : (b : Bool) → eqb (cond b 1 2) 1 ≡ b
told true = refl
told false = refl

kept : (b : Bool) → not (eqb (cond b 0 2) 2) ≡ b
kept true = refl
kept false = refl

-- ---- rounds of a word that pass a test

abbrev any_of : (Round → Bool) → List Round → Bool
any_of f [] = false
any_of f (r ∷ w) = f r || any_of f w

any_finds : (f : Round → Bool) (w : List Round) → any_of f w ≡ true → (j : ℕ) × (0 ≤ j) × (j < length w) × (f (round_at w j) ≡ true)
any_finds f [] e = absurd (false≢true e)
any_finds f (r ∷ w) e = go (f r) refl e (any_finds f w)
  where
    go : (b : Bool) → f r ≡ b → (b || any_of f w) ≡ true → (any_of f w ≡ true → (j : ℕ) × (0 ≤ j) × (j < length w) × (f (round_at w j) ≡ true)) → (j : ℕ) × (0 ≤ j) × (j < length (r ∷ w)) × (f (round_at (r ∷ w) j) ≡ true)
    go true h e rest = (0, omega arith, omega arith, h)
    go false h e rest = let s = rest e in (suc s.0, omega arith, omega (arith, s.2), s.3)

any_has : (f : Round → Bool) (w : List Round) (j : ℕ) → j < length w → f (round_at w j) ≡ true → any_of f w ≡ true
any_has f [] j l e = absurd (omega arith)
any_has f (r ∷ w) zero l e = rw e refl
any_has f (r ∷ w) (suc j) l e = or_right (f r) _ (any_has f w j (omega arith) e)

abbrev all_of : (Round → Bool) → List Round → Bool
all_of f [] = true
all_of f (r ∷ w) = f r && all_of f w

all_each : (f : Round → Bool) (w : List Round) → all_of f w ≡ true → (j : ℕ) → j < length w → f (round_at w j) ≡ true
all_each f [] e j l = absurd (omega arith)
all_each f (r ∷ w) e zero l = (and_parts (f r) (all_of f w) e).0
all_each f (r ∷ w) e (suc j) l = all_each f w (and_parts (f r) (all_of f w) e).1 j (omega arith)

all_made : (f : Round → Bool) (w : List Round) → ((j : ℕ) → j < length w → f (round_at w j) ≡ true) → all_of f w ≡ true
all_made f [] h = refl
all_made f (r ∷ w) h = and_from (f r) _ (h 0 (omega arith)) (all_made f w (λ j l. h (suc j) (omega arith)))

abbrev until_of : (Round → Bool) → (Round → Bool) → List Round → ℕ
until_of f g [] = 0
until_of f g (r ∷ w) = cond (g r) 1 (cond (f r) (until_of f g w) 2)

abbrev Witness : (Round → Bool) → (Round → Bool) → List Round → Type 0
Witness f g w = (j : ℕ) × (0 ≤ j) × (j < length w) × (g (round_at w j) ≡ true) × ((k : ℕ) → 0 ≤ k → k < j → f (round_at w k) ≡ true)

until_finds : (f g : Round → Bool) (w : List Round) → eqb (until_of f g w) 1 ≡ true → Witness f g w
until_finds f g [] e = absurd (false≢true e)
until_finds f g (r ∷ w) e = go (g r) (f r) refl refl e (until_finds f g w)
  where
    before : (j : ℕ) → f r ≡ true → ((k : ℕ) → 0 ≤ k → k < j → f (round_at w k) ≡ true) → (k : ℕ) → 0 ≤ k → k < suc j → f (round_at (r ∷ w) k) ≡ true
    before j h rest zero l m = h
    before j h rest (suc k) l m = rest k (omega arith) (omega arith)

    go : (b d : Bool) → g r ≡ b → f r ≡ d → eqb (cond b 1 (cond d (until_of f g w) 2)) 1 ≡ true → (eqb (until_of f g w) 1 ≡ true → Witness f g w) → Witness f g (r ∷ w)
    go true d h k e rest = (0, omega arith, omega arith, h, λ i l m. absurd (omega arith))
    go false true h k e rest = let s = rest e in (suc s.0, omega arith, omega (arith, s.2), s.3, before s.0 k s.4)
    go false false h k e rest = absurd (false≢true e)

until_has : (f g : Round → Bool) (w : List Round) (j : ℕ) → j < length w → g (round_at w j) ≡ true → ((k : ℕ) → 0 ≤ k → k < j → f (round_at w k) ≡ true) → eqb (until_of f g w) 1 ≡ true
until_has f g [] j l e h = absurd (omega arith)
until_has f g (r ∷ w) zero l e h = rw e refl
until_has f g (r ∷ w) (suc j) l e h =
    let first : f r ≡ true = h 0 (omega arith) (omega arith) in
    let rest = until_has f g w j (omega arith) e (λ k m n. h (suc k) (omega arith) (omega arith)) in
    rw first (elim (g r) as (λ b. eqb (cond b 1 (until_of f g w)) 1 ≡ true) [ true ↦ refl | false ↦ rest ])

-- ---- the code of one term after a word

module _ (a : ℕ) (p : Ltl) where
  ev_true : (w : List Round) → later a (one Eventually p) 1 w ≡ 1
  ev_true [] = refl
  ev_true (r ∷ w) = ev_true w

  ev_open : (w : List Round) → later a (one Eventually p) 0 w ≡ cond (any_of (λ r. shows a r p) w) 1 0
  ev_open [] = refl
  ev_open (r ∷ w) =
      elim (shows a r p) as (λ b. later a (one Eventually p) (cond b 1 0) w ≡ cond (b || any_of (λ r. shows a r p) w) 1 0)
      [ true ↦ ev_true w | false ↦ ev_open w ]

  al_false : (w : List Round) → later a (one Always p) 2 w ≡ 2
  al_false [] = refl
  al_false (r ∷ w) = al_false w

  al_open : (w : List Round) → later a (one Always p) 0 w ≡ cond (all_of (λ r. shows a r p) w) 0 2
  al_open [] = refl
  al_open (r ∷ w) =
      elim (shows a r p) as (λ b. later a (one Always p) (cond b 0 2) w ≡ cond (b && all_of (λ r. shows a r p) w) 0 2)
      [ true ↦ al_open w | false ↦ al_false w ]

  nx_true : (w : List Round) → later a (one Next p) 1 w ≡ 1
  nx_true [] = refl
  nx_true (r ∷ w) = nx_true w

  nx_false : (w : List Round) → later a (one Next p) 2 w ≡ 2
  nx_false [] = refl
  nx_false (r ∷ w) = nx_false w

  nx_told : (b : Bool) (w : List Round) → later a (one Next p) (cond b 1 2) w ≡ cond b 1 2
  nx_told true w = nx_true w
  nx_told false w = nx_false w

  pub not_later : (c : ℕ) (w : List Round) → later a (one Not p) c w ≡ later a p c w
  not_later c [] = refl
  not_later c (r ∷ w) = not_later (stepped a false r p c) w

  un_true : (q : Ltl) (w : List Round) → later a (two Until p q) 1 w ≡ 1
  un_true q [] = refl
  un_true q (r ∷ w) = un_true q w

  un_false : (q : Ltl) (w : List Round) → later a (two Until p q) 2 w ≡ 2
  un_false q [] = refl
  un_false q (r ∷ w) = un_false q w

  un_open : (q : Ltl) (w : List Round) → later a (two Until p q) 0 w ≡ until_of (λ r. shows a r p) (λ r. shows a r q) w
  un_open q [] = refl
  un_open q (r ∷ w) =
      elim (shows a r q) as (λ b. later a (two Until p q) (cond b 1 (cond (shows a r p) 0 2)) w ≡ cond b 1 (cond (shows a r p) (until_of (λ r. shows a r p) (λ r. shows a r q) w) 2)) [
        | true ↦ un_true q w
        | false ↦ elim (shows a r p) as (λ d. later a (two Until p q) (cond d 0 2) w ≡ cond d (until_of (λ r. shows a r p) (λ r. shows a r q) w) 2)
            [ true ↦ un_open q w | false ↦ un_false q w ]
      ]

digit_later : (a j c : ℕ) (w : List Round) → later a (digit j) c w ≡ c
digit_later a j c [] = refl
digit_later a j c (r ∷ w) = digit_later a j c w

pub later_lt : (a : ℕ) (p : Ltl) (c : ℕ) (w : List Round) → c < codes p → later a p c w < codes p
later_lt a p c [] h = h
later_lt a p c (r ∷ w) h = later_lt a p (stepped a false r p c) w (stepped_lt a false r p c h)

-- ---- two sides

low_of : (u v m : ℕ) → u < m → (u + m * v) % m ≡ u
low_of u v m h = add-mul-mod_self_left u m v ∙ mod-eq_of_lt h

high_of : (u v m : ℕ) → u < m → (u + m * v) / m ≡ v
high_of u v m h = add-mul-div_left u v (omega arith) ∙ ap (λ x. x + v) (div-eq_of_lt h) ∙ zero-add v

module _ (a : ℕ) (o : Binary) (e : temporal2 o ≡ false) (p q : Ltl) where
  two_later : (c d : ℕ) (w : List Round) → c < codes p → later a (two o p q) (c + codes p * d) w ≡ later a p c w + codes p * later a q d w
  two_later c d [] h = refl
  two_later c d (r ∷ w) h =
      let m : ℕ = codes p in
      ap (λ x. later a (two o p q) x w) (stepped_two a false r o p q (c + m * d) e)
      ∙ ap (λ x. later a (two o p q) (stepped a false r p x + m * stepped a false r q ((c + m * d) / m)) w) (low_of c d m h)
      ∙ ap (λ x. later a (two o p q) (stepped a false r p c + m * stepped a false r q x) w) (high_of c d m h)
      ∙ two_later (stepped a false r p c) (stepped a false r q d) w (stepped_lt a false r p c h)

  pub two_codes : (r : Round) (w : List Round) → code_after a r w (two o p q) ≡ code_after a r w p + codes p * code_after a r w q
  two_codes r w =
      let m : ℕ = codes p in
      ap (λ x. later a (two o p q) x w) (stepped_two a true r o p q 0 e)
      ∙ ap (λ x. later a (two o p q) (stepped a true r p x + m * stepped a true r q (0 / m)) w) (zero-mod m)
      ∙ ap (λ x. later a (two o p q) (stepped a true r p 0 + m * stepped a true r q x) w) (zero-div m)
      ∙ two_later (stepped a true r p 0) (stepped a true r q 0) w (stepped_lt a true r p 0 (codes_some p))

  two_marks : (r : Round) (w : List Round) →
      marks (two o p q) (code_after a r w (two o p q)) ≡ joined o (marks p (code_after a r w p)) (marks q (code_after a r w q))
  two_marks r w =
      let m : ℕ = codes p in
      let u : ℕ = code_after a r w p in
      let v : ℕ = code_after a r w q in
      let h : u < m = later_lt a p _ w (stepped_lt a true r p 0 (codes_some p)) in
      ap (marks (two o p q)) (two_codes r w)
      ∙ ap (λ b. cond b (eqb (u + m * v) 1) (joined o (marks p ((u + m * v) % m)) (marks q ((u + m * v) / m)))) e
      ∙ ap (λ x. joined o (marks p x) (marks q ((u + m * v) / m))) (low_of u v m h)
      ∙ ap (λ x. joined o (marks p u) (marks q x)) (high_of u v m h)

-- ---- a whole rule

pub after : (a : ℕ) (p : Ltl) → unnested p ≡ true → (r : Round) (w : List Round) → Decides (marks p (code_after a r w p)) (Holds a (r ∷ w) 0 p)
after a (truth v) h r w = (λ e. e, λ e. e)
after a (digit j) h r w =
    Decides-at _ (digit_bit a r j) (ap (λ c. eqb c 1) (digit_later a j _ w) ∙ told (digit_bit a r j)) (λ e. e, λ e. e)
after a (one Not p) h r w =
    Decides-at _ (not (marks p (code_after a r w p))) (ap (λ c. not (marks p c)) (not_later a p _ w)) (Decides-not _ (after a p h r w))
after a (one Next p) h r [] = (λ e. absurd (false≢true e), λ x. absurd (omega (arith, x.0)))
after a (one Next p) h r (s ∷ w) =
    let d = shows_decides a (r ∷ s ∷ w) 1 p h in
    Decides-at _ (shows a s p) (ap (λ c. eqb c 1) (nx_told a p (shows a s p) w) ∙ told (shows a s p))
    (λ e. (omega arith, d.0 e), λ x. d.1 x.1)
after a (one Eventually p) h r w =
    let d = λ (j : ℕ). shows_decides a (r ∷ w) j p h in
    Decides-at _ (any_of (λ r. shows a r p) (r ∷ w)) (ap (λ c. eqb c 1) (ev_open a p (r ∷ w)) ∙ hit (any_of (λ r. shows a r p) (r ∷ w))) (
      λ e. let s = any_finds (λ r. shows a r p) (r ∷ w) e in (s.0, s.1, s.2, (d s.0).0 s.3),
      λ x. any_has (λ r. shows a r p) (r ∷ w) x.0 x.2 ((d x.0).1 x.3),
    )
after a (one Always p) h r w =
    let d = λ (j : ℕ). shows_decides a (r ∷ w) j p h in
    Decides-at _ (all_of (λ r. shows a r p) (r ∷ w)) (ap (λ c. not (eqb c 2)) (al_open a p (r ∷ w)) ∙ kept (all_of (λ r. shows a r p) (r ∷ w))) (
      λ e j _ l. (d j).0 (all_each (λ r. shows a r p) (r ∷ w) e j l),
      λ x. all_made (λ r. shows a r p) (r ∷ w) (λ j l. (d j).1 (x j (omega arith) l)),
    )
after a (two And p q) h r w =
    Decides-at _ _ (two_marks a And refl p q r w)
    (Decides-and _ _ (after a p (and_parts (unnested p) (unnested q) h).0 r w) (after a q (and_parts (unnested p) (unnested q) h).1 r w))
after a (two Or p q) h r w =
    Decides-at _ _ (two_marks a Or refl p q r w)
    (Decides-or _ _ (after a p (and_parts (unnested p) (unnested q) h).0 r w) (after a q (and_parts (unnested p) (unnested q) h).1 r w))
after a (two Until p q) h r w =
    let f : Round → Bool = λ r. shows a r p in
    let g : Round → Bool = λ r. shows a r q in
    let d = λ (j : ℕ). shows_decides a (r ∷ w) j p (and_parts (plain p) (plain q) h).0 in
    let e = λ (j : ℕ). shows_decides a (r ∷ w) j q (and_parts (plain p) (plain q) h).1 in
    Decides-at _ (eqb (until_of f g (r ∷ w)) 1) (ap (λ c. eqb c 1) (un_open a p q (r ∷ w))) (
      λ x. let s = until_finds f g (r ∷ w) x in (s.0, s.1, s.2, (e s.0).0 s.3, λ k l m. (d k).0 (s.4 k l m)),
      λ x. until_has f g (r ∷ w) x.0 x.2 ((e x.0).1 x.3) (λ k l m. (d k).1 (x.4 k l m)),
    )
