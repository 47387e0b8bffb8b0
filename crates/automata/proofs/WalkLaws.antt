-- What layers make of words.
use Rattle.std.proofs.Common.{◌≡◌, ℕ, zero, suc, ◌+◌, ◌*◌, ◌/◌, ◌%◌, ◌<◌, ◌≤◌, Bool, true, false, cond, ◌&&◌, ◌||◌, eqb, ltb, leb, ◌⊎◌, List, [], ◌∷◌, length, take, Some, None, Option, sym, refl, ap, ◌∙◌, subst, ap₂, inl, inr, arith}
use mathlib.Core.Path.{fun_ext}
use Rattle.std.proofs.lemmas.Nat.{div-mul-add, mod-mul-add}
use Rattle.std.proofs.lemmas.Bool.{le-leb, lt-ltb, eq-eqb, ne_eqb, and_from, and_right, cond-true, cond-false, false≢true, or_left, or_right, or_cases}
use Rattle.automata.specs.Steps.{Inside, onward}
use Rattle.automata.specs.Arena.{Arena}
use Rattle.automata.specs.Machine.{Machine, machine_in}
use Rattle.automata.specs.Layers.{pair, both, held, right_fits}
use Rattle.automata.specs.Walks.{led, walked, Paired, Holds, Carries, Adds}
use Rattle.automata.specs.PairLaws.{pair_place}
use Rattle.automata.specs.declared.word.Round.{Round}

-- an automaton begins and stays among its states
abbrev pub Rooted : Machine → Type 0
Rooted m = (m.start < m.n) × ((q x y : ℕ) → Inside m.n (m.step q x y))

-- a word leads from a state to a state
inside : (m : Machine) → ((q x y : ℕ) → Inside m.n (m.step q x y)) → (w : List Round) (q t : ℕ) → q < m.n → led m.step q w ≡ Some t → t < m.n
inside m into [] q t h e = let same : q ≡ t = cc in subst (λ (z : ℕ). z < m.n) same h
inside m into (c ∷ w) q t h e = go (m.step q c.reading c.command) refl (inside m into w)
  where
    go : (o : Option ℕ) → m.step q c.reading c.command ≡ o → ((q t : ℕ) → q < m.n → led m.step q w ≡ Some t → t < m.n) → t < m.n
    go None d ih =
        let z : ◌≡◌ {A = Option ℕ} None (Some t) = sym (ap (λ (o : Option ℕ). onward o None (λ t. led m.step t w)) d) ∙ e in
        let y : ◌≡◌ {A = ℕ} 0 1 = cc in absurd (omega arith)
    go (Some u) d ih =
        ih u t (subst (Inside m.n) d (into q c.reading c.command)) (sym (ap (λ (o : Option ℕ). onward o None (λ t. led m.step t w)) d) ∙ e)

-- a pair that fits, over a word from any of its states
module _ (mark : ℕ → Bool) (P R : Machine)
    (in_r : (q x y : ℕ) → Inside R.n (R.step q x y)) where
  abbrev W : Machine
  W = pair true mark P R

  from : (w : List Round) (p r : ℕ) → r < R.n → led W.step (p * R.n + r) w ≡ both R.n (led P.step p w) (led R.step r w)
  from [] p r h = refl
  from (c ∷ w) p r h =
      let x = c.reading in
      let y = c.command in
      let step_is : W.step (p * R.n + r) x y ≡ both R.n (P.step p x y) (R.step r x y) =
      ap₂ (λ (i j : ℕ). both R.n (P.step i x y) (R.step j x y)) (div-mul-add p R.n r h) (mod-mul-add p R.n r h) in
      ap (λ (o : Option ℕ). onward o None (λ t. led W.step t w)) step_is ∙ go (P.step p x y) (R.step r x y) (in_r r x y) (from w)
    where
      go : (o u : Option ℕ) → Inside R.n u → ((p r : ℕ) → r < R.n → led W.step (p * R.n + r) w ≡ both R.n (led P.step p w) (led R.step r w)) →
          onward (both R.n o u) None (λ t. led W.step t w) ≡ both R.n (onward o None (λ t. led P.step t w)) (onward u None (λ t. led R.step t w))
      go None u i ih = refl
      go (Some p') None i ih = sym (none (led P.step p' w))
        where
          none : (o : Option ℕ) → both R.n o None ≡ None
          none None = refl
          none (Some z) = refl
      go (Some p') (Some r') i ih = ih p' r' i

  pub paired : R.start < R.n → Paired W P R
  paired h w = from w P.start R.start h

-- held over a word
held_step : Machine → ℕ → ℕ → ℕ → Option ℕ
held_step m q x y = onward (m.step (q / 2) x y) None (λ t. Some (2 * t + cond (m.marked t) 1 (q % 2)))

module _ (m : Machine) where
  -- marked after some rounds of the word from q, at least one
  ever : ℕ → List Round → Bool
  ever q [] = false
  ever q (c ∷ w) = onward (m.step q c.reading c.command) false (λ t. m.marked t || ever t w)

  abbrev Once : ℕ → List Round → Type 0
  Once q w = (i : ℕ) × (i ≤ length w) × ((p : ℕ) × (led m.step q (take i w) ≡ Some p) × (m.marked p ≡ true))

  once_ever : (w : List Round) (q : ℕ) → Once q w → (m.marked q || ever q w) ≡ true
  unfolding ever
  once_ever w q (zero, l, (p, e, k)) = let same : q ≡ p = cc in or_left (m.marked q) (ever q w) (ap (λ (z : ℕ). m.marked z) same ∙ k)
  once_ever [] q (suc i, l, u) = absurd (omega arith)
  once_ever (c ∷ w) q (suc i, l, (p, e, k)) = or_right (m.marked q) (ever q (c ∷ w)) (go (m.step q c.reading c.command) refl (once_ever w))
    where
      go : (o : Option ℕ) → m.step q c.reading c.command ≡ o → ((t : ℕ) → Once t w → (m.marked t || ever t w) ≡ true) → ever q (c ∷ w) ≡ true
      go None d ih =
          let n : ◌≡◌ {A = Option ℕ} None (Some p) = sym (ap (λ (o : Option ℕ). onward o None (λ t. led m.step t (take i w))) d) ∙ e in
          let z : ◌≡◌ {A = ℕ} 0 1 = cc in absurd (omega arith)
      go (Some t) d ih =
          let f : led m.step t (take i w) ≡ Some p = sym (ap (λ (o : Option ℕ). onward o None (λ t. led m.step t (take i w))) d) ∙ e in
          ap (λ (o : Option ℕ). onward o false (λ t. m.marked t || ever t w)) d ∙ ih t (i, omega arith, (p, f, k))

  ever_once : (w : List Round) (q : ℕ) → (m.marked q || ever q w) ≡ true → Once q w
  unfolding ever
  ever_once [] q e = go (or_cases (m.marked q) false e)
    where
      go : (m.marked q ≡ true) ⊎ (◌≡◌ {A = Bool} false true) → Once q []
      go (inl k) = (0, omega arith, (q, refl, k))
      go (inr k) = absurd (false≢true k)
  ever_once (c ∷ w) q e = pick (or_cases (m.marked q) (ever q (c ∷ w)) e) (m.step q c.reading c.command) refl (ever_once w)
    where
      pick : (m.marked q ≡ true) ⊎ (ever q (c ∷ w) ≡ true) → (o : Option ℕ) → m.step q c.reading c.command ≡ o → ((t : ℕ) → (m.marked t || ever t w) ≡ true → Once t w) → Once q (c ∷ w)
      pick (inl k) o d ih = (0, omega arith, (q, refl, k))
      pick (inr k) None d ih = absurd (false≢true (sym (ap (λ (o : Option ℕ). onward o false (λ t. m.marked t || ever t w)) d) ∙ k))
      pick (inr k) (Some t) d ih =
          let u = ih t (sym (ap (λ (o : Option ℕ). onward o false (λ t. m.marked t || ever t w)) d) ∙ k) in
          (suc u.0, omega (arith, u.1), (u.2.0, ap (λ (o : Option ℕ). onward o None (λ t. led m.step t (take u.0 w))) d ∙ u.2.1, u.2.2))

  -- the flag of a held state
  abbrev flag : Bool → ℕ
  flag b = cond b 1 0

  flag_half : (q : ℕ) (b : Bool) → ((2 * q + flag b) / 2 ≡ q) × ((2 * q + flag b) % 2 ≡ flag b)
  flag_half q true = (omega arith, omega arith)
  flag_half q false = (omega arith, omega arith)

  flag_on : (k b e : Bool) → (cond k true b || e) ≡ (b || (k || e))
  flag_on true true e = refl
  flag_on true false e = refl
  flag_on false b e = refl

  -- one step: the flag stays, or is earned
  held_on : (q x y t : ℕ) (b : Bool) → m.step q x y ≡ Some t → held_step m (2 * q + flag b) x y ≡ Some (2 * t + flag (cond (m.marked t) true b))
  unfolding held_step
  held_on q x y t b d =
      let h = flag_half q b in
      ap₂ (λ (i j : ℕ). onward (m.step i x y) None (λ t. Some (2 * t + cond (m.marked t) 1 j))) h.0 h.1
      ∙ ap (λ (o : Option ℕ). onward o None (λ t. Some (2 * t + cond (m.marked t) 1 (flag b)))) d
      ∙ ap {B = Option ℕ} (λ (s : ℕ). Some (2 * t + s)) (earned (m.marked t))
    where
      earned : (k : Bool) → cond k 1 (flag b) ≡ flag (cond k true b)
      earned true = refl
      earned false = refl

  held_off : (q x y : ℕ) (b : Bool) → m.step q x y ≡ None → held_step m (2 * q + flag b) x y ≡ None
  unfolding held_step
  held_off q x y b d =
      let h = flag_half q b in
      ap₂ (λ (i j : ℕ). onward (m.step i x y) None (λ t. Some (2 * t + cond (m.marked t) 1 j))) h.0 h.1
      ∙ ap (λ (o : Option ℕ). onward o None (λ t. Some (2 * t + cond (m.marked t) 1 (flag b)))) d

  -- over a word: it stands over the one below, with the flag that it has earned
  abbrev Over : List Round → ℕ → Bool → Option ℕ → Type 0
  Over w q b None = led (held_step m) (2 * q + flag b) w ≡ None
  Over w q b (Some t) = led (held_step m) (2 * q + flag b) w ≡ Some (2 * t + flag (b || ever q w))

  held_over : (w : List Round) (q : ℕ) (b : Bool) → Over w q b (led m.step q w)
  unfolding ever
  held_over [] q b = ap {B = Option ℕ} (λ (z : Bool). Some (2 * q + flag z)) (same b)
    where
      same : (b : Bool) → b ≡ (b || false)
      same true = refl
      same false = refl
  held_over (c ∷ w) q b = go (m.step q c.reading c.command) refl (held_over w)
    where
      go : (o : Option ℕ) → m.step q c.reading c.command ≡ o → ((t : ℕ) (b : Bool) → Over w t b (led m.step t w)) → Over (c ∷ w) q b (led m.step q (c ∷ w))
      go None d ih =
          subst (Over (c ∷ w) q b) (sym (ap (λ (o : Option ℕ). onward o None (λ t. led m.step t w)) d))
          (ap (λ (o : Option ℕ). onward o None (λ t. led (held_step m) t w)) (held_off q c.reading c.command b d))
      go (Some t) d ih =
          subst (Over (c ∷ w) q b) (sym (ap (λ (o : Option ℕ). onward o None (λ t. led m.step t w)) d)) (lift (led m.step t w) (ih t (cond (m.marked t) true b)))
        where
          on : led (held_step m) (2 * q + flag b) (c ∷ w) ≡ led (held_step m) (2 * t + flag (cond (m.marked t) true b)) w
          on = ap (λ (o : Option ℕ). onward o None (λ t. led (held_step m) t w)) (held_on q c.reading c.command t b d)

          ever_is : ever q (c ∷ w) ≡ (m.marked t || ever t w)
          ever_is = ap (λ (o : Option ℕ). onward o false (λ t. m.marked t || ever t w)) d

          lift : (r : Option ℕ) → Over w t (cond (m.marked t) true b) r → Over (c ∷ w) q b r
          lift None h = on ∙ h
          lift (Some u) h =
              on ∙ h ∙ ap {B = Option ℕ} (λ (z : Bool). Some (2 * u + flag z)) (flag_on (m.marked t) b (ever t w) ∙ ap (λ (z : Bool). b || z) (sym ever_is))

-- where the states below fit, held is what was said above
module _ (m : Machine) (L : Rooted m) (few : m.n ≤ 128) where
  fits_is : leb m.n 128 ≡ true
  fits_is = le-leb m.n 128 few

  step_is : (held m).step ≡ held_step m
  unfolding held_step
  step_is = fun_ext (λ q. fun_ext (λ x. fun_ext (λ y. cond-true (leb m.n 128) _ None fits_is)))

  start_is : (held m).start ≡ 2 * m.start + flag m (m.marked m.start)
  start_is = cond-true (leb m.n 128) _ 0 fits_is

  walk_is : (w : List Round) → walked (held m) w ≡ led (held_step m) (2 * m.start + flag m (m.marked m.start)) w
  walk_is w = ap₂ (λ (f : ℕ → ℕ → ℕ → Option ℕ) (q : ℕ). led f q w) step_is start_is

  mark_is : (t : ℕ) (b : Bool) → t < m.n → (held m).marked (2 * t + flag m b) ≡ b
  mark_is t true l =
      and_from (leb m.n 128 && ltb (2 * t + 1) (2 * m.n)) _ (and_from (leb m.n 128) _ fits_is (lt-ltb (2 * t + 1) (2 * m.n) (omega arith))) (eq-eqb _ 1 (flag_half m t true).1)
  mark_is t false l = and_right (leb m.n 128 && ltb (2 * t + 0) (2 * m.n)) _ (ne_eqb _ 1 (λ z. omega (arith, (flag_half m t false).1)))

  pub holds : Holds m
  holds = record {
    stands = λ w q e.
        let b = m.marked m.start || ever m m.start w in
        let over = subst (Over m w m.start (m.marked m.start)) e (held_over m w m.start (m.marked m.start)) in
        let mark = mark_is q b (inside m L.1 w m.start q L.0 e) in
        (2 * q + flag m b, walk_is w ∙ over, (flag_half m q b).0, (λ k. ever_once m w m.start (sym mark ∙ k), λ o. mark ∙ once_ever m w m.start o));
    falls = λ w e. walk_is w ∙ subst (Over m w m.start (m.marked m.start)) e (held_over m w m.start (m.marked m.start));
  }

-- what pairs make of marks
module _ (P R : Machine) (LP : Rooted P) (LR : Rooted R) (w : List Round) (p r : ℕ) (ep : walked P w ≡ Some p) (er : walked R w ≡ Some r) where
  pub at_first : (p * R.n + r) / R.n ≡ p
  at_first = div-mul-add p R.n r (inside R LR.1 w R.start r LR.0 er)

  pub at_second : (p * R.n + r) % R.n ≡ r
  at_second = mod-mul-add p R.n r (inside R LR.1 w R.start r LR.0 er)

  pub at_inside : ltb (p * R.n + r) (P.n * R.n) ≡ true
  at_inside =
      lt-ltb _ _ (pair_place P.n R.n p r (inside P LP.1 w P.start p LP.0 ep) (inside R LR.1 w R.start r LR.0 er))

pub carries : (G D : Machine) → Rooted G → Rooted D → G.n * D.n ≤ 256 → Carries G D
carries G D LG LD few =
    let fits : leb (G.n * D.n) 256 ≡ true = le-leb (G.n * D.n) 256 few in
    record {
      stands = subst (λ (b : Bool). Paired (pair b (λ q. D.marked (q % D.n)) G D) G D) (sym fits) (paired (λ q. D.marked (q % D.n)) G D LD.1 LD.0);
      duty = λ w p r ep er.
          ap (λ (b : Bool). b && D.marked ((p * D.n + r) % D.n)) (and_from (leb (G.n * D.n) 256) _ fits (at_inside G D LG LD w p r ep er))
          ∙ ap (λ (q : ℕ). D.marked q) (at_second G D LG LD w p r ep er);
    }

pub adds : (A : Arena) (R : Machine) → Rooted (machine_in A) → Rooted R → A.n * R.n ≤ 256 → A.k < 4 → Adds A R
adds A R LA LR few more =
    let P = machine_in A in
    let fits : right_fits A R ≡ true = and_from (leb (A.n * R.n) 256) _ (le-leb (A.n * R.n) 256 few) (lt-ltb A.k 4 more) in
    record {
      stands = subst (λ (b : Bool). Paired (pair b (λ q. A.marked (q / R.n)) P R) P R) (sym fits) (paired (λ q. A.marked (q / R.n)) P R LR.1 LR.0);
      duty = λ w p r ep er.
          ap (λ (b : Bool). b && A.marked ((p * R.n + r) / R.n)) (and_from (right_fits A R) _ fits (at_inside P R LA LR w p r ep er))
          ∙ ap (λ (q : ℕ). A.marked q) (at_first P R LA LR w p r ep er);
      count = cond-true (right_fits A R) (A.k + 1) 0 fits;
      last = λ w p r ep er.
          ap (λ (b : Bool). b && cond (eqb (A.k + 1) (A.k + 1)) (R.marked ((p * R.n + r) % R.n)) (A.right (A.k + 1) ((p * R.n + r) / R.n))) (and_from (right_fits A R) _ fits (at_inside P R LA LR w p r ep er))
          ∙ cond-true (eqb (A.k + 1) (A.k + 1)) _ _ (eq-eqb (A.k + 1) (A.k + 1) refl)
          ∙ ap (λ (q : ℕ). R.marked q) (at_second P R LA LR w p r ep er);
      others = λ w p r ep er i l.
          ap (λ (b : Bool). b && cond (eqb i (A.k + 1)) (R.marked ((p * R.n + r) % R.n)) (A.right i ((p * R.n + r) / R.n))) (and_from (right_fits A R) _ fits (at_inside P R LA LR w p r ep er))
          ∙ cond-false (eqb i (A.k + 1)) _ _ (ne_eqb i (A.k + 1) (λ z. omega arith))
          ∙ ap (λ (q : ℕ). A.right i q) (at_first P R LA LR w p r ep er);
    }
