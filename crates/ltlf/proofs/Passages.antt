-- How one byte and its operands are passed over.
use Rattle.std.proofs.Common.{◌≡◌, ℕ, zero, suc, ◌-◌, ◌<◌, ◌≤◌, Bool, ◌||◌, List, [], ◌∷◌, length, get_or, take, drop, Ok, Err, Result, sym, refl, ap, ◌∙◌, subst, arith}
use Rattle.ltlf.specs.Operators.{temporal1, temporal2}
use Rattle.ltlf.specs.Formulas.{Ltl, truth, digit, one, two}
use Rattle.ltlf.specs.Tokens.{token, terms_with}
use Rattle.ltlf.specs.Reading.{Read, chain, operands, follows, reads}
use Rattle.ltlf.specs.Passing.{Passes}
use Rattle.ltlf.specs.declared.fault.TextFault.{TextFault}
use Rattle.ltlf.specs.declared.fault.TextFault.TheVariants.{TextEnds}
use Rattle.ltlf.specs.declared.formula.Unary.{Unary as UnaryOp}
use Rattle.ltlf.specs.declared.formula.Binary.{Binary as BinaryOp}
use Rattle.ltlf.specs.declared.token.Token.{Token}
use Rattle.ltlf.specs.declared.token.Token.TheVariants.{Truth, Digit, Unary, Binary}

take_whole : (xs : List ℕ) → take (length xs) xs ≡ xs
take_whole [] = refl
take_whole (x ∷ xs) = ap (λ l. x ∷ l) (take_whole xs)

-- the first byte and the bytes behind it
pub peel : (bs : List ℕ) → 1 ≤ length bs → bs ≡ get_or bs 0 0 ∷ take (length bs - 1) (drop 1 bs)
peel [] h = absurd (omega arith)
peel (x ∷ xs) h =
    let e : length (x ∷ xs) - 1 ≡ length xs = omega arith in
    rw e (ap (λ l. x ∷ l) (sym (take_whole xs)))

pub ends : (k bits n : ℕ) (b : Bool) (bs : List ℕ) → length bs < 1 → reads k bits b n bs ≡ Err TextEnds
ends zero bits n b bs h = refl
ends (suc k) bits n b [] h = refl
ends (suc k) bits n b (x ∷ xs) h = absurd (omega arith)

unrolled_cons : (k bits n : ℕ) (b : Bool) (c : ℕ) (cs : List ℕ) → length (c ∷ cs) ≤ k →
    (j : ℕ) × (length cs ≤ j) × (reads k bits b n (c ∷ cs) ≡ chain (token bits c) (follows (reads j bits) b n cs))
unrolled_cons zero bits n b c cs h = absurd (omega arith)
unrolled_cons (suc k) bits n b c cs h = (k, omega arith, refl)

module _ (bits n : ℕ) (b : Bool) (bs cs : List ℕ) (c : ℕ) (e : bs ≡ c ∷ cs) where
  by_token : (x : Result Token TextFault) → token bits c ≡ x → (k : ℕ) → length bs ≤ k →
      (j : ℕ) × (length cs ≤ j) × (reads k bits b n bs ≡ chain x (follows (reads j bits) b n cs))
  by_token x t k h =
      let u = unrolled_cons k bits n b c cs (subst (λ l. length l ≤ k) e h) in
      (u.0, u.1, ap (reads k bits b n) e ∙ u.2 ∙ ap (λ x. chain x (follows (reads u.0 bits) b n cs)) t)

  by_terms : (t : Token) (x : Result ℕ TextFault) → token bits c ≡ Ok t → terms_with t b n ≡ x → (k : ℕ) → length bs ≤ k →
      (j : ℕ) × (length cs ≤ j) × (reads k bits b n bs ≡ chain x (λ m. operands (reads j bits) b m cs t))
  by_terms t x s a k h =
      let u = by_token (Ok t) s k h in
      (u.0, u.1, u.2 ∙ ap (λ x. chain x (λ m. operands (reads u.0 bits) b m cs t)) a)

  pub token_fault : (x : TextFault) → token bits c ≡ Err x → (k : ℕ) → length bs ≤ k → reads k bits b n bs ≡ Err x
  token_fault x t k h = (by_token (Err x) t k h).2

  pub term_fault : (t : Token) (x : TextFault) → token bits c ≡ Ok t → terms_with t b n ≡ Err x →
      (k : ℕ) → length bs ≤ k → reads k bits b n bs ≡ Err x
  term_fault t x s a k h = (by_terms t (Err x) s a k h).2

  pub truth_passes : (v : Bool) (m : ℕ) → token bits c ≡ Ok (Truth v) → terms_with (Truth v) b n ≡ Ok m →
      (k : ℕ) → length bs ≤ k → reads k bits b n bs ≡ Ok (record { formula = truth v; terms = m; rest = cs })
  truth_passes v m s a k h = (by_terms (Truth v) (Ok m) s a k h).2

  pub digit_passes : (j m : ℕ) → token bits c ≡ Ok (Digit j) → terms_with (Digit j) b n ≡ Ok m →
      (k : ℕ) → length bs ≤ k → reads k bits b n bs ≡ Ok (record { formula = digit j; terms = m; rest = cs })
  digit_passes j m s a k h = (by_terms (Digit j) (Ok m) s a k h).2

  one_step : (o : UnaryOp) (y : Result Read TextFault) (j : ℕ) (m : ℕ) → reads j bits (b || temporal1 o) m cs ≡ y →
      operands (reads j bits) b m cs (Unary o) ≡ chain y (λ p. Ok (record { formula = one o p.formula; terms = p.terms; rest = p.rest }))
  one_step o y j m i = ap (λ y. chain y (λ p. Ok (record { formula = one o p.formula; terms = p.terms; rest = p.rest }))) i

  pub one_reads : (o : UnaryOp) (m : ℕ) (g : Read) → token bits c ≡ Ok (Unary o) → terms_with (Unary o) b n ≡ Ok m →
      ((k : ℕ) → length cs ≤ k → reads k bits (b || temporal1 o) m cs ≡ Ok g) →
      (k : ℕ) → length bs ≤ k → reads k bits b n bs ≡ Ok (record { formula = one o g.formula; terms = g.terms; rest = g.rest })
  one_reads o m g s a ih k h =
      let u = by_terms (Unary o) (Ok m) s a k h in
      u.2 ∙ one_step o (Ok g) u.0 m (ih u.0 u.1)

  pub one_passes : (o : UnaryOp) (m : ℕ) (r : Result (Unit {0}) TextFault) (n' : ℕ) (after : List ℕ) → token bits c ≡ Ok (Unary o) → terms_with (Unary o) b n ≡ Ok m →
      ((k : ℕ) → length cs ≤ k → Passes r n' after (reads k bits (b || temporal1 o) m cs)) →
      (k : ℕ) → length bs ≤ k → Passes r n' after (reads k bits b n bs)
  one_passes o m (Ok x) n' after s a ih k h =
      let u = by_terms (Unary o) (Ok m) s a k h in
      let i = ih u.0 u.1 in
      (one o i.0, u.2 ∙ one_step o _ u.0 m i.1)
  one_passes o m (Err x) n' after s a ih k h =
      let u = by_terms (Unary o) (Ok m) s a k h in
      u.2 ∙ one_step o _ u.0 m (ih u.0 u.1)

  abbrev second : (o : BinaryOp) (j : ℕ) (p : Read) → Result Read TextFault
  second o j p = chain (reads j bits (b || temporal2 o) p.terms p.rest) (λ q. Ok (record { formula = two o p.formula q.formula; terms = q.terms; rest = q.rest }))

  two_step : (o : BinaryOp) (y : Result Read TextFault) (j : ℕ) (m : ℕ) → reads j bits (b || temporal2 o) m cs ≡ y →
      operands (reads j bits) b m cs (Binary o) ≡ chain y (second o j)
  two_step o y j m i = ap (λ y. chain y (second o j)) i

  last_step : (o : BinaryOp) (p : Read) (z : Result Read TextFault) (j : ℕ) → reads j bits (b || temporal2 o) p.terms p.rest ≡ z →
      second o j p ≡ chain z (λ q. Ok (record { formula = two o p.formula q.formula; terms = q.terms; rest = q.rest }))
  last_step o p z j i = ap (λ z. chain z (λ q. Ok (record { formula = two o p.formula q.formula; terms = q.terms; rest = q.rest }))) i

  pub two_reads : (o : BinaryOp) (m : ℕ) (g f : Read) → token bits c ≡ Ok (Binary o) → terms_with (Binary o) b n ≡ Ok m →
      ((k : ℕ) → length cs ≤ k → reads k bits (b || temporal2 o) m cs ≡ Ok g) →
      length g.rest ≤ length cs →
      ((k : ℕ) → length g.rest ≤ k → reads k bits (b || temporal2 o) g.terms g.rest ≡ Ok f) →
      (k : ℕ) → length bs ≤ k → reads k bits b n bs ≡ Ok (record { formula = two o g.formula f.formula; terms = f.terms; rest = f.rest })
  two_reads o m g f s a ih1 l ih2 k h =
      let u = by_terms (Binary o) (Ok m) s a k h in
      let room : length g.rest ≤ u.0 = omega (arith, u.1) in
      u.2 ∙ two_step o (Ok g) u.0 m (ih1 u.0 u.1) ∙ last_step o g (Ok f) u.0 (ih2 u.0 room)

  pub two_left : (o : BinaryOp) (m : ℕ) (x : TextFault) → token bits c ≡ Ok (Binary o) → terms_with (Binary o) b n ≡ Ok m →
      ((k : ℕ) → length cs ≤ k → reads k bits (b || temporal2 o) m cs ≡ Err x) →
      (k : ℕ) → length bs ≤ k → reads k bits b n bs ≡ Err x
  two_left o m x s a ih k h =
      let u = by_terms (Binary o) (Ok m) s a k h in
      u.2 ∙ two_step o (Err x) u.0 m (ih u.0 u.1)

  pub two_passes : (o : BinaryOp) (m n1 : ℕ) (mid : List ℕ) (r : Result (Unit {0}) TextFault) (n2 : ℕ) (after : List ℕ) →
      token bits c ≡ Ok (Binary o) → terms_with (Binary o) b n ≡ Ok m →
      ((k : ℕ) → length cs ≤ k → (p : Ltl) × (reads k bits (b || temporal2 o) m cs ≡ Ok (record { formula = p; terms = n1; rest = mid }))) →
      length mid ≤ length cs →
      ((k : ℕ) → length mid ≤ k → Passes r n2 after (reads k bits (b || temporal2 o) n1 mid)) →
      (k : ℕ) → length bs ≤ k → Passes r n2 after (reads k bits b n bs)
  two_passes o m n1 mid (Ok x) n2 after s a ih1 l ih2 k h =
      let u = by_terms (Binary o) (Ok m) s a k h in
      let room : length mid ≤ u.0 = omega (arith, u.1) in
      let i = ih1 u.0 u.1 in
      let j = ih2 u.0 room in
      let g : Read = record { formula = i.0; terms = n1; rest = mid } in
      (two o i.0 j.0, u.2 ∙ two_step o (Ok g) u.0 m i.1 ∙ last_step o g _ u.0 j.1)
  two_passes o m n1 mid (Err x) n2 after s a ih1 l ih2 k h =
      let u = by_terms (Binary o) (Ok m) s a k h in
      let room : length mid ≤ u.0 = omega (arith, u.1) in
      let i = ih1 u.0 u.1 in
      let g : Read = record { formula = i.0; terms = n1; rest = mid } in
      u.2 ∙ two_step o (Ok g) u.0 m i.1 ∙ last_step o g (Err x) u.0 (ih2 u.0 room)
