-- The refusal of a text, and its first faulty place.
use Rattle.std.proofs.Common.{◌≡◌, ℕ, zero, suc, ◌+◌, ◌<◌, ◌≤◌, Bool, true, false, cond, ◌||◌, eqb, ltb, ◌⊎◌, List, [], ◌∷◌, length, Some, None, Ok, Err, Option, Result, sym, refl, ap, ◌∙◌, subst, inl, inr, arith, length-append}
use Rattle.std.proofs.lemmas.Bool.{false≢true}
use Rattle.std.proofs.lemmas.Bool.Decides.{nat_tests}
use Rattle.ltlf.specs.Operators.{temporal1, temporal2}
use Rattle.ltlf.specs.Numbers.{number}
use Rattle.ltlf.specs.Formulas.{Ltl, one, two, prefix}
use Rattle.ltlf.specs.Tokens.{kind, known, token, with_operator, terms_with}
use Rattle.ltlf.specs.Reading.{Read, chain, operands, follows, reads, closed, checked}
use Rattle.ltlf.specs.Laws.{Both, Place, front, temporal, is_term, awaits, behind, Faulty, Fault, Least, Refuses}
use Rattle.ltlf.specs.declared.fault.TextFault.{TextFault}
use Rattle.ltlf.specs.declared.fault.TextFault.TheVariants.{Empty, TooLong, UnknownByte, DigitTooLarge, TextEnds, ByteAfterEnd, NotRule}
use Rattle.ltlf.specs.declared.formula.Unary.{Unary as UnaryOp}
use Rattle.ltlf.specs.declared.formula.Binary.{Binary as BinaryOp}
use Rattle.ltlf.specs.declared.token.Token.{Token}
use Rattle.ltlf.specs.declared.token.Token.TheVariants.{Truth, Digit, Unary, Binary}
use Rattle.ltlf.proofs.Prefixes.{never, ok_inj, back}

-- ---- a scan of the places from left to right

abbrev at : List Bool → ℕ → Place
at bs n = record { awaited = bs; terms = n }

-- the place behind a token, or why it may not stand here
abbrev moved : Token → List Bool → ℕ → Result Place TextFault
moved t [] n = Err ByteAfterEnd
moved t (b ∷ bs) n = chain (terms_with t b n) (λ m. Ok (at (awaits t b bs) m))

abbrev past : ℕ → Option Token → List Bool → ℕ → Result Place TextFault
past bits k bs n = chain (known bits k) (λ t. moved t bs n)

abbrev onward : Result Place TextFault → (Place → Option TextFault) → Option TextFault
onward (Ok s) f = f s
onward (Err e) f = Some e

abbrev at_end : List Bool → Option TextFault
at_end [] = None
at_end (b ∷ bs) = Some TextEnds

abbrev scan : ℕ → List ℕ → Place → Option TextFault
scan bits [] s = at_end s.awaited
scan bits (c ∷ cs) s = onward (past bits (kind c) s.awaited s.terms) (scan bits cs)

-- ---- the reader meets the fault that the scan meets

abbrev Agrees : ℕ → Bool → ℕ → List ℕ → Result Read TextFault → Type 0
Agrees bits b n bs (Ok g) = (st : List Bool) → scan bits bs (at (b ∷ st) n) ≡ scan bits g.rest (at st g.terms)
Agrees bits b n bs (Err e) = (st : List Bool) → scan bits bs (at (b ∷ st) n) ≡ Some e

module _ (k bits n : ℕ) (b : Bool) (c : ℕ) (cs : List ℕ) (short : length cs ≤ k)
    (ih : (n : ℕ) (b : Bool) (bs : List ℕ) → length bs ≤ k → Agrees bits b n bs (reads k bits b n bs)) where
  -- the first byte is passed, or is the fault
  abbrev Passed : Result Place TextFault → List Bool → Type 0
  Passed x st = scan bits (c ∷ cs) (at (b ∷ st) n) ≡ onward x (scan bits cs)

  one_rest : (o : UnaryOp) (d : Bool) (m : ℕ) → ((st : List Bool) → Passed (Ok (at (d ∷ st) m)) st) → (y : Result Read TextFault) → Agrees bits d m cs y →
      Agrees bits b n (c ∷ cs) (chain y (λ p. Ok (record { formula = one o p.formula; terms = p.terms; rest = p.rest })))
  one_rest o d m t (Ok g) i = λ st. t st ∙ i st
  one_rest o d m t (Err e) i = λ st. t st ∙ i st

  two_last : (o : BinaryOp) (d : Bool) (g : Read) → ((st : List Bool) → scan bits (c ∷ cs) (at (b ∷ st) n) ≡ scan bits g.rest (at (d ∷ st) g.terms)) →
      (z : Result Read TextFault) → Agrees bits d g.terms g.rest z →
      Agrees bits b n (c ∷ cs) (chain z (λ q. Ok (record { formula = two o g.formula q.formula; terms = q.terms; rest = q.rest })))
  two_last o d g t (Ok f) i = λ st. t st ∙ i st
  two_last o d g t (Err e) i = λ st. t st ∙ i st

  two_rest : (o : BinaryOp) (d : Bool) (m : ℕ) → ((st : List Bool) → Passed (Ok (at (d ∷ d ∷ st) m)) st) → (y : Result Read TextFault) → reads k bits d m cs ≡ y → Agrees bits d m cs y →
      Agrees bits b n (c ∷ cs) (chain y (λ p. chain (reads k bits d p.terms p.rest) (λ q. Ok (record { formula = two o p.formula q.formula; terms = q.terms; rest = q.rest }))))
  two_rest o d m t (Ok g) e i =
      let l : length cs ≡ length (prefix g.formula) + length g.rest = ap length (back k bits m d cs g e).text ∙ length-append (prefix g.formula) g.rest in
      two_last o d g (λ st. t st ∙ i (d ∷ st)) (reads k bits d g.terms g.rest) (ih g.terms d g.rest (omega arith))
  two_rest o d m t (Err x) e i = λ st. t st ∙ i (d ∷ st)

  operands_agree : (t : Token) (m : ℕ) → ((st : List Bool) → Passed (Ok (at (awaits t b st) m)) st) →
      Agrees bits b n (c ∷ cs) (operands (reads k bits) b m cs t)
  operands_agree (Truth v) m p = p
  operands_agree (Digit j) m p = p
  operands_agree (Unary o) m p = one_rest o (b || temporal1 o) m p (reads k bits (b || temporal1 o) m cs) (ih m (b || temporal1 o) cs short)
  operands_agree (Binary o) m p = two_rest o (b || temporal2 o) m p (reads k bits (b || temporal2 o) m cs) refl (ih m (b || temporal2 o) cs short)

  terms_agree : (t : Token) (x : Result ℕ TextFault) → ((st : List Bool) → Passed (chain x (λ m. Ok (at (awaits t b st) m))) st) →
      Agrees bits b n (c ∷ cs) (chain x (λ m. operands (reads k bits) b m cs t))
  terms_agree t (Ok m) p = operands_agree t m p
  terms_agree t (Err e) p = p

  token_agrees : (x : Result Token TextFault) → ((st : List Bool) → Passed (chain x (λ t. moved t (b ∷ st) n)) st) →
      Agrees bits b n (c ∷ cs) (chain x (follows (reads k bits) b n cs))
  token_agrees (Err e) p = p
  token_agrees (Ok t) p = terms_agree t (terms_with t b n) p

agrees : (k bits n : ℕ) (b : Bool) (bs : List ℕ) → length bs ≤ k → Agrees bits b n bs (reads k bits b n bs)
agrees zero bits n b [] h = λ st. refl
agrees zero bits n b (c ∷ cs) h = absurd (omega arith)
agrees (suc k) bits n b [] h = λ st. refl
agrees (suc k) bits n b (c ∷ cs) h =
    token_agrees k bits n b c cs (omega arith) (λ n b bs l. agrees k bits n b bs l) (token bits c) (λ st. refl)

abbrev answer : Option TextFault → Result (Unit {0}) TextFault
answer None = Ok tt
answer (Some e) = Err e

closes : (bits : ℕ) (p : Ltl) (rest : List ℕ) (n : ℕ) →
    chain (chain (closed bits rest) (λ _. Ok p)) (λ _. Ok tt) ≡ answer (scan bits rest (at [] n))
closes bits p [] n = refl
closes bits p (c ∷ cs) n =
    elim (token bits c) as (λ x. chain (chain (chain {B = Unit {0}} x (λ _. Err ByteAfterEnd)) (λ _. Ok p)) (λ _. Ok tt) ≡ answer (onward (chain x (λ t. moved t [] n)) (scan bits cs)))
    [ Ok t ↦ refl | Err e ↦ refl ]

checks : (bits : ℕ) (text : List ℕ) → 1 ≤ length text → length text ≤ 64 → checked bits text ≡ answer (scan bits text front)
checks bits text some full =
    let a : eqb (length text) 0 ≡ false = grind (arith, nat_tests) in
    let b : ltb 64 (length text) ≡ false = grind (arith, nat_tests) in
    let read : Result Ltl TextFault = chain (reads (length text) bits false 0 text) (λ g. chain (closed bits g.rest) (λ _. Ok g.formula)) in
    ap (λ t. chain (cond t (Err Empty) (cond (ltb 64 (length text)) (Err TooLong) read)) (λ _. Ok tt)) a
    ∙ ap (λ t. chain (cond t (Err TooLong) read) (λ _. Ok tt)) b
    ∙ go (reads (length text) bits false 0 text) (agrees (length text) bits 0 false text (omega arith))
  where
    go : (y : Result Read TextFault) → Agrees bits false 0 text y →
        chain (chain y (λ g. chain (closed bits g.rest) (λ _. Ok g.formula))) (λ _. Ok tt) ≡ answer (scan bits text front)
    go (Ok g) i = closes bits g.formula g.rest g.terms ∙ ap answer (sym (i []))
    go (Err e) i = ap answer (sym (i []))

-- ---- the faults of one byte

-- why a token may be no term here: it stands beneath another, or is the fourth
abbrev Unruly : Bool → Bool → Bool → ℕ → Type 0
Unruly τ term b n = ((τ ≡ true) × (b ≡ true)) ⊎ ((term ≡ true) × (3 ≤ n))

operator_fine : (τ b : Bool) (n m : ℕ) → with_operator τ b n ≡ Ok m → (cond τ (n + 1) n ≡ m) × (Unruly τ τ b n → ⊥)
operator_fine true true n m h = never h
operator_fine true false n m h =
    let l : n < 3 = grind (arith, nat_tests) in
    (grind (arith, nat_tests), λ x. elim x [ inl y ↦ absurd (false≢true y.1) | inr y ↦ omega (arith, l, y.1) ])
operator_fine false b n m h = (ok_inj h, λ x. elim x [ inl y ↦ absurd (false≢true y.0) | inr y ↦ absurd (false≢true y.0) ])

operator_fault : (τ b : Bool) (n : ℕ) (e : TextFault) → with_operator τ b n ≡ Err e → (e ≡ NotRule) × Unruly τ τ b n
operator_fault true true n e h = (cc, inl (refl, refl))
operator_fault true false n e h = (grind (arith, nat_tests), inr (refl, grind (arith, nat_tests)))
operator_fault false b n e h = never (sym h)

term_fine : (t : Token) (b : Bool) (n m : ℕ) → terms_with t b n ≡ Ok m → (cond (is_term t b) (n + 1) n ≡ m) × (Unruly (temporal t) (is_term t b) b n → ⊥)
term_fine (Truth v) b n m h = (ok_inj h, λ x. elim x [ inl y ↦ absurd (false≢true y.0) | inr y ↦ absurd (false≢true y.0) ])
term_fine (Digit j) true n m h = (ok_inj h, λ x. elim x [ inl y ↦ absurd (false≢true y.0) | inr y ↦ absurd (false≢true y.0) ])
term_fine (Digit j) false n m h =
    let l : n < 3 = grind (arith, nat_tests) in
    (grind (arith, nat_tests), λ x. elim x [ inl y ↦ absurd (false≢true y.0) | inr y ↦ omega (arith, l, y.1) ])
term_fine (Unary o) b n m h = operator_fine (temporal1 o) b n m h
term_fine (Binary o) b n m h = operator_fine (temporal2 o) b n m h

term_fault : (t : Token) (b : Bool) (n : ℕ) (e : TextFault) → terms_with t b n ≡ Err e → (e ≡ NotRule) × Unruly (temporal t) (is_term t b) b n
term_fault (Truth v) b n e h = never (sym h)
term_fault (Digit j) true n e h = never (sym h)
term_fault (Digit j) false n e h = (grind (arith, nat_tests), inr (refl, grind (arith, nat_tests)))
term_fault (Unary o) b n e h = operator_fault (temporal1 o) b n e h
term_fault (Binary o) b n e h = operator_fault (temporal2 o) b n e h

no_token : {A : Type 0} (t : Token) → ◌≡◌ {A = Option Token} (Some t) None → A
no_token t h = absurd (let z : ◌≡◌ {A = ℕ} 0 1 = cc in omega arith)

-- what a byte's faults are where its token is known
unless : (bits : ℕ) (t : Token) → known bits (Some t) ≡ Ok t → (j : ℕ) → Some t ≡ Some (Digit j) → bits ≤ j → ⊥
unless bits t k j e l =
    let f : t ≡ Digit j = cc in
    let g : known bits (Some (Digit j)) ≡ Ok (Digit j) = subst (λ t. known bits (Some t) ≡ Ok t) f k in
    let h : j < bits = grind (arith, nat_tests) in
    omega arith

module _ (bits : ℕ) (t : Token) (k : known bits (Some t) ≡ Ok t) where
  spare_lowest : (n : ℕ) (f : TextFault) → Faulty bits (at [] n) (Some t) f → 6 ≤ number f
  spare_lowest n Empty h = absurd h
  spare_lowest n TooLong h = absurd h
  spare_lowest n UnknownByte h = no_token t h
  spare_lowest n DigitTooLarge h = absurd (unless bits t k h.0 h.1 h.2)
  spare_lowest n TextEnds h = absurd h
  spare_lowest n ByteAfterEnd h = omega arith
  spare_lowest n NotRule h = omega arith

  term_lowest : (b : Bool) (bs : List Bool) (n : ℕ) (f : TextFault) → Faulty bits (at (b ∷ bs) n) (Some t) f → 7 ≤ number f
  term_lowest b bs n Empty h = absurd h
  term_lowest b bs n TooLong h = absurd h
  term_lowest b bs n UnknownByte h = no_token t h
  term_lowest b bs n DigitTooLarge h = absurd (unless bits t k h.0 h.1 h.2)
  term_lowest b bs n TextEnds h = absurd h
  term_lowest b bs n ByteAfterEnd h = absurd (let z : ◌≡◌ {A = ℕ} 0 1 = cc in omega arith)
  term_lowest b bs n NotRule h = omega arith

  none_here : (b : Bool) (bs : List Bool) (n : ℕ) → (Unruly (temporal t) (is_term t b) b n → ⊥) → (f : TextFault) → Faulty bits (at (b ∷ bs) n) (Some t) f → ⊥
  none_here b bs n u Empty h = h
  none_here b bs n u TooLong h = h
  none_here b bs n u UnknownByte h = no_token t h
  none_here b bs n u DigitTooLarge h = unless bits t k h.0 h.1 h.2
  none_here b bs n u TextEnds h = h
  none_here b bs n u ByteAfterEnd h = let z : ◌≡◌ {A = ℕ} 0 1 = cc in omega arith
  none_here b bs n u NotRule h =
      let f : h.0 ≡ t = cc h.1 in
      u (subst (λ t. Unruly (temporal t) (is_term t b) b n) f h.2)

abbrev Fine : ℕ → Option Token → List Bool → ℕ → Place → Type 0
Fine bits k bs n s = (behind k bs n ≡ s) × ((f : TextFault) → Faulty bits (at bs n) k f → ⊥)

abbrev Meets : ℕ → Option Token → List Bool → ℕ → TextFault → Type 0
Meets bits k bs n e = Faulty bits (at bs n) k e × ((f : TextFault) → Faulty bits (at bs n) k f → number e ≤ number f)

moved_fine : (bits : ℕ) (t : Token) → known bits (Some t) ≡ Ok t → (bs : List Bool) (n : ℕ) (s : Place) → moved t bs n ≡ Ok s → Fine bits (Some t) bs n s
moved_fine bits t k [] n s h = never h
moved_fine bits t k (b ∷ bs) n s h = go (terms_with t b n) refl h
  where
    go : (x : Result ℕ TextFault) → terms_with t b n ≡ x → chain x (λ m. Ok (at (awaits t b bs) m)) ≡ Ok s → Fine bits (Some t) (b ∷ bs) n s
    go (Ok m) e h =
        let f = term_fine t b n m e in
        (ap (at (awaits t b bs)) f.0 ∙ ok_inj h, none_here bits t k b bs n f.1)
    go (Err x) e h = never h

moved_fault : (bits : ℕ) (t : Token) → known bits (Some t) ≡ Ok t → (bs : List Bool) (n : ℕ) (e : TextFault) → moved t bs n ≡ Err e → Meets bits (Some t) bs n e
moved_fault bits t k [] n e h =
    let f : ByteAfterEnd ≡ e = cc in
    subst (Meets bits (Some t) [] n) f (refl, λ f x. spare_lowest bits t k n f x)
moved_fault bits t k (b ∷ bs) n e h = go (terms_with t b n) refl h
  where
    go : (x : Result ℕ TextFault) → terms_with t b n ≡ x → chain x (λ m. Ok (at (awaits t b bs) m)) ≡ Err e → Meets bits (Some t) (b ∷ bs) n e
    go (Ok m) q h = never (sym h)
    go (Err x) q h =
        let f = term_fault t b n x q in
        let g : NotRule ≡ e = cc f.0 in
        subst (Meets bits (Some t) (b ∷ bs) n) g ((t, refl, f.1), λ f y. term_lowest bits t k b bs n f y)

unknown_lowest : (bits : ℕ) (bs : List Bool) (n : ℕ) (k : Option Token) (f : TextFault) → Faulty bits (at bs n) k f → 3 ≤ number f
unknown_lowest bits bs n k Empty h = absurd h
unknown_lowest bits bs n k TooLong h = absurd h
unknown_lowest bits bs n k UnknownByte h = omega arith
unknown_lowest bits bs n k DigitTooLarge h = omega arith
unknown_lowest bits bs n k TextEnds h = absurd h
unknown_lowest bits bs n k ByteAfterEnd h = omega arith
unknown_lowest bits bs n k NotRule h = omega arith

large_lowest : (bits : ℕ) (bs : List Bool) (n : ℕ) (t : Token) (f : TextFault) → Faulty bits (at bs n) (Some t) f → 4 ≤ number f
large_lowest bits bs n t Empty h = absurd h
large_lowest bits bs n t TooLong h = absurd h
large_lowest bits bs n t UnknownByte h = no_token t h
large_lowest bits bs n t DigitTooLarge h = omega arith
large_lowest bits bs n t TextEnds h = absurd h
large_lowest bits bs n t ByteAfterEnd h = omega arith
large_lowest bits bs n t NotRule h = omega arith

-- a token that stands as it is, or a digit too large
known_cases : (bits : ℕ) (t : Token) → (known bits (Some t) ≡ Ok t) ⊎ ((j : ℕ) × (t ≡ Digit j) × (bits ≤ j) × (known bits (Some t) ≡ Err DigitTooLarge))
known_cases bits (Truth v) = inl refl
known_cases bits (Digit j) = go (ltb j bits) refl
  where
    go : (b : Bool) → ltb j bits ≡ b → (known bits (Some (Digit j)) ≡ Ok (Digit j)) ⊎ ((i : ℕ) × (Digit j ≡ Digit i) × (bits ≤ i) × (known bits (Some (Digit j)) ≡ Err DigitTooLarge))
    go true e = inl (ap (λ b. cond b (Ok (Digit j)) (Err DigitTooLarge)) e)
    go false e = inr (j, refl, grind (arith, nat_tests), ap (λ b. cond b (Ok (Digit j)) (Err DigitTooLarge)) e)
known_cases bits (Unary o) = inl refl
known_cases bits (Binary o) = inl refl

past_fine : (bits : ℕ) (k : Option Token) (bs : List Bool) (n : ℕ) (s : Place) → past bits k bs n ≡ Ok s → Fine bits k bs n s
past_fine bits None bs n s h = never h
past_fine bits (Some t) bs n s h =
    elim (known_cases bits t) [
      | inl k ↦ moved_fine bits t k bs n s (subst (λ x. chain x (λ t. moved t bs n) ≡ Ok s) k h)
      | inr x ↦ never (subst (λ x. chain x (λ t. moved t bs n) ≡ Ok s) x.3 h)
    ]

past_fault : (bits : ℕ) (k : Option Token) (bs : List Bool) (n : ℕ) (e : TextFault) → past bits k bs n ≡ Err e → Meets bits k bs n e
past_fault bits None bs n e h =
    let f : UnknownByte ≡ e = cc in
    subst (Meets bits None bs n) f (refl, λ f x. unknown_lowest bits bs n None f x)
past_fault bits (Some t) bs n e h =
    elim (known_cases bits t) [
      | inl k ↦ moved_fault bits t k bs n e (subst (λ x. chain x (λ t. moved t bs n) ≡ Err e) k h)
      | inr x ↦
          let g : Err DigitTooLarge ≡ Err e = subst (λ x. chain x (λ t. moved t bs n) ≡ Err e) x.3 h in
          let f : DigitTooLarge ≡ e = cc in
          subst (Meets bits (Some t) bs n) f ((x.0, ap Some x.1, x.2), λ f y. large_lowest bits bs n t f y)
    ]

-- ---- the faults of a text

shift : (bits : ℕ) (s : Place) (c : ℕ) (cs : List ℕ) (i : ℕ) (e : TextFault) →
    Fault bits (behind (kind c) s.awaited s.terms) cs i e → Fault bits s (c ∷ cs) (suc i) e
shift bits s c cs i e h = elim h [ inl x ↦ inl (omega (arith, x.0), x.1) | inr x ↦ inr (omega (arith, x.0), x.1, x.2) ]

unshift : (bits : ℕ) (s : Place) (c : ℕ) (cs : List ℕ) (i : ℕ) (e : TextFault) →
    Fault bits s (c ∷ cs) (suc i) e → Fault bits (behind (kind c) s.awaited s.terms) cs i e
unshift bits s c cs i e h = elim h [ inl x ↦ inl (omega (arith, x.0), x.1) | inr x ↦ inr (omega (arith, x.0), x.1, x.2) ]

at_first : (bits : ℕ) (s : Place) (c : ℕ) (cs : List ℕ) (e : TextFault) → Fault bits s (c ∷ cs) 0 e → Faulty bits s (kind c) e
at_first bits s c cs e h = elim h [ inl x ↦ x.1 | inr x ↦ absurd (omega (arith, x.0)) ]

not_none : {A : Type 0} {e : TextFault} → ◌≡◌ {A = Option TextFault} None (Some e) → A
not_none h = absurd (let z : ◌≡◌ {A = ℕ} 0 1 = cc in omega arith)

end_fault : (bits : ℕ) (bs : List Bool) (n : ℕ) (e : TextFault) → at_end bs ≡ Some e → Least bits (at bs n) [] e
end_fault bits [] n e h = not_none h
end_fault bits (b ∷ bs) n e h =
    let f : e ≡ TextEnds = cc in
    record {
      place = 0;
      here = inr (refl, f, omega arith);
      first = λ j g l x. omega arith;
      lowest = λ g x. elim x [ inl y ↦ absurd (omega (arith, y.0)) | inr y ↦ omega (arith, ap number f, ap number y.1) ];
    }

scan_fault : (bits : ℕ) (text : List ℕ) (s : Place) (e : TextFault) → scan bits text s ≡ Some e → Least bits s text e
scan_fault bits [] s e h = end_fault bits s.awaited s.terms e h
scan_fault bits (c ∷ cs) s e h = go (past bits (kind c) s.awaited s.terms) refl h (scan_fault bits cs (behind (kind c) s.awaited s.terms) e)
  where
    go : (x : Result Place TextFault) → past bits (kind c) s.awaited s.terms ≡ x → onward x (scan bits cs) ≡ Some e →
        (scan bits cs (behind (kind c) s.awaited s.terms) ≡ Some e → Least bits (behind (kind c) s.awaited s.terms) cs e) → Least bits s (c ∷ cs) e
    go (Ok p) q h rest =
        let f = past_fine bits (kind c) s.awaited s.terms p q in
        let l = rest (ap (scan bits cs) f.0 ∙ h) in
        record {
          place = suc l.place;
          here = shift bits s c cs l.place e l.here;
          first = λ j g m x. before_next f l j g m x;
          lowest = λ g x. l.lowest g (unshift bits s c cs l.place g x);
        }
      where
        before_next : Fine bits (kind c) s.awaited s.terms p → (l : Least bits (behind (kind c) s.awaited s.terms) cs e) →
            (j : ℕ) (g : TextFault) → j < suc l.place → Fault bits s (c ∷ cs) j g → ⊥
        before_next f l zero g m x = f.1 g (at_first bits s c cs g x)
        before_next f l (suc j) g m x = l.first j g (omega arith) (unshift bits s c cs j g x)
    go (Err x) q h rest =
        let f : x ≡ e = cc in
        let m = past_fault bits (kind c) s.awaited s.terms e (q ∙ ap Err f) in
        record {
          place = 0;
          here = inl (omega arith, m.0);
          first = λ j g l y. omega arith;
          lowest = λ g y. m.1 g (at_first bits s c cs g y);
        }

end_none : (bits : ℕ) (bs : List Bool) (n : ℕ) → at_end bs ≡ None → (i : ℕ) (e : TextFault) → Fault bits (at bs n) [] i e → ⊥
end_none bits [] n h zero e x = elim x [ inl y ↦ omega (arith, y.0) | inr y ↦ omega (arith, y.2) ]
end_none bits [] n h (suc i) e x = elim x [ inl y ↦ omega (arith, y.0) | inr y ↦ omega (arith, y.0) ]
end_none bits (b ∷ bs) n h i e x = not_none (sym h)

scan_none : (bits : ℕ) (text : List ℕ) (s : Place) → scan bits text s ≡ None → (i : ℕ) (e : TextFault) → Fault bits s text i e → ⊥
scan_none bits [] s h i e x = end_none bits s.awaited s.terms h i e x
scan_none bits (c ∷ cs) s h i e x = go (past bits (kind c) s.awaited s.terms) refl h (scan_none bits cs (behind (kind c) s.awaited s.terms)) i x
  where
    go : (y : Result Place TextFault) → past bits (kind c) s.awaited s.terms ≡ y → onward y (scan bits cs) ≡ None →
        (scan bits cs (behind (kind c) s.awaited s.terms) ≡ None → (i : ℕ) (e : TextFault) → Fault bits (behind (kind c) s.awaited s.terms) cs i e → ⊥) →
        (i : ℕ) → Fault bits s (c ∷ cs) i e → ⊥
    go (Ok p) q h rest zero x = (past_fine bits (kind c) s.awaited s.terms p q).1 e (at_first bits s c cs e x)
    go (Ok p) q h rest (suc i) x = rest (ap (scan bits cs) (past_fine bits (kind c) s.awaited s.terms p q).0 ∙ h) i e (unshift bits s c cs i e x)
    go (Err y) q h rest i x = not_none (sym h)

-- ---- one refusal only

abbrev named : ℕ → TextFault
named zero = Empty
named (suc zero) = Empty
named (suc (suc zero)) = TooLong
named (suc (suc (suc zero))) = UnknownByte
named (suc (suc (suc (suc zero)))) = DigitTooLarge
named (suc (suc (suc (suc (suc zero))))) = TextEnds
named (suc (suc (suc (suc (suc (suc zero)))))) = ByteAfterEnd
named (suc (suc (suc (suc (suc (suc (suc n))))))) = NotRule

named_number : (e : TextFault) → named (number e) ≡ e
named_number Empty = refl
named_number TooLong = refl
named_number UnknownByte = refl
named_number DigitTooLarge = refl
named_number TextEnds = refl
named_number ByteAfterEnd = refl
named_number NotRule = refl

same_fault : (e f : TextFault) → number e ≡ number f → e ≡ f
same_fault e f h = sym (named_number e) ∙ ap named h ∙ named_number f

one_least : (bits : ℕ) (s : Place) (text : List ℕ) (e f : TextFault) → Least bits s text e → Least bits s text f → e ≡ f
one_least bits s text e f x y = go (ltb x.place y.place) refl (ltb y.place x.place) refl
  where
    go : (a : Bool) → ltb x.place y.place ≡ a → (b : Bool) → ltb y.place x.place ≡ b → e ≡ f
    go true p b q = absurd (y.first x.place e (grind (arith, nat_tests)) x.here)
    go false p true q = absurd (x.first y.place f (grind (arith, nat_tests)) y.here)
    go false p false q =
        let z : x.place ≡ y.place = grind (arith, nat_tests) in
        let l = x.lowest f (subst (λ i. Fault bits s text i f) (sym z) y.here) in
        let m = y.lowest e (subst (λ i. Fault bits s text i e) z x.here) in
        same_fault e f (omega (arith, l, m))

err_inj : {A : Type 0} {e f : TextFault} → ◌≡◌ {A = Result A TextFault} (Err e) (Err f) → e ≡ f
err_inj h = cc

-- ---- the law

module _ (bits : ℕ) (text : List ℕ) where
  least_law : (o : Option TextFault) → scan bits text front ≡ o → (e : TextFault) → Both (answer o ≡ Err e) (Least bits front text e)
  least_law None h e = (λ x. never (sym x), λ x. absurd (scan_none bits text front h x.place e x.here))
  least_law (Some f) h e = (
    λ x. scan_fault bits text front e (h ∙ ap Some (err_inj x)),
    λ x. ap Err (one_least bits front text f e (scan_fault bits text front f h) x),
  )

  good_law : (o : Option TextFault) → scan bits text front ≡ o → Both (answer o ≡ Ok tt) ((i : ℕ) (e : TextFault) → Fault bits front text i e → ⊥)
  good_law None h = (λ _ i e x. scan_none bits text front h i e x, λ _. refl)
  good_law (Some f) h = (λ x. never x, λ x. absurd (let l = scan_fault bits text front f h in x l.place f l.here))

  long_law : 64 < length text → checked bits text ≡ Err TooLong
  long_law h =
      let a : eqb (length text) 0 ≡ false = grind (arith, nat_tests) in
      let b : ltb 64 (length text) ≡ true = grind (arith, nat_tests) in
      let read : Result Ltl TextFault = chain (reads (length text) bits false 0 text) (λ g. chain (closed bits g.rest) (λ _. Ok g.formula)) in
      ap (λ t. chain (cond t (Err Empty) (cond (ltb 64 (length text)) (Err TooLong) read)) (λ _. Ok tt)) a
      ∙ ap (λ t. chain (cond t (Err TooLong) read) (λ _. Ok tt)) b

  empty_law : length text ≡ 0 → checked bits text ≡ Err Empty
  empty_law h =
      let a : eqb (length text) 0 ≡ true = grind (arith, nat_tests) in
      let read : Result Ltl TextFault = cond (ltb 64 (length text)) (Err TooLong) (chain (reads (length text) bits false 0 text) (λ g. chain (closed bits g.rest) (λ _. Ok g.formula))) in
      ap (λ t. chain (cond t (Err Empty) read) (λ _. Ok tt)) a

  pub refuses : Refuses bits text (checked bits text)
  refuses =
      record {
        empty = empty_law;
        long = long_law;
        least = λ some full e. subst (λ r. Both (r ≡ Err e) (Least bits front text e)) (sym (checks bits text some full)) (least_law (scan bits text front) refl e);
        faultless = λ some full. subst (λ r. Both (r ≡ Ok tt) ((i : ℕ) (e : TextFault) → Fault bits front text i e → ⊥)) (sym (checks bits text some full)) (good_law (scan bits text front) refl);
      }
