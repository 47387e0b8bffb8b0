-- What is read, and its prefix form.
use Rattle.std.proofs.Common.{◌≡◌, ℕ, zero, suc, ◌+◌, ◌^◌, ◌≤◌, Bool, true, false, cond, not, ◌&&◌, ◌||◌, eqb, ltb, List, [], ◌∷◌, ◌++◌, length, Ok, Err, Result, sym, refl, ap, ◌∙◌, subst, append_assoc, append-nil, arith, length-append, ltb-false}
use Rattle.std.proofs.lemmas.Bool.{and_from, and_parts, false≢true}
use Rattle.std.proofs.lemmas.Bool.Decides.{nat_tests}
use Rattle.ltlf.specs.Operators.{temporal1, temporal2}
use Rattle.ltlf.specs.Formulas.{Ltl, truth, digit, one, two, byte1, byte2, prefix, digits_below, plain, unnested, terms}
use Rattle.ltlf.specs.Tokens.{known, token, with_operator, terms_with}
use Rattle.ltlf.specs.Reading.{Read, chain, operands, follows, reads, closed, outcome, checked, counted, passed}
use Rattle.ltlf.specs.Codes.{count, sized}
use Rattle.ltlf.specs.CodeLaws.{codes_few}
use Rattle.ltlf.specs.Laws.{TextOf, ReadsAs, Accepts}
use Rattle.ltlf.specs.declared.fault.TextFault.{TextFault}
use Rattle.ltlf.specs.declared.fault.TextFault.TheVariants.{Empty, TooLong, DigitTooLarge}
use Rattle.ltlf.specs.declared.formula.Unary.{Unary as UnaryOp}
use Rattle.ltlf.specs.declared.formula.Unary.TheVariants.{Not, Next, Eventually, Always}
use Rattle.ltlf.specs.declared.formula.Binary.{Binary as BinaryOp}
use Rattle.ltlf.specs.declared.formula.Binary.TheVariants.{And, Or, Until}
use Rattle.ltlf.specs.declared.token.Token.{Token}
use Rattle.ltlf.specs.declared.token.Token.TheVariants.{Truth, Digit, Unary, Binary}
use Rattle.ltlf.proofs.Heads.{kind_one, kind_two, kind_truth, kind_digit}
use Rattle.ltlf.proofs.Passages.{truth_passes, digit_passes, one_reads, two_reads}

pub never : {A B : Type 0} {x : A} {e : TextFault} → ◌≡◌ {A = Result A TextFault} (Err e) (Ok x) → B
never h = absurd (let z : ◌≡◌ {A = ℕ} 0 1 = cc in omega arith)

pub ok_inj : {A : Type 0} {x y : A} → ◌≡◌ {A = Result A TextFault} (Ok x) (Ok y) → x ≡ y
ok_inj h = cc

pub chain_ok : {A B : Type 0} (x : Result A TextFault) (f : A → Result B TextFault) (g : B) → chain x f ≡ Ok g → (a : A) × (x ≡ Ok a) × (f a ≡ Ok g)
chain_ok (Ok a) f g h = (a, refl, h)
chain_ok (Err e) f g h = never h

-- ---- from a byte to its token and back

token_one : (bits c : ℕ) (o : UnaryOp) → token bits c ≡ Ok (Unary o) → c ≡ byte1 o
token_one bits c Not h = grind (arith, nat_tests)
token_one bits c Next h = grind (arith, nat_tests)
token_one bits c Eventually h = grind (arith, nat_tests)
token_one bits c Always h = grind (arith, nat_tests)

token_two : (bits c : ℕ) (o : BinaryOp) → token bits c ≡ Ok (Binary o) → c ≡ byte2 o
token_two bits c And h = grind (arith, nat_tests)
token_two bits c Or h = grind (arith, nat_tests)
token_two bits c Until h = grind (arith, nat_tests)

token_truth : (bits c : ℕ) (v : Bool) → token bits c ≡ Ok (Truth v) → c ≡ cond v 116 102
token_truth bits c true h = grind (arith, nat_tests)
token_truth bits c false h = grind (arith, nat_tests)

token_digit : (bits c j : ℕ) → token bits c ≡ Ok (Digit j) → (c ≡ 48 + j) × ((ltb j 10 && ltb j bits) ≡ true)
token_digit bits c j h = (grind (arith, nat_tests), grind (arith, nat_tests))

one_token : (bits : ℕ) (o : UnaryOp) → token bits (byte1 o) ≡ Ok (Unary o)
one_token bits o = ap (known bits) (kind_one o)

two_token : (bits : ℕ) (o : BinaryOp) → token bits (byte2 o) ≡ Ok (Binary o)
two_token bits o = ap (known bits) (kind_two o)

truth_token : (bits : ℕ) (v : Bool) → token bits (cond v 116 102) ≡ Ok (Truth v)
truth_token bits v = ap (known bits) (kind_truth v)

digit_token : (bits j : ℕ) → (ltb j 10 && ltb j bits) ≡ true → token bits (48 + j) ≡ Ok (Digit j)
digit_token bits j h =
    ap (known bits) (kind_digit j bits h)
    ∙ ap (λ b. cond b (Ok (Digit j)) (Err DigitTooLarge)) (and_parts (ltb j 10) (ltb j bits) h).1

-- ---- a formula where it stands: beneath a temporal operator it is plain, and no term counts

abbrev fits : Bool → Ltl → Bool
fits b p = cond b (plain p) (unnested p)

abbrev counts : Bool → Ltl → ℕ
counts b p = cond b 0 (length (terms p))

-- an operator, temporal or not, beneath another or not, over an operand
fit_one : (t b p u : Bool) → not (t && b) ≡ true → cond (b || t) p u ≡ true → cond b (not t && p) (cond t p u) ≡ true
fit_one true true p u n h = absurd (false≢true n)
fit_one true false p u n h = h
fit_one false true p u n h = h
fit_one false false p u n h = h

fit_two : (t b p u q v : Bool) → not (t && b) ≡ true → cond (b || t) p u ≡ true → cond (b || t) q v ≡ true →
    cond b (not t && (p && q)) (cond t (p && q) (u && v)) ≡ true
fit_two true true p u q v n h k = absurd (false≢true n)
fit_two true false p u q v n h k = and_from p q h k
fit_two false true p u q v n h k = and_from p q h k
fit_two false false p u q v n h k = and_from u v h k

unfit_one : (t b p u : Bool) → cond b (not t && p) (cond t p u) ≡ true → (not (t && b) ≡ true) × (cond (b || t) p u ≡ true)
unfit_one true true p u h = absurd (false≢true h)
unfit_one true false p u h = (refl, h)
unfit_one false true p u h = (refl, h)
unfit_one false false p u h = (refl, h)

unfit_two : (t b p u q v : Bool) → cond b (not t && (p && q)) (cond t (p && q) (u && v)) ≡ true →
    (not (t && b) ≡ true) × (cond (b || t) p u ≡ true) × (cond (b || t) q v ≡ true)
unfit_two true true p u q v h = absurd (false≢true h)
unfit_two true false p u q v h = (refl, (and_parts p q h).0, (and_parts p q h).1)
unfit_two false true p u q v h = (refl, (and_parts p q h).0, (and_parts p q h).1)
unfit_two false false p u q v h = (refl, (and_parts u v h).0, (and_parts u v h).1)

count_one : (t b : Bool) (o : Ltl) (ts : List Ltl) → not (t && b) ≡ true →
    cond b 0 (length (cond t (o ∷ []) ts)) ≡ cond t 1 0 + cond (b || t) 0 (length ts)
count_one true true o ts n = absurd (false≢true n)
count_one true false o ts n = refl
count_one false true o ts n = refl
count_one false false o ts n = omega arith

count_two : (t b : Bool) (o : Ltl) (ts us : List Ltl) → not (t && b) ≡ true →
    cond b 0 (length (cond t (o ∷ []) (ts ++ us))) ≡ cond t 1 0 + (cond (b || t) 0 (length ts) + cond (b || t) 0 (length us))
count_two true true o ts us n = absurd (false≢true n)
count_two true false o ts us n = refl
count_two false true o ts us n = refl
count_two false false o ts us n = length-append ts us ∙ omega arith

-- ---- from what is read to its prefix form

digit_count : (b : Bool) (n m j : ℕ) → terms_with (Digit j) b n ≡ Ok m → (m ≡ n + cond b 0 1) × (n ≤ 3 → m ≤ 3)
digit_count true n m j h = let e = ok_inj h in (omega arith, λ l. omega arith)
digit_count false n m j h = (grind (arith, nat_tests), λ l. grind (arith, nat_tests))

operator_count : (t b : Bool) (n m : ℕ) → with_operator t b n ≡ Ok m → (m ≡ n + cond t 1 0) × (n ≤ 3 → m ≤ 3) × (not (t && b) ≡ true)
operator_count true true n m h = never h
operator_count true false n m h = (grind (arith, nat_tests), λ l. grind (arith, nat_tests), refl)
operator_count false b n m h = let e = ok_inj h in (omega arith, λ l. omega arith, refl)

pub record Back (bits n : ℕ) (b : Bool) (bs : List ℕ) (g : Read) : Type 0 where
  pub text : bs ≡ prefix g.formula ++ g.rest
  pub digits : digits_below bits g.formula ≡ true
  pub fit : fits b g.formula ≡ true
  pub counted : g.terms ≡ n + counts b g.formula
  pub few : n ≤ 3 → g.terms ≤ 3

always_fits : (b : Bool) → cond b true true ≡ true
always_fits true = refl
always_fits false = refl

zero_counts : (b : Bool) → ◌≡◌ {A = ℕ} (cond b 0 0) 0
zero_counts true = refl
zero_counts false = refl

back_token : (bits n : ℕ) (b : Bool) (c : ℕ) (cs : List ℕ) (g : Read) (operand : Bool → ℕ → List ℕ → Result Read TextFault) →
    ((b : Bool) (n : ℕ) (bs : List ℕ) (g : Read) → operand b n bs ≡ Ok g → Back bits n b bs g) →
    (t : Token) → token bits c ≡ Ok t → (m : ℕ) → terms_with t b n ≡ Ok m → operands operand b m cs t ≡ Ok g → Back bits n b (c ∷ cs) g
back_token bits n b c cs g operand ih (Truth v) t m a h =
    let e : m ≡ n = sym (ok_inj a) in
    subst (Back bits n b (c ∷ cs)) (ok_inj h)
    (record {
      text = ap (λ x. x ∷ cs) (token_truth bits c v t);
      digits = refl;
      fit = always_fits b;
      counted = omega (arith, zero_counts b);
      few = λ l. omega arith;
    })
back_token bits n b c cs g operand ih (Digit j) t m a h =
    let d = token_digit bits c j t in
    let k = digit_count b n m j a in
    subst (Back bits n b (c ∷ cs)) (ok_inj h)
    (record { text = ap (λ x. x ∷ cs) d.0; digits = d.1; fit = always_fits b; counted = k.0; few = k.1 })
back_token bits n b c cs g operand ih (Unary o) t m a h =
    let k = operator_count (temporal1 o) b n m a in
    let p = chain_ok (operand (b || temporal1 o) m cs) _ g h in
    let i = ih (b || temporal1 o) m cs p.0 p.1 in
    subst (Back bits n b (c ∷ cs)) (ok_inj p.2)
    (record {
      text = ap (λ x. x ∷ cs) (token_one bits c o t) ∙ ap (λ l. byte1 o ∷ l) i.text;
      digits = i.digits;
      fit = fit_one (temporal1 o) b _ _ k.2 i.fit;
      counted = omega (arith, k.0, i.counted, count_one (temporal1 o) b (one o p.0.formula) (terms p.0.formula) k.2);
      few = λ l. i.few (k.1 l);
    })
back_token bits n b c cs g operand ih (Binary o) t m a h =
    let k = operator_count (temporal2 o) b n m a in
    let p = chain_ok (operand (b || temporal2 o) m cs) _ g h in
    let i = ih (b || temporal2 o) m cs p.0 p.1 in
    let q = chain_ok (operand (b || temporal2 o) p.0.terms p.0.rest) _ g p.2 in
    let j = ih (b || temporal2 o) p.0.terms p.0.rest q.0 q.1 in
    let pf : Ltl = p.0.formula in
    let qf : Ltl = q.0.formula in
    subst (Back bits n b (c ∷ cs)) (ok_inj q.2)
    (record {
      text = ap (λ x. x ∷ cs) (token_two bits c o t) ∙ ap (λ l. byte2 o ∷ l) (i.text ∙ ap (λ l. prefix pf ++ l) j.text ∙ sym (append_assoc (prefix pf) (prefix qf) q.0.rest));
      digits = and_from _ _ i.digits j.digits;
      fit = fit_two (temporal2 o) b _ _ _ _ k.2 i.fit j.fit;
      counted = omega (arith, k.0, i.counted, j.counted, count_two (temporal2 o) b (two o pf qf) (terms pf) (terms qf) k.2);
      few = λ l. j.few (i.few (k.1 l));
    })

pub back : (k bits n : ℕ) (b : Bool) (bs : List ℕ) (g : Read) → reads k bits b n bs ≡ Ok g → Back bits n b bs g
back zero bits n b bs g h = never h
back (suc k) bits n b [] g h = never h
back (suc k) bits n b (c ∷ cs) g h =
    let t = chain_ok (token bits c) (follows (reads k bits) b n cs) g h in
    let m = chain_ok (terms_with t.0 b n) (λ m. operands (reads k bits) b m cs t.0) g t.2 in
    back_token bits n b c cs g (reads k bits) (λ b n bs g. back k bits n b bs g) t.0 t.1 m.0 m.1 m.2

-- ---- from a prefix form to what is read

digit_room : (b : Bool) (n j : ℕ) → n + cond b 0 1 ≤ 3 → terms_with (Digit j) b n ≡ Ok (n + cond b 0 1)
digit_room true n j h = ap Ok (omega arith)
digit_room false n j h = grind (arith, nat_tests)

operator_room : (t b : Bool) (n : ℕ) → not (t && b) ≡ true → n + cond t 1 0 ≤ 3 → with_operator t b n ≡ Ok (n + cond t 1 0)
operator_room true true n e h = absurd (false≢true e)
operator_room true false n e h = grind (arith, nat_tests)
operator_room false b n e h = ap Ok (omega arith)

forth : (p : Ltl) (bits n : ℕ) (b : Bool) (rest : List ℕ) → digits_below bits p ≡ true → fits b p ≡ true → n + counts b p ≤ 3 →
    (k : ℕ) → length (prefix p ++ rest) ≤ k → reads k bits b n (prefix p ++ rest) ≡ Ok (record { formula = p; terms = n + counts b p; rest = rest })
forth (truth v) bits n b rest d l f k h =
    let z : n ≡ n + cond b 0 0 = omega (arith, zero_counts b) in
    truth_passes bits n b _ rest (cond v 116 102) refl v n (truth_token bits v) refl k h
    ∙ ap (λ x. Ok (record { formula = truth v; terms = x; rest = rest })) z
forth (digit j) bits n b rest d l f k h =
    digit_passes bits n b _ rest (48 + j) refl j _ (digit_token bits j d) (digit_room b n j f) k h
forth (one o p) bits n b rest d l f k h =
    let m : ℕ = n + cond (temporal1 o) 1 0 in
    let c : Bool = b || temporal1 o in
    let u = unfit_one (temporal1 o) b (plain p) (unnested p) l in
    let w : counts b (one o p) ≡ cond (temporal1 o) 1 0 + counts c p = count_one (temporal1 o) b (one o p) (terms p) u.0 in
    let z : m + counts c p ≡ n + counts b (one o p) = omega arith in
    one_reads bits n b _ (prefix p ++ rest) (byte1 o) refl o m _ (one_token bits o) (operator_room (temporal1 o) b n u.0 (omega arith))
    (λ k h. forth p bits m c rest d u.1 (omega arith) k h) k h
    ∙ ap (λ x. Ok (record { formula = one o p; terms = x; rest = rest })) z
forth (two o p q) bits n b rest d l f k h =
    let m : ℕ = n + cond (temporal2 o) 1 0 in
    let c : Bool = b || temporal2 o in
    let u = unfit_two (temporal2 o) b (plain p) (unnested p) (plain q) (unnested q) l in
    let w : counts b (two o p q) ≡ cond (temporal2 o) 1 0 + (counts c p + counts c q) = count_two (temporal2 o) b (two o p q) (terms p) (terms q) u.0 in
    let z : (m + counts c p) + counts c q ≡ n + counts b (two o p q) = omega arith in
    let g : Read = record { formula = p; terms = m + counts c p; rest = prefix q ++ rest } in
    two_reads bits n b _ (prefix p ++ (prefix q ++ rest)) (byte2 o) (ap (λ l. byte2 o ∷ l) (append_assoc (prefix p) (prefix q) rest)) o m g _ (two_token bits o)
    (operator_room (temporal2 o) b n u.0 (omega arith))
    (λ k h. forth p bits m c (prefix q ++ rest) (and_parts _ _ d).0 u.1 (omega arith) k h)
    (omega (arith, length-append (prefix p) (prefix q ++ rest)))
    (λ k h. forth q bits (m + counts c p) c rest (and_parts _ _ d).1 u.2 (omega arith) k h) k h
    ∙ ap (λ x. Ok (record { formula = two o p q; terms = x; rest = rest })) z

-- ---- the whole text

cond_ok : {A : Type 0} (b : Bool) (e : TextFault) (x : Result A TextFault) (p : A) → cond b (Err e) x ≡ Ok p → (b ≡ false) × (x ≡ Ok p)
cond_ok true e x p h = never h
cond_ok false e x p h = (refl, h)

closed_ok : (bits : ℕ) (rest : List ℕ) (u : Unit {0}) → closed bits rest ≡ Ok u → rest ≡ []
closed_ok bits [] u h = refl
closed_ok bits (c ∷ cs) u h = let t = chain_ok (token bits c) _ u h in never t.2

whole : (bits : ℕ) (text : List ℕ) (p : Ltl) → outcome bits text ≡ Ok p → TextOf bits text p
whole bits text p h =
    let a = cond_ok (eqb (length text) 0) _ _ p h in
    let b = cond_ok (ltb 64 (length text)) _ _ p a.1 in
    let g = chain_ok (reads (length text) bits false 0 text) _ p b.1 in
    let e = chain_ok (closed bits g.0.rest) _ p g.2 in
    let r = back (length text) bits 0 false text g.0 g.1 in
    let same : g.0.formula ≡ p = ok_inj e.2 in
    subst (TextOf bits text) same
    (record {
      prefixed = r.text ∙ ap (λ l. prefix g.0.formula ++ l) (closed_ok bits g.0.rest e.0 e.1) ∙ append-nil (prefix g.0.formula);
      rule = record { flat = r.fit; few = omega (arith, r.counted, r.few (omega arith)) };
      digits = r.digits;
      some = grind (arith, nat_tests, a.0);
      short = omega (arith, ltb-false 64 (length text) b.0);
    })

made : (bits : ℕ) (text : List ℕ) (p : Ltl) → TextOf bits text p → outcome bits text ≡ Ok p
made bits text p x =
    let e : text ≡ prefix p ++ [] = x.prefixed ∙ sym (append-nil (prefix p)) in
    let some : 1 ≤ length text = x.some in
    let full : length text ≤ 64 = x.short in
    let a : eqb (length text) 0 ≡ false = grind (arith, nat_tests) in
    let b : ltb 64 (length text) ≡ false = grind (arith, nat_tests) in
    let g : Read = record { formula = p; terms = 0 + length (terms p); rest = [] } in
    let few : 0 + length (terms p) ≤ 3 = omega (arith, x.rule.few) in
    let r : reads (length text) bits false 0 text ≡ Ok g = subst (λ l. length l ≤ length text → reads (length text) bits false 0 l ≡ Ok g) (sym e) (forth p bits 0 false [] x.digits x.rule.flat few (length text)) (omega arith) in
    let read : Result Ltl TextFault = chain (reads (length text) bits false 0 text) (λ g. chain (closed bits g.rest) (λ _. Ok g.formula)) in
    ap (λ t. cond t (Err Empty) (cond (ltb 64 (length text)) (Err TooLong) read)) a
    ∙ ap (λ t. cond t (Err TooLong) read) b
    ∙ ap (λ t. chain t (λ g. chain (closed bits g.rest) (λ _. Ok g.formula))) r

pub reads_as : (bits : ℕ) (text : List ℕ) → ReadsAs bits text
reads_as bits text p = (whole bits text p, made bits text p)

pub accepts : (bits : ℕ) (text : List ℕ) → Accepts bits text (checked bits text)
accepts bits text = (
  λ h. let p = chain_ok (outcome bits text) _ tt h in (p.0, whole bits text p.0 p.1),
  λ x. ap (λ r. chain r (λ _. Ok tt)) (made bits text x.0 x.1),
)

-- ---- the terms that the reader counts are the formula's

abbrev terms_behind : ℕ → Result Read TextFault → Result ℕ TextFault
terms_behind bits r = chain r (λ g. chain (closed bits g.rest) (λ _. Ok g.terms))

abbrev formula_behind : ℕ → Result Read TextFault → Result Ltl TextFault
formula_behind bits r = chain r (λ g. chain (closed bits g.rest) (λ _. Ok g.formula))

abbrev size : Result Ltl TextFault → Result ℕ TextFault
size r = chain r (λ p. Ok (length (terms p)))

pub passed_counted : (bits : ℕ) (text : List ℕ) → passed bits text ≡ counted bits text
passed_counted bits text = guarded (eqb (length text) 0) (ltb 64 (length text)) _ _ (inner (reads (length text) bits false 0 text) refl)
  where
    inner : (r : Result Read TextFault) → reads (length text) bits false 0 text ≡ r → terms_behind bits r ≡ size (formula_behind bits r)
    inner (Err e) h = refl
    inner (Ok g) h = let t : g.terms ≡ length (terms g.formula) = omega (arith, (back (length text) bits 0 false text g h).counted) in behind (closed bits g.rest) t
      where
        behind : (c : Result (Unit {0}) TextFault) → g.terms ≡ length (terms g.formula) → chain c (λ _. Ok g.terms) ≡ size (chain c (λ _. Ok g.formula))
        behind (Ok u) t = ap {B = Result ℕ TextFault} Ok t
        behind (Err e) t = refl

    guarded : (b c : Bool) (x : Result ℕ TextFault) (y : Result Ltl TextFault) → x ≡ size y → cond b (Err Empty) (cond c (Err TooLong) x) ≡ size (cond b (Err Empty) (cond c (Err TooLong) y))
    guarded true c x y e = refl
    guarded false true x y e = refl
    guarded false false x y e = e

-- and with them the states are counted
pub sized_ok : (bits : ℕ) (text : List ℕ) (t : ℕ) → passed bits text ≡ Ok t → (sized bits text ≡ Ok (1 + 3 ^ t)) × (3 ^ t ≤ 27)
sized_ok bits text t h =
    let p = chain_ok (outcome bits text) _ t (sym (passed_counted bits text) ∙ h) in
    let e : length (terms p.0) ≡ t = ok_inj p.2 in (
      ap (λ (r : Result Ltl TextFault). chain {B = ℕ} r (λ p. Ok (count p))) p.1 ∙ ap {B = Result ℕ TextFault} (λ n. Ok (1 + 3 ^ n)) e,
      subst (λ n. 3 ^ n ≤ 27) e (codes_few p.0 (whole bits text p.0 p.1).rule.few),
    )
