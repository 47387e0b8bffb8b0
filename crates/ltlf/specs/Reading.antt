-- What a text is read as, and its refusal.
use Rattle.std.specs.Prelude.{ℕ, zero, suc, Bool, false, cond, ◌||◌, List, [], ◌∷◌, length, Ok, Err, Result, ◌==◌, nat_lt}
use Rattle.ltlf.specs.Operators.{temporal1, temporal2}
use Rattle.ltlf.specs.Formulas.{Ltl, truth, digit, one, two, terms}
use Rattle.ltlf.specs.Tokens.{token, terms_with}
use Rattle.ltlf.specs.declared.fault.TextFault.{TextFault}
use Rattle.ltlf.specs.declared.fault.TextFault.TheVariants.{Empty, TooLong, TextEnds, ByteAfterEnd}
use Rattle.ltlf.specs.declared.token.Token.{Token}
use Rattle.ltlf.specs.declared.token.Token.TheVariants.{Truth, Digit, Unary, Binary}

-- a formula that was read, the terms so far, and the bytes behind it
pub record Read : Type 0 where
  pub formula : Ltl
  pub terms : ℕ
  pub rest : List ℕ

-- what follows where nothing is at fault
abbrev pub chain : {A B : Type 0} → Result A TextFault → (A → Result B TextFault) → Result B TextFault
chain (Ok x) f = f x
chain (Err e) f = Err e

-- the operands behind a token, each read by `operand`
abbrev pub operands : (Bool → ℕ → List ℕ → Result Read TextFault) → Bool → ℕ → List ℕ → Token → Result Read TextFault
operands operand beneath n cs (Truth v) = Ok (record { formula = truth v; terms = n; rest = cs })
operands operand beneath n cs (Digit j) = Ok (record { formula = digit j; terms = n; rest = cs })
operands operand beneath n cs (Unary o) =
    chain (operand (beneath || temporal1 o) n cs) (λ p.
    Ok (record { formula = one o p.formula; terms = p.terms; rest = p.rest }))
operands operand beneath n cs (Binary o) =
    chain (operand (beneath || temporal2 o) n cs) (λ p.
    chain (operand (beneath || temporal2 o) p.terms p.rest) (λ q.
    Ok (record { formula = two o p.formula q.formula; terms = q.terms; rest = q.rest })))

-- a token counts among the terms, and then its operands are read
abbrev pub follows : (Bool → ℕ → List ℕ → Result Read TextFault) → Bool → ℕ → List ℕ → Token → Result Read TextFault
follows operand beneath n cs t = chain (terms_with t beneath n) (λ m. operands operand beneath m cs t)

-- the formula with which the bytes begin, `n` terms having come before it; `fuel` bounds the calls, one in another
abbrev pub reads : ℕ → ℕ → Bool → ℕ → List ℕ → Result Read TextFault
reads zero bits beneath n bytes = Err TextEnds
reads (suc fuel) bits beneath n [] = Err TextEnds
reads (suc fuel) bits beneath n (c ∷ cs) = chain (token bits c) (follows (reads fuel bits) beneath n cs)

-- behind the formula no byte may stand
abbrev pub closed : ℕ → List ℕ → Result (Unit {0}) TextFault
closed bits [] = Ok tt
closed bits (c ∷ cs) = chain (token bits c) (λ _. Err ByteAfterEnd)

-- what a text is read as: its formula, or its refusal
abbrev pub outcome : ℕ → List ℕ → Result Ltl TextFault
outcome bits text =
    cond (length text == 0) (Err Empty)
    (cond (nat_lt 64 (length text)) (Err TooLong)
    (chain (reads (length text) bits false 0 text) (λ g. chain (closed bits g.rest) (λ _. Ok g.formula))))

-- the refusal alone
abbrev pub checked : ℕ → List ℕ → Result (Unit {0}) TextFault
checked bits text = chain (outcome bits text) (λ _. Ok tt)

-- how many terms the formula has, or the refusal
abbrev pub counted : ℕ → List ℕ → Result ℕ TextFault
counted bits text = chain (outcome bits text) (λ p. Ok (length (terms p)))

-- the same, by the terms that the reader counts
abbrev pub passed : ℕ → List ℕ → Result ℕ TextFault
passed bits text =
    cond (length text == 0) (Err Empty)
    (cond (nat_lt 64 (length text)) (Err TooLong)
    (chain (reads (length text) bits false 0 text) (λ g. chain (closed bits g.rest) (λ _. Ok g.terms))))
