-- The codes of a rule's terms, which are its automaton's states.
use Rattle.std.specs.Prelude.{ℕ, ◌+◌, ◌-◌, ◌*◌, ◌/◌, ◌%◌, ◌^◌, Bool, true, false, cond, not, ◌&&◌, List, [], ◌∷◌, length, Some, None, Ok, Option, Result, ◌==◌, nat_lt}
use Rattle.ltlf.specs.Operators.{temporal1, temporal2, joined}
use Rattle.ltlf.specs.Formulas.{Ltl, truth, digit, one, two, terms}
use Rattle.ltlf.specs.Words.{digit_bit}
use Rattle.ltlf.specs.Reading.{chain, outcome}
use Rattle.ltlf.specs.declared.fault.TextFault.{TextFault}
use Rattle.ltlf.specs.declared.formula.Unary.{Unary}
use Rattle.ltlf.specs.declared.formula.Unary.TheVariants.{Not, Next, Eventually, Always}
use Rattle.automata.specs.declared.word.Round.{Round}

-- whether a formula without temporal operators holds in a round
abbrev pub shows : ℕ → Round → Ltl → Bool
shows a r (truth v) = v
shows a r (digit j) = digit_bit a r j
shows a r (one o p) = cond (temporal1 o) false (not (shows a r p))
shows a r (two o p q) = joined o (shows a r p) (shows a r q)

-- a term's code is 0 while it is open, 1 once it is true and 2 once it is false; 1 and 2 stay
abbrev pub while_open : ℕ → ℕ → ℕ
while_open c d = cond (c == 0) d c

-- the code of a temporal operator after a round, by whether that is the first and whether p holds in it; `!` is no term
abbrev pub one_code : Unary → Bool → Bool → ℕ → ℕ
one_code Not first p c = c
one_code Next first p c = cond first 0 (while_open c (cond p 1 2))
one_code Eventually first p c = while_open c (cond p 1 0)
one_code Always first p c = while_open c (cond p 0 2)

abbrev pub until_code : Bool → Bool → ℕ → ℕ
until_code p q c = while_open c (cond q 1 (cond p 0 2))

-- how many codes the terms of a formula have together
abbrev pub codes : Ltl → ℕ
codes p = 3 ^ length (terms p)

-- the codes of a formula's terms after a round, the leftmost being the lowest digit in base 3
abbrev pub stepped : ℕ → Bool → Round → Ltl → ℕ → ℕ
stepped a first r (truth v) c = 0
stepped a first r (digit j) c = cond first (cond (digit_bit a r j) 1 2) c
stepped a first r (one o p) c = cond (temporal1 o) (one_code o first (shows a r p) c) (stepped a first r p c)
stepped a first r (two o p q) c =
    cond (temporal2 o) (until_code (shows a r p) (shows a r q) c)
    (stepped a first r p (c % codes p) + codes p * stepped a first r q (c / codes p))

-- the value of a temporal operator by its code: an open G is true, any other open term false
abbrev pub one_mark : Unary → ℕ → Bool
one_mark Not c = false
one_mark Next c = c == 1
one_mark Eventually c = c == 1
one_mark Always c = not (c == 2)

-- the formula's value by its terms' codes
abbrev pub marks : Ltl → ℕ → Bool
marks (truth v) c = v
marks (digit j) c = c == 1
marks (one o p) c = cond (temporal1 o) (one_mark o c) (not (marks p c))
marks (two o p q) c = cond (temporal2 o) (c == 1) (joined o (marks p (c % codes p)) (marks q (c / codes p)))

-- state 0 is before any round, the others are 1 and the codes
abbrev pub count : Ltl → ℕ
count p = 1 + codes p

-- how many states the automaton of a text's rule has, or the text's refusal
abbrev pub sized : ℕ → List ℕ → Result ℕ TextFault
sized bits text = chain (outcome bits text) (λ p. Ok (count p))

-- out of range there is no step
abbrev pub rule_step : ℕ → ℕ → Ltl → ℕ → ℕ → ℕ → Option ℕ
rule_step a b p q x y =
    cond (nat_lt q (count p) && (nat_lt x (2 ^ a) && nat_lt y (2 ^ b)))
    (Some (1 + stepped a (q == 0) (record { reading = x; command = y }) p (q - 1))) None

-- state 0 is not marked, and nothing out of range is
abbrev pub rule_marked : Ltl → ℕ → Bool
rule_marked p q = not (q == 0) && (nat_lt q (count p) && marks p (q - 1))

-- the code of one term after a round and the rounds behind it
abbrev pub later : ℕ → Ltl → ℕ → List Round → ℕ
later a t c [] = c
later a t c (r ∷ w) = later a t (stepped a false r t c) w

abbrev pub code_after : ℕ → Round → List Round → Ltl → ℕ
code_after a r w t = later a t (stepped a true r t 0) w

-- c1 + 3 · c2 + 9 · c3
abbrev pub number_of : List ℕ → ℕ
number_of [] = 0
number_of (c ∷ cs) = c + 3 * number_of cs
