-- Linear temporal logic on finite words.
use Rattle.std.specs.Prelude.{◌≡◌, ℕ, suc, ◌-◌, ◌^◌, ◌<◌, ◌≤◌, Bool, true, cond, ◌&&◌, ◌⊎◌, List, [], ◌∷◌, length, nat_lt, slice_index_or}
use Rattle.ranges.specs.Ranges.{bit}
use Rattle.ltlf.specs.Formulas.{Ltl, truth, digit, one, two}
use Rattle.ltlf.specs.declared.formula.Unary.TheVariants.{Not, Next, Eventually, Always}
use Rattle.ltlf.specs.declared.formula.Binary.TheVariants.{And, Or, Until}
use Rattle.automata.specs.declared.word.Round.{Round}

-- the bit of a round that a digit stands for: digit j below a is reading bit j, and digit a + j is command bit j
abbrev pub digit_bit : ℕ → Round → ℕ → Bool
digit_bit a r j = cond (nat_lt j a) (bit r.reading j) (bit r.command (j - a))

-- the round at a position of a word
abbrev pub round_at : List Round → ℕ → Round
round_at w i = slice_index_or w i (record { reading = 0; command = 0 })

-- a formula holds of a word at a position
abbrev pub Holds : ℕ → List Round → ℕ → Ltl → Type 0
Holds a w i (truth v) = v ≡ true
Holds a w i (digit j) = digit_bit a (round_at w i) j ≡ true
Holds a w i (one Not p) = Holds a w i p → ⊥
-- there is a next position, and p holds there
Holds a w i (one Next p) = (suc i < length w) × Holds a w (suc i) p
-- p holds at some position from here on
Holds a w i (one Eventually p) = (j : ℕ) × (i ≤ j) × (j < length w) × Holds a w j p
-- p holds at every position from here on
Holds a w i (one Always p) = (j : ℕ) → i ≤ j → j < length w → Holds a w j p
Holds a w i (two And p q) = Holds a w i p × Holds a w i q
Holds a w i (two Or p q) = Holds a w i p ⊎ Holds a w i q
-- q holds at some position from here on, and p at each from here to just before it
Holds a w i (two Until p q) = (j : ℕ) × (i ≤ j) × (j < length w) × Holds a w j q × ((k : ℕ) → i ≤ k → k < j → Holds a w k p)

-- a word is judged at its first position, and the empty word satisfies nothing
abbrev pub Satisfies : ℕ → List Round → Ltl → Type 0
Satisfies a w p = (0 < length w) × Holds a w 0 p

-- each reading is a number of a bits, and each command one of b bits
abbrev pub in_range : ℕ → ℕ → List Round → Bool
in_range a b [] = true
in_range a b (r ∷ w) = nat_lt r.reading (2 ^ a) && (nat_lt r.command (2 ^ b) && in_range a b w)
