-- The causes for which a drive refuses a call, in their order, and the answer that they give.
use Rattle.std.specs.Prelude.{◌≡◌, ℕ, ◌^◌, Bool, false, cond, not, ◌&&◌, List, [], ◌∷◌, Some, None, Option, ◌==◌, nat_le, nat_lt}
use Rattle.automata.specs.Steps.{onward}
use Rattle.automata.specs.Arena.{Arena}
use Rattle.games.specs.Regions.{lawful, rank, permits}
use Rattle.drives.specs.declared.refusal.Refusal.{Refusal}
use Rattle.drives.specs.declared.refusal.Refusal.TheVariants.{ReadingTooLarge, RightOutOfRange, CommandTooLarge, ReadAtZero, ReadingUnlawful, CommandNotPermitted, ClaimedAlready, RightUnranked, StopAboveZero}
use Rattle.assurance.specs.Calls.{Call, Read, Command, Claim, Stop, Answer, Performed, Refused, NotAdmitted}
use Rattle.assurance.specs.Runs.{admits}

-- whether a cause applies, and its refusal
pub record Cause : Type 0 where
  pub applies : Bool
  pub why : Refusal

-- the first cause that applies, or none
abbrev pub first_cause : List Cause → Option Refusal
first_cause [] = None
first_cause (c ∷ cs) = cond c.applies (Some c.why) (first_cause cs)

-- the causes at the state q, in column c, with the reading w that waits, each with its number.
-- That the drive does not fit its sheet is none of them: begun on a sheet and kept to it, it fits
abbrev pub causes : Arena → ℕ → ℕ → Option ℕ → Call → List Cause
-- 19 the reading is too large, 23 no round is left, 24 the reading is unlawful
causes A q c w (Read x) =
    record { applies = not (nat_lt x (2 ^ A.a)); why = ReadingTooLarge }
    ∷ record { applies = (rank A c q == 0); why = ReadAtZero }
    ∷ record { applies = not (lawful A q x); why = ReadingUnlawful }
    ∷ []
-- 21 the command is too large, 25 the column's set does not hold it on the reading that waits
causes A q c w (Command y) =
    record { applies = not (nat_lt y (2 ^ A.b)); why = CommandTooLarge }
    ∷ record { applies = not (onward w false (λ x. permits A c q x y)); why = CommandNotPermitted }
    ∷ []
-- 20 there is no such right, 26 a right is claimed already, 27 the right's column does not rank the state
causes A q c w (Claim i) =
    record { applies = not (nat_le 1 i && nat_le i A.k); why = RightOutOfRange }
    ∷ record { applies = not (c == 0); why = ClaimedAlready }
    ∷ record { applies = (rank A i q == 65535); why = RightUnranked }
    ∷ []
-- 28 rounds are left
causes A q c w Stop = record { applies = not (rank A c q == 0); why = StopAboveZero } ∷ []

-- no cause applies to the call
abbrev pub Unrefused : Arena → ℕ → ℕ → Option ℕ → Call → Type 0
Unrefused A q c w call = first_cause (causes A q c w call) ≡ None

abbrev pub by_cause : Option Refusal → Answer
by_cause None = Performed
by_cause (Some why) = Refused why

-- THE ANSWER to a call at the state q, in column c, with the reading w that waits, o if ended:
-- not admitted, or refused for the first cause that applies, or performed
abbrev pub answer_by_causes : Arena → ℕ → ℕ → Option ℕ → Bool → Call → Answer
answer_by_causes A q c w o call = cond (admits w o call) (by_cause (first_cause (causes A q c w call))) NotAdmitted
