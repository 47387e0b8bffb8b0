-- A drive's refusals, and their numbers.
use Rattle.std.specs.Prelude.{ℕ}
use Rattle.drives.specs.declared.refusal.Refused.{Refused}
use Rattle.drives.specs.declared.refusal.Refusal.{Refusal}
use Rattle.drives.specs.declared.refusal.Refusal.TheVariants.{ReadingTooLarge, RightOutOfRange, CommandTooLarge, DoesNotFit, ReadAtZero, ReadingUnlawful, CommandNotPermitted, ClaimedAlready, RightUnranked, StopAboveZero, StartUnranked}

abbrev pub refusal_number : Refusal → ℕ
refusal_number ReadingTooLarge = 19
refusal_number RightOutOfRange = 20
refusal_number CommandTooLarge = 21
refusal_number DoesNotFit = 22
refusal_number ReadAtZero = 23
refusal_number ReadingUnlawful = 24
refusal_number CommandNotPermitted = 25
refusal_number ClaimedAlready = 26
refusal_number RightUnranked = 27
refusal_number StopAboveZero = 28
refusal_number StartUnranked = 29

-- a refusal, with the drive as it was
abbrev pub refused : {S : Type 0} → S → Refusal → Refused S
refused d why = record { state = d; why = why }
