-- The numbers of answers.
use Rattle.std.specs.Prelude.{ℕ, Some, None, Option}
use Rattle.drives.specs.Refusals.{refusal_number}
use Rattle.assurance.specs.Calls.{Answer, Performed, Refused, NotAdmitted}

-- 0 if performed, else the number of the refusal; a call that is not admitted has none
abbrev pub answer_number : Answer → Option ℕ
answer_number Performed = Some 0
answer_number (Refused why) = Some (refusal_number why)
answer_number NotAdmitted = None
