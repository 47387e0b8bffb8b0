-- What each call of a drive answers, over the tables of the opened sheet. The first refusal whose test
-- holds comes out, with the drive as it was; where none does, the call is performed.
use Rattle.std.specs.Prelude.{◌≡◌, ℕ, ◌^◌, ◌<◌, Bool, cond, not, ◌&&◌, Some, Ok, Err, Result, ◌==◌, nat_le, nat_lt}
use Rattle.sheets.specs.Tables.{Tables}
use Rattle.sheets.specs.Encoding.{field_of}
use Rattle.drives.specs.Refusals.{refused}
use Rattle.drives.specs.Stands.{between_at, waiting_at, ended_at}
use Rattle.drives.specs.declared.between.Between.{Between}
use Rattle.drives.specs.declared.waiting.Waiting.{Waiting}
use Rattle.drives.specs.declared.ended.Ended.{Ended}
use Rattle.drives.specs.declared.refusal.Refused.{Refused}
use Rattle.drives.specs.declared.refusal.Refusal.{Refusal}
use Rattle.drives.specs.declared.refusal.Refusal.TheVariants.{ReadingTooLarge, RightOutOfRange, CommandTooLarge, DoesNotFit, ReadAtZero, ReadingUnlawful, CommandNotPermitted, ClaimedAlready, RightUnranked, StopAboveZero, StartUnranked}

-- the state is one of the sheet's, and the column is 0 or that of one of its rights
abbrev pub fits : Tables → ℕ → ℕ → Bool
fits T q c = nat_lt q T.n && nat_le c T.k

abbrev pub reading_fits : Tables → ℕ → Bool
reading_fits T x = nat_lt x (2 ^ T.a)

abbrev pub command_fits : Tables → ℕ → Bool
command_fits T y = nat_lt y (2 ^ T.b)

-- one of the rights 1 to k
abbrev pub right_fits : Tables → ℕ → Bool
right_fits T i = nat_le 1 i && nat_le i T.k

-- BEGIN: between rounds at the start, in column 0
abbrev pub begun : Tables → Result Between Refusal
begun T = cond (T.rank 0 T.start == 65535) (Err StartUnranked) (Ok (between_at T.start 0))

-- SHOWN: the rank in the column in force
abbrev pub shows : Tables → Between → Result ℕ Refusal
shows T d = cond (not (fits T d.state d.column)) (Err DoesNotFit) (Ok (T.rank d.column d.state))

-- READ keeps a lawful reading, unless 0 is shown
abbrev pub reads : Tables → Between → ℕ → Result Waiting (Refused Between)
reads T d x =
    cond (not (fits T d.state d.column)) (Err (refused d DoesNotFit))
    (cond (not (reading_fits T x)) (Err (refused d ReadingTooLarge))
    (cond (T.rank d.column d.state == 0) (Err (refused d ReadAtZero))
    (cond (not (T.lawful d.state x)) (Err (refused d ReadingUnlawful))
    (Ok (waiting_at d.state d.column x)))))

-- COMMAND steps on the waiting reading and a command of the set. For a step of none, which `Lands`
-- rules out, the state would be 65535
abbrev pub commands : Tables → Waiting → ℕ → Result Between (Refused Waiting)
commands T d y =
    cond (not (fits T d.state d.column && reading_fits T d.reading)) (Err (refused d DoesNotFit))
    (cond (not (command_fits T y)) (Err (refused d CommandTooLarge))
    (cond (not (T.permits d.column d.state d.reading y)) (Err (refused d CommandNotPermitted))
    (Ok (between_at (field_of (T.step d.state d.reading y)) d.column))))

-- where a command is performed its step is not none: it is the drive's new state, one of the sheet's
abbrev pub Lands : Tables → Waiting → ℕ → Result Between (Refused Waiting) → Type 0
Lands T d y (Ok e) = (T.step d.state d.reading y ≡ Some e.state) × (e.state < T.n)
Lands T d y (Err e) = Unit {0}

-- CLAIM puts a right's column in force, once
abbrev pub claims : Tables → Between → ℕ → Result Between (Refused Between)
claims T d i =
    cond (not (fits T d.state d.column)) (Err (refused d DoesNotFit))
    (cond (not (right_fits T i)) (Err (refused d RightOutOfRange))
    (cond (not (d.column == 0)) (Err (refused d ClaimedAlready))
    (cond (T.rank i d.state == 65535) (Err (refused d RightUnranked))
    (Ok (between_at d.state i)))))

-- STOP ends the drive where 0 is shown
abbrev pub stops : Tables → Between → Result Ended (Refused Between)
stops T d =
    cond (not (fits T d.state d.column)) (Err (refused d DoesNotFit))
    (cond (not (T.rank d.column d.state == 0)) (Err (refused d StopAboveZero))
    (Ok (ended_at d.state d.column)))

-- REPORT: the claimed right, or 0, and the last state
abbrev pub reports : Ended → ℕ × ℕ
reports d = (d.column, d.state)
