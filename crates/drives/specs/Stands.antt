-- What a drive holds: its state, the column in force and, where one waits, the reading.
use Rattle.std.specs.Prelude.{ℕ}
use Rattle.drives.specs.declared.between.Between.{Between}
use Rattle.drives.specs.declared.waiting.Waiting.{Waiting}
use Rattle.drives.specs.declared.ended.Ended.{Ended}

-- between rounds at a state, in a column
abbrev pub between_at : ℕ → ℕ → Between
between_at q c = record { state = q; column = c }

-- at a state, in a column, with a reading that waits for its command
abbrev pub waiting_at : ℕ → ℕ → ℕ → Waiting
waiting_at q c x = record { state = q; column = c; reading = x }

-- ended at a state, in a column
abbrev pub ended_at : ℕ → ℕ → Ended
ended_at q c = record { state = q; column = c }
