-- What a call makes of a drive of any state, and what it answers, over the tables of the opened sheet.
use Rattle.std.specs.Prelude.{Ok, Err, Result}
use Rattle.sheets.specs.Tables.{Tables}
use Rattle.drives.specs.Model.{reads, commands, claims, stops}
use Rattle.drives.specs.declared.between.Between.{Between}
use Rattle.drives.specs.declared.waiting.Waiting.{Waiting}
use Rattle.drives.specs.declared.refusal.Refused.{Refused as Kept}
use Rattle.assurance.specs.declared.drive.Drive.{Drive}
use Rattle.assurance.specs.declared.drive.Drive.TheVariants.{Between as between, Waiting as waiting, Ended as ended}
use Rattle.assurance.specs.Calls.{Call, Read, Command, Claim, Stop, Answer, Performed, Refused, NotAdmitted}

-- performed, the drive is the next one; refused, it is as it was
abbrev pub settled : {S N : Type 0} → (S → Drive) → (N → Drive) → Result N (Kept S) → Drive × Answer
settled was next (Ok d) = (next d, Performed)
settled was next (Err r) = (was r.state, Refused r.why)

-- between rounds all but a command is admitted
abbrev pub between_makes : Tables → Between → Call → Drive × Answer
between_makes T d (Read x) = settled between waiting (reads T d x)
between_makes T d (Command y) = (between d, NotAdmitted)
between_makes T d (Claim i) = settled between between (claims T d i)
between_makes T d Stop = settled between ended (stops T d)

-- while a reading waits, nothing but a command is
abbrev pub waiting_makes : Tables → Waiting → Call → Drive × Answer
waiting_makes T d (Read x) = (waiting d, NotAdmitted)
waiting_makes T d (Command y) = settled waiting between (commands T d y)
waiting_makes T d (Claim i) = (waiting d, NotAdmitted)
waiting_makes T d Stop = (waiting d, NotAdmitted)

-- A CALL: the drive then, and the answer; an ended drive admits none
abbrev pub makes : Tables → Drive → Call → Drive × Answer
makes T (between d) call = between_makes T d call
makes T (waiting d) call = waiting_makes T d call
makes T (ended d) call = (ended d, NotAdmitted)
