-- Calls of a drive, and what each answers.
use Rattle.std.specs.Prelude.{ℕ, List, codes}
pub use Rattle.assurance.specs.declared.calls.Call.{Call}
pub use Rattle.assurance.specs.declared.calls.Call.TheVariants.{Read, Command, Claim, Stop}
pub use Rattle.assurance.specs.declared.calls.Answer.{Answer}
pub use Rattle.assurance.specs.declared.calls.Answer.TheVariants.{Performed, Refused, NotAdmitted}

-- a call that was made, with its answer; a run is a list of these from begin on, the oldest first
pub record Answered : Type 0 where
  pub call : Call
  pub answer : Answer

-- how a call is printed
abbrev pub call_word : Call → List ℕ
call_word (Read x) = codes "read"
call_word (Command y) = codes "command"
call_word (Claim i) = codes "claim"
call_word Stop = codes "stop"
