-- What is read off a run of a drive: from the performed calls alone, the rounds, the state reached,
-- the claimed right, the reading that waits, and whether the drive has stopped.
use Rattle.std.specs.Prelude.{ℕ, Bool, true, false, List, [], ◌∷◌, Some, None, Option}
use Rattle.automata.specs.Arena.{Arena}
use Rattle.automata.specs.Machine.{machine_in}
use Rattle.automata.specs.Walks.{walked}
use Rattle.automata.specs.declared.word.Round.{Round}
use Rattle.assurance.specs.Calls.{Call, Read, Command, Claim, Stop, Performed, Refused, NotAdmitted, Answered}

-- the performed calls, in order
abbrev pub performed : List Answered → List Call
performed [] = []
performed (t ∷ ts) = elim t.answer [ Performed ↦ t.call ∷ performed ts | Refused why ↦ performed ts | NotAdmitted ↦ performed ts ]

-- the reads that a command answers, each with that command, the oldest first; w is a reading that
-- waits before the first call
abbrev pub rounds : Option ℕ → List Call → List Round
rounds w [] = []
rounds w (Read x ∷ cs) = rounds (Some x) cs
rounds None (Command y ∷ cs) = rounds None cs
rounds (Some x) (Command y ∷ cs) = record { reading = x; command = y } ∷ rounds None cs
rounds w (Claim i ∷ cs) = rounds w cs
rounds w (Stop ∷ cs) = rounds w cs

-- the read that no command has answered, if there is one
abbrev pub waits : Option ℕ → List Call → Option ℕ
waits w [] = w
waits w (Read x ∷ cs) = waits (Some x) cs
waits w (Command y ∷ cs) = waits None cs
waits w (Claim i ∷ cs) = waits w cs
waits w (Stop ∷ cs) = waits w cs

-- the right of the claim, or c where there is none
abbrev pub claimed : ℕ → List Call → ℕ
claimed c [] = c
claimed c (Read x ∷ cs) = claimed c cs
claimed c (Command y ∷ cs) = claimed c cs
claimed c (Claim i ∷ cs) = claimed i cs
claimed c (Stop ∷ cs) = claimed c cs

-- whether there is a stop, or o says so
abbrev pub stopped : Bool → List Call → Bool
stopped o [] = o
stopped o (Read x ∷ cs) = stopped o cs
stopped o (Command y ∷ cs) = stopped o cs
stopped o (Claim i ∷ cs) = stopped o cs
stopped o (Stop ∷ cs) = stopped true cs

-- THE STATE REACHED: where the rounds step the arena from its start, or none
abbrev pub reached : Arena → List Answered → Option ℕ
reached A ts = walked (machine_in A) (rounds None (performed ts))

-- THE COLUMN IN FORCE: the claimed right's, or 0
abbrev pub column_in_force : List Answered → ℕ
column_in_force ts = claimed 0 (performed ts)

-- THE READING THAT WAITS for its command, or none between rounds
abbrev pub reading_waiting : List Answered → Option ℕ
reading_waiting ts = waits None (performed ts)

-- WHETHER THE DRIVE HAS ENDED
abbrev pub has_ended : List Answered → Bool
has_ended ts = stopped false (performed ts)

-- which calls a drive admits, by the reading that waits and whether it has ended: between rounds
-- read, claim and stop, while a reading waits command alone, and ended none
abbrev pub admits : Option ℕ → Bool → Call → Bool
admits w true call = false
admits None false (Read x) = true
admits None false (Command y) = false
admits None false (Claim i) = true
admits None false Stop = true
admits (Some x) false (Read x') = false
admits (Some x) false (Command y) = true
admits (Some x) false (Claim i) = false
admits (Some x) false Stop = false
