-- What a list of bytes is as a job. A job in sections is 68, 74, 1, reading bits, command bits, rights
-- and a two-byte total, low byte first; then a section for the ground, one for the duty and one for
-- each right, without gaps. A flat job begins with 68, 70, 1.
use Rattle.std.specs.Prelude.{ℕ, zero, suc, ◌+◌, ◌*◌, cond, List, length, Ok, Err, Result, ◌==◌, nat_le}
use Rattle.std.specs.Result.{result_and, result_map_both}
use Rattle.jobs.specs.FlatJob.{byte, begins_as, leads, narrow, flat_job}
use Rattle.jobs.specs.Sections.{form_fault, ground_fault, none_fault, text_fault}
use Rattle.jobs.specs.Parts.{offset, sections_arena}
use Rattle.jobs.specs.declared.fault.SectionFault.{SectionFault}
use Rattle.jobs.specs.declared.fault.JobFault.{JobFault}
use Rattle.jobs.specs.declared.fault.JobFault.TheVariants.{NotAJob, TooManyBits, TooManyRights, Malformed, WrongTotal, Section, TooManyStates}

abbrev pub total : List ℕ → ℕ
total bs = byte bs 6 + 256 * byte bs 7

-- the sections' faults in turn: the first fault among the sections below m
abbrev pub in_turn : ℕ → (ℕ → Result (Unit {0}) JobFault) → Result (Unit {0}) JobFault
in_turn zero fault = Ok tt
in_turn (suc m) fault = result_and (in_turn m fault) (fault m)

-- the job adds which section it is
abbrev pub of_section : ℕ → Result (Unit {0}) SectionFault → Result (Unit {0}) JobFault
of_section i r = result_map_both (λ u. u) (Section i) r

-- what is looked for in each section
abbrev pub form_at : List ℕ → ℕ → Result (Unit {0}) JobFault
form_at bs i = form_fault (byte bs 3) (byte bs 4) bs i (offset (byte bs 3) (byte bs 4) bs i)

abbrev pub ground_at : List ℕ → ℕ → Result (Unit {0}) JobFault
ground_at bs i = of_section i (ground_fault bs i (offset (byte bs 3) (byte bs 4) bs i))

abbrev pub none_at : List ℕ → ℕ → Result (Unit {0}) JobFault
none_at bs i = of_section i (none_fault (byte bs 3) (byte bs 4) bs i (offset (byte bs 3) (byte bs 4) bs i))

abbrev pub text_at : List ℕ → ℕ → Result (Unit {0}) JobFault
text_at bs i = of_section i (text_fault (byte bs 3) (byte bs 4) bs (offset (byte bs 3) (byte bs 4) bs i))

-- one turn through the sections
abbrev pub turn : (List ℕ → ℕ → Result (Unit {0}) JobFault) → List ℕ → Result (Unit {0}) JobFault
turn fault bs = in_turn (byte bs 5 + 2) (fault bs)

-- bytes behind the last section count as its fault
abbrev pub ended : List ℕ → Result (Unit {0}) JobFault
ended bs = cond (offset (byte bs 3) (byte bs 4) bs (byte bs 5 + 2) == length bs) (Ok tt) (Err (Malformed (byte bs 5 + 1)))

abbrev pub few_states : List ℕ → Result (Unit {0}) JobFault
few_states bs = cond (nat_le (sections_arena bs).n 256) (Ok tt) (Err TooManyStates)

-- the sections' refusals, one kind after the other, each over the sections in turn
abbrev pub sections_checked : List ℕ → Result (Unit {0}) JobFault
sections_checked bs =
    result_and (turn form_at bs) (result_and (ended bs) (result_and (turn ground_at bs) (result_and (turn none_at bs) (result_and (turn text_at bs) (few_states bs)))))

-- a job in sections: the first refusal that applies, if one does
abbrev pub sectioned_checked : List ℕ → Result (Unit {0}) JobFault
sectioned_checked bs =
    cond (begins_as 74 bs)
    (cond (narrow bs)
    (cond (nat_le (byte bs 5) 4)
    (cond (total bs == length bs) (sections_checked bs)
    (Err WrongTotal))
    (Err TooManyRights))
    (Err TooManyBits))
    (Err NotAJob)

-- any job
abbrev pub job_checked : List ℕ → Result (Unit {0}) JobFault
job_checked bs = cond (leads bs) (result_map_both (λ h. tt) (λ e. e) (flat_job bs)) (sectioned_checked bs)
