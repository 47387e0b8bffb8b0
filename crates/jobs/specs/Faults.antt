-- The numbers of the refusals of a job, and the section that some of them name.
use Rattle.std.specs.Prelude.{ℕ, Some, None, Option}
use Rattle.jobs.specs.declared.fault.SectionFault.{SectionFault}
use Rattle.jobs.specs.declared.fault.SectionFault.TheVariants.{NotAGround, StepsToNone, Text}
use Rattle.jobs.specs.declared.fault.JobFault.{JobFault}
use Rattle.jobs.specs.declared.fault.JobFault.TheVariants.{NotAJob, TooManyBits, TooManyRights, Malformed, WrongTotal, Section, TooManyStates}

abbrev pub section_number : SectionFault → ℕ
section_number NotAGround = 13
section_number StepsToNone = 14
section_number (Text fault) = 15

abbrev pub fault_number : JobFault → ℕ
fault_number NotAJob = 8
fault_number TooManyBits = 9
fault_number TooManyRights = 10
fault_number (Malformed section) = 12
fault_number WrongTotal = 11
fault_number (Section i fault) = section_number fault
fault_number TooManyStates = 16

abbrev pub fault_section : JobFault → Option ℕ
fault_section NotAJob = None
fault_section TooManyBits = None
fault_section TooManyRights = None
fault_section (Malformed section) = Some section
fault_section WrongTotal = None
fault_section (Section i fault) = Some i
fault_section TooManyStates = None
