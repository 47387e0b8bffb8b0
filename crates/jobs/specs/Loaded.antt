-- What is made of a job's bytes.
use Rattle.std.specs.Prelude.{◌≡◌, ℕ, ◌+◌, ◌<◌, true, cond, List, Ok, Err, Result}
use Rattle.automata.specs.Arena.{Arena}
use Rattle.automata.specs.Flat.{flat_by}
use Rattle.jobs.specs.FlatJob.{byte, begins_as, leads}
use Rattle.jobs.specs.Sections.{section_fits, text_fault, is_ground}
use Rattle.jobs.specs.Parts.{offset, sections_arena}
use Rattle.jobs.specs.JobFile.{job_checked}
use Rattle.jobs.specs.Meanings.{job_arena}
use Rattle.jobs.specs.Composed.{Composed}
use Rattle.jobs.specs.declared.job.Job.{Job}
use Rattle.jobs.specs.declared.load.LoadFault.{LoadFault}
use Rattle.jobs.specs.declared.load.LoadFault.TheVariants.{Refused, Memory}

-- the arena of any job's bytes
abbrev pub bytes_arena : List ℕ → Arena
bytes_arena bs =
    cond (leads bs) (flat_by (byte bs 3) (byte bs 4) (byte bs 5) (byte bs 6) (byte bs 7) bs) (sections_arena bs)

-- a job with that arena, or the refusal; memory may be wanting only where the bytes are a job
abbrev pub Loads : List ℕ → Result Job LoadFault → Type 0
Loads bs (Ok j) = (job_checked bs ≡ Ok tt) × (job_arena j ≡ bytes_arena bs)
Loads bs (Err (Refused f)) = job_checked bs ≡ Err f
Loads bs (Err Memory) = job_checked bs ≡ Ok tt

-- what a job in sections makes of words
abbrev pub Composes : List ℕ → Type 0
Composes bs = job_checked bs ≡ Ok tt → begins_as 74 bs ≡ true → Composed bs

-- a section that can be made: it is well formed, and its text, if it has one, is a rule's
pub record Sound (bs : List ℕ) (i : ℕ) : Type 0 where
  pub fits : section_fits (byte bs 3) (byte bs 4) bs (offset (byte bs 3) (byte bs 4) bs i) ≡ true
  pub text : text_fault (byte bs 3) (byte bs 4) bs (offset (byte bs 3) (byte bs 4) bs i) ≡ Ok tt

-- sections that a job can be made of
pub record AllSound (bs : List ℕ) : Type 0 where
  pub each : (i : ℕ) → i < byte bs 5 + 2 → Sound bs i
  pub ground_fits : is_ground bs 8 ≡ true
