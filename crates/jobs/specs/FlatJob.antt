-- What a list of bytes is as a flat job: 68, 70, 1, reading bits, command bits, rights, count and
-- start; then a mark byte for each state, and a step byte for each state, reading and command.
use Rattle.std.specs.Prelude.{ℕ, ◌+◌, ◌*◌, ◌^◌, Bool, cond, if◌then◌else◌, ◌&&◌, ◌||◌, ltb, List, length, Ok, Err, Result, ◌==◌, nat_le, nat_lt, slice_index}
use Rattle.ranges.specs.Ranges.{all}
use Rattle.automata.specs.declared.header.FlatHeader.{FlatHeader}
use Rattle.jobs.specs.declared.form.Form.{Form}
use Rattle.jobs.specs.declared.form.Form.TheVariants.{Flat, Sections}
use Rattle.jobs.specs.declared.fault.JobFault.{JobFault}
use Rattle.jobs.specs.declared.fault.JobFault.TheVariants.{NotAJob, TooManyBits, TooManyRights, Malformed}

-- the byte at a place, or 0 past the end
abbrev pub byte : List ℕ → ℕ → ℕ
byte bs i = slice_index bs i

-- the numbers of the head
pub record Head : Type 0 where
  pub reading_bits : ℕ
  pub command_bits : ℕ
  pub rights : ℕ
  pub count : ℕ
  pub start : ℕ

abbrev pub head : List ℕ → Head
head bs = record { reading_bits = byte bs 3; command_bits = byte bs 4; rights = byte bs 5; count = byte bs 6; start = byte bs 7 }

-- at least eight bytes, of which the first three are 68, the byte of the job's form, and 1
abbrev pub begins_as : ℕ → List ℕ → Bool
begins_as form bs = nat_le 8 (length bs) && byte bs 0 == 68 && byte bs 1 == form && byte bs 2 == 1

-- the second byte of a job, by its form
abbrev pub form_byte : Form → ℕ
form_byte Flat = 70
form_byte Sections = 74

-- a flat job's form is 70
abbrev pub leads : List ℕ → Bool
leads bs = nat_le 8 (length bs) && byte bs 0 == 68 && byte bs 1 == 70 && byte bs 2 == 1

abbrev pub narrow : List ℕ → Bool
narrow bs = nat_le (byte bs 3) 3 && nat_le (byte bs 4) 3

-- the refusal of a head of the form, if it is refused
abbrev pub head_checked : ℕ → List ℕ → Result (Unit {0}) JobFault
head_checked form bs =
    if begins_as form bs
    then if narrow bs then if nat_le (byte bs 5) 4 then Ok tt else Err TooManyRights else Err TooManyBits
    else Err NotAJob

-- how many step bytes there are
abbrev pub cells : List ℕ → ℕ
cells bs = byte bs 6 * 2 ^ byte bs 3 * 2 ^ byte bs 4

-- 1 to 128 states, the start among them
abbrev pub states_fit : List ℕ → Bool
states_fit bs = nat_le 1 (byte bs 6) && nat_le (byte bs 6) 128 && nat_lt (byte bs 7) (byte bs 6)

-- the bytes end with the last step: none is missing and none is spare
abbrev pub ends : List ℕ → Bool
ends bs = length bs == 8 + byte bs 6 + cells bs

-- a mark byte has bit 0 for the duty and bit i for right i, and no other bit
abbrev pub marks_fit : List ℕ → Bool
marks_fit bs = all (byte bs 6) (λ q. ltb (byte bs (8 + q)) (2 ^ (byte bs 5 + 1)))

-- a step byte is a state, or 255 for none
abbrev pub steps_fit : List ℕ → Bool
steps_fit bs = all (cells bs) (λ i. nat_lt (byte bs (8 + byte bs 6 + i)) (byte bs 6) || byte bs (8 + byte bs 6 + i) == 255)

abbrev pub rest_fits : List ℕ → Bool
rest_fits bs = states_fit bs && ends bs && marks_fit bs && steps_fit bs

-- the head of a flat job, or the first refusal that applies
abbrev pub flat_job : List ℕ → Result Head JobFault
flat_job bs =
    cond (leads bs)
    (cond (narrow bs)
    (cond (nat_le (byte bs 5) 4)
    (cond (rest_fits bs) (Ok (head bs)) (Err (Malformed 0)))
    (Err TooManyRights))
    (Err TooManyBits))
    (Err NotAJob)

-- what the reader answers, by its numbers
abbrev pub numbers : FlatHeader → Head
numbers h = record { reading_bits = h.shape.reading_bits; command_bits = h.shape.command_bits; rights = h.rights; count = h.shape.count; start = h.shape.start }

abbrev pub told : Result FlatHeader JobFault → Result Head JobFault
told (Ok h) = Ok (numbers h)
told (Err e) = Err e
