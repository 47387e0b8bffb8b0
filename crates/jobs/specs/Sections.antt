-- A section of a job, by its bytes from an offset o on: kind, held, count, a fourth byte, and a body.
-- Kind 1 is a table: count states, the fourth byte the start, and as body a mark byte for each state
-- and a step byte for each state, reading and command. Kind 2 is a rule: count bytes of text as body.
use Rattle.std.specs.Prelude.{ℕ, ◌+◌, ◌*◌, ◌^◌, Bool, cond, not, ◌&&◌, ◌||◌, ltb, List, length, take, drop, Ok, Err, Result, ◌==◌, nat_eq, nat_le, nat_lt}
use Rattle.std.specs.Result.{result_map_both}
use Rattle.ranges.specs.Ranges.{all}
use Rattle.ltlf.specs.Reading.{checked}
use Rattle.jobs.specs.FlatJob.{byte}
use Rattle.jobs.specs.declared.fault.JobFault.{JobFault}
use Rattle.jobs.specs.declared.fault.JobFault.TheVariants.{Malformed}
use Rattle.jobs.specs.declared.fault.SectionFault.{SectionFault}
use Rattle.jobs.specs.declared.fault.SectionFault.TheVariants.{NotAGround, StepsToNone, Text}

abbrev pub is_table : List ℕ → ℕ → Bool
is_table bs o = byte bs o == 1

abbrev pub is_held : List ℕ → ℕ → Bool
is_held bs o = byte bs (o + 1) == 1

abbrev pub count : List ℕ → ℕ → ℕ
count bs o = byte bs (o + 2)

abbrev pub fourth : List ℕ → ℕ → ℕ
fourth bs o = byte bs (o + 3)

-- how many step bytes a table has, with a reading bits and b command bits
abbrev pub cells : ℕ → ℕ → List ℕ → ℕ → ℕ
cells a b bs o = count bs o * 2 ^ a * 2 ^ b

abbrev pub body_length : ℕ → ℕ → List ℕ → ℕ → ℕ
body_length a b bs o = cond (is_table bs o) (count bs o + cells a b bs o) (count bs o)

abbrev pub body : ℕ → ℕ → List ℕ → ℕ → List ℕ
body a b bs o = take (body_length a b bs o) (drop (o + 4) bs)

-- where the section ends
abbrev pub end : ℕ → ℕ → List ℕ → ℕ → ℕ
end a b bs o = o + 4 + body_length a b bs o

-- mark byte q and step byte i of a table
abbrev pub mark : List ℕ → ℕ → ℕ → ℕ
mark bs o q = byte bs (o + 4 + q)

abbrev pub cell : List ℕ → ℕ → ℕ → ℕ
cell bs o i = byte bs (o + 4 + count bs o + i)

-- 1 to 64 states, the start among them; a mark is 0 or 1, and a step is a state or 255 for none
abbrev pub table_fits : ℕ → ℕ → List ℕ → ℕ → Bool
table_fits a b bs o =
    nat_le 1 (count bs o) && nat_le (count bs o) 64 && nat_lt (fourth bs o) (count bs o)
    && all (count bs o) (λ q. ltb (mark bs o q) 2)
    && all (cells a b bs o) (λ i. nat_lt (cell bs o i) (count bs o) || cell bs o i == 255)

abbrev pub rule_fits : List ℕ → ℕ → Bool
rule_fits bs o = byte bs o == 2 && fourth bs o == 0

-- well formed, and not cut short
abbrev pub section_fits : ℕ → ℕ → List ℕ → ℕ → Bool
section_fits a b bs o =
    nat_le (byte bs (o + 1)) 1 && nat_le (end a b bs o) (length bs) && cond (is_table bs o) (table_fits a b bs o) (rule_fits bs o)

-- a plain table without marks
abbrev pub is_ground : List ℕ → ℕ → Bool
is_ground bs o = is_table bs o && not (is_held bs o) && all (count bs o) (λ q. nat_eq (mark bs o q) 0)

-- no step of a table is none
abbrev pub goes_on : ℕ → ℕ → List ℕ → ℕ → Bool
goes_on a b bs o = not (is_table bs o) || all (cells a b bs o) (λ i. not (cell bs o i == 255))

-- THE FAULTS of section i, which begins at o, each kind by itself
abbrev pub form_fault : ℕ → ℕ → List ℕ → ℕ → ℕ → Result (Unit {0}) JobFault
form_fault a b bs i o = cond (section_fits a b bs o) (Ok tt) (Err (Malformed i))

-- section 0 is the ground
abbrev pub ground_fault : List ℕ → ℕ → ℕ → Result (Unit {0}) SectionFault
ground_fault bs i o = cond (not (i == 0) || is_ground bs o) (Ok tt) (Err NotAGround)

abbrev pub none_fault : ℕ → ℕ → List ℕ → ℕ → ℕ → Result (Unit {0}) SectionFault
none_fault a b bs i o = cond (i == 0 || goes_on a b bs o) (Ok tt) (Err StepsToNone)

abbrev pub text_fault : ℕ → ℕ → List ℕ → ℕ → Result (Unit {0}) SectionFault
text_fault a b bs o = cond (is_table bs o) (Ok tt) (result_map_both (λ u. u) Text (checked (a + b) (body a b bs o)))
