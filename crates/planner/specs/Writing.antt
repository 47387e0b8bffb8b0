-- What writing bytes into the front of a buffer answers, and what the buffer holds then.
use Rattle.std.specs.Prelude.{ℕ, cond, List, ◌++◌, length, drop, Ok, Err, Result, nat_le}
use Rattle.planner.specs.declared.fault.WriteFault.{WriteFault}
use Rattle.planner.specs.declared.fault.WriteFault.TheVariants.{TooShort}

-- refused exactly where the buffer is shorter than the bytes
abbrev pub written_answer : List ℕ → List ℕ → Result (Unit {0}) WriteFault
written_answer bs old = cond (nat_le (length bs) (length old)) (Ok tt) (Err TooShort)

-- the bytes fill the front, and the rest is as before
abbrev pub fronted : List ℕ → List ℕ → List ℕ
fronted bs old = bs ++ drop (length bs) old

-- a buffer that is too short is as before
abbrev pub written_buffer : List ℕ → List ℕ → List ℕ
written_buffer bs old = cond (nat_le (length bs) (length old)) (fronted bs old) old
