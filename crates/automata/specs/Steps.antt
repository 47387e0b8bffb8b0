-- Steps: a state, or none.
use Rattle.std.specs.Prelude.{ℕ, ◌+◌, ◌*◌, ◌^◌, ◌<◌, ◌&&◌, if◌then◌else◌, List, Some, None, Option, nat_lt, slice_index}

-- a step that is a state is one below n
abbrev pub Inside : ℕ → Option ℕ → Type 0
Inside n None = Unit {0}
Inside n (Some q) = q < n

-- what follows at the state stepped to, or d where the step is none
abbrev pub onward {ℓ} : {B : Type ℓ} → Option ℕ → B → (ℕ → B) → B
onward None d f = d
onward (Some q) d f = f q

-- the step that a number stands for: that state if it is below n, else none
abbrev pub named : ℕ → ℕ → Option ℕ
named n t = if nat_lt t n then Some t else None

-- the step that bytes tell: of a reading bits, b command bits and n states, a byte for each state,
-- reading and command, in that order, from a place on; out of range it is none
abbrev pub step_told : ℕ → ℕ → ℕ → ℕ → List ℕ → ℕ → ℕ → ℕ → Option ℕ
step_told a b n place bytes q x y =
    if nat_lt q n && nat_lt x (2 ^ a) && nat_lt y (2 ^ b)
    then named n (slice_index bytes (place + ((q * 2 ^ a + x) * 2 ^ b + y)))
    else None
