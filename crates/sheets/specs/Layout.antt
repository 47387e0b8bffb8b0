-- Where the parts of a drive sheet lie, by its reading bits a, command bits b, rights k and count of
-- states n. The header has 20 bytes, and each part begins where the one before it ends.
use Rattle.std.specs.Prelude.{ℕ, ◌+◌, ◌*◌, ◌^◌}

-- the lawful bytes: one for each state
abbrev pub lawful_from : ℕ
lawful_from = 20

-- the steps: two bytes for each state, reading and command
abbrev pub steps_from : ℕ → ℕ
steps_from n = lawful_from + n

-- the ranks: two bytes for each column and state
abbrev pub ranks_from : ℕ → ℕ → ℕ → ℕ
ranks_from a b n = steps_from n + 2 * (n * 2 ^ a * 2 ^ b)

-- the command sets: one byte for each column, state and reading
abbrev pub sets_from : ℕ → ℕ → ℕ → ℕ → ℕ
sets_from a b k n = ranks_from a b n + 2 * ((k + 1) * n)

-- where the sheet ends
abbrev pub ends_at : ℕ → ℕ → ℕ → ℕ → ℕ
ends_at a b k n = sets_from a b k n + (k + 1) * n * 2 ^ a
