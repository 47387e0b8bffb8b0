-- Where the parts of a drive sheet lie, together.
use Rattle.std.specs.Prelude.{ℕ, ◌+◌, ◌*◌, ◌^◌}
use Rattle.sheets.specs.Layout.{steps_from}
use Rattle.sheets.specs.declared.layout.Places.{Places}

-- by how many readings, commands, rights and states there are: the parts of the layout, one behind another
abbrev pub places_for : (readings commands k n : ℕ) → Places
places_for readings commands k n =
    let steps = steps_from n in
    let ranks = steps + 2 * (n * readings * commands) in
    let sets = ranks + 2 * ((k + 1) * n) in
    record { steps = steps; ranks = ranks; sets = sets; total = sets + (k + 1) * n * readings }

-- by reading bits a, command bits b, rights k and count of states n
abbrev pub places_of : ℕ → ℕ → ℕ → ℕ → Places
places_of a b k n = places_for (2 ^ a) (2 ^ b) k n
