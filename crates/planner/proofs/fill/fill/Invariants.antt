use Rattle.std.proofs.Common.{◌≡◌, ℕ, ◌<◌, ◌++◌, map, drop}
use Rattle.std.specs.List.{range_with_len}
use Rattle.planner.proofs.fill.fill.Given as goal

-- the places behind hold the bytes, the others what they held
abbrev pub invariant-loop-i : goal.invariant-loop-i
invariant-loop-i g l =
    (f : ℕ → ℕ) → ((i v : ℕ) → i < l.size → goal.F-post g l.byte i v → v ≡ f i) → l.place-items ≡ map f (range_with_len 0 l.i) ++ drop l.i l.initial.place-items
