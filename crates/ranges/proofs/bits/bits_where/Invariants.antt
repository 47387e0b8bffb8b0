use Rattle.std.proofs.Common.{◌≡◌, ℕ, ◌<◌, ◌^◌, Bool}
use Rattle.ranges.specs.Ranges.{bits}
use Rattle.ranges.proofs.bits.bits_where.Given as goal

-- so far the byte has the bits below i, whatever test the closure is
abbrev pub invariant-loop-i : goal.invariant-loop-i
invariant-loop-i g l =
    goal.F-IsAlwaysCallable g l.test × (l.byte < 2 ^ l.i)
    × ((f : ℕ → Bool) → ((i : ℕ) (b : Bool) → i < l.n → goal.F-post g l.test i b → b ≡ f i) → l.byte ≡ bits l.i f)
