use Rattle.std.proofs.Common.{◌≡◌, ℕ, ◌/◌, ◌%◌, ◌^◌, ◌<◌, ◌≤◌, eqb, ltb, sym, ap, ◌∙◌, arith, pow_mono}
use native.Mathlib.Nat.{div-eq_of_lt}
use Rattle.std.proofs.lemmas.Bool.{le-ltb}
use Rattle.ranges.specs.Ranges.{bit}
use Rattle.ranges.proofs.bits.has_bit.Goals as goal

-- a byte has no bit beyond its eight
bit_beyond : (v i : ℕ) → v < 256 → 8 ≤ i → ltb i 8 ≡ bit v i
bit_beyond v i h l =
    let m : 2 ^ 8 ≤ 2 ^ i = pow_mono {i = 8} {j = i} l in
    let z : v / 2 ^ i ≡ 0 = div-eq_of_lt (omega (arith, m)) in
    le-ltb i 8 l ∙ sym (ap (λ n. eqb (n % 2) 1) z)

pub returns-else-i-lt8 : goal.returns-else-i-lt8
returns-else-i-lt8 c = bit_beyond c.args.byte c.args.i c.ranges.byte.fits c.if-i-lt8.false
