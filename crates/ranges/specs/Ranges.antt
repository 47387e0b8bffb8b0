-- Tests over the numbers below a bound, and a byte by its bits.
use Rattle.std.specs.Prelude.{ℕ, zero, suc, ◌+◌, ◌/◌, ◌%◌, ◌^◌, Bool, true, false, ◌&&◌, ◌||◌, ◌==◌}

-- f passes at every number below m
abbrev pub all : ℕ → (ℕ → Bool) → Bool
all zero f = true
all (suc m) f = f m && all m f

-- f passes at some number below m
abbrev pub any : ℕ → (ℕ → Bool) → Bool
any zero f = false
any (suc m) f = f m || any m f

-- the least number below m at which f passes, or m
abbrev pub least : ℕ → (ℕ → Bool) → ℕ
least zero f = zero
least (suc m) f = elim (f zero) [ true ↦ zero | false ↦ suc (least m (λ x. f (suc x))) ]

-- bit i of a number, bit 0 being the lowest
abbrev pub bit : ℕ → ℕ → Bool
bit v i = (v / 2 ^ i) % 2 == 1

-- the number whose bits below m are set where f passes
abbrev pub bits : ℕ → (ℕ → Bool) → ℕ
bits zero f = 0
bits (suc m) f = elim (f m) [ true ↦ bits m f + 2 ^ m | false ↦ bits m f ]
