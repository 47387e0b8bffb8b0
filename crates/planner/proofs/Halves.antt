-- A two-byte number as two bytes, the low one first.
use Rattle.std.proofs.Common.{◌≡◌, ℕ, zero, suc, ◌%◌, ◌/◌, ◌<◌, [], ◌∷◌, get_or, refl, ap, arith}
use Rattle.std.specs.Int.{to_le_bytes}
use Rattle.std.proofs.Common.{w16}
use Rattle.sheets.specs.Encoding.{half}

pub halves : (n : ℕ) → n < 65536 → to_le_bytes w16 n ≡ half n 0 ∷ half n 1 ∷ []
halves n h =
    let high : n / 256 % 256 ≡ n / 256 = omega arith in
    ap (λ (b : ℕ). n % 256 ∷ b ∷ []) high

pub half_is : (n j : ℕ) → n < 65536 → j < 2 → get_or (to_le_bytes w16 n) j 0 ≡ half n j
half_is n zero h l = refl
half_is n (suc zero) h l = omega arith
half_is n (suc (suc j)) h l = absurd (omega arith)
