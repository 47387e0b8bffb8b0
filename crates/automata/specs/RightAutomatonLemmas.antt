use Rattle.std.specs.Prelude.{◌≡◌, ℕ, ◌*◌, ◌≤◌, true, ◌&&◌, nat_le, nat_lt}
use Rattle.std.proofs.lemmas.Bool.{leb-true, and_parts}

pub small : (n m k : ℕ) → (nat_le (n * m) 256 && nat_lt k 4) ≡ true → n * m ≤ 256
small n m k e = leb-true (n * m) 256 (and_parts (nat_le (n * m) 256) (nat_lt k 4) e).0
