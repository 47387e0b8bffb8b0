-- A place of a part is a row and a column of it.
use Rattle.std.proofs.Common.{ℕ, ◌*◌, ◌/◌, ◌%◌, ◌<◌}
use Rattle.std.proofs.lemmas.Nat.{div_below, mod_below}

pub record InThree (n r c j : ℕ) : Type 0 where
  pub high : j / c / r < n
  pub middle : j / c % r < r
  pub low : j % c < c

pub in_three : (n r c j : ℕ) → 0 < r → 0 < c → j < n * r * c → InThree n r c j
in_three n r c j hr hc h = record { high = div_below (j / c) r n hr (div_below j c (n * r) hc h); middle = mod_below (j / c) r hr; low = mod_below j c hc }

pub record InTwo (m n j : ℕ) : Type 0 where
  pub high : j / n < m
  pub low : j % n < n

pub in_two : (m n j : ℕ) → 0 < n → j < m * n → InTwo m n j
in_two m n j hn h = record { high = div_below j n m hn h; low = mod_below j n hn }
