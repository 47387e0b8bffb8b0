-- A pair keeps what automata keep.
use Rattle.std.specs.Prelude.{◌≡◌, ℕ, ◌+◌, ◌*◌, ◌/◌, ◌<◌, ◌≤◌, Bool, true, false, cond, Some, None, Option, refl}
use Rattle.std.proofs.Common.{sym, ap, subst, mul_comm, mul-pos, le-mul_of_pos_right, arith}
use Rattle.std.proofs.lemmas.Nat.{mul-add-lt, le-div}
use Rattle.automata.specs.Steps.{Inside}
use Rattle.automata.specs.Layers.{both}

-- the place p · m + r of a pair is below n · m
pub pair_place : (n m p r : ℕ) → p < n → r < m → p * m + r < n * m
pair_place n m p r hp hr = omega (arith, mul-add-lt p m r n hp hr, mul_comm m n)

-- the parts of a pair that fits are few
pub parts_few : (n m : ℕ) → 1 ≤ n → 1 ≤ m → n * m ≤ 256 → (n ≤ 256) × (m ≤ 256)
parts_few n m hn hm h =
    (omega (arith, le-mul_of_pos_right {m = m} n hm), omega (arith, le-mul_of_pos_right {m = n} m hn, mul_comm n m))

both_inside : (n m : ℕ) (o u : Option ℕ) → Inside n o → Inside m u → Inside (n * m) (both m o u)
both_inside n m None u h k = tt
both_inside n m (Some p) None h k = tt
both_inside n m (Some p) (Some r) h k = pair_place n m p r h k

module _ (fits : Bool) (n m : ℕ) (small : fits ≡ true → n * m ≤ 256) where
  pub pair_sized : 1 ≤ n → 1 ≤ m → (1 ≤ cond fits (n * m) 257) × (cond fits (n * m) 257 ≤ 257)
  pair_sized hn hm = go fits small
    where
      go : (b : Bool) → (b ≡ true → n * m ≤ 256) → (1 ≤ cond b (n * m) 257) × (cond b (n * m) 257 ≤ 257)
      go true s = let h = s refl in (mul-pos hn hm, omega arith)
      go false s = (omega arith, omega arith)

  pub pair_begins : (s t : ℕ) → s < n → t < m → cond fits (s * m + t) 0 < cond fits (n * m) 257
  pair_begins s t hs ht = go fits
    where
      go : (b : Bool) → cond b (s * m + t) 0 < cond b (n * m) 257
      go true = pair_place n m s t hs ht
      go false = omega arith

  pub pair_enters : (o u : Option ℕ) → Inside n o → Inside m u → Inside (cond fits (n * m) 257) (cond fits (both m o u) None)
  pair_enters o u h k = go fits
    where
      go : (b : Bool) → Inside (cond b (n * m) 257) (cond b (both m o u) None)
      go true = both_inside n m o u h k
      go false = tt

  -- out of range the first part steps to none
  pub pair_outside : (q : ℕ) (f : ℕ → Option ℕ) (u : Option ℕ) → 1 ≤ m → ((p : ℕ) → n ≤ p → f p ≡ None) → cond fits (n * m) 257 ≤ q → cond fits (both m (f (q / m)) u) None ≡ None
  pair_outside q f u hm out = go fits
    where
      go : (b : Bool) → cond b (n * m) 257 ≤ q → cond b (both m (f (q / m)) u) None ≡ None
      go true l = ap (λ (o : Option ℕ). both m o u) (out (q / m) (le-div n q m hm l))
      go false l = refl

-- steps that are there, and starts, fit a pair
pub pair_fits : (n m : ℕ) (o u : Option ℕ) (s t : ℕ) → n * m ≤ 256 → Inside n o → Inside m u → Some s ≡ o → Some t ≡ u → s * m + t < 256
pair_fits n m o u s t h io iu eo eu =
    let hs : s < n = subst (Inside n) (sym eo) io in
    let ht : t < m = subst (Inside m) (sym eu) iu in
    omega (arith, pair_place n m s t hs ht)
