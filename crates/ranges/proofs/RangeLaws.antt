-- What the tests over the numbers below a bound tell, and a turn of the loops that ask them.
use Rattle.std.proofs.Common.{◌≡◌, ℕ, zero, suc, ◌+◌, ◌-◌, ◌*◌, ◌/◌, ◌%◌, ◌^◌, ◌<◌, ◌≤◌, Bool, true, false, not, ◌&&◌, ◌||◌, T, eqb, ◌⊎◌, sym, refl, ap, ◌∙◌, subst, ap₂, inl, inr, add-one, arith}
use native.Mathlib.Decide.{dec_lt}
use native.Mathlib.Nat.{add-mul-div_left, div-eq_of_lt}
use Rattle.std.proofs.lemmas.Nat.{pow-add, pow_pos, div-mul-add}
use Rattle.ranges.specs.Ranges.{all, any, least, bit, bits}

pub T-dec : (b : Bool) → T b ⊎ (T b → ⊥)
T-dec true = inl tt
T-dec false = inr (λ t. t)

pub T_true : (b : Bool) → b ≡ true → T b
T_true b e = subst T (sym e) tt

pub T-eq : (b : Bool) → T b → b ≡ true
T-eq true t = refl
T-eq false t = absurd t

pub T_false : (b : Bool) → (T b → ⊥) → b ≡ false
T_false true f = absurd (f tt)
T_false false f = refl

pub false_T : (b : Bool) → b ≡ false → T b → ⊥
false_T b e t = subst T e t

pub and_l : (a b : Bool) → T (a && b) → T a
and_l true b t = tt
and_l false b t = t

pub and_r : (a b : Bool) → T (a && b) → T b
and_r true b t = t
and_r false b t = absurd t

pub and_mk : (a b : Bool) → T a → T b → T (a && b)
and_mk true b s t = t
and_mk false b s t = s

pub or_l : (a b : Bool) → T a → T (a || b)
or_l true b t = tt
or_l false b t = absurd t

pub or_r : (a b : Bool) → T b → T (a || b)
or_r true b t = tt
or_r false b t = t

pub or_case : (a b : Bool) → T (a || b) → T a ⊎ T b
or_case true b t = inl tt
or_case false b t = inr t

pub not_mk : (a : Bool) → (T a → ⊥) → T (not a)
not_mk true f = f tt
not_mk false f = tt

pub not_at : (a : Bool) → T (not a) → T a → ⊥
not_at true s t = s
not_at false s t = t

-- the split of a number below a successor
pub below_suc : (x m : ℕ) → x < suc m → (x ≡ m) ⊎ (x < m)
below_suc x m h = go (dec_lt x m)
  where
    go : Dec (x < m) → (x ≡ m) ⊎ (x < m)
    go (yes p) = inr p
    go (no p) = inl (omega arith)

pub all_at : (m : ℕ) (f : ℕ → Bool) → T (all m f) → (x : ℕ) → x < m → T (f x)
all_at zero f t x h = absurd (omega arith)
all_at (suc m) f t x h = go (below_suc x m h) (all_at m f (and_r (f m) (all m f) t) x)
  where
    go : (x ≡ m) ⊎ (x < m) → (x < m → T (f x)) → T (f x)
    go (inl e) rest = subst (λ (z : ℕ). T (f z)) (sym e) (and_l (f m) (all m f) t)
    go (inr l) rest = rest l

pub all_mk : (m : ℕ) (f : ℕ → Bool) → ((x : ℕ) → x < m → T (f x)) → T (all m f)
all_mk zero f h = tt
all_mk (suc m) f h = and_mk (f m) (all m f) (h m (omega arith)) (all_mk m f (λ x l. h x (omega arith)))

pub any_at : (m : ℕ) (f : ℕ → Bool) → T (any m f) → (x : ℕ) × (x < m) × T (f x)
any_at zero f t = absurd t
any_at (suc m) f t = go (or_case (f m) (any m f) t) (any_at m f)
  where
    go : T (f m) ⊎ T (any m f) → (T (any m f) → (x : ℕ) × (x < m) × T (f x)) → (x : ℕ) × (x < suc m) × T (f x)
    go (inl s) ih = (m, omega arith, s)
    go (inr s) ih = let r = ih s in (r.0, omega (arith, r.1), r.2)

pub any_mk : (m : ℕ) (f : ℕ → Bool) (x : ℕ) → x < m → T (f x) → T (any m f)
any_mk zero f x h t = absurd (omega arith)
any_mk (suc m) f x h t = go (below_suc x m h) (any_mk m f x)
  where
    go : (x ≡ m) ⊎ (x < m) → (x < m → T (f x) → T (any m f)) → T (any (suc m) f)
    go (inl e) ih = or_l (f m) (any m f) (subst (λ (z : ℕ). T (f z)) e t)
    go (inr l) ih = or_r (f m) (any m f) (ih l t)

pub not_all : (m : ℕ) (f : ℕ → Bool) → (T (all m f) → ⊥) → (x : ℕ) × (x < m) × (T (f x) → ⊥)
not_all zero f h = absurd (h tt)
not_all (suc m) f h = go (T-dec (f m)) (not_all m f)
  where
    go : T (f m) ⊎ (T (f m) → ⊥) → ((T (all m f) → ⊥) → (x : ℕ) × (x < m) × (T (f x) → ⊥)) → (x : ℕ) × (x < suc m) × (T (f x) → ⊥)
    go (inr s) ih = (m, omega arith, s)
    go (inl s) ih = let r = ih (λ t. h (and_mk (f m) (all m f) s t)) in (r.0, omega (arith, r.1), r.2)

-- the least is below the bound and passes, if some number does; and nothing below it passes
pub least_passes : (m : ℕ) (f : ℕ → Bool) (x : ℕ) → x < m → T (f x) → (least m f < m) × T (f (least m f)) × (least m f ≤ x)
least_passes zero f x h t = absurd (omega arith)
least_passes (suc m) f zero h t = go (f zero) refl
  where
    go : (b : Bool) → f zero ≡ b → (least (suc m) f < suc m) × T (f (least (suc m) f)) × (least (suc m) f ≤ zero)
    go true e = rw (e, least) (omega arith, t, omega arith)
    go false e = absurd (false_T (f zero) e t)
least_passes (suc m) f (suc x) h t = go (f zero) refl (least_passes m (λ x. f (suc x)) x (omega arith) t)
  where
    go : (b : Bool) → f zero ≡ b → (least m (λ x. f (suc x)) < m) × T (f (suc (least m (λ x. f (suc x))))) × (least m (λ x. f (suc x)) ≤ x) →
        (least (suc m) f < suc m) × T (f (least (suc m) f)) × (least (suc m) f ≤ suc x)
    go true e r = rw (e, least) (omega arith, T_true (f zero) e, omega arith)
    go false e r = rw (e, least) (omega arith, r.1, omega arith)

pub least_bound : (m : ℕ) (f : ℕ → Bool) → least m f ≤ m
least_bound zero f = omega arith
least_bound (suc m) f = go (f zero) refl (least_bound m (λ x. f (suc x)))
  where
    go : (b : Bool) → f zero ≡ b → least m (λ x. f (suc x)) ≤ m → least (suc m) f ≤ suc m
    go true e r = rw (e, least) (omega arith)
    go false e r = rw (e, least) (omega arith)

pub least_holds : (m : ℕ) (f : ℕ → Bool) → least m f < m → T (f (least m f))
least_holds zero f h = absurd (omega arith)
least_holds (suc m) f h = go (f zero) refl (least_holds m (λ x. f (suc x)))
  where
    go : (b : Bool) → f zero ≡ b → (least m (λ x. f (suc x)) < m → T (f (suc (least m (λ x. f (suc x)))))) → T (f (least (suc m) f))
    go true e r = rw (e, least) (T_true (f zero) e)
    go false e r = rw (e, least) (r (let k : suc (least m (λ x. f (suc x))) < suc m = rw (e, least) at h in omega arith))

-- nothing below the least passes
pub least_before : (m : ℕ) (f : ℕ → Bool) (x : ℕ) → x < least m f → T (f x) → ⊥
least_before m f x h t = let b = least_bound m f in absurd (omega (arith, (least_passes m f x (omega arith) t).2))

-- a number that passes, and below which nothing does, is the least
pub least_is : (m : ℕ) (f : ℕ → Bool) (x : ℕ) → x < m → T (f x) → ((i : ℕ) → i < x → T (f i) → ⊥) → least m f ≡ x
least_is m f x h t before = go (dec_lt (least m f) x) (least_passes m f x h t)
  where
    go : Dec (least m f < x) → (least m f < m) × T (f (least m f)) × (least m f ≤ x) → least m f ≡ x
    go (yes p) r = absurd (before (least m f) p r.1)
    go (no p) r = omega (arith, r.2)

-- where nothing passes, the least is the bound
pub least_none : (m : ℕ) (f : ℕ → Bool) → ((i : ℕ) → i < m → T (f i) → ⊥) → least m f ≡ m
least_none m f none = go (dec_lt (least m f) m)
  where
    go : Dec (least m f < m) → least m f ≡ m
    go (yes p) = absurd (none (least m f) p (least_holds m f p))
    go (no p) = omega (arith, least_bound m f)

pub bits_true : (m : ℕ) (f : ℕ → Bool) → f m ≡ true → bits (m + 1) f ≡ bits m f + 2 ^ m
bits_true m f e = ap (λ (k : ℕ). bits k f) (add-one m) ∙ ap (λ (b : Bool). elim b [ true ↦ bits m f + 2 ^ m | false ↦ bits m f ]) e

pub bits_false : (m : ℕ) (f : ℕ → Bool) → f m ≡ false → bits (m + 1) f ≡ bits m f
bits_false m f e = ap (λ (k : ℕ). bits k f) (add-one m) ∙ ap (λ (b : Bool). elim b [ true ↦ bits m f + 2 ^ m | false ↦ bits m f ]) e

two : (m : ℕ) → 2 ^ suc m ≡ 2 ^ m + 2 ^ m
two m = ap (λ (k : ℕ). 2 ^ k) (sym (add-one m)) ∙ pow-add 2 m 1 ∙ omega arith

pub bits_below : (m : ℕ) (f : ℕ → Bool) → bits m f < 2 ^ m
bits_below zero f = omega arith
bits_below (suc m) f = go (f m) (bits_below m f)
  where
    go : (b : Bool) → bits m f < 2 ^ m → elim b [ true ↦ bits m f + 2 ^ m | false ↦ bits m f ] < 2 ^ suc m
    go true h = omega (arith, two m)
    go false h = omega (arith, two m)

pub bits_same : (m : ℕ) (f g : ℕ → Bool) → ((i : ℕ) → i < m → f i ≡ g i) → bits m f ≡ bits m g
bits_same zero f g h = refl
bits_same (suc m) f g h =
    ap₂ (λ (b : Bool) (v : ℕ). elim b [ true ↦ v + 2 ^ m | false ↦ v ]) (h m (omega arith)) (bits_same m f g (λ i l. h i (omega arith)))

-- the bits of a number to which 2 ^ m is added
bit_top : (m r : ℕ) → r < 2 ^ m → bit (r + 2 ^ m) m ≡ true
bit_top m r h =
    let e : r + 2 ^ m ≡ 1 * 2 ^ m + r = omega arith in
    ap (λ (v : ℕ). eqb ((v / 2 ^ m) % 2) 1) e ∙ ap (λ (d : ℕ). eqb (d % 2) 1) (div-mul-add 1 (2 ^ m) r h)

pub bit_above : (m v : ℕ) → v < 2 ^ m → bit v m ≡ false
bit_above m v h = ap (λ (d : ℕ). eqb (d % 2) 1) (div-eq_of_lt h)

bit_under : (m r i : ℕ) → i < m → bit (r + 2 ^ m) i ≡ bit r i
bit_under m r i h =
    let d : ℕ = m - suc i in
    let e : 2 ^ m ≡ 2 ^ i * 2 ^ suc d = ap (λ (k : ℕ). 2 ^ k) (omega arith) ∙ pow-add 2 i (suc d) in
    let f : (r + 2 ^ m) / 2 ^ i ≡ r / 2 ^ i + 2 ^ suc d = ap (λ (w : ℕ). (r + w) / 2 ^ i) e ∙ add-mul-div_left r (2 ^ suc d) (pow_pos i) in
    let g : ((r + 2 ^ m) / 2 ^ i) % 2 ≡ (r / 2 ^ i) % 2 = omega (arith, f, two d) in
    ap (λ (w : ℕ). eqb w 1) g

-- a number made of bits has them
pub bit_of_bits : (m : ℕ) (f : ℕ → Bool) (i : ℕ) → i < m → bit (bits m f) i ≡ f i
bit_of_bits zero f i h = absurd (omega arith)
bit_of_bits (suc m) f i h = go (f m) refl (below_suc i m h) (bit_of_bits m f i)
  where
    at : (b : Bool) → f m ≡ b → (i ≡ m) ⊎ (i < m) → (i < m → bit (bits m f) i ≡ f i) → bit (elim b [ true ↦ bits m f + 2 ^ m | false ↦ bits m f ]) i ≡ f i
    at true e (inl p) ih = ap (λ (j : ℕ). bit (bits m f + 2 ^ m) j) p ∙ bit_top m (bits m f) (bits_below m f) ∙ sym (ap f p ∙ e)
    at false e (inl p) ih = ap (λ (j : ℕ). bit (bits m f) j) p ∙ bit_above m (bits m f) (bits_below m f) ∙ sym (ap f p ∙ e)
    at true e (inr l) ih = bit_under m (bits m f) i l ∙ ih l
    at false e (inr l) ih = ih l

    go : (b : Bool) → f m ≡ b → (i ≡ m) ⊎ (i < m) → (i < m → bit (bits m f) i ≡ f i) → bit (bits (suc m) f) i ≡ f i
    go b e s ih = ap (λ (b : Bool). bit (elim b [ true ↦ bits m f + 2 ^ m | false ↦ bits m f ]) i) e ∙ at b e s ih

-- a number below 2 ^ m is made of its bits
pub bits_of_bit : (m v : ℕ) → v < 2 ^ m → bits m (λ i. bit v i) ≡ v
bits_of_bit zero v h = omega arith
bits_of_bit (suc m) v h = go (dec_lt v (2 ^ m)) (bits_of_bit m)
  where
    go : Dec (v < 2 ^ m) → ((w : ℕ) → w < 2 ^ m → bits m (λ i. bit w i) ≡ w) → bits (suc m) (λ i. bit v i) ≡ v
    go (yes l) ih = ap (λ (k : ℕ). bits k (λ i. bit v i)) (sym (add-one m)) ∙ bits_false m (λ i. bit v i) (bit_above m v l) ∙ ih v l
    go (no l) ih =
        let r : ℕ = v - 2 ^ m in
        let s : r < 2 ^ m = omega (arith, two m) in
        let e : r + 2 ^ m ≡ v = omega arith in
        let top : bit v m ≡ true = ap (λ (w : ℕ). bit w m) (sym e) ∙ bit_top m r s in
        let low : bits m (λ i. bit v i) ≡ r = bits_same m (λ i. bit v i) (λ i. bit r i) (λ i l. ap (λ (w : ℕ). bit w i) (sym e) ∙ bit_under m r i l) ∙ ih r s in
        ap (λ (k : ℕ). bits k (λ i. bit v i)) (sym (add-one m)) ∙ bits_true m (λ i. bit v i) top ∙ ap (λ (w : ℕ). w + 2 ^ m) low ∙ e

-- the same with tests that are equal to true
pub all_holds : (m : ℕ) (f : ℕ → Bool) → all m f ≡ true → (x : ℕ) → x < m → f x ≡ true
all_holds m f e x h = T-eq (f x) (all_at m f (T_true (all m f) e) x h)

pub all_from : (m : ℕ) (f : ℕ → Bool) → ((x : ℕ) → x < m → f x ≡ true) → all m f ≡ true
all_from m f h = T-eq (all m f) (all_mk m f (λ x l. T_true (f x) (h x l)))
