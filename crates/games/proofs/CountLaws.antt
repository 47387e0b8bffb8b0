-- How many numbers below a bound pass a test.
use Rattle.std.proofs.Common.{◌≡◌, ℕ, zero, suc, ◌<◌, ◌≤◌, Bool, true, false, T, ◌⊎◌, sym, refl, subst, inl, inr, arith}
use Rattle.games.specs.Search.{Within}
use Rattle.ranges.proofs.RangeLaws.{T_true, false_T, below_suc}

abbrev pub count : ℕ → (ℕ → Bool) → ℕ
count zero f = zero
count (suc m) f = elim (f m) [ true ↦ suc (count m f) | false ↦ count m f ]

pub count_le : (m : ℕ) (f : ℕ → Bool) → count m f ≤ m
count_le zero f = omega arith
count_le (suc m) f = go (f m) refl (count_le m f)
  where
    go : (b : Bool) → f m ≡ b → count m f ≤ m → count (suc m) f ≤ suc m
    go true e r = rw (e, count) (omega arith)
    go false e r = rw (e, count) (omega arith)

pub count_mono : (m : ℕ) (f f' : ℕ → Bool) → Within m f f' → count m f ≤ count m f'
count_mono zero f f' h = omega arith
count_mono (suc m) f f' h = go (f m) (f' m) refl refl (count_mono m f f' (λ q l. h q (omega arith)))
  where
    go : (b b' : Bool) → f m ≡ b → f' m ≡ b' → count m f ≤ count m f' → count (suc m) f ≤ count (suc m) f'
    go true true e e' r = rw (e, e', count) (omega arith)
    go true false e e' r = absurd (false_T (f' m) e' (h m (omega arith) (T_true (f m) e)))
    go false true e e' r = rw (e, e', count) (omega arith)
    go false false e e' r = rw (e, e', count) r

-- one that passes only f' makes the count larger
pub count_more : (m : ℕ) (f f' : ℕ → Bool) → Within m f f' → (q : ℕ) → q < m → T (f' q) → (T (f q) → ⊥) → count m f < count m f'
count_more zero f f' h q l t nt = absurd (omega arith)
count_more (suc m) f f' h q l t nt = go (f m) (f' m) refl refl (below_suc q m l) (count_mono m f f' (λ q l. h q (omega arith))) (λ l'. count_more m f f' (λ q l. h q (omega arith)) q l' t nt)
  where
    go : (b b' : Bool) → f m ≡ b → f' m ≡ b' → (q ≡ m) ⊎ (q < m) → count m f ≤ count m f' → (q < m → count m f < count m f') →
        count (suc m) f < count (suc m) f'
    go true true e e' (inl i) s r = absurd (nt (subst (λ (z : ℕ). T (f z)) (sym i) (T_true (f m) e)))
    go true true e e' (inr i) s r = let d = r i in rw (e, e', count) (omega arith)
    go true false e e' d s r = absurd (false_T (f' m) e' (h m (omega arith) (T_true (f m) e)))
    go false true e e' d s r = rw (e, e', count) (omega arith)
    go false false e e' (inl i) s r = absurd (false_T (f' m) e' (subst (λ (z : ℕ). T (f' z)) i t))
    go false false e e' (inr i) s r = rw (e, e', count) (r i)

-- where all are counted, each passes
pub count_full : (m : ℕ) (f : ℕ → Bool) → m ≤ count m f → (q : ℕ) → q < m → T (f q)
count_full zero f h q l = absurd (omega arith)
count_full (suc m) f h q l = go (f m) refl (below_suc q m l) (λ h' l'. count_full m f h' q l')
  where
    go : (b : Bool) → f m ≡ b → (q ≡ m) ⊎ (q < m) → (m ≤ count m f → q < m → T (f q)) → T (f q)
    go true e (inl i) r = subst (λ (z : ℕ). T (f z)) (sym i) (T_true (f m) e)
    go true e (inr i) r = let k : suc m ≤ suc (count m f) = rw (e, count) at h in r (omega arith) i
    go false e d r = let k : suc m ≤ count m f = rw (e, count) at h in absurd (omega (arith, count_le m f))
