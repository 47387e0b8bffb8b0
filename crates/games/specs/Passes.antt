-- One pass of a staged search over a list of ranks.
use Rattle.std.specs.Prelude.{◌≡◌, ℕ, ◌+◌, ◌<◌, Bool, cond, ◌&&◌, List, length, ◌==◌, slice_index}
use Rattle.games.specs.Search.{ranked_by}

-- a state's rank after the pass of stage r: r + 1 if it had none and joins given stage r
abbrev pub passed_at : ((ℕ → Bool) → ℕ → Bool) → List ℕ → ℕ → ℕ → ℕ
passed_at joins ranks r q = cond (slice_index ranks q == 65535 && joins (ranked_by ranks r) q) (r + 1) (slice_index ranks q)

abbrev pub Passed : ((ℕ → Bool) → ℕ → Bool) → List ℕ → ℕ → List ℕ → Type 0
Passed joins ranks r after = (q : ℕ) → q < length ranks → slice_index after q ≡ passed_at joins ranks r q
