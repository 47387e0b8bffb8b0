-- One pass of a staged search, a state at a time.
use Rattle.std.proofs.Common.{◌≡◌, ℕ, ◌<◌, ◌≤◌, Bool, false, List, length, get_or}
use Rattle.games.specs.Passes.{passed_at}

-- the states below q have passed, the others are ahead
pub record PassInv (joins : (ℕ → Bool) → ℕ → Bool) (before : List ℕ) (r : ℕ) (here : List ℕ) (q : ℕ) (any : Bool) : Type 0 where
  pub same_length : length here ≡ length before
  pub past : (p : ℕ) → p < q → get_or here p 0 ≡ passed_at joins before r p
  pub ahead : (p : ℕ) → q ≤ p → get_or here p 0 ≡ get_or before p 0
  pub still : any ≡ false → here ≡ before
