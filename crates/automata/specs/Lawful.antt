-- What every arena of at most 256 states keeps, whatever its make.
use Rattle.std.specs.Prelude.{◌≡◌, ℕ, ◌^◌, ◌<◌, ◌≤◌, false, None}
use Rattle.automata.specs.Steps.{Inside}
use Rattle.automata.specs.Arena.{Arena}

pub record LawfulArena (A : Arena) : Type 0 where
  pub few_reading_bits : A.a ≤ 3
  pub few_command_bits : A.b ≤ 3
  pub few_rights : A.k ≤ 4
  pub few_states : A.n ≤ 256
  pub start_inside : A.start < A.n
  pub step_inside : (q x y : ℕ) → Inside A.n (A.step q x y)
  pub state_outside : (q x y : ℕ) → A.n ≤ q → A.step q x y ≡ None
  pub reading_outside : (q x y : ℕ) → 2 ^ A.a ≤ x → A.step q x y ≡ None
  pub command_outside : (q x y : ℕ) → 2 ^ A.b ≤ y → A.step q x y ≡ None
  pub mark_outside : (q : ℕ) → A.n ≤ q → A.marked q ≡ false
  pub no_zeroth : (q : ℕ) → A.right 0 q ≡ false
  pub right_outside : (i q : ℕ) → A.k < i → A.right i q ≡ false
  pub right_state_outside : (i q : ℕ) → A.n ≤ q → A.right i q ≡ false
