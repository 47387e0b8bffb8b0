-- What is promised of a drive at a state and in a column.
use Rattle.std.specs.Prelude.{◌≡◌, ℕ, ◌^◌, ◌<◌, ◌≤◌, Bool, true, false, T, Some, None, Option}
use Rattle.automata.specs.Arena.{Arena}
use Rattle.games.specs.Regions.{lawful, rank, permits}
use Rattle.assurance.specs.Calls.{Read, Command, Claim, Stop}
use Rattle.assurance.specs.Causes.{Unrefused}

-- the state q is marked for the duty, and for the claimed right where there is one
pub record Carried (A : Arena) (q c : ℕ) : Type 0 where
  pub duty : T (A.marked q)
  pub right : 1 ≤ c → T (A.right c q)

-- BETWEEN ROUNDS, at the state q in column c
pub record Resting (A : Arena) (q c : ℕ) : Type 0 where
  -- a number of rounds is shown
  pub shown : rank A c q < 65535
  -- while rounds are shown, each lawful reading is taken
  pub reads : 0 < rank A c q → (x : ℕ) → T (lawful A q x) → Unrefused A q c None (Read x)
  -- at zero stop is performed, and the duty and the claimed right are carried
  pub stops : rank A c q ≡ 0 → Unrefused A q c None Stop × Carried A q c
  -- until a claim, each right can be claimed
  pub claims : c ≡ 0 → (i : ℕ) → 1 ≤ i → i ≤ A.k → Unrefused A q c None (Claim i)

-- WHILE THE READING x WAITS, at the state q in column c
pub record Pending (A : Arena) (q c x : ℕ) : Type 0 where
  -- rounds were shown, and the reading is lawful
  pub shown : (0 < rank A c q) × (rank A c q < 65535)
  pub reading : T (lawful A q x)
  -- some command is permitted
  pub some_command : (y : ℕ) × (y < 2 ^ A.b) × T (permits A c q x y)
  -- each permitted command is performed, steps to a state, and lowers the number
  pub commands : (y : ℕ) → T (permits A c q x y) → Unrefused A q c (Some x) (Command y) × ((t : ℕ) × (A.step q x y ≡ Some t) × (rank A c t < rank A c q))

-- with the reading w that waits, o if ended; ended, the duty and the claimed right are carried
abbrev pub Promised : Arena → ℕ → ℕ → Option ℕ → Bool → Type 0
Promised A q c None false = Resting A q c
Promised A q c (Some x) false = Pending A q c x
Promised A q c w true = Carried A q c
