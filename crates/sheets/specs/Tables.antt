-- What a drive sheet says.
use Rattle.std.specs.Prelude.{◌≡◌, ℕ, ◌^◌, ◌<◌, ◌≤◌, Bool, true, Some, None, Option, ◌≢◌}

pub record Tables : Type 0 where
  pub a : ℕ  -- reading bits: a reading is a number below 2 ^ a
  pub b : ℕ  -- command bits: a command is a number below 2 ^ b
  pub k : ℕ  -- rights, numbered from 1; column 0 is the job's, column i that of right i
  pub n : ℕ  -- the count of states
  pub start : ℕ
  pub lawful : ℕ → ℕ → Bool  -- at a state, whether a reading is lawful
  pub step : ℕ → ℕ → ℕ → Option ℕ  -- from a state, on a reading and a command
  pub rank : ℕ → ℕ → ℕ  -- in a column, of a state; 65535 where it is unranked
  pub permits : ℕ → ℕ → ℕ → ℕ → Bool  -- in a column, at a state, on a reading, whether the command set holds a command

-- the tables fit the fields of a sheet
pub record InRange (T : Tables) : Type 0 where
  pub few_reading_bits : T.a ≤ 3
  pub few_command_bits : T.b ≤ 3
  pub few_rights : T.k ≤ 4
  pub some_state : 1 ≤ T.n
  pub few_states : T.n ≤ 256
  pub start_inside : T.start < T.n
  -- a step that is a state is one below n
  pub step_inside : (q x y t : ℕ) → q < T.n → x < 2 ^ T.a → y < 2 ^ T.b → T.step q x y ≡ Some t → t < T.n
  pub rank_fits : (c q : ℕ) → c ≤ T.k → q < T.n → T.rank c q < 65536
  -- a permitted command steps to a state
  pub permitted_steps : (c q x y : ℕ) → c ≤ T.k → q < T.n → x < 2 ^ T.a → y < 2 ^ T.b → T.permits c q x y ≡ true → T.step q x y ≢ None

-- two sheets say the same: of every column, state, reading and command that the first has
pub record SameTables (T U : Tables) : Type 0 where
  pub same_a : T.a ≡ U.a
  pub same_b : T.b ≡ U.b
  pub same_k : T.k ≡ U.k
  pub same_n : T.n ≡ U.n
  pub same_start : T.start ≡ U.start
  pub same_lawful : (q x : ℕ) → q < T.n → x < 2 ^ T.a → T.lawful q x ≡ U.lawful q x
  pub same_step : (q x y : ℕ) → q < T.n → x < 2 ^ T.a → y < 2 ^ T.b → T.step q x y ≡ U.step q x y
  pub same_rank : (c q : ℕ) → c ≤ T.k → q < T.n → T.rank c q ≡ U.rank c q
  pub same_permits : (c q x y : ℕ) → c ≤ T.k → q < T.n → x < 2 ^ T.a → y < 2 ^ T.b → T.permits c q x y ≡ U.permits c q x y
