-- An arena by its answers.
use Rattle.std.specs.Prelude.{ℕ, Bool, Option}
use Rattle.automata.specs.declared.automaton.Automaton.{Ghosts as Automatic}
use Rattle.automata.specs.declared.arena.Arena.{Ghosts as Entitled}

pub record Arena : Type 0 where
  pub a : ℕ  -- reading bits
  pub b : ℕ  -- command bits
  pub n : ℕ  -- the count of states, or 257 for more than 256
  pub start : ℕ
  pub k : ℕ  -- rights, numbered from 1
  pub marked : ℕ → Bool  -- the duty's mark at a state
  pub right : ℕ → ℕ → Bool  -- the mark of a right at a state
  pub step : ℕ → ℕ → ℕ → Option ℕ  -- from a state, on a reading and a command

-- the answers of a value whose type implements both traits
abbrev pub arena_of : {S : Type 0} → Automatic S → Entitled S → S → Arena
arena_of f g s = record {
  a = f.a s;
  b = f.b s;
  n = f.n s;
  start = f.start s;
  k = g.k s;
  marked = f.marked s;
  right = g.right s;
  step = f.step s;
}
