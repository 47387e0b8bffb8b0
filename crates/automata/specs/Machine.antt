-- An automaton by its answers.
use Rattle.std.specs.Prelude.{ℕ, Bool, Option}
use Rattle.automata.specs.Arena.{Arena}
use Rattle.automata.specs.declared.automaton.Automaton.{Ghosts as Automatic}

pub record Machine : Type 0 where
  pub a : ℕ
  pub b : ℕ
  pub n : ℕ
  pub start : ℕ
  pub marked : ℕ → Bool
  pub step : ℕ → ℕ → ℕ → Option ℕ

-- the answers of a value whose type implements the trait
abbrev pub machine_of : {S : Type 0} → Automatic S → S → Machine
machine_of f s = record { a = f.a s; b = f.b s; n = f.n s; start = f.start s; marked = f.marked s; step = f.step s }

-- an arena as an automaton: its mark is the duty's
abbrev pub machine_in : Arena → Machine
machine_in A = record { a = A.a; b = A.b; n = A.n; start = A.start; marked = A.marked; step = A.step }
