-- What the arena of a job in sections makes of words, by what its parts make of them.
use Rattle.std.specs.Prelude.{◌≡◌, ℕ, zero, suc, ◌+◌, ◌*◌, ◌<◌, ◌≤◌, true, List, Some, None}
use Rattle.automata.specs.Machine.{Machine, machine_in}
use Rattle.automata.specs.Walks.{walked, Holds}
use Rattle.automata.specs.declared.word.Round.{Round}
use Rattle.jobs.specs.FlatJob.{byte}
use Rattle.jobs.specs.Sections.{is_held}
use Rattle.jobs.specs.Parts.{plain, offset, part, sections_arena}

-- the state of the nested pairs, where part i stands at s i
abbrev pub together : (ℕ → Machine) → (ℕ → ℕ) → ℕ → ℕ
together part s zero = s 0 * (part 1).n + s 1
together part s (suc i) = together part s i * (part (i + 2)).n + s (i + 2)

-- after a word, part i stands at s i, for each part of a job with k rights
abbrev pub Stand : (ℕ → Machine) → ℕ → List Round → (ℕ → ℕ) → Type 0
Stand part k w s = (i : ℕ) → i < k + 2 → walked (part i) w ≡ Some (s i)

pub record Composed (bs : List ℕ) : Type 0 where
  -- where all parts stand after a word, the arena stands at their states together
  pub stands : (w : List Round) (s : ℕ → ℕ) → Stand (part bs) (byte bs 5) w s →
      walked (machine_in (sections_arena bs)) w ≡ Some (together (part bs) s (byte bs 5))
  -- where a part is led to none, so is the arena
  pub falls : (w : List Round) (i : ℕ) → i < byte bs 5 + 2 → walked (part bs i) w ≡ None →
      walked (machine_in (sections_arena bs)) w ≡ None
  -- its duty is marked exactly if the duty's automaton is
  pub duty : (w : List Round) (s : ℕ → ℕ) → Stand (part bs) (byte bs 5) w s →
      (sections_arena bs).marked (together (part bs) s (byte bs 5)) ≡ (part bs 1).marked (s 1)
  -- right i is marked exactly if the automaton of right i, which is part i + 1, is
  pub right : (w : List Round) (s : ℕ → ℕ) → Stand (part bs) (byte bs 5) w s → (i : ℕ) → 1 ≤ i → i ≤ byte bs 5 →
      (sections_arena bs).right i (together (part bs) s (byte bs 5)) ≡ (part bs (suc i)).marked (s (suc i))
  -- a held part is marked exactly if its automaton, not held, was marked at the start or after some
  -- front of the word
  pub held : (i : ℕ) → i < byte bs 5 + 2 → is_held bs (offset (byte bs 3) (byte bs 4) bs i) ≡ true →
      Holds (plain (byte bs 3) (byte bs 4) bs (offset (byte bs 3) (byte bs 4) bs i))
