-- Where the steps of an automaton lead over a word, and what the layers make of it.
use Rattle.std.specs.Prelude.{◌≡◌, ℕ, ◌+◌, ◌*◌, ◌/◌, ◌≤◌, true, List, [], ◌∷◌, length, take, Some, None, Decides, Option}
use Rattle.automata.specs.Steps.{onward}
use Rattle.automata.specs.Arena.{Arena}
use Rattle.automata.specs.Machine.{Machine, machine_in}
use Rattle.automata.specs.Layers.{held, both, with_duty, with_right, more_rights, right_marks}
use Rattle.automata.specs.declared.word.Round.{Round}

-- where steps lead from a state over a word: a list of rounds, the oldest first
abbrev pub led : (ℕ → ℕ → ℕ → Option ℕ) → ℕ → List Round → Option ℕ
led step q [] = Some q
led step q (r ∷ w) = onward (step q r.reading r.command) None (λ t. led step t w)

-- where an automaton's steps lead from its start
abbrev pub walked : Machine → List Round → Option ℕ
walked m w = led m.step m.start w

-- the automaton is marked at the start or after some front of the word
abbrev pub OnceMarked : Machine → List Round → Type 0
OnceMarked m w = (i : ℕ) × (i ≤ length w) × ((q : ℕ) × (walked m (take i w) ≡ Some q) × (m.marked q ≡ true))

-- HELD over a word: it stands where the automaton below does, and is marked exactly if that was
-- marked at the start or after some front of the word; where the one below is led to none, so is it
pub record Holds (m : Machine) : Type 0 where
  pub stands : (w : List Round) (q : ℕ) → walked m w ≡ Some q → (t : ℕ) × (walked (held m) w ≡ Some t) × (t / 2 ≡ q) × Decides ((held m).marked t) (OnceMarked m w)
  pub falls : (w : List Round) → walked m w ≡ None → walked (held m) w ≡ None

-- A PAIR over a word: it stands at the pair of its parts' states, and is led to none where a part is
abbrev pub Paired : Machine → Machine → Machine → Type 0
Paired whole p r = (w : List Round) → walked whole w ≡ both r.n (walked p w) (walked r w)

-- GROUND AND DUTY: where both stand, the arena stands at the pair, marked exactly if the duty is
pub record Carries (G D : Machine) : Type 0 where
  pub stands : Paired (with_duty G D) G D
  pub duty : (w : List Round) (p r : ℕ) → walked G w ≡ Some p → walked D w ≡ Some r → (with_duty G D).marked (p * D.n + r) ≡ D.marked r

-- ONE RIGHT MORE: the duty's and the other rights' marks are the arena's, and the last is the right's
pub record Adds (A : Arena) (R : Machine) : Type 0 where
  pub stands : Paired (with_right A R) (machine_in A) R
  pub duty : (w : List Round) (p r : ℕ) → walked (machine_in A) w ≡ Some p → walked R w ≡ Some r → (with_right A R).marked (p * R.n + r) ≡ A.marked p
  pub count : more_rights A R ≡ A.k + 1
  pub last : (w : List Round) (p r : ℕ) → walked (machine_in A) w ≡ Some p → walked R w ≡ Some r → right_marks A R (A.k + 1) (p * R.n + r) ≡ R.marked r
  pub others : (w : List Round) (p r : ℕ) → walked (machine_in A) w ≡ Some p → walked R w ≡ Some r → (i : ℕ) → i ≤ A.k → right_marks A R i (p * R.n + r) ≡ A.right i p
