-- What an automaton makes of words: the rule's theorem.
use Rattle.std.specs.Prelude.{◌≡◌, ℕ, ◌+◌, true, false, List, ◌∷◌, map, Some, None, Decides, Option}
use Rattle.automata.specs.Walks.{led}
use Rattle.automata.specs.declared.automaton.Automaton.{Ghosts as Automatic}
use Rattle.ltlf.specs.Formulas.{Ltl, terms}
use Rattle.ltlf.specs.Words.{Satisfies, in_range}
use Rattle.ltlf.specs.Codes.{code_after, number_of}
use Rattle.automata.specs.declared.word.Round.{Round}

-- where an automaton's steps lead from its start
abbrev pub reached : {S : Type 0} → Automatic S → S → List Round → Option ℕ
reached f s w = led (f.step s) (f.start s) w

-- an automaton judges words by p: after a word in range it stands at a state that is marked exactly if the word satisfies p, and a word out of range leads nowhere
pub record Judges {S : Type 0} (f : Automatic S) (s : S) (p : Ltl) : Type 0 where
  pub inside : (w : List Round) → in_range (f.a s) (f.b s) w ≡ true →
      (q : ℕ) × (reached f s w ≡ Some q) × Decides (f.marked s q) (Satisfies (f.a s) w p)
  pub outside : (w : List Round) → in_range (f.a s) (f.b s) w ≡ false → reached f s w ≡ None

-- its states: 0 before any round, and then 1 + c1 + 3 · c2 + 9 · c3, by the codes of p's terms from the left
pub record Numbered {S : Type 0} (f : Automatic S) (s : S) (p : Ltl) : Type 0 where
  pub before : f.start s ≡ 0
  pub behind : (r : Round) (w : List Round) → in_range (f.a s) (f.b s) (r ∷ w) ≡ true →
      reached f s (r ∷ w) ≡ Some (1 + number_of (map (code_after (f.a s) r w) (terms p)))
