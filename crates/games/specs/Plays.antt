-- Grounds, plans and plays: what an open right and a fulfilled job mean, without stages and ranks.
use Rattle.std.specs.Prelude.{◌≡◌, ℕ, ◌^◌, ◌<◌, ◌≤◌, Bool, true, false, T, List, [], ◌∷◌, Some, None, Option, ◌≢◌}
use Rattle.automata.specs.Steps.{onward}
use Rattle.automata.specs.Arena.{Arena}

-- a ground gives a reading for every list of commands, the oldest command first
abbrev pub Ground : Type 0
Ground = List ℕ → ℕ

-- the ground that is left after the command y
abbrev pub after : Ground → ℕ → Ground
after g y ys = g (y ∷ ys)

-- the state to which a list of commands leads the ground from q, or none
abbrev pub led : Arena → Ground → ℕ → List ℕ → Option ℕ
led A g q [] = Some q
led A g q (y ∷ ys) = onward (A.step q (g []) y) None (λ q'. led A (after g y) q' ys)

-- each number of a list is below m
abbrev pub Below : ℕ → List ℕ → Type 0
Below m [] = Unit {0}
Below m (y ∷ ys) = (y < m) × Below m ys

-- a ground from q is lawful if no list of commands leads it to none
abbrev pub LawfulGround : Arena → ℕ → Ground → Type 0
LawfulGround A q g = (ys : List ℕ) → Below (2 ^ A.b) ys → led A g q ys ≢ None

-- before each round a plan stops or goes on, by the readings so far, the oldest first; after a
-- reading it gives a command, by those and that reading
pub record Plan : Type 0 where
  pub stops : List ℕ → Bool
  pub gives : List ℕ → ℕ → ℕ

-- the plan that is left after the reading x
abbrev pub later : Plan → ℕ → Plan
later p x = record { stops = λ xs. p.stops (x ∷ xs); gives = λ xs. p.gives (x ∷ xs) }

-- the play of a plan against a ground from q stops at q', and P holds at each state of the play
pub data Play (A : Arena) (P : ℕ → Type 0) : Plan → Ground → ℕ → ℕ → Type 0 where
  ends : {p : Plan} {g : Ground} {q : ℕ} → P q → p.stops [] ≡ true → Play A P p g q q
  goes : {p : Plan} {g : Ground} {q q' q'' : ℕ} → P q → p.stops [] ≡ false →
      A.step q (g []) (p.gives [] (g [])) ≡ Some q' →
      Play A P (later p (g [])) (after g (p.gives [] (g []))) q' q'' → Play A P p g q q''

-- the play stops at a state of which M holds, and P holds at each state of it
abbrev pub StopsIn : Arena → (ℕ → Type 0) → (ℕ → Type 0) → Plan → Ground → ℕ → Type 0
StopsIn A P M p g q = (q' : ℕ) × Play A P p g q q' × M q'

abbrev pub Anywhere : ℕ → Type 0
Anywhere q = Unit {0}

-- right i is open at q: some plan from q, against every lawful ground from q, stops at a state
-- marked for the duty and right i
abbrev pub Open : Arena → ℕ → ℕ → Type 0
Open A i q = (p : Plan) × ((g : Ground) → LawfulGround A q g → StopsIn A Anywhere (λ q'. T (A.marked q') × T (A.right i q')) p g q)

abbrev pub AllOpen : Arena → ℕ → Type 0
AllOpen A q = (i : ℕ) → 1 ≤ i → i ≤ A.k → Open A i q

-- a plan fulfils the job against a ground: it stops at a duty-marked state, and all rights are
-- open at each state of the play
abbrev pub FulfilsAgainst : Arena → Plan → Ground → Type 0
FulfilsAgainst A p g = StopsIn A (AllOpen A) (λ q'. T (A.marked q')) p g A.start

-- a plan fulfils the job: it does so against every lawful ground from the start
abbrev pub Fulfils : Arena → Plan → Type 0
Fulfils A p = (g : Ground) → LawfulGround A A.start g → FulfilsAgainst A p g
