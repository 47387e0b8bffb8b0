-- What a verdict means for grounds and plans.
use Rattle.std.specs.Prelude.{◌≡◌, ℕ, suc, ◌^◌, ◌≤◌, T, ◌↔◌, List, []}
use Rattle.automata.specs.Arena.{Arena}
use Rattle.games.specs.declared.verdict.Verdict.TheVariants.{Groundless, Planned, Unplayable}
use Rattle.games.specs.Regions.{unbroken, lawful, ranked}
use Rattle.games.specs.Verdicts.{verdict, lacking}
use Rattle.games.specs.Plays.{Ground, Below, LawfulGround, Plan, Open, Fulfils, FulfilsAgainst}
use Rattle.games.specs.Following.{followed, told_column, followed_told}

abbrev pub IsUnplayable : Arena → Type 0
IsUnplayable A = (right : ℕ) × (verdict A ≡ Unplayable right)

abbrev pub IsPlanned : Arena → Type 0
IsPlanned A = (rounds : ℕ) × (verdict A ≡ Planned rounds)

abbrev pub SomeLawfulGround : Arena → Type 0
SomeLawfulGround A = (g : Ground) × LawfulGround A A.start g

pub record Meant (A : Arena) : Type 0 where
  -- groundless exactly if no ground from the start is lawful
  pub groundless : (verdict A ≡ Groundless) ↔ (SomeLawfulGround A → ⊥)
  -- a reading is lawful at a state exactly if some lawful ground from there gives it first
  pub readings : (q x : ℕ) → T (lawful A q x) ↔ ((g : Ground) × LawfulGround A q g × (g [] ≡ x))
  -- an unbroken state is ranked in a right's column exactly if the right is open there
  pub rights : (j q : ℕ) → suc j ≤ A.k → T (unbroken A q) → T (ranked A (suc j) q) ↔ Open A (suc j) q
  -- where some ground is lawful, unplayable exactly if no plan fulfils the job, planned exactly if some plan does
  pub unplayable : SomeLawfulGround A → IsUnplayable A ↔ ((p : Plan) → Fulfils A p → ⊥)
  pub planned : SomeLawfulGround A → IsPlanned A ↔ ((p : Plan) × Fulfils A p)
  -- if unplayable, the followed columns are a lawful ground, against which no plan fulfils the job
  pub lawful_followed : IsUnplayable A → LawfulGround A A.start (followed A)
  pub defeats : IsUnplayable A → (p : Plan) → FulfilsAgainst A p (followed A) → ⊥
  -- which column to follow can be read off the columns' bytes: at every unbroken state, and so
  -- for every list of commands
  pub told : (q : ℕ) → T (unbroken A q) → told_column A q ≡ lacking A q
  pub read_off : IsUnplayable A → (ys : List ℕ) → Below (2 ^ A.b) ys → followed_told A ys ≡ followed A ys
