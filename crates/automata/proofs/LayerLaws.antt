-- What automata and arenas keep, as facts about their answers, and that held automata and pairs keep
-- it too.
use Rattle.std.proofs.Common.{◌≡◌, ℕ, ◌*◌, ◌/◌, ◌%◌, ◌^◌, ◌<◌, ◌≤◌, Bool, true, false, None, refl, arith, rules}
use Rattle.std.proofs.lemmas.Bool.{leb-true}
use Rattle.automata.specs.Steps.{Inside}
use Rattle.automata.specs.Arena.{Arena}
use Rattle.automata.specs.Machine.{Machine, machine_in}
use Rattle.automata.specs.Layers.{held, pair, duty_fits, with_duty, right_fits, with_right, duty_arena, right_arena}
use Rattle.automata.specs.RightAutomatonLemmas.{small}
use Rattle.automata.specs.PairLaws.{pair_sized, pair_begins, pair_enters, pair_outside}

-- the laws of an automaton
pub record Sane (m : Machine) : Type 0 where
  pub narrow_readings : m.a ≤ 3
  pub narrow_commands : m.b ≤ 3
  pub some_state : 1 ≤ m.n
  pub sized : m.n ≤ 257
  pub begins : m.start < m.n
  pub enters : (q x y : ℕ) → Inside m.n (m.step q x y)
  pub state_outside : (q x y : ℕ) → m.n ≤ q → m.step q x y ≡ None
  pub reading_outside : (q x y : ℕ) → 2 ^ m.a ≤ x → m.step q x y ≡ None
  pub command_outside : (q x y : ℕ) → 2 ^ m.b ≤ y → m.step q x y ≡ None
  pub mark_outside : (q : ℕ) → m.n ≤ q → m.marked q ≡ false
  pub full_start : m.n ≡ 257 → m.start ≡ 0
  pub full_step : (q x y : ℕ) → m.n ≡ 257 → m.step q x y ≡ None
  pub full_mark : (q : ℕ) → m.n ≡ 257 → m.marked q ≡ false

-- the laws of an arena's rights
pub record Entitled (A : Arena) : Type 0 where
  pub few : A.k ≤ 4
  pub no_zeroth : (q : ℕ) → A.right 0 q ≡ false
  pub right_outside : (i q : ℕ) → A.k < i → A.right i q ≡ false
  pub right_state_outside : (i q : ℕ) → A.n ≤ q → A.right i q ≡ false
  pub full_rights : A.n ≡ 257 → A.k ≡ 0

-- PAIRS
module _ (fits : Bool) (mark : ℕ → Bool) (P R : Machine) (small : fits ≡ true → P.n * R.n ≤ 256) (LP : Sane P) (LR : Sane R) where
  pub pair_sane : Sane (pair fits mark P R)
  pair_sane =
      let two = pair_sized fits P.n R.n small LP.some_state LR.some_state in
      record {
        narrow_readings = LP.narrow_readings;
        narrow_commands = LP.narrow_commands;
        some_state = two.0;
        sized = two.1;
        begins = pair_begins fits P.n R.n small P.start R.start LP.begins LR.begins;
        enters = λ q x y. pair_enters fits P.n R.n small _ _ (LP.enters (q / R.n) x y) (LR.enters (q % R.n) x y);
        state_outside = λ q x y h. pair_outside fits P.n R.n small q (λ p. P.step p x y) _ LR.some_state (λ p. LP.state_outside p x y) h;
        reading_outside = λ q x y h. let k = LP.reading_outside (q / R.n) x y h in search rules;
        command_outside = λ q x y h. let k = LP.command_outside (q / R.n) x y h in search rules;
        mark_outside = λ q h. search rules;
        full_start = λ e. search rules;
        full_step = λ q x y e. search rules;
        full_mark = λ q e. search rules;
      }

pub duty_sane : (G D : Machine) → Sane G → Sane D → Sane (with_duty G D)
duty_sane G D LG LD = pair_sane (duty_fits G D) (λ q. D.marked (q % D.n)) G D (leb-true (G.n * D.n) 256) LG LD

pub right_sane : (A : Arena) (R : Machine) → Sane (machine_in A) → Sane R → Sane (with_right A R)
right_sane A R LA LR = pair_sane (right_fits A R) (λ q. A.marked (q / R.n)) (machine_in A) R (small A.n R.n A.k) LA LR

pub duty_entitled : (G D : Machine) → Entitled (duty_arena G D)
duty_entitled G D = record {
  few = omega arith;
  no_zeroth = λ q. refl;
  right_outside = λ i q h. refl;
  right_state_outside = λ i q h. refl;
  full_rights = λ e. refl;
}

pub right_entitled : (A : Arena) (R : Machine) → Entitled A → Entitled (right_arena A R)
right_entitled A R E = record {
  few = search rules;
  no_zeroth = λ q. let h = E.no_zeroth (q / R.n) in search rules;
  right_outside = λ i q h. let k = E.right_outside i (q / R.n) in search rules;
  right_state_outside = λ i q h. search rules;
  full_rights = λ e. search rules;
}

-- HELD
pub held_sane : (m : Machine) → Sane m → Sane (held m)
held_sane m L = record {
  narrow_readings = L.narrow_readings;
  narrow_commands = L.narrow_commands;
  some_state = search rules;
  sized = search rules;
  begins = search (rules, L.begins);
  enters = λ q x y. let h = L.enters (q / 2) x y in search rules;
  state_outside = λ q x y h. let k = L.state_outside (q / 2) x y in search rules;
  reading_outside = λ q x y h. let k = L.reading_outside (q / 2) x y h in search rules;
  command_outside = λ q x y h. let k = L.command_outside (q / 2) x y h in search rules;
  mark_outside = λ q h. search rules;
  full_start = λ e. search rules;
  full_step = λ q x y e. search rules;
  full_mark = λ q e. search rules;
}
