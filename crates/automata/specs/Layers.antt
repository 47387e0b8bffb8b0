-- Layers over automata: held, and the pairs that make a job's arena.
use Rattle.std.specs.Prelude.{ℕ, ◌+◌, ◌*◌, ◌/◌, ◌%◌, Bool, false, cond, ◌&&◌, leb, Some, None, Option, ◌==◌, nat_le, nat_lt}
use Rattle.automata.specs.Steps.{onward}
use Rattle.automata.specs.Arena.{Arena}
use Rattle.automata.specs.Machine.{Machine, machine_in}

-- HELD: state 2 · q + s, where s is 1 at a marked start and turns 1 for good when a step reaches a
-- marked state. It is marked where s is 1. More than 128 states below make too many
abbrev pub held : Machine → Machine
held m =
    let fits = leb m.n 128 in
    record {
      a = m.a;
      b = m.b;
      n = cond fits (2 * m.n) 257;
      start = cond fits (2 * m.start + cond (m.marked m.start) 1 0) 0;
      marked = λ q. fits && nat_lt q (2 * m.n) && (q % 2 == 1);
      step = λ q x y. cond fits (onward (m.step (q / 2) x y) None (λ t. Some (2 * t + cond (m.marked t) 1 (q % 2)))) None;
    }

-- PAIRS: state p · n + r, n being the second part's count; none if either part steps to none
abbrev pub both : ℕ → Option ℕ → Option ℕ → Option ℕ
both n o u = onward o None (λ p. onward u None (λ r. Some (p * n + r)))

-- a pair, if its states fit, with marks as told
abbrev pub pair : Bool → (ℕ → Bool) → Machine → Machine → Machine
pair fits mark p r = record {
  a = p.a;
  b = p.b;
  n = cond fits (p.n * r.n) 257;
  start = cond fits (p.start * r.n + r.start) 0;
  marked = λ q. fits && nat_lt q (p.n * r.n) && mark q;
  step = λ q x y. cond fits (both r.n (p.step (q / r.n) x y) (r.step (q % r.n) x y)) None;
}

-- ground and duty: an arena with the duty's mark and no right
abbrev pub duty_fits : Machine → Machine → Bool
duty_fits g d = nat_le (g.n * d.n) 256

abbrev pub with_duty : Machine → Machine → Machine
with_duty g d = pair (duty_fits g d) (λ q. d.marked (q % d.n)) g d

-- an arena and one right more, whose mark comes last; a fifth right makes too many
abbrev pub right_fits : Arena → Machine → Bool
right_fits A r = nat_le (A.n * r.n) 256 && nat_lt A.k 4

abbrev pub with_right : Arena → Machine → Machine
with_right A r = pair (right_fits A r) (λ q. A.marked (q / r.n)) (machine_in A) r

abbrev pub more_rights : Arena → Machine → ℕ
more_rights A r = cond (right_fits A r) (A.k + 1) 0

abbrev pub right_marks : Arena → Machine → ℕ → ℕ → Bool
right_marks A r i q =
    right_fits A r && nat_lt q (A.n * r.n) && cond (i == A.k + 1) (r.marked (q % r.n)) (A.right i (q / r.n))

-- THE PAIRS AS ARENAS
abbrev pub duty_arena : Machine → Machine → Arena
duty_arena g d =
    let m = with_duty g d in
    record { a = m.a; b = m.b; n = m.n; start = m.start; k = 0; marked = m.marked; right = λ i q. false; step = m.step }

abbrev pub right_arena : Arena → Machine → Arena
right_arena A r =
    let m = with_right A r in
    record { a = m.a; b = m.b; n = m.n; start = m.start; k = more_rights A r; marked = m.marked; right = right_marks A r; step = m.step }
