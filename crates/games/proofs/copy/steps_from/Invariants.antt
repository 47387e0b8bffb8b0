use Rattle.std.proofs.Common.{◌≡◌, ℕ, ◌<◌, [], None, length, get_or}
use Rattle.games.proofs.copy.steps_from.Given as goal

abbrev pub invariant-loop-x : goal.invariant-loop-x
invariant-loop-x g l =
    (length l.steps ≡ 8) × ((x y : ℕ) → x < l.x → y < 8 → get_or (get_or l.steps x []) y None ≡ g.P.Automaton.step l.arena l.q x y)
