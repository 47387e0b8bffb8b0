-- A run in two parts: the second goes on from where the first left the drive.
use Rattle.std.proofs.Common.{◌≡◌, List, [], ◌∷◌, ◌++◌, refl, ap}
use Rattle.automata.specs.Arena.{Arena}
use Rattle.automata.specs.Lawful.{LawfulArena}
use Rattle.assurance.specs.Calls.{Call, Answered}
use Rattle.assurance.specs.Stands.{Stand, answer_at, one, runs, stands}
use Rattle.assurance.proofs.KeptLaws.{Good, good_after}

module _ (A : Arena) where
  pub runs_append : (calls more : List Call) (s : Stand) → runs A s (calls ++ more) ≡ runs A s calls ++ runs A (stands A s calls) more
  runs_append [] more s = refl
  runs_append (call ∷ calls) more s =
      ap (λ (ts : List Answered). record { call = call; answer = answer_at A s call } ∷ ts) (runs_append calls more (one A s call).0)

  pub stands_append : (calls more : List Call) (s : Stand) → stands A s (calls ++ more) ≡ stands A (stands A s calls) more
  stands_append [] more s = refl
  stands_append (call ∷ calls) more s = stands_append calls more (one A s call).0

  pub good_stands : (L : LawfulArena A) (calls : List Call) (s : Stand) → Good A L s → Good A L (stands A s calls)
  good_stands L [] s h = h
  good_stands L (call ∷ calls) s h = good_stands L calls (one A s call).0 (good_after A L s call h)
