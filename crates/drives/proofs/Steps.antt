-- A permitted command of an opened sheet has a step.
use Rattle.std.proofs.Common.{◌≡◌, ℕ, true, is_some, Some, None, Option, refl}
use Rattle.sheets.specs.Opened.{bytes_of, tables}
use Rattle.sheets.specs.declared.Sheet.{Sheet}
use Rattle.sheets.proofs.Told.{permitted_steps}

some_step : (o : Option ℕ) → (o ≡ None → ⊥) → is_some o ≡ true
some_step None never = absurd (never refl)
some_step (Some t) never = refl

pub permitted_step : (s : Sheet) (c q x y : ℕ) → (tables s).permits c q x y ≡ true → is_some ((tables s).step q x y) ≡ true
permitted_step s c q x y p = some_step _ (permitted_steps (bytes_of s) s.checked c q x y p)
