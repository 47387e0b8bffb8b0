-- The ground, once its section is known to be one.
use Rattle.std.proofs.Common.{◌≡◌, ℕ, Bool, true, false, cond, not, ◌&&◌, List, sym, refl, ap}
use Rattle.automata.specs.Layers.{held}
use Rattle.std.proofs.lemmas.Bool.{and_parts}
use Rattle.jobs.specs.FlatJob.{byte}
use Rattle.jobs.specs.Sections.{is_table, is_held, is_ground}
use Rattle.jobs.specs.Parts.{plain, part}

-- a ground is not held
pub ground_plain : (bs : List ℕ) → is_ground bs 8 ≡ true → plain (byte bs 3) (byte bs 4) bs 8 ≡ part bs 0
ground_plain bs g =
    let p = plain (byte bs 3) (byte bs 4) bs 8 in
    let free = (and_parts (is_table bs 8) _ (and_parts (is_table bs 8 && not (is_held bs 8)) _ g).0).1 in
    sym (ap (λ (t : Bool). cond t (held p) p) (unheld (is_held bs 8) free))
  where
    unheld : (t : Bool) → not t ≡ true → t ≡ false
    unheld true e = sym e
    unheld false e = refl
