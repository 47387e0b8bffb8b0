-- Where the bytes of a well-formed ground sheet lie.
use Rattle.std.proofs.Common.{◌≡◌, ℕ, ◌+◌, ◌*◌, ◌<◌, ◌≤◌, true, ◌&&◌, List, length, arith}
use Rattle.std.proofs.lemmas.Bool.{and_parts}
use Rattle.std.proofs.lemmas.Bool.Decides.{nat_tests}
use Rattle.sheets.specs.Format.{rights, count}
use Rattle.sheets.proofs.Places.{row_in}
use Rattle.planner.specs.GroundFormat.{columns_end}
use Rattle.planner.specs.GroundReading.{ground_leads, ground_narrow, ground_states, ground_number, ground_laid_out, ground_whole}

pub record GroundBounds (bs : List ℕ) : Type 0 where
  pub long : 16 ≤ length bs
  pub few_rights : rights bs ≤ 4
  pub few_states : count bs ≤ 256
  pub within : columns_end (rights bs) (count bs) ≤ length bs

pub ground_bounds : (bs : List ℕ) → ground_whole bs ≡ true → GroundBounds bs
ground_bounds bs w =
    let p = and_parts (ground_leads bs && ground_narrow bs && ground_states bs && ground_number bs) (ground_laid_out bs) w in
    let q = and_parts (ground_leads bs && ground_narrow bs && ground_states bs) (ground_number bs) p.0 in
    let r = and_parts (ground_leads bs && ground_narrow bs) (ground_states bs) q.0 in
    let s = and_parts (ground_leads bs) (ground_narrow bs) r.0 in
    let l : ground_leads bs ≡ true = s.0 in
    let m : ground_narrow bs ≡ true = s.1 in
    let n : ground_states bs ≡ true = r.1 in
    let o : ground_laid_out bs ≡ true = p.1 in
    record {
      long = grind (arith, nat_tests);
      few_rights = grind (arith, nat_tests);
      few_states = grind (arith, nat_tests);
      within = grind (arith, nat_tests);
    }

pub ground_place : (bs : List ℕ) → ground_whole bs ≡ true → (c q : ℕ) → c ≤ rights bs → q < count bs → 16 + (c * count bs + q) < length bs
ground_place bs w c q hc hq =
    let b = ground_bounds bs w in
    let c' : c < rights bs + 1 = omega arith in
    let p = row_in (rights bs + 1) (count bs) c q c' hq in
    omega arith
