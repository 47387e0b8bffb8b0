-- What a drive that was conducted well comes to.
use Rattle.std.proofs.Common.{ℕ, List, Ok, Err, Result, refl}
use Rattle.automata.specs.Arena.{Arena}
use Rattle.sheets.specs.Format.{tables_of}
use Rattle.sheets.specs.Laws.{OpensTo}
use Rattle.planner.specs.ArenaTables.{arena_tables}
use Rattle.std.specs.Result.{result_ok}
use Rattle.drives.specs.declared.refusal.Refusal.{Refusal}
use Rattle.assurance.specs.declared.calls.Entry.{Entry}
use Rattle.assurance.specs.declared.drive.Drive.{Drive}
use Rattle.assurance.specs.Conducted.{WellConducted}
use Rattle.assurance.specs.Assured.{DrivesWell}

-- on bytes that open
pub well : (A : Arena) (bs : List ℕ) (rounds : ℕ) (es fs : List Entry) (r : Result Drive Refusal) → OpensTo (arena_tables A) bs → WellConducted A (tables_of bs) rounds es fs r → DrivesWell A bs rounds es fs (result_ok r)
well A bs rounds es fs (Ok d) O w = record { opens = O; drive = d; run = w.0; stands = refl; written = w.1; conducted = w.2 }
well A bs rounds es fs (Err why) O w = absurd w
