use Rattle.std.proofs.Common.{◌≡◌, ℕ, List, Option, sym, ◌∙◌, subst}
use Rattle.std.proofs.lemmas.Bool.{cond-true}
use Rattle.sheets.specs.Format.{tables_of}
use Rattle.sheets.specs.Opened.{bytes_of}
use Rattle.sheets.specs.Whole.{whole}
use Rattle.assurance.specs.declared.drive.Drive.{Drive}
use Rattle.assurance.specs.Assured.{DrivesWell}
use Rattle.assurance.specs.Conducted.{KeepsPromise}
use Rattle.assurance.proofs.AssureLaws.{well}
use Rattle.assurance.proofs.assure.drive_on.Goals as goal

pub returns : goal.returns
returns c A L O rounds v =
    let bs = c.args.bytes.now in
    let es = c.args.entries.now in
    let fs = c.conduct.new.entries in
    let same : bytes_of c.open.new.self ≡ bs = c.open.ensures.holds ∙ cond-true (whole bs) bs _ O.opens in
    let kept = subst (λ (l : List ℕ). KeepsPromise (tables_of l) es fs c.conduct.result) same c.conduct.ensures.promise in
    subst (λ (o : Option Drive). DrivesWell A bs rounds es fs o) (sym c.ok-2.ensures.value) (well A bs rounds es fs c.conduct.result O (kept A L O.says rounds v))
