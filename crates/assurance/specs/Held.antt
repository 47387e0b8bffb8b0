-- What a drive holds, as it stands.
use Rattle.std.specs.Prelude.{true, false, Some, None}
use Rattle.assurance.specs.declared.drive.Drive.{Drive}
use Rattle.assurance.specs.declared.drive.Drive.TheVariants.{Between as between, Waiting as waiting, Ended as ended}
use Rattle.assurance.specs.Stands.{Stand}

-- its state and its column, the reading of one that waits, and whether it has ended
abbrev pub holds : Drive → Stand
holds (between d) = record { state = d.state; column = d.column; waiting = None; over = false }
holds (waiting d) = record { state = d.state; column = d.column; waiting = Some d.reading; over = false }
holds (ended d) = record { state = d.state; column = d.column; waiting = None; over = true }
