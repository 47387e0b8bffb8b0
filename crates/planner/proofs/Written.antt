-- A buffer in which a sheet was written opens, or reads back.
use Rattle.std.proofs.Common.{◌≡◌, ℕ, ◌≤◌, List, length, sym, ◌∙◌, subst, arith}
use Rattle.std.proofs.lemmas.List.FromFn.{length-map-range_with_len}
use Rattle.sheets.specs.Tables.{Tables, InRange}
use Rattle.sheets.specs.Encoding.{byte_of, sheet_length, sheet_bytes}
use Rattle.sheets.specs.Laws.{OpensTo}
use Rattle.sheets.proofs.SheetLaws.{opens_written}
use Rattle.planner.specs.GroundFormat.{GroundTables, GroundInRange, ground_byte_of, ground_length, ground_bytes}
use Rattle.planner.specs.GroundReading.{ReadsBack}
use Rattle.planner.specs.Writing.{written_buffer}
use Rattle.planner.proofs.Filling.{long_buffer}
use Rattle.planner.proofs.GroundLaws.{reads_back}

pub sheet_sized : (T : Tables) → length (sheet_bytes T) ≡ sheet_length T
sheet_sized T = length-map-range_with_len (byte_of T) 0 (sheet_length T)

pub ground_sized : (G : GroundTables) → length (ground_bytes G) ≡ ground_length G
ground_sized G = length-map-range_with_len (ground_byte_of G) 0 (ground_length G)

pub buffer_opens : (T : Tables) → InRange T → (old new : List ℕ) → new ≡ written_buffer (sheet_bytes T) old → sheet_length T ≤ length old → OpensTo T new
buffer_opens T I old new e l =
    let fits : length (sheet_bytes T) ≤ length old = omega (arith, sheet_sized T) in
    subst (OpensTo T) (sym (e ∙ long_buffer (sheet_bytes T) old fits)) ((opens_written T I).opens _)

pub buffer_reads : (G : GroundTables) → GroundInRange G → (old new : List ℕ) → new ≡ written_buffer (ground_bytes G) old → ground_length G ≤ length old → ReadsBack G new
buffer_reads G I old new e l =
    let fits : length (ground_bytes G) ≤ length old = omega (arith, ground_sized G) in
    subst (ReadsBack G) (sym (e ∙ long_buffer (ground_bytes G) old fits)) (reads_back G I _)
