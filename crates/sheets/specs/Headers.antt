-- The numbers of a sheet's header.
use Rattle.std.specs.Prelude.{ℕ, List}
use Rattle.sheets.specs.Format.{reading_bits, command_bits, rights, count, start, readings, commands}
use Rattle.sheets.specs.Placed.{places_of}
use Rattle.sheets.specs.declared.header.Header.{Header}

abbrev pub header_of : List ℕ → Header
header_of bs = record {
  reading_bits = reading_bits bs;
  command_bits = command_bits bs;
  rights = rights bs;
  count = count bs;
  start = start bs;
  readings = readings bs;
  commands = commands bs;
  places = places_of (reading_bits bs) (command_bits bs) (rights bs) (count bs);
}
