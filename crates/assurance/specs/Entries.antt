-- A list of calls made on a drive, each answer written into its place.
use Rattle.std.specs.Prelude.{List, [], ◌∷◌, map, Some}
use Rattle.sheets.specs.Tables.{Tables}
use Rattle.assurance.specs.declared.calls.Entry.{Entry}
use Rattle.assurance.specs.declared.drive.Drive.{Drive}
use Rattle.assurance.specs.Calls.{Call, Answered}
use Rattle.assurance.specs.Made.{makes}

-- the calls with their answers, each made on the drive that the one before left
abbrev pub runs_on : Tables → Drive → List Call → List Answered
runs_on T d [] = []
runs_on T d (call ∷ calls) = record { call = call; answer = (makes T d call).1 } ∷ runs_on T (makes T d call).0 calls

-- the drive after them
abbrev pub after_calls : Tables → Drive → List Call → Drive
after_calls T d [] = d
after_calls T d (call ∷ calls) = after_calls T (makes T d call).0 calls

-- the calls of entries
abbrev pub calls_in : List Entry → List Call
calls_in es = map (λ e. e.call) es

-- a call that was made, with its answer in its place
abbrev pub entry_of : Answered → Entry
entry_of t = record { call = t.call; answer = Some t.answer }

abbrev pub filled : List Answered → List Entry
filled ts = map entry_of ts
