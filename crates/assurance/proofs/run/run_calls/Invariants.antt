use Rattle.std.proofs.Common.{◌≡◌, ◌++◌, take, drop}
use Rattle.sheets.specs.Format.{tables_of}
use Rattle.sheets.specs.Opened.{bytes_of}
use Rattle.assurance.specs.Entries.{runs_on, after_calls, calls_in, filled}
use Rattle.assurance.proofs.run.run_calls.Given as goal

-- the calls that are left end where all would, and their answers complete those written
abbrev pub invariant-loop-place : goal.invariant-loop-place
invariant-loop-place l =
    let T = tables_of (bytes_of l.sheet) in
    let left = calls_in (drop l.place-index l.entries) in
    let all = calls_in l.initial.entries in
    (after_calls T l.drive left ≡ after_calls T l.initial.drive all)
    × (take l.place-index l.entries ++ filled (runs_on T l.drive left) ≡ filled (runs_on T l.initial.drive all))
