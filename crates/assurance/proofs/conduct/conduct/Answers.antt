use Rattle.std.proofs.Common.{Ok, rules}
use Rattle.sheets.specs.Format.{tables_of}
use Rattle.sheets.specs.Opened.{bytes_of}
use Rattle.assurance.proofs.ConductLaws.{kept_promise}
use Rattle.assurance.proofs.conduct.conduct.Goals as goal

pub returns-in_err-between-clause-promise : goal.returns-in_err-between-clause-promise
returns-in_err-between-clause-promise c = kept_promise (tables_of (bytes_of c.args.sheet.now)) c.args.entries.now c.args.entries.now c.from_residual.result (search rules) (search rules)

pub returns-clause-promise : goal.returns-clause-promise
returns-clause-promise c = kept_promise (tables_of (bytes_of c.args.sheet.now)) c.args.entries.now c.run_calls.new.entries (Ok c.run_calls.result) (search rules) (search rules)
