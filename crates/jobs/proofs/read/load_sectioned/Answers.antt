use Rattle.std.proofs.Common.{sym, subst}
use Rattle.jobs.specs.Loaded.{AllSound}
use Rattle.jobs.proofs.CheckedLaws.{passed, all_sound}
use Rattle.jobs.proofs.read.load_sectioned.Goals as goal

pub load-requires : goal.load-requires
load-requires c =
    let read = c.in_ok-read_sectioned.ensures in
    subst AllSound (sym read.same) (all_sound c.args.bytes.now (passed c.args.bytes.now (sym read.told)))
