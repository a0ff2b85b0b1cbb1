use Rattle.sst_tool.proofs.FileLemmas.{failure_none, failure_only}
use Rattle.sst_tool.proofs.show.dumps.dump.Goals as goal

pub returns-in-Err-clause-named : goal.returns-in-Err-clause-named
returns-in-Err-clause-named g c =
    failure_only c.args.file.now _ c.in-Err.error c.blame.result c.in-Err.ensures.refused
    c.blame.ensures

pub returns-in-Err-clause-sound : goal.returns-in-Err-clause-sound
returns-in-Err-clause-sound g c = λ es stores.
    failure_none c.args.file.now c.in-Err.error c.blame.result c.blame.ensures
    (c.in-Err.ensures.sound es stores)
