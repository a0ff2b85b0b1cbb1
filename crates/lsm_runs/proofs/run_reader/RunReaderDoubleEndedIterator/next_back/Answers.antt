use Rattle.sst_entries.specs.Stream.{back_of}
use Rattle.lsm_runs.specs.RunRange.{back_tables}
use Rattle.lsm_runs.proofs.RunLaws.{progress}
use Rattle.lsm_runs.proofs.run_reader.RunReaderDoubleEndedIterator.next_back.Goals as goal

pub returns-clause-goes : goal.returns-clause-goes
returns-clause-goes g c =
    progress back_of back_tables c.args.self.now c.answer.result c.answer.new.self c.answer.ensures
