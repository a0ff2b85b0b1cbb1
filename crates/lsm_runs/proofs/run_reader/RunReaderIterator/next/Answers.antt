use Rattle.sst_entries.specs.Stream.{front_of}
use Rattle.lsm_runs.specs.RunRange.{front_tables}
use Rattle.lsm_runs.proofs.RunLaws.{progress}
use Rattle.lsm_runs.proofs.run_reader.RunReaderIterator.next.Goals as goal

pub returns-clause-goes : goal.returns-clause-goes
returns-clause-goes g c =
    progress front_of front_tables c.args.self.now c.answer.result c.answer.new.self c.answer.ensures
