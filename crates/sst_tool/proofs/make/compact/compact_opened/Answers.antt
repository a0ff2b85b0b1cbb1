use Rattle.sst_tool.proofs.FromLibrary.{none_so, refused_so}
use Rattle.sst_tool.proofs.make.compact.compact_opened.Goals as goal

pub returns-in-Err-clause-library : goal.returns-in-Err-clause-library
returns-in-Err-clause-library g c =
    refused_so c.args.options.now c.args.paths.now c.args.tables.now c.in-Err.error c.blame.result c.blame.ensures.kept c.blame.ensures.blames c.blame.ensures.memory c.blame.ensures.named c.in-Err.ensures.refused c.in-Err.ensures.taken

pub returns-in-None-clause-library : goal.returns-in-None-clause-library
returns-in-None-clause-library g c =
    none_so c.args.options.now c.args.tables.now c.in-Ok.outcome.0 c.blame_order.result c.in-None.ensures.none c.in-Ok.ensures.tables
