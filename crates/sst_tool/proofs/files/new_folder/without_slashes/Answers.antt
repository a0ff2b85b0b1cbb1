use Rattle.sst_tool.proofs.NewFolders.{stem_is}
use Rattle.sst_tool.proofs.files.new_folder.without_slashes.Goals as goal

pub returns : goal.returns
returns c =
    stem_is c.args.path.now c.trim_end_matches.result.now c.trim_end_matches.ensures.matches
