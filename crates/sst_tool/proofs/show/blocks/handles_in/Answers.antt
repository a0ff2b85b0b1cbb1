use Rattle.sst_blocks.proofs.LoadLemmas.{load_kind}
use Rattle.sst_tool.proofs.show.blocks.handles_in.Goals as goal

pub new-requires : goal.new-requires
new-requires g c = load_kind _ _ _ _ _ c.in-Ok.ensures.returned
