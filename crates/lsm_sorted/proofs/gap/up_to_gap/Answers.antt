use Rattle.sst_entries.specs.Stream.{nowhere}
use Rattle.lsm_sorted.proofs.GapLemmas.{merges_up_to_gap}
use Rattle.lsm_sorted.proofs.gap.up_to_gap.Goals as goal

pub returns : goal.returns
returns g c its before until ends = merges_up_to_gap g.I.Iterator.next_gives nowhere its _ nowhere c.args.merger.now before until ends
