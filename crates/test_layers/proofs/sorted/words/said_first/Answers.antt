use Rattle.sst_entries.proofs.StreamLemmas.{can_front, can_now}
use Rattle.test_layers.proofs.sorted.words.said_first.Goals as goal

pub next-requires : goal.next-requires
next-requires g c = can_now _ _ _ _ _ c.requires

pub returns : goal.returns
returns g c = record { can = can_front _ _ _ _ _ _ _ c.requires c.next.ensures.steps }
