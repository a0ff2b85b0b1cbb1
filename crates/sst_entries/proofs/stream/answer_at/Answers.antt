use Rattle.sst_entries.proofs.StreamLemmas.{can_now, can_now_back, can_front, can_after_back}
use Rattle.sst_entries.proofs.stream.answer_at.Goals as goal

pub next-requires : goal.next-requires
next-requires g c = can_now _ _ _ _ _ c.requires

pub next_back-requires : goal.next_back-requires
next_back-requires g c = can_now_back _ _ _ _ _ c.requires

pub returns-in-Front-clause-can : goal.returns-in-Front-clause-can
returns-in-Front-clause-can g c = can_front _ _ _ _ _ _ _ c.requires c.next.ensures.steps

pub returns-in-Back-clause-can : goal.returns-in-Back-clause-can
returns-in-Back-clause-can g c = can_after_back _ _ _ _ _ _ _ c.requires c.next_back.ensures.steps
