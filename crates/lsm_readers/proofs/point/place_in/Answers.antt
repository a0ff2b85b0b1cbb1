use Rattle.std.specs.Option.{option_map}
use Rattle.sst_blocks.specs.EntryPlace.{entry_placed}
use Rattle.sst_blocks.specs.Sections.{body_of}
use Rattle.lsm_readers.specs.point.Table.{parts_of}
use Rattle.lsm_readers.proofs.FewLoads.{answer_few}
use Rattle.lsm_readers.proofs.ReadViews.{first_seen, gives_seen, ok_seen, opens_seen}
use Rattle.lsm_readers.proofs.point.place_in.Goals as goal

pub returns-clause-returned : goal.returns-clause-returned
returns-clause-returned g c = gives_seen (option_map (entry_placed c.args.source.now)) c.read_place.result.0 _ c.read_place.ensures.read.returned

pub returns-clause-early : goal.returns-clause-early
returns-clause-early g c = first_seen (option_map (entry_placed c.args.source.now)) c.read_place.result.0 _ (c.read_place.ensures.read.early tt)

pub returns-clause-calm : goal.returns-clause-calm
returns-clause-calm g c none = ok_seen (option_map (entry_placed c.args.source.now)) c.read_place.result.0 (c.read_place.ensures.read.calm none)

pub returns-clause-opened : goal.returns-clause-opened
returns-clause-opened g c = opens_seen (option_map (entry_placed c.args.source.now)) c.read_place.result.0 _ _ _ c.read_place.ensures.read.opens

pub returns-clause-few : goal.returns-clause-few
returns-clause-few g c =
    let inner = c.args.inner.now in
    answer_few _ (body_of c.args.source.now) inner.global_seqno (parts_of inner) c.args.key.now c.args.seqno _ _ c.read_place.ensures.read.opens
