use Rattle.std.specs.Option.{option_map}
use Rattle.sst_entries.specs.Lending.{entry_of_ref}
use Rattle.sst_blocks.specs.Opened.{none_opened}
use Rattle.lsm_readers.specs.point.Answer.{table_answer}
use Rattle.lsm_readers.proofs.ReadViews.{first_seen, ok_seen, opens_seen}
use Rattle.lsm_readers.proofs.LentReads.{lent_does, lent_gives}
use Rattle.lsm_readers.proofs.table.Table.get_ref_counted.Goals as goal

pub returns-clause-returned : goal.returns-clause-returned
returns-clause-returned g c = lent_gives c.args.self.now.bytes c.get_place-found.result.0 c.found_at.result c.found_at.ensures _ c.get_place-found.ensures.returned

pub returns-clause-early : goal.returns-clause-early
returns-clause-early g c =
    let returned = c.get_place-found.ensures in
    let read = table_answer c.args.self.now c.args.key.now c.args.seqno in
    let does = lent_does c.args.self.now.bytes c.get_place-found.result.0 c.found_at.result c.found_at.ensures read none_opened c.get_place-found.result.1 returned.returned returned.early returned.opened returned.calm in
    first_seen (option_map entry_of_ref) c.found_at.result read.early (does.early tt)

pub returns-clause-calm : goal.returns-clause-calm
returns-clause-calm g c none =
    let returned = c.get_place-found.ensures in
    let read = table_answer c.args.self.now c.args.key.now c.args.seqno in
    let does = lent_does c.args.self.now.bytes c.get_place-found.result.0 c.found_at.result c.found_at.ensures read none_opened c.get_place-found.result.1 returned.returned returned.early returned.opened returned.calm in
    ok_seen (option_map entry_of_ref) c.found_at.result (does.calm none)

pub returns-clause-opened : goal.returns-clause-opened
returns-clause-opened g c =
    let returned = c.get_place-found.ensures in
    let read = table_answer c.args.self.now c.args.key.now c.args.seqno in
    let does = lent_does c.args.self.now.bytes c.get_place-found.result.0 c.found_at.result c.found_at.ensures read none_opened c.get_place-found.result.1 returned.returned returned.early returned.opened returned.calm in
    opens_seen (option_map entry_of_ref) c.found_at.result read.loads none_opened c.get_place-found.result.1 does.opens

pub returns-clause-list : goal.returns-clause-list
returns-clause-list g c es is = lent_gives c.args.self.now.bytes c.get_place-found.result.0 c.found_at.result c.found_at.ensures _ (c.get_place-found.ensures.list es is)
