use Rattle.std.proofs.Common.{subst, ◌∙◌}
use Rattle.lsm_readers.specs.point.Table.{IsOpen}
use Rattle.lsm_readers.proofs.FileParts.{table_parts}
use Rattle.lsm_readers.proofs.FileStored.{open_stores}
use Rattle.lsm_readers.proofs.Recovered.{range_is}
use Rattle.lsm_readers.proofs.StoredOne.{stored_one}
use Rattle.lsm_readers.proofs.StoredParts.{bears_out}
use Rattle.lsm_readers.proofs.table.Table.tells_its_list.Goals as goal

pub returns-clause-parts : goal.returns-clause-parts
returns-clause-parts g c es t =
    let seen = c.args.self.now in
    let held = subst IsOpen c.self.view_is c.self.invariant in
    let pins = held.recovered in
    record { pin_filter = pins.pin_filter; pin_index = pins.pin_index; is = table_parts seen.bytes es t held.short seen.global_seqno pins.pin_filter pins.pin_index seen.parts pins.returned }

pub returns-clause-facts : goal.returns-clause-facts
returns-clause-facts g c es t =
    let seen = c.args.self.now in
    let pins = (subst IsOpen c.self.view_is c.self.invariant).recovered in
    bears_out seen.bytes es t seen.global_seqno pins.pin_filter pins.pin_index seen.parts pins.returned

pub returns-clause-range : goal.returns-clause-range
returns-clause-range g c es t =
    let seen = c.args.self.now in
    let held = subst IsOpen c.self.view_is c.self.invariant in
    range_is seen held.recovered ∙ (returns-clause-facts g c es t).key_range

pub returns-clause-one : goal.returns-clause-one
returns-clause-one g c xs ys s t = stored_one c.args.self.now.bytes xs ys s t

pub returns-clause-written : goal.returns-clause-written
returns-clause-written g c es t = open_stores c.args.self.now (subst IsOpen c.self.view_is c.self.invariant) es t

pub returns-clause-open : goal.returns-clause-open
returns-clause-open g c = subst IsOpen c.self.view_is c.self.invariant
