use Rattle.std.proofs.Common.{arith, refl}
use Rattle.example_store.proofs.Opening.{highest_own, none_weak, own_table}
use Rattle.example_store.specs.Faulty.{NamesFile}
use Rattle.example_store.proofs.Faults.{passed}
use Rattle.example_store.proofs.store.open.test_table.Goals as goal

pub returns-then-get_highest_seqno-next-clause-taken :
    goal.returns-then-get_highest_seqno-next-clause-taken
returns-then-get_highest_seqno-next-clause-taken g c es stored some own =
    let said = (c.tells_its_list.ensures.facts es stored).seqno_max in
    let high = highest_own c.args.next es some own in
    let is = c.get_highest_seqno.ensures in
    let unlifted = c.requires.unlifted in
    let past = c.if-get_highest_seqno-next.true in
    absurd (omega (arith, said, high, is, unlifted, past))

pub returns-then-weak_tombstone_count-gt0-clause-taken :
    goal.returns-then-weak_tombstone_count-gt0-clause-taken
returns-then-weak_tombstone_count-gt0-clause-taken g c es stored some own =
    let said = (c.tells_its_list.ensures.facts es stored).weak_tombstone_count in
    let none = none_weak c.args.next es own in
    let is = c.weak_tombstone_count.ensures in
    let past = c.if-weak_tombstone_count-gt0.true in
    absurd (omega (arith, said, none, is, past))

pub returns-clause-own : goal.returns-clause-own
returns-clause-own g c =
    let found = c.in_ok-test_entries.ensures.sound in
    let said = c.tells_its_list.ensures.facts found.0 found.1 in
    let highest = said.seqno_max in
    let weak = said.weak_tombstone_count in
    let high_is = c.get_highest_seqno.ensures in
    let weak_is = c.weak_tombstone_count.ensures in
    let unlifted = c.requires.unlifted in
    let below = c.if-get_highest_seqno-next.false in
    let none = c.if-weak_tombstone_count-gt0.false in
    own_table c.args.next c.args.table.now found.0 c.tells_its_list.ensures.open unlifted found.1 found.2
    (omega (arith, highest, high_is, unlifted, below)) (omega (arith, weak, weak_is, none))

pub returns-in_err-test_entries-clause-named : goal.returns-in_err-test_entries-clause-named
returns-in_err-test_entries-clause-named g c =
    passed (NamesFile c.args.next c.args.table.now.bytes c.args.place.0 c.args.place.1) c.from_residual.result c.in_err-test_entries.field-0.0 c.from_residual.ensures.1
    (c.in_err-test_entries.ensures.named c.args.next)

pub returns-then-get_highest_seqno-next-clause-named :
    goal.returns-then-get_highest_seqno-next-clause-named
returns-then-get_highest_seqno-next-clause-named g c =
    let found = c.in_ok-test_entries.ensures.sound in
    let said = (c.tells_its_list.ensures.facts found.0 found.1).seqno_max in
    let is = c.get_highest_seqno.ensures in
    let unlifted = c.requires.unlifted in
    let past = c.if-get_highest_seqno-next.true in (
      refl,
      refl,
      (
        record { list = found.0; stores = found.1; some = found.2 },
        omega (arith, said, is, unlifted, past),
      ),
    )

pub returns-then-weak_tombstone_count-gt0-clause-named :
    goal.returns-then-weak_tombstone_count-gt0-clause-named
returns-then-weak_tombstone_count-gt0-clause-named g c =
    let found = c.in_ok-test_entries.ensures.sound in
    let said = c.tells_its_list.ensures.facts found.0 found.1 in
    let highest = said.seqno_max in
    let weak = said.weak_tombstone_count in
    let high_is = c.get_highest_seqno.ensures in
    let weak_is = c.weak_tombstone_count.ensures in
    let unlifted = c.requires.unlifted in
    let below = c.if-get_highest_seqno-next.false in
    let past = c.if-weak_tombstone_count-gt0.true in (
      refl,
      refl,
      (
        record { list = found.0; stores = found.1; some = found.2 },
        omega (arith, highest, high_is, unlifted, below),
        omega (arith, weak, weak_is, past),
      ),
    )
