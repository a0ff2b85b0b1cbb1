use Rattle.std.proofs.Common.{◌≡◌, ap, true, false}
use Rattle.std.specs.Prelude.{◌&&◌}
use Rattle.lsm_tables.specs.Words.{Entry, is_from, is_to}
use Rattle.example_store.proofs.Shares.{none_within, one_within}
use Rattle.example_store.proofs.memtable.items_within.Goals as goal

pub loop-item-preserved : goal.loop-item-preserved
loop-item-preserved g c =
    let low = c.args.bounds.now.0 in
    let high = c.args.bounds.now.1 in
    let item = c.item-item.result in
    let answer = c.if-not-is_within.false in
    let given = c.is_within.ensures in
    let key = c.as_slice.ensures in
    let view = ap (λ (e : Entry). e.user_key) c.item.view_is in
    let inside : (is_from low item.user_key && is_to high item.user_key) ≡ true = cc in
    rw (c.in_ok-push.ensures.items, c.in_ok-clone-2.ensures.cases)
    (one_within low high c.args.items.now c.loop-item.item-index item c.loop-item-test.true c.item-item.is c.loop-item.found.items c.loop-item.invariant inside)

pub loop-item-preserved-then-not-is_within : goal.loop-item-preserved-then-not-is_within
loop-item-preserved-then-not-is_within g c =
    let low = c.args.bounds.now.0 in
    let high = c.args.bounds.now.1 in
    let item = c.item-item.result in
    let answer = c.if-not-is_within.true in
    let given = c.is_within.ensures in
    let key = c.as_slice.ensures in
    let view = ap (λ (e : Entry). e.user_key) c.item.view_is in
    let outside : (is_from low item.user_key && is_to high item.user_key) ≡ false = cc in
    none_within low high c.args.items.now c.loop-item.item-index item c.loop-item-test.true c.item-item.is c.loop-item.found.items c.loop-item.invariant outside
