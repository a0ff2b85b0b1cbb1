use Rattle.std.proofs.Common.{◌≡◌, ap, subst, sym, ◌∙◌}
use Rattle.std.proofs.lemmas.Result.{IfOk-at_ok}
use Rattle.std.specs.Arc.{arc_value}
use Rattle.std.specs.Prelude.{Result}
use Rattle.sst_entries.specs.declared.error.Error.{Error}
use Rattle.sst_entries.specs.Error.{Gives}
use Rattle.sst_blocks.specs.declared.checksum.Checksum.{Checksum}
use Rattle.lsm_readers.specs.point.Parts.{Parts}
use Rattle.lsm_readers.specs.point.Table.{OpenTable, parts_of, table_of}
use Rattle.lsm_readers.proofs.FileParts.{table_result}
use Rattle.lsm_readers.proofs.StoredParts.{opens_by, stored_fits}
use Rattle.lsm_readers.proofs.Recovered.{first_from, is_open, opening_fails, opening_result}
use Rattle.lsm_readers.proofs.Recovered.{trailer_fine, trailer_first, trailer_none}
use Rattle.lsm_readers.proofs.Steps.{beside_early, beside_fails, beside_first, beside_gives}
use Rattle.lsm_readers.proofs.Steps.{beside_none, beside_second, passes_fault, shared_early}
use Rattle.lsm_readers.proofs.Steps.{shared_gives, shared_has}
use Rattle.lsm_readers.proofs.table.Table.recover.Goals as goal

pub returns-in_err-source-clause-returned : goal.returns-in_err-source-clause-returned
returns-in_err-source-clause-returned g c =
    passes_fault (λ (t : OpenTable). t.parts) c.from_residual.result _ c.in_err-source.field-0.0 c.from_residual.ensures.1
    (opening_fails c.args.bytes c.args.global_seqno c.args.pin_filter c.args.pin_index _ (λ _. c.in_err-source.ensures.refused))

pub returns-in_err-source-clause-early : goal.returns-in_err-source-clause-early
returns-in_err-source-clause-early g c = trailer_first c.from_residual.result c.args.bytes c.in_err-source.field-0.0 c.from_residual.ensures.1 c.in_err-source.ensures.refused

pub returns-in_err-source-2-clause-returned : goal.returns-in_err-source-2-clause-returned
returns-in_err-source-2-clause-returned g c =
    let made = c.recover_inner-inner in
    let call = c.share-shared in
    let e = c.in_err-source-2.field-0.0 in
    passes_fault (λ (t : OpenTable). t.parts) c.from_residual-in_err-source-2.result _ e c.from_residual-in_err-source-2.ensures.1
    (λ memory. opening_result c.args.bytes c.in_ok-source.source c.args.global_seqno c.args.pin_filter c.args.pin_index _ c.in_ok-source.ensures.refused c.in_ok-source.ensures.ok
    (beside_fails _ c.in_ok-source.source call.result _ e (shared_gives arc_value parts_of made.result call.result _ call.ensures.ok call.ensures.err made.ensures.returned) c.in_err-source-2.ensures.both memory))

pub returns-in_err-source-2-clause-early : goal.returns-in_err-source-2-clause-early
returns-in_err-source-2-clause-early g c =
    let made = c.recover_inner-inner in
    let call = c.share-shared in
    let e = c.in_err-source-2.field-0.0 in
    trailer_fine c.from_residual-in_err-source-2.result c.args.bytes c.in_ok-source.source c.in_ok-source.ensures.refused c.in_ok-source.ensures.ok
    (first_from c.from_residual-in_err-source-2.result e _ c.from_residual-in_err-source-2.ensures.1
    (beside_early c.in_ok-source.source call.result _ e (shared_early arc_value made.result call.result _ call.ensures.ok call.ensures.err made.ensures.early) c.in_err-source-2.ensures.both))

pub returns-clause-early : goal.returns-clause-early
returns-clause-early g c =
    let made = c.recover_inner-inner in
    let call = c.share-shared in
    trailer_none c.args.bytes c.in_ok-source.source c.in_ok-source.ensures.refused c.in_ok-source.ensures.ok
    (beside_none c.in_ok-source.source call.result _ c.in_ok-source-2.source c.in_ok-source-2.inner (shared_early arc_value made.result call.result _ call.ensures.ok call.ensures.err made.ensures.early) c.in_ok-source-2.ensures.both)

pub invariant_of-result : goal.invariant_of-result
invariant_of-result g c =
    let made = c.recover_inner-inner in
    let call = c.share-shared in
    let both = c.in_ok-source-2.ensures.both in
    let source = c.in_ok-source-2.source in
    let inner = c.in_ok-source-2.inner in
    is_open (table_of source (arc_value inner)) c.args.bytes c.args.global_seqno c.args.pin_filter c.args.pin_index
    (beside_first c.in_ok-source.source call.result source inner both ∙ c.in_ok-source.ensures.ok)
    (IfOk-at_ok _ (beside_second c.in_ok-source.source call.result source inner both) (shared_has arc_value _ made.result call.result call.ensures.ok made.ensures.number))
    c.in_ok-source.ensures.short
    (opening_result c.args.bytes c.in_ok-source.source c.args.global_seqno c.args.pin_filter c.args.pin_index _ c.in_ok-source.ensures.refused c.in_ok-source.ensures.ok
    (beside_gives _ c.in_ok-source.source call.result _ source inner (shared_gives arc_value parts_of made.result call.result _ call.ensures.ok call.ensures.err made.ensures.returned) both))

pub returns-clause-returned : goal.returns-clause-returned
returns-clause-returned g c =
    let made = c.recover_inner-inner in
    let call = c.share-shared in
    opening_result c.args.bytes c.in_ok-source.source c.args.global_seqno c.args.pin_filter c.args.pin_index _ c.in_ok-source.ensures.refused c.in_ok-source.ensures.ok
    (beside_gives _ c.in_ok-source.source call.result _ c.in_ok-source-2.source c.in_ok-source-2.inner (shared_gives arc_value parts_of made.result call.result _ call.ensures.ok call.ensures.err made.ensures.returned) c.in_ok-source-2.ensures.both)

by_list : {X : Type 0} (view : X → Parts) (r : Result X Error) (returned list : Result Parts Error) → Gives view r returned → returned ≡ list → Gives view r list
by_list view r returned list gives same = subst (λ (x : Result Parts Error). Gives view r x) same gives

pub returns-in_err-source-clause-list : goal.returns-in_err-source-clause-list
returns-in_err-source-clause-list g c es t one =
    by_list (λ (x : OpenTable). x.parts) c.from_residual.result _ _ (returns-in_err-source-clause-returned g c)
    (table_result c.args.bytes es t c.in_err-source.ensures.short c.args.global_seqno c.args.pin_filter c.args.pin_index one)

pub returns-in_err-source-2-clause-list : goal.returns-in_err-source-2-clause-list
returns-in_err-source-2-clause-list g c es t one =
    by_list (λ (x : OpenTable). x.parts) c.from_residual-in_err-source-2.result _ _ (returns-in_err-source-2-clause-returned g c)
    (table_result c.args.bytes es t c.in_ok-source.ensures.short c.args.global_seqno c.args.pin_filter c.args.pin_index one)

pub returns-clause-list : goal.returns-clause-list
returns-clause-list g c es t one =
    sym (table_result c.args.bytes es t c.in_ok-source.ensures.short c.args.global_seqno c.args.pin_filter c.args.pin_index one) ∙ returns-clause-returned g c

pub returns-in_err-source-clause-stores : goal.returns-in_err-source-clause-stores
returns-in_err-source-clause-stores g c es t =
    opens_by c.args.bytes es t (λ (x : OpenTable). x.parts) c.from_residual.result c.args.global_seqno c.args.pin_filter c.args.pin_index (returns-in_err-source-clause-returned g c)

pub returns-in_err-source-2-clause-stores : goal.returns-in_err-source-2-clause-stores
returns-in_err-source-2-clause-stores g c es t =
    opens_by c.args.bytes es t (λ (x : OpenTable). x.parts) c.from_residual-in_err-source-2.result c.args.global_seqno c.args.pin_filter c.args.pin_index (returns-in_err-source-2-clause-returned g c)

pub returns-clause-stores : goal.returns-clause-stores
returns-clause-stores g c es t = stored_fits c.args.bytes es t c.args.global_seqno c.args.pin_filter c.args.pin_index _ (returns-clause-returned g c)

pub returns-clause-number : goal.returns-clause-number
returns-clause-number g c =
    let made = c.recover_inner-inner in
    let call = c.share-shared in
    let source = c.in_ok-source-2.source in
    let inner = c.in_ok-source-2.inner in
    IfOk-at_ok _ (beside_second c.in_ok-source.source call.result source inner c.in_ok-source-2.ensures.both) (shared_has arc_value _ made.result call.result call.ensures.ok made.ensures.number)

pub returns-clause-tree : goal.returns-clause-tree
returns-clause-tree g c =
    let made = c.recover_inner-inner in
    let call = c.share-shared in
    let source = c.in_ok-source-2.source in
    let inner = c.in_ok-source-2.inner in
    IfOk-at_ok _ (beside_second c.in_ok-source.source call.result source inner c.in_ok-source-2.ensures.both) (shared_has arc_value _ made.result call.result call.ensures.ok made.ensures.tree)

pub returns-clause-checksum : goal.returns-clause-checksum
returns-clause-checksum g c =
    let made = c.recover_inner-inner in
    let call = c.share-shared in
    let source = c.in_ok-source-2.source in
    let inner = c.in_ok-source-2.inner in
    ap (λ (k : Checksum). k.0) (IfOk-at_ok _ (beside_second c.in_ok-source.source call.result source inner c.in_ok-source-2.ensures.both) (shared_has arc_value _ made.result call.result call.ensures.ok made.ensures.checksum))
