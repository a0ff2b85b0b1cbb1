use Rattle.std.proofs.Common.{refl, ◌∙◌, ap}
use Rattle.std.proofs.lemmas.Result.{err_from_is_err_and}
use Rattle.std.specs.Prelude.{Some, Ok, Err}
use Rattle.lsm_sorted.specs.Ahead.{HoldsAhead}
use Rattle.lsm_sorted.specs.declared.compaction.Rules.{Rules}
use Rattle.lsm_sorted.specs.Compaction.{goes}
use Rattle.lsm_sorted.proofs.SettleLemmas.{drains_as}
use Rattle.lsm_sorted.proofs.CompactionHears.{hears_drained_as}
use Rattle.lsm_sorted.proofs.compaction.stream.CompactionStream.drain_hidden.Goals as goal

pub returns-clause-goes : goal.returns-clause-goes
returns-clause-goes g c = c.goes_before.ensures ∙ ap (λ (r : Rules). goes r.evict c.args.head.now.kind (Some c.args.next.now)) c.in_ok-drain_key.ensures.rules

pub returns-clause-drains : goal.returns-clause-drains
returns-clause-drains g c stops =
    (c.on_dropped.new.self, c.on_dropped.ensures, drains_as stops (HoldsAhead stops g.I.Iterator.next_gives) g.C.DroppedKvCallback.gets _ _ _ _ _ (Ok c.in_ok-drain_key.field-0) (Ok c.goes_before.result) refl refl (c.in_ok-drain_key.ensures.drains stops))

pub returns-in_err-drain_key-clause-drains : goal.returns-in_err-drain_key-clause-drains
returns-in_err-drain_key-clause-drains g c stops =
    let p = err_from_is_err_and c.from_residual.result c.from_residual.ensures.1 in
    let e = c.in_err-drain_key.field-0.0 in
    (c.on_dropped.new.self, c.on_dropped.ensures, rw (p.1, p.2) (drains_as stops (HoldsAhead stops g.I.Iterator.next_gives) g.C.DroppedKvCallback.gets _ _ _ _ _ (Err e) (Err e) refl refl (c.in_err-drain_key.ensures.drains stops)))

pub returns-clause-hears : goal.returns-clause-hears
returns-clause-hears g c =
    (c.on_dropped.new.self, c.on_dropped.ensures, hears_drained_as g.I.Iterator.next_gives g.C.DroppedKvCallback.gets _ _ _ _ _ (Ok c.in_ok-drain_key.field-0) (Ok c.goes_before.result) refl refl c.in_ok-drain_key.ensures.hears)

pub returns-in_err-drain_key-clause-hears : goal.returns-in_err-drain_key-clause-hears
returns-in_err-drain_key-clause-hears g c =
    let p = err_from_is_err_and c.from_residual.result c.from_residual.ensures.1 in
    let e = c.in_err-drain_key.field-0.0 in
    (c.on_dropped.new.self, c.on_dropped.ensures, rw (p.1, p.2) (hears_drained_as g.I.Iterator.next_gives g.C.DroppedKvCallback.gets _ _ _ _ _ (Err e) (Err e) refl refl c.in_err-drain_key.ensures.hears))
