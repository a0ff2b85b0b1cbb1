use Rattle.lsm_readers.specs.point.Table.{parts_of}
use Rattle.lsm_readers.proofs.FewLoads.{answer_few}
use Rattle.lsm_readers.proofs.Points.{answer_at, answer_fails, answer_none}
use Rattle.lsm_readers.proofs.ReadLaws.{memory_known}
use Rattle.lsm_readers.proofs.point.point_in.Goals as goal

pub returns-in_err-handle-clause-returned : goal.returns-in_err-handle-clause-returned
returns-in_err-handle-clause-returned g c known =
    let inner = c.args.inner.now in
    let does = answer_fails g.S.LoadBlocks.access (g.S.LoadBlocks.body c.args.source.now) inner.global_seqno (parts_of inner) c.args.key.now c.args.seqno c.saturating_sub-low.result c.saturating_sub-low.ensures c.from_residual.result
    c.in_err-handle.field-0.0 _ _ (c.in_err-handle.ensures.read known) c.from_residual.ensures.1 in
    does.returned

pub returns-in_err-handle-clause-early : goal.returns-in_err-handle-clause-early
returns-in_err-handle-clause-early g c at =
    let known = memory_known g.S.LoadBlocks.access at in
    let inner = c.args.inner.now in
    let does = answer_fails g.S.LoadBlocks.access (g.S.LoadBlocks.body c.args.source.now) inner.global_seqno (parts_of inner) c.args.key.now c.args.seqno c.saturating_sub-low.result c.saturating_sub-low.ensures c.from_residual.result
    c.in_err-handle.field-0.0 _ _ (c.in_err-handle.ensures.read known) c.from_residual.ensures.1 in
    does.early at

pub returns-in_err-handle-clause-calm : goal.returns-in_err-handle-clause-calm
returns-in_err-handle-clause-calm g c known =
    let inner = c.args.inner.now in
    let does = answer_fails g.S.LoadBlocks.access (g.S.LoadBlocks.body c.args.source.now) inner.global_seqno (parts_of inner) c.args.key.now c.args.seqno c.saturating_sub-low.result c.saturating_sub-low.ensures c.from_residual.result
    c.in_err-handle.field-0.0 _ _ (c.in_err-handle.ensures.read known) c.from_residual.ensures.1 in
    does.calm

pub returns-in_err-handle-clause-opened : goal.returns-in_err-handle-clause-opened
returns-in_err-handle-clause-opened g c known =
    let inner = c.args.inner.now in
    let does = answer_fails g.S.LoadBlocks.access (g.S.LoadBlocks.body c.args.source.now) inner.global_seqno (parts_of inner) c.args.key.now c.args.seqno c.saturating_sub-low.result c.saturating_sub-low.ensures c.from_residual.result
    c.in_err-handle.field-0.0 _ _ (c.in_err-handle.ensures.read known) c.from_residual.ensures.1 in
    does.opens

pub returns-in-Some-clause-returned : goal.returns-in-Some-clause-returned
returns-in-Some-clause-returned g c known =
    let inner = c.args.inner.now in
    let found = rw c.in-Some.is at (c.in_ok-handle.ensures.read known) in
    let does = answer_at g.S.LoadBlocks.access (g.S.LoadBlocks.body c.args.source.now) inner.global_seqno (parts_of inner) c.args.key.now c.args.seqno c.saturating_sub-low.result c.saturating_sub-low.ensures c.read_in.result
    c.in-Some.handle _ _ _ _ found c.admitted_handle.ensures.body (c.read_in.ensures.read known) in
    does.returned

pub returns-in-Some-clause-early : goal.returns-in-Some-clause-early
returns-in-Some-clause-early g c at =
    let known = memory_known g.S.LoadBlocks.access at in
    let inner = c.args.inner.now in
    let found = rw c.in-Some.is at (c.in_ok-handle.ensures.read known) in
    let does = answer_at g.S.LoadBlocks.access (g.S.LoadBlocks.body c.args.source.now) inner.global_seqno (parts_of inner) c.args.key.now c.args.seqno c.saturating_sub-low.result c.saturating_sub-low.ensures c.read_in.result
    c.in-Some.handle _ _ _ _ found c.admitted_handle.ensures.body (c.read_in.ensures.read known) in
    does.early at

pub returns-in-Some-clause-calm : goal.returns-in-Some-clause-calm
returns-in-Some-clause-calm g c known =
    let inner = c.args.inner.now in
    let found = rw c.in-Some.is at (c.in_ok-handle.ensures.read known) in
    let does = answer_at g.S.LoadBlocks.access (g.S.LoadBlocks.body c.args.source.now) inner.global_seqno (parts_of inner) c.args.key.now c.args.seqno c.saturating_sub-low.result c.saturating_sub-low.ensures c.read_in.result
    c.in-Some.handle _ _ _ _ found c.admitted_handle.ensures.body (c.read_in.ensures.read known) in
    does.calm

pub returns-in-Some-clause-opened : goal.returns-in-Some-clause-opened
returns-in-Some-clause-opened g c known =
    let inner = c.args.inner.now in
    let found = rw c.in-Some.is at (c.in_ok-handle.ensures.read known) in
    let does = answer_at g.S.LoadBlocks.access (g.S.LoadBlocks.body c.args.source.now) inner.global_seqno (parts_of inner) c.args.key.now c.args.seqno c.saturating_sub-low.result c.saturating_sub-low.ensures c.read_in.result
    c.in-Some.handle _ _ _ _ found c.admitted_handle.ensures.body (c.read_in.ensures.read known) in
    does.opens

pub returns-in-None-clause-returned : goal.returns-in-None-clause-returned
returns-in-None-clause-returned g c known =
    let inner = c.args.inner.now in
    let found = rw c.in-None.is at (c.in_ok-handle.ensures.read known) in
    let does = answer_none g.S.LoadBlocks.access (g.S.LoadBlocks.body c.args.source.now) inner.global_seqno (parts_of inner) c.args.key.now c.args.seqno c.saturating_sub-low.result c.saturating_sub-low.ensures _ _ found in
    does.returned

pub returns-in-None-clause-early : goal.returns-in-None-clause-early
returns-in-None-clause-early g c at =
    let known = memory_known g.S.LoadBlocks.access at in
    let inner = c.args.inner.now in
    let found = rw c.in-None.is at (c.in_ok-handle.ensures.read known) in
    let does = answer_none g.S.LoadBlocks.access (g.S.LoadBlocks.body c.args.source.now) inner.global_seqno (parts_of inner) c.args.key.now c.args.seqno c.saturating_sub-low.result c.saturating_sub-low.ensures _ _ found in
    does.early at

pub returns-in-None-clause-calm : goal.returns-in-None-clause-calm
returns-in-None-clause-calm g c known =
    let inner = c.args.inner.now in
    let found = rw c.in-None.is at (c.in_ok-handle.ensures.read known) in
    let does = answer_none g.S.LoadBlocks.access (g.S.LoadBlocks.body c.args.source.now) inner.global_seqno (parts_of inner) c.args.key.now c.args.seqno c.saturating_sub-low.result c.saturating_sub-low.ensures _ _ found in
    does.calm

pub returns-in-None-clause-opened : goal.returns-in-None-clause-opened
returns-in-None-clause-opened g c known =
    let inner = c.args.inner.now in
    let found = rw c.in-None.is at (c.in_ok-handle.ensures.read known) in
    let does = answer_none g.S.LoadBlocks.access (g.S.LoadBlocks.body c.args.source.now) inner.global_seqno (parts_of inner) c.args.key.now c.args.seqno c.saturating_sub-low.result c.saturating_sub-low.ensures _ _ found in
    does.opens

pub returns-in_err-handle-clause-few : goal.returns-in_err-handle-clause-few
returns-in_err-handle-clause-few g c known =
    let inner = c.args.inner.now in
    let does = answer_fails g.S.LoadBlocks.access (g.S.LoadBlocks.body c.args.source.now) inner.global_seqno (parts_of inner) c.args.key.now c.args.seqno c.saturating_sub-low.result c.saturating_sub-low.ensures c.from_residual.result
    c.in_err-handle.field-0.0 _ _ (c.in_err-handle.ensures.read known) c.from_residual.ensures.1 in
    answer_few _ (g.S.LoadBlocks.body c.args.source.now) inner.global_seqno (parts_of inner) c.args.key.now c.args.seqno _ _ does.opens

pub returns-in-Some-clause-few : goal.returns-in-Some-clause-few
returns-in-Some-clause-few g c known =
    let inner = c.args.inner.now in
    let found = rw c.in-Some.is at (c.in_ok-handle.ensures.read known) in
    let does = answer_at g.S.LoadBlocks.access (g.S.LoadBlocks.body c.args.source.now) inner.global_seqno (parts_of inner) c.args.key.now c.args.seqno c.saturating_sub-low.result c.saturating_sub-low.ensures c.read_in.result
    c.in-Some.handle _ _ _ _ found c.admitted_handle.ensures.body (c.read_in.ensures.read known) in
    answer_few _ (g.S.LoadBlocks.body c.args.source.now) inner.global_seqno (parts_of inner) c.args.key.now c.args.seqno _ _ does.opens

pub returns-in-None-clause-few : goal.returns-in-None-clause-few
returns-in-None-clause-few g c known =
    let inner = c.args.inner.now in
    let found = rw c.in-None.is at (c.in_ok-handle.ensures.read known) in
    let does = answer_none g.S.LoadBlocks.access (g.S.LoadBlocks.body c.args.source.now) inner.global_seqno (parts_of inner) c.args.key.now c.args.seqno c.saturating_sub-low.result c.saturating_sub-low.ensures _ _ found in
    answer_few _ (g.S.LoadBlocks.body c.args.source.now) inner.global_seqno (parts_of inner) c.args.key.now c.args.seqno _ _ does.opens
