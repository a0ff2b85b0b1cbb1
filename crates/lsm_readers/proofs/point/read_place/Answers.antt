use Rattle.std.proofs.Common.{Option, refl}
use Rattle.std.specs.Option.{option_map}
use Rattle.sst_blocks.specs.Access.{in_memory}
use Rattle.sst_blocks.specs.Asked.{result_map}
use Rattle.sst_blocks.specs.EntryPlace.{entry_placed}
use Rattle.sst_entries.specs.Entry.{Entry}
use Rattle.sst_blocks.specs.Sections.{body_of}
use Rattle.lsm_readers.specs.point.Table.{parts_of}
use Rattle.lsm_readers.proofs.Points.{answer_at, answer_fails, answer_none, handle_begun}
use Rattle.lsm_readers.proofs.ReadLaws.{refusal}
use Rattle.lsm_readers.proofs.point.read_place.Goals as goal

pub returns-in-Some-clause-read : goal.returns-in-Some-clause-read
returns-in-Some-clause-read g c =
    let bytes = c.args.source.now in
    let parts = parts_of c.args.inner.now in
    let found = result_map (option_map (entry_placed bytes)) c.place_at-found.result in
    let begun = handle_begun bytes c.new-counted.result.0 parts c.args.key.now c.saturating_sub-low.result c.admitted_handle-admitted.result _ _ _ _ c.new-counted.ensures.source c.new-counted.ensures.none c.opened-opened.ensures c.in-Ok.is (c.admitted_handle-admitted.ensures.read tt) in
    let there = rw c.in-Some.is at begun in
    answer_at in_memory (body_of bytes) c.args.inner.now.global_seqno parts c.args.key.now c.args.seqno c.saturating_sub-low.result c.saturating_sub-low.ensures found c.in-Some.handle (body_of bytes) _ _ _ there refl c.place_at-found.ensures.read

pub returns-in-None-clause-read : goal.returns-in-None-clause-read
returns-in-None-clause-read g c =
    let bytes = c.args.source.now in
    let parts = parts_of c.args.inner.now in
    let begun = handle_begun bytes c.new-counted.result.0 parts c.args.key.now c.saturating_sub-low.result c.admitted_handle-admitted.result _ _ _ _ c.new-counted.ensures.source c.new-counted.ensures.none c.opened-opened.ensures c.in-Ok.is (c.admitted_handle-admitted.ensures.read tt) in
    let none = rw c.in-None.is at begun in
    answer_none in_memory (body_of bytes) c.args.inner.now.global_seqno parts c.args.key.now c.args.seqno c.saturating_sub-low.result c.saturating_sub-low.ensures _ _ none

pub returns-in-Err-clause-read : goal.returns-in-Err-clause-read
returns-in-Err-clause-read g c =
    let bytes = c.args.source.now in
    let parts = parts_of c.args.inner.now in
    let begun = handle_begun bytes c.new-counted.result.0 parts c.args.key.now c.saturating_sub-low.result c.admitted_handle-admitted.result _ _ _ _ c.new-counted.ensures.source c.new-counted.ensures.none c.opened-opened.ensures c.in-Err.is (c.admitted_handle-admitted.ensures.read tt) in
    answer_fails in_memory (body_of bytes) c.args.inner.now.global_seqno parts c.args.key.now c.args.seqno c.saturating_sub-low.result c.saturating_sub-low.ensures (refusal (Option Entry) c.in-Err.error) c.in-Err.error _ _ begun refl
