use Rattle.std.proofs.Common.{List, ℕ, sym, subst}
use Rattle.std.specs.Prelude.{Option, Some, None, Result}
use Rattle.std.specs.Option.{option_map}
use Rattle.sst_entries.specs.declared.error.Error.{Error}
use Rattle.sst_entries.specs.Entry.{Entry}
use Rattle.sst_entries.specs.Error.{Gives}
use Rattle.sst_blocks.specs.Sections.{body_of}
use Rattle.lsm_readers.specs.point.Answer.{match_at}
use Rattle.lsm_readers.specs.point.Table.{parts_of}
use Rattle.lsm_readers.proofs.BatchReads.{lookup_result}
use Rattle.lsm_readers.proofs.batch.read_lookup.Goals as goal

pub returns-in-Some-clause-returned : goal.returns-in-Some-clause-returned
returns-in-Some-clause-returned g c =
    let bytes = c.args.blocks.now in
    let body = body_of bytes in
    let inner = c.args.inner.now in
    let query = c.args.query.now in
    let low = c.saturating_sub-low.result in
    let view = option_map (g.F.Finder.entry bytes) in
    let found = subst (λ (key : List ℕ). Gives view c.find_in.result (match_at body inner.global_seqno key low c.in-Some.handle).returned) c.as_slice.ensures c.find_in.ensures.returned in
    let returned = lookup_result body inner.global_seqno (parts_of inner) query.key query.seqno low (Some c.in-Some.handle) c.saturating_sub-low.ensures (rw c.in-Some.is at c.requires.handle) in
    subst (λ (returned : Result (Option Entry) Error). Gives view c.find_in.result returned) (sym returned) found

pub returns-in-None-clause-returned : goal.returns-in-None-clause-returned
returns-in-None-clause-returned g c =
    let inner = c.args.inner.now in
    let query = c.args.query.now in
    lookup_result (body_of c.args.blocks.now) inner.global_seqno (parts_of inner) query.key query.seqno c.saturating_sub-low.result None c.saturating_sub-low.ensures (rw c.in-None.is at c.requires.handle)
