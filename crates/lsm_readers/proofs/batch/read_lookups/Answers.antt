use Rattle.std.proofs.Common.{rules, set, subst, sym}
use Rattle.sst_blocks.specs.Sections.{body_of}
use Rattle.lsm_readers.specs.point.Batch.{AreFound, IsLookup, query_result}
use Rattle.lsm_readers.specs.point.Table.{parts_of}
use Rattle.lsm_readers.proofs.BatchReads.{found_done}
use Rattle.lsm_readers.proofs.batch.read_lookups.Goals as goal

pub loop-index-preserved : goal.loop-index-preserved
loop-index-preserved g c =
    let bytes = c.args.blocks.now in
    let inner = c.args.inner.now in
    let queries = c.args.queries.now in
    let entry = g.F.Finder.entry bytes in
    let is_within = g.F.Finder.is_within bytes in
    let returned = query_result (body_of bytes) inner.global_seqno (parts_of inner) in
    let before = c.loop-index.batch.found.items in
    let done = c.loop-index.batch.done.items in
    let lookup = c.index-lookups-index.result in
    let found = c.in-Ok.found in
    let one = subst (IsLookup (body_of bytes) inner.global_seqno (parts_of inner) queries) (sym c.index-lookups-index.is) (c.requires.lookups c.loop-index.index lookup c.loop-index-test.true) in
    let more = found_done entry is_within returned queries before done c.loop-index.invariant.are_found lookup.at c.index-queries-lookup.result one.within c.index-queries-lookup.is found c.in-Ok.ensures.returned c.in-Ok.ensures.within in
    record {
      over = search rules;
      are_found = subst (λ xs. AreFound entry is_within returned queries xs c.put-in-loop-index.new.items.items) (sym c.put.ensures)
          (subst (λ ds. AreFound entry is_within returned queries (set before lookup.at found) ds) (sym c.put-in-loop-index.ensures) more);
    }
