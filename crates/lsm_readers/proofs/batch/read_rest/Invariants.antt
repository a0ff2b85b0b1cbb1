use Rattle.std.proofs.Common.{◌≡◌, take}
use Rattle.std.specs.Prelude.{Ok}
use Rattle.sst_blocks.specs.Sections.{body_of}
use Rattle.lsm_readers.specs.point.Batch.{AreFound, entries_by, query_result}
use Rattle.lsm_readers.specs.point.Many.{answers_to}
use Rattle.lsm_readers.specs.point.Table.{parts_of}
use Rattle.lsm_readers.proofs.batch.read_rest.Given as goal

abbrev pub invariant-loop-at : goal.invariant-loop-at
invariant-loop-at g l =
    let entry = g.F.Finder.entry l.blocks in
    let returned = query_result (body_of l.blocks) l.inner.global_seqno (parts_of l.inner) in
    record {
      over : g.F.Finder.is_over l.finder l.blocks;
      are_found : AreFound entry (g.F.Finder.is_within l.blocks) returned l.queries l.found.items
          l.done.items;
      so_far : answers_to returned (take l.at l.queries)
          ≡ Ok (entries_by entry (take l.at l.found.items));
    }
