use Rattle.sst_blocks.specs.Sections.{body_of}
use Rattle.lsm_readers.specs.point.Batch.{AreFound, query_result}
use Rattle.lsm_readers.specs.point.Table.{parts_of}
use Rattle.lsm_readers.proofs.batch.read_lookups.Given as goal

abbrev pub invariant-loop-index : goal.invariant-loop-index
invariant-loop-index g l = record {
  over : g.F.Finder.is_over l.finder l.blocks;
  are_found : AreFound (g.F.Finder.entry l.blocks) (g.F.Finder.is_within l.blocks)
      (query_result (body_of l.blocks) l.inner.global_seqno (parts_of l.inner)) l.queries
      l.batch.found.items l.batch.done.items;
}
