use Rattle.std.proofs.Common.{◌≡◌, take}
use Rattle.std.specs.Prelude.{Ok}
use Rattle.sst_blocks.specs.Access.{IsKnown}
use Rattle.lsm_readers.specs.point.Batch.{query_result}
use Rattle.lsm_readers.specs.point.Many.{answers_to}
use Rattle.lsm_readers.specs.point.Table.{parts_of}
use Rattle.lsm_files.proofs.many.read_each.Given as goal

abbrev pub invariant-loop-query : goal.invariant-loop-query
invariant-loop-query g l =
    let body = g.S.LoadBlocks.body l.initial.source in
    let returned = query_result body l.inner.global_seqno (parts_of l.inner) in
    record {
      same : g.S.LoadBlocks.body l.source ≡ body;
      found : IsKnown g.S.LoadBlocks.access
          → answers_to returned (take l.query-index l.queries) ≡ Ok l.found.items;
    }
