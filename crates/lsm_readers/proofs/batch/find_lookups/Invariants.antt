use Rattle.std.proofs.Common.{◌≡◌}
use Rattle.std.specs.List.{All}
use Rattle.lsm_readers.specs.point.Batch.{IsLookup}
use Rattle.lsm_readers.specs.point.Table.{parts_of}
use Rattle.lsm_readers.proofs.batch.find_lookups.Given as goal

abbrev pub invariant-loop-headed : goal.invariant-loop-headed
invariant-loop-headed g l =
    let bytes = g.S.LoadBlocks.body l.initial.source in
    record {
      same : g.S.LoadBlocks.body l.source ≡ bytes;
      lookups : All (IsLookup bytes l.inner.global_seqno (parts_of l.inner) l.queries)
          l.lookups.items;
    }
