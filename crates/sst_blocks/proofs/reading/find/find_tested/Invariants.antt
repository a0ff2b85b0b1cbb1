use Rattle.std.proofs.Common.{Option, None}
use Rattle.sst_entries.specs.Entry.{Entry}
use Rattle.sst_entries.specs.Point.{read_place}
use Rattle.sst_entries.specs.Strict.{is_before}
use Rattle.sst_blocks.proofs.Searches.{Search}
use Rattle.sst_blocks.proofs.reading.find.find_tested.Given as goal

-- the read comes before none of the items that were walked over
abbrev pub invariant-loop : goal.invariant-loop
invariant-loop g l =
    let f = g.R.ItemRef.format l.version in
    (last : Option Entry) × Search f (λ x. is_before (read_place l.key l.seqno) (f.key x)) l.payload
    l.rest last l.counter None
