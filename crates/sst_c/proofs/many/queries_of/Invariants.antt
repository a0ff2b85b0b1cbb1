use Rattle.std.proofs.Common.{◌≡◌, ◌+◌, ◌++◌, length}
use Rattle.std.specs.Prelude.{drop, map}
use Rattle.std.specs.List.{sum}
use Rattle.sst_c.specs.Many.{keys_cut, queries_for, query_at}
use Rattle.sst_c.proofs.many.queries_of.Given as goal

abbrev pub invariant-loop-len : goal.invariant-loop-len
invariant-loop-len l =
    (l.at + sum (drop l.len-index l.lens) ≡ length l.keys)
    × (l.queries.items ++ map (query_at l.seqno) (keys_cut (drop l.len-index l.lens) (drop l.at l.keys))
    ≡ queries_for l.keys l.lens l.seqno)
