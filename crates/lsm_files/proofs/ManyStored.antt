-- Many reads of bytes that store a list, in a table in its file.
use Rattle.std.proofs.Common.{◌≡◌, List}
use Rattle.std.specs.Prelude.{Ok, map}
use Rattle.sst_entries.specs.Entry.{Entry}
use Rattle.sst_entries.specs.Point.{point}
use Rattle.lsm_readers.specs.declared.many.Query.{Query}
use Rattle.lsm_readers.specs.point.Answer.{lift}
use Rattle.lsm_readers.specs.point.Many.{found_result, many_results}
use Rattle.lsm_readers.specs.point.Table.{IsRecovered, OpenTable}
use Rattle.lsm_readers.specs.Stored.{StoresList}
use Rattle.lsm_readers.proofs.ManyReads.{all_answered}
use Rattle.lsm_readers.proofs.StoredParts.{stored_answers}

pub many_stored : {A : Type 0} (t : OpenTable) (held : IsRecovered t) (es : List Entry)
    → StoresList t.bytes es → (queries : List (Query A))
    → many_results t queries ≡ Ok (map (λ q. point (lift es t.global_seqno) q.key q.seqno) queries)
many_stored {A} t held es is queries =
    all_answered (found_result t) (λ (q : Query A). point (lift es t.global_seqno) q.key q.seqno)
    (λ q. stored_answers t.bytes es is t.global_seqno held.pin_filter held.pin_index t.parts
    held.returned q.key q.seqno)
    queries
