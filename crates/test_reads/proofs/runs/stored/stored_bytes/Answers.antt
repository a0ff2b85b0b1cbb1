use Rattle.std.specs.Prelude.{◌≡◌}
use Rattle.std.proofs.lemmas.Result.{IfOk-weaker}
use Rattle.sst_entries.specs.Strict.{last_of}
use Rattle.sst_blocks.specs.Fnv.{fnv_from}
use Rattle.sst_blocks.specs.Number.{le2, le4, le8, le16}
use Rattle.sst_blocks.specs.Handles.{handle_spelled, handles_payload}
use Rattle.sst_blocks.specs.Payload.{spelled, payload}
use Rattle.sst_blocks.specs.table.Facts.{count_after, lowest_seqno, highest_seqno}
use Rattle.sst_blocks.specs.table.Filters.{keys_after}
use Rattle.sst_blocks.specs.table.MetaBlock.{name_of}
use Rattle.sst_blocks.specs.table.Table.{IsTable}
use Rattle.test_reads.specs.Stored.{stored_entries}
use Rattle.test_reads.proofs.StoredTable.{stored_file, stored_table}
use Rattle.test_reads.proofs.runs.stored.stored_bytes.Goals as goal

-- the bytes are those of the file, byte for byte
pub returns : goal.returns
unfolding fnv_from le2 le4 le8 le16 handle_spelled handles_payload spelled payload count_after lowest_seqno highest_seqno keys_after name_of last_of
returns c = IfOk-weaker c.from.result (λ s. s ≡ stored_file) (λ s. IsTable s stored_entries) stored_table c.from.ensures.ok
