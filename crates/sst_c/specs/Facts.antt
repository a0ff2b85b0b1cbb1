-- Table info as reported to C.
use Rattle.lsm_readers.specs.point.Table.{OpenTable}
use Rattle.sst_c.specs.declared.facts.TableFacts.{TableFacts}

-- the facts in a table's meta block, and its global sequence number
abbrev pub table_facts : OpenTable → TableFacts
table_facts t = record {
  id = t.parts.facts.id;
  version = t.parts.facts.table_version;
  global_seqno = t.global_seqno;
  lowest_seqno = t.parts.facts.seqno_min;
  highest_seqno = t.parts.facts.seqno_max;
  item_count = t.parts.facts.item_count;
  tombstone_count = t.parts.facts.tombstone_count;
  weak_tombstone_count = t.parts.facts.weak_tombstone_count;
  data_block_count = t.parts.facts.data_block_count;
  index_block_count = t.parts.facts.index_block_count;
  data_size = t.parts.facts.file_size;
}
