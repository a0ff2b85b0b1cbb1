-- The memory of a table as reported to C.
use Rattle.std.specs.Prelude.{◌≡◌, ◌+◌, ◌*◌, ◌/◌, ◌⊎◌, length}
use Rattle.lsm_readers.specs.point.IndexKinds.{index_len}
use Rattle.lsm_readers.specs.point.Parts.{filter_len}
use Rattle.lsm_readers.specs.point.Table.{OpenTable}
use Rattle.sst_c.specs.declared.memory.TableMemory.{TableMemory}

-- the lengths of the file and of the pinned index and filter, and the size of the verified-block
-- cache: 8 bytes for each full 2,048 of the file and 8 more, or 0
abbrev pub ReportsMemory : OpenTable → TableMemory → Type 0
ReportsMemory t m = (m.file_len ≡ length t.bytes)
    × (m.pinned_index_size ≡ index_len t.parts.pinned.index t.parts.regions.tli)
    × (m.pinned_filter_size ≡ filter_len t.parts.pinned.filter)
    × ((m.marks_size ≡ 0) ⊎ (m.marks_size ≡ 8 * (length t.bytes / 2048 + 1)))
