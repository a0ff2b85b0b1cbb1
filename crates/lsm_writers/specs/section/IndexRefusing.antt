-- The faults of index writers.
use Rattle.std.specs.Prelude.{ℕ, ◌+◌, Bool, List, [], ◌∷◌, Option, None}
use Rattle.std.specs.Option.{option_or}
use Rattle.sst_entries.specs.declared.error.Error.{Error}
use Rattle.sst_blocks.specs.declared.version.TableVersion.TheVariants.{V4}
use Rattle.sst_blocks.specs.Bounds.{index_block_bound_of}
use Rattle.sst_blocks.specs.Encoding.{handles_fault}
use Rattle.sst_blocks.specs.Handle.{Handle}
use Rattle.sst_blocks.specs.table.Failed.{failed_fault, section_fault}
use Rattle.sst_blocks.specs.table.Parts.{parts_by}
use Rattle.sst_blocks.specs.table.Partitions.{index_tops, is_full_index}
use Rattle.sst_blocks.specs.declared.table.options.IndexKind.{IndexKind}
use Rattle.sst_blocks.specs.declared.table.options.IndexKind.TheVariants.{Full, Partitioned}

-- the first fault of writing a part after blocks of a total bound: its own block, then the section
-- so far
abbrev pub part_fault : ℕ → List Handle → Option Error
part_fault before part =
    option_or (handles_fault part) (section_fault (before + index_block_bound_of part))

-- the first fault of writing these parts in turn, after blocks of a total bound
unfoldable pub parts_fault : ℕ → List (List Handle) → Option Error
parts_fault before [] = None
parts_fault before (p ∷ ps) =
    option_or (part_fault before p) (parts_fault (before + index_block_bound_of p) ps)

-- the first fault of an index: its one block, or its partitions and then the top level. It does not
-- depend on the offset of the partitions
abbrev pub kind_fault : IndexKind → List Handle → Option Error
kind_fault Full hs = handles_fault hs
kind_fault (Partitioned size) hs =
    let parts = parts_by (is_full_index size) hs in
    option_or (parts_fault 0 parts) (handles_fault (index_tops V4 0 parts))

-- the first fault of finishing: `WriterFailed`, then that of the index
abbrev pub index_fault : IndexKind → Bool → List Handle → Option Error
index_fault kind failed hs = option_or (failed_fault failed) (kind_fault kind hs)
