-- A list that is written, opened and read.
use Rattle.std.specs.Prelude.{◌≡◌, ℕ, Bool, true, false, not, ◌||◌, ◌==◌, ◌+◌, ◌-◌, ◌^◌, nat_lt}
use Rattle.std.specs.Prelude.{List, [], ◌∷◌, Option, Some, None, if◌then◌else◌}
use Rattle.sst_blocks.specs.declared.version.TableVersion.TheVariants.{V4}
use Rattle.sst_entries.specs.declared.error.Error.{Error}
use Rattle.sst_entries.specs.declared.error.Error.TheVariants.{GlobalSeqNoTooLarge, OutOfMemory}
use Rattle.sst_entries.specs.declared.error.Error.TheVariants.{UnsupportedIndexInterval}
use Rattle.sst_entries.specs.Entry.{Entry}
use Rattle.sst_blocks.specs.Fnv.{fnv1a}
use Rattle.sst_entries.specs.Point.{point}
use Rattle.sst_entries.specs.Stream.{YieldsExactly, ok_results, nowhere, answer_stops}
use Rattle.std.specs.Option.{option_or}
use Rattle.sst_blocks.specs.table.Facts.{highest_seqno}
use Rattle.sst_blocks.specs.declared.table.label.Label.{Label}
use Rattle.sst_blocks.specs.declared.table.options.Options.{Options}
use Rattle.sst_blocks.specs.table.Options.{default_options}
use Rattle.sst_blocks.specs.table.Table.{IsTable}
use Rattle.lsm_writers.specs.Writing.{list_fault}
use Rattle.sst_blocks.specs.Block.{load_at_result}
use Rattle.sst_blocks.specs.declared.block_type.BlockType.TheVariants.{Data}
use Rattle.sst_blocks.specs.Sections.{body_of}
use Rattle.lsm_readers.specs.point.Answer.{lift, table_answer}
use Rattle.lsm_readers.specs.OfList.{parts_said}
use Rattle.lsm_readers.specs.Scan.{Scan, ScansNext, fault_of}
use Rattle.lsm_readers.specs.point.Table.{OpenTable}

-- the error if the highest seqno plus the global one passes u64
abbrev pub number_fault : List Entry → ℕ → Option Error
number_fault es g =
    if nat_lt (2 ^ 64 - 1) (highest_seqno es + g) then Some GlobalSeqNoTooLarge else None

-- a list has an entry
abbrev pub is_nonempty : List Entry → Bool
is_nonempty [] = false
is_nonempty (e ∷ es) = true

-- the error if the index of a list that has an entry has a restart interval other than 1
abbrev pub interval_fault : Options → List Entry → Option Error
interval_fault options es =
    if options.index_block_restart_interval == 1 || not (is_nonempty es) then None
    else Some UnsupportedIndexInterval

-- the error of opening the tables of a list that were written with these options
abbrev pub opens_fault : Options → List Entry → ℕ → Option Error
opens_fault options es g = option_or (interval_fault options es) (number_fault es g)

-- the error of writing a list as a table and opening it
abbrev pub opening_fault : Label → List Entry → ℕ → Option Error
opening_fault label es g = option_or (list_fault label es) (number_fault es g)

-- an opened table of a list: of the written version and tree 0, with the checksum of its bytes, no
-- block spilled before it was full, filter and index pinned
pub record IsOpened (label : Label) (es : List Entry) (g : ℕ) (t : OpenTable) : Type 0 where
  pub some : es ≡ [] → ⊥
  pub table : IsTable t.bytes es
  pub label_is : table.label ≡ label
  pub options_are : table.options ≡ default_options
  pub version_is : table.version ≡ V4
  pub spills_are : table.spills ≡ []
  pub number_is : t.global_seqno ≡ g
  pub tree_is : t.tree_id ≡ 0
  pub checksum_is : t.checksum ≡ fnv1a t.bytes
  pub parts_are : t.parts ≡ parts_said table true true

-- the error of a point read of a table, or else of a scan after it
abbrev pub reads_fault : OpenTable → List ℕ → ℕ → Option Error
reads_fault t key bound =
    option_or (fault_of (table_answer t key bound).returned)
    (fault_of (load_at_result (body_of t.bytes) 0 Data))

-- the results of reading a list: the first match of a key, and a scan of all, the global seqno
-- applied
pub record ReadsList (es : List Entry) (g : ℕ) (key : List ℕ) (bound : ℕ)
    (found : Option Entry) (s : Scan) : Type 0 where
  pub point_is : found ≡ point (lift es g) key bound
  pub scan_is : (stops : Error → Bool) → stops OutOfMemory ≡ true →
      YieldsExactly (answer_stops stops) ScansNext nowhere s (ok_results (lift es g))
