-- A point read over any bytes: the filter admits the key, the index finds its data block, which is
-- read.
use Rattle.std.specs.Prelude.{◌≡◌, ℕ, ◌+◌, ◌-◌, ◌^◌, ◌≤◌, nat_lt, Bool, true, false, List, Option}
use Rattle.std.specs.Prelude.{Some, None, if◌then◌else◌}
use Rattle.std.specs.Option.{option_map}
use Rattle.sst_blocks.specs.declared.block_type.BlockType.TheVariants.{Data, Filter}
use Rattle.sst_blocks.specs.declared.opened.Opened.{Opened}
use Rattle.sst_blocks.specs.Block.{entries_of}
use Rattle.sst_entries.specs.Entry.{Entry}
use Rattle.sst_blocks.specs.Handle.{Handle}
use Rattle.sst_blocks.specs.Place.{Place}
use Rattle.sst_entries.specs.Point.{point}
use Rattle.sst_blocks.specs.filter.Filter.{BloomFilter, admits, filter_in}
pub use Rattle.lsm_iters.specs.Lift.{lifted, lift}
use Rattle.lsm_readers.specs.point.IndexKinds.{handle_by, most_index_loads, place_in}
use Rattle.lsm_readers.specs.declared.inner.Inner.{Inner}
use Rattle.lsm_readers.specs.point.Parts.{Parts}
use Rattle.lsm_readers.specs.point.Table.{OpenTable, parts_of}
use Rattle.sst_blocks.specs.filter.KeyHash.{hash_of}
use Rattle.sst_blocks.specs.Sections.{body_of}
use Rattle.lsm_readers.specs.point.Read.{Read, known, block_read, read_map, read_then}

-- Whether a filter block admits a hash.
abbrev pub block_admits : List ℕ → ℕ → Place → Read Bool
block_admits body hash place =
    read_map (λ block. admits (filter_in block.payload) hash) (block_read body place Filter)

-- Whether a filter partition admits a hash; false if there is none.
abbrev pub part_admits : List ℕ → ℕ → Option Place → Read Bool
part_admits body hash None = known false
part_admits body hash (Some place) = block_admits body hash place

-- Whether a table's filter admits a key: by the key's partition, or by its one block, pinned or
-- loaded. Without a filter it does.
abbrev pub filter_admits : List ℕ → Option (List Handle) → Option BloomFilter → Option Place
    → List ℕ
    → ℕ → Read Bool
filter_admits body (Some tops) filter place key hash =
    part_admits body hash (place_in tops key (2 ^ 64 - 1))
filter_admits body None (Some filter) place key hash = known (admits filter hash)
filter_admits body None None (Some place) key hash = block_admits body hash place
filter_admits body None None None key hash = known true

-- The same, with the filter of a table's parts.
abbrev pub parts_admit : List ℕ → Parts → List ℕ → ℕ → Read Bool
parts_admit body parts key hash = filter_admits body parts.pinned.filter_tops
    parts.pinned.filter parts.regions.filter key hash

-- Whether a key may have an entry visible at a snapshot: some stored seqno is below it, and the
-- filter admits the key.
abbrev pub admission : List ℕ → Parts → List ℕ → ℕ → Read Bool
admission body parts key bound =
    let pinned = parts.pinned in
    if nat_lt parts.facts.seqno_min bound
    then filter_admits body pinned.filter_tops pinned.filter parts.regions.filter key (hash_of key)
    else known false

-- The first data block that reaches a key at a snapshot, if the key is admitted.
abbrev pub handle_for : List ℕ → Parts → List ℕ → ℕ → Bool → Read (Option Place)
handle_for body parts key bound false = known None
handle_for body parts key bound true = handle_by body parts.pinned.index parts.regions.tli key bound

-- The one data block that a point read of a key at a snapshot of stored seqnos needs.
abbrev pub admitted_handle : List ℕ → Parts → List ℕ → ℕ → Read (Option Place)
admitted_handle body parts key bound =
    read_then (admission body parts key bound) (handle_for body parts key bound)

-- The first match in a data block, global seqno applied.
abbrev pub match_at : List ℕ → ℕ → List ℕ → ℕ → Place → Read (Option Entry)
match_at body g key bound place =
    read_map (λ block. option_map (lifted g) (point (entries_of block) key bound))
    (block_read body place Data)

-- The first match in a data block, if there is a block.
abbrev pub match_in : List ℕ → ℕ → List ℕ → ℕ → Option Place → Read (Option Entry)
match_in body g key bound None = known None
match_in body g key bound (Some place) = match_at body g key bound place

-- A point read over the bytes before the trailer: the newest version visible once the global seqno
-- is applied.
unfoldable pub answer : List ℕ → ℕ → Parts → List ℕ → ℕ → Read (Option Entry)
answer body g parts key bound =
    let low = bound - g in
    read_then (admitted_handle body parts key low) (match_in body g key low)

-- The same with the state that an opened table keeps.
abbrev pub answer_by : {A : Type 0} → List ℕ → Inner A → List ℕ → ℕ → Read (Option Entry)
answer_by body inner key bound = answer body inner.global_seqno (parts_of inner) key bound

-- A point read of an opened table.
abbrev pub table_answer : OpenTable → List ℕ → ℕ → Read (Option Entry)
table_answer t key bound = answer (body_of t.bytes) t.global_seqno t.parts key bound

-- A bound on the filter blocks loaded: none if a full filter is pinned or there is none.
abbrev pub most_filter_loads : Option (List Handle) → Option BloomFilter → Option Place → ℕ
most_filter_loads (Some tops) filter place = 1
most_filter_loads None (Some filter) place = 0
most_filter_loads None None (Some place) = 1
most_filter_loads None None None = 0

-- A point read loads at most one data block, one index block and one filter block, and none that is
-- pinned.
pub record LoadsFew (parts : Parts) (old new : Opened) : Type 0 where
  pub data_few : new.data_loads ≤ old.data_loads + 1
  pub index_few : new.index_loads ≤ old.index_loads + most_index_loads parts.pinned.index
  pub filter_few : new.filter_loads ≤ old.filter_loads +
      most_filter_loads parts.pinned.filter_tops parts.pinned.filter parts.regions.filter
  pub no_meta : new.meta_loads ≡ old.meta_loads
