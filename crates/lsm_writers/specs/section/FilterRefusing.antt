-- The faults of filter writers.
use Rattle.std.specs.Prelude.{ℕ, List, [], ◌∷◌, ◌++◌, length, map, sum_by, Option, None}
use Rattle.std.specs.Prelude.{if◌then◌else◌}
use Rattle.std.specs.Option.{option_or}
use Rattle.sst_entries.specs.declared.error.Error.{Error}
use Rattle.sst_blocks.specs.Encoding.{handles_fault}
use Rattle.sst_blocks.specs.Handle.{Handle}
use Rattle.sst_blocks.specs.declared.filter.policy.BloomConstructionPolicy.{BloomConstructionPolicy}
use Rattle.sst_blocks.specs.filter.Policy.{bound_for, fault_for, tenths_of}
use Rattle.sst_blocks.specs.declared.table.options.FilterKind.{FilterKind}
use Rattle.sst_blocks.specs.declared.table.options.FilterKind.TheVariants.{Full, Partitioned}
use Rattle.sst_blocks.specs.table.Failed.{section_fault}
use Rattle.sst_blocks.specs.table.Filters.{is_full_filter, last_of_keys}
use Rattle.sst_blocks.specs.table.Parts.{parts_by}
use Rattle.lsm_writers.specs.section.Cutting.{waiting_by}
use Rattle.lsm_writers.specs.section.Given.{GivenKeys, KeyPart, keys_in, key_parts_of}

-- the fault of building one filter of these keys; none without keys
abbrev pub keys_fault : BloomConstructionPolicy → List (List ℕ) → Option Error
keys_fault policy [] = None
keys_fault policy (k ∷ keys) = fault_for (tenths_of policy) (length (k ∷ keys))

-- the fault of cutting a part, if it is full
abbrev pub cut_fault : BloomConstructionPolicy → ℕ → List (List ℕ) → Option Error
cut_fault policy size part =
    if is_full_filter policy size part then fault_for (tenths_of policy) (length part) else None

-- the fault of registering a key after the pending ones: the partition that it completes is too
-- large
abbrev pub register_fault : FilterKind → BloomConstructionPolicy → List (List ℕ) → List ℕ
    → Option Error
register_fault Full policy pending key = None
register_fault (Partitioned size) policy pending key =
    cut_fault policy size (pending ++ key ∷ [])

-- the partition size, 0 for a full filter
abbrev pub partition_size : FilterKind → ℕ
partition_size Full = 0
partition_size (Partitioned size) = size

-- a bound on the total length of the filter blocks of these parts
abbrev pub parts_bound : BloomConstructionPolicy → List (List (List ℕ)) → ℕ
parts_bound policy parts = sum_by (λ p. bound_for (tenths_of policy) (length p)) parts

-- the same bound, with each part under its own policy
abbrev pub key_parts_bound : List KeyPart → ℕ
key_parts_bound parts =
    sum_by (λ (p : KeyPart). bound_for (tenths_of p.policy) (length p.keys)) parts

-- a handle with this end key; its other fields are 0
abbrev pub end_handle : List ℕ → Handle
end_handle key = record { end_key = key; seqno = 0; offset = 0; size = 0 }

-- the fault of writing the top level of partitions with these last keys
abbrev pub top_fault : List (List ℕ) → Option Error
top_fault ends = handles_fault (map end_handle ends)

-- the first fault known from the number of keys: the filter of the pending keys; for partitions,
-- then the section
abbrev pub size_fault : FilterKind → BloomConstructionPolicy → GivenKeys → Option Error
size_fault Full policy given = keys_fault policy given.pending
size_fault (Partitioned size) policy given =
    option_or (keys_fault policy given.pending)
    (section_fault (key_parts_bound (key_parts_of policy given)))

-- the first fault of finishing under one kind and policy: the filter of the pending keys; for
-- partitions, then the section and the top level
abbrev pub filter_fault : FilterKind → BloomConstructionPolicy → List (List ℕ) → Option Error
filter_fault Full policy keys = keys_fault policy keys
filter_fault (Partitioned size) policy keys =
    let full = is_full_filter policy size in
    let parts = parts_by full keys in
    option_or (keys_fault policy (waiting_by full keys))
    (option_or (section_fault (parts_bound policy parts)) (top_fault (map last_of_keys parts)))

-- the first fault of finishing under changing options: the filter of the pending keys; for
-- partitions, then the section and the top level
abbrev pub given_fault : FilterKind → BloomConstructionPolicy → GivenKeys → Option Error
given_fault Full policy given = keys_fault policy given.pending
given_fault (Partitioned size) policy given =
    let parts = key_parts_of policy given in
    let ends = map last_of_keys (keys_in parts) in
    option_or (keys_fault policy given.pending)
    (option_or (section_fault (key_parts_bound parts)) (top_fault ends))
