-- The keys and options of a filter writer of either kind.
use Rattle.std.specs.Prelude.{ℕ, Bool}
use Rattle.sst_blocks.specs.declared.filter.policy.BloomConstructionPolicy.{BloomConstructionPolicy}
use Rattle.sst_blocks.specs.declared.table.options.FilterKind.{FilterKind}
use Rattle.sst_blocks.specs.declared.table.options.FilterKind.TheVariants.{Full, Partitioned}
use Rattle.lsm_writers.specs.section.Given.{GivenKeys}
use Rattle.lsm_writers.specs.section.Held.{HoldsHashes, HoldsParts}
use Rattle.lsm_writers.specs.declared.section.filter_either.FilterWriterImpl.{FilterWriterImpl}
use Rattle.lsm_writers.specs.declared.section.filter_either.FilterWriterImpl.TheVariants.{
  Full as FullWriter,
}
use Rattle.lsm_writers.specs.declared.section.filter_either.FilterWriterImpl.TheVariants.{
  Partitioned as PartitionedWriter,
}

-- the kind of filter that a writer writes
abbrev pub kind_by : {A : Type 0} → FilterWriterImpl A → FilterKind
kind_by (FullWriter w) = Full
kind_by (PartitionedWriter w) = Partitioned w.size

-- the policy of a writer
abbrev pub policy_by : {A : Type 0} → FilterWriterImpl A → BloomConstructionPolicy
policy_by (FullWriter w) = w.policy
policy_by (PartitionedWriter w) = w.policy

-- a call of the writer failed
abbrev pub failed_by : {A : Type 0} → FilterWriterImpl A → Bool
failed_by (FullWriter w) = w.failed
failed_by (PartitionedWriter w) = w.failed

-- a writer of either kind holds these keys
abbrev pub HoldsBy : {A : Type 0} → FilterWriterImpl A → GivenKeys → Type 0
HoldsBy (FullWriter w) given = HoldsHashes w given
HoldsBy (PartitionedWriter w) given = HoldsParts w given

-- a writer with another policy
abbrev pub with_policy_by : {A : Type 0} → FilterWriterImpl A → BloomConstructionPolicy
    → FilterWriterImpl A
with_policy_by (FullWriter w) policy = FullWriter (record w { policy = policy })
with_policy_by (PartitionedWriter w) policy = PartitionedWriter (record w { policy = policy })

-- a writer with another partition size, if it has partitions
abbrev pub with_size_by : {A : Type 0} → FilterWriterImpl A → ℕ → FilterWriterImpl A
with_size_by (FullWriter w) size = FullWriter w
with_size_by (PartitionedWriter w) size = PartitionedWriter (record w { size = size })
