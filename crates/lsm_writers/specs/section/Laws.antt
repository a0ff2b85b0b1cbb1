-- Laws of the keys and filters of a filter writer.
use Rattle.std.specs.Prelude.{◌≡◌, ℕ, ◌^◌, ◌<◌, ◌≤◌, true, List, [], ◌∷◌, ◌++◌, None}
use Rattle.sst_blocks.specs.Sections.{Written}
use Rattle.sst_blocks.specs.declared.filter.policy.BloomConstructionPolicy.{BloomConstructionPolicy}
use Rattle.sst_blocks.specs.declared.table.options.FilterKind.{FilterKind}
use Rattle.sst_blocks.specs.filter.Policy.{tenths_of}
use Rattle.lsm_writers.specs.section.Answering.{IsAdmitted, was_given}
use Rattle.lsm_writers.specs.section.FilterRefusing.{filter_fault, given_fault, partition_size}
use Rattle.lsm_writers.specs.section.FilterRefusing.{register_fault}
use Rattle.lsm_writers.specs.section.Given.{GivenKeys, all_keys, given_by, no_keys, with_key}
use Rattle.lsm_writers.specs.section.Rising.{AreRising}
use Rattle.lsm_writers.specs.section.Writing.{WritesFilter, WritesParts}

-- at a small partition size no key makes the filter of a partition too large
abbrev pub SmallPartsLaw : Type 0
SmallPartsLaw = (kind : FilterKind) (policy : BloomConstructionPolicy) (keys : List (List ℕ))
    (key : List ℕ) → tenths_of policy < 2 ^ 32 → partition_size kind ≤ 4194304 →
    register_fault kind policy (given_by kind policy keys).pending key ≡ None

-- ---- one kind and one policy for all keys

-- no keys are cut into no parts
abbrev pub GivenNoneLaw : Type 0
GivenNoneLaw = (kind : FilterKind) (policy : BloomConstructionPolicy) →
    given_by kind policy [] ≡ no_keys

-- key by key the keys are cut as their list is
abbrev pub GivenMoreLaw : Type 0
GivenMoreLaw = (kind : FilterKind) (policy : BloomConstructionPolicy) (keys : List (List ℕ))
    (key : List ℕ) →
    with_key kind policy (given_by kind policy keys) key ≡ given_by kind policy (keys ++ key ∷ [])

-- the filters of the parts are those of the list
abbrev pub SameFiltersLaw : Type 0
SameFiltersLaw = (kind : FilterKind) (policy : BloomConstructionPolicy) (keys : List (List ℕ))
    (before after : Written) (count : ℕ) →
    WritesParts kind policy (given_by kind policy keys) before after count →
    WritesFilter kind policy keys before after count

-- the fault of the parts is that of the list
abbrev pub SameFaultLaw : Type 0
SameFaultLaw = (kind : FilterKind) (policy : BloomConstructionPolicy) (keys : List (List ℕ)) →
    given_fault kind policy (given_by kind policy keys) ≡ filter_fault kind policy keys

-- ---- any options

-- the filters of the parts admit each registered key
abbrev pub AdmittedLaw : Type 0
AdmittedLaw = (kind : FilterKind) (policy : BloomConstructionPolicy) (given : GivenKeys)
    (before after : Written) (count : ℕ) (behind key : List ℕ) →
    WritesParts kind policy given before after count → AreRising (all_keys given) →
    was_given given key ≡ true → IsAdmitted kind before after behind key

-- registering a key appends it to all keys
abbrev pub AllKeysLaw : Type 0
AllKeysLaw = (kind : FilterKind) (policy : BloomConstructionPolicy) (given : GivenKeys)
    (key : List ℕ) → all_keys (with_key kind policy given key) ≡ all_keys given ++ key ∷ []
