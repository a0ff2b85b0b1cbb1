-- The keys of a table filter, and the filter writer that has them.
use Rattle.std.specs.Prelude.{◌≡◌, ℕ, ◌≤◌, Bool, false, ◌&&◌, nat_lt, List, [], ◌∷◌, ◌++◌, Option}
use Rattle.std.specs.Prelude.{Some, None, if◌then◌else◌}
use Rattle.std.specs.Option.{option_map}
use Rattle.sst_entries.specs.Entry.{Entry}
use Rattle.sst_entries.specs.Lending.{entry_of_ref}
use Rattle.sst_entries.specs.declared.entry_ref.EntryRef.{EntryRef}
use Rattle.sst_blocks.specs.declared.filter.policy.BloomConstructionPolicy.{BloomConstructionPolicy}
use Rattle.sst_blocks.specs.filter.Policy.{tenths_of}
use Rattle.sst_blocks.specs.declared.table.options.FilterKind.{FilterKind}
use Rattle.sst_blocks.specs.declared.table.options.Options.{Options}
use Rattle.sst_blocks.specs.table.Facts.{starts_key}
use Rattle.sst_blocks.specs.table.Filters.{filtered_keys}
use Rattle.lsm_writers.specs.declared.section.filter_either.FilterWriterImpl.{FilterWriterImpl}
use Rattle.lsm_writers.specs.section.FilterEither.{kind_by, policy_by, failed_by, HoldsBy}
use Rattle.lsm_writers.specs.section.Given.{given_by}
use Rattle.lsm_writers.specs.section.FilterRefusing.{partition_size}
use Rattle.lsm_writers.specs.section.Rising.{AreRising}

-- the keys that an entry registers: its key if it is the first of its key and the policy is active
abbrev pub registered_key : BloomConstructionPolicy → Bool → List ℕ → List (List ℕ)
registered_key policy starts key = if nat_lt 0 (tenths_of policy) && starts then key ∷ [] else []

-- the keys that a borrowed entry registers after another
abbrev pub keys_of_entry : Options → Option EntryRef → EntryRef → List (List ℕ)
keys_of_entry options before entry = registered_key options.bloom_policy
    (starts_key (option_map entry_of_ref before) (entry_of_ref entry)) (entry_of_ref entry).user_key

-- an unfailed filter writer of this kind and policy has these keys, all registered under both
pub record HasKeys {A : Type 0} (kind : FilterKind) (policy : BloomConstructionPolicy)
    (w : FilterWriterImpl A) (keys : List (List ℕ)) : Type 0 where
  pub kind_is : kind_by w ≡ kind
  pub policy_is : policy_by w ≡ policy
  pub works : failed_by w ≡ false
  pub holds : HoldsBy w (given_by kind policy keys)

-- an optional filter writer has these keys; it is `None` exactly without keys
abbrev pub MayHaveKeys : {A : Type 0} → FilterKind → BloomConstructionPolicy
    → Option (FilterWriterImpl A) → List (List ℕ) → Type 0
MayHaveKeys kind policy None keys = keys ≡ []
MayHaveKeys kind policy (Some w) keys = (keys ≡ [] → ⊥) × HasKeys kind policy w keys

-- this holds of the keys that a filter writer of these options has
abbrev pub ForKeysOf : {A : Type 0} → Options → Option (FilterWriterImpl A)
    → (List (List ℕ) → Type 0) → Type 0
ForKeysOf options w P = (keys : List (List ℕ)) →
    MayHaveKeys options.filter_kind options.bloom_policy w keys → P keys

-- the filter writer has the keys that it had before, then these
abbrev pub Registers : {A : Type 0} → Options → Option (FilterWriterImpl A)
    → Option (FilterWriterImpl A) → List (List ℕ) → Type 0
Registers options before after more =
    (keys : List (List ℕ)) → MayHaveKeys options.filter_kind options.bloom_policy before keys
    → MayHaveKeys options.filter_kind options.bloom_policy after (keys ++ more)

-- the partition size of a filter is at most 4,194,304 bytes
abbrev pub IsSmallFilter : FilterKind → Type 0
IsSmallFilter kind = partition_size kind ≤ 4194304

-- these keys can be registered after those that the filter writer has
pub record CanRegister {A : Type 0} (kind : FilterKind) (policy : BloomConstructionPolicy)
    (w : Option (FilterWriterImpl A)) (more : List (List ℕ)) : Type 0 where
  pub keys : List (List ℕ)
  pub has : MayHaveKeys kind policy w keys
  pub rising : AreRising (keys ++ more)
  pub small : IsSmallFilter kind

-- unless a call failed, the filter writer has the filter keys of the list
pub record IsFiltered {A : Type 0} (failed : Bool) (kind : FilterKind)
    (policy : BloomConstructionPolicy) (w : Option (FilterWriterImpl A)) (es : List Entry)
    : Type 0 where
  pub small : IsSmallFilter kind
  pub has : failed ≡ false → MayHaveKeys kind policy w (filtered_keys policy es)
