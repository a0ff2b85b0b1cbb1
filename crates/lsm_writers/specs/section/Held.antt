-- The state of filter writers, and the keys that they hold.
use Rattle.std.specs.Prelude.{◌≡◌, ℕ, ◌+◌, Bool, List, [], ◌∷◌, ◌++◌, length, map, Option, Some}
use Rattle.std.specs.Prelude.{None}
use Rattle.std.specs.List.{AllByRecursion}
use Rattle.sst_blocks.specs.Block.{header_len}
use Rattle.sst_blocks.specs.Bounds.{capped}
use Rattle.sst_blocks.specs.filter.KeyHash.{hash_of}
use Rattle.sst_blocks.specs.declared.filter.policy.BloomConstructionPolicy.{BloomConstructionPolicy}
use Rattle.sst_blocks.specs.filter.Filter.{BloomFilter, payload_of}
use Rattle.sst_blocks.specs.filter.Policy.{bound_for, tenths_of}
use Rattle.sst_blocks.specs.table.Filters.{IsFilterFor, last_of_keys}
use Rattle.sst_blocks.specs.table.Partitions.{Partition}
use Rattle.lsm_writers.specs.section.Given.{GivenKeys, IsSomePart, KeyPart, keys_in, key_parts_of}
use Rattle.lsm_writers.specs.section.FilterRefusing.{key_parts_bound}

-- the state of a full filter writer: the hashes of all keys
pub record Hashes : Type 0 where
  pub policy : BloomConstructionPolicy
  pub hashes : List ℕ
  pub failed : Bool

-- a full filter writer holds these keys, all of them pending
pub record HoldsHashes (w : Hashes) (given : GivenKeys) : Type 0 where
  pub uncut : given.cut ≡ []
  pub hashes : w.hashes ≡ map hash_of given.pending

-- a cut part: its last key and its filter
pub record CutPart : Type 0 where
  pub end_key : List ℕ
  pub filter : BloomFilter

-- the state of a partitioned filter writer: the cut parts with a bound on their length, the pending
-- hashes, and the last key
pub record CutParts : Type 0 where
  pub policy : BloomConstructionPolicy
  pub size : ℕ
  pub parts : List CutPart
  pub bound : ℕ
  pub hashes : List ℕ
  pub last : Option (List ℕ)
  pub failed : Bool

-- the last keys of the parts
abbrev pub end_keys : List CutPart → List (List ℕ)
end_keys parts = map (λ (p : CutPart). p.end_key) parts

-- the filters of the parts
abbrev pub filters_of : List CutPart → List BloomFilter
filters_of parts = map (λ (p : CutPart). p.filter) parts

-- the top-level partition of a cut part
abbrev pub partition_of : CutPart → Partition
partition_of p = record {
  end_key = p.end_key;
  seqno = 0;
  size = header_len + length (payload_of p.filter);
}

-- the last key, or `None` without keys
abbrev pub last_key_of : List (List ℕ) → Option (List ℕ)
last_key_of [] = None
last_key_of (k ∷ keys) = Some (last_of_keys (k ∷ keys))

-- an optional key as a list
abbrev pub as_list : Option (List ℕ) → List (List ℕ)
as_list None = []
as_list (Some key) = key ∷ []

-- each part has its filter, under its own policy
abbrev pub AreFiltersOf : List KeyPart → List BloomFilter → Type 0
AreFiltersOf [] [] = Unit {0}
AreFiltersOf [] (f ∷ fs) = ⊥
AreFiltersOf (p ∷ ps) [] = ⊥
AreFiltersOf (p ∷ ps) (f ∷ fs) = IsFilterFor p.policy p.keys f × AreFiltersOf ps fs

-- the cut parts have the filters and last keys of these parts
pub record HasParts (w : CutParts) (parts : List KeyPart) : Type 0 where
  pub some : AllByRecursion IsSomePart parts
  pub filters : AreFiltersOf parts (filters_of w.parts)
  pub ends : end_keys w.parts ≡ map last_of_keys (keys_in parts)
  pub bound : w.bound ≡ capped (key_parts_bound parts)

-- a partitioned filter writer holds these keys: the cut parts and the pending keys
pub record HoldsParts (w : CutParts) (given : GivenKeys) : Type 0 where
  pub cut : HasParts w given.cut
  pub hashes : w.hashes ≡ map hash_of given.pending
  pub last : w.last ≡ last_key_of given.pending

-- a partitioned filter writer holds these keys, all of them cut
abbrev pub HoldsAll : CutParts → GivenKeys → Type 0
HoldsAll w given = HasParts w (key_parts_of w.policy given)

-- one step cuts the pending keys as a part with this last key
pub record Cuts (key : List ℕ) (w v : CutParts) : Type 0 where
  pub filter : BloomFilter
  pub is : (keys : List (List ℕ)) → w.hashes ≡ map hash_of keys → IsFilterFor w.policy keys filter
  pub parts : v.parts ≡ w.parts ++ record { end_key = key; filter = filter } ∷ []
  pub bound : v.bound ≡ capped (w.bound + bound_for (tenths_of w.policy) (length w.hashes))
  pub hashes : v.hashes ≡ []
  pub last : v.last ≡ None
