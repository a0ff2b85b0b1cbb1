-- The keys registered with a filter writer: those of the cut parts, then the pending ones.
use Rattle.std.specs.Prelude.{ℕ, ◌<◌, List, [], ◌∷◌, ◌++◌, length, map, if◌then◌else◌}
use Rattle.sst_blocks.specs.declared.filter.policy.BloomConstructionPolicy.{BloomConstructionPolicy}
use Rattle.sst_blocks.specs.declared.table.options.FilterKind.{FilterKind}
use Rattle.sst_blocks.specs.declared.table.options.FilterKind.TheVariants.{Full, Partitioned}
use Rattle.sst_blocks.specs.table.Filters.{is_full_filter}
use Rattle.sst_blocks.specs.table.Parts.{joined_parts}
use Rattle.lsm_writers.specs.section.Cutting.{closed_by, waiting_by}

-- a part of the keys, and the policy under which it was cut
pub record KeyPart : Type 0 where
  pub policy : BloomConstructionPolicy
  pub keys : List (List ℕ)

-- the part of these keys, cut under this policy
abbrev pub key_part : BloomConstructionPolicy → List (List ℕ) → KeyPart
key_part policy keys = record { policy = policy; keys = keys }

-- the keys of each part
abbrev pub keys_in : List KeyPart → List (List (List ℕ))
keys_in parts = map (λ (p : KeyPart). p.keys) parts

-- a part is not empty
pub record IsSomePart (p : KeyPart) : Type 0 where
  pub some : 0 < length p.keys

-- the registered keys: the cut parts, then the pending keys
pub record GivenKeys : Type 0 where
  pub cut : List KeyPart
  pub pending : List (List ℕ)

-- no keys
abbrev pub no_keys : GivenKeys
no_keys = record { cut = []; pending = [] }

-- all registered keys, in order
abbrev pub all_keys : GivenKeys → List (List ℕ)
all_keys given = joined_parts (keys_in given.cut) ++ given.pending

-- the pending keys as one part, or no part without keys
abbrev pub rest_keys : BloomConstructionPolicy → List (List ℕ) → List KeyPart
rest_keys policy [] = []
rest_keys policy (k ∷ keys) = key_part policy (k ∷ keys) ∷ []

-- all parts: the cut ones, then the pending keys as the last one
abbrev pub key_parts_of : BloomConstructionPolicy → GivenKeys → List KeyPart
key_parts_of policy given = given.cut ++ rest_keys policy given.pending

-- the registered keys with one more pending key
abbrev pub pending_with : GivenKeys → List ℕ → GivenKeys
pending_with given key = record given { pending = given.pending ++ key ∷ [] }

-- the registered keys with one more, after all pending ones are cut as a part
abbrev pub cut_with : BloomConstructionPolicy → GivenKeys → List ℕ → GivenKeys
cut_with policy given key =
    record { cut = given.cut ++ key_part policy (given.pending ++ key ∷ []) ∷ []; pending = [] }

-- the registered keys after one more under this kind and policy; a full partition is cut
abbrev pub with_key : FilterKind → BloomConstructionPolicy → GivenKeys → List ℕ → GivenKeys
with_key Full policy given key = pending_with given key
with_key (Partitioned size) policy given key =
    if is_full_filter policy size (given.pending ++ key ∷ [])
    then cut_with policy given key
    else pending_with given key

-- the registered keys, all under one kind and one policy
abbrev pub given_by : FilterKind → BloomConstructionPolicy → List (List ℕ) → GivenKeys
given_by Full policy keys = record { cut = []; pending = keys }
given_by (Partitioned size) policy keys =
    let full = is_full_filter policy size in
    record { cut = map (key_part policy) (closed_by full keys); pending = waiting_by full keys }
