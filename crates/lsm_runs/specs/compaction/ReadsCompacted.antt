-- Reads of several runs if some of them are compacted and the others are kept.
use Rattle.std.specs.Prelude.{◌≡◌, ◌≤◌, ◌⊎◌, ℕ, not, List, ◌++◌, filter, map}
use Rattle.std.specs.declared.ops.Bound.{Bound}
use Rattle.sst_entries.specs.declared.value_type.ValueType.{ValueType}
use Rattle.sst_entries.specs.Entry.{Entry}
use Rattle.sst_entries.specs.Kind.{is_tombstone_kind}
use Rattle.sst_entries.specs.Point.{within}
use Rattle.sst_entries.specs.Strict.{IsStrict}
use Rattle.sst_blocks.specs.table.Chunks.{joined}
use Rattle.lsm_sorted.specs.merge.Union.{SameBag, newest}
use Rattle.lsm_sorted.specs.declared.compaction.Rules.{Rules}
use Rattle.lsm_sorted.specs.Point.{seen}
use Rattle.lsm_sorted.specs.ReadLaw.{AllNewer, IsPlain}
use Rattle.lsm_writers.specs.Writing.{IsWritable}
use Rattle.lsm_runs.specs.compaction.Compacted.{kept_in}
use Rattle.lsm_runs.specs.SeveralRuns.{union_in}

-- the key, the kind and the value of each entry that is no tombstone
abbrev pub shown_of : Entry → List ℕ × ValueType × List ℕ
shown_of e = (e.user_key, e.kind, e.value)

abbrev pub all_shown : List Entry → List (List ℕ × ValueType × List ℕ)
all_shown es = map shown_of (filter (λ e. not (is_tombstone_kind e.kind)) es)

-- the entries of several runs' lists, run by run
abbrev pub joined_in : List (List (List Entry)) → List Entry
joined_in lists = joined (map joined lists)

-- a part of the runs is compacted, and the rest stays. The runs before have the entries of both,
-- and no key has one seqno twice. The runs after have what is kept of the part and the entries of
-- the rest, in any runs. Either nothing is evicted or zeroed and the part has no weak tombstone, or
-- of each key all entries of the rest are newer than the part
pub record AreReplaced (rules : Rules) (part rest before after : List (List (List Entry))) : Type 0
  where
    pub strict : IsStrict (union_in before)
    pub had : SameBag (joined_in before) (joined_in part ++ joined_in rest)
    pub has : SameBag (joined_in after) (kept_in rules part ++ joined_in rest)
    pub safe : IsPlain rules (union_in part) ⊎ AllNewer (union_in part) (union_in rest)

-- a point read whose bound is the watermark or above sees the same of each key
abbrev pub PointsStay : Type 0
PointsStay = (rules : Rules) (part rest before after : List (List (List Entry))) →
    AreReplaced rules part rest before after → (key : List ℕ) (bound : ℕ) →
    rules.watermark ≤ bound → seen (union_in after) key bound ≡ seen (union_in before) key bound

-- a range sees the same of the newest versions within any bounds
abbrev pub RangesStay : Type 0
RangesStay = (rules : Rules) (part rest before after : List (List (List Entry))) →
    AreReplaced rules part rest before after → (low high : Bound (List ℕ)) →
    all_shown (newest (within low high (union_in after)))
    ≡ all_shown (newest (within low high (union_in before)))

-- again no key has one seqno twice
abbrev pub StayStrict : Type 0
StayStrict = (rules : Rules) (part rest before after : List (List (List Entry))) →
    AreReplaced rules part rest before after → IsStrict (union_in after)

-- and if each seqno was below the largest, each still is: the runs may be compacted again
abbrev pub StayWritable : Type 0
StayWritable = (rules : Rules) (part rest before after : List (List (List Entry))) →
    AreReplaced rules part rest before after → IsWritable (union_in before) →
    IsWritable (union_in after)

-- the same if adjacent runs are compacted into runs that replace them
abbrev pub SideBySide : Type 0
SideBySide = (rules : Rules) (front part made behind : List (List (List Entry))) →
    joined_in made ≡ kept_in rules part → IsStrict (union_in (front ++ (part ++ behind))) →
    IsPlain rules (union_in part) ⊎ AllNewer (union_in part) (union_in (front ++ behind)) →
    AreReplaced rules part (front ++ behind) (front ++ (part ++ behind)) (front ++ (made ++ behind))
