-- The guarantee for readers before and after a compaction.
use Rattle.std.specs.Prelude.{◌≡◌, ◌≢◌, ◌<◌, ◌≤◌, ◌⊎◌, ℕ, true, false, List, ◌++◌}
use Rattle.std.specs.List.{AllByRecursion}
use Rattle.sst_entries.specs.Entry.{Entry}
use Rattle.sst_entries.specs.Key.{same_key}
use Rattle.sst_entries.specs.Strict.{IsStrict}
use Rattle.sst_entries.specs.Kind.{is_weak_kind}
use Rattle.lsm_sorted.specs.merge.Union.{Ascends, SameBag}
use Rattle.lsm_sorted.specs.Point.{seen}
use Rattle.lsm_sorted.specs.declared.compaction.Rules.{Rules}
use Rattle.lsm_sorted.specs.Compaction.{kept, unfiltered}

-- every version of the key has a seqno below the bound
abbrev pub AllBelow : List ℕ → ℕ → List Entry → Type 0
AllBelow key bound es = AllByRecursion (λ e. same_key e.user_key key ≡ true → e.seqno < bound) es

-- a reader at the watermark or above, or above every version of the key
abbrev pub IsServed : ℕ → List Entry → List ℕ → ℕ → Type 0
IsServed watermark es key bound = (watermark ≤ bound) ⊎ AllBelow key bound es

-- with any eviction and zeroing, such a reader sees the same before and after
abbrev pub ReadLaw : Type 0
ReadLaw = (rules : Rules) (es : List Entry) → Ascends es → (key : List ℕ) (bound : ℕ)
    → IsServed rules.watermark es key bound → seen (kept rules (unfiltered es)) key bound
    ≡ seen es key bound

-- a compaction of a strictly sorted list is strictly sorted, even where seqnos become 0
abbrev pub StaysStrict : Type 0
StaysStrict = (rules : Rules) (es : List Entry) → IsStrict es
    → IsStrict (kept rules (unfiltered es))

-- no entry of one list has the key and seqno of an entry of the other
abbrev pub Distinct : List Entry → List Entry → Type 0
Distinct xs ys = AllByRecursion
    (λ x. AllByRecursion (λ y. x.user_key ≡ y.user_key → x.seqno ≢ y.seqno) ys) xs

-- each version in the second list is newer than those of its key in the first
abbrev pub AllNewer : List Entry → List Entry → Type 0
AllNewer xs ys = AllByRecursion
    (λ x. AllByRecursion (λ y. x.user_key ≡ y.user_key → x.seqno < y.seqno) ys) xs

-- a sorted list with exactly the entries of two lists, with multiplicity
pub record IsMerged (xs ys zs : List Entry) : Type 0 where
  pub ascends : Ascends zs
  pub same : SameBag zs (xs ++ ys)

-- no eviction, no zeroing and no weak tombstones
abbrev pub IsPlain : Rules → List Entry → Type 0
IsPlain rules es = (rules.evict ≡ false) × (rules.zeroing ≡ false)
    × AllByRecursion (λ e. is_weak_kind e.kind ≡ false) es

-- if a part of the entries is compacted and the others remain, a reader at the watermark or above
-- sees the same
abbrev pub PartLaw : Type 0
PartLaw = (rules : Rules) (part others all left : List Entry) → IsStrict part → IsStrict others
    → Distinct part others → IsMerged part others all
    → IsMerged (kept rules (unfiltered part)) others left
    → IsPlain rules part ⊎ AllNewer part others → (key : List ℕ) (bound : ℕ)
    → rules.watermark ≤ bound → seen left key bound ≡ seen all key bound
