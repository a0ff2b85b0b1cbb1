-- What calls promise that return a point read and a range.
use Rattle.std.specs.Prelude.{◌≡◌, ◌⊎◌, ◌++◌, ℕ, List, [], IfOk, MatchOption, Option, Result}
use Rattle.std.specs.declared.ops.Bound.{Bound}
use Rattle.std.specs.declared.sync.Arc.{Arc}
use Rattle.lsm_sorted.specs.ReadLaw.{IsPlain}
use Rattle.lsm_sorted.specs.declared.compaction.Rules.{Rules}
use Rattle.lsm_sorted.specs.declared.merge.Merger.{Merger}
use Rattle.lsm_sorted.specs.declared.mvcc_stream.MvccStream.{MvccStream}
use Rattle.lsm_readers.specs.Ranges.{YieldsAll, YieldsWithin}
use Rattle.lsm_readers.specs.Scan.{Scan}
use Rattle.lsm_runs.specs.RunRange.{RunRange}
use Rattle.lsm_runs.specs.compaction.Written.{ReadsList}
use Rattle.lsm_tables.specs.Words.{AllNewer, Entry, Error, HoldSides, IsOverSpans, IsRunOfList}
use Rattle.lsm_tables.specs.Words.{IsStrict, OpenTable, ReadsKept, ReadsOf, RunsHold, ShowAlike}
use Rattle.lsm_tables.specs.Words.{StoresList, TableLists, YieldsList, each_run, lift, union_in}

-- this holds of the list that a source yields
abbrev pub OnYielded : {S : Type 0} (front back : S → Option (Result Entry Error) → S → Type 0)
    → S → (List Entry → Type 0) → Type 0
OnYielded front back s P = (es : List Entry) → YieldsList front back es s → P es

-- ---- of one table

module _ {S : Type 0} (front back : S → Option (Result Entry Error) → S → Type 0) where
  -- if the bytes store a list, these are its entries within two bounds, and all
  abbrev pub RangesRead : OpenTable → Bound (List ℕ) → Bound (List ℕ) → Result (S × S) Error
      → Type 0
  RangesRead t low high r =
      let g = t.global_seqno in (es : List Entry) → StoresList t.bytes es →
      IfOk r (λ ranges. YieldsWithin front back low high es g ranges.0
      × YieldsAll front back es g ranges.1)

  -- the same, after a point read and a scan of the list
  abbrev pub ReadsEachWay : OpenTable → List ℕ → ℕ → Bound (List ℕ) → Bound (List ℕ)
      → Result ((Option Entry × Scan) × (S × S)) Error → Type 0
  ReadsEachWay t key bound low high r =
      let g = t.global_seqno in (es : List Entry) → StoresList t.bytes es →
      IfOk r (λ read. ReadsList es g key bound read.0.0 read.0.1
      × YieldsWithin front back low high es g read.1.0 × YieldsAll front back es g read.1.1)

-- ---- of runs

-- this holds of the lists of tables in adjacent runs
abbrev pub OnSides : {Z : Type 0} (front part behind : List (Arc (List OpenTable) Z))
    → (TableLists → TableLists → TableLists → Type 0) → Type 0
OnSides front part behind P =
    (fs ps bs : TableLists) →
    HoldSides (each_run front) (each_run part) (each_run behind) fs ps bs → P fs ps bs

-- the range is over the spans of these runs within the bounds
abbrev pub ReadsSpans : {A : Type 0}
    (next next_back : MvccStream (Merger (RunRange A) A) (Result Entry Error)
    → Option (Result Entry Error)
    → MvccStream (Merger (RunRange A) A) (Result Entry Error) → Type 0)
    → Bound (List ℕ) × Bound (List ℕ) → List (List OpenTable)
    → Result (Option Entry × MvccStream (Merger (RunRange A) A) (Result Entry Error)) Error
    → Type 0
ReadsSpans next next_back range runs r =
    IfOk r (λ read. IsOverSpans next next_back range.0 range.1 runs read.1)

module _ {S : Type 0} (next next_back : S → Option (Result Entry Error) → S → Type 0)
    (key : List ℕ) (bound : ℕ) (range : Bound (List ℕ) × Bound (List ℕ)) where
  -- they read all lists that the runs hold
  abbrev pub ReadsUnion : {Z : Type 0} → List (Arc (List OpenTable) Z)
      → Result (Option Entry × S) Error → Type 0
  ReadsUnion runs r =
      (lists : TableLists) → RunsHold runs lists →
      IfOk r (ReadsOf next next_back key bound range.0 range.1 (union_in lists))

  -- they read the list of a run, the global seqno applied
  abbrev pub ReadsRun : List OpenTable → Result (Option Entry × S) Error → Type 0
  ReadsRun run r =
      (es : List Entry) (g : ℕ) → IsRunOfList es g run →
      IfOk r (ReadsOf next next_back key bound range.0 range.1 (lift es g))

  -- they read this list; there is no result only if another list has no entry
  abbrev pub ReadsSome : List Entry → List Entry → Result (Option (Option Entry × S)) Error
      → Type 0
  ReadsSome others es r = IfOk r (λ o. MatchOption o (others ≡ [])
      (ReadsOf next next_back key bound range.0 range.1 es))

  module _ {Z : Type 0} where
    -- they read all lists of the runs before a part, of the part, and of the runs after it
    abbrev pub ReadsSides : (front part behind : List (Arc (List OpenTable) Z))
        → Result (Option Entry × S) Error → Type 0
    ReadsSides front part behind r = OnSides front part behind (λ fs ps bs.
        IfOk r (ReadsOf next next_back key bound range.0 range.1 (union_in (fs ++ (ps ++ bs)))))

    -- they read what is kept of the part's lists, and the other lists
    abbrev pub ReadsSidesKept : Rules → (front part behind : List (Arc (List OpenTable) Z))
        → Result (Option Entry × S) Error → Type 0
    ReadsSidesKept rules front part behind r = OnSides front part behind (λ fs ps bs.
        IfOk r (ReadsKept next next_back key bound range.0 range.1 rules fs ps bs))

    -- the first reads are those before the part is compacted
    abbrev pub ReadsBefore : (front part behind : List (Arc (List OpenTable) Z))
        → Result ((Option Entry × S) × (Option Entry × S)) Error → Type 0
    ReadsBefore front part behind r = OnSides front part behind (λ fs ps bs.
        IfOk r (λ x.
        ReadsOf next next_back key bound range.0 range.1 (union_in (fs ++ (ps ++ bs))) x.0))

    -- the second reads are those after it
    abbrev pub ReadsAfter : Rules → (front part behind : List (Arc (List OpenTable) Z))
        → Result ((Option Entry × S) × (Option Entry × S)) Error → Type 0
    ReadsAfter rules front part behind r = OnSides front part behind (λ fs ps bs.
        IfOk r (λ x. ReadsKept next next_back key bound range.0 range.1 rules fs ps bs x.1))

    -- both show the same if no key has one seqno twice, and the part is plain or its entries are
    -- older than all others of their keys
    abbrev pub ReadsAlike : Rules → (front part behind : List (Arc (List OpenTable) Z))
        → Result ((Option Entry × S) × (Option Entry × S)) Error → Type 0
    ReadsAlike rules front part behind r = OnSides front part behind (λ fs ps bs.
        IsStrict (union_in (fs ++ (ps ++ bs))) → IsPlain rules (union_in ps)
        ⊎ AllNewer (union_in ps) (union_in (fs ++ bs)) → IfOk r (λ x.
        ShowAlike next next_back key bound range.0 range.1 rules.watermark x.0 x.1))
