-- Merges and compactions that are read from the front only.
use Rattle.std.specs.Prelude.{◌≡◌, Bool, List, [], Option}
use Rattle.std.specs.Iterator.{Count}
use Rattle.sst_entries.specs.declared.error.Error.{Error}
use Rattle.sst_entries.specs.Stream.{YieldsExactly, answer_stops, nowhere, ok_results}
use Rattle.lsm_sorted.specs.Compaction.{kept, unfiltered}
use Rattle.lsm_sorted.specs.declared.compaction.Rules.{Rules}
use Rattle.lsm_sorted.specs.merge.Ends.{R}
use Rattle.lsm_sorted.specs.merge.MergeLaws.{CanMerge, YieldSorted}
use Rattle.lsm_sorted.specs.merge.Union.{all_errors, union_of}

-- if sources yield sorted lists without errors, a stream yields what the rules keep of their union
abbrev pub KeepsSorted : {S T : Type 0} (next : S → Option R → S → Type 0) → List S → Rules
    → (gives : T → Option R → T → Type 0) → T → Type 0
KeepsSorted next its rules gives t = (stops : Error → Bool) (lists : List (List R))
    → YieldSorted next nowhere stops its lists → all_errors lists ≡ []
    → YieldsExactly (answer_stops stops) gives nowhere t
    (ok_results (kept rules (unfiltered (union_of lists))))

-- if the sources may be called from the front and are finite, so may the merger
abbrev pub CanMergeFront : {S T : Type 0} (next : S → Option R → S → Type 0) (can : S → Type 0)
    (left : S → Count) → List S → (gives : T → Option R → T → Type 0) (may : T → Type 0) → T
    → Type 0
CanMergeFront next can left its gives may m =
    CanMerge next nowhere can can left its gives nowhere may may m
