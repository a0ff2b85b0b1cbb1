-- Further lending sources beside the readers of runs.
use Rattle.std.specs.Prelude.{◌≡◌, ◌++◌, ◌<◌, ℕ, All, IfOk, List, map, Option, Result}
use Rattle.std.specs.List.{AllZip}
use Rattle.std.specs.declared.ops.Bound.{Bound}
use Rattle.std.specs.declared.sync.Arc.{Arc}
use Rattle.sst_entries.specs.declared.error.Error.{Error}
use Rattle.sst_entries.specs.Entry.{Entry}
use Rattle.sst_entries.specs.Point.{within}
use Rattle.sst_entries.specs.Stream.{but_first, first, ok_results}
use Rattle.lsm_sorted.specs.Below.{below_results, numbered_below}
use Rattle.lsm_sorted.specs.lending.LentNewest.{newest_results}
use Rattle.lsm_sorted.specs.merge.InPlace.{merge_of}
use Rattle.lsm_sorted.specs.merge.Union.{newest}
use Rattle.lsm_readers.specs.point.Table.{OpenTable}
use Rattle.lsm_runs.specs.LentNewestRuns.{EachAscends, LendsResults, runs_results_within}
use Rattle.lsm_runs.specs.RunLists.{AreRunsInOrder, OnLists, YieldWithin, YieldsList, each_run, single}
use Rattle.lsm_runs.specs.SeveralRuns.{union_in}

-- a list that is lent from its front: the entries that remain, and the one that is lent
pub record EntriesLeft : Type 0 where
  pub rest : List Entry
  pub current : Option Entry

-- a step lends the first entry that remains
abbrev pub LendsFirst : EntriesLeft → Option (Result Entry Error) → EntriesLeft → Type 0
LendsFirst s r t = (r ≡ first (ok_results s.rest)) × (t.rest ≡ but_first s.rest)

-- each source lends one of these lists of results
abbrev pub LendEach : {S : Type 0} → (S → Option (Result Entry Error) → S → Type 0)
    → List (List (Result Entry Error)) → List S → Type 0
LendEach advances given sources = AllZip (λ rs s. LendsResults advances rs s) given sources

-- sources that each yield the part within the bounds of a sorted list, beside runs that hold lists:
-- a call returned a stream of the newest versions below a seqno of all these lists within the bounds
abbrev pub SourcesYieldNewestBelow : {S T Z : Type 0}
    (front back : S → Option (Result Entry Error) → S → Type 0)
    (next next_back : T → Option (Result Entry Error) → T → Type 0) → ℕ → Bound (List ℕ)
    → Bound (List ℕ) → List (Arc (List OpenTable) Z) → List S → Result T Error → Type 0
SourcesYieldNewestBelow front back next next_back bound low high runs sources r =
    OnLists runs (λ lists. (further : List (List Entry)) →
    YieldWithin front back low high sources further →
    let all = union_in (map single further ++ lists) in
    IfOk r (YieldsList next next_back (newest (numbered_below bound (within low high all)))))

-- if every seqno is below this one, it yields the newest versions of all
abbrev pub SourcesYieldAllBelow : {S T Z : Type 0}
    (front back : S → Option (Result Entry Error) → S → Type 0)
    (next next_back : T → Option (Result Entry Error) → T → Type 0) → ℕ → Bound (List ℕ)
    → Bound (List ℕ) → List (Arc (List OpenTable) Z) → List S → Result T Error → Type 0
SourcesYieldAllBelow front back next next_back bound low high runs sources r =
    OnLists runs (λ lists. (further : List (List Entry)) →
    YieldWithin front back low high sources further →
    let all = union_in (map single further ++ lists) in
    All (λ (e : Entry). e.seqno < bound) all →
    IfOk r (YieldsList next next_back (newest (within low high all))))

-- sources that each lend any results, beside runs in order, where the entries of each source and run
-- come in order up to its first error: a call returned a source that lends the newest of all these
-- results below a seqno, merged up to the first error
abbrev pub SourcesLendNewest : {S T Z : Type 0} → (S → Option (Result Entry Error) → S → Type 0)
    → (T → Option (Result Entry Error) → T → Type 0) → ℕ → Bound (List ℕ) → Bound (List ℕ)
    → List (Arc (List OpenTable) Z) → List S → Result T Error → Type 0
SourcesLendNewest advances next bound low high runs sources r =
    (given : List (List (Result Entry Error))) → LendEach advances given sources →
    AreRunsInOrder runs →
    let returned = given ++ runs_results_within low high (each_run runs) in
    EachAscends returned →
    IfOk r (LendsResults next (newest_results (merge_of (map (below_results bound) returned))))
