-- The readers of several runs within two bounds, before any call, and the stream over them.
use Rattle.std.specs.Prelude.{ℕ, All, IfOk, List, [], ◌∷◌, ◌++◌, map, Option, Some, None, Result}
use Rattle.std.specs.List.{AllZip, flat_map}
use Rattle.std.specs.declared.ops.Bound.{Bound}
use Rattle.std.specs.declared.sync.Arc.{Arc}
use Rattle.either.specs.declared.Either.{Either}
use Rattle.either.specs.declared.Either.TheVariants.{Left, Right}
use Rattle.sst_entries.specs.declared.error.Error.{Error}
use Rattle.sst_entries.specs.Entry.{Entry}
use Rattle.sst_entries.specs.Stream.{back_of, front_of}
use Rattle.lsm_iters.specs.block_index.Yielded.{YieldsEnding}
use Rattle.lsm_sorted.specs.declared.merge.Merger.{Merger}
use Rattle.lsm_sorted.specs.version.Run.{overlap_indexes}
use Rattle.lsm_readers.specs.point.Table.{OpenTable}
use Rattle.lsm_sorted.specs.Below.{below_of}
use Rattle.lsm_sorted.specs.NewestLaws.{AnswersNewest, IsNewestOf}
use Rattle.lsm_sorted.specs.declared.below.Below.{Below}
use Rattle.lsm_sorted.specs.declared.mvcc_stream.MvccStream.{MvccStream}
use Rattle.lsm_run_parts.specs.RunParts.{RunSpan, ranges_of, span_of}
use Rattle.lsm_runs.specs.RunLists.{AreRunsInOrder, each_run}
use Rattle.lsm_runs.specs.RunRange.{IsRunOf, RunGives, RunRange, back_tables, front_tables}
use Rattle.lsm_runs.specs.RunRange.{run_left}

-- the tables of a run, with the span from a first index to a last, if there are any
abbrev pub span_at : List OpenTable → Bound (List ℕ) → Bound (List ℕ) → Option (ℕ × ℕ)
    → List (List OpenTable × RunSpan)
span_at tables low high None = []
span_at tables low high (Some ends) = (tables, span_of ends low high) ∷ []

-- each run that has a table whose range reaches past both bounds, with the span of these tables
abbrev pub spans_within : Bound (List ℕ) → Bound (List ℕ) → List (List OpenTable)
    → List (List OpenTable × RunSpan)
spans_within low high runs =
    flat_map (λ tables. span_at tables low high (overlap_indexes low high (ranges_of tables))) runs

-- readers of these spans, before any call
abbrev pub AreReadersWithin : {A : Type 0} → Bound (List ℕ) → Bound (List ℕ)
    → List (List OpenTable) → List (RunRange A) → Type 0
AreReadersWithin low high runs readers =
    AllZip (λ reader run. IsRunOf run.0 run.1 reader) readers (spans_within low high runs)

-- a stream of newest versions before any call, over one reader of each of these spans. A reader
-- yields the results of its tables up to its first error, `OutOfMemory` included, and nothing after
-- it. For every list of ends, the stream steps over all entries, or over those left where an error
-- that was met takes the place of a stretch
pub record IsOverSpans {A : Type 0}
    (next next_back : MvccStream (Merger (RunRange A) A) (Result Entry Error)
    → Option (Result Entry Error)
    → MvccStream (Merger (RunRange A) A) (Result Entry Error) → Type 0)
    (low high : Bound (List ℕ)) (runs : List (List OpenTable))
    (s : MvccStream (Merger (RunRange A) A) (Result Entry Error)) : Type 0 where
  pub readers : List (RunRange A)
  pub spans : AreReadersWithin low high runs readers
  pub yield_each : All (λ reader. YieldsEnding (RunGives front_of front_tables)
      (RunGives back_of back_tables) (λ _. Unit {0}) (λ _. Unit {0}) reader
      (run_left reader)) readers
  pub of : IsNewestOf readers s
  pub answers : AnswersNewest (RunGives front_of front_tables) (RunGives back_of back_tables)
      readers next next_back s

-- for runs in order, a call returned such a stream
abbrev pub StepsOverSpans : {A Z : Type 0}
    (next next_back : MvccStream (Merger (RunRange A) A) (Result Entry Error)
    → Option (Result Entry Error)
    → MvccStream (Merger (RunRange A) A) (Result Entry Error) → Type 0)
    → Bound (List ℕ) → Bound (List ℕ) → List (Arc (List OpenTable) Z)
    → Result (MvccStream (Merger (RunRange A) A) (Result Entry Error)) Error → Type 0
StepsOverSpans next next_back low high runs r =
    AreRunsInOrder runs → IfOk r (IsOverSpans next next_back low high (each_run runs))

-- the same over the entries of each of these readers that are below a seqno, and its errors
pub record IsOverSpansBelow {A : Type 0}
    (gives back_gives : Below (RunRange A) → Option (Result Entry Error) → Below (RunRange A)
    → Type 0)
    (next next_back : MvccStream (Merger (Below (RunRange A)) A) (Result Entry Error)
    → Option (Result Entry Error)
    → MvccStream (Merger (Below (RunRange A)) A) (Result Entry Error) → Type 0)
    (low high : Bound (List ℕ)) (bound : ℕ) (runs : List (List OpenTable))
    (s : MvccStream (Merger (Below (RunRange A)) A) (Result Entry Error)) : Type 0 where
  pub readers : List (RunRange A)
  pub spans : AreReadersWithin low high runs readers
  pub yield_each : All (λ reader. YieldsEnding (RunGives front_of front_tables)
      (RunGives back_of back_tables) (λ _. Unit {0}) (λ _. Unit {0}) reader
      (run_left reader)) readers
  pub of : IsNewestOf (map (below_of bound) readers) s
  pub answers : AnswersNewest gives back_gives (map (below_of bound) readers) next next_back s

-- further sources, then readers of runs
abbrev pub with_readers : {R S : Type 0} → List S → List R → List (Either R S)
with_readers sources readers = map (λ y. Right y) sources ++ map (λ x. Left x) readers

-- the same over further sources and then these readers: over their entries below a seqno, and their
-- errors
pub record IsOverSourcesBelow {S A : Type 0}
    (gives back_gives : Below (Either (RunRange A) S) → Option (Result Entry Error)
    → Below (Either (RunRange A) S) → Type 0)
    (next next_back : MvccStream (Merger (Below (Either (RunRange A) S)) A) (Result Entry Error)
    → Option (Result Entry Error)
    → MvccStream (Merger (Below (Either (RunRange A) S)) A) (Result Entry Error) → Type 0)
    (low high : Bound (List ℕ)) (bound : ℕ) (runs : List (List OpenTable)) (sources : List S)
    (s : MvccStream (Merger (Below (Either (RunRange A) S)) A) (Result Entry Error)) : Type 0 where
  pub readers : List (RunRange A)
  pub spans : AreReadersWithin low high runs readers
  pub yield_each : All (λ reader. YieldsEnding (RunGives front_of front_tables)
      (RunGives back_of back_tables) (λ _. Unit {0}) (λ _. Unit {0}) reader
      (run_left reader)) readers
  pub of : IsNewestOf (map (below_of bound) (with_readers sources readers)) s
  pub answers : AnswersNewest gives back_gives
      (map (below_of bound) (with_readers sources readers)) next next_back s
