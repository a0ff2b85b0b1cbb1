-- What holds of several runs in order holds of one run alone.
use Rattle.std.proofs.Common.{◌≡◌, sym, subst, ℕ, List, [], ◌∷◌}
use Rattle.std.specs.Prelude.{IfOk, Option, Result}
use Rattle.std.specs.List.{AllByRecursion}
use Rattle.std.specs.declared.ops.Bound.{Bound}
use Rattle.sst_entries.specs.declared.error.Error.{Error}
use Rattle.sst_entries.specs.Entry.{Entry}
use Rattle.lsm_sorted.specs.declared.merge.Merger.{Merger}
use Rattle.lsm_sorted.specs.version.Run.{IsInOrder}
use Rattle.lsm_readers.specs.point.Table.{OpenTable}
use Rattle.lsm_sorted.specs.declared.mvcc_stream.MvccStream.{MvccStream}
use Rattle.lsm_run_parts.specs.RunParts.{range_of}
use Rattle.lsm_runs.specs.RunRange.{RunRange}
use Rattle.lsm_runs.specs.SpansRead.{IsOverSpans}

pub of_one : (P : List (List OpenTable) → Type 0) (runs : List (List OpenTable))
    (run : List OpenTable) → runs ≡ run ∷ [] → (AllByRecursion (IsInOrder range_of) runs → P runs)
    → IsInOrder range_of run → P (run ∷ [])
of_one P runs run is holds order = subst P is
    (holds (subst (AllByRecursion (IsInOrder range_of)) (sym is) (order, tt)))

-- a stream over the readers of spans
abbrev pub Newest : Type 0 → Type 0
Newest A = MvccStream (Merger (RunRange A) A) (Result Entry Error)

pub over_one : {A : Type 0} (next next_back : Newest A → Option (Result Entry Error) → Newest A
    → Type 0) (low high : Bound (List ℕ)) (r : Result (Option Entry × Newest A) Error)
    (runs : List (List OpenTable)) (run : List OpenTable) → runs ≡ run ∷ []
    → (AllByRecursion (IsInOrder range_of) runs → IfOk r
    (λ read. IsOverSpans next next_back low high runs read.1)) → IsInOrder range_of run
    → IfOk r (λ read. IsOverSpans next next_back low high (run ∷ []) read.1)
over_one next next_back low high r = of_one (λ (rs : List (List OpenTable)). IfOk r
    (λ read. IsOverSpans next next_back low high rs read.1))
