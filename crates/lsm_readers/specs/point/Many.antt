-- Many point reads of one table, over any bytes.
use Rattle.std.specs.Prelude.{ℕ, List, [], ◌∷◌, map, Option, Result, Ok}
use Rattle.sst_entries.specs.declared.error.Error.{Error}
use Rattle.sst_entries.specs.Entry.{Entry}
use Rattle.sst_entries.specs.Point.{point}
use Rattle.lsm_iters.specs.Lift.{lift}
use Rattle.lsm_readers.specs.declared.many.Query.{Query}
use Rattle.lsm_readers.specs.point.Answer.{table_answer}
use Rattle.lsm_readers.specs.point.Read.{◌>>=◌}
use Rattle.lsm_readers.specs.point.Table.{OpenTable}

-- The result of each query in order, or the error of the earliest that fails.
abbrev pub answers_to : {X Y : Type 0} → (X → Result Y Error) → List X → Result (List Y) Error
answers_to f [] = Ok []
answers_to f (x ∷ xs) = f x >>= λ y. answers_to f xs >>= λ ys. Ok (y ∷ ys)

-- The result of a point read for a query.
abbrev pub found_result : {A : Type 0} → OpenTable → Query A → Result (Option Entry) Error
found_result t q = (table_answer t q.key q.seqno).returned

-- The results of point reads for some queries.
abbrev pub many_results : {A : Type 0} → OpenTable → List (Query A)
    → Result (List (Option Entry)) Error
many_results t queries = answers_to (found_result t) queries

-- The newest visible version of each query's key in a list, global seqno applied.
abbrev pub points : {A : Type 0} → List Entry → ℕ → List (Query A) → List (Option Entry)
points es g queries = map (λ q. point (lift es g) q.key q.seqno) queries
