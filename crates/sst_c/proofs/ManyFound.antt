-- What many reads find of some keys. Assumes `Logic`.
use Rattle.std.proofs.Common.{◌≡◌, ℕ, List, [], ◌∷◌, length, refl, ap, ◌∙◌, subst}
use Rattle.std.specs.Prelude.{map, Option, Result, Ok, Err, IfOk}
use Rattle.std.specs.Global.{Global}
use Rattle.sst_entries.specs.Entry.{Entry}
use Rattle.sst_entries.specs.Error.{Gives}
use Rattle.sst_entries.specs.Point.{point}
use Rattle.sst_entries.specs.declared.error.Error.{Error}
use Rattle.lsm_readers.specs.point.Many.{answers_to}
use Rattle.lsm_readers.specs.declared.many.Query.{Query}
use Rattle.sst_c.specs.Many.{queries_for, query_at}
use Rattle.sst_c.proofs.ManyAnswers.{as_many, cut_length}

-- what is found by the queries for keys is what is found of the keys
points_of : (all : List Entry) (seqno : ℕ) (ks : List (List ℕ))
    → map (λ (q : Query Global). point all q.key q.seqno) (map (query_at seqno) ks)
    ≡ map (λ k. point all k seqno) ks
points_of all seqno [] = refl
points_of all seqno (k ∷ ks) = ap (λ found. point all k seqno ∷ found) (points_of all seqno ks)

pub list_given : {X : Type 0} (view : X → List (Option Entry)) (r : Result X Error)
    (all : List Entry) (seqno : ℕ) (ks : List (List ℕ)) (queries : List (Query Global))
    → queries ≡ map (query_at seqno) ks
    → Gives view r (Ok (map (λ (q : Query Global). point all q.key q.seqno) queries))
    → Gives view r (Ok (map (λ k. point all k seqno) ks))
list_given view r all seqno ks queries are gives =
    subst (λ (ys : List (Option Entry)). Gives view r (Ok ys))
    (ap (map (λ (q : Query Global). point all q.key q.seqno)) are ∙ points_of all seqno ks) gives

-- there are as many answers as keys
pub counted : {X : Type 0} (view : X → List (Option Entry)) (r : Result X Error)
    (f : Query Global → Result (Option Entry) Error) (bytes lens : List ℕ) (seqno : ℕ)
    (queries : List (Query Global)) → queries ≡ queries_for bytes lens seqno
    → Gives view r (answers_to f queries)
    → IfOk r (λ (x : X). length (view x) ≡ length lens)
counted view (Ok x) f bytes lens seqno queries are gives =
    as_many f queries (view x) gives ∙ (ap length are ∙ cut_length lens bytes seqno)
counted view (Err e) f bytes lens seqno queries are gives = tt
