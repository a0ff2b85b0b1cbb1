-- A table holds one list, and so does each table of several runs.
use Rattle.std.proofs.Common.{◌≡◌, refl, sym, ◌∙◌, ap, List, [], ◌∷◌}
use Rattle.std.specs.Prelude.{Err, IfOk, MatchResult, Ok, Result}
use Rattle.sst_entries.specs.declared.error.Error.{Error}
use Rattle.std.specs.declared.ops.Bound.TheVariants.{Unbounded}
use Rattle.sst_entries.specs.Entry.{Entry}
use Rattle.sst_entries.specs.Point.{within}
use Rattle.sst_entries.specs.Stream.{ok_results}
use Rattle.lsm_sorted.specs.merge.Union.{entries_among}
use Rattle.lsm_readers.specs.point.Table.{OpenTable}
use Rattle.lsm_runs.specs.RunLists.{HoldLists, HoldsList, RunsHoldLists}
use Rattle.lsm_runs.proofs.RunWithin.{held_result}
use Rattle.lsm_runs.proofs.Unions.{entries_of}
use Rattle.lsm_iters.proofs.Cuts.{all_within}

same_results : (es us : List Entry) → ok_results es ≡ ok_results us → es ≡ us
same_results es us same = sym (entries_of es) ∙ ap entries_among same ∙ entries_of us

pub one_list : (t : OpenTable) (es us : List Entry) → HoldsList t es → HoldsList t us → es ≡ us
one_list t es us h k =
    sym (all_within es)
    ∙ same_results (within Unbounded Unbounded es) (within Unbounded Unbounded us)
    (sym (held_result t es h Unbounded Unbounded) ∙ held_result t us k Unbounded Unbounded)
    ∙ all_within us

one_each : (ts : List OpenTable) (ls ms : List (List Entry)) → HoldLists ts ls → HoldLists ts ms
    → ls ≡ ms
one_each [] [] [] h k = refl
one_each [] (es ∷ ls) ms h k = absurd h
one_each [] [] (us ∷ ms) h k = absurd k
one_each (t ∷ ts) [] ms h k = absurd h
one_each (t ∷ ts) (es ∷ ls) [] h k = absurd k
one_each (t ∷ ts) (es ∷ ls) (us ∷ ms) h k =
    ap (λ (xs : List Entry). xs ∷ ls) (one_list t es us h.0 k.0)
    ∙ ap (λ (ns : List (List Entry)). us ∷ ns) (one_each ts ls ms h.1 k.1)

pub one_way : (runs : List (List OpenTable)) (lists others : List (List (List Entry)))
    → RunsHoldLists runs lists → RunsHoldLists runs others → lists ≡ others
one_way [] [] [] h k = refl
one_way [] (ls ∷ lists) others h k = absurd h
one_way [] [] (ms ∷ others) h k = absurd k
one_way (ts ∷ runs) [] others h k = absurd h
one_way (ts ∷ runs) (ls ∷ lists) [] h k = absurd k
one_way (ts ∷ runs) (ls ∷ lists) (ms ∷ others) h k =
    ap (λ (ns : List (List Entry)). ns ∷ lists) (one_each ts ls ms h.0.1 k.0.1)
    ∙ ap (λ (os : List (List (List Entry))). ms ∷ os) (one_way runs lists others h.1 k.1)

-- ---- two values, of which the second may be refused

pub beside_ok : {T U : Type 0} (P : T → Type 0) (Q : U → Type 0) (x : T) (second : Result U Error)
    (r : Result (T × U) Error) → MatchResult second (λ y. r ≡ Ok (x, y)) (λ e. r ≡ Err e) → P x
    → IfOk second Q → IfOk r (λ both. P both.0 × Q both.1)
beside_ok P Q x (Ok y) r returned p q = rw returned (p, q)
beside_ok P Q x (Err e) r returned p q = rw returned tt
