-- A writer that had written nothing and took its list, entry by entry.
use Rattle.std.proofs.Common.{◌≡◌, refl, sym, ◌∙◌, ap, subst, false, List, [], ◌∷◌, ◌++◌}
use Rattle.std.specs.Prelude.{IfErr, IfOk, IsErrAnd, OnOk, Option, Some, None, Result, Ok, Err}
use Rattle.sst_entries.specs.declared.error.Error.{Error}
use Rattle.sst_entries.specs.Entry.{Entry}
use Rattle.sst_entries.specs.Error.{is_memory}
use Rattle.sst_entries.specs.Stream.{ok_results}
use Rattle.lsm_sorted.specs.merge.Ends.{R}
use Rattle.lsm_writers.specs.Streamed.{took_each}
use Rattle.lsm_writers.specs.Tables.{IsFreshRun, TablesWriting, all_written, run_fault, took}
use Rattle.lsm_writers.specs.Tables.{took_fault}
use Rattle.lsm_runs.specs.compaction.AnyRuns.{TookList, results_fault}
use Rattle.lsm_runs.specs.compaction.Chain.{writes_fault}
use Rattle.lsm_runs.proofs.AnyTaken.{Taking, are_taken}
use Rattle.lsm_runs.proofs.RunWriting.{left_none}
use Rattle.lsm_runs.proofs.WritesOn.{none_refused}
use Rattle.lsm_runs.proofs.WrittenBy.{Since, since_more, since_now}

-- ---- entry by entry

pub took_none : (w : TablesWriting) → all_written w ≡ [] → w ≡ took_each w (all_written w)
took_none w none = ap (took_each w) (sym none)

took_one : (w : TablesWriting) (es : List Entry) (e : Entry)
    → took_each w (es ++ e ∷ []) ≡ took (took_each w es) e
took_one w [] e = refl
took_one w (x ∷ es) e = took_one (took w x) es e

pub took_more : (w m n : TablesWriting) (e : Entry) → m ≡ took_each w (all_written m) → n ≡ took m e
    → all_written n ≡ all_written m ++ e ∷ [] → n ≡ took_each w (all_written n)
took_more w m n e h is listed =
    is ∙ ap (λ (x : TablesWriting). took x e) h ∙ sym (took_one w (all_written m) e)
    ∙ ap (took_each w) (sym listed)

pub took_list : (w m : TablesWriting) (es : List Entry) → Taking w m
    → m ≡ took_each w (all_written m) → all_written m ≡ es → TookList w es m
took_list w m es h is listed = subst (λ (xs : List Entry). TookList w xs m) listed
    (record { taken = are_taken w m h; is = is; listed = refl })

-- ---- what holds then

none_behind : (m : TablesWriting) (e : Entry) (es : List Entry)
    → results_fault m (ok_results (e ∷ es)) ≡ None → results_fault (took m e) (ok_results es) ≡ None
none_behind m e es fine =
    sym (none_refused (took_fault m e) (results_fault (took m e) (ok_results es))
    (left_none _ _ fine)) ∙ fine

-- what is refused behind entries that are taken
pub behind_taken : (m : TablesWriting) (es : List Entry) (rs : List R)
    → results_fault m (ok_results es) ≡ None
    → results_fault m (ok_results es ++ rs) ≡ results_fault (took_each m es) rs
behind_taken m [] rs fine = refl
behind_taken m (e ∷ es) rs fine =
    none_refused (took_fault m e) (results_fault (took m e) (ok_results es ++ rs))
    (left_none _ _ fine) ∙ behind_taken (took m e) es rs (none_behind m e es fine)

pub since_all : (w : TablesWriting) → IsFreshRun w → (m : TablesWriting) (es : List Entry) → Since w m
    → results_fault m (ok_results es) ≡ None → Since w (took_each m es)
since_all w fresh m [] h fine = h
since_all w fresh m (e ∷ es) h fine = since_all w fresh (took m e) es
    (since_more w m fresh e h (left_none _ _ fine)) (none_behind m e es fine)

ends_all : (m : TablesWriting) (es : List Entry) → results_fault m (ok_results es) ≡ None
    → writes_fault m es ≡ run_fault (took_each m es)
ends_all m [] fine = refl
ends_all m (e ∷ es) fine =
    none_refused (took_fault m e) (writes_fault (took m e) es) (left_none _ _ fine)
    ∙ ends_all (took m e) es (none_behind m e es fine)

pub list_since : (w : TablesWriting) (es : List Entry) (m : TablesWriting) → IsFreshRun w
    → TookList w es m → Since w m
list_since w es m fresh h = subst (Since w) (sym h.is)
    (since_all w fresh w es (since_now w fresh) h.taken.none)

pub list_ends : (w : TablesWriting) (es : List Entry) (m : TablesWriting) → TookList w es m
    → writes_fault w es ≡ run_fault m
list_ends w es m h = ends_all w es h.taken.none ∙ ap run_fault (sym h.is)

-- a refusal that is passed on
pub err_fault : {X : Type 0} (r : Result X Error) (f : Error) (returned : Option Error)
    → IsErrAnd r (λ y. y ≡ f) → (is_memory f ≡ false → returned ≡ Some f)
    → IfErr r (λ e. is_memory e ≡ false → returned ≡ Some e)
err_fault (Ok x) f returned is h = tt
err_fault (Err y) f returned is h =
    subst (λ (e : Error). is_memory e ≡ false → returned ≡ Some e) (sym is) h

-- what holds where a call answers holds once it did
pub on_ok : {P X : Type 0} (r : Result X Error) (x : X) → r ≡ Ok x → OnOk r P → P
on_ok {P} {X} r x is h = subst (λ (t : Result X Error). OnOk t P) is h

pub ok_at : {X : Type 0} (P : X → Type 0) (r : Result X Error) (x : X) → r ≡ Ok x → IfOk r P → P x
ok_at {X} P r x is h = subst (λ (t : Result X Error). IfOk t P) is h

pub err_at : {X : Type 0} (P : Error → Type 0) (r : Result X Error) (e : Error) → r ≡ Err e
    → IfErr r P → P e
err_at {X} P r e is h = subst (λ (t : Result X Error). IfErr t P) is h
