-- Tables that a stream yielded are those that its writer makes of the list.
use Rattle.std.proofs.Common.{◌≡◌, refl, sym, ◌∙◌, ap, subst, ℕ, List, [], ◌∷◌}
use Rattle.std.specs.Prelude.{Option, None}
use Rattle.sst_entries.specs.Entry.{Entry}
use Rattle.sst_entries.specs.Stream.{ok_results}
use Rattle.sst_entries.specs.Strict.{IsStrict}
use Rattle.lsm_writers.specs.declared.writer.FinishedTable.{FinishedTable}
use Rattle.lsm_writers.specs.Streamed.{AreAll, NoneFails, entries_before, took_each}
use Rattle.lsm_writers.specs.Tables.{AreTables, TablesWriting, tables_of, took, took_fault}
use Rattle.lsm_runs.specs.compaction.AnyRuns.{results_fault}
use Rattle.lsm_runs.specs.compaction.Compacted.{StreamedLaw}
use Rattle.lsm_runs.proofs.TookList.{since_all}
use Rattle.lsm_runs.proofs.WritesOn.{none_refused}
use Rattle.lsm_runs.proofs.WrittenBy.{list_finished, since_now}

listed_results : (es : List Entry) → entries_before (ok_results es) ≡ es
listed_results [] = refl
listed_results (e ∷ es) = ap (λ (xs : List Entry). e ∷ xs) (listed_results es)

none_results : (m : TablesWriting) (es : List Entry) → NoneFails m es
    → results_fault m (ok_results es) ≡ None
none_results m [] n = refl
none_results m (e ∷ es) n =
    none_refused (took_fault m e) (results_fault (took m e) (ok_results es)) n.0
    ∙ none_results (took m e) es n.1

pub streamed_law : (A : Type 0) → StreamedLaw A
streamed_law A w es gs left fresh next all =
    let m = took_each w all.list in
    let same : all.list ≡ es =
    sym (listed_results all.list) ∙ ap entries_before (sym all.whole) ∙ listed_results es in
    let since = since_all w fresh w all.list (since_now w fresh) (none_results w all.list all.none) in
    list_finished w m fresh next since es gs left all.left_is (subst IsStrict same all.writable.strict)
    (subst (λ (xs : List Entry). AreTables m.present.options.data_block_size m.target xs
    (tables_of m)) same all.cut) all.order all.finished
