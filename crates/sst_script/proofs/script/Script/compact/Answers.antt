use Rattle.std.proofs.Common.{◌≡◌, ◌∙◌, sym, ap, subst, refl, ◌∷◌, [], length, List, false, rules}
use Rattle.std.specs.Prelude.{None, Some, map}
use Rattle.std.specs.Arc.{arc_value}
use Rattle.sst_entries.specs.Entry.{Entry}
use Rattle.sst_entries.specs.Error.{is_memory}
use Rattle.lsm_readers.specs.point.Table.{OpenTable}
use Rattle.lsm_runs.specs.compaction.Chain.{AreCutOf, IsRunOfList, run_label, tables_fault}
use Rattle.lsm_runs.specs.compaction.Compacted.{AreCompactable, kept_in, rules_by}
use Rattle.sst_script.specs.declared.stop.Failure.TheVariants.{Refused}
use Rattle.sst_script.specs.Script.{kept_by, target_size}
use Rattle.sst_script.proofs.CompactLemmas.{able_none, compacted, compacted_away, compaction_fails, kept_is, moved, not_compacted}
use Rattle.sst_script.proofs.RunLemmas.{held, lists_of}
use Rattle.sst_script.proofs.script.Script.compact.Goals as goal

pub returns-in_err-run-clause-done : goal.returns-in_err-run-clause-done
returns-in_err-run-clause-done g c runs same =
    let s = c.args.self.now in
    let a = c.args in
    let e = c.in_err-run.field-0.0 in
    let left = kept_by a.watermark a.evict a.zero runs in
    let own = held runs (map arc_value c.deref.result.now) (same ∙ ap (map arc_value) (sym c.deref.ensures.value)) in
    let moment : c.from.result ≡ 0 = search rules in
    let fault = moved (λ m es. is_memory e ≡ false → tables_fault s.ids target_size m es ≡ Some e) c.from.result 0 (kept_in (rules_by a.watermark a.evict a.zero) (lists_of runs)) left moment (kept_is a.watermark a.evict a.zero runs) (c.in_err-run.ensures.refused (lists_of runs) own) in
    not_compacted s.pending left s.ids runs (map arc_value s.runs.items) same c.from_residual-in_err-run.result (Refused e) c.from_residual-in_err-run.ensures.1
    (compaction_fails s.pending left s.ids runs (map arc_value s.runs.items) same e fault)

pub returns-clause-done : goal.returns-clause-done
returns-clause-done g c runs same =
    let s = c.args.self.now in
    let a = c.args in
    let rules_are = rules_by a.watermark a.evict a.zero in
    let left = kept_by a.watermark a.evict a.zero runs in
    let of = kept_in rules_are (lists_of runs) in
    let is = kept_is a.watermark a.evict a.zero runs in
    let own = held runs (map arc_value c.deref.result.now) (same ∙ ap (map arc_value) (sym c.deref.ensures.value)) in
    let tables = c.in-Some.run' in
    let moment : c.from.result ≡ 0 = search rules in
    compacted s.pending left s.ids runs (map arc_value s.runs.items) same (map arc_value c.in_ok-self.field-0.items) c.in_ok-run.next_ids tables _
    c.in_ok-self.ensures.ok
    (ap length c.as_slice.ensures)
    (moved (λ m es. tables_fault s.ids target_size m es ≡ None) c.from.result 0 of left moment is (c.in_ok-run.ensures.refused (lists_of runs) own))
    (rw c.in-Some.is at c.in_ok-run.ensures.ids)
    (subst (λ (es : List Entry). IsRunOfList es 0 tables) is (rw c.in-Some.is at (c.in_ok-run.ensures.run (lists_of runs) own)))
    (moved (λ m es. AreCutOf (run_label s.ids target_size m) target_size es 0 tables) c.from.result 0 of left moment is (rw c.in-Some.is at (c.in_ok-run.ensures.cut (lists_of runs) own)))

pub returns-clause-able : goal.returns-clause-able
returns-clause-able g c =
    subst AreCompactable (sym c.in_ok-self.ensures.ok) (rw c.in-Some.is at c.in_ok-run.ensures.able)

pub returns-in_default-clause-done : goal.returns-in_default-clause-done
returns-in_default-clause-done g c runs same =
    let s = c.args.self.now in
    let a = c.args in
    let left = kept_by a.watermark a.evict a.zero runs in
    let of = kept_in (rules_by a.watermark a.evict a.zero) (lists_of runs) in
    let is = kept_is a.watermark a.evict a.zero runs in
    let own = held runs (map arc_value c.deref.result.now) (same ∙ ap (map arc_value) (sym c.deref.ensures.value)) in
    let moment : c.from.result ≡ 0 = search rules in
    compacted_away s.pending left s.ids runs (map arc_value s.runs.items) same (map arc_value c.clear.new.self.items) c.in_ok-run.next_ids 0
    (ap (map arc_value) c.clear.ensures.items)
    refl
    (moved (λ m es. tables_fault s.ids target_size m es ≡ None) c.from.result 0 of left moment is (c.in_ok-run.ensures.refused (lists_of runs) own))
    (rw c.in_default.is at c.in_ok-run.ensures.ids)
    (sym is ∙ (rw c.in_default.is at (c.in_ok-run.ensures.run (lists_of runs) own)))

pub returns-in_default-clause-able : goal.returns-in_default-clause-able
returns-in_default-clause-able g c = rw c.clear.ensures.items able_none
