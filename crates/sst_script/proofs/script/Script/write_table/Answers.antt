use Rattle.std.proofs.Common.{◌≡◌, ◌∙◌, sym, ap, subst, ◌∷◌, false, length, List}
use Rattle.std.specs.Prelude.{None, map}
use Rattle.std.specs.Arc.{arc_value}
use Rattle.sst_entries.specs.Entry.{Entry}
use Rattle.lsm_readers.specs.point.Table.{OpenTable}
use Rattle.lsm_writers.specs.Writing.{IsWritable}
use Rattle.lsm_runs.specs.compaction.Chain.{AreCutOf, IsRunOfList, run_label, tables_fault}
use Rattle.sst_script.specs.Script.{target_size}
use Rattle.sst_script.proofs.CompactLemmas.{able_more, able_runs}
use Rattle.sst_script.proofs.StoreLemmas.{answered, wrote}
use Rattle.sst_script.proofs.script.Script.write_table.Goals as goal

pub returns-clause-done : goal.returns-clause-done
returns-clause-done g c runs same =
    let s = c.args.self.now in
    let ts = map arc_value s.runs.items in
    let tables = c.in-Some.run' in
    let label = run_label s.ids target_size 0 in
    let fresh = answered runs s.pending c.items.result.now c.in_ok-is_repeated.field-0 false (c.in_ok-is_repeated.ensures runs (same ∙ ap (map arc_value) (sym c.deref.ensures.value))) c.if-branch.false c.items.ensures.items in
    let taken = c.replace-pending.ensures.value in
    let put = ap (map arc_value) c.in_ok-insert.ensures.items ∙ ap (λ (run : List OpenTable). run ∷ ts) c.in_ok-shared.ensures.ok in
    let count = ap length c.as_slice.ensures in
    let behind = rw c.in-Some.is at c.in_ok-run.ensures.ids in
    let is = rw c.in-Some.is at c.in_ok-run.ensures.run in
    let cut = rw c.in-Some.is at c.in_ok-run.ensures.cut in
    wrote runs ts (map arc_value c.insert.new.self.items) s.pending s.ids c.in_ok-run.ids tables _ same put count fresh
    (subst (λ (es : List Entry). tables_fault s.ids target_size 0 es ≡ None) taken c.in_ok-run.ensures.refused)
    behind
    (subst (λ (es : List Entry). IsRunOfList es 0 tables) taken is)
    (subst (λ (es : List Entry). AreCutOf label target_size es 0 tables) taken cut)

pub returns-clause-able : goal.returns-clause-able
returns-clause-able g c =
    let s = c.args.self.now in
    let ts = map arc_value s.runs.items in
    let tables = c.in-Some.run' in
    let label = run_label s.ids target_size 0 in
    let runs = able_runs ts c.requires in
    let fresh = answered runs.0 s.pending c.items.result.now c.in_ok-is_repeated.field-0 false (c.in_ok-is_repeated.ensures runs.0 (runs.1 ∙ ap (map arc_value) (sym c.deref.ensures.value))) c.if-branch.false c.items.ensures.items in
    let taken = c.replace-pending.ensures.value in
    let put = ap (map arc_value) c.in_ok-insert.ensures.items ∙ ap (λ (run : List OpenTable). run ∷ ts) c.in_ok-shared.ensures.ok in
    let is = rw c.in-Some.is at c.in_ok-run.ensures.run in
    let cut = rw c.in-Some.is at c.in_ok-run.ensures.cut in
    able_more runs.0 ts (map arc_value c.insert.new.self.items) label s.pending tables runs.1 c.requires put
    (subst IsWritable c.items.ensures.items c.items.ensures.writable)
    fresh
    (subst (λ (es : List Entry). IsRunOfList es 0 tables) taken is)
    (subst (λ (es : List Entry). AreCutOf label target_size es 0 tables) taken cut)
