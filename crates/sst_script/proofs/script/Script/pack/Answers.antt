use Rattle.std.proofs.Common.{◌≡◌, ◌∙◌, sym, ap, subst, length, List, rules}
use Rattle.std.specs.Prelude.{map}
use Rattle.std.specs.Arc.{arc_value}
use Rattle.std.proofs.lemmas.List.{length-map}
use Rattle.lsm_readers.specs.point.Table.{OpenTable}
use Rattle.lsm_runs.specs.compaction.Compacted.{AreCompactable}
use Rattle.sst_script.specs.Runs.{HasRuns}
use Rattle.sst_script.specs.Script.{Packs, store}
use Rattle.sst_script.proofs.PackLemmas.{in_order, packed_runs}
use Rattle.sst_script.proofs.RunLemmas.{held, lists_of}
use Rattle.sst_script.proofs.script.Script.pack.Goals as goal

pub returns-clause-done : goal.returns-clause-done
returns-clause-done g c runs same =
    let s = c.args.self.now in
    let ts = map arc_value c.deref.result.now in
    let own = same ∙ ap (map arc_value) (sym c.deref.ensures.value) in
    let order = in_order runs ts own in
    let packed = c.in_ok-packed.packed.items in
    let made = c.in_ok-packed.ensures in
    let shared = c.in_ok-self.ensures.ok in
    let items = c.in_ok-self.field-0.items in
    let many : c.len.result ≡ length items = search rules in
    let count : c.len.result ≡ length packed = many ∙ sym (length-map items arc_value) ∙ ap length shared in
    subst (λ (us : List (List OpenTable)). HasRuns us (λ after. Packs (store s.pending runs s.ids) c.len.result (store s.pending after s.ids))) (sym shared)
    (packed_runs runs ts packed own (made.list (lists_of runs) (held runs ts own)) (made.ordered order) s.pending s.ids c.len.result count made.tables (made.holders order) (made.least order))

pub returns-clause-able : goal.returns-clause-able
returns-clause-able g c =
    let able : AreCompactable (map arc_value c.deref.result.now) = rw c.deref.ensures.value c.requires in
    subst AreCompactable (sym c.in_ok-self.ensures.ok) (c.in_ok-packed.ensures.able able)
