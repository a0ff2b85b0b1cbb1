use Rattle.std.proofs.Common.{◌≡◌, ◌∙◌, refl, sym, ap, inl, inr, ◌∷◌, ◌++◌, []}
use Rattle.std.specs.Prelude.{length}
use Rattle.sst_entries.specs.Lending.{entry_of_ref}
use Rattle.lsm_writers.specs.Tables.{TablesWriting, took}
use Rattle.lsm_writers.specs.Writing.{written}
use Rattle.sst_blocks.specs.table.Chunks.{joined}
use Rattle.lsm_runs.proofs.Observing.{counted_one_more, counted_same, finished_len, none_counted}
use Rattle.lsm_runs.proofs.Observing.{none_finished, one_finished, other_ids, same_ids}
use Rattle.lsm_runs.proofs.Observing.{some_counted, reported_more_tables}
use Rattle.lsm_runs.proofs.compaction.any_runs.write_and_tell.Goals as goal

pub returns-then-written-eq0-clause-returned : goal.returns-then-written-eq0-clause-returned
returns-then-written-eq0-clause-returned g c counted begun =
    let m = c.args.writer.now in
    let e = entry_of_ref c.args.entry.now in
    let fine = c.in_ok-write_ref.ensures.refused in
    let none = none_counted m c.write_ref.new.self e c.args.progress.now counted c.if-written-eq0.true in
    let same : c.write_ref.new.self.tables ≡ m.tables = ap (λ (x : TablesWriting). x.tables) c.in_ok-write_ref.ensures.ok ∙ none_finished m e fine begun (inl none) in
    inl (same, refl, refl)

pub returns-then-eq-clause-counts : goal.returns-then-eq-clause-counts
returns-then-eq-clause-counts g c counted begun =
    let m = c.args.writer.now in
    let e = entry_of_ref c.args.entry.now in
    let fine = c.in_ok-write_ref.ensures.refused in
    let ids : (took m e).ids ≡ m.ids = ap (λ (x : TablesWriting). x.ids) (sym c.in_ok-write_ref.ensures.ok) ∙ sym c.table_ids.ensures ∙ same_ids _ _ (sym c.if-eq.ensures) ∙ c.table_ids-ids.ensures in
    let same : c.write_ref.new.self.tables ≡ m.tables = ap (λ (x : TablesWriting). x.tables) c.in_ok-write_ref.ensures.ok ∙ none_finished m e fine begun (inr ids) in
    counted_same m c.write_ref.new.self e c.args.progress.now counted c.in_ok-write_ref.ensures.listed c.saturating_add-progress.result c.saturating_add-progress.ensures same

pub returns-then-eq-clause-returned : goal.returns-then-eq-clause-returned
returns-then-eq-clause-returned g c counted begun =
    let m = c.args.writer.now in
    let e = entry_of_ref c.args.entry.now in
    let fine = c.in_ok-write_ref.ensures.refused in
    let ids : (took m e).ids ≡ m.ids = ap (λ (x : TablesWriting). x.ids) (sym c.in_ok-write_ref.ensures.ok) ∙ sym c.table_ids.ensures ∙ same_ids _ _ (sym c.if-eq.ensures) ∙ c.table_ids-ids.ensures in
    let same : c.write_ref.new.self.tables ≡ m.tables = ap (λ (x : TablesWriting). x.tables) c.in_ok-write_ref.ensures.ok ∙ none_finished m e fine begun (inr ids) in
    inl (same, refl, refl)

pub returns-clause-counts : goal.returns-clause-counts
returns-clause-counts g c counted begun =
    let m = c.args.writer.now in
    let e = entry_of_ref c.args.entry.now in
    let n = c.write_ref.new.self in
    let fine = c.in_ok-write_ref.ensures.refused in
    let more : n.tables ≡ m.tables ++ written m.present ∷ [] = ap (λ (x : TablesWriting). x.tables) c.in_ok-write_ref.ensures.ok ∙
    one_finished m e fine begun (some_counted m n e c.args.progress.now counted c.if-written-eq0.false)
    (λ same. other_ids _ _ (sym c.if-eq.ensures) (c.table_ids.ensures ∙ ap (λ (x : TablesWriting). x.ids) c.in_ok-write_ref.ensures.ok ∙ same ∙ sym c.table_ids-ids.ensures)) in
    counted_one_more m n e c.args.progress.now counted c.in_ok-write_ref.ensures.listed c.saturating_add-progress.result c.saturating_add-progress.ensures (written m.present) c.saturating_add-progress-2.result more c.saturating_add-progress-2.ensures

pub returns-clause-returned : goal.returns-clause-returned
returns-clause-returned g c counted begun =
    let m = c.args.writer.now in
    let e = entry_of_ref c.args.entry.now in
    let n = c.write_ref.new.self in
    let fine = c.in_ok-write_ref.ensures.refused in
    let one = one_finished m e fine begun (some_counted m n e c.args.progress.now counted c.if-written-eq0.false)
    (λ same. other_ids _ _ (sym c.if-eq.ensures) (c.table_ids.ensures ∙ ap (λ (x : TablesWriting). x.ids) c.in_ok-write_ref.ensures.ok ∙ same ∙ sym c.table_ids-ids.ensures)) in
    let more : n.tables ≡ m.tables ++ written m.present ∷ [] = ap (λ (x : TablesWriting). x.tables) c.in_ok-write_ref.ensures.ok ∙ one in
    reported_more_tables m n e c.args.progress.now counted g.O.CompactionObserver.says c.args.observer.now c.goes_on.new.self c.goes_on.result (written m.present) c.saturating_add-progress-2.result more
    (ap (λ (x : TablesWriting). length (joined x.tables)) c.in_ok-write_ref.ensures.ok ∙ finished_len m e fine begun one) c.saturating_add-progress-2.ensures c.goes_on.ensures
