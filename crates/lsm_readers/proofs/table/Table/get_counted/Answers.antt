use Rattle.std.proofs.Common.{◌≡◌, ◌∙◌, [], ap, subst, sym, Option}
use Rattle.std.specs.Prelude.{IsOk, Result}
use Rattle.sst_entries.specs.declared.error.Error.{Error}
use Rattle.sst_entries.specs.Entry.{Entry}
use Rattle.sst_entries.specs.Error.{FaultsFirst, Gives}
use Rattle.sst_blocks.specs.declared.opened.Opened.{Opened}
use Rattle.lsm_readers.specs.point.Answer.{table_answer}
use Rattle.lsm_readers.specs.point.Read.{Opens, Read}
use Rattle.lsm_readers.specs.point.Table.{IsOpen, table_of}
use Rattle.sst_blocks.specs.Sections.{body_of}
use Rattle.lsm_readers.proofs.FewLoads.{answer_few}
use Rattle.lsm_readers.proofs.Points.{table_read}
use Rattle.lsm_readers.proofs.StoredParts.{stored_answers}
use Rattle.lsm_readers.proofs.table.Table.get_counted.Goals as goal

pub returns-clause-returned : goal.returns-clause-returned
returns-clause-returned g c =
    let same = ap (table_of c.self.inside.source) c.deref-inner.ensures ∙ c.self.view_is in
    let is = table_read c.new-source.result.0 c.self.inside.source c.deref-inner.result.now c.args.self.now c.args.key.now c.args.seqno c.new-source.ensures.source same in
    subst (λ (r : Read (Option Entry)). Gives (λ (x : Option Entry). x) c.point_in-found.result r.returned) is (c.point_in-found.ensures.returned tt)

pub returns-clause-early : goal.returns-clause-early
returns-clause-early g c =
    let same = ap (table_of c.self.inside.source) c.deref-inner.ensures ∙ c.self.view_is in
    let is = table_read c.new-source.result.0 c.self.inside.source c.deref-inner.result.now c.args.self.now c.args.key.now c.args.seqno c.new-source.ensures.source same in
    subst (λ (r : Read (Option Entry)). FaultsFirst c.point_in-found.result r.early) is (c.point_in-found.ensures.early tt)

pub returns-clause-calm : goal.returns-clause-calm
returns-clause-calm g c =
    let same = ap (table_of c.self.inside.source) c.deref-inner.ensures ∙ c.self.view_is in
    let is = table_read c.new-source.result.0 c.self.inside.source c.deref-inner.result.now c.args.self.now c.args.key.now c.args.seqno c.new-source.ensures.source same in
    subst (λ (r : Read (Option Entry)). r.loads ≡ [] → IsOk c.point_in-found.result) is (c.point_in-found.ensures.calm tt)

pub returns-clause-opened : goal.returns-clause-opened
returns-clause-opened g c =
    let same = ap (table_of c.self.inside.source) c.deref-inner.ensures ∙ c.self.view_is in
    let is = table_read c.new-source.result.0 c.self.inside.source c.deref-inner.result.now c.args.self.now c.args.key.now c.args.seqno c.new-source.ensures.source same in
    let loads = (table_answer c.args.self.now c.args.key.now c.args.seqno).loads in
    let made = subst (λ (r : Read (Option Entry)). Opens c.point_in-found.result r.loads c.new-source.result.1 c.point_in-found.new.source.1) is (c.point_in-found.ensures.opened tt) in
    let returned = subst (λ (o : Opened). Opens c.point_in-found.result loads c.new-source.result.1 o) (sym c.opened.ensures) made in
    subst (λ (o : Opened). Opens c.point_in-found.result loads o c.opened.result) c.new-source.ensures.none returned

pub returns-clause-few : goal.returns-clause-few
returns-clause-few g c =
    let t = c.args.self.now in
    answer_few _ (body_of t.bytes) t.global_seqno t.parts c.args.key.now c.args.seqno _ _ (returns-clause-opened g c)

pub returns-clause-list : goal.returns-clause-list
returns-clause-list g c es is =
    let t = c.args.self.now in
    let held = subst IsOpen c.self.view_is c.self.invariant in
    let same = stored_answers t.bytes es is t.global_seqno held.recovered.pin_filter held.recovered.pin_index t.parts held.recovered.returned c.args.key.now c.args.seqno in
    subst (λ (returned : Result (Option Entry) Error). Gives (λ (x : Option Entry). x) c.point_in-found.result returned) same (returns-clause-returned g c)
