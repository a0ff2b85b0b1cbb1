use Rattle.std.proofs.Common.{◌≡◌, ◌∙◌, [], ap, subst, Option}
use Rattle.std.specs.Prelude.{IfOk, IfSome, IsOk, Result}
use Rattle.std.specs.Option.{option_map}
use Rattle.sst_entries.specs.declared.error.Error.{Error}
use Rattle.sst_entries.specs.Entry.{Entry}
use Rattle.sst_entries.specs.Error.{FaultsFirst, Gives}
use Rattle.sst_blocks.specs.EntryPlace.{IsPlacedIn, entry_placed}
use Rattle.sst_blocks.specs.Opened.{none_opened}
use Rattle.lsm_readers.specs.point.Answer.{LoadsFew, table_answer}
use Rattle.lsm_readers.specs.point.Read.{Opens}
use Rattle.lsm_readers.specs.point.Table.{IsOpen, OpenTable, table_of}
use Rattle.lsm_readers.proofs.StoredParts.{stored_answers}
use Rattle.lsm_readers.proofs.table.Table.get_place.Goals as goal

pub returns-clause-returned : goal.returns-clause-returned
returns-clause-returned g c =
    let same = ap (table_of c.self.inside.source) c.deref-inner.ensures ∙ c.self.view_is in
    subst (λ (t : OpenTable). Gives (option_map (entry_placed t.bytes)) c.place_in.result.0 (table_answer t c.args.key.now c.args.seqno).returned) same c.place_in.ensures.returned

pub returns-clause-early : goal.returns-clause-early
returns-clause-early g c =
    let same = ap (table_of c.self.inside.source) c.deref-inner.ensures ∙ c.self.view_is in
    subst (λ (t : OpenTable). FaultsFirst c.place_in.result.0 (table_answer t c.args.key.now c.args.seqno).early) same c.place_in.ensures.early

pub returns-clause-calm : goal.returns-clause-calm
returns-clause-calm g c =
    let same = ap (table_of c.self.inside.source) c.deref-inner.ensures ∙ c.self.view_is in
    subst (λ (t : OpenTable). (table_answer t c.args.key.now c.args.seqno).loads ≡ [] → IsOk c.place_in.result.0) same c.place_in.ensures.calm

pub returns-clause-opened : goal.returns-clause-opened
returns-clause-opened g c =
    let same = ap (table_of c.self.inside.source) c.deref-inner.ensures ∙ c.self.view_is in
    subst (λ (t : OpenTable). Opens c.place_in.result.0 (table_answer t c.args.key.now c.args.seqno).loads none_opened c.place_in.result.1) same c.place_in.ensures.opened

pub returns-clause-few : goal.returns-clause-few
returns-clause-few g c =
    let same = ap (table_of c.self.inside.source) c.deref-inner.ensures ∙ c.self.view_is in
    subst (λ (t : OpenTable). LoadsFew t.parts none_opened c.place_in.result.1) same c.place_in.ensures.few

pub returns-clause-placed : goal.returns-clause-placed
returns-clause-placed g c =
    let same = ap (table_of c.self.inside.source) c.deref-inner.ensures ∙ c.self.view_is in
    subst (λ (t : OpenTable). IfOk c.place_in.result.0 (λ found. IfSome found (IsPlacedIn t.bytes))) same c.place_in.ensures.placed

pub returns-clause-list : goal.returns-clause-list
returns-clause-list g c es is =
    let t = c.args.self.now in
    let held = subst IsOpen c.self.view_is c.self.invariant in
    let same = stored_answers t.bytes es is t.global_seqno held.recovered.pin_filter held.recovered.pin_index t.parts held.recovered.returned c.args.key.now c.args.seqno in
    subst (λ (returned : Result (Option Entry) Error). Gives (option_map (entry_placed t.bytes)) c.place_in.result.0 returned) same (returns-clause-returned g c)
