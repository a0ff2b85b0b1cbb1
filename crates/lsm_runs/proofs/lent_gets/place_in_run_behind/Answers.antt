use Rattle.std.proofs.Common.{◌≡◌, ◌∙◌, ap, length, refl, subst, sym}
use Rattle.std.proofs.lemmas.Option.{slice_get_read}
use Rattle.std.specs.Option.{option_and_then, option_map}
use Rattle.std.specs.Prelude.{List, None, Option, Result, Some, slice_get}
use Rattle.sst_entries.specs.declared.error.Error.{Error}
use Rattle.sst_entries.specs.Entry.{Entry}
use Rattle.sst_blocks.specs.Asked.{result_map}
use Rattle.sst_blocks.specs.EntryPlace.{entry_placed}
use Rattle.sst_blocks.specs.Opened.{none_opened}
use Rattle.lsm_readers.proofs.ReadLaws.{does_known}
use Rattle.lsm_readers.proofs.ReadViews.{does_by}
use Rattle.lsm_readers.specs.point.Answer.{table_answer}
use Rattle.sst_blocks.specs.Access.{in_memory}
use Rattle.lsm_readers.specs.point.Read.{DoesRead}
use Rattle.lsm_readers.specs.point.Table.{OpenTable}
use Rattle.lsm_runs.specs.RunPlaces.{placed_in_run, placed_in_runs}
use Rattle.lsm_runs.specs.SeveralRuns.{run_read_behind, table_read, worth_asking}
use Rattle.lsm_runs.proofs.ByAge.{asked, not_asked}
use Rattle.lsm_runs.proofs.RunPlaces.{all_there, seen_there}
use Rattle.lsm_runs.proofs.RunReads.{few_each, found_is}
use Rattle.lsm_runs.proofs.lent_gets.place_in_run_behind.Goals as goal

table-there : (g : _) (c : goal.After-found_in g) → slice_get c.args.run.now c.in-Some.index ≡ Some c.in-Some-get.table.now
table-there g c =
    subst (λ (ts : List OpenTable). slice_get ts c.in-Some.index ≡ Some c.in-Some-get.table.now) c.as_slice.ensures
    (slice_get_read c.as_slice.result.now (length c.as_slice.result.now) c.in-Some.index c.in-Some-get.table.now refl c.in-Some-get.ensures.lookup.3.0 c.in-Some-get.ensures.lookup.1)

pub returns-clause-read : goal.returns-clause-read
returns-clause-read g c runs there order =
    let t = c.in-Some-get.table.now in
    let key = c.args.key.now in
    let n = c.args.seqno in
    let before = option_and_then (placed_in_runs runs) c.args.found.now in
    let returned = c.get_place-next.ensures in
    let next = c.get_place-next.result.0 in
    let own = c.get_place-next.result.1 in
    let is = table-there g c in
    let here = sym is ∙ c.in-Some.ensures order in
    let younger = asked before t (sym (c.is_older_than.ensures runs there) ∙ c.if-is_older_than.false) in
    let read = result_map (option_map (entry_placed t.bytes)) next in
    let does = does_by (option_map (entry_placed t.bytes)) in_memory next (table_answer t key n) none_opened own returned.returned returned.early returned.opened returned.calm in
    let seen = ap (result_map (option_and_then (placed_in_run c.args.run.now))) c.found_in.ensures ∙ seen_there c.args.run.now t c.args.number c.in-Some.index is next returned.placed in
    subst (λ (r : Result (Option Entry) Error). DoesRead in_memory r (run_read_behind key n before c.args.run.now) none_opened own) (sym seen)
    (subst (λ (o : Option OpenTable). DoesRead in_memory read (table_read key n (worth_asking before o)) none_opened own) here
    (subst (λ (o : Option OpenTable). DoesRead in_memory read (table_read key n o) none_opened own) (sym younger) does))

pub returns-then-is_older_than-clause-read : goal.returns-then-is_older_than-clause-read
returns-then-is_older_than-clause-read g c runs there order =
    let t = c.in-Some-get.table.now in
    let key = c.args.key.now in
    let n = c.args.seqno in
    let before = option_and_then (placed_in_runs runs) c.args.found.now in
    let is = subst (λ (ts : List OpenTable). slice_get ts c.in-Some.index ≡ Some t) c.as_slice.ensures (slice_get_read c.as_slice.result.now (length c.as_slice.result.now) c.in-Some.index t refl c.in-Some-get.ensures.lookup.3.0 c.in-Some-get.ensures.lookup.1) in
    let here = sym is ∙ c.in-Some.ensures order in
    let older = not_asked before t (sym (c.is_older_than.ensures runs there) ∙ c.if-is_older_than.true) in
    rw c.none-then-is_older_than.ensures
    (subst (λ (o : Option OpenTable). DoesRead in_memory (found_is None) (table_read key n (worth_asking before o)) none_opened none_opened) here
    (subst (λ (o : Option OpenTable). DoesRead in_memory (found_is None) (table_read key n o) none_opened none_opened) (sym older) (does_known in_memory None none_opened)))

pub returns-clause-there : goal.returns-clause-there
returns-clause-there g c =
    rw c.found_in.ensures (all_there c.args.run.now c.in-Some-get.table.now c.args.number c.in-Some.index (table-there g c) c.get_place-next.result.0 c.get_place-next.ensures.placed)

pub returns-clause-few : goal.returns-clause-few
returns-clause-few g c = few_each _ c.get_place-next.result.1 c.get_place-next.ensures.few
