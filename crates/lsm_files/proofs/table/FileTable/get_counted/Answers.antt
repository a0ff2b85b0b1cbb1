use Rattle.std.proofs.Common.{◌≡◌, [], Option, subst, sym}
use Rattle.std.specs.Prelude.{IsOk, Result}
use Rattle.sst_entries.specs.declared.error.Error.{Error}
use Rattle.sst_entries.specs.Entry.{Entry}
use Rattle.sst_entries.specs.Error.{Gives}
use Rattle.lsm_readers.specs.point.Answer.{table_answer}
use Rattle.sst_blocks.specs.declared.opened.Opened.{Opened}
use Rattle.sst_blocks.specs.Sections.{body_of}
use Rattle.lsm_readers.specs.point.Read.{Opens, Read}
use Rattle.lsm_readers.proofs.FewLoads.{answer_few}
use Rattle.lsm_readers.proofs.Points.{table_read}
use Rattle.lsm_readers.proofs.StoredParts.{stored_answers}
use Rattle.lsm_files.specs.Results.{FileGives, failure_as_memory}
use Rattle.lsm_files.proofs.Gets.{passed_ok, passed_on, passed_opens}
use Rattle.lsm_files.proofs.Loads.{to_known}
use Rattle.lsm_files.proofs.table.FileTable.get_counted.Goals as goal

pub new-source-requires : goal.new-source-requires
new-source-requires g c known = (c.self.invariant known).0

pub returns-clause-returned : goal.returns-clause-returned
returns-clause-returned g c known =
    let reads = g.R.ReadAt.reads in
    let is = table_read c.new-source.result.0 (g.R.ReadAt.bytes c.self.inside.file) c.self.inside.inner c.args.self.now c.args.key.now c.args.seqno c.new-source.ensures.bytes c.self.view_is in
    let found = subst (λ (r : Read (Option Entry)). Gives (λ (x : Option Entry). x) c.point_in-found.result r.returned) is (c.point_in-found.ensures.returned (to_known reads known)) in
    passed_on reads (λ (x : Option Entry). x) c.result.result c.point_in-found.result (table_answer c.args.self.now c.args.key.now c.args.seqno).returned c.result.ensures.ok c.result.ensures.err found

pub returns-clause-calm : goal.returns-clause-calm
returns-clause-calm g c known none =
    let is = table_read c.new-source.result.0 (g.R.ReadAt.bytes c.self.inside.file) c.self.inside.inner c.args.self.now c.args.key.now c.args.seqno c.new-source.ensures.bytes c.self.view_is in
    let calm = subst (λ (r : Read (Option Entry)). r.loads ≡ [] → IsOk c.point_in-found.result) is (c.point_in-found.ensures.calm (to_known g.R.ReadAt.reads known)) in
    passed_ok c.result.result c.point_in-found.result c.result.ensures.ok (calm none)

pub returns-clause-opened : goal.returns-clause-opened
returns-clause-opened g c known =
    let is = table_read c.new-source.result.0 (g.R.ReadAt.bytes c.self.inside.file) c.self.inside.inner c.args.self.now c.args.key.now c.args.seqno c.new-source.ensures.bytes c.self.view_is in
    let found = c.point_in-found.result in
    let loads = (table_answer c.args.self.now c.args.key.now c.args.seqno).loads in
    let made = subst (λ (r : Read (Option Entry)). Opens found r.loads c.new-source.result.1 c.point_in-found.new.source.1) is (c.point_in-found.ensures.opened (to_known g.R.ReadAt.reads known)) in
    let returned = subst (λ (o : Opened). Opens found loads c.new-source.result.1 o) (sym c.opened-opened.ensures) made in
    let begun = subst (λ (o : Opened). Opens found loads o c.opened-opened.result) c.new-source.ensures.none returned in
    passed_opens g.R.ReadAt.reads c.result.result found loads _ _ c.result.ensures.err begun

pub returns-clause-few : goal.returns-clause-few
returns-clause-few g c known =
    let t = c.args.self.now in
    answer_few (failure_as_memory c.result.result) (body_of t.bytes) t.global_seqno t.parts c.args.key.now c.args.seqno _ _ (returns-clause-opened g c known)

pub returns-clause-list : goal.returns-clause-list
returns-clause-list g c known es is =
    let t = c.args.self.now in
    let held = rw c.self.view_is at (c.self.invariant known).1 in
    let same = stored_answers t.bytes es is t.global_seqno held.pin_filter held.pin_index t.parts held.returned c.args.key.now c.args.seqno in
    subst (λ (returned : Result (Option Entry) Error). FileGives g.R.ReadAt.reads (λ (x : Option Entry). x) c.result.result returned) same (returns-clause-returned g c known)
