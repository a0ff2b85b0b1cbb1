use Rattle.std.proofs.Common.{◌≡◌, List, Vec, ℕ, ap, subst, ◌∙◌}
use Rattle.std.specs.Prelude.{Bool, Option, Result}
use Rattle.sst_entries.specs.declared.error.Error.{Error}
use Rattle.sst_entries.specs.Entry.{Entry}
use Rattle.sst_entries.specs.Error.{Gives}
use Rattle.sst_blocks.specs.declared.opened.Opened.{Opened}
use Rattle.sst_blocks.specs.Sections.{body_of}
use Rattle.lsm_readers.specs.point.Batch.{query_result}
use Rattle.lsm_readers.specs.point.Many.{answers_to, many_results}
use Rattle.lsm_readers.specs.point.Table.{IsRecovered, OpenTable, parts_of}
use Rattle.lsm_files.specs.Results.{FileGives}
use Rattle.lsm_files.proofs.Gets.{passed_on}
use Rattle.lsm_files.proofs.Loads.{to_known}
use Rattle.lsm_files.proofs.ManyStored.{many_stored}
use Rattle.lsm_files.proofs.table.FileTable.get_many.Goals as goal

pub returns-clause-returned : goal.returns-clause-returned
returns-clause-returned g c known =
    let inner = c.self.inside.inner in
    let view = λ (v : Vec (Option Entry) g.row.A.Denot). v.items in
    let queries = c.args.queries.now in
    let found = c.read_each-found.result in
    let same : c.new-source.result.0 ≡ g.R.ReadAt.bytes c.self.inside.file = ap (λ (s : List ℕ × Opened × Bool). s.0) c.new-source.ensures ∙ c.new-file.ensures.bytes in
    let read = subst (λ (b : List ℕ). Gives view found (answers_to (query_result {A = g.row.A.Denot} (body_of b) inner.global_seqno (parts_of inner)) queries)) same (c.read_each-found.ensures (to_known g.R.ReadAt.reads known)) in
    let gives = subst (λ (t : OpenTable). Gives view found (many_results {A = g.row.A.Denot} t queries)) c.self.view_is read in
    passed_on g.R.ReadAt.reads view c.result.result found (many_results {A = g.row.A.Denot} c.args.self.now queries) c.result.ensures.ok c.result.ensures.err gives

pub returns-clause-list : goal.returns-clause-list
returns-clause-list g c known es is =
    let held = subst IsRecovered c.self.view_is (c.self.invariant known).1 in
    subst (λ (returned : Result (List (Option Entry)) Error). FileGives g.R.ReadAt.reads (λ (v : Vec (Option Entry) g.row.A.Denot). v.items) c.result.result returned)
    (many_stored {A = g.row.A.Denot} c.args.self.now held es is c.args.queries.now) (returns-clause-returned g c known)
