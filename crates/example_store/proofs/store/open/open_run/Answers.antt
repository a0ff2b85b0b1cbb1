use Rattle.std.proofs.Common.{◌≡◌, refl, sym, ◌∙◌, subst, ℕ, [], ◌∷◌, List}
use Rattle.std.specs.Prelude.{map}
use Rattle.std.proofs.lemmas.List.{take_all}
use Rattle.lsm_tables.specs.Words.{OpenTable}
use Rattle.lsm_tables.proofs.TableLaws.{all_append}
use Rattle.example_store.specs.Story.{IsOwnTable}
use Rattle.example_store.specs.declared.store.open.OpenError.TheVariants.{OutOfMemory}
use Rattle.example_store.proofs.Opening.{made_at, one_made, order_alike, run_owned, some_alike}
use Rattle.example_store.proofs.Own.{bytes_of}
use Rattle.example_store.proofs.Refusing.{ok_is, refuses_none, wanted}
use Rattle.example_store.specs.Faulty.{NamesFile, NamesInRun}
use Rattle.example_store.proofs.Faults.{names_in_run, names_run, passed}
use Rattle.example_store.proofs.store.open.open_run.Goals as goal

pub loop-bytes-init : goal.loop-bytes-init
loop-bytes-init g c = record {
  own = rw c.new-tables.ensures.items tt;
  made = rw c.new-tables.ensures.items refl;
}

pub loop-bytes-preserved : goal.loop-bytes-preserved
loop-bytes-preserved g c =
    let P = IsOwnTable c.args.next in
    let made = c.loop-bytes.tables.items in
    let t = c.in_ok-table.table in
    record {
      own = rw c.in_ok-push.ensures.items (all_append P made (t ∷ []) c.loop-bytes.invariant.own (c.in_ok-table.ensures.own, tt));
      made = rw c.in_ok-push.ensures.items (one_made bytes_of P made c.args.files.now c.loop-bytes.bytes-index t c.bytes-item.result c.loop-bytes.invariant.made c.loop-bytes-test.true c.bytes-item.is c.in_ok-table.ensures.file);
    }

pub returns-in_err-table-clause-taken : goal.returns-in_err-table-clause-taken
returns-in_err-table-clause-taken g c run own same =
    let r = c.from_residual-in_err-table in
    let here = made_at bytes_of (IsOwnTable c.args.next) run c.args.files.now c.loop-bytes.bytes-index c.bytes-item.result own.tables same c.loop-bytes-test.true c.bytes-item.is in
    wanted OutOfMemory r.result c.in_err-table.field-0.0 r.ensures.1 (c.in_err-table.ensures.taken here.0 here.2 here.1)

pub returns-clause-own : goal.returns-clause-own
returns-clause-own g c =
    let r = c.run_of_tables.ensures in
    run_owned c.args.next c.run_of_tables.result c.loop-bytes.tables.items r.run r.some r.order c.loop-bytes.invariant.own

pub returns-clause-files : goal.returns-clause-files
returns-clause-files g c =
    let files = c.args.files.now in
    ok_is (λ (run : List OpenTable). run) (λ (run : List OpenTable). map bytes_of run ≡ files) c.run_of_tables.result c.loop-bytes.tables.items c.run_of_tables.ensures.run
    (c.loop-bytes.invariant.made ∙ take_all c.loop-bytes.bytes-index files c.loop-bytes-test.false)

pub returns-clause-taken : goal.returns-clause-taken
returns-clause-taken g c run own same =
    let files = c.args.files.now in
    let tables = c.loop-bytes.tables.items in
    let alike : map bytes_of run ≡ map bytes_of tables = same ∙ sym (c.loop-bytes.invariant.made ∙ take_all c.loop-bytes.bytes-index files c.loop-bytes-test.false) in
    refuses_none (λ e. e ≡ OutOfMemory) c.run_of_tables.result
    (c.run_of_tables.ensures.taken (some_alike run tables alike own.some) (order_alike run tables alike own.order))

pub returns-in_err-table-clause-named : goal.returns-in_err-table-clause-named
returns-in_err-table-clause-named g c =
    let r = c.from_residual-in_err-table in
    let files = c.args.files.now in
    let m = c.loop-bytes.invariant in
    passed (NamesInRun c.args.next files c.args.place) r.result c.in_err-table.field-0.0 r.ensures.1
    (names_in_run c.args.next files c.args.place c.loop-bytes.tables.items m.own c.loop-bytes.bytes-index c.bytes-item.result c.in_err-table.field-0.0 m.made c.loop-bytes-test.true c.bytes-item.is
    (subst (λ (k : ℕ). NamesFile c.args.next c.bytes-item.result c.args.place k c.in_err-table.field-0.0) (c.len.ensures ∙ c.loop-bytes.tables.ok.0) c.in_err-table.ensures.named))

pub returns-clause-named : goal.returns-clause-named
returns-clause-named g c =
    let files = c.args.files.now in
    names_run c.args.next files c.args.place c.loop-bytes.tables.items c.loop-bytes.invariant.own c.run_of_tables.result
    (c.loop-bytes.invariant.made ∙ take_all c.loop-bytes.bytes-index files c.loop-bytes-test.false) c.run_of_tables.ensures.named
