use Rattle.std.proofs.Common.{sym, ◌∙◌, subst, ℕ, List}
use Rattle.lsm_tables.specs.Words.{StoresList}
use Rattle.example_store.specs.declared.store.open.OpenError.TheVariants.{OutOfMemory}
use Rattle.example_store.proofs.Own.{table_stored}
use Rattle.example_store.proofs.Refusing.{wanted}
use Rattle.example_store.specs.Faulty.{NamesFile}
use Rattle.example_store.proofs.Faults.{passed}
use Rattle.example_store.proofs.store.open.open_file.Goals as goal

pub returns-in_err-table-clause-taken : goal.returns-in_err-table-clause-taken
returns-in_err-table-clause-taken g c t own same =
    let r = c.from_residual-in_err-table in
    wanted OutOfMemory r.result c.in_err-table.field-0.0 r.ensures.1
    (c.in_err-table.ensures.taken own.list
    (subst (λ (bs : List ℕ). StoresList bs own.list) (same ∙ sym c.in_ok-clone-2.ensures.cases) (table_stored c.args.next t own)))

pub returns-in_err-test_table-clause-taken : goal.returns-in_err-test_table-clause-taken
returns-in_err-test_table-clause-taken g c t own same =
    let r = c.from_residual-in_err-test_table in
    wanted OutOfMemory r.result c.in_err-test_table.field-0.0 r.ensures.1
    (c.in_err-test_table.ensures.taken own.list
    (subst (λ (bs : List ℕ). StoresList bs own.list) (same ∙ sym c.in_ok-clone-2.ensures.cases ∙ sym c.in_ok-table.ensures.bytes) (table_stored c.args.next t own))
    own.some own.own)

pub returns-in_err-table-clause-named : goal.returns-in_err-table-clause-named
returns-in_err-table-clause-named g c =
    let r = c.from_residual-in_err-table in
    let e = c.in_err-table.field-0.0 in
    passed (NamesFile c.args.next c.args.bytes.now c.args.place.0 c.args.place.1) r.result e r.ensures.1
    (subst (λ (bs : List ℕ). NamesFile c.args.next bs c.args.place.0 c.args.place.1 e) c.in_ok-clone-2.ensures.cases (c.in_err-table.ensures.named c.args.next))

pub returns-in_err-test_table-clause-named : goal.returns-in_err-test_table-clause-named
returns-in_err-test_table-clause-named g c =
    let r = c.from_residual-in_err-test_table in
    let e = c.in_err-test_table.field-0.0 in
    passed (NamesFile c.args.next c.args.bytes.now c.args.place.0 c.args.place.1) r.result e r.ensures.1
    (subst (λ (bs : List ℕ). NamesFile c.args.next bs c.args.place.0 c.args.place.1 e) (c.in_ok-table.ensures.bytes ∙ c.in_ok-clone-2.ensures.cases) c.in_err-test_table.ensures.named)
