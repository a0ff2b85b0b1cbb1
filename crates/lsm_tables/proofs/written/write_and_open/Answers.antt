use Rattle.sst_entries.proofs.Refusals.{faults_refusal}
use Rattle.std.proofs.Common.{ap, sym, subst, List, ℕ, arith}
use Rattle.sst_blocks.specs.declared.table.options.Options.{Options}
use Rattle.sst_blocks.specs.table.Options.{label_of}
use Rattle.sst_blocks.specs.table.Table.{IsTable}
use Rattle.lsm_runs.proofs.Opening.{none_written, opened, opens, unopened}
use Rattle.lsm_tables.proofs.written.write_and_open.Goals as goal

pub returns-in_err-opened-in-Some-clause-refused : goal.returns-in_err-opened-in-Some-clause-refused
returns-in_err-opened-in-Some-clause-refused g c =
    let label = label_of c.args.id 0 c.args.created_at in
    let es = c.args.items.items in
    let f = rw c.in-Some.is at c.in_ok-write_list.ensures.table in
    let e = c.in_err-opened-in-Some.field-0.0 in
    faults_refusal c.from_residual-in_err-opened-in-Some.result e _ c.from_residual-in_err-opened-in-Some.ensures.1
    (λ memory. unopened label es c.args.global_seqno c.in-Some.table.bytes f.table c.in_ok-write_list.ensures.refused e (c.in_err-opened-in-Some.ensures.list es f.table (ap (λ (o : Options). o.index_block_restart_interval) f.options_are) memory))

pub returns-in-None-clause-refused : goal.returns-in-None-clause-refused
returns-in-None-clause-refused g c =
    let none = rw c.in-None.is at c.in_ok-write_list.ensures.table in
    none_written (label_of c.args.id 0 c.args.created_at) c.args.items.items c.args.global_seqno c.in_ok-write_list.ensures.refused none (omega arith)

pub returns-in_ok-opened-in-Some-clause-refused : goal.returns-in_ok-opened-in-Some-clause-refused
returns-in_ok-opened-in-Some-clause-refused g c =
    let label = label_of c.args.id 0 c.args.created_at in
    let es = c.args.items.items in
    let f = rw c.in-Some.is at c.in_ok-write_list.ensures.table in
    opens label es c.args.global_seqno c.in-Some.table.bytes f.table c.in_ok-write_list.ensures.refused c.in_ok-opened-in-Some.opened.parts (c.in_ok-opened-in-Some.ensures.list es f.table (ap (λ (o : Options). o.index_block_restart_interval) f.options_are))

pub returns-in_ok-opened-in-Some-clause-table : goal.returns-in_ok-opened-in-Some-clause-table
returns-in_ok-opened-in-Some-clause-table g c =
    let t = c.in-Some.table in
    let f = rw c.in-Some.is at c.in_ok-write_list.ensures.table in
    let o = c.in_ok-opened-in-Some.ensures in
    opened (label_of c.args.id 0 c.args.created_at) c.args.items.items c.args.global_seqno t.id t.checksum.0 t.bytes c.in_ok-opened-in-Some.opened f o.bytes o.number o.tree o.checksum
    (o.list c.args.items.items f.table (ap (λ (x : Options). x.index_block_restart_interval) f.options_are))

pub returns-in_ok-opened-in-Some-clause-stored : goal.returns-in_ok-opened-in-Some-clause-stored
returns-in_ok-opened-in-Some-clause-stored g c =
    let f = rw c.in-Some.is at c.in_ok-write_list.ensures.table in
    let same = sym c.in_ok-opened-in-Some.ensures.bytes in
    (c.tells_its_list.ensures.written c.args.items.items (subst (λ (b : List ℕ). IsTable b c.args.items.items) same f.table)).0
