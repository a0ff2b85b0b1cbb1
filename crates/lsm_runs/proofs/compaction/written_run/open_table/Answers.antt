use Rattle.std.proofs.Common.{ap}
use Rattle.sst_entries.proofs.Refusals.{faults_refusal}
use Rattle.sst_blocks.specs.declared.table.options.Options.{Options}
use Rattle.lsm_runs.specs.compaction.Written.{number_fault}
use Rattle.lsm_runs.proofs.RunWriting.{number_fits, number_passes}
use Rattle.lsm_runs.proofs.Opening.{opened}
use Rattle.lsm_runs.proofs.compaction.written_run.open_table.Goals as goal

pub returns-clause-opened : goal.returns-clause-opened
returns-clause-opened g c label es f =
    let t = c.args.table in
    let o = c.in_ok-opened.ensures in
    let is = opened label es c.args.global_seqno t.id t.checksum.0 t.bytes c.in_ok-opened.opened f o.bytes o.number o.tree o.checksum (o.list es f.table (ap (λ (x : Options). x.index_block_restart_interval) f.options_are)) in
    record { is = is; opened = c.tells_its_list.ensures.open; range = c.tells_its_list.ensures.range es (c.tells_its_list.ensures.written es is.table).0 }

pub returns-clause-refused : goal.returns-clause-refused
returns-clause-refused g c label es f =
    number_fits es c.args.global_seqno c.args.table.bytes f.table c.in_ok-opened.opened.parts (c.in_ok-opened.ensures.list es f.table (ap (λ (o : Options). o.index_block_restart_interval) f.options_are))

pub returns-in_err-opened-clause-refused : goal.returns-in_err-opened-clause-refused
returns-in_err-opened-clause-refused g c label es f =
    let e = c.in_err-opened.field-0.0 in
    faults_refusal c.from_residual.result e (number_fault es c.args.global_seqno) c.from_residual.ensures.1
    (λ memory. number_passes es c.args.global_seqno c.args.table.bytes f.table e (c.in_err-opened.ensures.list es f.table (ap (λ (o : Options). o.index_block_restart_interval) f.options_are) memory))
