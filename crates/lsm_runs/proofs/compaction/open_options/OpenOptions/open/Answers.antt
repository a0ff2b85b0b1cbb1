use Rattle.std.proofs.Common.{◌≡◌, ◌∙◌, subst, sym, List, ℕ, ◌<◌, ◌^◌, length, arith}
use Rattle.std.specs.Prelude.{Ok}
use Rattle.sst_entries.proofs.Refusals.{faults_refusal}
use Rattle.sst_blocks.specs.table.Table.{IsTable}
use Rattle.lsm_readers.specs.point.Parts.{recovered_result}
use Rattle.lsm_runs.specs.compaction.Written.{opens_fault}
use Rattle.lsm_runs.proofs.Intervals.{opened_fits, refused_so}
use Rattle.lsm_runs.proofs.OpenedRuns.{with_bytes}
use Rattle.lsm_runs.proofs.RunWriting.{fits_by, passes_by}
use Rattle.lsm_runs.proofs.compaction.open_options.OpenOptions.open.Goals as goal

pub returns-clause-opened : goal.returns-clause-opened
returns-clause-opened g c =
    let o = c.in_ok-opened.ensures in
    let how = c.args.self.now in
    let t = c.in_ok-opened.opened in
    record {
      bytes_are = o.bytes ∙ c.in_ok-bytes.ensures.cases;
      checksum_is = o.checksum;
      number_is = o.number;
      tree_is = o.tree;
      returned = subst (λ (b : List ℕ). recovered_result b how.global_seqno how.pin_filter how.pin_index ≡ Ok t.parts) (sym o.bytes) o.returned;
      opened = c.tells_its_list.ensures.open;
    }

pub returns-clause-stored : goal.returns-clause-stored
returns-clause-stored g c label options es f =
    (c.tells_its_list.ensures.written es (subst (λ (b : List ℕ). IsTable b es) (sym (c.in_ok-opened.ensures.bytes ∙ c.in_ok-bytes.ensures.cases)) f.table)).0

pub returns-clause-refused : goal.returns-clause-refused
returns-clause-refused g c label options es f =
    let how = c.args.self.now in
    let same = sym c.in_ok-bytes.ensures.cases in
    let own = c.in_ok-bytes.bytes in
    let short : length own < 2 ^ 63 = omega (arith, c.len-len.ensures.value, c.len-len.ensures.bound) in
    let opened = c.in_ok-opened in
    opened_fits label options es c.args.table.now.id c.args.table.now.checksum.0 c.args.table.now.bytes own same f short how.global_seqno how.pin_filter how.pin_index
    opened.opened.parts opened.ensures.returned
    (λ one. let t = with_bytes label options es c.args.table.now.id c.args.table.now.checksum.0 c.args.table.now.bytes own same f one in
    fits_by es how.global_seqno own t.0 how.pin_filter how.pin_index opened.opened.parts (opened.ensures.list es t.0 t.1))

pub returns-in_err-opened-clause-refused : goal.returns-in_err-opened-clause-refused
returns-in_err-opened-clause-refused g c label options es f =
    let how = c.args.self.now in
    let e = c.in_err-opened.field-0.0 in
    let same = sym c.in_ok-bytes.ensures.cases in
    let own = c.in_ok-bytes.bytes in
    let short : length own < 2 ^ 63 = omega (arith, c.len-len.ensures.value, c.len-len.ensures.bound) in
    faults_refusal c.from_residual-in_err-opened.result e (opens_fault options es how.global_seqno) c.from_residual-in_err-opened.ensures.1
    (λ memory. refused_so label options es c.args.table.now.id c.args.table.now.checksum.0 c.args.table.now.bytes own same f short how.global_seqno how.pin_filter how.pin_index
    e (c.in_err-opened.ensures.returned memory)
    (λ one. let t = with_bytes label options es c.args.table.now.id c.args.table.now.checksum.0 c.args.table.now.bytes own same f one in
    passes_by es how.global_seqno own t.0 how.pin_filter how.pin_index e (c.in_err-opened.ensures.list es t.0 t.1 memory)))
