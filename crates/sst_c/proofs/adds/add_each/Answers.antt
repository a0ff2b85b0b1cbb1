use Rattle.std.proofs.Common.{◌≡◌, ◌≢◌, ◌+◌, ◌<◌, ◌≤◌, ◌∙◌, ap, arith, length, refl, sym, subst, ℕ, List}
use Rattle.std.specs.Prelude.{drop, map, slice_index_or, take}
use Rattle.std.specs.List.{sum}
use Rattle.sst_c.specs.Adds.{AddsOne, AddsAll, rows_of_reports, reported_size}
use Rattle.sst_c.specs.declared.entries.EntryReport.{EntryReport}
use Rattle.sst_c.proofs.Adding.{adds_all, adds_next, adds_stopped, bytes_next, cut_row, next_row, rest_next, rows_length}
use Rattle.sst_c.proofs.adds.add_each.Goals as goal

abbrev none : EntryReport
none = record { kind = 0; seqno = 0; key_len = 0; value_len = 0 }

pub returns-then-code-ne0 : goal.returns-then-code-ne0
returns-then-code-ne0 c =
    let l = c.loop-place in
    let ts = c.args.entries.now in
    let bytes = c.args.bytes.now in
    let t = slice_index_or ts l.place none in
    adds_stopped c.args.writer.now l.writer c.add_told-code.new.writer (rows_of_reports ts bytes)
    (rows_of_reports (drop (l.place + 1) ts) (drop (l.at + t.key_len + t.value_len) bytes)) l.place c.add_told-code.result
    (cut_row t bytes l.at) l.invariant.added
    (next_row ts bytes l.place l.at none l.invariant.rest c.loop-place-test.true)
    c.add_told-code.ensures c.if-code-ne0.true

pub loop-place-preserved : goal.loop-place-preserved
loop-place-preserved c =
    let l = c.loop-place in
    let ts = c.args.entries.now in
    let bytes = c.args.bytes.now in
    let t = slice_index_or ts l.place none in
    let rest = rows_of_reports (drop (l.place + 1) ts) (drop (l.at + t.key_len + t.value_len) bytes) in
    let v = c.add_told-code.new.writer in
    let next = next_row ts bytes l.place l.at none l.invariant.rest c.loop-place-test.true in
    let step : AddsOne l.writer (cut_row t bytes l.at) 0 v =
    subst (λ (n : ℕ). AddsOne l.writer (cut_row t bytes l.at) n v) c.if-code-ne0.false c.add_told-code.ensures in
    record {
      added = adds_next c.args.writer.now l.writer v (rows_of_reports ts bytes) rest l.place (cut_row t bytes l.at)
          l.invariant.added next step;
      rest = rest_next (rows_of_reports ts bytes) rest l.place (cut_row t bytes l.at) next;
      bytes = bytes_next ts l.place l.at (length bytes) none l.invariant.bytes c.loop-place-test.true;
    }

pub returns : goal.returns
returns c =
    let l = c.loop-place in
    let ts = c.args.entries.now in
    let bytes = c.args.bytes.now in
    let full : l.place ≡ length ts = omega arith in
    adds_all c.args.writer.now l.writer (rows_of_reports ts bytes) (length ts)
    (subst (λ (n : ℕ). AddsAll c.args.writer.now (take n (rows_of_reports ts bytes)) l.writer) full l.invariant.added)
    (sym (rows_length ts bytes))
