use Rattle.std.proofs.Common.{refl, rules, subst, ◌+◌}
use Rattle.sst_tool.specs.make.Entries.{numbered, row_entries}
use Rattle.sst_tool.specs.make.Faults.{StopsReading, TellsSpelling}
use Rattle.sst_tool.proofs.LineLemmas.{at_end, goes_empty, goes_end, goes_row, handed_on, lost, no_items}
use Rattle.sst_tool.proofs.LineLemmas.{reading_else, reads_at, rows_empty, rows_end, rows_row}
use Rattle.sst_tool.proofs.LineLemmas.{stops_reading}
use Rattle.sst_tool.proofs.make.entries.collect_lines.Goals as goal
use Rattle.sst_tool.proofs.make.entries.collect_lines.Goals.{then-not-is_empty+in_ok-entry+in_ok-push, else-not-is_empty}

pub returns-then-not-branch-clause-entries : goal.returns-then-not-branch-clause-entries
returns-then-not-branch-clause-entries g c =
    let left = g.I.Read.remaining in
    goes_end c.args.format (left c.args.input.now) (left c.loop-before.input) (row_entries c.loop-before.rows.items) c.loop-before.before c.loop-before.invariant.entries
    (at_end c.in_ok-read_line.field-0 _ _ _ c.in_ok-read_line.ensures.ok c.if-not-branch.true)

pub returns-then-not-branch-clause-rows : goal.returns-then-not-branch-clause-rows
returns-then-not-branch-clause-rows g c =
    let left = g.I.Read.remaining in
    rows_end c.args.format (left c.args.input.now) (left c.loop-before.input) (numbered c.loop-before.rows.items) c.loop-before.before c.loop-before.invariant.rows
    (at_end c.in_ok-read_line.field-0 _ _ _ c.in_ok-read_line.ensures.ok c.if-not-branch.true)

pub loop-before-preserved : goal.loop-before-preserved
loop-before-preserved g c =
    let left = g.I.Read.remaining in
    let input = left c.args.input.now in
    let line = c.read_line.new.line.items in
    let rows = c.loop-before.rows.items in
    let h = c.loop-before.invariant in
    let loses = lost c.in_ok-read_line.field-0 (left c.loop-before.input) (left c.read_line.new.input) line c.in_ok-read_line.ensures.ok c.if-not-branch.false in
    elim c.if-not-is_empty.branch [
      | then-not-is_empty+in_ok-entry+in_ok-push w ↦
          rw (w.rows-is, w.in_ok-push.ensures.items) record {
            entries = goes_row c.args.format input (left c.loop-before.input) (left c.read_line.new.input) line rows c.loop-before.before _ h.entries loses (search rules) (reads_at c.args.format line w.deref.result.now _ (search rules) w.in_ok-entry.ensures.ok);
            rows = rows_row c.args.format input (left c.loop-before.input) (left c.read_line.new.input) line rows c.loop-before.before _ h.rows loses (search rules) refl (reads_at c.args.format line w.deref.result.now _ (search rules) w.in_ok-entry.ensures.ok);
          }
      | else-not-is_empty w ↦
          let none = no_items line c.read_line.new.line.len c.is_empty.result (search rules) (search rules) (search rules) in
          rw w.rows-is record {
            entries = goes_empty c.args.format input (left c.loop-before.input) (left c.read_line.new.input) line (row_entries rows) c.loop-before.before h.entries loses none;
            rows = rows_empty c.args.format input (left c.loop-before.input) (left c.read_line.new.input) line (numbered rows) c.loop-before.before h.rows loses none;
          }
    ]

pub returns-in_err-read_line-clause-refused : goal.returns-in_err-read_line-clause-refused
returns-in_err-read_line-clause-refused g c =
    let input = g.I.Read.remaining c.args.input.now in
    handed_on c.from_residual.result c.in_err-read_line.field-0.0 (StopsReading c.args.format input) c.from_residual.ensures.1
    (reading_else c.args.format input c.in_err-read_line.field-0.0 c.in_err-read_line.ensures.refused)

pub returns-in_err-entry-clause-refused : goal.returns-in_err-entry-clause-refused
returns-in_err-entry-clause-refused g c =
    let left = g.I.Read.remaining in
    let input = left c.args.input.now in
    let line = c.read_line.new.line.items in
    let error = c.in_err-entry.field-0.0 in
    let h = c.loop-before in
    handed_on c.from_residual-in_err-entry.result error (StopsReading c.args.format input) c.from_residual-in_err-entry.ensures.1
    (stops_reading c.args.format input (left h.input) (left c.read_line.new.input) line (row_entries h.rows.items) h.before error h.invariant.entries
    (lost c.in_ok-read_line.field-0 (left h.input) (left c.read_line.new.input) line c.in_ok-read_line.ensures.ok c.if-not-branch.false)
    (subst (λ l. TellsSpelling (h.before + 1) c.args.format l error) c.deref.ensures.value c.in_err-entry.ensures.refused))

pub returns-clause-refused : goal.returns-clause-refused
returns-clause-refused g c =
    reading_else c.args.format (g.I.Read.remaining c.args.input.now) c.too_many.result c.too_many.ensures
