use Rattle.std.proofs.Common.{rules, arith}
use Rattle.sst_tool.specs.make.Faults.{StopsIn, TellsLine}
use Rattle.std.proofs.Common.{◌+◌, subst}
use Rattle.sst_tool.proofs.LineLemmas.{at_end, handed_on, lost, no_items, stops_else}
use Rattle.sst_tool.proofs.Taken.{lines_empty, lines_end, lines_more, lines_stop}
use Rattle.sst_tool.proofs.make.entries.write_lines.Goals as goal
use Rattle.sst_tool.proofs.make.entries.write_lines.Goals.{then-not-is_empty+in_ok-write_line, else-not-is_empty}

pub returns-then-not-branch-clause-ok : goal.returns-then-not-branch-clause-ok
returns-then-not-branch-clause-ok g c =
    let left = g.I.Read.remaining in
    lines_end c.args.format (left c.args.input.now) (left c.loop-before.input) c.args.writer.now c.loop-before.writer c.loop-before.count c.loop-before.before c.loop-before.invariant.took
    (at_end c.in_ok-read_line.field-0 _ _ _ c.in_ok-read_line.ensures.ok c.if-not-branch.true)

pub loop-before-preserved : goal.loop-before-preserved
loop-before-preserved g c =
    let left = g.I.Read.remaining in
    let input = left c.args.input.now in
    let line = c.read_line.new.line.items in
    let w = c.args.writer.now in
    let h = c.loop-before.invariant in
    let loses = lost c.in_ok-read_line.field-0 (left c.loop-before.input) (left c.read_line.new.input) line c.in_ok-read_line.ensures.ok c.if-not-branch.false in
    elim c.if-not-is_empty.branch [
      | then-not-is_empty+in_ok-write_line v ↦
          rw (v.writer-is, v.count-is) record {
            took = lines_more c.args.format input (left c.loop-before.input) (left c.read_line.new.input) line w c.loop-before.writer _ c.loop-before.count c.loop-before.before h.took loses (search rules) (search rules);
            few = omega (arith, h.few);
          }
      | else-not-is_empty v ↦
          rw (v.writer-is, v.count-is) record {
            took = lines_empty c.args.format input (left c.loop-before.input) (left c.read_line.new.input) line w c.loop-before.writer c.loop-before.count c.loop-before.before h.took loses (no_items line c.read_line.new.line.len c.is_empty.result (search rules) (search rules) (search rules));
            few = omega (arith, h.few);
          }
    ]

pub returns-in_err-read_line-clause-refused : goal.returns-in_err-read_line-clause-refused
returns-in_err-read_line-clause-refused g c =
    let input = g.I.Read.remaining c.args.input.now in
    let before = c.args.writer.now in
    handed_on c.from_residual.result c.in_err-read_line.field-0.0 (StopsIn c.args.format input before) c.from_residual.ensures.1
    (stops_else c.args.format input before c.in_err-read_line.field-0.0 c.in_err-read_line.ensures.refused)

pub returns-in_err-write_line-clause-refused : goal.returns-in_err-write_line-clause-refused
returns-in_err-write_line-clause-refused g c =
    let left = g.I.Read.remaining in
    let input = left c.args.input.now in
    let line = c.read_line.new.line.items in
    let error = c.in_err-write_line.field-0.0 in
    let h = c.loop-before in
    handed_on c.from_residual-in_err-write_line.result error (StopsIn c.args.format input c.args.writer.now) c.from_residual-in_err-write_line.ensures.1
    (lines_stop c.args.format input (left h.input) (left c.read_line.new.input) line c.args.writer.now h.writer h.count h.before error h.invariant.took
    (lost c.in_ok-read_line.field-0 (left h.input) (left c.read_line.new.input) line c.in_ok-read_line.ensures.ok c.if-not-branch.false)
    (subst (λ l. TellsLine (h.before + 1) c.args.format h.writer l error) c.deref.ensures.value c.in_err-write_line.ensures.refused))

pub returns-clause-refused : goal.returns-clause-refused
returns-clause-refused g c =
    stops_else c.args.format (g.I.Read.remaining c.args.input.now) c.args.writer.now c.too_many.result c.too_many.ensures
