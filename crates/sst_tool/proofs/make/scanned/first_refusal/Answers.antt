use Rattle.lsm_readers.specs.Scan.{ScansLent}
use Rattle.sst_tool.proofs.Scanning.{came_entry, came_err, came_none, came_nothing, came_ok}
use Rattle.sst_tool.proofs.Scanning.{refused_behind, refused_last, refused_none}
use Rattle.sst_tool.proofs.make.scanned.first_refusal.Goals as goal

pub loop-error-preserved : goal.loop-error-preserved
loop-error-preserved g c = λ rs d.
    let left = c.loop-error.invariant rs d in
    let one = came_entry ScansLent c.loop-error.items c.advance.new.self _ _
    c.in-Ok-true.ensures.more c.in-Ok-true.field-0-test c.in-Ok-true.ensures.goes in
    let next = came_ok ScansLent c.loop-error.items c.advance.new.self one.0 left.0 left.1 one.1 in
    (next.others, next.yields, refused_behind rs left.0 next.others one.0 left.2 next.are)

pub returns-in-Ok-false : goal.returns-in-Ok-false
returns-in-Ok-false g c = record {
  first = λ rs d.
      let left = c.loop-error.invariant rs d in
      refused_none rs left.0 left.2 (came_none ScansLent c.loop-error.items c.advance.new.self
      left.0 left.1 (came_nothing ScansLent c.loop-error.items c.advance.new.self _ _
      c.in-Ok-false.ensures.more c.in-Ok-false.field-0-test c.in-Ok-false.ensures.goes));
}

pub returns-in-Err : goal.returns-in-Err
returns-in-Err g c = record {
  first = λ rs d.
      let left = c.loop-error.invariant rs d in
      refused_last rs left.0 c.in-Err.error left.2 (came_err ScansLent c.loop-error.items
      c.advance.new.self c.in-Err.error left.0 left.1 c.in-Err.ensures.goes);
}
