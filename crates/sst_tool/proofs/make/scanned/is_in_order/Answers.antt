use Rattle.std.proofs.Common.{◌∙◌, refl, sym, true, false}
use Rattle.std.specs.Prelude.{None, Some}
use Rattle.sst_entries.specs.Lending.{entry_of_ref}
use Rattle.lsm_readers.specs.Scan.{ScansLent}
use Rattle.sst_tool.proofs.Scanning.{came_err, came_lent, came_none, came_ok, ended_so}
use Rattle.sst_tool.proofs.Scanning.{order_broken, order_more, order_none, order_refused}
use Rattle.sst_tool.proofs.Scanning.{test_told}
use Rattle.sst_tool.proofs.make.scanned.is_in_order.Goals as goal

pub returns-in-Err-clause-order : goal.returns-in-Err-clause-order
returns-in-Err-clause-order g c = λ rs d.
    let left = c.loop-error.invariant rs d in
    ended_so c.ended_by.result c.in-Err.error _ c.ended_by.ensures.fault c.ended_by.ensures.order
    (λ other. left.2 ∙ order_refused _ left.0 c.in-Err.error (came_err ScansLent c.loop-error.items
    c.advance.new.self c.in-Err.error left.0 left.1 c.in-Err.ensures.goes other))

pub returns-in_default-entry-clause-order : goal.returns-in_default-entry-clause-order
returns-in_default-entry-clause-order g c = λ rs d.
    let left = c.loop-error.invariant rs d in
    sym (left.2 ∙ order_none _ left.0 (came_none ScansLent c.loop-error.items c.advance.new.self
    left.0 left.1 (came_lent ScansLent c.loop-error.items c.advance.new.self
    c.advance.new.self.lent None c.in_default-entry.ensures c.in_default.ensures.goes)))

pub returns-then-not-may_follow-clause-order : goal.returns-then-not-may_follow-clause-order
returns-then-not-may_follow-clause-order g c = λ rs d.
    let left = c.loop-error.invariant rs d in
    let x = entry_of_ref c.in-Some.entry in
    let next = came_ok ScansLent c.loop-error.items c.advance.new.self x left.0 left.1
    (came_lent ScansLent c.loop-error.items c.advance.new.self c.advance.new.self.lent (Some x)
    c.in-Some.ensures c.in_default.ensures.goes) in
    let not = test_told c.loop-error.key.items c.deref.result.now c.loop-error.last x
    c.may_follow.result false c.deref.ensures.value c.may_follow.ensures c.if-not-may_follow.true in
    sym (left.2 ∙ order_broken _ x left.0 next.others not next.are)

pub loop-error-preserved : goal.loop-error-preserved
loop-error-preserved g c = λ rs d.
    let left = c.loop-error.invariant rs d in
    let x = entry_of_ref c.in-Some.entry in
    let next = came_ok ScansLent c.loop-error.items c.advance.new.self x left.0 left.1
    (came_lent ScansLent c.loop-error.items c.advance.new.self c.advance.new.self.lent (Some x)
    c.in-Some.ensures c.in_default.ensures.goes) in
    let may = test_told c.loop-error.key.items c.deref.result.now c.loop-error.last x
    c.may_follow.result true c.deref.ensures.value c.may_follow.ensures c.if-not-may_follow.false in (
      next.others,
      next.yields,
      left.2 ∙ order_more _ x c.put_bytes.new.buffer.items c.in-Some.entry.seqno left.0 next.others may
          next.are c.in_ok-put_bytes.ensures.put refl,
    )
