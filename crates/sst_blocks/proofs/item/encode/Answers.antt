use Rattle.std.proofs.Common.{◌<◌, ◌^◌, arith}
use Rattle.std.specs.Prelude.{Result, Ok, Err, OnOk}
use Rattle.sst_blocks.specs.Bounds.{bound_of}
use Rattle.sst_blocks.proofs.Faults.{bound_is, few}
use Rattle.sst_blocks.proofs.item.encode.Goals as goal

always : {T E : Type 0} (r : Result T E) (Q : Type 0) → Q → OnOk r Q
always (Ok x) Q q = q
always (Err e) Q q = tt

pub put_items-outcome-requires-clause-few : goal.put_items-outcome-requires-clause-few
put_items-outcome-requires-clause-few g c =
    let room : bound_of g.T.Item.bound c.args.items.now < 2 ^ 32 = omega (arith, c.in_ok-len.ensures.len.0, c.in_ok-len.ensures.len.1) in
    few g.T.Item.bytes g.T.Item.bound c.takes.ensures c.args.items.now room

pub returns-else-is_err-clause-bound : goal.returns-else-is_err-clause-bound
returns-else-is_err-clause-bound g c =
    let room : bound_of g.T.Item.bound c.args.items.now < 2 ^ 32 = omega (arith, c.in_ok-len.ensures.len.0, c.in_ok-len.ensures.len.1) in
    always c.put_items-outcome.result _ (bound_is g.T.Item.bytes g.T.Item.bound c.takes.ensures c.args.items.now room)

pub returns-else-is_err-clause-short : goal.returns-else-is_err-clause-short
returns-else-is_err-clause-short g c =
    let room : bound_of g.T.Item.bound c.args.items.now < 2 ^ 32 = omega (arith, c.in_ok-len.ensures.len.0, c.in_ok-len.ensures.len.1) in
    always c.put_items-outcome.result _ (omega (arith, bound_is g.T.Item.bytes g.T.Item.bound c.takes.ensures c.args.items.now room))
