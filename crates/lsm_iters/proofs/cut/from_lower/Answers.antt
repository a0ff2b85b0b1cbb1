use Rattle.std.proofs.Common.{◌∙◌, ap}
use Rattle.std.specs.declared.ops.Bound.TheVariants.{Unbounded}
use Rattle.sst_entries.specs.Entry.{Entry}
use Rattle.sst_entries.specs.Span.{Span, rest_in}
use Rattle.lsm_iters.proofs.Cuts.{whole_within}
use Rattle.lsm_iters.proofs.cut.from_lower.Goals as goal

pub returns-in-None : goal.returns-in-None
returns-in-None g c = rw (c.new-iter.ensures.whole, c.in-None.is) (whole_within c.args.block)

pub returns-in-Some : goal.returns-in-Some
returns-in-Some g c =
    let was = ap (λ (s : Span Entry). rest_in s) c.new-iter.ensures.whole ∙ whole_within c.args.block in
    rw c.in-Some.is (c.seek_lower_bound.ensures.both Unbounded c.args.block was)
