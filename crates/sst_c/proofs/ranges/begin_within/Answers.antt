use Rattle.std.proofs.Common.{IsSomeAnd, Option, subst, sym}
use Rattle.sst_c.specs.What.{IsRangeWhere, RangesTable, decode_bound}
use Rattle.sst_c.specs.declared.held.Held.{Held}
use Rattle.sst_c.proofs.ranges.begin_within.Goals as goal

-- what the handle holds is the range that was begun
pub returns-in-Ok-clause-ranges : goal.returns-in-Ok-clause-ranges
returns-in-Ok-clause-ranges c zero =
    let low = decode_bound c.args.lower_kind c.args.lower.now in
    let high = decode_bound c.args.upper_kind c.args.upper.now in
    let P : Option Held → Type 0 =
    λ o. IsSomeAnd o (λ r. IsRangeWhere (RangesTable low high c.args.table.now) r.what) in
    subst P (sym (c.begin.ensures.begun zero)) c.in-Ok.ensures.ranges
