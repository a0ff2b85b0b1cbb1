use Rattle.std.proofs.Common.{ap, subst, sym, ◌∙◌}
use Rattle.lsm_readers.specs.point.Table.{IsOpen, OpenTable, table_of}
use Rattle.lsm_readers.proofs.Recovered.{range_is}
use Rattle.lsm_readers.proofs.table.TableRanged.key_range.Goals as goal

pub returns : goal.returns
returns g c =
    let t = c.args.self.now in
    let held = subst IsOpen c.self.view_is c.self.invariant in
    let shown = ap (table_of c.self.inside.source) c.deref.ensures ∙ c.self.view_is in
    ap (λ (u : OpenTable). u.parts.facts.key_range) shown ∙ sym (range_is t held.recovered)
