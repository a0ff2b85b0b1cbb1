use Rattle.std.proofs.Common.{◌≡◌, ap, subst, sym, ◌∙◌}
use Rattle.std.specs.List.{AllByRecursion}
use Rattle.std.specs.Prelude.{IsTrue}
use Rattle.sst_entries.specs.Entry.{Entry}
use Rattle.lsm_sorted.specs.version.KeyRange.{Interval, key_bound, has_key}
use Rattle.lsm_readers.specs.point.Table.{IsOpen, table_of}
use Rattle.lsm_readers.specs.OfList.{ends_of}
use Rattle.lsm_readers.specs.point.Table.{OpenTable}
use Rattle.lsm_readers.proofs.Ends.{keys_within, nothing_within}
use Rattle.lsm_readers.proofs.StoredParts.{bears_out}
use Rattle.lsm_readers.proofs.table.Table.check_key_range_overlap.Goals as goal

pub returns-clause-list : goal.returns-clause-list
returns-clause-list g c none es t =
    let seen = c.args.self.now in
    let held = subst IsOpen c.self.view_is c.self.invariant in
    let range : Interval = (c.deref.result.now.metadata).key_range in
    let shown : range ≡ seen.parts.facts.key_range = ap (λ (u : OpenTable). u.parts.facts.key_range) (ap (table_of c.self.inside.source) c.deref.ensures ∙ c.self.view_is) in
    let ends : range ≡ ends_of es = shown ∙ (bears_out seen.bytes es t seen.global_seqno held.recovered.pin_filter held.recovered.pin_index seen.parts held.recovered.returned).key_range in
    let keys = subst (λ (r : Interval). AllByRecursion (λ (e : Entry). IsTrue (has_key r e.user_key)) es) (sym ends) (keys_within es t.strict) in
    nothing_within es (key_bound c.args.bounds.now.0) (key_bound c.args.bounds.now.1) range keys (c.overlaps_with_bounds.ensures.outside none)
