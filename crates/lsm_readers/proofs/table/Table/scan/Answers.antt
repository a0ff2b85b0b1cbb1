use Rattle.std.proofs.Common.{ap, subst, ◌∙◌}
use Rattle.std.specs.Prelude.{IfOk}
use Rattle.sst_blocks.specs.declared.block_type.BlockType.TheVariants.{Data}
use Rattle.sst_blocks.specs.Block.{load_at_result}
use Rattle.sst_entries.specs.Error.{Faults}
use Rattle.sst_blocks.specs.Sections.{body_of}
use Rattle.sst_entries.specs.Stream.{YieldsExactly, nowhere, answer_stops}
use Rattle.lsm_readers.specs.point.Table.{IsOpen, table_of}
use Rattle.lsm_readers.specs.Scan.{IsNewScan, Scan, ScansLent, ScansNext, fault_of, scan_results}
use Rattle.lsm_readers.specs.point.Table.{OpenTable}
use Rattle.lsm_readers.proofs.StoredParts.{stored_lends, stored_scans}
use Rattle.lsm_readers.proofs.table.Table.scan.Goals as goal

pub returns-clause-yields : goal.returns-clause-yields
returns-clause-yields g c stops memory =
    let seen = ap (table_of c.self.inside.source) c.deref-inner.ensures ∙ c.self.view_is in
    subst (λ (u : OpenTable). IfOk c.new.result (λ (s : Scan). YieldsExactly (answer_stops stops) ScansNext nowhere s (scan_results (body_of u.bytes) u.parts.facts.data_block_count u.global_seqno))) seen (c.new.ensures.yields stops memory)

pub returns-clause-list : goal.returns-clause-list
returns-clause-list g c es is =
    let t = c.args.self.now in
    let seen = ap (table_of c.self.inside.source) c.deref-inner.ensures ∙ c.self.view_is in
    let held = subst IsOpen c.self.view_is c.self.invariant in
    stored_scans t.bytes es is t.global_seqno held.recovered.pin_filter held.recovered.pin_index t.parts held.recovered.returned c.new.result
    (λ stops memory. subst (λ (u : OpenTable). IfOk c.new.result (λ (s : Scan). YieldsExactly (answer_stops stops) ScansNext nowhere s (scan_results (body_of u.bytes) u.parts.facts.data_block_count u.global_seqno))) seen (c.new.ensures.yields stops memory))
    (subst (λ (u : OpenTable). Faults c.new.result (fault_of (load_at_result (body_of u.bytes) 0 Data))) seen c.new.ensures.refused)

pub returns-clause-lends : goal.returns-clause-lends
returns-clause-lends g c stops memory =
    let seen = ap (table_of c.self.inside.source) c.deref-inner.ensures ∙ c.self.view_is in
    subst (λ (u : OpenTable). IfOk c.new.result (λ (s : Scan). YieldsExactly (answer_stops stops) ScansLent nowhere s (scan_results (body_of u.bytes) u.parts.facts.data_block_count u.global_seqno))) seen (c.new.ensures.lends stops memory)

pub returns-clause-lends_list : goal.returns-clause-lends_list
returns-clause-lends_list g c es is =
    let t = c.args.self.now in
    let seen = ap (table_of c.self.inside.source) c.deref-inner.ensures ∙ c.self.view_is in
    let held = subst IsOpen c.self.view_is c.self.invariant in
    stored_lends t.bytes es is t.global_seqno held.recovered.pin_filter held.recovered.pin_index t.parts held.recovered.returned c.new.result
    (λ stops memory. subst (λ (u : OpenTable). IfOk c.new.result (λ (s : Scan). YieldsExactly (answer_stops stops) ScansLent nowhere s (scan_results (body_of u.bytes) u.parts.facts.data_block_count u.global_seqno))) seen (c.new.ensures.lends stops memory))
    (subst (λ (u : OpenTable). Faults c.new.result (fault_of (load_at_result (body_of u.bytes) 0 Data))) seen c.new.ensures.refused)

pub returns-clause-left : goal.returns-clause-left
returns-clause-left g c =
    let seen = ap (table_of c.self.inside.source) c.deref-inner.ensures ∙ c.self.view_is in
    subst (λ (u : OpenTable). IfOk c.new.result (IsNewScan (body_of u.bytes) u.parts.facts.data_block_count u.global_seqno)) seen c.new.ensures.left
