use Rattle.std.specs.Prelude.{map}
use Rattle.std.specs.Arc.{arc_value}
use Rattle.sst_script.specs.Script.{store}
use Rattle.sst_script.proofs.StoreLemmas.{compact_executed, executed, pack_executed}
use Rattle.sst_script.proofs.script.Script.execute.Goals as goal

pub returns-in_ok-written-in-Table-clause-done : goal.returns-in_ok-written-in-Table-clause-done
returns-in_ok-written-in-Table-clause-done g c runs same =
    let s = c.args.self.now in
    let t = c.write_table-written.new.self in
    executed g.row.A.Denot c.args.command runs s.pending c.clear.new.self s.ids t.ids c.in_ok-written-in-Table.field-0 (map arc_value t.runs.items) c.in-Table.is c.clear.ensures
    (c.in_ok-written-in-Table.ensures.done runs same)

pub returns-in_ok-compact-in-Compact-clause-done : goal.returns-in_ok-compact-in-Compact-clause-done
returns-in_ok-compact-in-Compact-clause-done g c runs same =
    let s = c.args.self.now in
    let t = c.compact.new.self in
    compact_executed g.row.A.Denot c.args.command (store s.pending runs s.ids) c.in-Compact.watermark c.in-Compact.evict c.in-Compact.zero c.in_ok-compact-in-Compact.field-0 (map arc_value t.runs.items) (λ after. store t.pending after t.ids) c.in-Compact.is
    (c.in_ok-compact-in-Compact.ensures.done runs same)

pub returns-in_ok-pack-in-Pack-clause-done : goal.returns-in_ok-pack-in-Pack-clause-done
returns-in_ok-pack-in-Pack-clause-done g c runs same =
    let s = c.args.self.now in
    let t = c.pack.new.self in
    pack_executed g.row.A.Denot c.args.command (store s.pending runs s.ids) c.in_ok-pack-in-Pack.field-0 (map arc_value t.runs.items) (λ after. store t.pending after t.ids) c.in-Pack.is
    (c.in_ok-pack-in-Pack.ensures.done runs same)
