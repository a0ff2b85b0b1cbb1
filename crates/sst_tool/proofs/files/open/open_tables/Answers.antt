use Rattle.std.proofs.Common.{◌≡◌, ◌∙◌, ◌∷◌, ◌+◌, [], ap, length-append, ℕ}
use Rattle.sst_entries.proofs.Lists.{all_append}
use Rattle.lsm_readers.specs.point.Table.{OpenTable}
use Rattle.sst_tool.specs.files.Opened.{IsToldByBytes}
use Rattle.sst_tool.proofs.Opened.{opened_more, stops_opening, told_memory}
use Rattle.sst_tool.proofs.files.open.open_tables.Goals as goal

pub loop-path-preserved : goal.loop-path-preserved
loop-path-preserved g c =
    let before = c.loop-path.tables.items in
    let table = c.in_ok-table.ensures.recovered in
    let one = c.in_ok-table.table ∷ [] in
    let h = c.loop-path.invariant in
    rw c.in_ok-add_table.ensures.ok record {
      many = length-append before one ∙ ap (λ (n : ℕ). n + 1) h.many;
      numbers = all_append (λ (t : OpenTable). t.global_seqno ≡ 0) before one h.numbers
          (table.1, tt);
      recovered = all_append (IsToldByBytes c.args.pinned) before one h.recovered (table, tt);
      opened = opened_more c.args.pinned (g.P.Place.content c.args.place.now) c.args.paths.now c.loop-path.path-index _ before c.in_ok-table.table c.loop-path-test.true h.opened table c.in_ok-table.ensures.content;
    }

pub returns-in_err-table-clause-stops : goal.returns-in_err-table-clause-stops
returns-in_err-table-clause-stops g c =
    let returned = c.in_err-table.ensures in
    stops_opening c.args.pinned (g.P.Place.content c.args.place.now) c.from_residual.result c.args.paths.now c.loop-path.path-index _ c.loop-path.tables.items c.in_err-table.field-0.0 c.loop-path-test.true c.loop-path.invariant.opened returned.named returned.returned c.from_residual.ensures.1

pub returns-in_err-add_table-clause-stops : goal.returns-in_err-add_table-clause-stops
returns-in_err-add_table-clause-stops g c =
    let returned = c.in_err-add_table.ensures in
    let error = c.in_err-add_table.field-0.0 in
    stops_opening c.args.pinned (g.P.Place.content c.args.place.now) c.from_residual-in_err-add_table.result c.args.paths.now c.loop-path.path-index _ c.loop-path.tables.items error c.loop-path-test.true c.loop-path.invariant.opened returned.named (told_memory c.args.pinned _ error.fault returned.memory) c.from_residual-in_err-add_table.ensures.1
