use Rattle.std.proofs.Common.{◌≡◌, ◌∷◌, [], ◌+◌, ◌<◌, ◌∙◌, ℕ, List, ap, sym, map, take, length, get_or}
use Rattle.std.proofs.Common.{◌++◌}
use Rattle.std.proofs.lemmas.List.{map_more}
use Rattle.std.proofs.lemmas.List.{map-append}
use Rattle.std.specs.Arc.{arc_value}
use Rattle.lsm_readers.specs.point.Table.{OpenTable}
use Rattle.sst_tool.specs.make.Compacted.{each_alone}
use Rattle.sst_tool.proofs.make.compact.runs_of.Goals as goal

-- one more table, as a run of its own
alone_more : {X : Type 0} (value : X → List OpenTable) (ts : List OpenTable) (i : ℕ) (t : OpenTable)
    (rs more : List X) (r : X) → i < length ts → t ≡ get_or ts i t
    → map value rs ≡ each_alone (take i ts) → value r ≡ t ∷ [] → more ≡ rs ++ r ∷ []
    → map value more ≡ each_alone (take (i + 1) ts)
alone_more value ts i t rs more r h is before one grows =
    let alone = λ (t : OpenTable). t ∷ [] in
    ap (map value) grows ∙ map-append value rs (r ∷ [])
    ∙ ap (λ (run : List (List OpenTable)). run ++ value r ∷ []) before
    ∙ ap (λ (run : List OpenTable). each_alone (take i ts) ++ run ∷ []) (one ∙ ap alone is)
    ∙ sym (map_more alone ts i t h)

pub loop-table-preserved : goal.loop-table-preserved
loop-table-preserved g c =
    alone_more arc_value c.args.tables.now c.loop-table.table-index c.table-item.result
    c.loop-table.runs.items _ c.in_ok-run_of.field-0 c.loop-table-test.true c.table-item.is
    c.loop-table.invariant c.in_ok-run_of.ensures.ok c.in_ok-push.ensures.items
