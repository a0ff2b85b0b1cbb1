use Rattle.std.proofs.Common.{List, length}
use Rattle.std.specs.Prelude.{map}
use Rattle.std.specs.Arc.{arc_value}
use Rattle.std.specs.List.{AllByRecursion}
use Rattle.lsm_tables.specs.Words.{AreCompactable, AreInOrder, HoldUnion, IsLeastSize, OpenTable}
use Rattle.lsm_tables.specs.Words.{SameTables}
use Rattle.lsm_tables.specs.Words.{range_of, union_in}
use Rattle.example_store.specs.Story.{IsOwnRun}
use Rattle.example_store.proofs.Compacting.{own_packed}
use Rattle.example_store.proofs.Refusing.{ok_is}
use Rattle.example_store.proofs.store.compact.packed.Goals as goal

pub returns-clause-own : goal.returns-clause-own
returns-clause-own g c bound order own =
    ok_is (λ v. map arc_value v.items) (AllByRecursion (IsOwnRun bound)) c.share_all.result c.in_ok-packed.packed.items c.share_all.ensures.ok
    (own_packed bound (map arc_value c.args.runs.now) c.in_ok-packed.packed.items own c.in_ok-packed.ensures.tables (c.in_ok-packed.ensures.ordered order))

pub returns-clause-tables : goal.returns-clause-tables
returns-clause-tables g c =
    ok_is (λ v. map arc_value v.items) (SameTables (map arc_value c.args.runs.now)) c.share_all.result c.in_ok-packed.packed.items c.share_all.ensures.ok c.in_ok-packed.ensures.tables

pub returns-clause-list : goal.returns-clause-list
returns-clause-list g c lists hold =
    ok_is (λ v. map arc_value v.items) (λ (runs : List (List OpenTable)). HoldUnion runs (union_in lists)) c.share_all.result c.in_ok-packed.packed.items c.share_all.ensures.ok (c.in_ok-packed.ensures.list lists hold)

pub returns-clause-able : goal.returns-clause-able
returns-clause-able g c able =
    ok_is (λ v. map arc_value v.items) AreCompactable c.share_all.result c.in_ok-packed.packed.items c.share_all.ensures.ok (c.in_ok-packed.ensures.able able)

pub returns-clause-least : goal.returns-clause-least
returns-clause-least g c =
    let given = map arc_value c.args.runs.now in
    ok_is (λ v. map arc_value v.items) (λ (runs : List (List OpenTable)). AreInOrder range_of given → IsLeastSize range_of given (length runs)) c.share_all.result c.in_ok-packed.packed.items c.share_all.ensures.ok c.in_ok-packed.ensures.least
