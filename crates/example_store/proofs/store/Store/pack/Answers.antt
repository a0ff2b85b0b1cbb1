use Rattle.std.proofs.Common.{length, ◌≡◌, sym, ◌∙◌, ap, subst, List}
use Rattle.std.specs.Prelude.{map}
use Rattle.std.specs.Arc.{arc_value}
use Rattle.lsm_tables.specs.Words.{AreCompactable, IsLeastSize, OpenTable, RunsHoldLists}
use Rattle.lsm_tables.specs.Words.{SameTables, range_of}
use Rattle.lsm_tables.proofs.TableLaws.{runs_in_order}
use Rattle.std.specs.List.{AllByRecursion}
use Rattle.example_store.specs.Story.{Holding, IsOwnRun}
use Rattle.example_store.proofs.Compacting.{valid_replaced, reports_packed}
use Rattle.example_store.proofs.store.Store.pack.Goals as goal

pub invariant_of-self : goal.invariant_of-self
invariant_of-self g c =
    let i = c.self.inside in
    let able = c.self.invariant.runs.able in
    let given = ap (map arc_value) (sym c.deref.ensures.value) in
    let hold = subst (λ (rs : List (List OpenTable)). RunsHoldLists rs able.lists) given able.hold in
    let own = subst (AllByRecursion (IsOwnRun i.flushed)) given c.self.invariant.runs.own in
    valid_replaced i.memtable (map arc_value i.runs.items) (map arc_value c.in_ok-packed.packed.items) i.ids i.ids i.target i.next i.flushed i.oldest i.oldest i.limit c.self.invariant
    (record {
      own = c.in_ok-packed.ensures.own i.flushed (runs_in_order (map arc_value c.deref.result.now) able.lists hold) own;
      able = c.in_ok-packed.ensures.able (subst AreCompactable given able);
    })
    c.self.invariant.kept

pub returns-clause-story : goal.returns-clause-story
returns-clause-story g c ws returned =
    let is = c.self.view_is in
    let s = c.args.self.now in
    let same : map arc_value c.deref.result.now ≡ s.runs = ap (map arc_value) c.deref.ensures.value ∙ ap (λ (h : Holding). h.runs) is in
    let hold = subst (λ (rs : List (List OpenTable)). RunsHoldLists rs returned.lists) (sym same) returned.hold in
    reports_packed s _ ws returned (c.in_ok-packed.ensures.list returned.lists hold)
    (ap (λ (h : Holding). h.recent) is)
    (ap (λ (h : Holding). h.next) is)
    (ap (λ (h : Holding). h.oldest) is)

pub returns-clause-least : goal.returns-clause-least
returns-clause-least g c =
    let same : map arc_value c.deref.result.now ≡ c.args.self.now.runs = ap (map arc_value) c.deref.ensures.value ∙ ap (λ (h : Holding). h.runs) c.self.view_is in
    let able = c.self.invariant.runs.able in
    let hold = subst (λ (rs : List (List OpenTable)). RunsHoldLists rs able.lists) (ap (map arc_value) (sym c.deref.ensures.value)) able.hold in
    let packed = c.in_ok-packed.packed.items in
    subst (λ (rs : List (List OpenTable)). IsLeastSize range_of rs (length (map arc_value packed))) same
    (c.in_ok-packed.ensures.least (runs_in_order (map arc_value c.deref.result.now) able.lists hold))

pub returns-clause-list : goal.returns-clause-list
returns-clause-list g c lists hold =
    let same : map arc_value c.deref.result.now ≡ c.args.self.now.runs = ap (map arc_value) c.deref.ensures.value ∙ ap (λ (h : Holding). h.runs) c.self.view_is in
    c.in_ok-packed.ensures.list lists (subst (λ (rs : List (List OpenTable)). RunsHoldLists rs lists) (sym same) hold)

pub returns-clause-tables : goal.returns-clause-tables
returns-clause-tables g c =
    let same : map arc_value c.deref.result.now ≡ c.args.self.now.runs = ap (map arc_value) c.deref.ensures.value ∙ ap (λ (h : Holding). h.runs) c.self.view_is in
    subst (λ (rs : List (List OpenTable)). SameTables rs (map arc_value c.in_ok-packed.packed.items)) same c.in_ok-packed.ensures.tables
