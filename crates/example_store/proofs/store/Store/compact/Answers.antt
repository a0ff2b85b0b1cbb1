use Rattle.std.proofs.Common.{◌≡◌, ◌≤◌, sym, ◌∙◌, ap, subst, ℕ, List, true, false, arith, rules}
use Rattle.std.specs.Prelude.{Some, length, map, max, min, sum_by}
use Rattle.std.specs.Arc.{arc_value}
use Rattle.std.specs.List.{AllByRecursion}
use Rattle.std.proofs.lemmas.List.{length-map}
use Rattle.lsm_tables.specs.Words.{AreCompactable, AreCutOf, OpenTable, RunsHoldLists, ids_behind}
use Rattle.lsm_tables.specs.Words.{is_memory, kept_in, rules_by, run_label, tables_fault}
use Rattle.example_store.specs.Ids.{AreMadeOf}
use Rattle.example_store.specs.Story.{Holding, IsOwnRun, IsStore}
use Rattle.example_store.proofs.Compacting.{valid_replaced, reports_compacted}
use Rattle.example_store.proofs.Refusing.{passed_on}
use Rattle.example_store.proofs.store.Store.compact.Goals as goal

pub compacted-requires : goal.compacted-requires
compacted-requires g c =
    subst AreCompactable (sym (ap (map arc_value) c.deref.ensures.value)) c.self.invariant.runs.able

pub returns-in_err-runs-clause-refused : goal.returns-in_err-runs-clause-refused
returns-in_err-runs-clause-refused g c lists hold =
    let is = c.self.view_is in
    let i = c.self.inside in
    let e = c.in_err-runs.field-0.0 in
    let same : map arc_value c.deref.result.now ≡ c.args.self.now.runs = ap (map arc_value) c.deref.ensures.value ∙ ap (λ (h : Holding). h.runs) is in
    let held = subst (λ (rs : List (List OpenTable)). RunsHoldLists rs lists) (sym same) hold in
    let lowest : c.min-watermark.result ≡ min c.args.watermark i.next = search rules in
    passed_on c.from_residual.result e _ c.from_residual.ensures.1
    (subst (λ (h : Holding). is_memory e ≡ false → tables_fault h.ids h.target 0 (kept_in (rules_by (min c.args.watermark h.next) true false) lists) ≡ Some e) is
    (subst (λ (n : ℕ). is_memory e ≡ false → tables_fault i.ids i.target 0 (kept_in (rules_by n true false) lists) ≡ Some e) lowest
    (c.in_err-runs.ensures.refused lists held)))

pub returns-clause-few : goal.returns-clause-few
returns-clause-few g c =
    subst (λ (n : ℕ). n ≤ 1) (sym (length-map c.in_ok-runs.runs.items arc_value)) c.in_ok-runs.ensures.few

pub returns-clause-oldest : goal.returns-clause-oldest
returns-clause-oldest g c =
    let lowest : c.min-watermark.result ≡ min c.args.watermark c.self.inside.next = search rules in
    let highest : c.max-self-inside.result ≡ max c.self.inside.oldest c.min-watermark.result = search rules in
    highest ∙ ap (max c.self.inside.oldest) lowest
    ∙ ap (λ (h : Holding). max h.oldest (min c.args.watermark h.next)) c.self.view_is

pub invariant_of-self : goal.invariant_of-self
invariant_of-self g c =
    let i = c.self.inside in
    let given = sym (ap (map arc_value) c.deref.ensures.value) in
    let own = subst (AllByRecursion (IsOwnRun i.flushed)) given c.self.invariant.runs.own in
    let kept = c.self.invariant.kept in
    let lowest : c.min-watermark.result ≡ min c.args.watermark c.self.inside.next = search rules in
    let highest : c.max-self-inside.result ≡ max c.self.inside.oldest c.min-watermark.result = search rules in
    valid_replaced i.memtable (map arc_value i.runs.items) (map arc_value c.in_ok-runs.runs.items) i.ids c.in_ok-runs.ids i.target i.next i.flushed i.oldest c.max-self-inside.result i.limit c.self.invariant
    (record { own = c.in_ok-runs.ensures.own i.flushed own; able = c.in_ok-runs.ensures.able })
    (omega (arith, kept, lowest, highest))

pub returns-clause-story : goal.returns-clause-story
returns-clause-story g c ws returned =
    let is = c.self.view_is in
    let s = c.args.self.now in
    let same : map arc_value c.deref.result.now ≡ s.runs = ap (map arc_value) c.deref.ensures.value ∙ ap (λ (h : Holding). h.runs) is in
    let hold = subst (λ (rs : List (List OpenTable)). RunsHoldLists rs returned.lists) (sym same) returned.hold in
    let highest : c.max-self-inside.result ≡ max c.self.inside.oldest c.min-watermark.result = search rules in
    let oldest = ap (λ (h : Holding). h.oldest) is in
    reports_compacted s _ ws (rules_by c.min-watermark.result true false) (subst IsStore is c.self.invariant) returned
    (c.in_ok-runs.ensures.kept returned.lists hold)
    (ap (λ (h : Holding). h.recent) is)
    (ap (λ (h : Holding). h.next) is)
    (omega (arith, highest, oldest))
    (omega (arith, highest))

pub returns-clause-made : goal.returns-clause-made
returns-clause-made g c lists hold =
    let s = c.args.self.now in
    let is = c.self.view_is in
    let same : map arc_value c.deref.result.now ≡ s.runs = ap (map arc_value) c.deref.ensures.value ∙ ap (λ (h : Holding). h.runs) is in
    let held = subst (λ (rs : List (List OpenTable)). RunsHoldLists rs lists) (sym same) hold in
    let new = c.in_ok-runs.runs.items in
    let made = map arc_value new in
    let lowest : c.min-watermark.result ≡ min c.args.watermark c.self.inside.next = search rules in
    let capped = lowest ∙ ap (λ (h : Holding). min c.args.watermark h.next) is in
    subst (λ (n : ℕ). AreMadeOf s (kept_in (rules_by n true false) lists) made) capped (record {
      has = c.in_ok-runs.ensures.kept lists held;
      few = subst (λ (n : ℕ). n ≤ 1) (sym (length-map new arc_value)) c.in_ok-runs.ensures.few;
      cut = subst (λ (h : Holding). AllByRecursion (AreCutOf (run_label h.ids h.target 0) h.target (kept_in (rules_by c.min-watermark.result true false) lists) 0) made) is
          (c.in_ok-runs.ensures.cut lists held);
    })

pub returns-clause-ids : goal.returns-clause-ids
returns-clause-ids g c =
    c.in_ok-runs.ensures.ids ∙ ap (λ (h : Holding). ids_behind h.ids h.target (sum_by length (map arc_value c.in_ok-runs.runs.items))) c.self.view_is
