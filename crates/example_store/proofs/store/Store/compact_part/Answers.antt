use Rattle.std.proofs.Common.{◌≡◌, ◌≤◌, sym, ◌∙◌, ap, subst, ℕ, false, List, drop, arith, rules}
use Rattle.std.specs.Prelude.{length, map, max, min, sum_by}
use Rattle.std.specs.Arc.{arc_value}
use Rattle.std.specs.List.{AllByRecursion}
use Rattle.std.proofs.lemmas.List.{length-map}
use Rattle.lsm_tables.specs.Words.{AreCompactable, AreCutOf, OpenTable, RunsHoldLists, ids_behind}
use Rattle.lsm_tables.specs.Words.{kept_in, rules_by}
use Rattle.lsm_tables.specs.Words.{run_label}
use Rattle.example_store.specs.Ids.{AreMadeOf}
use Rattle.example_store.specs.Part.{front_runs, part_runs}
use Rattle.example_store.specs.Story.{Holding, IsOwnRun, IsStore}
use Rattle.example_store.proofs.Compacting.{valid_replaced}
use Rattle.example_store.proofs.Parts.{able_alone, below_part, placed_part, reports_part}
use Rattle.example_store.proofs.store.Store.compact_part.Goals as goal

pub compacted-requires : goal.compacted-requires
compacted-requires g c =
    let i = c.self.inside in
    let order = c.self.invariant.order in
    let room = c.self.invariant.room in
    let given : map arc_value c.deref.result.now ≡ map arc_value i.runs.items = ap (map arc_value) c.deref.ensures.value in
    subst AreCompactable (sym (c.cut_out.ensures.part ∙ ap (part_runs c.args.from c.args.to) given))
    (able_alone i.flushed c.args.from c.args.to (map arc_value i.runs.items) (omega (arith, order, room)) c.self.invariant.runs)

pub invariant_of-self : goal.invariant_of-self
invariant_of-self g c =
    let i = c.self.inside in
    let from = c.args.from in
    let to = c.args.to in
    let old = map arc_value i.runs.items in
    let new = map arc_value c.in_ok-runs.runs.items in
    let made = map arc_value c.in_ok-made.made.items in
    let given : map arc_value c.deref.result.now ≡ old = ap (map arc_value) c.deref.ensures.value in
    let part = sym (c.cut_out.ensures.part ∙ ap (part_runs from to) given) in
    let kept = c.self.invariant.kept in
    let lowest : c.min-watermark.result ≡ min c.args.watermark c.self.inside.next = search rules in
    let highest : c.max-self-inside.result ≡ max c.self.inside.oldest c.min-watermark.result = search rules in
    let placed = placed_part _ _ _ new (front_runs from to old) made (drop to old) c.in_ok-runs.ensures.runs
    (c.cut_out.ensures.front ∙ ap (front_runs from to) given) (ap (map arc_value) c.deref-2.ensures.value) (c.cut_out.ensures.behind ∙ ap (drop to) given) in
    valid_replaced i.memtable old new i.ids c.in_ok-made.ids i.target i.next i.flushed i.oldest c.max-self-inside.result i.limit c.self.invariant
    (below_part i.flushed from to c.min-watermark.result old new made c.self.invariant.runs
    (λ ps hold. c.in_ok-made.ensures.kept ps (subst (λ (rs : List (List OpenTable)). RunsHoldLists rs ps) part hold))
    (λ own. c.in_ok-made.ensures.own i.flushed (subst (AllByRecursion (IsOwnRun i.flushed)) part own))
    placed)
    (omega (arith, kept, lowest, highest))

pub returns-clause-story : goal.returns-clause-story
returns-clause-story g c ws returned =
    let is = c.self.view_is in
    let s = c.args.self.now in
    let from = c.args.from in
    let to = c.args.to in
    let new = map arc_value c.in_ok-runs.runs.items in
    let made = map arc_value c.in_ok-made.made.items in
    let given : map arc_value c.deref.result.now ≡ s.runs = ap (map arc_value) c.deref.ensures.value ∙ ap (λ (h : Holding). h.runs) is in
    let part = sym (c.cut_out.ensures.part ∙ ap (part_runs from to) given) in
    let placed = placed_part _ _ _ new (front_runs from to s.runs) made (drop to s.runs) c.in_ok-runs.ensures.runs
    (c.cut_out.ensures.front ∙ ap (front_runs from to) given) (ap (map arc_value) c.deref-2.ensures.value) (c.cut_out.ensures.behind ∙ ap (drop to) given) in
    let highest : c.max-self-inside.result ≡ max c.self.inside.oldest c.min-watermark.result = search rules in
    let oldest = ap (λ (h : Holding). h.oldest) is in
    reports_part s _ ws from to c.min-watermark.result made (subst IsStore is c.self.invariant) returned
    (λ ps hold. c.in_ok-made.ensures.kept ps (subst (λ (rs : List (List OpenTable)). RunsHoldLists rs ps) part hold))
    placed
    (ap (λ (h : Holding). h.recent) is)
    (ap (λ (h : Holding). h.next) is)
    (omega (arith, highest, oldest))
    (omega (arith, highest))

pub returns-clause-made : goal.returns-clause-made
returns-clause-made g c lists hold =
    let s = c.args.self.now in
    let from = c.args.from in
    let to = c.args.to in
    let new = map arc_value c.in_ok-runs.runs.items in
    let made = map arc_value c.in_ok-made.made.items in
    let given : map arc_value c.deref.result.now ≡ s.runs = ap (map arc_value) c.deref.ensures.value ∙ ap (λ (h : Holding). h.runs) c.self.view_is in
    let part = sym (c.cut_out.ensures.part ∙ ap (part_runs from to) given) in
    let lowest : c.min-watermark.result ≡ min c.args.watermark c.self.inside.next = search rules in
    let capped = lowest ∙ ap (λ (h : Holding). min c.args.watermark h.next) c.self.view_is in
    let held = subst (λ (rs : List (List OpenTable)). RunsHoldLists rs lists) part hold in
    record {
      made = made;
      written = subst (λ (n : ℕ). AreMadeOf s (kept_in (rules_by n false false) lists) made) capped (record {
        has = c.in_ok-made.ensures.kept lists held;
        few = subst (λ (n : ℕ). n ≤ 1) (sym (length-map c.in_ok-made.made.items arc_value)) c.in_ok-made.ensures.few;
        cut = subst (λ (h : Holding). AllByRecursion (AreCutOf (run_label h.ids h.target 0) h.target (kept_in (rules_by c.min-watermark.result false false) lists) 0) made) c.self.view_is
            (c.in_ok-made.ensures.cut lists held);
      });
      placed = placed_part _ _ _ new (front_runs from to s.runs) made (drop to s.runs) c.in_ok-runs.ensures.runs
          (c.cut_out.ensures.front ∙ ap (front_runs from to) given) (ap (map arc_value) c.deref-2.ensures.value) (c.cut_out.ensures.behind ∙ ap (drop to) given);
      counter = c.in_ok-made.ensures.ids ∙ ap (λ (h : Holding). ids_behind h.ids h.target (sum_by length made)) c.self.view_is;
    }
