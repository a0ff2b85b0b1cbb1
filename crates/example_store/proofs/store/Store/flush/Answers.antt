use Rattle.std.proofs.Common.{◌≡◌, sym, ◌∙◌, ap, subst, ℕ, false, length, List, []}
use Rattle.std.specs.Prelude.{IfSome, MatchOption, Some}
use Rattle.std.specs.Arc.{arc_value}
use Rattle.lsm_tables.specs.Words.{AreCutOf, Entry, HasList, IsStrict, IsWritable, ids_behind}
use Rattle.lsm_tables.specs.Words.{is_memory, run_label, tables_fault}
use Rattle.example_store.specs.Story.{AreNumbered, Holding, IsOwnRun}
use Rattle.example_store.proofs.Counters.{flushed_none}
use Rattle.example_store.proofs.Refusing.{passed_on}
use Rattle.example_store.proofs.Stories.{writable_recent}
use Rattle.example_store.proofs.store.Store.flush.Goals as goal

pub run_of-requires : goal.run_of-requires
run_of-requires g c =
    subst IsWritable (sym c.in_ok-items.ensures.items) (writable_recent _ c.self.invariant c.share.ensures.strict)

pub put_in_front-requires-clause-list : goal.put_in_front-requires-clause-list
put_in_front-requires-clause-list g c =
    let es = c.in_ok-items.items.items in
    subst (λ (xs : List Entry). HasList xs (arc_value c.in-Some.run')) (c.in_ok-items.ensures.items ∙ ap (λ (h : Holding). h.recent) c.self.view_is)
    (subst (λ o. MatchOption o (es ≡ []) (λ run. HasList es (arc_value run))) c.in-Some.is c.in_ok-run.ensures.run)

pub put_in_front-requires-clause-strict : goal.put_in_front-requires-clause-strict
put_in_front-requires-clause-strict g c =
    subst IsStrict (ap (λ (h : Holding). h.recent) c.self.view_is) c.share.ensures.strict

pub put_in_front-requires-clause-own : goal.put_in_front-requires-clause-own
put_in_front-requires-clause-own g c =
    let i = c.self.inside in
    let numbered = subst (AreNumbered i.flushed i.next) (sym c.in_ok-items.ensures.items) c.self.invariant.recent in
    subst (λ (n : ℕ). IsOwnRun n (arc_value c.in-Some.run')) (ap (λ (h : Holding). h.next) c.self.view_is)
    (subst (λ o. IfSome o (λ run. IsOwnRun i.next (arc_value run))) c.in-Some.is (c.in_ok-run.ensures.own i.flushed i.next numbered))

pub put_in_front-requires-clause-cut : goal.put_in_front-requires-clause-cut
put_in_front-requires-clause-cut g c =
    let i = c.self.inside in
    let es = c.in_ok-items.items.items in
    let run = arc_value c.in-Some.run' in
    subst (λ (h : Holding). AreCutOf (run_label h.ids h.target 0) h.target h.recent 0 run) c.self.view_is
    (subst (λ (xs : List Entry). AreCutOf (run_label i.ids i.target 0) i.target xs 0 run) c.in_ok-items.ensures.items
    (subst (λ o. IfSome o (λ made. AreCutOf (run_label i.ids i.target 0) i.target es 0 (arc_value made))) c.in-Some.is c.in_ok-run.ensures.cut))

pub put_in_front-requires-clause-ids : goal.put_in_front-requires-clause-ids
put_in_front-requires-clause-ids g c =
    let i = c.self.inside in
    let behind = subst (λ o. IfSome o (λ run. c.in_ok-run.ids ≡ ids_behind i.ids i.target (length (arc_value run)))) c.in-Some.is c.in_ok-run.ensures.ids in
    behind ∙ ap (λ (h : Holding). ids_behind h.ids h.target (length (arc_value c.in-Some.run'))) c.self.view_is

pub returns-in_err-run-clause-refused : goal.returns-in_err-run-clause-refused
returns-in_err-run-clause-refused g c =
    let i = c.self.inside in
    let e = c.in_err-run.field-0.0 in
    let r = c.from_residual-in_err-run in
    passed_on r.result e _ r.ensures.1
    (subst (λ (h : Holding). is_memory e ≡ false → tables_fault h.ids h.target 0 h.recent ≡ Some e) c.self.view_is
    (subst (λ (xs : List Entry). is_memory e ≡ false → tables_fault i.ids i.target 0 xs ≡ Some e) c.in_ok-items.ensures.items c.in_err-run.ensures.refused))

pub returns-in-None-clause-flushed : goal.returns-in-None-clause-flushed
returns-in-None-clause-flushed g c =
    let es = c.in_ok-items.items.items in
    flushed_none c.args.self.now
    (sym (c.in_ok-items.ensures.items ∙ ap (λ (h : Holding). h.recent) c.self.view_is)
    ∙ subst (λ o. MatchOption o (es ≡ []) (λ run. HasList es (arc_value run))) c.in-None.is c.in_ok-run.ensures.run)
