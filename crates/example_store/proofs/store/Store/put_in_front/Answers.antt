use Rattle.std.proofs.Common.{sym, ◌∙◌, ap, subst, ℕ, List, ◌∷◌}
use Rattle.std.specs.Prelude.{map}
use Rattle.std.specs.Arc.{arc_value}
use Rattle.lsm_tables.specs.Words.{Entry, HasList, IsStrict}
use Rattle.example_store.specs.Story.{Holding, IsOwnRun, IsStore}
use Rattle.example_store.proofs.Counters.{flushed_one}
use Rattle.example_store.proofs.Stories.{valid_flushed, reports_flushed}
use Rattle.example_store.proofs.store.Store.put_in_front.Goals as goal

pub invariant_of-self-2 : goal.invariant_of-self-2
invariant_of-self-2 g c =
    let recent = sym (ap (λ (h : Holding). h.recent) c.self.view_is) in
    let next = sym (ap (λ (h : Holding). h.next) c.self.view_is) in
    valid_flushed c.self.inside.memtable c.clear.new.self (map arc_value c.self.inside.runs.items) c.self.inside.ids c.self.inside.target c.self.inside.next c.self.inside.flushed c.self.inside.oldest c.self.inside.limit
    (arc_value c.args.run) c.args.ids (map arc_value c.insert.new.self.items) c.self.invariant
    (subst IsStrict recent c.requires.strict)
    (subst (λ (es : List Entry). HasList es (arc_value c.args.run)) recent c.requires.list)
    (subst (λ (n : ℕ). IsOwnRun n (arc_value c.args.run)) next c.requires.own)
    c.clear.ensures
    (ap (map arc_value) c.in_ok-insert.ensures.items)

pub returns-clause-story : goal.returns-clause-story
returns-clause-story g c ws returned =
    let is = c.self.view_is in
    reports_flushed c.args.self.now _ (arc_value c.args.run) ws (subst IsStore is c.self.invariant) c.requires.strict c.requires.list returned
    c.clear.ensures
    (ap (map arc_value) c.in_ok-insert.ensures.items ∙ ap (λ (h : Holding). arc_value c.args.run ∷ h.runs) is)
    (ap (λ (h : Holding). h.next) is)
    (ap (λ (h : Holding). h.oldest) is)

pub returns-clause-flushed : goal.returns-clause-flushed
returns-clause-flushed g c =
    let is = c.self.view_is in
    flushed_one c.args.self.now _ (arc_value c.args.run) c.requires.list c.requires.cut
    (ap (map arc_value) c.in_ok-insert.ensures.items ∙ ap (λ (h : Holding). arc_value c.args.run ∷ h.runs) is)
    c.requires.ids
