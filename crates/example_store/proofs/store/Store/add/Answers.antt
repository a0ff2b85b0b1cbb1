use Rattle.std.proofs.Common.{sym, ◌∙◌, ap, subst, ℕ, ◌+◌, ◌-◌, ◌^◌, ◌<◌, List}
use Rattle.lsm_tables.specs.Words.{Entry}
use Rattle.example_store.specs.Recent.{IsPut}
use Rattle.example_store.specs.Story.{Holding}
use Rattle.example_store.proofs.Stories.{valid_more, reports_more}
use Rattle.example_store.proofs.store.Store.add.Goals as goal

pub invariant_of-self-2 : goal.invariant_of-self-2
invariant_of-self-2 g c =
    let next = ap (λ (h : Holding). h.next) c.self.view_is in
    valid_more c.self.inside.memtable c.insert.new.self _ _ _ c.self.inside.next _ _ _ c.args.item c.self.invariant c.in_ok-insert.ensures.put (c.requires.number ∙ sym next) c.requires.kind (subst (λ (n : ℕ). n < 2 ^ 64 - 2) (sym next) c.requires.room)

pub returns-clause-written : goal.returns-clause-written
returns-clause-written g c ws returned =
    let is = c.self.view_is in
    reports_more c.args.self.now _ c.args.item ws returned
    (subst (λ (es : List Entry). IsPut c.args.item es c.insert.new.self) (ap (λ (h : Holding). h.recent) is) c.in_ok-insert.ensures.put)
    c.requires.number
    (ap (λ (h : Holding). h.next + 1) is)
    (ap (λ (h : Holding). h.runs) is)
    (ap (λ (h : Holding). h.oldest) is)
