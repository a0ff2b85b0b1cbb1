use Rattle.std.proofs.Common.{sym, subst, ap, ◌∙◌, List}
use Rattle.lsm_tables.specs.Words.{Entry, IsStrict, front_length, is_before}
use Rattle.example_store.specs.Recent.{IsPut}
use Rattle.example_store.proofs.Places.{Older, is_put, put_in_order}
use Rattle.example_store.proofs.memtable.Memtable.insert.Goals as goal

pub invariant_of-self-2 : goal.invariant_of-self-2
invariant_of-self-2 g c =
    let es = c.self.inside.items.items in
    let given = c.deref.ensures.value in
    let at = c.count_before-place.ensures.exact (subst IsStrict (sym given) c.self.invariant)
    ∙ ap (front_length (λ (x : Entry). is_before x c.args.item)) given in
    put_in_order c.args.item es c.insert.new.self.items c.count_before-place.result
    c.self.invariant (subst (Older c.args.item) (sym c.self.view_is) c.requires.newest) at
    c.in_ok-insert.ensures.items

pub returns-clause-put : goal.returns-clause-put
returns-clause-put g c =
    let es = c.self.inside.items.items in
    let given = c.deref.ensures.value in
    let at = c.count_before-place.ensures.exact (subst IsStrict (sym given) c.self.invariant)
    ∙ ap (front_length (λ (x : Entry). is_before x c.args.item)) given in
    subst (λ (old : List Entry). IsPut c.args.item old c.insert.new.self.items) c.self.view_is
    (is_put c.args.item es c.insert.new.self.items c.count_before-place.result
    (subst (Older c.args.item) (sym c.self.view_is) c.requires.newest) at
    c.in_ok-insert.ensures.items)
