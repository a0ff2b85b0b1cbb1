use Rattle.std.proofs.Common.{◌≡◌, ◌∙◌, List, subst, sym}
use Rattle.lsm_tables.specs.Words.{Entry, IsStrict, LendsFirst, YieldsList, within}
use Rattle.lsm_tables.proofs.TableLaws.{nowhere}
use Rattle.example_store.proofs.memtable.Memtable.lend.Goals as goal

pub returns-clause-list : goal.returns-clause-list
returns-clause-list g c =
    let low = c.args.bounds.now.0 in
    let high = c.args.bounds.now.1 in
    let same : c.deref.result.now ≡ c.args.self.now = c.deref.ensures.value ∙ c.self.view_is in
    subst (λ (es : List Entry). YieldsList LendsFirst nowhere (within low high es) c.lend_entries_within.result) same
    (c.lend_entries_within.ensures.list (subst IsStrict (sym c.deref.ensures.value) c.self.invariant))
