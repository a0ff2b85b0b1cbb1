-- A head that waits for what follows.
use Rattle.std.proofs.Common.{◌≡◌, refl, sym, ◌∙◌, ap, subst, true}
use Rattle.std.specs.Prelude.{Some, None}
use Rattle.std.specs.Option.{option_map}
use Rattle.sst_entries.specs.Entry.{Entry}
use Rattle.sst_entries.specs.Lending.{came, entry_of_ref}
use Rattle.lsm_sorted.specs.lending.LentCompaction.{has_to_wait}
use Rattle.lsm_sorted.specs.lending.LentCompaction.{SettlesCompacted, lent_compacted}
use Rattle.lsm_sorted.proofs.CompactionHeads.{parts_are, same_some, settled_memory}
use Rattle.lsm_sorted.proofs.compaction.lending.LendingCompaction.wait.Goals as goal

pub settle-requires-clause-waits : goal.settle-requires-clause-waits
settle-requires-clause-waits g c =
    let lent = g.L.Lending.lent in
    let s = c.args.self.now in
    let head = entry_of_ref c.in-Some.head in
    let is : lent s.source ≡ Some head = sym c.entry.ensures ∙ ap (option_map entry_of_ref) c.in-Some.is in
    subst (λ (x : Entry). has_to_wait s.rules x ≡ true) (sym (parts_are head _ _ c.in_default-remember.ensures.bytes c.in_default-remember-2.ensures.bytes)) (c.requires.waits head is)

pub returns-in_default-clause-settles : goal.returns-in_default-clause-settles
returns-in_default-clause-settles g c = λ head is.
    let lent = g.L.Lending.lent in
    let none : lent c.args.self.now.source ≡ None = sym c.entry.ensures ∙ ap (option_map entry_of_ref) c.in_default.is in
    let no : None ≡ Some head = sym none ∙ is in absurd cc

pub returns-in-Err-clause-settles : goal.returns-in-Err-clause-settles
returns-in-Err-clause-settles g c = λ head is.
    settled_memory g.F.LentFilter.gives g.C.LentCallback.gets g.L.Lending.advances g.L.Lending.lent c.args.self.now _ c.in-Err.error head c.in-Err.ensures.err refl refl refl

pub returns-in-Err-remember-clause-settles : goal.returns-in-Err-remember-clause-settles
returns-in-Err-remember-clause-settles g c = λ head is.
    settled_memory g.F.LentFilter.gives g.C.LentCallback.gets g.L.Lending.advances g.L.Lending.lent c.args.self.now _ c.in-Err-remember.error head c.in-Err-remember.ensures.err refl refl refl

pub returns-clause-settles : goal.returns-clause-settles
returns-clause-settles g c = λ x lends.
    let lent = g.L.Lending.lent in
    let s = c.args.self.now in
    let t = c.settle.new.self in
    let r = came c.settle.result (lent_compacted lent t) in
    let head = entry_of_ref c.in-Some.head in
    let is : lent s.source ≡ Some head = sym c.entry.ensures ∙ ap (option_map entry_of_ref) c.in-Some.is in
    let same : head ≡ x = same_some head x (lent s.source) is lends in
    subst (λ (y : Entry). SettlesCompacted g.F.LentFilter.gives g.C.LentCallback.gets g.L.Lending.advances lent s y r t)
    (parts_are head _ _ c.in_default-remember.ensures.bytes c.in_default-remember-2.ensures.bytes ∙ same)
    (let one = c.settle.ensures.settles in record {
      answers = one.answers;
      gave = one.gave;
      returned = one.returned;
      rules = one.rules;
      does = λ z live rest more f d ends will. record { at = (one.does z live rest more f d ends will).at };
    })
