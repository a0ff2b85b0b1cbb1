-- A head that is changed.
use Rattle.std.proofs.Common.{◌≡◌, refl, sym, ◌∙◌, ap, subst, true, false}
use Rattle.std.specs.Prelude.{Some, None}
use Rattle.std.specs.Option.{option_map}
use Rattle.std.proofs.lemmas.Bool.{le-ltb, lt-ltb}
use Rattle.sst_entries.specs.Entry.{Entry}
use Rattle.sst_entries.specs.Lending.{came, entry_of_ref}
use Rattle.lsm_sorted.specs.lending.LentCompaction.{has_to_wait}
use Rattle.lsm_sorted.specs.lending.LentCompaction.{SettlesCompacted, lent_compacted, put_into}
use Rattle.lsm_sorted.proofs.CompactionHeads.{keeps_high, keeps_low, parts_are}
use Rattle.lsm_sorted.proofs.CompactionHeads.{settled_held, settled_memory, settled_put}
use Rattle.lsm_sorted.proofs.CompactionHeads.{settled_silent}
use Rattle.lsm_sorted.proofs.compaction.lending.LendingCompaction.replace.Goals as goal

pub settle-requires-clause-waits : goal.settle-requires-clause-waits
settle-requires-clause-waits g c =
    let lent = g.L.Lending.lent in
    let s = c.args.self.now in
    let kind = c.args.kind in
    let value = c.args.value.now in
    let head = entry_of_ref c.in-Some.head in
    let is : lent s.source ≡ Some head = sym c.entry.ensures ∙ ap (option_map entry_of_ref) c.in-Some.is in
    let h = put_into head kind value in
    let key = c.in_default-remember.ensures.bytes in
    let bytes = c.in_default-remember-2.ensures.bytes in
    subst (λ (y : Entry). has_to_wait s.rules y ≡ true) (sym (parts_are h _ _ key bytes)) (sym c.has_to_wait-waits.ensures ∙ c.if-waits.true)

pub returns-in_default-clause-settles : goal.returns-in_default-clause-settles
returns-in_default-clause-settles g c = λ x lends.
    let lent = g.L.Lending.lent in
    let none : lent c.args.self.now.source ≡ None = sym c.entry.ensures ∙ ap (option_map entry_of_ref) c.in_default.is in
    let no : None ≡ Some x = sym none ∙ lends in absurd cc

pub returns-in-Err-clause-settles : goal.returns-in-Err-clause-settles
returns-in-Err-clause-settles g c = λ x is.
    let lent = g.L.Lending.lent in
    settled_memory g.F.LentFilter.gives g.C.LentCallback.gets g.L.Lending.advances lent c.args.self.now _ c.in-Err.error (put_into x c.args.kind c.args.value.now) c.in-Err.ensures.err refl refl refl

pub returns-in-Err-remember-clause-settles : goal.returns-in-Err-remember-clause-settles
returns-in-Err-remember-clause-settles g c = λ x is.
    let lent = g.L.Lending.lent in
    settled_memory g.F.LentFilter.gives g.C.LentCallback.gets g.L.Lending.advances lent c.args.self.now _ c.in-Err-remember.error (put_into x c.args.kind c.args.value.now) c.in-Err-remember.ensures.err refl refl refl

pub returns-then-waits-clause-settles : goal.returns-then-waits-clause-settles
returns-then-waits-clause-settles g c = λ x lends.
    let lent = g.L.Lending.lent in
    let s = c.args.self.now in
    let kind = c.args.kind in
    let value = c.args.value.now in
    let head = entry_of_ref c.in-Some.head in
    let is : lent s.source ≡ Some head = sym c.entry.ensures ∙ ap (option_map entry_of_ref) c.in-Some.is in
    let h = put_into head kind value in
    let key = c.in_default-remember.ensures.bytes in
    let bytes = c.in_default-remember-2.ensures.bytes in
    let t = c.settle.new.self in
    let r = came c.settle.result (lent_compacted lent t) in
    settled_put g.F.LentFilter.gives g.C.LentCallback.gets g.L.Lending.advances lent s t r kind value head x is lends
    (subst (λ (y : Entry). SettlesCompacted g.F.LentFilter.gives g.C.LentCallback.gets g.L.Lending.advances lent s y r t)
    (parts_are h _ _ key bytes)
    (let one = c.settle.ensures.settles in record {
      answers = one.answers;
      gave = one.gave;
      returned = one.returned;
      rules = one.rules;
      does = λ z live rest more f d ends will. record { at = (one.does z live rest more f d ends will).at };
    }))

pub returns-then-seqno-self-clause-settles : goal.returns-then-seqno-self-clause-settles
returns-then-seqno-self-clause-settles g c = λ x lends.
    let lent = g.L.Lending.lent in
    let s = c.args.self.now in
    let kind = c.args.kind in
    let value = c.args.value.now in
    let head = entry_of_ref c.in-Some.head in
    let is : lent s.source ≡ Some head = sym c.entry.ensures ∙ ap (option_map entry_of_ref) c.in-Some.is in
    let h = put_into head kind value in
    let key = c.in_default-remember.ensures.bytes in
    let bytes = c.in_default-remember-2.ensures.bytes in
    settled_put g.F.LentFilter.gives g.C.LentCallback.gets g.L.Lending.advances lent s _ _ kind value head x is lends (settled_held g.F.LentFilter.gives g.C.LentCallback.gets g.L.Lending.advances lent s _ h _ _ key bytes
    (keeps_high g.F.LentFilter.gives g.C.LentCallback.gets g.L.Lending.advances lent s _ h refl refl c.requires.live (sym c.has_to_wait-waits.ensures ∙ c.if-waits.false) refl refl refl
    (le-ltb head.seqno s.rules.watermark c.if-seqno-self.true) c.requires.hides))

pub returns-then-goes-clause-settles : goal.returns-then-goes-clause-settles
returns-then-goes-clause-settles g c = λ x lends.
    let lent = g.L.Lending.lent in
    let s = c.args.self.now in
    let kind = c.args.kind in
    let value = c.args.value.now in
    let head = entry_of_ref c.in-Some.head in
    let is : lent s.source ≡ Some head = sym c.entry.ensures ∙ ap (option_map entry_of_ref) c.in-Some.is in
    let h = put_into head kind value in
    let key = c.in_default-remember.ensures.bytes in
    let bytes = c.in_default-remember-2.ensures.bytes in
    settled_put g.F.LentFilter.gives g.C.LentCallback.gets g.L.Lending.advances lent s _ _ kind value head x is lends (settled_silent g.F.LentFilter.gives g.C.LentCallback.gets g.L.Lending.advances lent s _ h c.requires.empty
    (keeps_low g.F.LentFilter.gives g.C.LentCallback.gets g.L.Lending.advances lent s _ h refl refl c.requires.live (sym c.has_to_wait-waits.ensures ∙ c.if-waits.false) refl refl refl true
    (lt-ltb head.seqno s.rules.watermark c.if-seqno-self.false) (sym c.if-goes.true ∙ c.goes_at_once-goes.ensures) refl key))

pub returns-clause-settles : goal.returns-clause-settles
returns-clause-settles g c = λ x lends.
    let lent = g.L.Lending.lent in
    let s = c.args.self.now in
    let kind = c.args.kind in
    let value = c.args.value.now in
    let head = entry_of_ref c.in-Some.head in
    let is : lent s.source ≡ Some head = sym c.entry.ensures ∙ ap (option_map entry_of_ref) c.in-Some.is in
    let h = put_into head kind value in
    let key = c.in_default-remember.ensures.bytes in
    let bytes = c.in_default-remember-2.ensures.bytes in
    settled_put g.F.LentFilter.gives g.C.LentCallback.gets g.L.Lending.advances lent s _ _ kind value head x is lends (settled_held g.F.LentFilter.gives g.C.LentCallback.gets g.L.Lending.advances lent s _ h _ _ key bytes
    (keeps_low g.F.LentFilter.gives g.C.LentCallback.gets g.L.Lending.advances lent s _ h refl refl c.requires.live (sym c.has_to_wait-waits.ensures ∙ c.if-waits.false) refl refl refl false
    (lt-ltb head.seqno s.rules.watermark c.if-seqno-self.false) (sym c.if-goes.false ∙ c.goes_at_once-goes.ensures) refl key))
