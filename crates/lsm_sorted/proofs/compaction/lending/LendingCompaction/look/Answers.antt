-- An entry is looked at.
use Rattle.std.proofs.Common.{◌≡◌, refl, sym, ◌∙◌, ap, subst, ℕ, List, true, false}
use Rattle.std.specs.Prelude.{Some, None, Ok, Err}
use Rattle.std.specs.Option.{option_map}
use Rattle.std.proofs.lemmas.Bool.{le-ltb, lt-ltb}
use Rattle.sst_entries.specs.Entry.{Entry}
use Rattle.sst_entries.specs.Lending.{came, entry_of_ref}
use Rattle.lsm_sorted.specs.Compaction.{drop, keep, replace, reports_by, told_by}
use Rattle.lsm_sorted.specs.Compacting.{Asks, GetsAll}
use Rattle.lsm_sorted.specs.Verdicts.{verdict_of}
use Rattle.lsm_sorted.specs.lending.LentCompaction.{has_to_wait, lent_compacted, put_into}
use Rattle.lsm_sorted.proofs.CompactionHeads.{keeps_high, keeps_low, same_some, settled_memory}
use Rattle.lsm_sorted.proofs.CompactionHeads.{settled_silent, settled_source}
use Rattle.lsm_sorted.proofs.CompactionCalls.{judged_by, looks_dropped, looks_failed, looks_hidden}
use Rattle.lsm_sorted.proofs.CompactionCalls.{looks_left, looks_none, steps_silent}
use Rattle.lsm_sorted.proofs.compaction.lending.LendingCompaction.look.Goals as goal

pub returns-in_default-clause-steps : goal.returns-in_default-clause-steps
returns-in_default-clause-steps g c =
    let lent = g.L.Lending.lent in
    let s = c.args.self.now in
    let none : lent s.source ≡ None = sym c.entry.ensures ∙ ap (option_map entry_of_ref) c.in_default.is in
    steps_silent g.F.LentFilter.gives g.C.LentCallback.gets g.L.Lending.advances lent s _ c.requires.empty
    (looks_none g.F.LentFilter.gives g.C.LentCallback.gets g.L.Lending.advances lent s s _ c.requires.pending none refl refl refl refl refl c.requires.live refl)

pub returns-then-is_given-clause-steps : goal.returns-then-is_given-clause-steps
returns-then-is_given-clause-steps g c =
    let lent = g.L.Lending.lent in
    let s = c.args.self.now in
    let head = entry_of_ref c.in-Some.head in
    let is : lent s.source ≡ Some head = sym c.entry.ensures ∙ ap (option_map entry_of_ref) c.in-Some.is in
    steps_silent g.F.LentFilter.gives g.C.LentCallback.gets g.L.Lending.advances lent s _ c.requires.empty
    (looks_hidden g.F.LentFilter.gives g.C.LentCallback.gets g.L.Lending.advances lent s s _ c.requires.pending head is (sym c.is_given.ensures ∙ c.if-is_given.true) refl refl c.on_dropped_ref.ensures refl refl c.requires.live refl)

pub returns-in-Ok-Replace-clause-steps : goal.returns-in-Ok-Replace-clause-steps
returns-in-Ok-Replace-clause-steps g c =
    let lent = g.L.Lending.lent in
    let s = c.args.self.now in
    let head = entry_of_ref c.in-Some.head in
    let is : lent s.source ≡ Some head = sym c.entry.ensures ∙ ap (option_map entry_of_ref) c.in-Some.is in
    let fresh = sym c.is_given.ensures ∙ c.if-is_given.false in
    let f = c.ask.new.filter in
    let d = c.ask.new.callback in
    let m = judged_by s f d in
    let asks = subst (λ v. Asks g.F.LentFilter.gives s.filter head (Ok (verdict_of v)) f) c.in-Ok-Replace.field-0-is c.in-Ok-Replace.ensures.asks in
    let reports = subst (λ v. GetsAll g.C.LentCallback.gets s.callback (reports_by head (Ok (verdict_of v))) d) c.in-Ok-Replace.field-0-is c.in-Ok-Replace.ensures.reports in
    let t = c.replace.new.self in
    let kind = c.in-Ok-Replace.kind in
    looks_left g.F.LentFilter.gives g.C.LentCallback.gets g.L.Lending.advances lent s m t c.requires.pending head is fresh (Ok (replace kind c.in-Ok-Replace.value)) asks reports
    (put_into head kind c.as_slice.result.now) (came c.replace.result (lent_compacted lent t))
    (ap (λ (v : List ℕ). told_by head (Ok (replace kind v))) (sym c.as_slice.ensures)) refl refl (c.replace.ensures.settles head is)

pub returns-in-Ok-Drop-clause-steps : goal.returns-in-Ok-Drop-clause-steps
returns-in-Ok-Drop-clause-steps g c =
    let lent = g.L.Lending.lent in
    let s = c.args.self.now in
    let head = entry_of_ref c.in-Some.head in
    let is : lent s.source ≡ Some head = sym c.entry.ensures ∙ ap (option_map entry_of_ref) c.in-Some.is in
    let fresh = sym c.is_given.ensures ∙ c.if-is_given.false in
    let f = c.ask.new.filter in
    let d = c.ask.new.callback in
    let m = judged_by s f d in
    let asks = subst (λ v. Asks g.F.LentFilter.gives s.filter head (Ok (verdict_of v)) f) c.in-Ok-Drop.field-0-is c.in-Ok-Drop.ensures.asks in
    let reports = subst (λ v. GetsAll g.C.LentCallback.gets s.callback (reports_by head (Ok (verdict_of v))) d) c.in-Ok-Drop.field-0-is c.in-Ok-Drop.ensures.reports in
    steps_silent g.F.LentFilter.gives g.C.LentCallback.gets g.L.Lending.advances lent s _ c.requires.empty
    (looks_dropped g.F.LentFilter.gives g.C.LentCallback.gets g.L.Lending.advances lent s m _ c.requires.pending head is fresh (Ok drop) asks reports refl refl refl refl refl c.requires.live refl refl)

pub returns-in-Err-clause-steps : goal.returns-in-Err-clause-steps
returns-in-Err-clause-steps g c =
    let lent = g.L.Lending.lent in
    let s = c.args.self.now in
    let head = entry_of_ref c.in-Some.head in
    let is : lent s.source ≡ Some head = sym c.entry.ensures ∙ ap (option_map entry_of_ref) c.in-Some.is in
    let fresh = sym c.is_given.ensures ∙ c.if-is_given.false in
    let f = c.ask.new.filter in
    let d = c.ask.new.callback in
    let m = judged_by s f d in
    looks_failed g.F.LentFilter.gives g.C.LentCallback.gets g.L.Lending.advances lent s m _ c.requires.pending head is fresh (Err c.in-Err.error) c.in-Err.ensures.asks c.in-Err.ensures.reports
    refl refl refl refl refl c.requires.live refl c.in-Err.error refl

pub returns-then-has_to_wait-clause-steps : goal.returns-then-has_to_wait-clause-steps
returns-then-has_to_wait-clause-steps g c =
    let lent = g.L.Lending.lent in
    let s = c.args.self.now in
    let head = entry_of_ref c.in-Some.head in
    let is : lent s.source ≡ Some head = sym c.entry.ensures ∙ ap (option_map entry_of_ref) c.in-Some.is in
    let fresh = sym c.is_given.ensures ∙ c.if-is_given.false in
    let f = c.ask.new.filter in
    let d = c.ask.new.callback in
    let m = judged_by s f d in
    let asks = subst (λ v. Asks g.F.LentFilter.gives s.filter head (Ok (verdict_of v)) f) c.in-Ok-Keep.field-0-is c.in-Ok-Keep.ensures.asks in
    let reports = subst (λ v. GetsAll g.C.LentCallback.gets s.callback (reports_by head (Ok (verdict_of v))) d) c.in-Ok-Keep.field-0-is c.in-Ok-Keep.ensures.reports in
    looks_left g.F.LentFilter.gives g.C.LentCallback.gets g.L.Lending.advances lent s m _ c.requires.pending head is fresh (Ok keep) asks reports head _ refl refl refl
    (c.wait.ensures.settles head is)

pub returns-then-head-self-clause-steps : goal.returns-then-head-self-clause-steps
returns-then-head-self-clause-steps g c =
    let lent = g.L.Lending.lent in
    let s = c.args.self.now in
    let head = entry_of_ref c.in-Some.head in
    let is : lent s.source ≡ Some head = sym c.entry.ensures ∙ ap (option_map entry_of_ref) c.in-Some.is in
    let fresh = sym c.is_given.ensures ∙ c.if-is_given.false in
    let f = c.ask.new.filter in
    let d = c.ask.new.callback in
    let m = judged_by s f d in
    let asks = subst (λ v. Asks g.F.LentFilter.gives s.filter head (Ok (verdict_of v)) f) c.in-Ok-Keep.field-0-is c.in-Ok-Keep.ensures.asks in
    let reports = subst (λ v. GetsAll g.C.LentCallback.gets s.callback (reports_by head (Ok (verdict_of v))) d) c.in-Ok-Keep.field-0-is c.in-Ok-Keep.ensures.reports in
    looks_left g.F.LentFilter.gives g.C.LentCallback.gets g.L.Lending.advances lent s m _ c.requires.pending head is fresh (Ok keep) asks reports head _ refl refl refl
    (settled_source g.F.LentFilter.gives g.C.LentCallback.gets g.L.Lending.advances lent m _ head head is is
    (keeps_high g.F.LentFilter.gives g.C.LentCallback.gets g.L.Lending.advances lent m _ head refl refl c.requires.live (sym c.has_to_wait.ensures ∙ c.if-has_to_wait.false) refl refl refl
    (le-ltb head.seqno s.rules.watermark c.if-head-self.true) refl))

pub returns-in-Err-remember-clause-steps : goal.returns-in-Err-remember-clause-steps
returns-in-Err-remember-clause-steps g c =
    let lent = g.L.Lending.lent in
    let s = c.args.self.now in
    let head = entry_of_ref c.in-Some.head in
    let is : lent s.source ≡ Some head = sym c.entry.ensures ∙ ap (option_map entry_of_ref) c.in-Some.is in
    let fresh = sym c.is_given.ensures ∙ c.if-is_given.false in
    let f = c.ask.new.filter in
    let d = c.ask.new.callback in
    let m = judged_by s f d in
    let asks = subst (λ v. Asks g.F.LentFilter.gives s.filter head (Ok (verdict_of v)) f) c.in-Ok-Keep.field-0-is c.in-Ok-Keep.ensures.asks in
    let reports = subst (λ v. GetsAll g.C.LentCallback.gets s.callback (reports_by head (Ok (verdict_of v))) d) c.in-Ok-Keep.field-0-is c.in-Ok-Keep.ensures.reports in
    looks_left g.F.LentFilter.gives g.C.LentCallback.gets g.L.Lending.advances lent s m _ c.requires.pending head is fresh (Ok keep) asks reports head _ refl refl refl
    (settled_memory g.F.LentFilter.gives g.C.LentCallback.gets g.L.Lending.advances lent m _ c.in-Err-remember.error head c.in-Err-remember.ensures.err refl refl refl)

pub returns-then-goes-clause-steps : goal.returns-then-goes-clause-steps
returns-then-goes-clause-steps g c =
    let lent = g.L.Lending.lent in
    let s = c.args.self.now in
    let head = entry_of_ref c.in-Some.head in
    let is : lent s.source ≡ Some head = sym c.entry.ensures ∙ ap (option_map entry_of_ref) c.in-Some.is in
    let fresh = sym c.is_given.ensures ∙ c.if-is_given.false in
    let f = c.ask.new.filter in
    let d = c.ask.new.callback in
    let m = judged_by s f d in
    let asks = subst (λ v. Asks g.F.LentFilter.gives s.filter head (Ok (verdict_of v)) f) c.in-Ok-Keep.field-0-is c.in-Ok-Keep.ensures.asks in
    let reports = subst (λ v. GetsAll g.C.LentCallback.gets s.callback (reports_by head (Ok (verdict_of v))) d) c.in-Ok-Keep.field-0-is c.in-Ok-Keep.ensures.reports in
    looks_left g.F.LentFilter.gives g.C.LentCallback.gets g.L.Lending.advances lent s m _ c.requires.pending head is fresh (Ok keep) asks reports head _ refl refl refl
    (settled_silent g.F.LentFilter.gives g.C.LentCallback.gets g.L.Lending.advances lent m _ head c.requires.empty
    (keeps_low g.F.LentFilter.gives g.C.LentCallback.gets g.L.Lending.advances lent m _ head refl refl c.requires.live (sym c.has_to_wait.ensures ∙ c.if-has_to_wait.false) refl refl refl true
    (lt-ltb head.seqno s.rules.watermark c.if-head-self.false) (sym c.if-goes.true ∙ c.goes_at_once-goes.ensures) refl c.in_default-remember.ensures.bytes))

pub returns-clause-steps : goal.returns-clause-steps
returns-clause-steps g c =
    let lent = g.L.Lending.lent in
    let s = c.args.self.now in
    let head = entry_of_ref c.in-Some.head in
    let is : lent s.source ≡ Some head = sym c.entry.ensures ∙ ap (option_map entry_of_ref) c.in-Some.is in
    let fresh = sym c.is_given.ensures ∙ c.if-is_given.false in
    let f = c.ask.new.filter in
    let d = c.ask.new.callback in
    let m = judged_by s f d in
    let asks = subst (λ v. Asks g.F.LentFilter.gives s.filter head (Ok (verdict_of v)) f) c.in-Ok-Keep.field-0-is c.in-Ok-Keep.ensures.asks in
    let reports = subst (λ v. GetsAll g.C.LentCallback.gets s.callback (reports_by head (Ok (verdict_of v))) d) c.in-Ok-Keep.field-0-is c.in-Ok-Keep.ensures.reports in
    looks_left g.F.LentFilter.gives g.C.LentCallback.gets g.L.Lending.advances lent s m _ c.requires.pending head is fresh (Ok keep) asks reports head _ refl refl refl
    (settled_source g.F.LentFilter.gives g.C.LentCallback.gets g.L.Lending.advances lent m _ head head is is
    (keeps_low g.F.LentFilter.gives g.C.LentCallback.gets g.L.Lending.advances lent m _ head refl refl c.requires.live (sym c.has_to_wait.ensures ∙ c.if-has_to_wait.false) refl refl refl false
    (lt-ltb head.seqno s.rules.watermark c.if-head-self.false) (sym c.if-goes.false ∙ c.goes_at_once-goes.ensures) refl c.in_default-remember.ensures.bytes))

pub wait-requires-clause-waits : goal.wait-requires-clause-waits
wait-requires-clause-waits g c =
    let lent = g.L.Lending.lent in
    let s = c.args.self.now in
    let head = entry_of_ref c.in-Some.head in
    let is : lent s.source ≡ Some head = sym c.entry.ensures ∙ ap (option_map entry_of_ref) c.in-Some.is in
    λ x lends. subst (λ (y : Entry). has_to_wait s.rules y ≡ true) (same_some head x (lent s.source) is lends) (sym c.has_to_wait.ensures ∙ c.if-has_to_wait.true)
