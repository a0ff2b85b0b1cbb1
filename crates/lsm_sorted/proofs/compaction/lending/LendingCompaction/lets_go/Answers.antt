-- What follows a head that waits.
use Rattle.std.proofs.Common.{◌≡◌, refl, sym, ◌∙◌, ap, subst, ℕ, ◌<◌, ◌≤◌, List, true, false}
use Rattle.std.specs.Prelude.{Some, None, is_some}
use Rattle.std.specs.Option.{option_map}
use Rattle.std.proofs.lemmas.Bool.{le-ltb, lt-ltb}
use Rattle.std.proofs.lemmas.Result.{err_from_is_err_and}
use Rattle.sst_entries.specs.Key.{same_key}
use Rattle.sst_entries.specs.Lending.{entry_of_ref}
use Rattle.sst_entries.specs.Stream.{nowhere}
use Rattle.sst_entries.proofs.StreamLemmas.{can_front, can_now}
use Rattle.lsm_sorted.proofs.CompactionHeads.{settles_fault, settles_high, settles_low}
use Rattle.lsm_sorted.proofs.CompactionHeads.{settles_none, settles_other, step_to}
use Rattle.lsm_sorted.proofs.compaction.lending.LendingCompaction.lets_go.Goals as goal

pub advance-requires : goal.advance-requires
advance-requires g c =
    can_now g.L.Lending.advances nowhere g.L.Lending.can_advance g.L.Lending.can_advance c.args.self.now.source c.requires.may

pub returns-in_err-self-clause-may : goal.returns-in_err-self-clause-may
returns-in_err-self-clause-may g c =
    can_front g.L.Lending.advances nowhere g.L.Lending.can_advance g.L.Lending.can_advance c.args.self.now.source _ c.advance.new.self c.requires.may c.in_err-self.ensures.goes

pub returns-in_err-self-clause-settles : goal.returns-in_err-self-clause-settles
returns-in_err-self-clause-settles g c =
    let p = err_from_is_err_and c.from_residual.result c.from_residual.ensures.1 in
    rw (p.1, p.2) (λ head waits key number. settles_fault g.F.LentFilter.gives g.C.LentCallback.gets g.L.Lending.advances g.L.Lending.lent c.args.self.now _ head refl refl c.requires.live waits refl c.requires.hides c.in_err-self.field-0.0 c.requires.pending c.in_err-self.ensures.goes)

pub returns-in_default-clause-may : goal.returns-in_default-clause-may
returns-in_default-clause-may g c =
    can_front g.L.Lending.advances nowhere g.L.Lending.can_advance g.L.Lending.can_advance c.args.self.now.source _ c.advance.new.self c.requires.may c.in_ok-self.ensures.goes

pub returns-then-not-is_version-clause-may : goal.returns-then-not-is_version-clause-may
returns-then-not-is_version-clause-may g c =
    can_front g.L.Lending.advances nowhere g.L.Lending.can_advance g.L.Lending.can_advance c.args.self.now.source _ c.advance.new.self c.requires.may c.in_ok-self.ensures.goes

pub returns-then-seqno-self-clause-may : goal.returns-then-seqno-self-clause-may
returns-then-seqno-self-clause-may g c =
    can_front g.L.Lending.advances nowhere g.L.Lending.can_advance g.L.Lending.can_advance c.args.self.now.source _ c.advance.new.self c.requires.may c.in_ok-self.ensures.goes

pub returns-clause-may : goal.returns-clause-may
returns-clause-may g c =
    can_front g.L.Lending.advances nowhere g.L.Lending.can_advance g.L.Lending.can_advance c.args.self.now.source _ c.advance.new.self c.requires.may c.in_ok-self.ensures.goes

pub returns-in_default-clause-settles : goal.returns-in_default-clause-settles
returns-in_default-clause-settles g c =
    let s = c.args.self.now in
    let none : g.L.Lending.lent c.advance.new.self ≡ None = sym c.entry.ensures ∙ ap (option_map entry_of_ref) c.in_default.is in
    let step = step_to g.L.Lending.advances g.L.Lending.lent s.source c.advance.new.self None none c.in_ok-self.ensures.goes in
    λ head waits key number. settles_none g.F.LentFilter.gives g.C.LentCallback.gets g.L.Lending.advances g.L.Lending.lent s _ head refl refl c.requires.live waits refl c.requires.hides s.rules.evict refl (c.in_ok-self.ensures.more ∙ ap is_some none) step

pub returns-then-not-is_version-clause-settles : goal.returns-then-not-is_version-clause-settles
returns-then-not-is_version-clause-settles g c =
    let s = c.args.self.now in
    let is : g.L.Lending.lent c.advance.new.self ≡ Some (entry_of_ref c.in-Some.next) = sym c.entry.ensures ∙ ap (option_map entry_of_ref) c.in-Some.is in
    let step = step_to g.L.Lending.advances g.L.Lending.lent s.source c.advance.new.self (Some (entry_of_ref c.in-Some.next)) is c.in_ok-self.ensures.goes in
    let other = sym c.is_version.ensures ∙ c.if-not-is_version.true in
    λ head waits key number. settles_other g.F.LentFilter.gives g.C.LentCallback.gets g.L.Lending.advances g.L.Lending.lent s _ head refl refl c.requires.live waits refl c.requires.hides (entry_of_ref c.in-Some.next) is (c.in_ok-self.ensures.more ∙ ap is_some is) step s.rules.evict refl
    (subst (λ (k : List ℕ). same_key (entry_of_ref c.in-Some.next).user_key k ≡ false) (sym key) other)

pub returns-then-seqno-self-clause-settles : goal.returns-then-seqno-self-clause-settles
returns-then-seqno-self-clause-settles g c =
    let s = c.args.self.now in
    let is : g.L.Lending.lent c.advance.new.self ≡ Some (entry_of_ref c.in-Some.next) = sym c.entry.ensures ∙ ap (option_map entry_of_ref) c.in-Some.is in
    let step = step_to g.L.Lending.advances g.L.Lending.lent s.source c.advance.new.self (Some (entry_of_ref c.in-Some.next)) is c.in_ok-self.ensures.goes in
    let same = sym c.is_version.ensures ∙ c.if-not-is_version.false in
    λ head waits key number. settles_high g.F.LentFilter.gives g.C.LentCallback.gets g.L.Lending.advances g.L.Lending.lent s _ head refl refl c.requires.live waits refl c.requires.hides (entry_of_ref c.in-Some.next) is (c.in_ok-self.ensures.more ∙ ap is_some is) step
    (subst (λ (k : List ℕ). same_key (entry_of_ref c.in-Some.next).user_key k ≡ true) (sym key) same)
    (le-ltb head.seqno s.rules.watermark (subst (λ (n : ℕ). s.rules.watermark ≤ n) (sym number) c.if-seqno-self.true))

pub returns-clause-settles : goal.returns-clause-settles
returns-clause-settles g c =
    let s = c.args.self.now in
    let is : g.L.Lending.lent c.advance.new.self ≡ Some (entry_of_ref c.in-Some.next) = sym c.entry.ensures ∙ ap (option_map entry_of_ref) c.in-Some.is in
    let step = step_to g.L.Lending.advances g.L.Lending.lent s.source c.advance.new.self (Some (entry_of_ref c.in-Some.next)) is c.in_ok-self.ensures.goes in
    let same = sym c.is_version.ensures ∙ c.if-not-is_version.false in
    λ head waits key number. settles_low g.F.LentFilter.gives g.C.LentCallback.gets g.L.Lending.advances g.L.Lending.lent s _ head refl refl c.requires.live waits (entry_of_ref c.in-Some.next) step c.on_dropped_ref.ensures
    (subst (λ (k : List ℕ). same_key (entry_of_ref c.in-Some.next).user_key k ≡ true) (sym key) same) c.is_value.result c.is_value.ensures refl refl (sym key)
    (lt-ltb head.seqno s.rules.watermark (subst (λ (n : ℕ). n < s.rules.watermark) (sym number) c.if-seqno-self.false))
