-- An entry to look at.
use Rattle.std.proofs.Common.{refl, ap, ◌∙◌, Bool, cond}
use Rattle.sst_entries.specs.Stream.{nowhere}
use Rattle.sst_entries.proofs.StreamLemmas.{can_front, can_now}
use Rattle.lsm_sorted.specs.lending.LentCompaction.{one_more_if}
use Rattle.lsm_sorted.proofs.CompactionHeads.{ended_left}
use Rattle.lsm_sorted.proofs.CompactionCalls.{fetches_held}
use Rattle.lsm_sorted.proofs.CompactionHeads.{fetches_entry, fetches_fault}
use Rattle.lsm_sorted.proofs.compaction.lending.LendingCompaction.fetch.Goals as goal

pub advance-requires : goal.advance-requires
advance-requires g c =
    can_now g.L.Lending.advances nowhere g.L.Lending.can_advance g.L.Lending.can_advance c.args.self.now.source c.requires.may

pub returns-in-Ok-clause-may : goal.returns-in-Ok-clause-may
returns-in-Ok-clause-may g c =
    let can = g.L.Lending.can_advance in
    can_front g.L.Lending.advances nowhere can can c.args.self.now.source _ c.advance.new.self c.requires.may c.in-Ok.ensures.goes

pub returns-in-Err-clause-may : goal.returns-in-Err-clause-may
returns-in-Err-clause-may g c =
    let can = g.L.Lending.can_advance in
    can_front g.L.Lending.advances nowhere can can c.args.self.now.source _ c.advance.new.self c.requires.may c.in-Err.ensures.goes

pub returns-then-self-clause-fetches : goal.returns-then-self-clause-fetches
returns-then-self-clause-fetches g c =
    fetches_held g.F.LentFilter.gives g.C.LentCallback.gets g.L.Lending.advances g.L.Lending.lent c.args.self.now _ refl c.requires.live c.if-self.true

pub returns-in-Ok-clause-fetches : goal.returns-in-Ok-clause-fetches
returns-in-Ok-clause-fetches g c =
    fetches_entry g.F.LentFilter.gives g.C.LentCallback.gets g.L.Lending.advances g.L.Lending.lent c.args.self.now _ refl refl c.requires.live refl c.if-self.false
    c.in-Ok.more (g.L.Lending.lent c.advance.new.self) refl c.in-Ok.ensures.more refl refl c.in-Ok.ensures.goes

pub returns-in-Ok-clause-ends : goal.returns-in-Ok-clause-ends
returns-in-Ok-clause-ends g c none =
    ap (λ (b : Bool). cond b 0 (one_more_if c.in-Ok.more (g.L.Lending.left c.advance.new.self))) c.requires.live
    ∙ ap (λ (b : Bool). one_more_if b (g.L.Lending.left c.advance.new.self)) none
    ∙ ended_left (g.L.Lending.lent c.advance.new.self) c.in-Ok.more (g.L.Lending.left c.args.self.now.source) (g.L.Lending.left c.advance.new.self) c.in-Ok.ensures.more none c.in-Ok.ensures.lowers

pub returns-in-Err-clause-fetches : goal.returns-in-Err-clause-fetches
returns-in-Err-clause-fetches g c =
    fetches_fault g.F.LentFilter.gives g.C.LentCallback.gets g.L.Lending.advances g.L.Lending.lent c.args.self.now _ refl refl c.requires.live refl c.if-self.false
    c.in-Err.error c.if-self.false refl c.in-Err.ensures.goes
