-- One step: the source whose entry was lent goes on.
use Rattle.std.proofs.Common.{◌≡◌, ℕ, List, [], map, refl, sym, ◌∙◌, ap, subst}
use Rattle.std.specs.Prelude.{false}
use Rattle.lsm_sorted.specs.lending.Lent.{Rests, queued, source_of}
use Rattle.lsm_sorted.proofs.LentSteps.{queued_popped, ready_popped, fresh_leaves, empty_leaves}
use Rattle.lsm_sorted.proofs.LentSteps.{taken_on, no_length, started_on}
use Rattle.lsm_sorted.proofs.lending_merger.LendingMerger.step.Goals as goal

pub returns-then-not-self-clause-steps : goal.returns-then-not-self-clause-steps
returns-then-not-self-clause-steps g c stops ys leaves =
    let f = fresh_leaves stops g.L.Lending.advances g.L.Lending.lent c.args.self.now ys leaves c.if-not-self.true in
    started_on stops g.L.Lending.advances g.L.Lending.lent ys f.0 c.start.result c.start.new.self f.2 (c.start.ensures.starts stops f.0 f.1)

pub go_on-requires-clause-ready : goal.go_on-requires-clause-ready
go_on-requires-clause-ready g c =
    (ready_popped g.L.Lending.advances g.L.Lending.can_advance g.L.Lending.lent c.args.self.now (record c.args.self.now { queue = c.pop.new.self }) c.in-Some.head c.requires.ready c.in-Some.ensures.items refl c.in-Some.ensures.capacity).0

pub go_on-requires-clause-apart : goal.go_on-requires-clause-apart
go_on-requires-clause-apart g c =
    (ready_popped g.L.Lending.advances g.L.Lending.can_advance g.L.Lending.lent c.args.self.now (record c.args.self.now { queue = c.pop.new.self }) c.in-Some.head c.requires.ready c.in-Some.ensures.items refl c.in-Some.ensures.capacity).2

pub returns-in-Some-clause-steps : goal.returns-in-Some-clause-steps
returns-in-Some-clause-steps g c stops ys leaves =
    let m = c.args.self.now in
    let p = ready_popped g.L.Lending.advances g.L.Lending.can_advance g.L.Lending.lent m (record m { queue = c.pop.new.self }) c.in-Some.head c.requires.ready c.in-Some.ensures.items refl c.in-Some.ensures.capacity in
    taken_on stops g.L.Lending.advances g.L.Lending.lent m ys leaves c.if-not-self.false (map source_of c.pop.new.self.items) c.in-Some.head.source (queued_popped m (record m { queue = c.pop.new.self }) c.in-Some.head c.in-Some.ensures.items) c.requires.ready.queue p.1 p.2 c.go_on.result c.go_on.new.self (c.go_on.ensures.goes stops)

pub returns-in-None-clause-steps : goal.returns-in-None-clause-steps
returns-in-None-clause-steps g c stops ys leaves =
    let m = c.args.self.now in
    let was : queued m ≡ [] = ap (map source_of) (no_length m.queue.items (sym m.queue.ok.0 ∙ c.in-None.ensures.cases.0)) in
    let is : map source_of c.pop.new.self.items ≡ [] = ap (map source_of) (no_length c.pop.new.self.items (sym c.pop.new.self.ok.0 ∙ c.in-None.ensures.cases.1)) in
    let e = empty_leaves stops g.L.Lending.advances g.L.Lending.lent m ys leaves c.if-not-self.false was in (
      e.0,
      subst (λ (qs : List ℕ). Rests stops g.L.Lending.advances g.L.Lending.lent (λ j. false) m.sources.items qs e.0) (was ∙ sym is) e.1,
      e.2,
    )
