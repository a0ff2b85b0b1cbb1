-- A source goes on.
use Rattle.std.proofs.Common.{◌≡◌, ℕ, Bool, true, refl, sym, ◌∙◌, ap, subst, length, map, arith}
use Rattle.std.proofs.Common.{cond, List, slice_set}
use Rattle.std.specs.Prelude.{All, is_ok}
use Rattle.std.specs.List.{insert}
use Rattle.std.proofs.lemmas.Result.{err_from_is_err_and}
use Rattle.sst_entries.specs.Stream.{CanYield, nowhere}
use Rattle.sst_entries.proofs.StreamLemmas.{can_now}
use Rattle.lsm_sorted.specs.declared.lending_merger.Head.{Head}
use Rattle.lsm_sorted.specs.lending.Lent.{IsHead, lent_of, queued, source_of}
use Rattle.lsm_sorted.proofs.HeadLemmas.{heads_put, heads_stay, map_insert}
use Rattle.lsm_sorted.proofs.LentLemmas.{rests_more, rests_none, rests_fault, queue_stays}
use Rattle.lsm_sorted.proofs.LentSteps.{ready_on, known_put, queue_put}
use Rattle.lsm_sorted.proofs.lending_merger.LendingMerger.go_on.Goals as goal

pub advance-requires : goal.advance-requires
advance-requires g c =
    let can = g.L.Lending.can_advance in
    let advances = g.L.Lending.advances in
    can_now advances nowhere can can c.index_mut.result.now
    (subst (CanYield advances nowhere can can) (sym c.index_mut.ensures.value) (c.requires.ready.sources c.args.source c.index_mut.result.now c.requires.place))

pub returns-in_err-advance-clause-ready : goal.returns-in_err-advance-clause-ready
returns-in_err-advance-clause-ready g c =
    ready_on g.L.Lending.advances g.L.Lending.can_advance g.L.Lending.lent c.args.self.now _ c.args.source c.index_mut.result.now c.advance.new.self _ c.requires.ready c.requires.place c.index_mut.ensures.value c.in_err-advance.ensures.goes refl (omega arith) c.requires.ready.known
    (queue_stays g.L.Lending.lent c.args.self.now.sources.items c.args.source c.advance.new.self (queued c.args.self.now) c.requires.apart c.requires.ready.queue)
    (heads_stay g.L.Lending.lent c.args.self.now.sources.items c.args.source c.advance.new.self c.args.self.now.queue.items c.requires.apart c.requires.ready.heads)

pub returns-else-branch-clause-ready : goal.returns-else-branch-clause-ready
returns-else-branch-clause-ready g c =
    ready_on g.L.Lending.advances g.L.Lending.can_advance g.L.Lending.lent c.args.self.now _ c.args.source c.index_mut.result.now c.advance.new.self _ c.requires.ready c.requires.place c.index_mut.ensures.value c.in_ok-advance.ensures.goes refl (omega arith) c.requires.ready.known
    (queue_stays g.L.Lending.lent c.args.self.now.sources.items c.args.source c.advance.new.self (queued c.args.self.now) c.requires.apart c.requires.ready.queue)
    (heads_stay g.L.Lending.lent c.args.self.now.sources.items c.args.source c.advance.new.self c.args.self.now.queue.items c.requires.apart c.requires.ready.heads)

-- there is room
put_in : {X : Type 0} (b : Bool) (xs ys new : List X) → new ≡ cond b xs ys → b ≡ true → new ≡ xs
put_in b xs ys new e ok = e ∙ ap (λ (b : Bool). cond b xs ys) ok

-- its source is then among those of the queue
put_source : (hs new : List Head) (p : ℕ) (h : Head) (i : ℕ) → new ≡ insert hs p h → h.source ≡ i
    → map source_of new ≡ insert (map source_of hs) p i
put_source hs new p h i put is = ap (map source_of) put ∙ map_insert hs p h
    ∙ ap (insert (map source_of hs) p) is

pub head_of-index-requires : goal.head_of-index-requires
head_of-index-requires g c =
    let m = c.args.self.now in
    record {
      heads = heads_stay g.L.Lending.lent m.sources.items c.args.source c.advance.new.self m.queue.items c.requires.apart c.requires.ready.heads;
    }

pub returns-then-branch-clause-known : goal.returns-then-branch-clause-known
returns-then-branch-clause-known g c bound lt all =
    let m = c.args.self.now in
    let h = c.head_of-index in
    let put : c.insert.new.self.items ≡ insert m.queue.items h.result.0 h.result.1 =
    put_in (is_ok c.insert.result) _ _ _ c.insert.ensures.items (c.insert.ensures.succeeds (omega (arith, c.requires.space, m.queue.ok.0))) in
    rw (put_source m.queue.items c.insert.new.self.items h.result.0 h.result.1 c.args.source put h.ensures.source)
    (known_put bound c.args.source h.result.0 (queued m) lt all)

pub returns-then-branch-clause-ready : goal.returns-then-branch-clause-ready
returns-then-branch-clause-ready g c =
    let m = c.args.self.now in
    let lent = g.L.Lending.lent in
    let i = c.args.source in
    let t = c.advance.new.self in
    let h = c.head_of-index in
    let at = lent_of lent (slice_set m.sources.items i t) in
    let put : c.insert.new.self.items ≡ insert m.queue.items h.result.0 h.result.1 =
    put_in (is_ok c.insert.result) _ _ _ c.insert.ensures.items (c.insert.ensures.succeeds (omega (arith, c.requires.space, m.queue.ok.0))) in
    let sources : map source_of c.insert.new.self.items ≡ insert (queued m) h.result.0 i =
    put_source m.queue.items c.insert.new.self.items h.result.0 h.result.1 i put h.ensures.source in
    let stay = heads_stay lent m.sources.items i t m.queue.items c.requires.apart c.requires.ready.heads in
    ready_on g.L.Lending.advances g.L.Lending.can_advance lent m _ i c.index_mut.result.now t _ c.requires.ready c.requires.place c.index_mut.ensures.value c.in_ok-advance.ensures.goes refl c.insert.ensures.capacity
    (rw sources (known_put (length m.sources.items) i h.result.0 (queued m) c.requires.place c.requires.ready.known))
    (rw sources (queue_put lent m.sources.items i h.result.0 t (queued m) c.requires.place (sym c.in_ok-advance.ensures.more ∙ c.if-branch.true) c.requires.apart c.requires.ready.queue h.ensures.belongs))
    (subst (All (IsHead at)) (sym put) (heads_put at m.queue.items h.result.0 h.result.1 h.ensures.head stay))

pub returns-then-branch-clause-goes : goal.returns-then-branch-clause-goes
returns-then-branch-clause-goes g c stops waits lists rests waited =
    let m = c.args.self.now in
    let h = c.head_of-index in
    let put : c.insert.new.self.items ≡ insert m.queue.items h.result.0 h.result.1 =
    put_in (is_ok c.insert.result) _ _ _ c.insert.ensures.items (c.insert.ensures.succeeds (omega (arith, c.requires.space, m.queue.ok.0))) in
    rw (put_source m.queue.items c.insert.new.self.items h.result.0 h.result.1 c.args.source put h.ensures.source)
    (rests_more stops g.L.Lending.advances g.L.Lending.lent waits m.sources.items (queued m) lists c.args.source c.index_mut.result.now c.advance.new.self rests waited c.requires.place c.index_mut.ensures.value h.result.0 c.in_ok-advance.field-0 c.in_ok-advance.ensures.more c.if-branch.true c.in_ok-advance.ensures.goes)

pub returns-else-branch-clause-goes : goal.returns-else-branch-clause-goes
returns-else-branch-clause-goes g c stops waits lists rests waited =
    let m = c.args.self.now in
    rests_none stops g.L.Lending.advances g.L.Lending.lent waits m.sources.items (queued m) lists c.args.source c.index_mut.result.now c.advance.new.self rests waited c.requires.place c.index_mut.ensures.value c.in_ok-advance.field-0 c.in_ok-advance.ensures.more c.if-branch.false c.in_ok-advance.ensures.goes

pub returns-in_err-advance-clause-goes : goal.returns-in_err-advance-clause-goes
returns-in_err-advance-clause-goes g c stops waits lists rests waited =
    let p = err_from_is_err_and c.from_residual.result c.from_residual.ensures.1 in
    let m = c.args.self.now in
    rw (p.1, p.2) (λ fine. rests_fault stops g.L.Lending.advances g.L.Lending.lent waits m.sources.items (queued m) lists c.args.source c.index_mut.result.now c.advance.new.self rests waited c.requires.place c.index_mut.ensures.value c.in_err-advance.field-0.0 c.in_err-advance.ensures.goes fine)
