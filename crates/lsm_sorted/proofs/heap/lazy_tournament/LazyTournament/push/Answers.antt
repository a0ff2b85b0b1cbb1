use Rattle.std.proofs.Common.{ap, Some, None}
use Rattle.lsm_sorted.specs.merge.Tournament.{Contest}
use Rattle.lsm_sorted.proofs.SlotLemmas.{occupants-fill}
use Rattle.lsm_sorted.proofs.TournamentLemmas.{agrees_next, are_kept_set, are_kept_open}
use Rattle.lsm_sorted.proofs.heap.lazy_tournament.LazyTournament.push.Goals as goal

pub follow-requires : goal.follow-requires
follow-requires g c =
    let slots = c.self.inside.slots in
    let b = c.self.inside.brackets in
    let slot = c.insert-slot.result in
    let agrees = agrees_next b.emptied slots c.insert-slot.new.self.free slot c.self.invariant.next c.insert-slot.ensures.last in
    rw (c.as_slice.ensures, c.insert-slot.ensures.places)
    (are_kept_open g.T.Ord.cmp (Some slot) None _ b (are_kept_set g.T.Ord.cmp slots.places slot (Some c.args.item) c.insert-slot.ensures.within b.emptied b agrees c.self.invariant.kept))

pub returns-clause-items : goal.returns-clause-items
returns-clause-items g c =
    let before = ap (λ (t : Contest g.row.T.Denot). t.items) c.self.view_is in
    rw (← before, c.insert-slot.ensures.places)
    (occupants-fill c.self.inside.slots.places c.insert-slot.result c.args.item c.insert-slot.ensures.within c.insert-slot.ensures.empty)
