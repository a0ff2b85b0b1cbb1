use Rattle.std.proofs.Common.{◌≡◌, ℕ, ◌^◌, ◌<◌, [], Option, Some, None, length, set, sym, ◌∙◌, ap, subst}
use Rattle.std.proofs.lemmas.List.{length-set, set-get_or}
use Rattle.lsm_sorted.specs.merge.Order.{toward}
use Rattle.lsm_sorted.specs.merge.Tournament.{Contest, height}
use Rattle.lsm_sorted.specs.merge.Slots.{occupants, slot_at}
use Rattle.lsm_sorted.specs.merge.Brackets.{AreKept, IsUnbeaten}
use Rattle.lsm_sorted.proofs.AskedLemmas.{plays_at_most, plays_from}
use Rattle.lsm_sorted.proofs.SlotLemmas.{occupants-empty}
use Rattle.lsm_sorted.proofs.TournamentLemmas.{IfNone-from, all_behind, none_left, are_kept_set}
use Rattle.lsm_sorted.proofs.TournamentLemmas.{are_kept_open}
use Rattle.lsm_sorted.proofs.heap.lazy_tournament.LazyTournament.pop.Goals as goal
use Rattle.lsm_sorted.proofs.heap.lazy_tournament.LazyTournament.pop.Goals.{After-winner-slot}
use Rattle.lsm_sorted.proofs.heap.lazy_tournament.LazyTournament.pop.Goals.{After-from_residual}
use Rattle.lsm_sorted.proofs.heap.lazy_tournament.LazyTournament.pop.Goals.{After-remove}

kept : (g : _) (c : After-winner-slot g) → AreKept None g.T.Ord.cmp c.self.inside.slots.places c.winner-slot.new.self
kept g c = rw c.as_slice.ensures at c.winner-slot.ensures.kept

same_items : (g : _) (c : After-winner-slot g) → occupants c.self.inside.slots.places ≡ c.args.self.now.items
same_items g c = ap (λ (t : Contest g.row.T.Denot). t.items) c.self.view_is

within : (g : _) (c : After-winner-slot g) → c.winner-slot.result < length c.self.inside.slots.places
within g c = rw c.as_slice.ensures at c.winner-slot.ensures.within

-- no slot beats the one that wins
wins : (g : _) (c : After-winner-slot g) → IsUnbeaten (toward c.args.end g.T.Ord.cmp) c.self.inside.slots.places c.winner-slot.result
wins g c = rw c.as_slice.ensures at c.winner-slot.ensures.wins

-- an empty slot was emptied
same_places : (g : _) (c : After-from_residual g) → c.remove.new.self.places ≡ c.self.inside.slots.places
same_places g c =
    let same : set c.self.inside.slots.places c.winner-slot.result None ≡ c.self.inside.slots.places =
    ap (λ (o : Option g.row.T.Denot). set c.self.inside.slots.places c.winner-slot.result o) c.in_err-item.ensures.value ∙ set-get_or c.self.inside.slots.places c.winner-slot.result None in
    c.remove.ensures.places ∙ same

-- there are as many slots as before
same_leaves : (g : _) (c : After-remove g) → length c.remove.new.self.places ≡ 2 ^ height c.self.inside.slots.room
same_leaves g c = rw (c.remove.ensures.places, length-set) c.self.invariant.leaves

-- the slot that wins is empty only where all are
all_empty : (g : _) (c : After-from_residual g) → occupants c.self.inside.slots.places ≡ []
all_empty g c =
    none_left (toward c.args.end g.T.Ord.cmp) c.self.inside.slots.places (slot_at c.self.inside.slots.places c.winner-slot.result) c.in_err-item.ensures.value
    (rw c.as_slice.ensures at c.winner-slot.ensures.wins)

pub returns-in_err-item-clause-none : goal.returns-in_err-item-clause-none
returns-in_err-item-clause-none g c =
    let same = ap (λ (t : Contest g.row.T.Denot). t.items) c.self.view_is in
    IfNone-from _ _ (sym same ∙ all_empty g (goal.at.returns-in_err-item-clause-none g c).After-from_residual)

pub returns-in_err-item-clause-unchanged : goal.returns-in_err-item-clause-unchanged
returns-in_err-item-clause-unchanged g c =
    let here = (goal.at.returns-in_err-item-clause-unchanged g c).After-from_residual in
    IfNone-from _ _ (ap occupants (same_places g here) ∙ all_empty g here)

pub invariant_of-self-2 : goal.invariant_of-self-2
invariant_of-self-2 g c =
    let before = (goal.at.invariant_of-self-2 g c).After-winner-slot in
    let slot = c.winner-slot.result in
    let b = c.winner-slot.new.self in
    record {
      leaves = rw c.remove.ensures.room (same_leaves g (goal.at.invariant_of-self-2 g c).After-remove);
      kept = rw c.remove.ensures.places (are_kept_open g.T.Ord.cmp (Some slot) (Some slot) _ b (are_kept_set g.T.Ord.cmp c.self.inside.slots.places slot None (within g before) None b tt (kept g before)));
      next = record { others = c.self.inside.slots.free; last = c.in_ok-item.ensures.last };
    }

pub returns-clause-taken : goal.returns-clause-taken
returns-clause-taken g c =
    let before = (goal.at.returns-clause-taken g c).After-winner-slot in
    rw (← same_items g before, c.remove.ensures.places)
    (occupants-empty c.self.inside.slots.places c.winner-slot.result c.in_ok-item.item (within g before) (sym c.in_ok-item.ensures.value))

pub returns-clause-first : goal.returns-clause-first
returns-clause-first g c =
    let before = (goal.at.returns-clause-first g c).After-winner-slot in
    rw (← same_items g before)
    (all_behind (toward c.args.end g.T.Ord.cmp) c.in_ok-item.item c.self.inside.slots.places (λ k low. rw c.in_ok-item.ensures.value (wins g before k low)))

-- as many leaves as the slots that were played
leaves : (g : _) (c : After-winner-slot g) → length c.as_slice.result.now ≡ 2 ^ height c.self.inside.slots.room
leaves g c = ap length c.as_slice.ensures ∙ c.self.invariant.leaves

pub returns-clause-steps : goal.returns-clause-steps
returns-clause-steps g c =
    let same = leaves g (goal.at.returns-clause-steps g c).After-winner-slot in
    rw (← c.self.view_is) (plays_at_most _ _ _ _ c.self.inside.brackets c.winner-slot.new.self c.args.end (length c.as_slice.result.now) same c.winner-slot.ensures.rises (c.winner-slot.ensures.bound (height c.self.inside.slots.room) same))

pub returns-clause-plays : goal.returns-clause-plays
returns-clause-plays g c = rw (← c.self.view_is) (plays_from _ _ _ _ c.self.inside.brackets c.winner-slot.new.self c.args.end c.winner-slot.ensures.plays)

pub returns-in_err-item-clause-steps : goal.returns-in_err-item-clause-steps
returns-in_err-item-clause-steps g c =
    let same = leaves g (goal.at.returns-in_err-item-clause-steps g c).After-winner-slot in
    rw (← c.self.view_is) (plays_at_most _ _ _ _ c.self.inside.brackets c.winner-slot.new.self c.args.end (length c.as_slice.result.now) same c.winner-slot.ensures.rises (c.winner-slot.ensures.bound (height c.self.inside.slots.room) same))

pub returns-in_err-item-clause-plays : goal.returns-in_err-item-clause-plays
returns-in_err-item-clause-plays g c = rw (← c.self.view_is) (plays_from _ _ _ _ c.self.inside.brackets c.winner-slot.new.self c.args.end c.winner-slot.ensures.plays)

pub invariant_of-self : goal.invariant_of-self
invariant_of-self g c =
    let here = goal.at.invariant_of-self g c in
    record {
      leaves = rw c.remove.ensures.room (same_leaves g here.After-remove);
      kept = rw (same_places g here.After-from_residual) (subst (λ (o : Option ℕ). AreKept o g.T.Ord.cmp c.self.inside.slots.places c.winner-slot.new.self) (sym c.winner-slot.ensures.emptied) (kept g here.After-winner-slot));
      next = rw c.winner-slot.ensures.emptied tt;
    }
