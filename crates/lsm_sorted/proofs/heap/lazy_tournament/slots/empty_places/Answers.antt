use Rattle.std.proofs.Common.{◌≡◌, ◌≤◌, ◌<◌, ℕ, ◌∙◌, ap, arith, List, ◌∷◌, [], ◌++◌, Option, None, length, replicate}
use Rattle.std.specs.Vec.{vec_len, vec_capacity}
use Rattle.std.specs.declared.vec.Vec.{Vec}
use Rattle.std.proofs.lemmas.List.{length-replicate, replicate_more}
use Rattle.lsm_sorted.proofs.SlotLemmas.{below_both}
use Rattle.lsm_sorted.proofs.heap.lazy_tournament.slots.empty_places.Goals as goal

has_room : {T Z : Type 0} (v : Vec (Option T) Z) (n count : ℕ) → v.items ≡ replicate n None → vec_capacity v ≡ count → n < count → vec_len v < vec_capacity v
has_room v n count empty room low =
    below_both (vec_len v) (vec_capacity v) n count (v.ok.0 ∙ ap length empty ∙ length-replicate n None) room low

all_counted : (n count : ℕ) → n ≤ count → count ≤ n → n ≡ count
all_counted n count h k = omega arith

pub loop-init : goal.loop-init
loop-init g c = record { room = c.in_ok-places.ensures.exact; empty = c.in_ok-places.ensures.items }

pub push_reserved-requires : goal.push_reserved-requires
push_reserved-requires g c = has_room c.loop.places c.loop.counter c.args.count c.loop.invariant.empty c.loop.invariant.room c.loop-test.true

pub loop-preserved : goal.loop-preserved
loop-preserved g c = record {
  room = c.push_reserved.ensures.capacity ∙ c.loop.invariant.room;
  empty = c.push_reserved.ensures.items ∙ ap (λ (xs : List (Option g.row.T.Denot)). xs ++ None ∷ []) c.loop.invariant.empty ∙ replicate_more c.loop.counter None;
}

pub returns : goal.returns
returns g c =
    let whole = all_counted c.loop.counter c.args.count c.loop.auto.counter-end c.loop-test.false in
    rw (← whole) c.loop.invariant.empty
