use Rattle.std.proofs.Common.{◌≡◌, ℕ, ◌^◌, ◌<◌, ◌∙◌, sym, ap, subst, length, Option, None, arith}
use Rattle.std.proofs.lemmas.List.{length-replicate}
use Rattle.std.proofs.Math.Pow.{pow_pos}
use Rattle.std.specs.Int.{IsNextPowerOfTwo}
use Rattle.lsm_sorted.specs.merge.Tournament.{height}
use Rattle.lsm_sorted.specs.merge.Brackets.{AreKept, IsNextIf}
use Rattle.lsm_sorted.proofs.SlotLemmas.{occupants-replicate}
use Rattle.lsm_sorted.proofs.HeightLemmas.{next_power_is}
use Rattle.lsm_sorted.proofs.TournamentLemmas.{kept_unplayed}
use Rattle.lsm_sorted.proofs.heap.lazy_tournament.LazyTournament.new.Goals as goal

-- a power of two is some number
some_leaves : (n p : ℕ) → IsNextPowerOfTwo n p → 0 < p
some_leaves n p next = let is : p ≡ 2 ^ next.0.0 = next.0.1 in let some = pow_pos next.0.0 in omega arith

pub new-requires : goal.new-requires
new-requires g c = some_leaves c.args.capacity c.in-Some.leaves c.in-Some.ensures

pub new-requires-2 : goal.new-requires-2
new-requires-2 g c = c.in-Some.ensures.1

pub returns-clause-empty : goal.returns-clause-empty
returns-clause-empty g c = rw c.in_ok-new.ensures.places (occupants-replicate {T = g.row.T.Denot} c.in-Some.leaves)

pub invariant_of-result : goal.invariant_of-result
invariant_of-result g c =
    let places = c.in_ok-new.field-0.places in
    let b = c.in_ok-brackets.brackets in
    let met = c.in_ok-brackets.ensures in
    record {
      leaves = ap length c.in_ok-new.ensures.places ∙ length-replicate {A = Option g.row.T.Denot} c.in-Some.leaves None ∙ next_power_is c.args.capacity c.in-Some.leaves c.in-Some.ensures ∙ ap (λ n. 2 ^ height n) (sym c.in_ok-new.ensures.room);
      kept = subst (λ (o : Option ℕ). AreKept o g.T.Ord.cmp places b) (sym met.emptied) (record {
        front_end = met.front_end;
        back_end = met.back_end;
        front = kept_unplayed g.T.Ord.cmp places c.in-Some.leaves b.front c.in_ok-new.ensures.places met.front;
        back = kept_unplayed g.T.Ord.cmp places c.in-Some.leaves b.back c.in_ok-new.ensures.places met.back;
      });
      next = subst (λ (o : Option ℕ). IsNextIf c.in_ok-new.field-0 o) (sym met.emptied) tt;
    }
