use Rattle.std.proofs.Common.{◌≡◌, ◌<◌, ◌≤◌, ℕ, suc, ◌+◌, Bool, refl, sym, subst, length, arith}
use Rattle.std.specs.Prelude.{Ok, Err}
use Rattle.std.proofs.lemmas.Result.{err_from_is_err_and}
use Rattle.sst_entries.specs.Stream.{Steps}
use Rattle.lsm_sorted.specs.merge.Merge.{HasPlaces}
use Rattle.lsm_sorted.specs.merge.Asks.{AsksEach, FillsIf}
use Rattle.lsm_sorted.proofs.ReadyLemmas.{same_room, same_twice, made_at}
use Rattle.lsm_sorted.proofs.RoomLemmas.{fill_first, fill_next, fill_last}
use Rattle.lsm_sorted.proofs.merge.Merger.fill.Goals as goal

next_of : (i : ℕ) → suc i ≡ i + 1
next_of i = omega arith

pub loop-i-init : goal.loop-i-init
loop-i-init g c =
    let s = c.args.self.now in
    record {
      filled = fill_first g.I.Iterator.next_gives g.E.End.back_gives g.I.Iterator.can_next g.E.End.can_back g.I.Iterator.remaining g.E.End.end s c.requires.places c.requires.first;
      same = same_room s;
      lowers = omega arith;
      each = refl;
    }

pub loop-i-preserved : goal.loop-i-preserved
loop-i-preserved g c =
    let before = c.loop-i.invariant in
    let within : c.loop-i.i < length c.loop-i.self.sources.items = omega (arith, c.loop-i-test.true, before.same.count, c.len-i-end.ensures) in
    record {
      filled = fill_next g.I.Iterator.next_gives g.E.End.back_gives g.I.Iterator.can_next g.E.End.can_back g.I.Iterator.remaining g.E.End.end c.loop-i.i c.args.self.now c.loop-i.self c.take.new.self before.filled c.take.ensures.adds c.take.ensures.goes c.take.ensures.same within;
      same = same_twice c.args.self.now c.loop-i.self c.take.new.self before.same c.take.ensures.same;
      lowers = omega (arith, c.in_ok-take.ensures.lowers, before.lowers);
      each = subst (λ (n : ℕ). AsksEach (Steps g.I.Iterator.next_gives g.E.End.back_gives g.E.End.end) g.E.End.end n c.args.self.now c.take.new.self) (next_of c.loop-i.i) (c.loop-i.self, before.each, c.in_ok-take.ensures.asks);
    }

pub returns-clause-places : goal.returns-clause-places
returns-clause-places g c =
    let s = c.args.self.now in
    let m = c.loop-i.self in
    let before = c.loop-i.invariant in
    let all : c.loop-i.i ≤ length s.sources.items = omega (arith, c.loop-i.auto.i-end, c.len-i-end.ensures) in
    subst (HasPlaces g.I.Iterator.next_gives g.E.End.back_gives g.I.Iterator.can_next g.E.End.can_back g.I.Iterator.remaining) (made_at g.E.End.end c.end.result m c.make_ready.new.self c.end.ensures c.make_ready.ensures)
    (fill_last g.I.Iterator.next_gives g.E.End.back_gives g.I.Iterator.can_next g.E.End.can_back g.I.Iterator.remaining g.E.End.end c.loop-i.i s m before.filled all before.same)

pub returns-in_err-take-clause-fills : goal.returns-in_err-take-clause-fills
returns-in_err-take-clause-fills g c =
    let p = err_from_is_err_and c.from_residual.result c.from_residual.ensures.1 in
    let s = c.args.self.now in
    rw (p.1, p.2) (record {
      fill = subst (λ (b : Bool). FillsIf (Steps g.I.Iterator.next_gives g.E.End.back_gives g.E.End.end) g.E.End.end b s (Err c.in_err-take.field-0.0) c.take.new.self) (sym c.requires.first)
          (record { place = c.loop-i.i; before = c.loop-i.self; each = c.loop-i.invariant.each; fails = c.in_err-take.ensures.asks });
    })

pub returns-clause-fills : goal.returns-clause-fills
returns-clause-fills g c =
    let s = c.args.self.now in
    let m = c.loop-i.self in
    let before = c.loop-i.invariant in
    let all : c.loop-i.i ≡ length s.sources.items = omega (arith, c.loop-i.auto.i-end, c.loop-i-test.false, c.len-i-end.ensures, before.same.count) in
    record {
      fill = subst (λ (b : Bool). FillsIf (Steps g.I.Iterator.next_gives g.E.End.back_gives g.E.End.end) g.E.End.end b s (Ok tt) c.make_ready.new.self) (sym c.requires.first) (record {
        last = m;
        each = subst (λ (n : ℕ). AsksEach (Steps g.I.Iterator.next_gives g.E.End.back_gives g.E.End.end) g.E.End.end n s m) all before.each;
        ready = sym (made_at g.E.End.end c.end.result m c.make_ready.new.self c.end.ensures c.make_ready.ensures);
      });
    }
