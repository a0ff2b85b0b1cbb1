use Rattle.std.proofs.Common.{true, Bool, refl, sym, ◌∙◌, subst, arith, inl, inr, rules}
use Rattle.std.specs.Prelude.{None, Some, Ok, Err}
use Rattle.sst_entries.specs.Stream.{Steps}
use Rattle.sst_entries.specs.declared.stream.Direction.{Direction}
use Rattle.lsm_sorted.specs.merge.Asks.{CallsIf, Pops}
use Rattle.lsm_sorted.proofs.RoomLemmas.{may_merge, size_of, popped_known, popped_space}
use Rattle.lsm_sorted.proofs.RoomLemmas.{popped_total, same_popped, fits_turn}
use Rattle.lsm_sorted.proofs.merge.Merger.call.Goals as goal

pub returns-in-Err-clause-calls : goal.returns-in-Err-clause-calls
returns-in-Err-clause-calls g c = rw (c.fail.ensures.answer, c.fail.ensures.state) (record {
  may = record { fits = tt };
  call = subst (λ (b : Bool). CallsIf (Steps g.I.Iterator.next_gives g.E.End.back_gives g.E.End.end) g.E.End.end b c.args.self.now (Some (Err c.in-Err.error)) (record c.fill_once.new.self { failed = true })) (sym c.if-self.false)
      (record {
        step = Err c.in-Err.error;
        led = c.fill_once.new.self;
        steps = record {
          fill = Err c.in-Err.error;
          filled = c.fill_once.new.self;
          fills = c.in-Err.ensures.fills;
          turns = (refl, refl);
        };
        answer = refl;
        state = refl;
      });
})

pub take-requires-clause-place : goal.take-requires-clause-place
take-requires-clause-place g c =
    popped_known g.I.Iterator.next_gives g.E.End.back_gives g.I.Iterator.can_next g.E.End.can_back g.I.Iterator.remaining c.end.result c.fill_once.new.self c.pop.new.self c.in-Some.lead c.in_default.ensures.places c.in-Some.ensures.some

pub take-requires-clause-space : goal.take-requires-clause-space
take-requires-clause-space g c =
    popped_space g.I.Iterator.next_gives g.E.End.back_gives g.I.Iterator.can_next g.E.End.can_back g.I.Iterator.remaining c.end.result c.fill_once.new.self c.pop.new.self c.in-Some.lead c.in_default.ensures.places c.in-Some.ensures.some

pub returns-in_default-pop-clause-calls : goal.returns-in_default-pop-clause-calls
returns-in_default-pop-clause-calls g c = record {
  may = search rules;
  call = subst (λ (b : Bool). CallsIf (Steps g.I.Iterator.next_gives g.E.End.back_gives g.E.End.end) g.E.End.end b c.args.self.now None c.pop.new.self) (sym c.if-self.false)
      (record {
        step = Ok None;
        led = c.pop.new.self;
        steps = record {
          fill = Ok tt;
          filled = c.fill_once.new.self;
          fills = c.in_default.ensures.fills;
          turns = inl (refl, c.in_default-pop.ensures.none);
        };
        answer = refl;
        state = refl;
      });
}

pub returns-in-Ok-clause-calls : goal.returns-in-Ok-clause-calls
returns-in-Ok-clause-calls g c =
    let same = same_popped g.I.Iterator.next_gives g.E.End.back_gives g.I.Iterator.can_next g.E.End.can_back g.I.Iterator.remaining c.end.result c.fill_once.new.self c.pop.new.self c.take.new.self c.in-Some.lead c.in-Some.ensures.some c.take.ensures.same in
    record {
      may = may_merge g.I.Iterator.next_gives g.E.End.back_gives g.I.Iterator.can_next g.E.End.can_back g.I.Iterator.remaining c.take.new.self (same.failed ∙ (c.fill_once.ensures.failed ∙ c.if-self.false))
          (fits_turn g.I.Iterator.next_gives g.E.End.back_gives g.I.Iterator.can_next g.E.End.can_back g.I.Iterator.remaining g.E.End.end c.fill_once.new.self c.take.new.self c.in-Some.lead c.pop.new.self.heap.items c.in_default.ensures.places c.in-Some.ensures.some.left
          c.take.ensures.adds c.take.ensures.goes same);
      call = subst (λ (b : Bool). CallsIf (Steps g.I.Iterator.next_gives g.E.End.back_gives g.E.End.end) g.E.End.end b c.args.self.now (Some (Ok c.into_item.result)) c.take.new.self) (sym c.if-self.false)
          (record {
            step = Ok (Some c.into_item.result);
            led = c.take.new.self;
            steps = record {
              fill = Ok tt;
              filled = c.fill_once.new.self;
              fills = c.in_default.ensures.fills;
              turns = inr (record {
                lead = c.in-Some.lead;
                mid = c.pop.new.self;
                pops = subst (λ (e : Direction). Pops e c.fill_once.new.self c.in-Some.lead c.pop.new.self) c.end.ensures c.in-Some.ensures.some;
                answer = Ok tt;
                asks = c.in-Ok.ensures.asks;
                returned = rw c.into_item.ensures refl;
              });
            };
            answer = refl;
            state = refl;
          });
    }

pub returns-in-Ok-clause-goes : goal.returns-in-Ok-clause-goes
returns-in-Ok-clause-goes g c =
    let may = (returns-in-Ok-clause-calls g c).may in
    let same = same_popped g.I.Iterator.next_gives g.E.End.back_gives g.I.Iterator.can_next g.E.End.can_back g.I.Iterator.remaining c.end.result c.fill_once.new.self c.pop.new.self c.take.new.self c.in-Some.lead c.in-Some.ensures.some c.take.ensures.same in
    let less = popped_total g.I.Iterator.next_gives g.E.End.back_gives g.I.Iterator.can_next g.E.End.can_back g.I.Iterator.remaining c.end.result c.fill_once.new.self c.pop.new.self c.in-Some.lead c.in_default.ensures.places c.in-Some.ensures.some in
    record {
      on = λ _. (
        may,
        tt,
        omega (
          arith,
          less,
          c.in-Ok.ensures.lowers,
          c.in_default.ensures.lowers,
          size_of g.I.Iterator.next_gives g.E.End.back_gives g.I.Iterator.can_next g.E.End.can_back g.I.Iterator.remaining c.take.new.self (same.failed ∙ (c.fill_once.ensures.failed ∙ c.if-self.false)),
          size_of g.I.Iterator.next_gives g.E.End.back_gives g.I.Iterator.can_next g.E.End.can_back g.I.Iterator.remaining c.args.self.now c.if-self.false,
        ),
      );
      keeps = may;
      rests = λ _. tt;
    }

pub returns-in-Err-take-clause-calls : goal.returns-in-Err-take-clause-calls
returns-in-Err-take-clause-calls g c = rw (c.fail-in-Err-take.ensures.answer, c.fail-in-Err-take.ensures.state) (record {
  may = record { fits = tt };
  call = subst (λ (b : Bool). CallsIf (Steps g.I.Iterator.next_gives g.E.End.back_gives g.E.End.end) g.E.End.end b c.args.self.now (Some (Err c.in-Err-take.error)) (record c.take.new.self { failed = true })) (sym c.if-self.false)
      (record {
        step = Err c.in-Err-take.error;
        led = c.take.new.self;
        steps = record {
          fill = Ok tt;
          filled = c.fill_once.new.self;
          fills = c.in_default.ensures.fills;
          turns = inr (record {
            lead = c.in-Some.lead;
            mid = c.pop.new.self;
            pops = subst (λ (e : Direction). Pops e c.fill_once.new.self c.in-Some.lead c.pop.new.self) c.end.ensures c.in-Some.ensures.some;
            answer = Err c.in-Err-take.error;
            asks = c.in-Err-take.ensures.asks;
            returned = refl;
          });
        };
        answer = refl;
        state = refl;
      });
})
