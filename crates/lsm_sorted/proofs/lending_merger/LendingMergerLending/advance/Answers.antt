-- A call: what was left is what is lent and what is left.
use Rattle.std.proofs.Common.{◌≡◌, ℕ, true, false, [], ◌∷◌, map, refl, sym, ◌∙◌, ap, subst}
use Rattle.std.specs.Prelude.{Err, not, ◌==◌}
use Rattle.sst_entries.specs.Stream.{but_first, first}
use Rattle.lsm_sorted.specs.lending.Lent.{LeavesLent, lent_first, source_of}
use Rattle.lsm_sorted.proofs.LentSteps.{answers_lent, answers_fault, lowers_lent, no_error}
use Rattle.lsm_sorted.proofs.LentSteps.{over_lends, queue_lends, ready_cleared}
use Rattle.lsm_sorted.proofs.lending_merger.LendingMergerLending.advance.Goals as goal

pub returns-in-Ok-clause-goes : goal.returns-in-Ok-clause-goes
returns-in-Ok-clause-goes g c =
    let n = c.step.new.self in
    record {
      may = record {
        ready = c.in-Ok.ensures.ready;
        fresh = λ e. let no : true ≡ false = sym c.in-Ok.ensures.started ∙ e in absurd cc;
      };
      gives = λ stops ys leaves fine.
          let s = c.in-Ok.ensures.steps stops ys leaves in
          answers_lent stops g.L.Lending.advances g.L.Lending.lent n ys c.in-Ok.ensures.started c.in-Ok.ensures.ready.queue c.in-Ok.ensures.ready.known s.0 s.1 s.2;
      ends = λ e is. absurd (no_error (lent_first g.L.Lending.lent n) e is);
      over = λ over. let after = (c.in-Ok.ensures.over over).1 in
          (over_lends g.L.Lending.lent n after.empty, after);
    }

pub returns-in-Ok-clause-more : goal.returns-in-Ok-clause-more
returns-in-Ok-clause-more g c =
    let n = c.step.new.self in
    ap not (c.is_empty.ensures ∙ ap (λ (k : ℕ). k == 0) n.queue.ok.0) ∙ queue_lends g.L.Lending.lent n c.in-Ok.ensures.ready.queue

pub returns-in-Ok-clause-lowers : goal.returns-in-Ok-clause-lowers
returns-in-Ok-clause-lowers g c =
    lowers_lent g.L.Lending.left g.L.Lending.lent c.args.self.now c.step.new.self c.in-Ok.ensures.started c.in-Ok.ensures.ready.queue c.in-Ok.ensures.lowers

pub returns-in-Err-clause-goes : goal.returns-in-Err-clause-goes
returns-in-Err-clause-goes g c =
    let n = record c.step.new.self { queue = c.clear.new.self } in
    record {
      may = record {
        ready = ready_cleared g.L.Lending.advances g.L.Lending.can_advance g.L.Lending.lent c.step.new.self n c.in-Err.ensures.ready c.clear.ensures.items refl c.clear.ensures.capacity;
        fresh = λ e. c.clear.ensures.items;
      };
      gives = λ stops ys leaves fine.
          let e : ys ≡ Err c.in-Err.error ∷ [] = c.in-Err.ensures.steps stops ys leaves fine in (
            sym (ap first e),
            subst (LeavesLent stops g.L.Lending.advances g.L.Lending.lent n) (sym (ap but_first e)) (answers_fault stops g.L.Lending.advances g.L.Lending.lent n c.in-Err.ensures.started (ap (map source_of) c.clear.ensures.items)),
          );
      ends = λ e is. record { started = c.in-Err.ensures.started; empty = c.clear.ensures.items };
      over = λ over. let no : false ≡ true = (c.in-Err.ensures.over over).0 in absurd cc;
    }
