use Rattle.std.proofs.Common.{ap, arith, ◌∙◌, ◌≡◌, refl, sym, Some, None, subst, length}
use Rattle.std.specs.Option.{option_map}
use Rattle.sst_entries.specs.Lending.{entry_of_ref}
use Rattle.sst_c.proofs.Taking.{step_found, taking_more}
use Rattle.sst_c.proofs.takes.take_from.Goals as goal

pub loop-place-preserved : goal.loop-place-preserved
loop-place-preserved g c =
    let l = c.loop-place in
    let t = c.read-code.new.self in
    let e = entry_of_ref c.in-Some.entry in
    let is : Some e ≡ g.R.Reads.found t = sym (ap (option_map entry_of_ref) c.in-Some.is) ∙ c.entry.ensures in
    let step = step_found (g.R.Reads.reads c.args.back) l.source t c.read-code.result (g.R.Reads.found t) e
    c.read-code.ensures.reads c.read-code.ensures.fine is in
    record {
      taking = taking_more (g.R.Reads.reads c.args.back) c.args.source.now l.source t c.args.entries.now l.entries
          c.args.bytes.now l.bytes c.lay_next.new.room l.place l.at c.lay_next.new.at e c.tell.result l.invariant.taking
          step c.loop-place-test.true c.tell.ensures
          (c.if-not-lay_next.ensures.laid refl) (c.if-not-lay_next.ensures.behind refl);
      room = c.lay_next.ensures.within;
      same = c.lay_next.auto.room ∙ l.invariant.same;
    }
