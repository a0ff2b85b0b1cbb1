use Rattle.std.proofs.Common.{◌≡◌, ◌≤◌, ◌+◌, ◌-◌, ◌/◌, length, true, false, arith, ap, sym, ◌∙◌}
use Rattle.std.proofs.lemmas.Option.{same_Some, slice_get_within}
use Rattle.sst_blocks.specs.Format.{items_of}
use Rattle.sst_blocks.specs.Reading.{key_and_number}
use Rattle.sst_blocks.proofs.Fronts.{probed, probed_test, passes_below, front_found}
use Rattle.sst_blocks.proofs.Items.{many}
use Rattle.sst_blocks.proofs.reading.places.front_len.Goals as goal

pub loop-low-init : goal.loop-low-init
loop-low-init g c =
    let f = g.R.ItemRef.format c.args.version in
    record {
      order = omega arith;
      within = omega arith;
      parts = λ p computes parted.
          (λ i x lt some. absurd (omega (arith, lt)), λ x some. absurd (omega (arith, slice_get_within (items_of f c.args.payload.now) _ x some, many f c.args.payload.now c.args.starts.now c.requires.spelled, c.len-high.ensures)));
    }

pub loop-low-preserved-then-passes : goal.loop-low-preserved-then-passes
loop-low-preserved-then-passes g c =
    let f = g.R.ItemRef.format c.args.version in
    let compared = λ (x : g.R.ItemRef.Reported). key_and_number (f.key x) in
    record {
      order = omega arith;
      within = c.loop-low.invariant.within;
      parts = λ p computes parted.
          let x = probed compared (items_of f c.args.payload.now) _ _ _ c.key_at-seqno.ensures in
          let passed : p (f.key x.item).user_key (f.key x.item).seqno ≡ true = probed_test compared _ _ _ _ p _ true x (computes _ _ _ c.passes.ensures) c.if-passes.true in
          (passes_below (λ (y : g.R.ItemRef.Reported). p (f.key y).user_key (f.key y).seqno) _ _ _ parted x.here passed, (c.loop-low.invariant.parts p computes parted).1);
    }

pub loop-low-preserved : goal.loop-low-preserved
loop-low-preserved g c =
    let f = g.R.ItemRef.format c.args.version in
    let compared = λ (x : g.R.ItemRef.Reported). key_and_number (f.key x) in
    let middle = c.loop-low.low + (c.loop-low.high - c.loop-low.low) / 2 in
    record {
      order = omega arith;
      within = omega (arith, c.loop-low.invariant.within);
      parts = λ p computes parted.
          let x = probed compared (items_of f c.args.payload.now) middle _ _ c.key_at-seqno.ensures in
          let failed : p (f.key x.item).user_key (f.key x.item).seqno ≡ false = probed_test compared _ middle _ _ p _ false x (computes _ _ _ c.passes.ensures) c.if-passes.false in
          ((c.loop-low.invariant.parts p computes parted).0, λ y some. ap (λ (z : g.R.ItemRef.Reported). p (f.key z).user_key (f.key z).seqno) (same_Some y x.item (sym some ∙ x.here)) ∙ failed);
    }

pub returns-clause-value : goal.returns-clause-value
returns-clause-value g c p computes parted =
    let f = g.R.ItemRef.format c.args.version in
    let parts = c.loop-low.invariant.parts p computes parted in
    let end : c.loop-low.high ≡ c.loop-low.low = omega (arith, c.loop-low.invariant.order, c.loop-low-test.false) in
    let le : c.loop-low.low ≤ length (items_of f c.args.payload.now) = omega (arith, end, c.loop-low.invariant.within, many f c.args.payload.now c.args.starts.now c.requires.spelled) in
    front_found (λ (x : g.R.ItemRef.Reported). p (f.key x).user_key (f.key x).seqno) _ _ le parts.0 (λ x some. parts.1 x (rw end some))
