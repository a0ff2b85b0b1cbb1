use Rattle.std.proofs.Common.{◌≡◌, ℕ, ◌≤◌, List, ◌++◌, length, take, rules, ap, sym, ◌∙◌}
use Rattle.std.proofs.lemmas.List.{take_all}
use Rattle.std.proofs.lemmas.Result.{IfOk-from_err}
use Rattle.std.specs.List.{flat_map}
use Rattle.sst_blocks.specs.Number.{le4}
use Rattle.sst_blocks.specs.Payload.{items_payload}
use Rattle.sst_blocks.proofs.Faults.{all_here, front_again}
use Rattle.sst_blocks.proofs.Grown.{all_fit, first, front, none, none_yet, one_more, one_more_fits}
use Rattle.sst_blocks.proofs.item.put_items.Goals as goal

-- once all items are written, the payload is
all_written : {X : Type 0} (spell : X → List ℕ) (buf old : List ℕ) (items : List X) (n : ℕ) → length items ≤ n → buf ≡ old ++ (le4 (length items) ++ flat_map spell (take n items)) → buf ≡ old ++ items_payload spell items
all_written {X} spell buf old items n le written = written ∙ ap (λ (xs : List X). old ++ (le4 (length items) ++ flat_map spell xs)) (take_all n items le)

pub put-requires : goal.put-requires
put-requires g c = all_here g.T.Item.Short c.args.items.now c.loop-item.item-index c.item-item.result c.requires.short c.loop-item-test.true c.item-item.is

pub loop-item-init : goal.loop-item-init
loop-item-init g c =
    record { written = none_yet c.args.buf.now.items c.put_u32.new.buf.items (le4 (length c.args.items.now)) c.in_ok-put_u32.ensures.ok; fit = tt }

pub loop-item-preserved : goal.loop-item-preserved
loop-item-preserved g c =
    let items = c.args.items.now in
    let i = c.loop-item.item-index in
    let lt = c.loop-item-test.true in
    record {
      written = one_more g.T.Item.bytes c.args.buf.now.items (le4 (length items)) c.loop-item.buf.items c.put.new.buf.items items i c.item-item.result lt c.item-item.is
          c.loop-item.invariant.written c.in_ok-put.ensures.ok;
      fit = one_more_fits g.T.Item.Fits items i c.item-item.result lt c.item-item.is c.loop-item.invariant.fit c.in_ok-put.ensures.fits;
    }

pub returns-in_err-put_u32 : goal.returns-in_err-put_u32
returns-in_err-put_u32 g c =
    let failed = c.from_residual.ensures in
    record { ok = IfOk-from_err _ _ failed.0; fit = IfOk-from_err _ _ failed.0; front = front c.args.buf.now.ok.0 (none c.in_err-put_u32.ensures.unchanged); err = search rules }

pub returns-in_err-put : goal.returns-in_err-put
returns-in_err-put g c =
    let failed = c.from_residual-in_err-put.ensures in
    record {
      ok = IfOk-from_err _ _ failed.0;
      fit = IfOk-from_err _ _ failed.0;
      front = front_again _ _ _ _ _ _ (sym c.args.buf.now.ok.0) (sym c.loop-item.buf.ok.0) c.loop-item.invariant.written c.put.ensures.front;
      err = search rules;
    }

pub returns : goal.returns
returns g c =
    record {
      ok = all_written g.T.Item.bytes c.loop-item.buf.items c.args.buf.now.items c.args.items.now c.loop-item.item-index c.loop-item-test.false c.loop-item.invariant.written;
      fit = (c.requires.few, all_fit g.T.Item.Fits c.args.items.now c.loop-item.item-index c.loop-item-test.false c.loop-item.invariant.fit);
      front = front c.args.buf.now.ok.0 (first _ c.loop-item.invariant.written);
      err = tt;
    }
