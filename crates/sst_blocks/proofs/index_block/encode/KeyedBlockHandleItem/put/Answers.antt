use Rattle.std.proofs.Common.{◌≡◌, ℕ, List, ◌++◌, length, rules, arith, append_assoc, ◌∙◌}
use Rattle.std.proofs.lemmas.Result.{IfOk-from_err}
use Rattle.sst_blocks.specs.Handle.{Handle}
use Rattle.sst_blocks.specs.Handles.{handle_spelled}
use Rattle.sst_blocks.specs.Number.{le4, le8}
use Rattle.sst_blocks.specs.declared.version.TableVersion.TheVariants.{V4}
use Rattle.sst_blocks.proofs.Grown.{none, first, then, same, front}
use Rattle.sst_blocks.proofs.index_block.encode.KeyedBlockHandleItem.put.Goals as goal

-- the parts of a handle, one behind the other, spell it
parts : (old number offset size key_len key : List ℕ) → old ++ number ++ offset ++ size ++ key_len ++ key ≡ old ++ (number ++ offset ++ size ++ key_len ++ key)
parts old number offset size key_len key = simp append_assoc

spells : (handle : Handle) (old numbered placed sized keyed new key : List ℕ) (number offset size : ℕ) → number ≡ handle.seqno → offset ≡ handle.offset → size ≡ handle.size → key ≡ handle.end_key
    → numbered ≡ old ++ le8 number → placed ≡ numbered ++ le8 offset → sized ≡ placed ++ le4 size → keyed ≡ sized ++ le4 (length key) → new ≡ keyed ++ key
    → new ≡ old ++ handle_spelled V4 handle
unfolding handle_spelled
spells handle old numbered placed sized keyed new key number offset size n o s k e1 e2 e3 e4 e5 =
    rw (e5, e4, e3, e2, e1, n, o, s, k) (parts old (le8 handle.seqno) (le8 handle.offset) (le4 handle.size) (le4 (length handle.end_key)) handle.end_key)

pub returns : goal.returns
returns g c =
    record {
      ok = spells c.args.self.now c.args.buf.now.items c.put_u64.new.buf.items c.put_u64-2.new.buf.items c.put_u32.new.buf.items c.put_u32-2.new.buf.items c.extend_from_slice.new.self.items
          c.as_slice-end_key.result.now c.seqno.result c.offset.result.0 c.size.result c.seqno.ensures c.offset.ensures c.size.ensures (c.as_slice-end_key.ensures ∙ c.end_key.ensures)
          c.in_ok-put_u64.ensures.ok c.in_ok-put_u64-2.ensures.ok c.in_ok-put_u32.ensures.ok c.in_ok-put_u32-2.ensures.ok c.in_ok-extend_from_slice.ensures.items;
      fits = record { number = search rules; offset = search rules; size = search rules; key_len = omega arith };
      front = front c.args.buf.now.ok.0 (then _ (then _ (then _ (then _ (first _ c.in_ok-put_u64.ensures.ok) c.in_ok-put_u64-2.ensures.ok) c.in_ok-put_u32.ensures.ok) c.in_ok-put_u32-2.ensures.ok) c.in_ok-extend_from_slice.ensures.items);
      err = tt;
    }

pub returns-in_err-put_u64 : goal.returns-in_err-put_u64
returns-in_err-put_u64 g c =
    let failed = c.from_residual.ensures in
    record { ok = IfOk-from_err _ _ failed.0; fits = IfOk-from_err _ _ failed.0; front = front c.args.buf.now.ok.0 (none c.in_err-put_u64.ensures.unchanged); err = search rules }

pub returns-in_err-put_u64-2 : goal.returns-in_err-put_u64-2
returns-in_err-put_u64-2 g c =
    let failed = c.from_residual-in_err-put_u64-2.ensures in
    record { ok = IfOk-from_err _ _ failed.0; fits = IfOk-from_err _ _ failed.0; front = front c.args.buf.now.ok.0 (same (first _ c.in_ok-put_u64.ensures.ok) c.in_err-put_u64-2.ensures.unchanged); err = search rules }

pub returns-in_err-put_u32 : goal.returns-in_err-put_u32
returns-in_err-put_u32 g c =
    let failed = c.from_residual-in_err-put_u32.ensures in
    record { ok = IfOk-from_err _ _ failed.0; fits = IfOk-from_err _ _ failed.0; front = front c.args.buf.now.ok.0 (same (then _ (first _ c.in_ok-put_u64.ensures.ok) c.in_ok-put_u64-2.ensures.ok) c.in_err-put_u32.ensures.unchanged); err = search rules }

pub returns-in_err-put_u32-2 : goal.returns-in_err-put_u32-2
returns-in_err-put_u32-2 g c =
    let failed = c.from_residual-in_err-put_u32-2.ensures in
    record { ok = IfOk-from_err _ _ failed.0; fits = IfOk-from_err _ _ failed.0; front = front c.args.buf.now.ok.0 (same (then _ (then _ (first _ c.in_ok-put_u64.ensures.ok) c.in_ok-put_u64-2.ensures.ok) c.in_ok-put_u32.ensures.ok) c.in_err-put_u32-2.ensures.unchanged); err = search rules }

pub returns-in_err-extend_from_slice : goal.returns-in_err-extend_from_slice
returns-in_err-extend_from_slice g c =
    let failed = c.from_residual-in_err-extend_from_slice.ensures in
    record { ok = IfOk-from_err _ _ failed.0; fits = IfOk-from_err _ _ failed.0; front = front c.args.buf.now.ok.0 (same (then _ (then _ (then _ (first _ c.in_ok-put_u64.ensures.ok) c.in_ok-put_u64-2.ensures.ok) c.in_ok-put_u32.ensures.ok) c.in_ok-put_u32-2.ensures.ok) c.in_err-extend_from_slice.ensures.items); err = search rules }
