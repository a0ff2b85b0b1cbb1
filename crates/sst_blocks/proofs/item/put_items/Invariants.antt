use Rattle.std.proofs.Common.{◌≡◌, ◌++◌, length, take}
use Rattle.std.specs.List.{flat_map, AllByRecursion}
use Rattle.sst_blocks.specs.Number.{le4}
use Rattle.sst_blocks.proofs.item.put_items.Given as goal

abbrev pub invariant-loop-item : goal.invariant-loop-item
invariant-loop-item g l = record {
  written : l.buf.items ≡ l.fn.buf.items ++ (le4 (length l.items)
      ++ flat_map g.T.Item.bytes (take l.item-index l.items));
  fit : AllByRecursion g.T.Item.Fits (take l.item-index l.items);
}
