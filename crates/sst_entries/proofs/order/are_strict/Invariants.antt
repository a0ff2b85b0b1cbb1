use Rattle.std.proofs.Common.{◌≡◌, take, true}
use Rattle.std.specs.Prelude.{None}
use Rattle.std.specs.Option.{option_map}
use Rattle.sst_entries.specs.Strict.{is_strict_after, last_of}
use Rattle.sst_entries.proofs.order.are_strict.Given as goal

abbrev pub invariant-loop-item : goal.invariant-loop-item
invariant-loop-item g l = record {
  strict : is_strict_after None (take l.item-index l.items) ≡ true;
  last_is : option_map (λ e. e.now) l.last ≡ last_of None (take l.item-index l.items);
}
