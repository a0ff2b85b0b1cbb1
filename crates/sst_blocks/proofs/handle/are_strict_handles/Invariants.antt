use Rattle.std.proofs.Common.{◌≡◌, drop, map, None}
use Rattle.std.specs.Option.{option_map}
use Rattle.sst_blocks.specs.Handles.{end_of}
use Rattle.sst_entries.specs.Strict.{is_strict_after}
use Rattle.sst_blocks.proofs.handle.are_strict_handles.Given as goal

abbrev pub invariant-loop-handle : goal.invariant-loop-handle
invariant-loop-handle g l = is_strict_after None (map end_of l.handles)
    ≡ is_strict_after (option_map (λ h. end_of h.now) l.last)
    (map end_of (drop l.handle-index l.handles))
