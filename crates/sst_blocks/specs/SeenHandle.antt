-- A borrowed handle as a handle.
use Rattle.sst_blocks.specs.Handle.{Handle}
use Rattle.sst_blocks.specs.declared.index_block.read.HandleRef.{HandleRef}

abbrev pub handle_of_ref : HandleRef → Handle
handle_of_ref h =
    record { end_key = h.end_key.now; seqno = h.seqno; offset = h.offset; size = h.size }
