use Rattle.std.proofs.Common.{◌≡◌, ℕ, List, true, false, slice_range, refl, sym}
use Rattle.sst_blocks.proofs.LoadLemmas.{checksum_wrong}
use Rattle.sst_blocks.proofs.Room.{room_wrong}
use Rattle.sst_blocks.proofs.block.decode.check_payload.Goals as goal

pub returns-then-not-has_hash-clause-returned : goal.returns-then-not-has_hash-clause-returned
returns-then-not-has_hash-clause-returned c =
    let range = c.args.range.now in
    let payload : List ℕ = slice_range c.args.bytes.now range.start range.end in
    checksum_wrong range.header.version range.header.checksum c.args.kind payload (λ same. let wrong : false ≡ true = c.if-not-has_hash.ensures.1 same in absurd cc)

pub returns-then-not-has_room-clause-returned : goal.returns-then-not-has_room-clause-returned
returns-then-not-has_room-clause-returned c =
    let range = c.args.range.now in
    let payload : List ℕ = slice_range c.args.bytes.now range.start range.end in
    room_wrong range.header.version range.header.checksum c.args.kind payload (c.if-not-has_hash.ensures.0 refl) (sym c.if-not-has_room.ensures)
