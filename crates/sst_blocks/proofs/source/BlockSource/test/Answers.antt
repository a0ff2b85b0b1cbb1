use Rattle.std.proofs.Common.{◌≡◌, ℕ, List, true, false, slice_range, refl, sym, ap, ◌∙◌}
use Rattle.sst_blocks.specs.Block.{has_room}
use Rattle.sst_blocks.specs.Placed.{payload_in}
use Rattle.sst_blocks.specs.Sections.{body_of}
use Rattle.sst_blocks.proofs.LoadLemmas.{checksum_wrong}
use Rattle.sst_blocks.proofs.MarkLemmas.{items_there, sum_there}
use Rattle.sst_blocks.proofs.Room.{grammar_room, room_wrong}
use Rattle.sst_blocks.proofs.source.BlockSource.test.Goals as goal

pub returns-then-payload-clause-valid : goal.returns-then-payload-clause-valid
returns-then-payload-clause-valid g c =
    let p = c.args.payload.now in
    let bytes : List ℕ = c.args.self.now in
    let cached = c.requires.verified c.if-payload.true in
    let items = items_there bytes c.args.kind p c.requires cached.1 in
    record {
      sum = sum_there bytes p c.requires.headed cached.0;
      room = grammar_room p.header.version c.args.kind (payload_in (body_of bytes) p) items;
      verified = λ _. items;
    }

pub returns-then-not-has_sum-clause-returned : goal.returns-then-not-has_sum-clause-returned
returns-then-not-has_sum-clause-returned g c =
    let p = c.args.payload.now in
    checksum_wrong p.header.version p.header.checksum c.args.kind (payload_in (body_of c.args.self.now) p) (λ same. let wrong : false ≡ true = c.if-not-has_sum.ensures.1 same in absurd cc)

pub returns-then-not-has_room-clause-returned : goal.returns-then-not-has_room-clause-returned
returns-then-not-has_room-clause-returned g c =
    let p = c.args.payload.now in
    let part = ap (λ (bytes : List ℕ). has_room p.header.version c.args.kind (slice_range bytes p.start p.end)) c.body.ensures.body in
    room_wrong p.header.version p.header.checksum c.args.kind (payload_in (body_of c.args.self.now) p) (c.if-not-has_sum.ensures.0 refl) (sym (c.if-not-has_room.ensures ∙ part))

pub returns-clause-valid : goal.returns-clause-valid
returns-clause-valid g c =
    let p = c.args.payload.now in
    let part = ap (λ (bytes : List ℕ). has_room p.header.version c.args.kind (slice_range bytes p.start p.end)) c.body.ensures.body in
    record {
      sum = c.if-not-has_sum.ensures.0 refl;
      room = sym (c.if-not-has_room.ensures ∙ part);
      verified = λ is. let wrong : false ≡ true = sym c.if-payload.false ∙ is in absurd cc;
    }
