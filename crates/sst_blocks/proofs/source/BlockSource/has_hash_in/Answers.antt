use Rattle.std.proofs.Common.{ℕ, List, slice_range, sym, ap, ◌∙◌}
use Rattle.std.specs.Prelude.{Ok}
use Rattle.sst_blocks.specs.filter.Filter.{admits, filter_in}
use Rattle.sst_blocks.specs.Sections.{body_of}
use Rattle.sst_blocks.specs.Asked.{maybe_in}
use Rattle.sst_blocks.specs.declared.block_type.BlockType.TheVariants.{Filter}
use Rattle.sst_blocks.proofs.Asked.{asked_right}
use Rattle.sst_blocks.proofs.source.BlockSource.has_hash_in.Goals as goal

pub returns : goal.returns
returns g c =
    let s = c.args.payload.now in
    let part = ap (λ (b : List ℕ). admits (filter_in (slice_range b s.start s.end)) c.args.hash) c.body.ensures.body in
    let returned = asked_right (maybe_in c.args.hash) s.header.version s.header.checksum Filter (slice_range (body_of c.args.self.now) s.start s.end) c.requires.valid.sum c.requires.valid.room in
    record { returned = ap (λ x. Ok x) (c.contains_hash.ensures.admits ∙ part) ∙ sym returned }
