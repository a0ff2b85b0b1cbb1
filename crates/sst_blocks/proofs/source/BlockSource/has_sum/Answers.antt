use Rattle.std.proofs.Common.{List, ℕ, ap, refl, slice_range, sym, ◌∙◌}
use Rattle.sst_blocks.specs.Fnv.{fnv1a}
use Rattle.sst_blocks.proofs.MarkLemmas.{sum_there, there_sum}
use Rattle.sst_blocks.proofs.source.BlockSource.has_sum.Goals as goal

pub returns-then-is_cached : goal.returns-then-is_cached
returns-then-is_cached g c =
    (λ _. sum_there c.args.self.now c.args.payload.now c.requires (c.if-is_cached.ensures refl), λ _. refl)

pub cache-requires : goal.cache-requires
cache-requires g c =
    let p = c.args.payload.now in
    let part = ap (λ (b : List ℕ). fnv1a (slice_range b p.start p.end)) c.body.ensures.body in
    let hash = c.has_hash-same.ensures.0 c.if-same.true in
    there_sum c.args.self.now p c.requires (sym part ∙ hash)
