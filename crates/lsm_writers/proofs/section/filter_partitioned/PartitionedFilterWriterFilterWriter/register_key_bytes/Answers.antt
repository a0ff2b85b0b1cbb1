-- The key is greater than the last keys of the parts.
use Rattle.std.proofs.Common.{◌++◌, ◌∷◌, [], ap, sym, subst, ◌∙◌}
use Rattle.lsm_writers.specs.section.Held.{CutParts, end_keys}
use Rattle.lsm_writers.specs.section.Rising.{AreRising}
use Rattle.lsm_writers.proofs.Holding.{ends_and_key}
use Rattle.lsm_writers.proofs.section.filter_partitioned.PartitionedFilterWriterFilterWriter.register_key_bytes.Goals as goal

pub push_key-requires : goal.push_key-requires
push_key-requires g c =
    let rises = c.requires (sym (ap (λ (w : CutParts). w.failed) c.self.view_is) ∙ c.if-self.false) in
    subst (λ ps. AreRising (end_keys ps ++ c.args.key.now ∷ [])) (sym (ap (λ (w : CutParts). w.parts) c.self.view_is))
    (ends_and_key c.args.self.now rises.given c.args.key.now rises.held rises.rising)
