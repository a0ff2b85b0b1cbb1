-- The key fills a part, or waits.
use Rattle.std.proofs.Common.{◌++◌, ◌∷◌, [], ap, refl, ◌∙◌, List, ℕ}
use Rattle.sst_blocks.proofs.Faults.{on_ok}
use Rattle.std.proofs.lemmas.List.{append-nil}
use Rattle.lsm_writers.specs.section.Held.{as_list, CutParts, end_keys}
use Rattle.lsm_writers.proofs.RisingLaws.{rising_front}
use Rattle.lsm_writers.proofs.Holding.{pushed_cuts, pushed_waits, taken_key}
use Rattle.lsm_writers.proofs.section.filter_partitioned.PartitionedFilterWriter.push_key.Goals as goal

pub invariant_of-self-in-Some : goal.invariant_of-self-in-Some
invariant_of-self-in-Some g c = rw (c.take.ensures.after, append-nil (end_keys c.self.inside.partitions.items)) (rising_front _ (as_list c.self.inside.last_key) c.self.invariant)

pub returns-in-Some-clause-ok : goal.returns-in-Some-clause-ok
returns-in-Some-clause-ok g c = on_ok _ _ c.spill_filter_partition.result c.spill_filter_partition.ensures.ok
    (λ cuts keys h.
    pushed_cuts c.args.self.now _ c.spill_filter_partition.new.self keys c.args.key.now c.in-Some.end_key c.get_hash-hash.result c.is_full.result cuts h
    (taken_key _ _ _ c.in_ok-keep.ensures.ok c.take.ensures.value c.in-Some.is) c.get_hash-hash.ensures
    (ap (λ (w : CutParts). w.policy) c.self.view_is) (ap (λ (w : CutParts). w.size) c.self.view_is) (ap (λ (w : CutParts). w.parts) c.self.view_is)
    (ap (λ (w : CutParts). w.bound) c.self.view_is)
    (c.in_ok-push.ensures.items ∙ ap (λ (hs : List ℕ). hs ++ c.get_hash-hash.result ∷ []) (ap (λ (w : CutParts). w.hashes) c.self.view_is))
    c.is_full.ensures c.if-not-is_full.false)

pub returns-then-not-is_full-clause-ok : goal.returns-then-not-is_full-clause-ok
returns-then-not-is_full-clause-ok g c = λ keys h.
    let then : CutParts = record c.args.self.now {
      policy = c.self.inside.bloom_policy;
      size = c.self.inside.partition_size;
      parts = c.self.inside.partitions.items;
      bound = c.self.inside.relative_file_pos;
      hashes = c.push.new.self.items;
    } in
    pushed_waits c.args.self.now then _ keys c.args.key.now c.args.key.now c.get_hash-hash.result c.is_full.result h
    refl c.get_hash-hash.ensures
    (ap (λ (w : CutParts). w.policy) c.self.view_is) (ap (λ (w : CutParts). w.size) c.self.view_is) (ap (λ (w : CutParts). w.parts) c.self.view_is)
    (ap (λ (w : CutParts). w.bound) c.self.view_is)
    (c.in_ok-push.ensures.items ∙ ap (λ (hs : List ℕ). hs ++ c.get_hash-hash.result ∷ []) (ap (λ (w : CutParts). w.hashes) c.self.view_is))
    refl refl refl c.in_ok-keep.ensures.ok c.is_full.ensures c.if-not-is_full.true
