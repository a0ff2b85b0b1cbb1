-- What waits is the last part.
use Rattle.std.proofs.Common.{ap, sym, ◌∙◌}
use Rattle.std.proofs.lemmas.List.{append-nil}
use Rattle.sst_blocks.proofs.Faults.{on_ok}
use Rattle.sst_entries.proofs.StreamLemmas.{on_err}
use Rattle.lsm_writers.specs.section.Held.{as_list, CutParts, end_keys}
use Rattle.lsm_writers.proofs.Holding.{holds_all, rest_cuts, rest_fault_for, rest_fault_none}
use Rattle.lsm_writers.proofs.Holding.{some_is_not_none}
use Rattle.lsm_writers.proofs.RisingLaws.{rising_front}
use Rattle.lsm_writers.proofs.section.filter_partitioned.PartitionedFilterWriter.spill_rest.Goals as goal

pub invariant_of-self-in-Some : goal.invariant_of-self-in-Some
invariant_of-self-in-Some g c = rw (c.take.ensures.after, append-nil (end_keys c.self.inside.partitions.items)) (rising_front _ (as_list c.self.inside.last_key) c.self.invariant)

pub returns-in-None-clause-ok : goal.returns-in-None-clause-ok
returns-in-None-clause-ok g c = λ keys h.
    holds_all c.args.self.now _ keys h (sym (ap (λ (w : CutParts). w.last) c.self.view_is) ∙ sym c.take.ensures.value ∙ c.in-None.is)
    (ap (λ (w : CutParts). w.parts) c.self.view_is) (ap (λ (w : CutParts). w.bound) c.self.view_is)

pub returns-in-Some-clause-ok : goal.returns-in-Some-clause-ok
returns-in-Some-clause-ok g c = on_ok _ _ c.spill_filter_partition.result c.spill_filter_partition.ensures.ok
    (λ cuts keys h.
    let policy = ap (λ (w : CutParts). w.policy) c.self.view_is in
    rest_cuts c.args.self.now _ c.spill_filter_partition.new.self keys c.in-Some.end_key h
    (sym (ap (λ (w : CutParts). w.last) c.self.view_is) ∙ sym c.take.ensures.value ∙ c.in-Some.is)
    policy (ap (λ (w : CutParts). w.parts) c.self.view_is) (ap (λ (w : CutParts). w.bound) c.self.view_is) (ap (λ (w : CutParts). w.hashes) c.self.view_is)
    (c.spill_filter_partition.ensures.policy ∙ policy) cuts)

pub returns-in-None-clause-refused : goal.returns-in-None-clause-refused
returns-in-None-clause-refused g c = λ keys h.
    rest_fault_none c.args.self.now keys h (sym (ap (λ (w : CutParts). w.last) c.self.view_is) ∙ sym c.take.ensures.value ∙ c.in-None.is)

pub returns-in-Some-clause-refused : goal.returns-in-Some-clause-refused
returns-in-Some-clause-refused g c = λ keys h.
    rest_fault_for c.spill_filter_partition.result c.args.self.now keys c.in-Some.end_key c.self.inside.bloom_policy c.self.inside.bloom_hash_buffer.items h
    (sym (ap (λ (w : CutParts). w.last) c.self.view_is) ∙ sym c.take.ensures.value ∙ c.in-Some.is)
    (ap (λ (w : CutParts). w.policy) c.self.view_is) (ap (λ (w : CutParts). w.hashes) c.self.view_is) c.spill_filter_partition.ensures.refused

pub returns-in-Some-clause-idle : goal.returns-in-Some-clause-idle
returns-in-Some-clause-idle g c = on_err c.spill_filter_partition.result
    (λ none. some_is_not_none c.args.self.now.last c.in-Some.end_key (sym (ap (λ (w : CutParts). w.last) c.self.view_is) ∙ sym c.take.ensures.value ∙ c.in-Some.is) none)
