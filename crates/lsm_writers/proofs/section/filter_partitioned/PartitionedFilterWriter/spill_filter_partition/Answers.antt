-- The part has its key and its filter.
use Rattle.std.proofs.Common.{◌≡◌, ◌∙◌, ◌+◌, ℕ, List, ◌++◌, length, ap, refl, sym, subst, arith}
use Rattle.sst_entries.proofs.Refusals.{faults_refusal}
use Rattle.sst_blocks.specs.Bounds.{capped}
use Rattle.sst_blocks.specs.filter.Policy.{bound_for, tenths_of}
use Rattle.lsm_writers.specs.section.Held.{as_list, CutPart, CutParts, end_keys}
use Rattle.lsm_writers.specs.section.Rising.{AreRising}
use Rattle.lsm_writers.proofs.Holding.{cut_rising}
use Rattle.lsm_writers.proofs.section.filter_partitioned.PartitionedFilterWriter.spill_filter_partition.Goals as goal

pub invariant_of-self : goal.invariant_of-self
invariant_of-self g c = subst (λ (ps : List CutPart). AreRising (end_keys ps ++ as_list c.self.inside.last_key)) (sym c.in_err-push.ensures.items) c.self.invariant

pub invariant_of-self-2 : goal.invariant_of-self-2
invariant_of-self-2 g c =
    cut_rising c.self.inside.partitions.items c.push.new.self.items c.args.self.now.parts _ _ c.take.new.self (ap (λ (w : CutParts). w.parts) c.self.view_is) refl
    c.in_ok-push.ensures.items c.take.ensures.after c.requires

pub returns-in_err-filter-clause-refused : goal.returns-in_err-filter-clause-refused
returns-in_err-filter-clause-refused g c =
    rw (← c.self.view_is) (faults_refusal c.from_residual.result c.in_err-filter.field-0.0 _ c.from_residual.ensures.1 c.in_err-filter.ensures.refused)

pub returns-in_err-push-clause-policy : goal.returns-in_err-push-clause-policy
returns-in_err-push-clause-policy g c = ap (λ (w : CutParts). w.policy) c.self.view_is

pub returns-in_err-push-clause-size : goal.returns-in_err-push-clause-size
returns-in_err-push-clause-size g c = ap (λ (w : CutParts). w.size) c.self.view_is

pub returns-in_err-push-clause-failed : goal.returns-in_err-push-clause-failed
returns-in_err-push-clause-failed g c = ap (λ (w : CutParts). w.failed) c.self.view_is

pub returns-clause-ok : goal.returns-clause-ok
returns-clause-ok g c =
    let i = c.self.inside in
    let counted : c.len-n.result ≡ length i.bloom_hash_buffer.items = omega (arith, c.len-n.ensures, i.bloom_hash_buffer.ok.0) in
    rw (← c.self.view_is) (record {
      filter = c.in_ok-filter.filter;
      is = c.in_ok-filter.ensures.filter;
      parts = c.in_ok-push.ensures.items;
      bound = c.saturating_add-self-inside.ensures ∙ ap (λ (n : ℕ). capped (i.relative_file_pos + n)) (c.filter_bound.ensures ∙ ap (bound_for (tenths_of i.bloom_policy)) counted);
      hashes = c.clear.ensures.items;
      last = c.take.ensures.after;
    })

pub returns-clause-policy : goal.returns-clause-policy
returns-clause-policy g c = ap (λ (w : CutParts). w.policy) c.self.view_is

pub returns-clause-size : goal.returns-clause-size
returns-clause-size g c = ap (λ (w : CutParts). w.size) c.self.view_is

pub returns-clause-failed : goal.returns-clause-failed
returns-clause-failed g c = ap (λ (w : CutParts). w.failed) c.self.view_is

pub returns-clause-refused : goal.returns-clause-refused
returns-clause-refused g c = rw (← c.self.view_is) c.in_ok-filter.ensures.refused
