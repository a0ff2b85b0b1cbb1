-- Where a head goes in the queue.
use Rattle.std.proofs.Common.{◌≡◌, true, List, length, map, sym, ◌∙◌, ap, subst, arith, rules}
use Rattle.std.specs.Prelude.{Option, Some, slice_get, ◌-◌, All}
use Rattle.std.specs.List.{insert}
use Rattle.std.proofs.lemmas.List.Sorted.{IsPartitionPoint-from_clause}
use Rattle.sst_entries.specs.Entry.{Entry}
use Rattle.lsm_sorted.specs.declared.lending_merger.Head.{Head}
use Rattle.lsm_sorted.specs.lending.Lent.{IsHead, IsQueue, sorts_before, is_queued, lent_of}
use Rattle.lsm_sorted.specs.lending.Lent.{source_of}
use Rattle.lsm_sorted.proofs.HeadLemmas.{heads_partitioned, head_belongs, head_ahead}
use Rattle.lsm_sorted.proofs.lending_merger.LendingMerger.index_of.Goals as goal

pub returns-in_default-clause-belongs : goal.returns-in_default-clause-belongs
returns-in_default-clause-belongs g c = record {
  keeps = λ queue some apart.
      let at = lent_of g.L.Lending.lent c.args.self.now.sources.items in
      let h = c.args.head in
      let hs = c.deref-in_default.result.now in
      let same : hs ≡ c.args.self.now.queue.items = c.deref-in_default.ensures.value in
      let passes = λ (k : Head). sorts_before (at h.source) h (at k.source) k in
      let heads : All (IsHead at) hs = subst (All (IsHead at)) (sym same) c.requires.heads in
      let order : IsQueue at (map source_of hs) = subst (λ (gs : List Head). IsQueue at (map source_of gs)) (sym same) queue in
      let free = ap (λ (gs : List Head). is_queued h.source (map source_of gs)) same ∙ apart in
      subst (λ (gs : List Head). IsQueue at (insert (map source_of gs) c.partition_point.result h.source)) same
      (head_belongs at h hs heads c.requires.head some order c.partition_point.result free
      (IsPartitionPoint-from_clause passes hs c.partition_point.result c.partition_point.ensures.partitioned
      (heads_partitioned at h hs heads c.requires.head some order)
      (λ a r q k. let own = c.requires.entry in search rules)));
}

pub returns-in-Some-clause-belongs : goal.returns-in-Some-clause-belongs
returns-in-Some-clause-belongs g c = record {
  keeps = λ queue some apart.
      let at = lent_of g.L.Lending.lent c.args.self.now.sources.items in
      let h = c.args.head in
      let hs = c.args.self.now.queue.items in
      let k = c.in-Some.field-0.now in
      let same : c.deref.result.now ≡ hs = c.deref.ensures.value in
      let last : slice_get hs (length hs - 1) ≡ Some k =
      subst (λ (gs : List Head). slice_get gs (length gs - 1) ≡ Some k) same
      (sym c.in-Some.ensures.value) in
      let first : sorts_before (at h.source) h (at k.source) k ≡ true =
      subst (λ (o : Option Entry). sorts_before o h (at k.source) k ≡ true) (sym c.requires.entry)
      (sym c.is_ahead.ensures ∙ c.if-is_ahead.true) in
      let long : length c.deref.result.now ≡ length hs = ap length same in
      head_ahead at h hs c.requires.heads c.requires.head some queue c.len.result k apart
      (omega (arith, c.len.ensures, c.deref.ensures.len, long)) last first;
}
