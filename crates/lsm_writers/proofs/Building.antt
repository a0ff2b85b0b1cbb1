-- Building the filter of some hashes, one after another.
use Rattle.std.proofs.Common.{◌≡◌, sym, ap, ◌∙◌, subst, ℕ, List, [], ◌∷◌, ◌++◌, length}
use Rattle.std.specs.Prelude.{map}
use Rattle.std.proofs.lemmas.List.{length-map, length-replicate}
use Rattle.sst_blocks.specs.filter.KeyHash.{hash_of}
use Rattle.sst_blocks.specs.filter.Filter.{BloomFilter, Gains, IsFilterOf}
use Rattle.sst_blocks.specs.filter.Policy.{empty_filter, probe_count, size_for, tenths_of}
use Rattle.sst_blocks.specs.declared.filter.policy.BloomConstructionPolicy.{BloomConstructionPolicy}
use Rattle.sst_blocks.specs.table.Filters.{IsFilterFor}

-- a filter as large as for all hashes, with the bits of those so far
pub record Building (policy : BloomConstructionPolicy) (n : ℕ) (hashes : List ℕ)
    (f : BloomFilter) : Type 0 where
  pub probes : f.probe_count ≡ probe_count (tenths_of policy)
  pub size : length f.bits ≡ size_for (tenths_of policy) n
  pub set : IsFilterOf f hashes

pub building_start : (policy : BloomConstructionPolicy) (n : ℕ) (f : BloomFilter)
    → f ≡ empty_filter (tenths_of policy) n → IsFilterOf f [] → Building policy n [] f
building_start policy n f empty none = record {
  probes = ap (λ (x : BloomFilter). x.probe_count) empty;
  size = ap (λ (x : BloomFilter). length x.bits) empty
      ∙ length-replicate (size_for (tenths_of policy) n) 0;
  set = none;
}

pub building_more : (policy : BloomConstructionPolicy) (n h : ℕ) (hashes more : List ℕ)
    (f g : BloomFilter) → Building policy n hashes f → Gains f h g →
    (IsFilterOf f hashes → IsFilterOf g (hashes ++ h ∷ [])) → more ≡ hashes ++ h ∷ []
    → Building policy n more g
building_more policy n h hashes more f g b gains step e = record {
  probes = gains.probe_count_is ∙ b.probes;
  size = gains.same_length ∙ b.size;
  set = subst (λ hs. IsFilterOf g hs) (sym e) (step b.set);
}

pub built : (policy : BloomConstructionPolicy) (n : ℕ) (some hashes : List ℕ) (f : BloomFilter)
    → Building policy n some f → some ≡ hashes → n ≡ length hashes →
    (keys : List (List ℕ)) → hashes ≡ map hash_of keys → IsFilterFor policy keys f
built policy n some hashes f b all count keys e =
    let len : length hashes ≡ length keys = ap length e ∙ length-map keys hash_of in
    record {
      probes = b.probes;
      size = b.size ∙ ap (λ (m : ℕ). size_for (tenths_of policy) m) (count ∙ len);
      hashes = subst (λ hs. IsFilterOf f hs) (all ∙ e) b.set;
    }
