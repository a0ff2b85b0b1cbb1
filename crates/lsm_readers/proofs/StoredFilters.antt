-- What a filter that has some keys answers, whatever of it stays loaded.
use Rattle.std.proofs.Common.{◌≡◌, ℕ, ◌-◌, ◌^◌, Bool, true, false, cond, List, [], ◌∷◌, refl, sym}
use Rattle.std.proofs.Common.{ap, subst, ◌∙◌}
use Rattle.std.specs.Prelude.{Option, Some, None, find, is_none, ◌&&◌, ◌||◌, Result, Ok, Err}
use Rattle.std.specs.List.{AllByRecursion}
use Rattle.std.specs.Option.{option_map}
use Rattle.sst_entries.specs.declared.error.Error.{Error}
use Rattle.sst_entries.specs.Key.{same_key}
use Rattle.sst_entries.proofs.Booleans.{apart, is_false}
use Rattle.sst_entries.proofs.KeyLemmas.{same_is, same_itself}
use Rattle.sst_blocks.specs.filter.Filter.{BloomFilter, admits, filter_in}
use Rattle.sst_blocks.specs.filter.KeyHash.{hash_of}
use Rattle.sst_blocks.specs.declared.block_type.BlockType.TheVariants.{Filter}
use Rattle.sst_blocks.specs.Block.{Loaded, load_result}
use Rattle.sst_blocks.specs.Handle.{Handle}
use Rattle.sst_blocks.specs.Handles.{reaches}
use Rattle.sst_blocks.specs.Place.{Place, place_of}
use Rattle.lsm_readers.specs.point.Answer.{block_admits, filter_admits, part_admits}
use Rattle.lsm_readers.specs.point.Parts.{filter_result, tops_result}
use Rattle.lsm_readers.specs.point.Read.{◌>>=◌}
use Rattle.lsm_readers.specs.Stored.{Admits, FilterHas, FiltersLoad, LoadsAs}
use Rattle.lsm_readers.proofs.FileFilters.{Asked}
use Rattle.lsm_readers.proofs.FilterReads.{has_key, in_front, in_rest}
use Rattle.lsm_readers.proofs.Recovered.{ok_same}

-- ---- keys of a list

-- what holds of each of some keys holds of one of them
of_key : (key : List ℕ) (P : List ℕ → Type 0) (keys : List (List ℕ)) → AllByRecursion P keys
    → has_key key keys ≡ true → P key
of_key key P [] all has = absurd cc
of_key key P (k ∷ ks) all has =
    elim (same_key k key) as (λ b. same_key k key ≡ b → P key) [
      | true ↦ λ same. subst P (same_is k key same) all.0
      | false ↦ λ other. of_key key P ks all.1
          (sym (ap (λ (b : Bool). b || has_key key ks) other) ∙ has)
    ] refl

-- what holds of each key that is one of some keys holds of all of them
pub all_keys : (P : List ℕ → Type 0) (keys ks : List (List ℕ))
    → ((key : List ℕ) → has_key key keys ≡ true → P key)
    → ((key : List ℕ) → has_key key ks ≡ true → has_key key keys ≡ true) → AllByRecursion P ks
all_keys P keys [] each within = tt
all_keys P keys (k ∷ ks) each within = (
  each k (within k (in_front k k ks (same_itself k))),
  all_keys P keys ks each (λ key has. within key (in_rest key k ks has)),
)

-- ---- an answer

-- a read of a filter tells an answer
record Answers (returned : Result Bool Error) : Type 0 where
  answer : Bool
  is : returned ≡ Ok answer

module _ (body key : List ℕ) where
  block_answers : (place : Place) → LoadsAs body place Filter
      → Answers (block_admits body (hash_of key) place).returned
  block_answers place l = record {
    answer = admits (filter_in (l.block).payload) (hash_of key);
    is = ap (λ (r : Result Loaded Error). r >>= λ b. Ok (admits (filter_in b.payload)
        (hash_of key))) l.loads;
  }

  by_first : (top : Handle) (o : Option Handle) (b : Bool) → LoadsAs body (place_of top) Filter
      → Answers (part_admits body (hash_of key) (option_map place_of o)).returned
      → Answers (part_admits body (hash_of key) (option_map place_of (cond b (Some top) o))).returned
  by_first top o true l more = block_answers (place_of top) l
  by_first top o false l more = more

  part_answers : (p : Handle → Bool) (tops : List Handle)
      → AllByRecursion (λ (top : Handle). LoadsAs body (place_of top) Filter) tops
      → Answers (part_admits body (hash_of key) (option_map place_of (find p tops))).returned
  part_answers p [] loads = record { answer = false; is = refl }
  part_answers p (top ∷ tops) loads = by_first top (find p tops) (p top) loads.0
      (part_answers p tops loads.1)

  -- each read loads what it asks
  filter_answers : (tops : Option (List Handle)) (place : Option Place)
      → FiltersLoad body tops place → Answers (filter_admits body tops None place key
      (hash_of key)).returned
  filter_answers (Some tops) place loads = part_answers (reaches key (2 ^ 64 - 1)) tops loads
  filter_answers None (Some place) loads = block_answers place loads
  filter_answers None None loads = record { answer = true; is = refl }

  -- a filter that stays loaded answers as its block does
  by_load : (f : BloomFilter) (r : Result Loaded Error)
      → (r >>= λ b. Ok (Some (filter_in b.payload))) ≡ Ok (Some f)
      → (r >>= λ b. Ok (admits (filter_in b.payload) (hash_of key))) ≡ Ok (admits f (hash_of key))
  by_load f (Ok b) returned =
      let some : Some (filter_in b.payload) ≡ Some f = cc in
      let same : filter_in b.payload ≡ f = cc in
      ap (λ (x : BloomFilter). Ok (admits x (hash_of key))) same
  by_load f (Err e) returned = absurd cc

  pinned_same : (tops : Option (List Handle)) (filter : Option BloomFilter)
      (place : Option Place) (pin : Bool) → filter_result body (cond pin place None) ≡ Ok filter
      → (filter_admits body tops filter place key (hash_of key)).returned
      ≡ (filter_admits body tops None place key (hash_of key)).returned
  pinned_same (Some tops) filter place pin returned = refl
  pinned_same None None place pin returned = refl
  pinned_same None (Some f) place false returned = absurd cc
  pinned_same None (Some f) None true returned = absurd cc
  pinned_same None (Some f) (Some p) true returned =
      sym (by_load f (load_result body p.offset p.size Filter) returned)

module _ (body : List ℕ) (filter_tli place : Option Place) (keys : List (List ℕ))
    (has : FilterHas body filter_tli place keys) where
  -- it answers, and a no says that the key is none of the keys
  pub filter_asked : (tops : Option (List Handle)) (filter : Option BloomFilter) (pin : Bool)
      → tops_result body filter_tli ≡ Ok tops → filter_result body (cond pin place None) ≡ Ok filter
      → (key : List ℕ)
      → Asked (filter_admits body tops filter place key (hash_of key)).returned keys key
  filter_asked tops filter pin returned pinned key =
      let same : tops ≡ has.tops = ok_same (tops_result body filter_tli) tops has.tops returned has.returned
      in
      let unpinned = filter_answers body key has.tops place has.loads in
      record {
        answer = unpinned.answer;
        reported_is = pinned_same body key tops filter place pin pinned
            ∙ ap (λ (ts : Option (List Handle)). (filter_admits body ts None place key
            (hash_of key)).returned) same ∙ unpinned.is;
        no = λ denied. is_false (has_key key keys) (λ there.
            let yes = of_key key (Admits body has.tops place) keys has.admits there in
            apart unpinned.answer (ok_same (filter_admits body has.tops None place key
            (hash_of key)).returned unpinned.answer true unpinned.is yes) denied);
      }

loads_opens : (body : List ℕ) (place : Option Place) → FiltersLoad body None place
    → (filter : Option BloomFilter) × (filter_result body place ≡ Ok filter)
loads_opens body None loads = (None, refl)
loads_opens body (Some p) loads = (
  Some (filter_in (loads.block).payload),
  ap (λ (r : Result Loaded Error). r >>= λ b. Ok (Some (filter_in b.payload))) loads.loads,
)

-- and it loads where it is to stay
pub filter_opens : (body : List ℕ) (filter_tli place : Option Place) (keys : List (List ℕ))
    (pin : Bool) → FilterHas body filter_tli place keys → (filter : Option BloomFilter)
    × (filter_result body (cond (pin && is_none filter_tli) place None) ≡ Ok filter)
filter_opens body filter_tli place keys false has = (None, refl)
filter_opens body (Some tli) place keys true has = (None, refl)
filter_opens body None place keys true has =
    let none : has.tops ≡ None = ok_same (tops_result body None) has.tops None has.returned refl in
    loads_opens body place (subst (λ (ts : Option (List Handle)). FiltersLoad body ts place) none
    has.loads)
