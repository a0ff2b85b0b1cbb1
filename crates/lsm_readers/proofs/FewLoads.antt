-- A point read loads few blocks.
use Rattle.std.proofs.Common.{◌≡◌, ℕ, zero, suc, ◌+◌, ◌-◌, ◌≤◌, Bool, true, false, ◌^◌, cond, ltb}
use Rattle.std.proofs.Common.{List, [], ◌∷◌, ◌++◌, take, refl, sym, ap, subst, ◌∙◌, arith, inl, inr}
use Rattle.std.specs.Prelude.{◌⊎◌, Option, Some, None, Result, Ok, Err}
use Rattle.sst_entries.specs.declared.error.Error.{Error}
use Rattle.sst_blocks.specs.declared.block_type.BlockType.{BlockType}
use Rattle.sst_blocks.specs.declared.block_type.BlockType.TheVariants.{Data, Index, Filter, Meta}
use Rattle.sst_blocks.specs.declared.opened.Opened.{Opened}
use Rattle.sst_blocks.specs.Handle.{Handle}
use Rattle.sst_blocks.specs.Opened.{with_load}
use Rattle.sst_blocks.specs.Place.{Place}
use Rattle.sst_blocks.specs.filter.Filter.{BloomFilter}
use Rattle.sst_blocks.specs.filter.KeyHash.{hash_of}
use Rattle.lsm_readers.specs.point.Answer.{LoadsFew, admission, admitted_handle, answer}
use Rattle.lsm_readers.specs.point.Answer.{filter_admits}
use Rattle.lsm_readers.specs.point.Answer.{handle_for, match_in, most_filter_loads, part_admits}
use Rattle.lsm_readers.specs.point.IndexKinds.{most_index_loads, place_in}
use Rattle.lsm_readers.specs.point.Parts.{Parts}
use Rattle.lsm_readers.specs.point.Read.{Opens, Read, known, loads_behind, opened_by}
use Rattle.lsm_readers.proofs.IndexKinds.{index_up}

-- ---- how often a kind is loaded

abbrev is_same : BlockType → BlockType → Bool
is_same Data Data = true
is_same Index Index = true
is_same Filter Filter = true
is_same Meta Meta = true
is_same k x = false

abbrev added : BlockType → BlockType → ℕ
added k x = cond (is_same k x) 1 0

abbrev count : BlockType → List BlockType → ℕ
count k [] = 0
count k (x ∷ xs) = added k x + count k xs

abbrev loads_of : BlockType → Opened → ℕ
loads_of Data o = o.data_loads
loads_of Index o = o.index_loads
loads_of Filter o = o.filter_loads
loads_of Meta o = o.meta_loads

one_step : (k x : BlockType) (o : Opened) → loads_of k (with_load x o) ≤ loads_of k o + added k x
one_step Data Data o = omega arith
one_step Data Index o = omega arith
one_step Data Filter o = omega arith
one_step Data Meta o = omega arith
one_step Index Data o = omega arith
one_step Index Index o = omega arith
one_step Index Filter o = omega arith
one_step Index Meta o = omega arith
one_step Filter Data o = omega arith
one_step Filter Index o = omega arith
one_step Filter Filter o = omega arith
one_step Filter Meta o = omega arith
one_step Meta Data o = omega arith
one_step Meta Index o = omega arith
one_step Meta Filter o = omega arith
one_step Meta Meta o = omega arith

opened_count : (k : BlockType) (ks : List BlockType) (o : Opened)
    → loads_of k (opened_by ks o) ≤ loads_of k o + count k ks
opened_count k [] o = omega arith
opened_count k (x ∷ xs) o = omega (arith, opened_count k xs (with_load x o), one_step k x o)

meta_step : (x : BlockType) (o : Opened) → added Meta x ≡ 0
    → (with_load x o).meta_loads ≡ o.meta_loads
meta_step Data o none = refl
meta_step Index o none = refl
meta_step Filter o none = refl
meta_step Meta o none = absurd (omega (arith, none))

meta_stays : (ks : List BlockType) (o : Opened) → count Meta ks ≡ 0
    → (opened_by ks o).meta_loads ≡ o.meta_loads
meta_stays [] o none = refl
meta_stays (x ∷ xs) o none = meta_stays xs (with_load x o) (omega (arith, none))
    ∙ meta_step x o (omega (arith, none))

take_count : (k : BlockType) (n : ℕ) (ks : List BlockType) → count k (take n ks) ≤ count k ks
take_count k zero ks = omega arith
take_count k (suc n) [] = omega arith
take_count k (suc n) (x ∷ xs) = omega (arith, take_count k n xs)

append_count : (k : BlockType) (ks ls : List BlockType)
    → count k (ks ++ ls) ≡ count k ks + count k ls
append_count k [] ls = omega arith
append_count k (x ∷ xs) ls = omega (arith, append_count k xs ls)

-- ---- at most so many loads, each of a kind

abbrev UpTo : BlockType → ℕ → List BlockType → Type 0
UpTo kind n ks = (ks ≡ []) ⊎ ((ks ≡ kind ∷ []) × (n ≡ 1))

abbrev most : BlockType → BlockType → ℕ → ℕ
most k kind n = cond (is_same k kind) n 0

just_one : (b : Bool) (n : ℕ) → n ≡ 1 → cond b 1 0 + 0 ≤ cond b n 0
just_one true n one = omega (arith, one)
just_one false n one = omega arith

up_count : (k kind : BlockType) (n : ℕ) (ks : List BlockType) → UpTo kind n ks
    → count k ks ≤ most k kind n
up_count k kind n ks (inl none) = subst (λ (l : List BlockType). count k l ≤ most k kind n)
    (sym none) (omega arith)
up_count k kind n ks (inr one) = subst (λ (l : List BlockType). count k l ≤ most k kind n)
    (sym one.0) (just_one (is_same k kind) n one.1)

behind_up : {X Y : Type 0} (kind : BlockType) (n : ℕ) (r : Result X Error) (next : X → Read Y)
    → ((x : X) → UpTo kind n (next x).loads) → UpTo kind n (loads_behind r next)
behind_up kind n (Ok x) next up = up x
behind_up kind n (Err e) next up = inl refl

-- ---- the three steps of a point read

part_up : (body : List ℕ) (hash : ℕ) (place : Option Place)
    → UpTo Filter 1 (part_admits body hash place).loads
part_up body hash None = inl refl
part_up body hash (Some place) = inr (refl, refl)

filter_up : (body : List ℕ) (tops : Option (List Handle)) (filter : Option BloomFilter)
    (place : Option Place) (key : List ℕ) (hash : ℕ)
    → UpTo Filter (most_filter_loads tops filter place)
    (filter_admits body tops filter place key hash).loads
filter_up body (Some tops) filter place key hash =
    part_up body hash (place_in tops key (2 ^ 64 - 1))
filter_up body None (Some filter) place key hash = inl refl
filter_up body None None (Some place) key hash = inr (refl, refl)
filter_up body None None None key hash = inl refl

abbrev filter_most : Parts → ℕ
filter_most parts = most_filter_loads parts.pinned.filter_tops parts.pinned.filter
    parts.regions.filter

low_up : (body : List ℕ) (parts : Parts) (key : List ℕ) (above : Bool)
    → UpTo Filter (filter_most parts) (cond above
    (filter_admits body parts.pinned.filter_tops parts.pinned.filter parts.regions.filter key
    (hash_of key)) (known false)).loads
low_up body parts key true = filter_up body parts.pinned.filter_tops parts.pinned.filter
    parts.regions.filter key (hash_of key)
low_up body parts key false = inl refl

handle_up : (body : List ℕ) (parts : Parts) (key : List ℕ) (bound : ℕ) (admitted : Bool)
    → UpTo Index (most_index_loads parts.pinned.index)
    (handle_for body parts key bound admitted).loads
handle_up body parts key bound false = inl refl
handle_up body parts key bound true = index_up body parts.pinned.index parts.regions.tli key bound

match_up : (body : List ℕ) (g : ℕ) (key : List ℕ) (bound : ℕ) (place : Option Place)
    → UpTo Data 1 (match_in body g key bound place).loads
match_up body g key bound None = inl refl
match_up body g key bound (Some place) = inr (refl, refl)

-- ---- together

module _ (parts : Parts) (fs is ds : List BlockType) (n : ℕ) (old new : Opened)
    (filters : UpTo Filter (filter_most parts) fs)
    (indexes : UpTo Index (most_index_loads parts.pinned.index) is) (datas : UpTo Data 1 ds)
    (counts : new ≡ opened_by (take n ((fs ++ is) ++ ds)) old) where
  abbrev made : List BlockType
  made = take n ((fs ++ is) ++ ds)

  sums : (k : BlockType) → count k made ≤ most k Filter (filter_most parts)
      + most k Index (most_index_loads parts.pinned.index) + most k Data 1
  sums k = omega (
    arith,
    take_count k n ((fs ++ is) ++ ds),
    append_count k
        (fs ++ is) ds,
    append_count k fs is,
    up_count k Filter
        (filter_most parts) fs filters,
    up_count k Index
        (most_index_loads parts.pinned.index) is indexes,
    up_count k Data 1 ds datas,
  )

  within : (k : BlockType) → loads_of k new ≤ loads_of k old
      + (most k Filter (filter_most parts) + most k Index (most_index_loads parts.pinned.index)
      + most k Data 1)
  within k = omega (arith, ap (loads_of k) counts, opened_count k made old, sums k)

  few : LoadsFew parts old new
  few = record {
    data_few = omega (arith, within Data);
    index_few = omega (arith, within Index);
    filter_few = omega (arith, within Filter);
    no_meta = ap (λ (o : Opened). o.meta_loads) counts
        ∙ meta_stays made old (omega (arith, sums Meta));
  }

-- whatever a call answered that made the loads of a point read
pub answer_few : {X : Type 0} (r : Result X Error) (body : List ℕ) (g : ℕ) (parts : Parts)
    (key : List ℕ) (bound : ℕ) (old new : Opened)
    → Opens r (answer body g parts key bound).loads old new → LoadsFew parts old new
unfolding answer
answer_few r body g parts key bound old new opens =
    let low = bound - g in
    let first = admission body parts key low in
    let handles = admitted_handle body parts key low in
    few parts first.loads (loads_behind first.returned (handle_for body parts key low))
    (loads_behind handles.returned (match_in body g key low)) opens.made old new
    (low_up body parts key (ltb parts.facts.seqno_min low))
    (behind_up Index (most_index_loads parts.pinned.index) first.returned
    (handle_for body parts key low) (handle_up body parts key low))
    (behind_up Data 1 handles.returned (match_in body g key low) (match_up body g key low))
    opens.counts
