-- The part of the keys that a filter's top level names: where a key is one of the keys, it is one
-- of this part.
use Rattle.std.proofs.Common.{◌≡◌, ℕ, ◌+◌, ◌-◌, ◌^◌, Bool, true, false, cond, List, [], ◌∷◌, ◌++◌}
use Rattle.std.proofs.Common.{length, map, refl, sym, ap, subst, ◌∙◌, length-append, arith}
use Rattle.std.specs.Prelude.{Option, Some, None, find, ◌&&◌, ◌||◌, nat_lt}
use Rattle.std.specs.List.{flat_map}
use Rattle.std.proofs.lemmas.List.{map-append}
use Rattle.std.proofs.Math.Bool.{or_assoc, or-false}
use Rattle.sst_blocks.specs.declared.version.TableVersion.{TableVersion}
use Rattle.sst_entries.specs.declared.value_type.ValueType.TheVariants.{Value}
use Rattle.sst_entries.specs.Entry.{Entry, entry}
use Rattle.sst_entries.specs.Key.{same_key, key_lt}
use Rattle.sst_entries.specs.Strict.{is_before, IsStrictAfter, last_of}
use Rattle.sst_entries.proofs.Booleans.{apart, is_false, or_right}
use Rattle.sst_entries.proofs.KeyLemmas.{le_itself, same_is}
use Rattle.sst_entries.proofs.OrderLemmas.{before_trans, lt_trans}
use Rattle.sst_entries.proofs.Strictness.{strict_front, strict_back}
use Rattle.sst_blocks.specs.declared.block_type.BlockType.TheVariants.{Filter}
use Rattle.sst_blocks.specs.Handle.{Handle}
use Rattle.sst_blocks.specs.Handles.{reaches}
use Rattle.sst_blocks.proofs.Reaching.{reaches_after}
use Rattle.sst_blocks.specs.declared.filter.policy.BloomConstructionPolicy.{BloomConstructionPolicy}
use Rattle.sst_blocks.specs.filter.Filter.{BloomFilter, payload_of}
use Rattle.sst_blocks.proofs.BlockLengths.{length-block}
use Rattle.sst_blocks.specs.table.Filters.{AreFiltersFor, IsFilterFor, filter_block}
use Rattle.sst_blocks.specs.table.Filters.{filter_partitions}
use Rattle.sst_blocks.specs.table.Filters.{last_of_keys}
use Rattle.sst_blocks.specs.table.Parts.{joined_parts}
use Rattle.sst_blocks.specs.table.Partitions.{tops_from}
use Rattle.sst_blocks.proofs.KeyLaws.{key_end, before_is}
use Rattle.lsm_readers.proofs.FilterReads.{has_key}
use Rattle.lsm_readers.proofs.PartReads.{AreSomeParts}

abbrev highest : ℕ
highest = 2 ^ 64 - 1

-- the key is not above the end
abbrev reached : List ℕ → List ℕ → Bool
reached key end = is_before (entry key [] highest Value) (key_end end)

abbrev ending : List ℕ → Handle
ending key = record { end_key = key; seqno = 0; offset = 0; size = 0 }

reached_is : (key end : List ℕ) → (key_lt key end || (same_key end key && nat_lt 0 highest))
    ≡ reached key end
reached_is key end = reaches_after key highest (ending end)

-- a key reaches itself
same_reached : (key k : List ℕ) → same_key k key ≡ true → reached key k ≡ true
same_reached key k h = sym (reached_is key k)
    ∙ or_right (key_lt key k) (same_key k key && nat_lt 0 highest) (rw h refl)

no_less : (key : List ℕ) → key_lt key key ≡ true → ⊥
no_less key h = apart (key_lt key key) h (le_itself key)

-- a key does not reach what is less
not_less : (key end : List ℕ) (a b : Bool) → key_lt key end ≡ a → same_key end key ≡ b
    → (key_lt key end || (same_key end key && nat_lt 0 highest)) ≡ true → key_lt end key ≡ true → ⊥
not_less key end true b ea eb h up = no_less key (lt_trans key end key ea up)
not_less key end false true ea eb h up = no_less key
    (subst (λ (x : List ℕ). key_lt x key ≡ true) (same_is end key eb) up)
not_less key end false false ea eb h up = let no : true ≡ false = sym h ∙ rw (ea, eb) refl in
    absurd cc

not_below : (key end k : List ℕ) → reached key end ≡ true
    → is_before (key_end end) (key_end k) ≡ true → same_key k key ≡ false
not_below key end k hit before =
    is_false (same_key k key) (λ same.
    let up : key_lt end key ≡ true = ap (λ (x : List ℕ). key_lt end x) (sym (same_is k key same))
    ∙ before_is end k ∙ before in
    not_less key end (key_lt key end) (same_key end key) refl refl (reached_is key end ∙ hit) up)

later : (x y : List ℕ) (ys : List (List ℕ)) → IsStrictAfter (Some (key_end x))
    (map key_end (y ∷ ys)) → is_before (key_end x) (key_end (last_of_keys (y ∷ ys))) ≡ true
unfolding IsStrictAfter
later x y [] strict = strict.0
later x y (z ∷ zs) strict = before_trans (key_end x) (key_end y)
    (key_end (last_of_keys (z ∷ zs))) strict.0 (later y z zs strict.1)

one_apart : (key x : List ℕ) (ks : List (List ℕ)) → same_key x key ≡ false → has_key key ks ≡ false
    → has_key key (x ∷ ks) ≡ false
one_apart key x ks h k = rw h k

-- a part whose last key the key does not reach lacks it
lacks : (key : List ℕ) (last : Option Entry) (x : List ℕ) (xs : List (List ℕ))
    → IsStrictAfter last (map key_end (x ∷ xs)) → reached key (last_of_keys (x ∷ xs)) ≡ false
    → has_key key (x ∷ xs) ≡ false
unfolding IsStrictAfter
lacks key last x [] strict early = one_apart key x []
    (is_false (same_key x key) (λ same. apart (reached key x) (same_reached key x same) early)) refl
lacks key last x (y ∷ ys) strict early =
    let end = last_of_keys (y ∷ ys) in
    one_apart key x (y ∷ ys)
    (is_false (same_key x key) (λ same. apart (reached key end)
    (before_trans (entry key [] highest Value) (key_end x) (key_end end)
    (same_reached key x same) (later x y ys strict.1)) early))
    (lacks key (Some (key_end x)) y ys strict.1 early)

-- and so do the keys behind one that the key reaches
lacks_behind : (key end : List ℕ) (ks : List (List ℕ)) → reached key end ≡ true
    → IsStrictAfter (Some (key_end end)) (map key_end ks) → has_key key ks ≡ false
unfolding IsStrictAfter
lacks_behind key end [] hit strict = refl
lacks_behind key end (k ∷ ks) hit strict =
    one_apart key k ks (not_below key end k hit strict.0)
    (lacks_behind key k ks (before_trans (entry key [] highest Value) (key_end end)
    (key_end k) hit strict.0) strict.1)

has_append : (key : List ℕ) (xs ys : List (List ℕ))
    → has_key key (xs ++ ys) ≡ (has_key key xs || has_key key ys)
has_append key [] ys = refl
has_append key (x ∷ xs) ys = ap (λ (b : Bool). same_key x key || b) (has_append key xs ys)
    ∙ sym (or_assoc (same_key x key) (has_key key xs) (has_key key ys))

pub last_end_is : (last : Option Entry) (x : List ℕ) (xs : List (List ℕ))
    → last_of last (map key_end (x ∷ xs)) ≡ Some (key_end (last_of_keys (x ∷ xs)))
unfolding last_of
last_end_is last x [] = refl
last_end_is last x (y ∷ ys) = last_end_is (Some (key_end x)) y ys

-- what the top level has of the filter of a part, whose block lies at a position
abbrev pub filter_top : ℕ → List (List ℕ) → BloomFilter → Handle
filter_top at part f = record {
  end_key = last_of_keys part;
  seqno = 0;
  offset = at;
  size =
      24 + length (payload_of f);
}

-- the part and its filter that the top level names, among the others
pub record AsksPart (v : TableVersion) (policy : BloomConstructionPolicy) (at : ℕ)
    (parts : List (List (List ℕ))) (fs : List BloomFilter) (key : List ℕ)
    (top : Handle) : Type 0 where
  pub filters_before : List BloomFilter
  pub part : List (List ℕ)
  pub asked : BloomFilter
  pub filters_behind : List BloomFilter
  pub filters_are : fs ≡ filters_before ++ asked ∷ filters_behind
  pub top_is : top ≡ filter_top (at + length (flat_map (filter_block v) filters_before)) part asked
  pub is_for : IsFilterFor policy part asked
  pub covers : has_key key (joined_parts parts) ≡ has_key key part

abbrev pub AsksPartBy : TableVersion → BloomConstructionPolicy → ℕ → List (List (List ℕ))
    → List BloomFilter → List ℕ → Option Handle → Type 0
AsksPartBy v policy at parts fs key None = has_key key (joined_parts parts) ≡ false
AsksPartBy v policy at parts fs key (Some top) = AsksPart v policy at parts fs key top

behind_passed : (v : TableVersion) (policy : BloomConstructionPolicy) (at : ℕ) (p : List (List ℕ))
    (f : BloomFilter) (ps : List (List (List ℕ))) (fs : List BloomFilter) (key : List ℕ)
    (o : Option Handle) → has_key key (p ++ joined_parts ps) ≡ has_key key (joined_parts ps)
    → AsksPartBy v policy (at + length (filter_block v f)) ps fs key o
    → AsksPartBy v policy at (p ∷ ps) (f ∷ fs) key o
behind_passed v policy at p f ps fs key None passes asks = passes ∙ asks
behind_passed v policy at p f ps fs key (Some top) passes asks =
    let n = length (filter_block v f) in
    let place : at + n + length (flat_map (filter_block v) asks.filters_before)
    ≡ at + length (filter_block v f ++ flat_map (filter_block v) asks.filters_before) =
    omega (
      arith,
      length-append (filter_block v f)
          (flat_map (filter_block v) asks.filters_before),
    ) in
    record {
      filters_before = f ∷ asks.filters_before;
      part = asks.part;
      asked = asks.asked;
      filters_behind = asks.filters_behind;
      filters_are = ap (λ (x : List BloomFilter). f ∷ x) asks.filters_are;
      top_is = asks.top_is ∙ ap (λ (n : ℕ). filter_top n asks.part asks.asked) place;
      is_for = asks.is_for;
      covers = passes ∙ asks.covers;
    }

decided : (v : TableVersion) (policy : BloomConstructionPolicy) (at : ℕ) (last : Option Entry)
    (x : List ℕ) (xs : List (List ℕ)) (f : BloomFilter) (ps : List (List (List ℕ)))
    (fs : List BloomFilter) (key : List ℕ) (o : Option Handle) (b : Bool)
    → IsStrictAfter last (map key_end (x ∷ xs) ++ map key_end (joined_parts ps))
    → IsFilterFor policy (x ∷ xs) f → reached key (last_of_keys (x ∷ xs)) ≡ b
    → AsksPartBy v policy (at + (24 + length (payload_of f))) ps fs key o
    → AsksPartBy v policy at ((x ∷ xs) ∷ ps) (f ∷ fs) key
    (cond b (Some (filter_top at (x ∷ xs) f)) o)
decided v policy at last x xs f ps fs key o true strict is late more =
    let end = last_of_keys (x ∷ xs) in
    let rest : IsStrictAfter (Some (key_end end)) (map key_end (joined_parts ps)) =
    subst (λ (l : Option Entry). IsStrictAfter l (map key_end (joined_parts ps)))
    (last_end_is last x xs) (strict_back last (map key_end (x ∷ xs))
    (map key_end (joined_parts ps)) strict) in
    record {
      filters_before = [];
      part = x ∷ xs;
      asked = f;
      filters_behind = fs;
      filters_are = refl;
      top_is = let place : at ≡ at + 0 = omega arith in
          ap (λ (n : ℕ). filter_top n (x ∷ xs) f) place;
      is_for = is;
      covers = has_append key (x ∷ xs) (joined_parts ps)
          ∙ ap (λ (b : Bool). has_key key (x ∷ xs) || b)
          (lacks_behind key end (joined_parts ps) late rest) ∙ or-false (has_key key (x ∷ xs));
    }
decided v policy at last x xs f ps fs key o false strict is early more =
    let place : at + (24 + length (payload_of f)) ≡ at + length (filter_block v f) =
    ap (λ (n : ℕ). at + n) (sym (length-block v Filter (payload_of f))) in
    behind_passed v policy at (x ∷ xs) f ps fs key o
    (has_append key (x ∷ xs) (joined_parts ps) ∙ ap
    (λ (b : Bool). b || has_key key (joined_parts ps))
    (lacks key last x xs (strict_front last (map key_end (x ∷ xs))
    (map key_end (joined_parts ps)) strict) early))
    (subst (λ (n : ℕ). AsksPartBy v policy n ps fs key o) place more)

top_reached : (at : ℕ) (part : List (List ℕ)) (f : BloomFilter) (key : List ℕ)
    → reaches key highest (filter_top at part f) ≡ reached key (last_of_keys part)
top_reached at part f key = reaches_after key highest (filter_top at part f)

pub part_asked : (v : TableVersion) (policy : BloomConstructionPolicy) (at : ℕ)
    (last : Option Entry) (parts : List (List (List ℕ))) (fs : List BloomFilter) (key : List ℕ)
    → AreSomeParts parts → AreFiltersFor policy parts fs
    → IsStrictAfter last (map key_end (joined_parts parts))
    → AsksPartBy v policy at parts fs key (find (reaches key (2 ^ 64 - 1))
    (tops_from at (filter_partitions parts fs)))
part_asked v policy at last [] [] key some are strict = refl
part_asked v policy at last [] (f ∷ fs) key some are strict = absurd are
part_asked v policy at last (p ∷ ps) [] key some are strict = absurd are
part_asked v policy at last ([] ∷ ps) (f ∷ fs) key some are strict = absurd (omega (arith, some.0))
part_asked v policy at last ((x ∷ xs) ∷ ps) (f ∷ fs) key some are strict =
    let p = x ∷ xs in
    let whole : IsStrictAfter last (map key_end p ++ map key_end (joined_parts ps)) =
    subst (λ (es : List Entry). IsStrictAfter last es)
    (map-append key_end p (joined_parts ps)) strict in
    let n = at + (24 + length (payload_of f)) in
    let rest = find (reaches key (2 ^ 64 - 1)) (tops_from n (filter_partitions ps fs)) in
    subst (λ (b : Bool). AsksPartBy v policy at (p ∷ ps) (f ∷ fs) key
    (cond b (Some (filter_top at p f)) rest)) (sym (top_reached at p f key))
    (decided v policy at last x xs f ps fs key rest (reached key (last_of_keys p)) whole are.0 refl
    (part_asked v policy n (last_of last (map key_end p)) ps fs key some.1 are.1
    (strict_back last (map key_end p) (map key_end (joined_parts ps)) whole)))
