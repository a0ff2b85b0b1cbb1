-- Which keys a writer of partitions stands for, step by step.
use Rattle.std.proofs.Common.{◌≡◌, refl, ◌∙◌, ap, sym, subst, ℕ, ◌+◌, ◌<◌, nat_le, Bool, true}
use Rattle.std.proofs.Common.{false, List, [], ◌∷◌, ◌++◌, length, Some, None, length-append, arith}
use Rattle.std.specs.Prelude.{map, Option, Result, if◌then◌else◌}
use Rattle.std.specs.List.{AllByRecursion}
use Rattle.std.proofs.lemmas.List.{append-nil, length-map, map-append}
use Rattle.std.proofs.lemmas.List.Sums.{sum_by-append, sum_by-cons}
use Rattle.sst_entries.specs.Error.{Faults}
use Rattle.sst_entries.specs.declared.error.Error.{Error}
use Rattle.sst_blocks.specs.filter.KeyHash.{hash_of}
use Rattle.sst_blocks.specs.Bounds.{capped}
use Rattle.sst_blocks.specs.filter.Filter.{BloomFilter}
use Rattle.sst_blocks.specs.filter.Policy.{bound_for, fault_for, size_for, tenths_of}
use Rattle.sst_blocks.specs.declared.filter.policy.BloomConstructionPolicy.{BloomConstructionPolicy}
use Rattle.sst_blocks.specs.table.Filters.{IsFilterFor, is_full_filter, last_of_keys}
use Rattle.sst_blocks.specs.declared.table.options.FilterKind.TheVariants.{Partitioned}
use Rattle.lsm_writers.specs.section.Given.{GivenKeys, IsSomePart, KeyPart, all_keys, cut_with}
use Rattle.lsm_writers.specs.section.Given.{key_part, keys_in, no_keys, key_parts_of, pending_with}
use Rattle.lsm_writers.specs.section.Given.{rest_keys, with_key}
use Rattle.lsm_writers.specs.section.Held.{AreFiltersOf, as_list, CutPart, CutParts, Cuts, end_keys}
use Rattle.lsm_writers.specs.section.Held.{filters_of, HasParts, HoldsAll, HoldsParts, last_key_of}
use Rattle.lsm_writers.specs.section.FilterRefusing.{key_parts_bound, keys_fault}
use Rattle.lsm_writers.specs.section.Rising.{AreRising}
use Rattle.lsm_writers.proofs.RisingLaws.{last_keys_rise, last_more}

-- no keys
pub holds_none : (w : CutParts) → w.parts ≡ [] → w.bound ≡ 0 → w.hashes ≡ [] → w.last ≡ None
    → HoldsParts w no_keys
holds_none w parts bound hashes last = record {
  cut = record { some = tt; filters = rw parts tt; ends = rw parts refl; bound = rw bound refl };
  hashes = rw hashes refl;
  last = rw last refl;
}

no_ends : (ps : List CutPart) → end_keys ps ≡ [] → ps ≡ []
no_ends [] e = refl
no_ends (p ∷ ps) e = cc

-- as a writer holds keys, so it does with other options
pub holds_again : (w v : CutParts) (given : GivenKeys) → HoldsParts w given → v.parts ≡ w.parts
    → v.bound ≡ w.bound → v.hashes ≡ w.hashes → v.last ≡ w.last → HoldsParts v given
holds_again w v given h parts bound hashes last = record {
  cut = record {
    some = h.cut.some;
    filters = rw parts h.cut.filters;
    ends =
        rw parts h.cut.ends;
    bound = bound ∙ h.cut.bound;
  };
  hashes = hashes ∙ h.hashes;
  last = last ∙ h.last;
}

-- without keys nothing waits, and nothing was cut
pub none_waits : (w : CutParts) → HoldsParts w no_keys → w.last ≡ None
none_waits w h = h.last

pub none_cut : (v : CutParts) → HoldsAll v no_keys → v.parts ≡ []
none_cut v h = no_ends v.parts h.ends

-- a key's hash came to those that wait
pub record Adds (key : List ℕ) (w v : CutParts) : Type 0 where
  pub policy : v.policy ≡ w.policy
  pub size : v.size ≡ w.size
  pub parts : v.parts ≡ w.parts
  pub bound : v.bound ≡ w.bound
  pub hashes : v.hashes ≡ w.hashes ++ hash_of key ∷ []

-- the last keys of the parts and the key rise
pub ends_and_key : (w : CutParts) (given : GivenKeys) (key : List ℕ) → HoldsParts w given
    → AreRising (all_keys given ++ key ∷ []) → AreRising (end_keys w.parts ++ key ∷ [])
ends_and_key w given key h rising = rw (h.cut.ends)
    (last_keys_rise given.cut given.pending key h.cut.some rising)

last_key_more : (ks : List (List ℕ)) (key : List ℕ) → last_key_of (ks ++ key ∷ []) ≡ Some key
last_key_more [] key = refl
last_key_more (k ∷ ks) key = ap (λ (x : List ℕ). Some x) (last_more (k ∷ ks) key)

-- one part more
filters_more : (ps : List KeyPart) (cs : List CutPart) (p : KeyPart) (key : List ℕ)
    (f : BloomFilter) →
    AreFiltersOf ps (filters_of cs) → IsFilterFor p.policy p.keys f
    → AreFiltersOf (ps ++ p ∷ []) (filters_of (cs ++ record { end_key = key; filter = f } ∷ []))
filters_more [] [] p key f h is = (is, tt)
filters_more [] (c ∷ cs) p key f h is = absurd h
filters_more (q ∷ ps) [] p key f h is = absurd h
filters_more (q ∷ ps) (c ∷ cs) p key f h is = (h.0, filters_more ps cs p key f h.1 is)

ends_more : (cs : List CutPart) (ps : List KeyPart) (p : KeyPart) (key : List ℕ) (f : BloomFilter)
    → end_keys cs ≡ map last_of_keys (keys_in ps) → last_of_keys p.keys ≡ key →
    end_keys (cs ++ record { end_key = key; filter = f } ∷ [])
    ≡ map last_of_keys (keys_in (ps ++ p ∷ []))
ends_more cs ps p key f e last =
    map-append (λ (c : CutPart). c.end_key) cs (record { end_key = key; filter = f } ∷ [])
    ∙ ap (λ ks. ks ++ key ∷ []) e ∙ ap (λ (k : List ℕ). map last_of_keys (keys_in ps) ++ k ∷ [])
    (sym last)
    ∙ sym (map-append last_of_keys (keys_in ps) (p.keys ∷ []))
    ∙ ap (λ (ks : List (List (List ℕ))). map last_of_keys ks)
    (sym (map-append (λ (x : KeyPart). x.keys) ps (p ∷ [])))

bound_more : (ps : List KeyPart) (p : KeyPart) →
    capped (capped (key_parts_bound ps) + bound_for (tenths_of p.policy) (length p.keys))
    ≡ capped (key_parts_bound (ps ++ p ∷ []))
bound_more ps p =
    let of : KeyPart → ℕ = λ q. bound_for (tenths_of q.policy) (length q.keys) in
    let both : key_parts_bound (ps ++ p ∷ []) ≡ key_parts_bound ps + key_parts_bound (p ∷ []) =
    sum_by-append of ps (p ∷ []) in
    let one : key_parts_bound (p ∷ []) ≡ bound_for (tenths_of p.policy) (length p.keys) + 0 =
    sum_by-cons of p [] in
    rw (both, one) (caps (key_parts_bound ps) (bound_for (tenths_of p.policy) (length p.keys)))
  where
    caps : (a b : ℕ) → capped (capped a + b) ≡ capped (a + (b + 0))
    caps a b = omega arith

some_more : (ps : List KeyPart) (p : KeyPart) → AllByRecursion IsSomePart ps → IsSomePart p
    → AllByRecursion IsSomePart (ps ++ p ∷ [])
some_more [] p all is = (is, tt)
some_more (q ∷ ps) p all is = (all.0, some_more ps p all.1 is)

-- one part more is cut off, and its last key is told
has_more : (w v : CutParts) (ps : List KeyPart) (p : KeyPart) (key : List ℕ) (f : BloomFilter)
    → HasParts w ps → IsSomePart p → IsFilterFor p.policy p.keys f → last_of_keys p.keys ≡ key →
    v.parts ≡ w.parts ++ record { end_key = key; filter = f } ∷ []
    → v.bound ≡ capped (w.bound + bound_for (tenths_of p.policy) (length p.keys))
    → HasParts v (ps ++ p ∷ [])
has_more w v ps p key f h some is last parts bound = record {
  some = some_more ps p h.some some;
  filters = rw parts (filters_more ps w.parts p key f h.filters is);
  ends = rw parts (ends_more w.parts ps p key f h.ends last);
  bound = bound ∙ ap (λ (n : ℕ). capped (n + bound_for (tenths_of p.policy) (length p.keys)))
      h.bound ∙ bound_more ps p;
}

has_same : (w v : CutParts) (ps : List KeyPart) → HasParts w ps → v.parts ≡ w.parts
    → v.bound ≡ w.bound → HasParts v ps
has_same w v ps h parts bound = record {
  some = h.some;
  filters = rw parts h.filters;
  ends =
      rw parts h.ends;
  bound = bound ∙ h.bound;
}

module _ (w u : CutParts) (given : GivenKeys) (key : List ℕ) (h : HoldsParts w given)
    (adds : Adds key w u) where
  abbrev full : List (List ℕ) → Bool
  full = is_full_filter w.policy w.size

  abbrev waiting : List (List ℕ)
  waiting = given.pending ++ key ∷ []

  abbrev after : GivenKeys
  after = with_key (Partitioned w.size) w.policy given key

  pub hashes_more : u.hashes ≡ map hash_of waiting
  hashes_more = adds.hashes ∙ ap (λ hs. hs ++ hash_of key ∷ []) h.hashes
      ∙ sym (map-append hash_of given.pending (key ∷ []))

  pub count_more : length u.hashes ≡ length waiting
  count_more = ap length hashes_more ∙ length-map waiting hash_of

  -- whether the part is full is told by its count
  pub test_is : nat_le u.size (size_for (tenths_of u.policy) (length u.hashes)) ≡ full waiting
  test_is = rw (adds.size, adds.policy, count_more) refl

  after_is : (b : Bool) → full waiting ≡ b → (if b then cut_with w.policy given key
      else pending_with given key) ≡ after
  after_is b e = ap (λ (x : Bool). if x then cut_with w.policy given key
      else pending_with given key) (sym e)

  -- it waits
  pub key_waits : (v : CutParts) → nat_le u.size (size_for (tenths_of u.policy) (length u.hashes))
      ≡ false →
      v.parts ≡ u.parts → v.bound ≡ u.bound → v.hashes ≡ u.hashes → v.last ≡ Some key
      → HoldsParts v after
  key_waits v test parts bound hashes last =
      let waits : HoldsParts v (pending_with given key) = record {
        cut = has_same w v given.cut h.cut (parts ∙ adds.parts) (bound ∙ adds.bound);
        hashes = hashes ∙ hashes_more;
        last = last ∙ sym (last_key_more given.pending key);
      } in
      subst (λ (x : GivenKeys). HoldsParts v x) (after_is false (sym test_is ∙ test)) waits

  -- it fills a part
  pub key_cuts : (v : CutParts) → nat_le u.size (size_for (tenths_of u.policy) (length u.hashes))
      ≡ true → Cuts key u v → HoldsParts v after
  key_cuts v test cuts =
      let part : KeyPart = key_part w.policy waiting in
      let parts' : v.parts ≡ w.parts ++ record { end_key = key; filter = cuts.filter } ∷ [] =
      cuts.parts ∙ ap (λ ps. ps ++ record { end_key = key; filter = cuts.filter } ∷ [])
      adds.parts in
      let is : IsFilterFor w.policy waiting cuts.filter =
      subst (λ p. IsFilterFor p waiting cuts.filter) adds.policy
      (cuts.is waiting hashes_more) in
      let bound' : v.bound ≡ capped (w.bound + bound_for (tenths_of w.policy) (length waiting)) =
      cuts.bound ∙ rw (adds.bound, adds.policy, count_more) refl in
      let long : length waiting ≡ length given.pending + 1 =
      length-append given.pending (key ∷ []) in
      let cut : HoldsParts v (cut_with w.policy given key) = record {
        cut = has_more w v given.cut part key cuts.filter h.cut
            (record { some = omega (arith, long) }) is (last_more given.pending key) parts' bound';
        hashes = cuts.hashes;
        last = cuts.last;
      } in
      subst (λ (x : GivenKeys). HoldsParts v x) (after_is true (sym test_is ∙ test)) cut

-- what waits is cut off at the end
no_waiting : (ks : List (List ℕ)) → last_key_of ks ≡ None → ks ≡ []
no_waiting [] e = refl
no_waiting (k ∷ ks) e = cc

-- the last of some keys is told, and they are a part
pub record IsRest (policy : BloomConstructionPolicy) (ks : List (List ℕ))
    (key : List ℕ) : Type 0 where
  pub one : rest_keys policy ks ≡ key_part policy ks ∷ []
  pub some : 0 < length ks
  pub last : last_of_keys ks ≡ key

rest_of_some : (policy : BloomConstructionPolicy) (ks : List (List ℕ)) (key : List ℕ)
    → last_key_of ks ≡ Some key → IsRest policy ks key
rest_of_some policy [] key e = cc
rest_of_some policy (k ∷ ks) key e = record { one = refl; some = omega arith; last = cc }

pub holds_all : (w v : CutParts) (given : GivenKeys) → HoldsParts w given → w.last ≡ None
    → v.parts ≡ w.parts → v.bound ≡ w.bound → HoldsAll v given
holds_all w v given h none parts bound =
    let nothing : given.pending ≡ [] = no_waiting given.pending (sym h.last ∙ none) in
    let all : key_parts_of v.policy given ≡ given.cut =
    ap (λ (ks : List (List ℕ)). given.cut ++ rest_keys v.policy ks) nothing
    ∙ append-nil given.cut in
    subst (λ (ps : List KeyPart). HasParts v ps) (sym all)
    (has_same w v given.cut h.cut parts bound)

pub rest_cuts : (w u v : CutParts) (given : GivenKeys) (key : List ℕ) → HoldsParts w given
    → w.last ≡ Some key →
    u.policy ≡ w.policy → u.parts ≡ w.parts → u.bound ≡ w.bound → u.hashes ≡ w.hashes
    → v.policy ≡ w.policy → Cuts key u v → HoldsAll v given
rest_cuts w u v given key h some policy parts bound hashes policy' cuts =
    let left = given.pending in
    let rest = rest_of_some w.policy left key (sym h.last ∙ some) in
    let all : key_parts_of w.policy given ≡ given.cut ++ key_part w.policy left ∷ [] =
    ap (λ (ps : List KeyPart). given.cut ++ ps) rest.one in
    let parts' : v.parts ≡ w.parts ++ record { end_key = key; filter = cuts.filter } ∷ [] =
    cuts.parts ∙ ap (λ ps. ps ++ record { end_key = key; filter = cuts.filter } ∷ []) parts in
    let is : IsFilterFor w.policy left cuts.filter =
    subst (λ p. IsFilterFor p left cuts.filter) policy (cuts.is left (hashes ∙ h.hashes)) in
    let count : length u.hashes ≡ length left = ap length (hashes ∙ h.hashes)
    ∙ length-map left hash_of in
    let bound' : v.bound ≡ capped (w.bound + bound_for (tenths_of w.policy) (length left)) =
    cuts.bound ∙ rw (bound, policy, count) refl in
    let has : HasParts v (key_parts_of w.policy given) =
    subst (λ (ps : List KeyPart). HasParts v ps) (sym all)
    (has_more w v given.cut (key_part w.policy left) key cuts.filter h.cut
    (record { some = rest.some }) is rest.last parts' bound') in
    subst (λ (p : BloomConstructionPolicy). HasParts v (key_parts_of p given)) (sym policy') has

-- and what it refuses is what its count tells
pub rest_fault_none : (w : CutParts) (given : GivenKeys) → HoldsParts w given → w.last ≡ None
    → keys_fault w.policy given.pending ≡ None
rest_fault_none w given h none = ap (λ ks. keys_fault w.policy ks)
    (no_waiting _ (sym h.last ∙ none))

pub rest_fault_some : (w : CutParts) (given : GivenKeys) (key : List ℕ) → HoldsParts w given
    → w.last ≡ Some key →
    keys_fault w.policy given.pending ≡ fault_for (tenths_of w.policy) (length w.hashes)
rest_fault_some w given key h some =
    fault_of given.pending key (sym h.last ∙ some)
    ∙ ap (λ (n : ℕ). fault_for (tenths_of w.policy) n)
    (sym (ap length h.hashes ∙ length-map given.pending hash_of))
  where
    fault_of : (ks : List (List ℕ)) (key : List ℕ) → last_key_of ks ≡ Some key
        → keys_fault w.policy ks ≡ fault_for (tenths_of w.policy) (length ks)
    fault_of [] key e = cc
    fault_of (k ∷ ks) key e = refl

-- a key is pushed: it fills a part, or waits
pub pushed_cuts : (w u v : CutParts) (given : GivenKeys) (key end_key : List ℕ) (hash : ℕ)
    (r : Bool) → Cuts end_key u v → HoldsParts w given → end_key ≡ key → hash ≡ hash_of key →
    u.policy ≡ w.policy → u.size ≡ w.size → u.parts ≡ w.parts → u.bound ≡ w.bound
    → u.hashes ≡ w.hashes ++ hash ∷ [] →
    r ≡ nat_le u.size (size_for (tenths_of u.policy) (length u.hashes)) → r ≡ true
    → HoldsParts v (with_key (Partitioned w.size) w.policy given key)
pushed_cuts w u v given key end_key hash r cuts h same hashed policy size parts bound hashes test
    t =
    key_cuts w u given key h
    (record {
      policy = policy;
      size = size;
      parts = parts;
      bound = bound;
      hashes = hashes
          ∙ ap (λ (x : ℕ). w.hashes ++ x ∷ []) hashed;
    })
    v (sym test ∙ t) (subst (λ (k : List ℕ). Cuts k u v) same cuts)

pub pushed_waits : (w u v : CutParts) (given : GivenKeys) (key end_key : List ℕ) (hash : ℕ)
    (r : Bool) → HoldsParts w given → end_key ≡ key → hash ≡ hash_of key →
    u.policy ≡ w.policy → u.size ≡ w.size → u.parts ≡ w.parts → u.bound ≡ w.bound
    → u.hashes ≡ w.hashes ++ hash ∷ [] →
    v.parts ≡ u.parts → v.bound ≡ u.bound → v.hashes ≡ u.hashes → v.last ≡ Some end_key →
    r ≡ nat_le u.size (size_for (tenths_of u.policy) (length u.hashes)) → r ≡ false
    → HoldsParts v (with_key (Partitioned w.size) w.policy given key)
pushed_waits w u v given key end_key hash r h same hashed policy size parts bound hashes parts'
    bound' hashes' last test f =
    key_waits w u given key h
    (record {
      policy = policy;
      size = size;
      parts = parts;
      bound = bound;
      hashes = hashes
          ∙ ap (λ (x : ℕ). w.hashes ++ x ∷ []) hashed;
    })
    v (sym test ∙ f) parts' bound' hashes' (last ∙ ap (λ (k : List ℕ). Some k) same)

pub rest_fault_for : {X : Type 0} (result : Result X Error) (w : CutParts) (given : GivenKeys)
    (key : List ℕ) (policy : BloomConstructionPolicy) (hashes : List ℕ) → HoldsParts w given →
    w.last ≡ Some key → policy ≡ w.policy → hashes ≡ w.hashes
    → Faults result (fault_for (tenths_of policy) (length hashes)) →
    Faults result (keys_fault w.policy given.pending)
rest_fault_for result w given key policy hashes h some same held fault =
    let returned : keys_fault w.policy given.pending ≡ fault_for (tenths_of policy) (length hashes) =
    rest_fault_some w given key h some
    ∙ ap (λ (p : BloomConstructionPolicy). fault_for (tenths_of p) (length w.hashes)) (sym same)
    ∙ ap (λ (hs : List ℕ). fault_for (tenths_of policy) (length hs)) (sym held) in
    subst (λ x. Faults result x) (sym returned) fault

-- the last key that is taken is the one that was kept
pub taken_key : (kept taken : Option (List ℕ)) (key : List ℕ) {end_key : List ℕ}
    → kept ≡ Some key → taken ≡ kept → taken ≡ Some end_key → end_key ≡ key
taken_key kept taken key is same some = let e = sym some ∙ same ∙ is in cc

pub some_is_not_none : (last : Option (List ℕ)) (key : List ℕ) → last ≡ Some key → last ≡ None → ⊥
some_is_not_none last key some none = let e : Some key ≡ None = sym some ∙ none in cc

-- the last keys rise, with that of a part that was cut, and with that of one that waits
pub cut_rising : (cs longer parts : List CutPart) (part : CutPart) (key : List ℕ)
    (last : Option (List ℕ)) → cs ≡ parts → part.end_key ≡ key → longer ≡ cs ++ part ∷ []
    → last ≡ None →
    AreRising (end_keys parts ++ key ∷ []) → AreRising (end_keys longer ++ as_list last)
cut_rising cs longer parts part key last same named pushed none rising =
    let keys : end_keys longer ≡ end_keys parts ++ key ∷ [] =
    ap (λ (ps : List CutPart). end_keys ps) pushed
    ∙ map-append (λ (p : CutPart). p.end_key) cs (part ∷ [])
    ∙ ap (λ (k : List ℕ). end_keys cs ++ k ∷ []) named
    ∙ ap (λ (ps : List CutPart). end_keys ps ++ key ∷ []) same in
    let all : end_keys longer ++ as_list last ≡ end_keys parts ++ key ∷ [] =
    ap (λ (x : Option (List ℕ)). end_keys longer ++ as_list x) none ∙ append-nil (end_keys longer)
    ∙ keys in
    subst (λ ks. AreRising ks) (sym all) rising
