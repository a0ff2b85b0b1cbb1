-- The filter writer of a writer between its calls.
use Rattle.std.proofs.Common.{◌≡◌, refl, sym, ◌∙◌, ap, subst, ℕ, ◌≤◌, Bool, true, false, cond, List}
use Rattle.std.proofs.Common.{[], ◌∷◌, ◌++◌, length, append_assoc, arith, IsTrue}
use Rattle.std.proofs.lemmas.List.{append-nil}
use Rattle.sst_blocks.specs.Sections.{Written}
use Rattle.sst_blocks.specs.declared.version.TableVersion.TheVariants.{V4}
use Rattle.std.specs.Prelude.{Option, Some, None, nat_lt, ◌&&◌, Result, Ok, Err, IfOk, OnOk}
use Rattle.sst_entries.specs.Error.{Faults}
use Rattle.sst_entries.specs.declared.error.Error.{Error}
use Rattle.sst_entries.specs.Entry.{Entry}
use Rattle.sst_entries.specs.Strict.{IsStrict, last_of}
use Rattle.sst_blocks.specs.declared.filter.policy.BloomConstructionPolicy.{BloomConstructionPolicy}
use Rattle.sst_blocks.specs.filter.Policy.{tenths_of}
use Rattle.sst_blocks.specs.table.Facts.{starts_key}
use Rattle.sst_blocks.specs.table.Failed.{failed_fault}
use Rattle.std.specs.Option.{option_or}
use Rattle.sst_blocks.specs.table.Filters.{filtered_keys, keys_after}
use Rattle.sst_blocks.specs.table.Kinds.{filter_count, filter_parts, filter_sections}
use Rattle.sst_blocks.specs.table.Kinds.{filter_with_size}
use Rattle.sst_blocks.specs.table.Layout.{Sections, appended}
use Rattle.sst_blocks.specs.table.Parts.{parts_after}
use Rattle.sst_blocks.specs.declared.table.options.FilterKind.{FilterKind}
use Rattle.sst_blocks.specs.declared.table.options.FilterKind.TheVariants.{Full as FullFilter}
use Rattle.sst_blocks.specs.declared.table.options.FilterKind.TheVariants.{
  Partitioned as PartitionedFilter,
}
use Rattle.lsm_writers.specs.section.FilterEither.{HoldsBy, failed_by, kind_by, policy_by}
use Rattle.lsm_writers.specs.section.Given.{GivenKeys, given_by, no_keys as no_given, with_key}
use Rattle.lsm_writers.specs.section.Rising.{AreRising, Rises}
use Rattle.lsm_writers.proofs.SameOptions.{fault_same, given_all, given_more, writes_same}
use Rattle.lsm_writers.specs.section.Cutting.{closed_after, waiting_after}
use Rattle.lsm_writers.specs.section.Held.{CutParts, Hashes, HoldsHashes, HoldsParts}
use Rattle.lsm_writers.specs.section.FilterRefusing.{filter_fault, given_fault, register_fault}
use Rattle.lsm_writers.specs.section.Writing.{WritesFilter, WritesParts}
use Rattle.lsm_writers.specs.declared.section.filter_either.FilterWriterImpl.{FilterWriterImpl}
use Rattle.lsm_writers.specs.declared.section.filter_either.FilterWriterImpl.TheVariants.{
  Full as FullWriter,
}
use Rattle.lsm_writers.specs.declared.section.filter_either.FilterWriterImpl.TheVariants.{
  Partitioned as PartitionedWriter,
}
use Rattle.sst_blocks.specs.table.Chunks.{joined}
use Rattle.lsm_writers.specs.Counts.{tally_of}
use Rattle.lsm_writers.specs.Cut.{rest_chunk}
use Rattle.lsm_writers.specs.declared.writer.meta.Tally.{Tally}
use Rattle.lsm_writers.specs.Writing.{Writing, IsFresh, may_be_written, written}
use Rattle.lsm_writers.specs.Filtering.{CanRegister, HasKeys, IsFiltered, IsSmallFilter}
use Rattle.lsm_writers.specs.Filtering.{MayHaveKeys, registered_key}
use Rattle.lsm_writers.proofs.Cutting.{joined_more}
use Rattle.lsm_writers.proofs.Keys.{filtered_more, rising_more}
use Rattle.lsm_writers.proofs.Orders.{last_of-append}
use Rattle.lsm_writers.proofs.Taking.{strict_gained}

no_keys_by : (b : Bool) → cond b (keys_after None []) [] ≡ []
unfolding keys_after
no_keys_by true = refl
no_keys_by false = refl

pub no_keys : (policy : BloomConstructionPolicy) → filtered_keys policy [] ≡ []
no_keys policy = no_keys_by (nat_lt 0 (tenths_of policy))

-- without keys there is no filter writer yet
no_writer : {A : Type 0} (kind : FilterKind) (policy : BloomConstructionPolicy)
    (w : Option (FilterWriterImpl A)) → MayHaveKeys kind policy w [] → w ≡ None
no_writer kind policy None h = refl
no_writer kind policy (Some w) h = absurd (h.0 refl)

-- partitions of a small size are small
pub sized_small : (size : ℕ) (kind : FilterKind) → size ≤ 4194304
    → IsSmallFilter (filter_with_size size kind)
sized_small size FullFilter small = omega arith
sized_small size (PartitionedFilter before) small = small

-- so before the first entry the filter may still be of another kind and policy
pub filtered_anew : {A : Type 0} (failed : Bool) (kind l : FilterKind)
    (policy p : BloomConstructionPolicy) (w : Option (FilterWriterImpl A)) (es : List Entry)
    → es ≡ [] → IsFiltered failed kind policy w es → IsSmallFilter l → IsFiltered failed l p w es
filtered_anew {A} failed kind l policy p w es none h small =
    let keys : filtered_keys policy es ≡ [] = ap (λ (xs : List Entry). filtered_keys policy xs) none
    ∙ no_keys policy in
    let all : filtered_keys p es ≡ [] = ap (λ (xs : List Entry). filtered_keys p xs) none
    ∙ no_keys p in
    record {
      small = small;
      has = λ works.
          let is : w ≡ None = no_writer kind policy w
          (subst (λ (ks : List (List ℕ)). MayHaveKeys kind policy w ks) keys (h.has works)) in
          subst (λ (o : Option (FilterWriterImpl A)). MayHaveKeys l p o (filtered_keys p es))
          (sym is) all;
    }

pub fresh_list : (w v : Writing) → w ≡ v → IsFresh v → written w ≡ []
fresh_list w v e h = ap written e ∙ rw (h.0, h.1) refl

-- where no key came, no filter is written
pub none_kept : {A : Type 0} (kind : FilterKind) (policy : BloomConstructionPolicy)
    (w : Option (FilterWriterImpl A)) (keys : List (List ℕ)) → w ≡ None
    → MayHaveKeys kind policy w keys → keys ≡ []
none_kept {A} kind policy w keys e h = subst (λ (o : Option (FilterWriterImpl A)). MayHaveKeys kind
    policy o keys) e h

no_parts : (kind : FilterKind) (policy : BloomConstructionPolicy) → filter_parts kind policy [] ≡ []
unfolding parts_after
no_parts FullFilter policy = refl
no_parts (PartitionedFilter size) policy = refl

no_sections : (kind : FilterKind) (at : ℕ) (parts : List (List (List ℕ)))
    → filter_sections kind V4 at parts [] ≡ []
no_sections FullFilter at parts = refl
no_sections (PartitionedFilter size) at parts = refl

pub nothing_written : (kind : FilterKind) (policy : BloomConstructionPolicy) (keys : List (List ℕ))
    (before : Written) (n : ℕ) → keys ≡ [] → n ≡ filter_count kind []
    → WritesFilter kind policy keys before before n
nothing_written kind policy keys before n none count =
    let parts : filter_parts kind policy keys ≡ [] =
    ap (λ (ks : List (List ℕ)). filter_parts kind policy ks) none ∙ no_parts kind policy in
    let ss : filter_sections kind V4 (length before.bytes) (filter_parts kind policy keys) [] ≡ [] =
    no_sections kind (length before.bytes) (filter_parts kind policy keys) in
    let same : before ≡ appended before [] = rw (append-nil before.bytes, append-nil before.started)
    refl in
    record {
      filters = [];
      are = rw parts tt;
      written = same ∙ ap (λ (xs : Sections). appended before xs) (sym ss);
      counted = count;
      fit = rw ss tt;
    }

pub no_filter_fault : (kind : FilterKind) (policy : BloomConstructionPolicy)
    → filter_fault kind policy [] ≡ None
unfolding parts_after waiting_after
no_filter_fault FullFilter policy = refl
no_filter_fault (PartitionedFilter size) policy = refl

-- an entry that may be written next may be registered
pub can_register : {A : Type 0} (kind : FilterKind) (policy : BloomConstructionPolicy)
    (w : Option (FilterWriterImpl A)) (es : List Entry) (e : Entry) (starts : Bool)
    → IsFiltered false kind policy w es → IsStrict (es ++ e ∷ [])
    → starts ≡ starts_key (last_of None es) e
    → CanRegister kind policy w (registered_key policy starts e.user_key)
can_register kind policy w es e starts h strict s = record {
  keys = filtered_keys policy es;
  has = h.has refl;
  rising = rw s (rising_more policy es e strict);
  small = h.small;
}

-- and once it was
pub filtered_still : {A : Type 0} (kind : FilterKind) (policy : BloomConstructionPolicy)
    (w v : Option (FilterWriterImpl A)) (es xs : List Entry) (e : Entry) (starts : Bool)
    → IsFiltered false kind policy w es → xs ≡ es ++ e ∷ []
    → starts ≡ starts_key (last_of None es) e
    → ((keys : List (List ℕ)) → MayHaveKeys kind policy w keys
    → MayHaveKeys kind policy v (keys ++ registered_key policy starts e.user_key))
    → IsFiltered false kind policy v xs
filtered_still kind policy w v es xs e starts h x s more =
    let all : filtered_keys policy es ++ registered_key policy starts e.user_key
    ≡ filtered_keys policy xs = ap (λ (b : Bool). filtered_keys policy es
    ++ registered_key policy b e.user_key) s ∙ sym (filtered_more policy es e)
    ∙ ap (λ (ys : List Entry). filtered_keys policy ys) (sym x) in
    record {
      small = h.small;
      has = λ _. subst (λ (keys : List (List ℕ)). MayHaveKeys kind policy v
          keys) all (more (filtered_keys policy es) (h.has refl));
    }

-- what was refused needs none
pub filtered_not : {A : Type 0} (kind : FilterKind) (policy : BloomConstructionPolicy)
    (w : Option (FilterWriterImpl A)) (es : List Entry) → IsSmallFilter kind
    → IsFiltered true kind policy w es
filtered_not kind policy w es small = record { small = small; has = λ no. absurd cc }

-- and registering refuses nothing: no part is too large
pub no_register_fault : {A : Type 0} (kind : FilterKind) (policy : BloomConstructionPolicy)
    (w : FilterWriterImpl A) (keys : List (List ℕ)) (key : List ℕ) → HasKeys kind policy w keys
    → register_fault kind policy (given_by kind policy keys).pending key ≡ None
    → option_or (failed_fault (failed_by w)) (register_fault (kind_by w) (policy_by w)
    (given_by kind policy keys).pending key) ≡ None
no_register_fault kind policy w keys key h none = rw (h.works, h.kind_is, h.policy_is) none

-- ---- the filter writer's own words, of keys that were all given under one kind and one policy

-- a key that is greater than all may be registered
pub rises_given : {A : Type 0} (kind : FilterKind) (policy : BloomConstructionPolicy)
    (w : FilterWriterImpl A) (keys : List (List ℕ)) (key : List ℕ) → HasKeys kind policy w keys
    → AreRising (keys ++ key ∷ [])
    → Rises (HoldsBy w) key
rises_given kind policy w keys key h rising = record {
  given = given_by kind policy keys;
  held = h.holds;
  rising = subst (λ (ks : List (List ℕ)). AreRising (ks ++ key ∷ []))
      (sym (given_all kind policy keys)) rising;
}

-- once it was, the writer has it too
pub has_given : {A : Type 0} (kind : FilterKind) (policy : BloomConstructionPolicy)
    (w v : FilterWriterImpl A) (keys : List (List ℕ)) (key : List ℕ) → HasKeys kind policy w keys
    → kind_by v ≡ kind_by w → policy_by v ≡ policy_by w → failed_by v ≡ false
    → (HoldsBy w (given_by kind policy keys) → HoldsBy v
    (with_key (kind_by w) (policy_by w) (given_by kind policy keys) key))
    → HasKeys kind policy v (keys ++ key ∷ [])
has_given {A} kind policy w v keys key h same_kind same_policy works more =
    let given = given_by kind policy keys in
    let after : with_key (kind_by w) (policy_by w) given key
    ≡ given_by kind policy (keys ++ key ∷ []) =
    ap (λ (k : FilterKind). with_key k (policy_by w) given key) h.kind_is
    ∙ ap (λ (p : BloomConstructionPolicy). with_key kind p given key) h.policy_is
    ∙ given_more kind policy keys key in
    record {
      kind_is = same_kind ∙ h.kind_is;
      policy_is = same_policy ∙ h.policy_is;
      works = works;
      holds = subst (λ (x : GivenKeys). HoldsBy v x) after (more h.holds);
    }

-- the key of an entry that is registered
pub rising_now : (policy : BloomConstructionPolicy) (starts r : Bool) (keys : List (List ℕ))
    (key : List ℕ) → r ≡ (nat_lt 0 (tenths_of policy) && starts) → r ≡ true
    → AreRising (keys ++ registered_key policy starts key)
    → AreRising (keys ++ key ∷ [])
rising_now policy starts r keys key is returned rising =
    subst (λ (b : Bool). AreRising (keys ++ cond b (key ∷ []) [])) (sym is ∙ returned) rising

-- so an optional writer has it, where the call was not refused
pub registered_in : {A X : Type 0} (r : Result X Error) (kind : FilterKind)
    (policy : BloomConstructionPolicy) (o : Option (FilterWriterImpl A)) (w v : FilterWriterImpl A)
    (starts b : Bool) (key : List ℕ) → o ≡ Some w
    → b ≡ (nat_lt 0 (tenths_of policy) && starts) → b ≡ true → kind_by v ≡ kind_by w
    → policy_by v ≡ policy_by w → OnOk r (failed_by v ≡ false)
    → OnOk r ((given : GivenKeys) → HoldsBy w given
    → HoldsBy v (with_key (kind_by w) (policy_by w) given key))
    → OnOk r ((keys : List (List ℕ)) → MayHaveKeys kind policy o keys
    → MayHaveKeys kind policy (Some v) (keys ++ registered_key policy starts key))
registered_in {A} {X} (Ok x) kind policy o w v starts b key is test t same_kind same_policy works
    more = λ keys has.
    let had = subst (λ (p : Option (FilterWriterImpl A)). MayHaveKeys kind policy p keys) is has in
    subst (λ (x : Bool). MayHaveKeys kind policy (Some v) (keys ++ cond x (key ∷ []) []))
    (sym t ∙ test) (
      not_none keys key,
      has_given kind policy w v keys key had.1 same_kind same_policy works
          (more (given_by kind policy keys)),
    )
  where
    not_none : (keys : List (List ℕ)) (key : List ℕ) → keys ++ key ∷ [] ≡ [] → ⊥
    not_none [] key e = cc
    not_none (k ∷ ks) key e = cc
registered_in {A} {X} (Err e) kind policy o w v starts b key is test t same_kind same_policy works
    more = tt

-- a writer that is made has none
given_none : (kind : FilterKind) (policy : BloomConstructionPolicy)
    → given_by kind policy [] ≡ no_given
unfolding closed_after waiting_after
given_none FullFilter policy = refl
given_none (PartitionedFilter size) policy = refl

pub full_has_none : {A : Type 0} (kind : FilterKind) (policy : BloomConstructionPolicy)
    (x : FilterWriterImpl A) (w : Hashes) → kind ≡ FullFilter → x ≡ FullWriter w
    → w ≡ record { policy = policy; hashes = []; failed = false }
    → HoldsHashes w no_given → HasKeys kind policy x []
full_has_none kind policy x w k e is h =
    rw (k, e) (record {
      kind_is = refl;
      policy_is = ap (λ (y : Hashes). y.policy) is;
      works =
          ap (λ (y : Hashes). y.failed) is;
      holds = h;
    })

pub parts_have_none : {A : Type 0} (kind : FilterKind) (policy : BloomConstructionPolicy) (size : ℕ)
    (x : FilterWriterImpl A) (v : CutParts) → kind ≡ PartitionedFilter size
    → x ≡ PartitionedWriter v
    → PartitionedFilter v.size ≡ PartitionedFilter size → v.policy ≡ policy → v.failed ≡ false
    → HoldsParts v no_given → HasKeys kind policy x []
parts_have_none {A} kind policy size x v k e sized same works h =
    let holds : HoldsParts v (given_by (PartitionedFilter size) policy []) =
    subst (λ (given : GivenKeys). HoldsParts v given)
    (sym (given_none (PartitionedFilter size) policy)) h in
    rw (k, e) (record { kind_is = sized; policy_is = same; works = works; holds = holds })

-- and the first key may be registered
pub first_rises : {A : Type 0} (kind : FilterKind) (policy : BloomConstructionPolicy)
    (w : FilterWriterImpl A) (keys : List (List ℕ)) (key : List ℕ) → HasKeys kind policy w []
    → keys ≡ [] → AreRising (keys ++ key ∷ [])
    → Rises (HoldsBy w) key
first_rises kind policy w keys key h none rising =
    rises_given kind policy w [] key h (subst (λ (ks : List (List ℕ)). AreRising (ks ++ key ∷ []))
    none rising)

-- once it was, a writer that is there from then on has it
pub registered_first : {A : Type 0} (kind : FilterKind) (policy : BloomConstructionPolicy)
    (o : Option (FilterWriterImpl A)) (v : FilterWriterImpl A) (starts r : Bool)
    (keys : List (List ℕ)) (key : List ℕ) → o ≡ Some v → keys ≡ []
    → r ≡ (nat_lt 0 (tenths_of policy) && starts) → r ≡ true → HasKeys kind policy v (key ∷ [])
    → MayHaveKeys kind policy o (keys ++ registered_key policy starts key)
registered_first {A} kind policy o v starts r keys key e none is returned h =
    let some : key ∷ [] ≡ [] → ⊥ = λ no. absurd cc in
    let one : MayHaveKeys kind policy (Some v) (keys ++ key ∷ []) =
    subst (λ (ks : List (List ℕ)). MayHaveKeys kind policy (Some v) (ks ++ key ∷ [])) (sym none)
    (some, h) in
    let all : MayHaveKeys kind policy (Some v) (keys ++ registered_key policy starts key) =
    subst (λ (b : Bool). MayHaveKeys kind policy (Some v) (keys ++ cond b (key ∷ []) []))
    (sym returned ∙ is) one in
    subst (λ (p : Option (FilterWriterImpl A)). MayHaveKeys kind policy p
    (keys ++ registered_key policy starts key)) (sym e) all

-- what finishing writes, and refuses
pub finish_given : {A : Type 0} (r : Result ℕ Error) (kind : FilterKind)
    (policy : BloomConstructionPolicy) (w : FilterWriterImpl A) (before after : Written)
    → IfOk r (λ n. (given : GivenKeys) → HoldsBy w given
    → WritesParts (kind_by w) (policy_by w) given before after n)
    → IfOk r (λ n. (keys : List (List ℕ)) → HasKeys kind policy w keys
    → WritesFilter kind policy keys before after n)
finish_given (Ok n) kind policy w before after writes = λ keys h.
    writes_same kind policy keys before after n
    (subst (λ (p : BloomConstructionPolicy). WritesParts kind p
    (given_by kind policy keys) before after n) h.policy_is
    (subst (λ (k : FilterKind). WritesParts k (policy_by w)
    (given_by kind policy keys) before after n) h.kind_is
    (writes (given_by kind policy keys) h.holds)))
finish_given (Err e) kind policy w before after writes = tt

pub finish_in : {A : Type 0} (r : Result ℕ Error) (kind : FilterKind)
    (policy : BloomConstructionPolicy) (o : Option (FilterWriterImpl A)) (w : FilterWriterImpl A)
    (before after : Written) → o ≡ Some w
    → IfOk r (λ n. (given : GivenKeys) → HoldsBy w given
    → WritesParts (kind_by w) (policy_by w) given before after n)
    → IfOk r (λ n. (keys : List (List ℕ)) → MayHaveKeys kind policy o keys
    → WritesFilter kind policy keys before after n)
finish_in {A} (Ok n) kind policy o w before after is writes = λ keys has.
    let had = subst (λ (p : Option (FilterWriterImpl A)). MayHaveKeys kind policy p keys) is has in
    finish_given (Ok n) kind policy w before after writes keys had.1
finish_in {A} (Err e) kind policy o w before after is writes = tt

pub finish_refuses : {A : Type 0} (r : Result ℕ Error) (kind : FilterKind)
    (policy : BloomConstructionPolicy) (w : FilterWriterImpl A) (keys : List (List ℕ))
    → HasKeys kind policy w keys
    → ((given : GivenKeys) → HoldsBy w given → Faults r
    (option_or (failed_fault (failed_by w)) (given_fault (kind_by w) (policy_by w) given)))
    → Faults r (filter_fault kind policy keys)
finish_refuses r kind policy w keys h refused =
    let given = given_by kind policy keys in
    let returned : option_or (failed_fault (failed_by w)) (given_fault (kind_by w) (policy_by w) given)
    ≡ filter_fault kind policy keys = rw (h.works, h.kind_is, h.policy_is)
    (fault_same kind policy keys) in
    subst (λ (f : Option Error). Faults r f) returned (refused given h.holds)

-- ---- the steps of writing an entry

-- whether it starts its key is what was counted of it
starts_is : {A : Type 0} (cut : List (List Entry)) (pending : List Entry) (e : Entry)
    (last : Option Entry) (first : Option (List ℕ)) (t : Tally A) → last ≡ last_of None (joined cut)
    → t ≡ tally_of (last_of last pending) e first
    → t.starts_key ≡ starts_key (last_of None (joined cut ++ pending)) e
starts_is {A} cut pending e last first t l is =
    ap (λ (x : Tally A). x.starts_key) is ∙ ap (λ (x : Option Entry). starts_key
    (last_of x pending) e) l ∙ ap (λ (x : Option Entry). starts_key x e)
    (sym (last_of-append None (joined cut) pending))

pub may_register : {A : Type 0} (failed : Bool) (kind : FilterKind)
    (policy : BloomConstructionPolicy) (w : Option (FilterWriterImpl A)) (cut : List (List Entry))
    (pending : List Entry) (e : Entry) (last : Option Entry) (first : Option (List ℕ)) (t : Tally A)
    (key : List ℕ)
    → IsFiltered failed kind policy w (joined cut ++ pending) → failed ≡ false
    → IsStrict (joined cut ++ pending) → IsTrue
    (may_be_written (joined cut ++ pending) e.user_key e.seqno)
    → last ≡ last_of None (joined cut) → t ≡ tally_of (last_of last pending) e first
    → e.user_key ≡ key
    → CanRegister kind policy w (registered_key policy t.starts_key key)
may_register {A} failed kind policy w cut pending e last first t key h works strict next l is k =
    let es = joined cut ++ pending in
    let now = subst (λ (b : Bool). IsFiltered b kind policy w es) works h in
    subst (λ (x : List ℕ). CanRegister kind policy w (registered_key policy t.starts_key x)) k
    (can_register kind policy w es e t.starts_key now (strict_gained es e strict next)
    (starts_is cut pending e last first t l is))

pub registered_now : {A : Type 0} (failed : Bool) (kind : FilterKind)
    (policy : BloomConstructionPolicy) (w v : Option (FilterWriterImpl A)) (cut : List (List Entry))
    (pending items : List Entry) (e : Entry) (last : Option Entry) (first : Option (List ℕ))
    (t : Tally A) (key : List ℕ)
    → IsFiltered failed kind policy w (joined cut ++ pending) → failed ≡ false
    → last ≡ last_of None (joined cut) → t ≡ tally_of (last_of last pending) e first
    → e.user_key ≡ key → items ≡ pending ++ e ∷ []
    → ((keys : List (List ℕ)) → MayHaveKeys kind policy w keys
    → MayHaveKeys kind policy v (keys ++ registered_key policy t.starts_key key))
    → IsFiltered false kind policy v (joined cut ++ items)
registered_now {A} failed kind policy w v cut pending items e last first t key h works l is k i
    more =
    let es = joined cut ++ pending in
    let now = subst (λ (b : Bool). IsFiltered b kind policy w es) works h in
    let all : joined cut ++ items ≡ es ++ e ∷ [] = ap (λ (xs : List Entry). joined cut ++ xs) i
    ∙ sym (append_assoc (joined cut) pending (e ∷ [])) in
    let step = subst (λ (x : List ℕ). (keys : List (List ℕ)) → MayHaveKeys kind policy w keys
    → MayHaveKeys kind policy v (keys ++ registered_key policy t.starts_key x)) (sym k) more in
    filtered_still kind policy w v es (joined cut ++ items) e t.starts_key now all
    (starts_is cut pending e last first t l is) step

-- the same once its block was cut
rest_joined : (cut : List (List Entry)) (items : List Entry)
    → joined (cut ++ rest_chunk items) ++ [] ≡ joined cut ++ items
rest_joined cut [] = append-nil (joined (cut ++ [])) ∙ ap joined (append-nil cut)
    ∙ sym (append-nil (joined cut))
rest_joined cut (x ∷ xs) = append-nil (joined (cut ++ (x ∷ xs) ∷ [])) ∙ joined_more cut (x ∷ xs)

pub filtered_cut : {A : Type 0} (kind : FilterKind) (policy : BloomConstructionPolicy)
    (w : Option (FilterWriterImpl A)) (cut new : List (List Entry)) (items : List Entry)
    → IsFiltered false kind policy w (joined cut ++ items) → new ≡ cut ++ rest_chunk items
    → IsFiltered false kind policy w (joined new ++ [])
filtered_cut kind policy w cut new items h n =
    subst (λ (es : List Entry). IsFiltered false kind policy w es)
    (sym (rest_joined cut items) ∙ ap (λ (cs : List (List Entry)). joined cs ++ []) (sym n)) h
