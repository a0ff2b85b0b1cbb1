-- The keys of a list, each once: one entry more, and that they rise.
use Rattle.std.proofs.Common.{◌≡◌, refl, ap, subst, ℕ, Bool, true, false, cond, List, [], ◌∷◌, ◌++◌}
use Rattle.std.proofs.Common.{map}
use Rattle.std.specs.Prelude.{Option, Some, None, nat_lt, ◌&&◌, if◌then◌else◌}
use Rattle.sst_entries.specs.Entry.{Entry}
use Rattle.sst_entries.specs.Strict.{IsStrictAfter, IsStrict, last_of}
use Rattle.sst_blocks.specs.declared.filter.policy.BloomConstructionPolicy.{BloomConstructionPolicy}
use Rattle.sst_blocks.specs.filter.Policy.{tenths_of}
use Rattle.sst_blocks.specs.table.Facts.{starts_key}
use Rattle.sst_blocks.specs.table.Filters.{keys_after, keys_of, filtered_keys}
use Rattle.sst_blocks.proofs.KeyLaws.{key_end, keys_strict}
use Rattle.lsm_writers.specs.section.Rising.{AreRising}
use Rattle.lsm_writers.specs.Filtering.{registered_key}

-- the key of an entry that starts it
abbrev pub started_key : Bool → List ℕ → List (List ℕ)
started_key starts key = if starts then key ∷ [] else []

front_if : (b : Bool) (key : List ℕ) (xs ys zs : List (List ℕ)) → xs ≡ ys ++ zs
    → cond b (key ∷ xs) xs ≡ cond b (key ∷ ys) ys ++ zs
front_if true key xs ys zs h = ap (λ ks. key ∷ ks) h
front_if false key xs ys zs h = h

pub keys_more : (before : Option Entry) (es : List Entry) (e : Entry)
    → keys_after before (es ++ e ∷ []) ≡ keys_after before es
    ++ started_key (starts_key (last_of before es) e) e.user_key
unfolding keys_after last_of
keys_more before [] e = refl
keys_more before (x ∷ es) e = front_if (starts_key before x) x.user_key _ _ _
    (keys_more (Some x) es e)

-- ---- the keys that a filter has

abbrev pub is_active : BloomConstructionPolicy → Bool
is_active policy = nat_lt 0 (tenths_of policy)

more_by : (a s : Bool) (keys all : List (List ℕ)) (key : List ℕ) → all ≡ keys ++ started_key s key
    → cond a all [] ≡ cond a keys [] ++ started_key (a && s) key
more_by true s keys all key h = h
more_by false s keys all key h = refl

-- one entry more brings its key, where it starts one and filters are written
pub filtered_more : (policy : BloomConstructionPolicy) (es : List Entry) (e : Entry)
    → filtered_keys policy (es ++ e ∷ []) ≡ filtered_keys policy es
    ++ registered_key policy (starts_key (last_of None es) e) e.user_key
filtered_more policy es e = more_by (is_active policy) (starts_key (last_of None es) e) (keys_of es)
    (keys_of (es ++ e ∷ [])) e.user_key (keys_more None es e)

rise_if : (a : Bool) (keys : List (List ℕ)) → IsStrict (map key_end keys)
    → IsStrict (map key_end (cond a keys []))
unfolding IsStrictAfter
rise_if true keys h = h
rise_if false keys h = tt

pub filtered_rise : (policy : BloomConstructionPolicy) (es : List Entry) → IsStrict es
    → IsStrict (map key_end (filtered_keys policy es))
filtered_rise policy es h = rise_if (is_active policy) (keys_of es) (keys_strict es h)

-- so the keys rise with it
pub rising_more : (policy : BloomConstructionPolicy) (es : List Entry) (e : Entry)
    → IsStrict (es ++ e ∷ []) → AreRising (filtered_keys policy es
    ++ registered_key policy (starts_key (last_of None es) e) e.user_key)
rising_more policy es e h = subst (λ (keys : List (List ℕ)). AreRising keys)
    (filtered_more policy es e) (filtered_rise policy (es ++ e ∷ []) h)
