-- What a no of a filter says: no entry of the list has the key.
use Rattle.std.proofs.Common.{◌≡◌, ℕ, Bool, true, false, cond, List, [], ◌∷◌, map, refl, sym, ap}
use Rattle.std.proofs.Common.{subst, ◌∙◌, ◌⊎◌, inl, inr}
use Rattle.std.specs.Prelude.{Option, Some, None, find, ◌||◌, ◌==◌, nat_lt}
use Rattle.std.specs.List.{list_any}
use Rattle.std.proofs.lemmas.Cmp.{nat_eq_equiv}
use Rattle.sst_blocks.specs.filter.KeyHash.{hash_of}
use Rattle.sst_entries.specs.Entry.{Entry}
use Rattle.sst_entries.specs.Key.{same_key}
use Rattle.sst_entries.specs.Point.{is_hit}
use Rattle.sst_entries.proofs.Booleans.{and_left, not_not, or_right}
use Rattle.sst_entries.proofs.KeyLemmas.{same_is}
use Rattle.sst_blocks.specs.filter.Filter.{is_in}
use Rattle.sst_blocks.specs.table.Facts.{starts_key}
use Rattle.sst_blocks.specs.table.Filters.{keys_after, keys_of}

-- a key is in a list of keys
abbrev pub has_key : List ℕ → List (List ℕ) → Bool
has_key key keys = list_any (λ k. same_key k key) keys

pub in_front : (key k : List ℕ) (ks : List (List ℕ)) → same_key k key ≡ true
    → has_key key (k ∷ ks) ≡ true
in_front key k ks h = rw h refl

pub in_rest : (key k : List ℕ) (ks : List (List ℕ)) → has_key key ks ≡ true
    → has_key key (k ∷ ks) ≡ true
in_rest key k ks h = or_right (same_key k key) (has_key key ks) h

-- the entry before has the key
abbrev HasKey : Option Entry → List ℕ → Type 0
HasKey None key = ⊥
HasKey (Some e) key = same_key e.user_key key ≡ true

key_hit : (key : List ℕ) (bound : ℕ) (e : Entry) → is_hit key bound e ≡ true
    → same_key e.user_key key ≡ true
key_hit key bound e h = and_left (same_key e.user_key key) (nat_lt e.seqno bound) h

-- an entry of the key starts it, or the one before has it
started : (before : Option Entry) (e : Entry) (key : List ℕ) (rest : List (List ℕ)) (b : Bool)
    → starts_key before e ≡ b → same_key e.user_key key ≡ true
    → (has_key key (cond b (e.user_key ∷ rest) rest) ≡ true) ⊎ HasKey before key
started before e key rest true s h = inl (in_front key e.user_key rest h)
started None e key rest false s h = absurd cc
started (Some x) e key rest false s h =
    let same : same_key x.user_key e.user_key ≡ true = not_not (same_key x.user_key e.user_key) s in
    inr (subst (λ (k : List ℕ). same_key k key ≡ true) (sym (same_is x.user_key e.user_key same)) h)

kept_by : (b : Bool) (k key : List ℕ) (rest : List (List ℕ)) → has_key key rest ≡ true
    → has_key key (cond b (k ∷ rest) rest) ≡ true
kept_by true k key rest h = in_rest key k rest h
kept_by false k key rest h = h

keys_cover : (before : Option Entry) (es : List Entry) (key : List ℕ) (bound : ℕ) (e : Entry)
    → find (is_hit key bound) es ≡ Some e → (has_key key (keys_after before es) ≡ true)
    ⊎ HasKey before key
unfolding keys_after
keys_cover before [] key bound e h = absurd cc
keys_cover before (x ∷ xs) key bound e h =
    elim (is_hit key bound x) as (λ b. is_hit key bound x ≡ b
    → (has_key key (cond (starts_key before x) (x.user_key ∷ keys_after (Some x) xs)
    (keys_after (Some x) xs)) ≡ true) ⊎ HasKey before key) [
      | true ↦ λ hit. started before x key (keys_after (Some x) xs) (starts_key before x) refl
          (key_hit key bound x hit)
      | false ↦ λ missed.
          let rest : find (is_hit key bound) xs ≡ Some e =
          sym (ap (λ (b : Bool). cond b (Some x) (find (is_hit key bound) xs)) missed) ∙ h in
          elim (keys_cover (Some x) xs key bound e rest) [
            | inl in_keys ↦ inl (kept_by (starts_key before x) x.user_key key
                (keys_after (Some x) xs) in_keys)
            | inr same ↦ started before x key (keys_after (Some x) xs)
                (starts_key before x) refl same
          ]
    ] refl

-- a key that is none of the list's keys has no entry
pub no_entry : (es : List Entry) (key : List ℕ) (bound : ℕ) → has_key key (keys_of es) ≡ false
    → find (is_hit key bound) es ≡ None
no_entry es key bound h =
    elim (find (is_hit key bound) es) as (λ o. find (is_hit key bound) es ≡ o → o ≡ None) [
      | None ↦ λ e. refl
      | Some x ↦ λ e. elim (keys_cover None es key bound x e) [
        | inl in_keys ↦ absurd (let no : true ≡ false = sym in_keys ∙ h in cc)
        | inr none ↦ absurd none
      ]
    ] refl

-- the hash of a key of the list is one of their hashes
pub hash_in : (key : List ℕ) (keys : List (List ℕ)) → has_key key keys ≡ true
    → is_in (hash_of key) (map hash_of keys) ≡ true
hash_in key [] h = absurd cc
hash_in key (k ∷ ks) h =
    elim (same_key k key) as (λ b. same_key k key ≡ b
    → is_in (hash_of key) (map hash_of (k ∷ ks)) ≡ true) [
      | true ↦ λ same.
          let equal : (hash_of k == hash_of key) ≡ true =
          ap (λ (x : List ℕ). hash_of x == hash_of key) (same_is k key same)
          ∙ nat_eq_equiv.refl (hash_of key) in
          rw equal refl
      | false ↦ λ other.
          let rest : has_key key ks ≡ true = sym (ap (λ (b : Bool). b || has_key key ks) other)
          ∙ h in
          or_right (hash_of k == hash_of key) (is_in (hash_of key) (map hash_of ks))
          (hash_in key ks rest)
    ] refl
