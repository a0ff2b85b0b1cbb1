-- Which heads go, and what is lent of lists without errors.
use Rattle.std.proofs.Common.{◌≡◌, refl, sym, ◌∙◌, ap, ℕ, Bool, true, false, cond}
use Rattle.std.proofs.Common.{◌&&◌, nat_lt, List, [], ◌∷◌, ◌++◌}
use Rattle.std.specs.Prelude.{Option, Some, None, Ok}
use Rattle.std.proofs.Math.Bool.{and-true, and-false}
use Rattle.std.specs.List.{AllByRecursion}
use Rattle.sst_entries.specs.Entry.{Entry}
use Rattle.sst_entries.specs.Key.{same_key}
use Rattle.sst_entries.specs.Kind.{is_tombstone_kind, is_weak_kind}
use Rattle.sst_entries.specs.Stream.{first, ok_results}
use Rattle.sst_entries.specs.declared.error.Error.{Error}
use Rattle.sst_entries.specs.declared.value_type.ValueType.{ValueType}
use Rattle.sst_entries.specs.declared.value_type.ValueType.TheVariants.{Value, Tombstone}
use Rattle.sst_entries.specs.declared.value_type.ValueType.TheVariants.{WeakTombstone, Indirection}
use Rattle.lsm_sorted.specs.merge.Ends.{R}
use Rattle.lsm_sorted.specs.declared.compaction.Rules.{Rules}
use Rattle.lsm_sorted.specs.Newest.{after_key}
use Rattle.lsm_sorted.specs.Compaction.{goes, given, Versions, before, by_key}
use Rattle.lsm_sorted.specs.Compaction.{error_of, entries, heads, expired, concat_by, as_is}
use Rattle.lsm_sorted.specs.Compaction.{is_value}
use Rattle.lsm_sorted.specs.Compaction.{unfiltered, as_they_are, Judged, outs_of, kept, gone}
use Rattle.lsm_sorted.specs.Compaction.{is_version_of}
use Rattle.lsm_sorted.specs.lending.LentCompaction.{has_to_wait, gone_of_lent, lent_outs_of}
use Rattle.lsm_sorted.specs.lending.LentCompaction.{lent_outs}
use Rattle.lsm_sorted.proofs.WholeLemmas.{outs_unfiltered}

-- ---- by kinds

pub goes_alone : (evict : Bool) (kind : ValueType) → goes evict kind None
    ≡ evict && is_tombstone_kind kind
goes_alone evict Value = sym (and-false evict)
goes_alone evict Tombstone = sym (and-true evict)
goes_alone evict WeakTombstone = sym (and-true evict)
goes_alone evict Indirection = sym (and-false evict)

pub goes_strong : (evict : Bool) (kind : ValueType) (next : Option Entry) → is_weak_kind kind ≡
    false → goes evict kind next ≡ evict && is_tombstone_kind kind
goes_strong evict Value next h = sym (and-false evict)
goes_strong evict Tombstone next h = sym (and-true evict)
goes_strong evict WeakTombstone next h = cc
goes_strong evict Indirection next h = sym (and-false evict)

pub goes_weak : (evict : Bool) (kind : ValueType) (next : Entry) → is_weak_kind kind ≡ true
    → goes evict kind (Some next) ≡ is_value next.kind
goes_weak evict Value next h = cc
goes_weak evict Tombstone next h = cc
goes_weak evict WeakTombstone next h = refl
goes_weak evict Indirection next h = cc

weak_is : (kind : ValueType) → is_weak_kind kind ≡ true → is_tombstone_kind kind ≡ true
weak_is Value h = cc
weak_is Tombstone h = refl
weak_is WeakTombstone h = refl
weak_is Indirection h = cc

both : (a b : Bool) → a && b ≡ true → (a ≡ true) × (b ≡ true)
both true true h = (refl, refl)
both true false h = cc
both false b h = cc

module _ (rules : Rules) (x : Entry) (waits : has_to_wait rules x ≡ true) where
  dies : is_tombstone_kind x.kind ≡ true
  dies = elim (nat_lt x.seqno rules.watermark) as (λ b. cond b (is_weak_kind x.kind)
      (rules.evict && is_tombstone_kind x.kind) ≡ true → is_tombstone_kind x.kind ≡ true) [
        | true ↦ λ h. weak_is x.kind h
        | false ↦ λ h. (both rules.evict (is_tombstone_kind x.kind) h).1
      ] waits

  -- the last head of its key that waits goes where tombstones may
  pub last_goes : goes rules.evict x.kind None ≡ rules.evict
  last_goes = goes_alone rules.evict x.kind ∙ ap (λ (b : Bool). rules.evict && b) dies
      ∙ and-true rules.evict

-- an entry that is hidden
pub hidden_skips : (key : List ℕ) (y : Entry) (rs : List R) → same_key y.user_key key ≡ true
    → after_key key (Ok y ∷ rs) ≡ after_key key rs
hidden_skips key y rs h = ap (λ (b : Bool). cond b (after_key key rs) (Ok y ∷ rs)) h

pub hidden_stops : (key : List ℕ) (y : Entry) (rs : List R) → same_key y.user_key key ≡ false
    → after_key key (Ok y ∷ rs) ≡ Ok y ∷ rs
hidden_stops key y rs h = ap (λ (b : Bool). cond b (after_key key rs) (Ok y ∷ rs)) h

-- ---- lists without errors

-- no error follows the versions of a key
abbrev pub Calm : List Versions → Type 0
Calm vs = AllByRecursion (λ v. v.error ≡ None) vs

pub calm_before : (j : Judged) (vs : List Versions) → Calm vs → Calm (before j vs)
calm_before j [] h = (refl, tt)
calm_before j (v ∷ vs) h = elim (is_version_of v.versions j) as (λ b. Calm
    (cond b (record { versions = j ∷ v.versions; error = v.error } ∷ vs)
    (record { versions = j ∷ []; error = None } ∷ v ∷ vs))) [ true ↦ h | false ↦ (refl, h) ]

calm_keys : (xs : List Entry) → Calm (by_key (as_they_are (ok_results xs)))
calm_keys [] = tt
calm_keys (x ∷ xs) = calm_before (as_is x) (by_key (as_they_are (ok_results xs))) (calm_keys xs)

module _ (rules : Rules) where
  calm_given : (next : Option Entry) (hs : List Judged)
      → given rules (gone_of_lent rules next None) hs ≡ given rules (gone rules next None) hs
  calm_given None hs = refl
  calm_given (Some n) hs = refl

  pub calm_outs : (vs : List Versions) → Calm vs
      → concat_by (lent_outs_of rules) vs ≡ concat_by (outs_of rules) vs
  calm_outs [] h = refl
  calm_outs (v ∷ vs) h =
      let next : Option Entry = first (entries (expired rules.watermark v.versions)) in
      let hs : List Judged = heads rules.watermark v.versions in
      ap (λ (ys : List R). lent_outs_of rules v ++ ys) (calm_outs vs h.1)
      ∙ ap (λ (ys : List R). ys ++ concat_by (outs_of rules) vs)
      (ap (λ (o : Option Error). given rules (gone_of_lent rules next o) hs ++ error_of o) h.0
      ∙ ap (λ (ys : List R). ys ++ []) (calm_given next hs)
      ∙ sym (ap (λ (o : Option Error). given rules (gone rules next o) hs ++ error_of o) h.0))

  -- they are what a compaction keeps
  pub lent_kept : (xs : List Entry)
      → lent_outs rules (ok_results xs) ≡ ok_results (kept rules (unfiltered xs))
  lent_kept xs = calm_outs (by_key (as_they_are (ok_results xs))) (calm_keys xs)
      ∙ outs_unfiltered rules xs
