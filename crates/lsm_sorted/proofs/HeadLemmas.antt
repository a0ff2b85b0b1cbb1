-- The heads of the queue: by their prefixes they are in the order of what their sources lend.
use Rattle.std.proofs.Common.{◌≡◌, refl, sym, ◌∙◌, ap, subst, ℕ, zero, suc, ◌<◌, Bool, true}
use Rattle.std.proofs.Common.{false, cond, List, [], ◌∷◌, length, map, get_or, ◌-◌, arith}
use Rattle.std.proofs.Common.{slice_set}
use Rattle.std.specs.Prelude.{All, Option, Some, None, is_some, nat_lt, slice_get, ◌==◌}
use Rattle.std.specs.Option.{option_map}
use Rattle.std.specs.List.{AllByRecursion, insert}
use Rattle.std.specs.List.Sorted.{IsPartitionedBy, IsPartitionPoint}
use Rattle.std.specs.Cmp.Lexicographic.{slice_cmp}
use Rattle.std.specs.Int.{w128, from_be_bytes}
use Rattle.std.specs.Ordering.{nat_cmp}
use Rattle.std.specs.declared.cmp.Ordering.TheVariants.{Less}
use Rattle.std.proofs.lemmas.Bool.Decides.{nat_tests}
use Rattle.std.proofs.lemmas.List.{get_or-map, length-map}
use Rattle.std.proofs.lemmas.List.Elements.{All-from_recursion, recursion_from_All}
use Rattle.sst_entries.specs.Entry.{Entry}
use Rattle.lsm_sorted.specs.declared.lending_merger.Head.{Head}
use Rattle.lsm_sorted.specs.lending.Lent.{goes_before, sorts_before, is_queued, is_turn, lent_of}
use Rattle.lsm_sorted.specs.lending.Lent.{source_of}
use Rattle.lsm_sorted.specs.lending.Lent.{IsHead, IsPrefix, IsQueue}
use Rattle.lsm_sorted.proofs.LentLemmas.{lent_other}
use Rattle.lsm_sorted.proofs.PrefixLemmas.{prefix_less}
use Rattle.lsm_sorted.proofs.QueueLemmas.{ahead, all_put_in, no_return, not_among, put_queue}
use Rattle.lsm_sorted.proofs.QueueLemmas.{queue_partitioned}

-- ---- two heads

-- a smaller prefix goes first
prefix_turn : (x y : Entry) (i j m n : ℕ) → IsPrefix m x.user_key → IsPrefix n y.user_key → m < n
    → is_turn x i y j ≡ true
prefix_turn x y i j m n hx hy lt =
    let less : slice_cmp nat_cmp x.user_key y.user_key ≡ Less =
    prefix_less x.user_key y.user_key hx.bytes hy.bytes
    (subst (λ (k : ℕ). k < from_be_bytes w128 y.user_key) hx.number (subst (λ (k : ℕ). m < k) hy.number lt)) in
    rw less refl

by_prefix : (x y : Entry) (i j m n : ℕ) → IsPrefix m x.user_key → IsPrefix n y.user_key
    → (m == n) ≡ false → nat_lt m n ≡ is_turn x i y j
by_prefix x y i j m n hx hy differ = go (nat_lt m n) refl
  where
    go : (b : Bool) → nat_lt m n ≡ b → b ≡ is_turn x i y j
    go true e = sym (prefix_turn x y i j m n hx hy (grind (arith, nat_tests, e)))
    go false e = sym (no_return x y i j
        (prefix_turn y x j i n m hy hx (grind (arith, nat_tests, e, differ))))

agree : (at : ℕ → Option Entry) (h k : Head) → IsHead at h → IsHead at k
    → (o p : Option Entry) → at h.source ≡ o → at k.source ≡ p → is_some o ≡ true → is_some p ≡ true
    → sorts_before o h p k ≡ goes_before o h.source p k.source
agree at h k hh hk None p eo ep so sp = cc
agree at h k hh hk (Some x) None eo ep so sp = cc
agree at h k hh hk (Some x) (Some y) eo ep so sp = go (h.prefix == k.prefix) refl
  where
    go : (b : Bool) → (h.prefix == k.prefix) ≡ b
        → cond b (is_turn x h.source y k.source) (nat_lt h.prefix k.prefix)
        ≡ is_turn x h.source y k.source
    go true e = refl
    go false e = by_prefix x y h.source k.source h.prefix k.prefix (hh.prefix x eo) (hk.prefix y ep)
        e

-- ---- the queue of heads

queue_some : (at : ℕ → Option Entry) (qs : List ℕ) → IsQueue at qs → (k : ℕ) → k < length qs
    → is_some (at (get_or qs k 0)) ≡ true
queue_some at [] h k lt = absurd (omega arith)
queue_some at (q ∷ qs) h zero lt = h.0
queue_some at (q ∷ qs) h (suc k) lt = queue_some at qs h.2 k (omega arith)

pub got_source : (hs : List Head) (k : ℕ)
    → option_map source_of (slice_get hs k) ≡ slice_get (map source_of hs) k
got_source [] k = refl
got_source (h ∷ hs) zero = refl
got_source (h ∷ hs) (suc k) = got_source hs k

got_head : (hs : List Head) (k : ℕ) (h : Head) → slice_get hs k ≡ Some h
    → (k < length hs) × (get_or hs k h ≡ h)
got_head [] k h e = cc
got_head (g ∷ hs) zero h e = (omega arith, cc)
got_head (g ∷ hs) (suc k) h e = let more = got_head hs k h e in (omega (arith, more.0), more.1)

pub map_insert : (hs : List Head) (p : ℕ) (h : Head)
    → map source_of (insert hs p h) ≡ insert (map source_of hs) p h.source
map_insert hs zero h = refl
map_insert [] (suc p) h = refl
map_insert (g ∷ hs) (suc p) h = ap (λ (qs : List ℕ). g.source ∷ qs) (map_insert hs p h)

module _ (at : ℕ → Option Entry) (h : Head) (hs : List Head) (heads : All (IsHead at) hs)
    (own : IsHead at h) (some : is_some (at h.source) ≡ true)
    (queue : IsQueue at (map source_of hs)) where
  abbrev passes : Head → Bool
  passes k = sorts_before (at h.source) h (at k.source) k

  abbrev goes : ℕ → Bool
  goes q = goes_before (at h.source) h.source (at q) q

  -- a head of the queue goes as its source does
  agrees : (k : ℕ) (d : Head) → k < length hs
      → passes (get_or hs k d) ≡ goes (get_or (map source_of hs) k 0)
  agrees k d lt =
      let is : get_or (map source_of hs) k 0 ≡ (get_or hs k d).source =
      get_or-map source_of hs k d 0 lt in
      let lends : is_some (at (get_or hs k d).source) ≡ true =
      subst (λ (q : ℕ). is_some (at q) ≡ true) is
      (queue_some at (map source_of hs) queue k (omega (arith, length-map hs source_of, lt))) in
      agree at h (get_or hs k d) own (heads k d lt) (at h.source) (at (get_or hs k d).source) refl
      refl some lends
      ∙ ap goes (sym is)

  pub heads_partitioned : IsPartitionedBy passes hs
  heads_partitioned k l d le lt p = agrees k d (omega (arith, le, lt))
      ∙ queue_partitioned at h.source (map source_of hs) queue k l 0 le
      (omega (arith, length-map hs source_of, lt)) (sym (agrees l d lt) ∙ p)

  pub head_belongs : (p : ℕ) → is_queued h.source (map source_of hs) ≡ false
      → IsPartitionPoint (λ k. passes k ≡ true) (λ k. passes k ≡ false) hs p
      → IsQueue at (insert (map source_of hs) p h.source)
  head_belongs p apart point =
      let long : length (map source_of hs) ≡ length hs = length-map hs source_of in
      put_queue at h.source p (map source_of hs) queue some apart
      (λ k lt within. sym (agrees k h (omega (arith, long, within)))
      ∙ point.0 k h (omega arith) lt)
      (λ k le within. sym (agrees k h (omega (arith, long, within)))
      ∙ point.1 k h le (omega (arith, long, within)))

  pub head_ahead : (p : ℕ) (k : Head) → is_queued h.source (map source_of hs) ≡ false
      → p ≡ length hs → slice_get hs (length hs - 1) ≡ Some k → passes k ≡ true
      → IsQueue at (insert (map source_of hs) p h.source)
  head_ahead p k apart long last first =
      let found = got_head hs (length hs - 1) k last in
      let is : passes k ≡ goes k.source = subst (λ (g : Head). passes g ≡ goes g.source) found.1
      (agrees (length hs - 1) k found.0
      ∙ ap goes (get_or-map source_of hs (length hs - 1) k 0 found.0)) in
      ahead at h.source p k.source (map source_of hs) queue some apart
      (long ∙ sym (length-map hs source_of))
      (ap (λ (n : ℕ). slice_get (map source_of hs) (n - 1)) (length-map hs source_of)
      ∙ sym (got_source hs (length hs - 1)) ∙ ap (option_map source_of) last)
      (sym is ∙ first)

-- ---- heads that stay

heads_other : {S : Type 0} (lent : S → Option Entry) (ss : List S) (i : ℕ) (t : S) (hs : List Head)
    → is_queued i (map source_of hs) ≡ false → AllByRecursion (IsHead (lent_of lent ss)) hs
    → AllByRecursion (IsHead (lent_of lent (slice_set ss i t))) hs
heads_other lent ss i t [] apart all = tt
heads_other lent ss i t (h ∷ hs) apart all =
    let other = not_among i h.source (map source_of hs) apart in (
      record {
        prefix = λ x is. all.0.prefix x (sym (lent_other lent ss i h.source t other.0) ∙ is);
      },
      heads_other lent ss i t hs other.1 all.1,
    )

-- a source that is not in the queue goes on
pub heads_stay : {S : Type 0} (lent : S → Option Entry) (ss : List S) (i : ℕ) (t : S)
    (hs : List Head) → is_queued i (map source_of hs) ≡ false
    → All (IsHead (lent_of lent ss)) hs → All (IsHead (lent_of lent (slice_set ss i t))) hs
heads_stay lent ss i t hs apart all = All-from_recursion (IsHead (lent_of lent (slice_set ss i t)))
    hs (heads_other lent ss i t hs apart (recursion_from_All (IsHead (lent_of lent ss)) hs all))

pub heads_put : (at : ℕ → Option Entry) (hs : List Head) (p : ℕ) (h : Head) → IsHead at h
    → All (IsHead at) hs → All (IsHead at) (insert hs p h)
heads_put at hs p h own all = All-from_recursion (IsHead at) (insert hs p h)
    (all_put_in (IsHead at) h p hs own (recursion_from_All (IsHead at) hs all))
