-- A store reads as the same history after its runs are compacted or packed.
use Rattle.std.proofs.Common.{◌≡◌, ◌≢◌, refl, sym, ◌∙◌, ap, subst, ℕ, ◌<◌, ◌≤◌, inr, List, []}
use Rattle.std.proofs.Common.{◌∷◌, ◌++◌, append-nil, count_by, length, arith}
use Rattle.std.specs.Prelude.{All, IfSome, IsPermutation, MatchOption, None, Option, Some}
use Rattle.std.specs.List.{AllByRecursion, flat_map}
use Rattle.std.proofs.lemmas.List.Elements.{All-from_recursion, All-head, All-tail}
use Rattle.std.proofs.lemmas.List.Sorted.{All-permutation}
use Rattle.lsm_tables.specs.Words.{AllNewer, AreCompactable, AreReplaced, Entry, HasList}
use Rattle.lsm_tables.specs.Words.{HaveAll, HoldUnion, IsInOrder, IsStrict, OpenTable, Rules}
use Rattle.lsm_tables.specs.Words.{joined, joined_in, kept_in, range_of, seen, union_in}
use Rattle.lsm_tables.proofs.TableLaws.{all_append, all_behind, all_front, one_way, points}
use Rattle.lsm_tables.proofs.TableLaws.{reads_alike_of_part}
use Rattle.example_store.specs.Story.{HoldBelow, Holding, IsOwnRun, IsOwnTable, IsStore, IsStory}
use Rattle.example_store.specs.Story.{IsReported, holding, option_list}
use Rattle.example_store.proofs.Stories.{able_none, seen_more}

-- lists that read alike do so after further entries
pub seen_behind : (key : List ℕ) (bound : ℕ) (es xs ys : List Entry)
    → seen xs key bound ≡ seen ys key bound → seen (es ++ xs) key bound ≡ seen (es ++ ys) key bound
seen_behind key bound [] xs ys same = same
seen_behind key bound (e ∷ es) xs ys same =
    seen_more key bound e (es ++ xs) (es ++ ys) (seen_behind key bound es xs ys same)

-- no other entry is newer than the compacted ones
none_newer : (es : List Entry) → AllNewer es []
none_newer [] = tt
none_newer (e ∷ es) = (tt, none_newer es)

-- all runs are compacted
replaced : (rules : Rules) (lists made : List (List (List Entry))) → IsStrict (union_in lists)
    → joined_in made ≡ kept_in rules lists → AreReplaced rules lists [] lists made
replaced rules lists made strict is = record {
  strict = strict;
  had = record { count = λ p. ap (count_by p) (sym (append-nil (joined_in lists))) };
  has = record { count = λ p. ap (count_by p) (is ∙ sym (append-nil (kept_in rules lists))) };
  safe = inr (none_newer (union_in lists));
}

module _ (s t : Holding) (ws : List Entry) (rules : Rules) (sound : IsStore s) where
  strict_lists : (returned : IsReported s ws) → IsStrict (union_in returned.lists)
  strict_lists returned = subst (λ (ls : List (List (List Entry))). IsStrict (union_in ls))
      (one_way s.runs sound.runs.able.lists returned.lists sound.runs.able.hold returned.hold)
      sound.runs.able.writable.strict

  pub reports_compacted : (returned : IsReported s ws) → HaveAll (kept_in rules returned.lists) t.runs
      → t.recent ≡ s.recent → t.next ≡ s.next → s.oldest ≤ t.oldest → rules.watermark ≤ t.oldest
      → IsReported t ws
  reports_compacted returned have recent next later kept = record {
    story = subst (λ (n : ℕ). IsStory n ws) (sym next) returned.story;
    lists = have.lists;
    hold = have.hold;
    same = λ key bound reads.
        ap (λ (xs : List Entry). seen (xs ++ union_in have.lists) key bound) recent
        ∙ seen_behind key bound s.recent (union_in have.lists) (union_in returned.lists)
        (points rules returned.lists [] returned.lists have.lists
        (replaced rules returned.lists have.lists (strict_lists returned) have.whole) reads_alike_of_part
        key bound (omega (arith, kept, reads)))
        ∙ returned.same key bound (omega (arith, later, reads));
  }

-- ---- packing

pub reports_packed : (s t : Holding) (ws : List Entry) → (returned : IsReported s ws)
    → HoldUnion t.runs (union_in returned.lists) → t.recent ≡ s.recent → t.next ≡ s.next
    → t.oldest ≡ s.oldest → IsReported t ws
reports_packed s t ws returned has recent next oldest = record {
  story = subst (λ (n : ℕ). IsStory n ws) (sym next) returned.story;
  lists = has.lists;
  hold = has.hold;
  same = λ key bound reads.
      ap (λ (xs : List Entry). seen (xs ++ union_in has.lists) key bound) recent
      ∙ ap (λ (xs : List Entry). seen (s.recent ++ xs) key bound) has.union
      ∙ returned.same key bound (omega (arith, oldest, reads));
}

-- packed runs have the same tables
pub own_packed : (bound : ℕ) (runs packed : List (List OpenTable))
    → AllByRecursion (IsOwnRun bound) runs
    → IsPermutation (flat_map (λ (run : List OpenTable). run) runs)
    (flat_map (λ (run : List OpenTable). run) packed)
    → AllByRecursion (λ (run : List OpenTable). IsInOrder range_of run × (run ≢ [])) packed
    → AllByRecursion (IsOwnRun bound) packed
own_packed bound runs packed own same ordered =
    apart packed ordered (one_by_one (flat_map
    (λ (run : List OpenTable). run) packed) (All-permutation (IsOwnTable bound) (flat_map
    (λ (run : List OpenTable). run) runs) (flat_map (λ (run : List OpenTable). run) packed) same
    (All-from_recursion (IsOwnTable bound) (flat_map (λ (run : List OpenTable). run) runs)
    (together runs own))))
  where
    together : (runs : List (List OpenTable)) → AllByRecursion (IsOwnRun bound) runs
        → AllByRecursion (IsOwnTable bound) (flat_map (λ (run : List OpenTable). run) runs)
    together [] h = tt
    together (run ∷ runs) h = all_append (IsOwnTable bound) run
        (flat_map (λ (run : List OpenTable). run) runs) h.0.tables (together runs h.1)

    one_by_one : (ts : List OpenTable) → All (IsOwnTable bound) ts
        → AllByRecursion (IsOwnTable bound) ts
    one_by_one [] h = tt
    one_by_one (t ∷ ts) h = (
      All-head (IsOwnTable bound) t ts h,
      one_by_one ts (All-tail (IsOwnTable bound) t ts h),
    )

    there : (run : List OpenTable) → run ≢ [] → 0 < length run
    there [] other = absurd (other refl)
    there (t ∷ ts) other = omega arith

    apart : (packed : List (List OpenTable))
        → AllByRecursion (λ (run : List OpenTable). IsInOrder range_of run × (run ≢ [])) packed
        → AllByRecursion (IsOwnTable bound) (flat_map (λ (run : List OpenTable). run) packed)
        → AllByRecursion (IsOwnRun bound) packed
    apart [] ordered h = tt
    apart (run ∷ packed) ordered h =
        let rest = flat_map (λ (run : List OpenTable). run) packed in (
          record {
            some = there run ordered.0.1;
            order = ordered.0.0;
            tables = all_front (IsOwnTable bound) run rest h;
          },
          apart packed ordered.1 (all_behind (IsOwnTable bound) run rest h),
        )

-- ---- the run of the kept entries

pub made_of : (es : List Entry) (r : Option (List OpenTable))
    → MatchOption r (es ≡ []) (λ run. HasList es run) → HaveAll es (option_list r)
made_of es None none = record { lists = []; hold = tt; some = tt; whole = sym none }
made_of es (Some run) has = record {
  lists = has.lists ∷ [];
  hold = ((has.order, has.hold), tt);
  some = (has.some, tt);
  whole = append-nil (joined has.lists) ∙ has.whole;
}

pub able_of : (r : Option (List OpenTable)) → IfSome r (λ run. AreCompactable (run ∷ []))
    → AreCompactable (option_list r)
able_of None h = able_none
able_of (Some run) h = h

-- ---- the invariant is kept

pub valid_replaced : (recent : List Entry) (runs new : List (List OpenTable)) (ids left : Option ℕ)
    (target next flushed oldest later limit : ℕ)
    → IsStore (holding recent runs ids target next flushed oldest limit) → HoldBelow flushed new
    → later ≤ next → IsStore (holding recent new left target next flushed later limit)
valid_replaced recent runs new ids left target next flushed oldest later limit sound low
    kept = record {
      recent = sound.recent;
      runs = low;
      order = sound.order;
      room = sound.room;
      kept = kept;
    }
