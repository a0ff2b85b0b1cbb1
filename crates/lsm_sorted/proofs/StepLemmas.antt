-- One step of a merger at either end: the least or the greatest is popped, and the next of its
-- source is taken.
use Rattle.std.proofs.Common.{◌≡◌, ◌⊎◌, inl, inr, refl, sym, ◌∙◌, ap, subst, ℕ, zero, suc, Bool}
use Rattle.std.proofs.Common.{true, false, List, [], ◌∷◌, ◌++◌, reverse, map, slice_index_or}
use Rattle.std.proofs.Common.{slice_set}
use Rattle.std.specs.Prelude.{Option, Some, None, Ok, All, IsPermutation}
use Rattle.std.specs.List.{AllZip, AllByRecursion}
use Rattle.std.specs.Ordering.{is_gt}
use Rattle.std.proofs.lemmas.Bool.{cases_eq}
use Rattle.std.proofs.lemmas.List.{reverse-append, reverse-reverse}
use Rattle.sst_entries.specs.Entry.{Entry}
use Rattle.sst_entries.specs.declared.stream.Direction.{Direction}
use Rattle.sst_entries.specs.declared.stream.Direction.TheVariants.{Front, Back}
use Rattle.sst_entries.specs.Stream.{first, but_first, last, but_last}
use Rattle.sst_entries.specs.declared.error.Error.{Error}
use Rattle.lsm_sorted.specs.declared.merge.HeapItem.{HeapItem}
use Rattle.lsm_sorted.specs.declared.merge.Merger.{Merger}
use Rattle.lsm_sorted.specs.merge.Ends.{R, Left}
use Rattle.lsm_sorted.specs.merge.Union.{entries_among, all_entries, all_errors, sort_entries}
use Rattle.lsm_sorted.specs.merge.Union.{union_of}
use Rattle.lsm_sorted.specs.merge.Merge.{turn_cmp, entry_of, is_ready}
use Rattle.lsm_sorted.specs.merge.Asks.{Leads}
use Rattle.lsm_sorted.specs.merge.MergeLaws.{join_at}
use Rattle.lsm_sorted.proofs.Kept.{Kept, one, whole, taken_at, kept_at, taken, Ready, HeapHolds}
use Rattle.lsm_sorted.proofs.Kept.{Stands, Merging, LeavesIf, Leaves, Took, opposite}
use Rattle.lsm_sorted.proofs.HeldLemmas.{held_none}
use Rattle.lsm_sorted.proofs.FillLemmas.{by_end, other_ready, other_end}
use Rattle.lsm_sorted.proofs.PopLemmas.{cleared, Sorted, without, without_gone, without_elsewhere}
use Rattle.lsm_sorted.proofs.PopLemmas.{without_rest, without_heap, least_first, least_merged}
use Rattle.lsm_sorted.proofs.PopLemmas.{least_errors, least_sorted, least_spent, least_free}
use Rattle.lsm_sorted.proofs.PopLemmas.{greatest_merged, greatest_errors, greatest_sorted}
use Rattle.lsm_sorted.proofs.PopLemmas.{greatest_spent, greatest_free, greatest_last, cleared_rest}

same_or_not : (b c : Direction) → (b ≡ c) ⊎ (b ≡ c → ⊥)
same_or_not Front Front = inl refl
same_or_not Front Back = inr (λ e. cc)
same_or_not Back Front = inr (λ e. cc)
same_or_not Back Back = inl refl

zip_right : {X Y : Type 0} (P : X → Y → Type 0) (xs : List X) (ys : List Y) (i : ℕ) (y d : Y)
    → AllZip P xs ys → ((x : X) → P x (slice_index_or ys i d) → P x y)
    → AllZip P xs (slice_set ys i y)
zip_right P [] [] i y d z f = z
zip_right P [] (u ∷ ys) i y d z f = absurd z
zip_right P (x ∷ xs) [] i y d z f = absurd z
zip_right P (x ∷ xs) (u ∷ ys) zero y d z f = (f x z.0, z.1)
zip_right P (x ∷ xs) (u ∷ ys) (suc i) y d z f = (z.0, zip_right P xs ys i y d z.1 f)

last_push : {X : Type 0} (xs ys : List X) (x : X) → xs ≡ ys ++ x ∷ []
    → (Some x ≡ last xs) × (but_last xs ≡ ys)
last_push {X} xs ys x e =
    let turned : reverse xs ≡ x ∷ reverse ys = ap reverse e ∙ reverse-append ys (x ∷ []) in (
      sym (ap first turned),
      ap (λ (zs : List X). reverse (but_first zs)) turned
          ∙ reverse-reverse ys,
    )

-- sources of which nothing is left
none_whole : (s : Kept) → taken_at Back s ≡ None → taken_at Front s ≡ None → s.rest ≡ []
    → whole s ≡ []
none_whole s b f r = ap (λ (o : Option Entry). one o ++ (s.rest ++ one s.back)) f
    ∙ ap (λ (rs : List R). rs ++ one s.back) r ∙ ap one b

none_merged : (ks : List Kept) → ((j : ℕ) → whole (kept_at ks j) ≡ [])
    → (all_entries (map whole ks) ≡ []) × (all_errors (map whole ks) ≡ [])
none_merged [] h = (refl, refl)
none_merged (k ∷ ks) h =
    let more = none_merged ks (λ j. h (suc j)) in (
      ap (λ (rs : List R). entries_among rs ++ all_entries (map whole ks)) (h zero)
          ∙ more.0,
      ap (λ (rs : List R). all_errors (rs ∷ map whole ks)) (h zero) ∙ more.1,
    )

module _ {S A : Type 0} (stops : Error → Bool) (front back : S → Option R → S → Type 0)
    (s m : Merger S A) (xs : List Entry) (errors : List Error)
    (was : Merging stops front back s xs errors) where
  -- where the heap is empty, nothing is left
  pub none_left : (end : Direction) → is_ready end s ≡ true → s.heap.items ≡ [] → m.heap.items ≡ []
      → m.sources ≡ s.sources → m.front_ready ≡ s.front_ready → m.back_ready ≡ s.back_ready
      → (xs ≡ []) × (errors ≡ []) × Merging stops front back m [] errors
  none_left end now empty still sources first_flag second_flag =
      let ready : Ready true end was.kept = subst (λ (f : Bool). Ready f end was.kept) now
      (was.ready end) in
      let free : (j : ℕ) (b : Direction) → taken was.kept j b ≡ None =
      λ j b. held_none s.heap.items was.kept j b was.stands.heap empty in
      let none = none_merged was.kept (λ j. none_whole (kept_at was.kept j) (free j Back)
      (free j Front) (ready j (free j end))) in
      let no_entries : union_of (map whole was.kept) ≡ [] = ap sort_entries none.0 in (
        was.entries ∙ no_entries,
        was.faults ∙ none.1,
        record {
          kept = was.kept;
          stands = record {
            sources = subst (λ v. AllZip (λ s k. Left stops front back s k.rest) v.items was.kept)
                (sym sources) was.stands.sources;
            sorted = was.stands.sorted;
            heap = subst (λ (hs : List (HeapItem A)). HeapHolds hs was.kept)
                (empty ∙ sym still) was.stands.heap;
          };
          ready = λ b. subst (λ (f : Bool). Ready f b was.kept) (sym (flags b)) (was.ready b);
          entries = sym no_entries;
          faults = was.faults;
        },
      )
    where
      flags : (b : Direction) → is_ready b m ≡ is_ready b s
      flags Back = second_flag
      flags Front = first_flag

  module _ (h : HeapItem A) (pops : IsPermutation s.heap.items (h ∷ m.heap.items))
      (sources : m.sources ≡ s.sources) where
    abbrev pub others : List Kept
    others = without s.heap.items m.heap.items h was.kept was.stands.sorted was.stands.heap pops

    others_stand : AllByRecursion Sorted others → Stands stops front back m others
    others_stand sorted = record {
      sources = subst (λ v. AllZip (λ s k. Left stops front back s k.rest) v.items others)
          (sym sources)
          (zip_right (λ s k. Left stops front back s k.rest) s.sources.items was.kept h.source
          (cleared h.end (kept_at was.kept h.source)) _ was.stands.sources
          (λ u l. subst (Left stops front back u) (sym
          (cleared_rest h.end (kept_at was.kept h.source))) l));
      sorted = sorted;
      heap = without_heap s.heap.items m.heap.items h was.kept was.stands.sorted was.stands.heap
          pops;
    }

    gone : taken others h.source h.end ≡ None
    gone = without_gone s.heap.items m.heap.items h was.kept was.stands.sorted was.stands.heap pops

    elsewhere : (j : ℕ) (c : Direction) → (j ≡ h.source → c ≡ h.end → ⊥)
        → taken others j c ≡ taken was.kept j c
    elsewhere = without_elsewhere s.heap.items m.heap.items h was.kept was.stands.sorted
        was.stands.heap pops

    rests : (j : ℕ) → (kept_at others j).rest ≡ (kept_at was.kept j).rest
    rests = without_rest s.heap.items m.heap.items h was.kept was.stands.sorted was.stands.heap pops

    -- the end that was not asked
    others_ready : (f : Bool) (c : Direction) → Ready f c was.kept
        → (h.end ≡ c → (kept_at was.kept h.source).rest ≡ []) → Ready f c others
    others_ready true c ready spent = λ j none. rests j ∙ elim (cases_eq j h.source) [
      | inl e ↦ elim (same_or_not c h.end) [
        | inl same ↦ subst (λ (i : ℕ). (kept_at was.kept i).rest ≡ []) (sym e) (spent (sym same))
        | inr off ↦ ready j (sym (elsewhere j c (λ _ same. off same)) ∙ none)
      ]
      | inr off ↦ ready j (sym (elsewhere j c (λ same _. off same)) ∙ none)
    ]
    others_ready false c ready spent = λ j. elim (cases_eq j h.source) [
      | inl e ↦ elim (same_or_not c h.end) [
        | inl same ↦ subst (λ (i : ℕ). taken others i c ≡ None) (sym e)
            (subst (λ (b : Direction). taken others h.source b ≡ None) (sym same) gone)
        | inr off ↦ elsewhere j c (λ _ same. off same) ∙ ready j
      ]
      | inr off ↦ elsewhere j c (λ same _. off same) ∙ ready j
    ]

    -- after the next of its source was taken
    pub ready_turned : (end : Direction) (t : Merger S A) → Ready true end was.kept
        → (h.end ≡ opposite end → (kept_at was.kept h.source).rest ≡ [])
        → (took : Took stops front back end h.source others t) → is_ready end t ≡ true
        → is_ready (opposite end) t ≡ is_ready (opposite end) s
        → (b : Direction) → Ready (is_ready b t) b took.kept
    ready_turned end t ready spent took now other =
        by_end (λ b. Ready (is_ready b t) b took.kept) end
        (subst (λ (f : Bool). Ready f end took.kept) (sym now) asked)
        (subst (λ (f : Bool). Ready f (opposite end) took.kept) (sym other)
        (other_ready (opposite end) (is_ready (opposite end) s) others took.kept
        (λ k. took.elsewhere k (opposite end) (λ _ e. other_end end e)) took.shrinks
        (others_ready (is_ready (opposite end) s) (opposite end)
        (was.ready (opposite end)) spent)))
      where
        asked : (j : ℕ) → taken took.kept j end ≡ None → (kept_at took.kept j).rest ≡ []
        asked j none = elim (cases_eq j h.source) [
          | inl e ↦ subst (λ (i : ℕ). (kept_at took.kept i).rest ≡ []) (sym e)
              (took.ready (subst (λ (i : ℕ). taken took.kept i end ≡ None) e none))
          | inr off ↦ took.shrinks j (rests j ∙ ready j
              (sym (elsewhere j end (λ same _. off same))
              ∙ sym (took.elsewhere j end (λ same _. off same)) ∙ none))
        ]

    step_merging : (end : Direction) (t : Merger S A) → Ready true end was.kept
        → (h.end ≡ opposite end → (kept_at was.kept h.source).rest ≡ [])
        → Took stops front back end h.source others t → is_ready end t ≡ true
        → is_ready (opposite end) t ≡ is_ready (opposite end) s
        → errors ≡ all_errors (map whole others) → Merging stops front back t
        (union_of (map whole others)) errors
    step_merging end t ready spent took now other faults = record {
      kept = took.kept;
      stands = took.stands;
      ready = ready_turned end t ready spent took now other;
      entries = ap union_of (sym took.wholes);
      faults = faults ∙ ap all_errors (sym took.wholes);
    }

    module _ (least : All (λ y. is_gt (turn_cmp h y) ≡ false) s.heap.items)
        (now : s.front_ready ≡ true) where
      pub front_ready : Ready true Front was.kept
      front_ready = subst (λ (f : Bool). Ready f Front was.kept) now (was.ready Front)

      pub front_stands : Stands stops front back m others
      front_stands = others_stand (least_sorted s.heap.items m.heap.items h was.kept
          was.stands.sorted was.stands.heap pops least front_ready)

      pub front_free : taken others h.source Front ≡ None
      front_free = least_free s.heap.items m.heap.items h was.kept was.stands.sorted was.stands.heap
          pops least front_ready

      pub front_errors : all_errors (map whole others) ≡ errors
      front_errors = sym (was.faults ∙ least_errors s.heap.items m.heap.items h was.kept
          was.stands.sorted was.stands.heap pops least front_ready)

      pub front_first : whole (kept_at was.kept h.source) ≡ Ok (entry_of h)
          ∷ whole (cleared h.end (kept_at was.kept h.source))
      front_first = least_first s.heap.items m.heap.items h was.kept was.stands.sorted
          was.stands.heap pops least front_ready

      pub front_spent : h.end ≡ Back → (kept_at was.kept h.source).rest ≡ []
      front_spent = least_spent s.heap.items m.heap.items h was.kept was.stands.sorted
          was.stands.heap pops least front_ready

      pub front_gives : (t : Merger S A) → Took stops front back Front h.source others t
          → t.front_ready ≡ true → t.back_ready ≡ s.back_ready
          → (Some (entry_of h) ≡ first xs) × Merging stops front back t (but_first xs) errors
          × (Some (entry_of h) ≡ None → errors ≡ [])
      front_gives t took ready other =
          let parts : xs ≡ entry_of h ∷ union_of (map whole others) = was.entries
          ∙ least_merged s.heap.items m.heap.items h was.kept was.stands.sorted was.stands.heap
          pops least front_ready in
          let left = step_merging Front t front_ready
          (least_spent s.heap.items m.heap.items h was.kept was.stands.sorted was.stands.heap
          pops least front_ready) took ready other (sym front_errors) in (
            sym (ap first parts),
            subst (λ (ys : List Entry). Merging stops front back t ys errors)
                (sym (ap but_first parts)) left,
            λ no. absurd cc,
          )

    module _ (greatest : All (λ y. is_gt (turn_cmp y h) ≡ false) s.heap.items)
        (now : s.back_ready ≡ true) where
      back_ready : Ready true Back was.kept
      back_ready = subst (λ (f : Bool). Ready f Back was.kept) now (was.ready Back)

      pub back_stands : Stands stops front back m others
      back_stands = others_stand (greatest_sorted s.heap.items m.heap.items h was.kept
          was.stands.sorted was.stands.heap pops greatest back_ready)

      pub back_free : taken others h.source Back ≡ None
      back_free = greatest_free s.heap.items m.heap.items h was.kept was.stands.sorted
          was.stands.heap pops greatest back_ready

      pub back_errors : all_errors (map whole others) ≡ errors
      back_errors = sym (was.faults ∙ greatest_errors s.heap.items m.heap.items h was.kept
          was.stands.sorted was.stands.heap pops greatest back_ready)

      back_last : whole (kept_at was.kept h.source)
          ≡ whole (cleared h.end (kept_at was.kept h.source)) ++ Ok (entry_of h) ∷ []
      back_last = greatest_last s.heap.items m.heap.items h was.kept was.stands.sorted
          was.stands.heap pops greatest back_ready

      back_spent : h.end ≡ Front → (kept_at was.kept h.source).rest ≡ []
      back_spent = greatest_spent s.heap.items m.heap.items h was.kept was.stands.sorted
          was.stands.heap pops greatest back_ready

      pub back_gives : (t : Merger S A) → Took stops front back Back h.source others t
          → t.back_ready ≡ true → t.front_ready ≡ s.front_ready
          → (Some (entry_of h) ≡ last xs) × Merging stops front back t (but_last xs) errors
          × (Some (entry_of h) ≡ None → errors ≡ [])
      back_gives t took ready other =
          let parts : xs ≡ union_of (map whole others) ++ entry_of h ∷ [] = was.entries
          ∙ greatest_merged s.heap.items m.heap.items h was.kept was.stands.sorted
          was.stands.heap pops greatest back_ready in
          let ends = last_push xs (union_of (map whole others)) (entry_of h) parts in
          let left = step_merging Back t back_ready
          (greatest_spent s.heap.items m.heap.items h was.kept was.stands.sorted was.stands.heap
          pops greatest back_ready) took ready other (sym back_errors) in (
            ends.0,
            subst (λ (ys : List Entry). Merging stops front back t ys errors)
                (sym ends.1) left,
            λ no. absurd cc,
          )

    -- at an end that is told

    pub end_ready : (end : Direction) → Leads end h s.heap.items → is_ready end s ≡ true
        → Ready true end was.kept
    end_ready Front = front_ready
    end_ready Back = back_ready

    pub end_stands : (end : Direction) → Leads end h s.heap.items → is_ready end s ≡ true
        → Stands stops front back m others
    end_stands Front = front_stands
    end_stands Back = back_stands

    pub end_free : (end : Direction) → Leads end h s.heap.items → is_ready end s ≡ true
        → taken others h.source end ≡ None
    end_free Front = front_free
    end_free Back = back_free

    pub end_spent : (end : Direction) → Leads end h s.heap.items → is_ready end s ≡ true
        → h.end ≡ opposite end → (kept_at was.kept h.source).rest ≡ []
    end_spent Front = front_spent
    end_spent Back = back_spent

    pub end_joined : (end : Direction) → Leads end h s.heap.items → is_ready end s ≡ true
        → whole (kept_at was.kept h.source) ≡ join_at end (Ok (entry_of h) ∷ [])
        (whole (cleared h.end (kept_at was.kept h.source)))
    end_joined Front = front_first
    end_joined Back = back_last

module _ {S A : Type 0} (stops : Error → Bool) (front back : S → Option R → S → Type 0)
    (m : Merger S A) (fine : m.failed ≡ false) where
  pub leaves_merging : (xs : List Entry) (errors : List Error) → Leaves stops front back m xs errors
      → Merging stops front back m xs errors
  leaves_merging xs errors leaves = subst (λ (b : Bool). LeavesIf stops front back b m xs errors)
      fine leaves.parts

  pub merging_leaves : (xs : List Entry) (errors : List Error)
      → Merging stops front back m xs errors → Leaves stops front back m xs errors
  merging_leaves xs errors merging = record {
    parts =
        subst (λ (b : Bool). LeavesIf stops front back b m xs errors) (sym fine) merging;
  }

  -- after `None`
  pub leaves_nothing : (xs ys : List Entry) (errors : List Error) → xs ≡ [] → ys ≡ xs → errors ≡ []
      → Merging stops front back m ys errors → Leaves stops front back m [] []
  leaves_nothing xs ys errors none same no_errors merging =
      subst (Leaves stops front back m []) no_errors
      (subst (λ (zs : List Entry). Leaves stops front back m zs errors) (same ∙ none)
      (merging_leaves ys errors merging))
