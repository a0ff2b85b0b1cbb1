-- A store reads as the same history after a part of its runs is compacted.
use Rattle.std.proofs.Common.{◌≡◌, refl, sym, ◌∙◌, ap, subst, ℕ, ◌+◌, ◌-◌, ◌^◌, ◌≤◌, inl, inr}
use Rattle.std.proofs.Common.{Bool, false, List, [], ◌∷◌, ◌++◌, append_assoc, count_by, drop, take}
use Rattle.std.proofs.Common.{length, arith}
use Rattle.std.specs.Prelude.{map, min}
use Rattle.std.specs.List.{AllByRecursion, AllZip, drop-map}
use Rattle.std.proofs.lemmas.Bool.{cases_lt}
use Rattle.std.proofs.lemmas.List.{drop_all, take-map, take_all}
use Rattle.lsm_tables.specs.Words.{AreCompactable, AreReplaced, Entry, HaveAll, HoldLists}
use Rattle.lsm_tables.specs.Words.{IsInOrder, IsStrict, IsWritable, OpenTable, RunsHoldLists}
use Rattle.lsm_tables.specs.Words.{joined, joined_in, kept_in, range_of, rules_by, seen, union_in}
use Rattle.lsm_tables.proofs.TableLaws.{HaveEntries, all_append, all_behind, all_front, all_more}
use Rattle.lsm_tables.proofs.TableLaws.{as_pairs, at, count_join, from_pairs, is_weak, once_strict}
use Rattle.lsm_tables.proofs.TableLaws.{one_way, points, reads_alike_of_part, side_by_side}
use Rattle.lsm_tables.proofs.TableLaws.{strict_once, union_count, union_up, writable_after}
use Rattle.example_store.specs.Part.{front_runs, part_runs}
use Rattle.example_store.specs.Story.{HoldBelow, Holding, IsOwn, IsOwnRun, IsStore, IsStory}
use Rattle.example_store.specs.Story.{IsReported}
use Rattle.example_store.proofs.Compacting.{seen_behind}
use Rattle.example_store.proofs.Own.{own_able, own_run_lists, own_union}
use Rattle.example_store.proofs.Places.{take_drop}

-- ---- lists of runs side by side

module _ {A B : Type 0} (Q : A → B → Type 0) where
  -- a list that pairs with two lists is cut where they meet
  pub record IsCut (xs us : List A) (zs : List B) : Type 0 where
    pub front : List B
    pub behind : List B
    pub whole : zs ≡ front ++ behind
    pub in_front : AllZip Q xs front
    pub in_behind : AllZip Q us behind

  pub zip_cut : (xs us : List A) (zs : List B) → AllZip Q (xs ++ us) zs → IsCut xs us zs
  zip_cut [] us zs h =
      record { front = []; behind = zs; whole = refl; in_front = tt; in_behind = h }
  zip_cut (x ∷ xs) us [] h = absurd h
  zip_cut (x ∷ xs) us (z ∷ zs) h =
      let more = zip_cut xs us zs h.1 in
      record {
        front = z ∷ more.front;
        behind = more.behind;
        whole = ap (λ (ys : List B). z ∷ ys) more.whole;
        in_front = (h.0, more.in_front);
        in_behind = more.in_behind;
      }

  pub zip_beside : (xs us : List A) (ys vs : List B) → AllZip Q xs ys → AllZip Q us vs
      → AllZip Q (xs ++ us) (ys ++ vs)
  zip_beside [] us [] vs front behind = behind
  zip_beside [] us (y ∷ ys) vs front behind = absurd front
  zip_beside (x ∷ xs) us [] vs front behind = absurd front
  zip_beside (x ∷ xs) us (y ∷ ys) vs front behind =
      (front.0, zip_beside xs us ys vs front.1 behind)

-- a list is the items before a part, the part, and the items after it
pub three_parts : (from to : ℕ) (runs : List (List OpenTable))
    → runs ≡ front_runs from to runs ++ (part_runs from to runs ++ drop to runs)
three_parts from to runs =
    take_drop to runs
    ∙ ap (λ (xs : List (List OpenTable)). xs ++ drop to runs) (take_drop from (take to runs))
    ∙ append_assoc (take from (take to runs)) (drop from (take to runs)) (drop to runs)

-- ---- parts of a list whose indexes may be after its end

module _ {X : Type 0} where
  take_least : (n : ℕ) (xs : List X) → take (min n (length xs)) xs ≡ take n xs
  take_least n xs = elim (cases_lt n (length xs)) [
    | inl less ↦ let is : min n (length xs) ≡ n = omega (arith, less) in
        ap (λ (k : ℕ). take k xs) is
    | inr past ↦ let is : min n (length xs) ≡ length xs = omega (arith, past) in
        ap (λ (k : ℕ). take k xs) is ∙ take_all (length xs) xs (omega arith)
        ∙ sym (take_all n xs past)
  ]

  drop_least : (n : ℕ) (xs : List X) → drop (min n (length xs)) xs ≡ drop n xs
  drop_least n xs = elim (cases_lt n (length xs)) [
    | inl less ↦ let is : min n (length xs) ≡ n = omega (arith, less) in
        ap (λ (k : ℕ). drop k xs) is
    | inr past ↦ let is : min n (length xs) ≡ length xs = omega (arith, past) in
        ap (λ (k : ℕ). drop k xs) is ∙ drop_all (length xs) xs (omega arith)
        ∙ sym (drop_all n xs past)
  ]

module _ {X : Type 0} (f : X → List OpenTable) (xs : List X) (from to m : ℕ) (upper : List X)
    (least : m ≡ min to (length xs)) where
  upper_is : upper ≡ take m xs → upper ≡ take to xs
  upper_is is = is ∙ ap (λ (k : ℕ). take k xs) least ∙ take_least to xs

  pub behind_cut : (behind : List X) → behind ≡ drop m xs → map f behind ≡ drop to (map f xs)
  behind_cut behind is =
      ap (map f) (is ∙ ap (λ (k : ℕ). drop k xs) least ∙ drop_least to xs) ∙ sym (drop-map f to xs)

  module _ (k : ℕ) (lower : k ≡ min from (length upper)) where
    pub front_cut : (front : List X) → upper ≡ take m xs → front ≡ take k upper
        → map f front ≡ front_runs from to (map f xs)
    front_cut front first is =
        ap (map f) (is ∙ ap (λ (n : ℕ). take n upper) lower ∙ take_least from upper
        ∙ ap (take from) (upper_is first))
        ∙ sym (take-map f from (take to xs)) ∙ ap (take from) (sym (take-map f to xs))

    pub part_cut : (part : List X) → upper ≡ take m xs → part ≡ drop k upper
        → map f part ≡ part_runs from to (map f xs)
    part_cut part first is =
        ap (map f) (is ∙ ap (λ (n : ℕ). drop n upper) lower ∙ drop_least from upper
        ∙ ap (drop from) (upper_is first))
        ∙ sym (drop-map f from (take to xs)) ∙ ap (drop from) (sym (take-map f to xs))

-- ---- a part is compacted

abbrev Held : List OpenTable → List (List Entry) → Type 0
Held tables ls = IsInOrder range_of tables × HoldLists tables ls

pub own_parts : (bound : ℕ) (front part behind : List (List OpenTable))
    → AllByRecursion (IsOwnRun bound) (front ++ (part ++ behind))
    → AllByRecursion (IsOwnRun bound) front × AllByRecursion (IsOwnRun bound) part
    × AllByRecursion (IsOwnRun bound) behind
own_parts bound front part behind own =
    let rest = all_behind (IsOwnRun bound) front (part ++ behind) own in (
      all_front (IsOwnRun bound) front (part ++ behind) own,
      all_front (IsOwnRun bound) part behind rest,
      all_behind (IsOwnRun bound) part behind rest,
    )

module _ (flushed watermark : ℕ) (front part behind made : List (List OpenTable)) where
  -- the lists of the three, and that they may be compacted
  pub record HaveParts (lists : List (List (List Entry))) : Type 0 where
    pub fs : List (List (List Entry))
    pub ps : List (List (List Entry))
    pub bs : List (List (List Entry))
    pub whole : lists ≡ fs ++ (ps ++ bs)
    pub in_front : RunsHoldLists front fs
    pub in_part : RunsHoldLists part ps
    pub in_behind : RunsHoldLists behind bs

  pub parts_held : (lists : List (List (List Entry)))
      → RunsHoldLists (front ++ (part ++ behind)) lists → HaveParts lists
  parts_held lists hold =
      let first = zip_cut Held front (part ++ behind) lists hold in
      let second = zip_cut Held part behind first.behind first.in_behind in
      record {
        fs = first.front;
        ps = second.front;
        bs = second.behind;
        whole = first.whole
            ∙ ap (λ (xs : List (List (List Entry))). first.front ++ xs) second.whole;
        in_front = first.in_front;
        in_part = second.in_front;
        in_behind = second.in_behind;
      }

  module _ (lists : List (List (List Entry))) (parts : HaveParts lists)
      (own : AllByRecursion (IsOwnRun flushed) part) (strict : IsStrict (union_in lists))
      (has : HaveAll (kept_in (rules_by watermark false false) parts.ps) made) where
    part_replaced : AreReplaced (rules_by watermark false false) parts.ps (parts.fs ++ parts.bs)
        (parts.fs ++ (parts.ps ++ parts.bs)) (parts.fs ++ (has.lists ++ parts.bs))
    part_replaced = side_by_side (rules_by watermark false false) parts.fs parts.ps has.lists
        parts.bs has.whole
        (subst (λ (ls : List (List (List Entry))). IsStrict (union_in ls)) parts.whole strict)
        (inl (
          refl,
          refl,
          all_more (IsOwn flushed) (λ (e : Entry). is_weak e ≡ false)
              (λ e h. h.1) (union_in parts.ps) (own_union flushed part own parts.ps parts.in_part),
        ))

    pub part_holds : RunsHoldLists (front ++ (made ++ behind))
        (parts.fs ++ (has.lists ++ parts.bs))
    part_holds = zip_beside Held front (made ++ behind) parts.fs (has.lists ++ parts.bs)
        parts.in_front (zip_beside Held made behind has.lists parts.bs has.hold parts.in_behind)

    -- readers at the watermark and above see the same
    pub part_seen : (key : List ℕ) (bound : ℕ) → watermark ≤ bound
        → seen (union_in (parts.fs ++ (has.lists ++ parts.bs))) key bound
        ≡ seen (union_in lists) key bound
    part_seen key bound reads =
        points (rules_by watermark false false) parts.ps (parts.fs ++ parts.bs)
        (parts.fs ++ (parts.ps ++ parts.bs)) (parts.fs ++ (has.lists ++ parts.bs)) part_replaced
        reads_alike_of_part key bound reads
        ∙ ap (λ (ls : List (List (List Entry))). seen (union_in ls) key bound) (sym parts.whole)

-- the runs afterwards
pub placed_part : (front made behind new others kept rest : List (List OpenTable))
    → new ≡ front ++ (made ++ behind) → front ≡ others → made ≡ kept → behind ≡ rest
    → new ≡ others ++ (kept ++ rest)
placed_part front made behind new others kept rest is front_is made_is behind_is =
    is ∙ ap (λ (xs : List (List OpenTable)). xs ++ (made ++ behind)) front_is
    ∙ ap (λ (xs : List (List OpenTable)). others ++ (xs ++ behind)) made_is
    ∙ ap (λ (xs : List (List OpenTable)). others ++ (kept ++ xs)) behind_is

-- a store reads as the same history after a part was compacted
pub reports_part : (s t : Holding) (ws : List Entry) (from to watermark : ℕ)
    (made : List (List OpenTable)) → IsStore s → IsReported s ws
    → ((ps : List (List (List Entry))) → RunsHoldLists (part_runs from to s.runs) ps
    → HaveAll (kept_in (rules_by watermark false false) ps) made)
    → t.runs ≡ front_runs from to s.runs ++ (made ++ drop to s.runs) → t.recent ≡ s.recent
    → t.next ≡ s.next → s.oldest ≤ t.oldest → watermark ≤ t.oldest → IsReported t ws
reports_part s t ws from to watermark made sound returned kept runs recent next later above =
    let front = front_runs from to s.runs in
    let part = part_runs from to s.runs in
    let behind = drop to s.runs in
    let whole = three_parts from to s.runs in
    let own = (own_parts s.flushed front part behind
    (subst (AllByRecursion (IsOwnRun s.flushed)) whole sound.runs.own)).1 in
    let parts = parts_held s.flushed watermark front part behind made returned.lists
    (subst (λ (rs : List (List OpenTable)). RunsHoldLists rs returned.lists) whole returned.hold) in
    let has = kept parts.ps parts.in_part in
    let strict : IsStrict (union_in returned.lists) =
    subst (λ (ls : List (List (List Entry))). IsStrict (union_in ls))
    (one_way s.runs sound.runs.able.lists returned.lists sound.runs.able.hold returned.hold)
    sound.runs.able.writable.strict in
    record {
      story = subst (λ (n : ℕ). IsStory n ws) (sym next) returned.story;
      lists = parts.fs ++ (has.lists ++ parts.bs);
      hold = subst (λ (rs : List (List OpenTable)). RunsHoldLists rs
          (parts.fs ++ (has.lists ++ parts.bs))) (sym runs)
          (part_holds s.flushed watermark front part behind made returned.lists parts own strict has);
      same = λ key bound reads.
          ap (λ (xs : List Entry).
          seen (xs ++ union_in (parts.fs ++ (has.lists ++ parts.bs))) key bound) recent
          ∙ seen_behind key bound s.recent (union_in (parts.fs ++ (has.lists ++ parts.bs)))
          (union_in returned.lists)
          (part_seen s.flushed watermark front part behind made returned.lists parts own strict has
          key bound (omega (arith, above, reads)))
          ∙ returned.same key bound (omega (arith, later, reads));
    }

-- the runs may be compacted again
pub able_part : (flushed watermark : ℕ) (front part behind made : List (List OpenTable))
    (able : AreCompactable (front ++ (part ++ behind))) → AllByRecursion (IsOwnRun flushed) part
    → ((ps : List (List (List Entry))) → RunsHoldLists part ps
    → HaveAll (kept_in (rules_by watermark false false) ps) made)
    → AreCompactable (front ++ (made ++ behind))
able_part flushed watermark front part behind made able own kept =
    let parts = parts_held flushed watermark front part behind made able.lists able.hold in
    let has = kept parts.ps parts.in_part in
    let rules = rules_by watermark false false in
    let some = subst (AllByRecursion HaveEntries) parts.whole able.some in
    let in_behind = all_behind HaveEntries parts.ps parts.bs
    (all_behind HaveEntries parts.fs (parts.ps ++ parts.bs) some) in
    record {
      lists = parts.fs ++ (has.lists ++ parts.bs);
      hold = part_holds flushed watermark front part behind made able.lists parts own
          able.writable.strict has;
      some = all_append HaveEntries parts.fs (has.lists ++ parts.bs)
          (all_front HaveEntries parts.fs (parts.ps ++ parts.bs) some)
          (all_append HaveEntries has.lists parts.bs has.some in_behind);
      writable = writable_after rules parts.ps (parts.fs ++ parts.bs)
          (parts.fs ++ (parts.ps ++ parts.bs)) (parts.fs ++ (has.lists ++ parts.bs))
          (part_replaced flushed watermark front part behind made able.lists parts own
          able.writable.strict has)
          (subst (λ (ls : List (List (List Entry))). IsWritable (union_in ls)) parts.whole
          able.writable);
    }

pub below_part : (bound from to watermark : ℕ) (old new made : List (List OpenTable))
    → HoldBelow bound old
    → ((ps : List (List (List Entry))) → RunsHoldLists (part_runs from to old) ps
    → HaveAll (kept_in (rules_by watermark false false) ps) made)
    → (AllByRecursion (IsOwnRun bound) (part_runs from to old)
    → AllByRecursion (IsOwnRun bound) made)
    → new ≡ front_runs from to old ++ (made ++ drop to old) → HoldBelow bound new
below_part bound from to watermark old new made sound kept made_own is =
    let front = front_runs from to old in
    let part = part_runs from to old in
    let behind = drop to old in
    let whole = three_parts from to old in
    let own = own_parts bound front part behind
    (subst (AllByRecursion (IsOwnRun bound)) whole sound.own) in
    subst (HoldBelow bound) (sym is) (record {
      own = all_append (IsOwnRun bound) front (made ++ behind) own.0
          (all_append (IsOwnRun bound) made behind (made_own own.1) own.2);
      able = able_part bound watermark front part behind made
          (subst AreCompactable whole sound.able) own.1 kept;
    })

-- ---- the part alone may be compacted

count_runs : (p : Entry → Bool) (xs ys : List (List (List Entry)))
    → count_by p (joined_in (xs ++ ys)) ≡ count_by p (joined_in xs) + count_by p (joined_in ys)
count_runs p [] ys = omega arith
count_runs p (x ∷ xs) ys = omega (
  arith,
  count_join p (joined x) (joined_in (xs ++ ys)),
  count_runs p xs ys,
  count_join p (joined x) (joined_in xs),
)

strict_cut : (fs ps bs : List (List (List Entry))) → IsStrict (union_in (fs ++ (ps ++ bs)))
    → IsStrict (union_in ps)
strict_cut fs ps bs strict =
    let all = union_in (fs ++ (ps ++ bs)) in
    from_pairs (union_in ps) (once_strict (union_in ps) (union_up ps) (λ key number.
    let p = at key number in omega (
      arith,
      union_count ps p,
      union_count (fs ++ (ps ++ bs)) p,
      count_runs p fs (ps ++ bs),
      count_runs p ps bs,
      strict_once all (as_pairs all strict) key number,
    )))

pub able_alone : (bound from to : ℕ) (old : List (List OpenTable)) → bound ≤ 2 ^ 64 - 1
    → HoldBelow bound old → AreCompactable (part_runs from to old)
able_alone bound from to old room sound =
    let front = front_runs from to old in
    let part = part_runs from to old in
    let behind = drop to old in
    let whole = three_parts from to old in
    let able = subst AreCompactable whole sound.able in
    let parts = parts_held bound 0 front part behind [] able.lists able.hold in
    let own = (own_parts bound front part behind
    (subst (AllByRecursion (IsOwnRun bound)) whole sound.own)).1 in
    own_able bound part own room (subst (λ (ls : List (List (List Entry))). IsStrict (union_in ls))
    (one_way part parts.ps (own_run_lists bound part own).lists parts.in_part
    (own_run_lists bound part own).hold)
    (strict_cut parts.fs parts.ps parts.bs
    (subst (λ (ls : List (List (List Entry))). IsStrict (union_in ls)) parts.whole
    able.writable.strict)))
