-- A closed store, opened again.
use Rattle.std.proofs.Common.{◌≡◌, ◌≢◌, refl, sym, ◌∙◌, ap, subst, ℕ, ◌+◌, ◌-◌, ◌^◌, ◌<◌, inl}
use Rattle.std.proofs.Common.{true, false, List, [], ◌∷◌, ◌++◌, count_by, length, take, get_or}
use Rattle.std.proofs.Common.{inr, zero, suc, arith, ltb, le-ltb}
use Rattle.std.specs.Prelude.{Ok, Err, IfOk, Result, map}
use Rattle.std.specs.List.{AllByRecursion}
use Rattle.std.proofs.lemmas.Bool.{cases_Bool}
use Rattle.std.proofs.lemmas.List.{map-append, take_more}
use Rattle.lsm_tables.specs.Words.{AreCompactable, Entry, Error, HoldLists, HoldsList, IsInOrder}
use Rattle.lsm_tables.specs.Words.{IsStrict, OpenTable}
use Rattle.lsm_tables.specs.Words.{RunsHoldLists, StoresList, is_memory, lift, range_of, seen}
use Rattle.lsm_tables.specs.Words.{union_in}
use Rattle.lsm_tables.proofs.TableLaws.{IsOpen, are_in_order, count_no, fits_result, highest_seqno}
use Rattle.lsm_tables.proofs.TableLaws.{is_weak}
use Rattle.lsm_tables.proofs.TableLaws.{lift_zero, none_counted, one_way, small_numbers}
use Rattle.example_store.specs.Closed.{bytes_by_run}
use Rattle.example_store.specs.Story.{Holding, IsOwn, IsOwnRun, IsOwnTable, IsStory, IsReported}
use Rattle.example_store.proofs.Own.{bytes_of, own_run_lists}

-- ---- the same bytes hold the same lists

module _ (n m : ℕ) where
  held_one : (t u : OpenTable) (es : List Entry) → t.bytes ≡ u.bytes → IsOwnTable n t
      → IsOwnTable m u → HoldsList t es → HoldsList u es
  held_one t u es same own other h = record {
    stored = h.stored;
    opened = other.holds.opened;
    table = subst (λ (bs : List ℕ). StoresList bs h.stored) same h.table;
    lifted_is = h.lifted_is ∙ ap (lift h.stored) (own.unlifted ∙ sym other.unlifted);
  }

  held_run : (ts us : List OpenTable) (ls : List (List Entry)) → map bytes_of ts ≡ map bytes_of us
      → AllByRecursion (IsOwnTable n) ts → AllByRecursion (IsOwnTable m) us → HoldLists ts ls
      → HoldLists us ls
  held_run [] [] ls same own other h = h
  held_run [] (u ∷ us) ls same own other h = absurd cc
  held_run (t ∷ ts) [] ls same own other h = absurd cc
  held_run (t ∷ ts) (u ∷ us) [] same own other h = absurd h
  held_run (t ∷ ts) (u ∷ us) (es ∷ ls) same own other h =
      let one : t.bytes ≡ u.bytes = cc in
      let more : map bytes_of ts ≡ map bytes_of us = cc in (
        held_one t u es one own.0 other.0 h.0,
        held_run ts us ls more own.1 other.1 h.1,
      )

  pub held_alike : (runs others : List (List OpenTable)) (lists : List (List (List Entry)))
      → bytes_by_run runs ≡ bytes_by_run others → AllByRecursion (IsOwnRun n) runs
      → AllByRecursion (IsOwnRun m) others → RunsHoldLists runs lists → RunsHoldLists others lists
  held_alike [] [] lists same own other h = h
  held_alike [] (us ∷ others) lists same own other h = absurd cc
  held_alike (ts ∷ runs) [] lists same own other h = absurd cc
  held_alike (ts ∷ runs) (us ∷ others) [] same own other h = absurd h
  held_alike (ts ∷ runs) (us ∷ others) (ls ∷ lists) same own other h =
      let one : map bytes_of ts ≡ map bytes_of us = cc in
      let more : bytes_by_run runs ≡ bytes_by_run others = cc in (
        (other.0.order, held_run ts us ls one own.0.tables other.0.tables h.0.1),
        held_alike runs others lists more own.1 other.1 h.1,
      )

  -- they are in strict order if the others are
  pub strict_alike : (runs others : List (List OpenTable)) → bytes_by_run runs ≡ bytes_by_run others
      → AllByRecursion (IsOwnRun n) runs → (own : AllByRecursion (IsOwnRun m) others)
      → AreCompactable runs → IsStrict (union_in (own_run_lists m others own).lists)
  strict_alike runs others same was own able =
      let all = own_run_lists m others own in
      subst (λ (ls : List (List (List Entry))). IsStrict (union_in ls))
      (one_way others able.lists all.lists
      (held_alike runs others able.lists same was own able.hold) all.hold)
      able.writable.strict

  -- so a store of them reads as the same history
  pub reports_alike : (s t : Holding) (ws : List Entry) → IsReported s ws
      → AllByRecursion (IsOwnRun n) s.runs → AllByRecursion (IsOwnRun m) t.runs
      → bytes_by_run s.runs ≡ bytes_by_run t.runs → s.recent ≡ t.recent → s.next ≡ t.next
      → s.oldest ≡ t.oldest → IsReported t ws
  reports_alike s t ws returned own other same recent next oldest = record {
    story = subst (λ (k : ℕ). IsStory k ws) next returned.story;
    lists = returned.lists;
    hold = held_alike s.runs t.runs returned.lists same own other returned.hold;
    same = λ key bound reads.
        ap (λ (xs : List Entry). seen (xs ++ union_in returned.lists) key bound) (sym recent)
        ∙ returned.same key bound (omega (arith, oldest, reads));
  }

-- ---- one more item of a list

module _ {X Y : Type 0} (f : X → Y) (P : X → Type 0) where
  -- a fact about all sources of a list holds for the source of the item at an index
  pub made_at : (xs : List X) (ys : List Y) (i : ℕ) (y : Y) → AllByRecursion P xs → map f xs ≡ ys
      → i < length ys → y ≡ get_or ys i y → (x : X) × (f x ≡ y) × P x
  made_at [] [] i y all same less is = absurd (omega (arith, less))
  made_at [] (z ∷ ys) i y all same less is = absurd cc
  made_at (x ∷ xs) [] i y all same less is = absurd cc
  made_at (x ∷ xs) (z ∷ ys) zero y all same less is =
      let one : f x ≡ z = cc in (x, one ∙ sym is, all.0)
  made_at (x ∷ xs) (z ∷ ys) (suc i) y all same less is =
      let more : map f xs ≡ ys = cc in
      made_at xs ys i y all.1 more (omega (arith, less)) is

  -- one more item was made, and the fact holds for it
  pub one_made : (made : List X) (ys : List Y) (i : ℕ) (x : X) (y : Y) → map f made ≡ take i ys
      → i < length ys → y ≡ get_or ys i y → f x ≡ y → map f (made ++ x ∷ []) ≡ take (i + 1) ys
  one_made made ys i x y so_far less is one =
      map-append f made (x ∷ [])
      ∙ ap (λ (zs : List Y). zs ++ f x ∷ []) so_far
      ∙ ap (λ (z : Y). take i ys ++ z ∷ []) (one ∙ is)
      ∙ sym (take_more ys i y less)

-- the same for two lists with the same view
module _ {X Y Z : Type 0} (f : X → Z) (h : Y → Z) (P : X → Type 0) where
  pub seen_at : (xs : List X) (ys : List Y) (i : ℕ) (y : Y) → AllByRecursion P xs
      → map f xs ≡ map h ys → i < length ys → y ≡ get_or ys i y → (x : X) × (f x ≡ h y) × P x
  seen_at [] [] i y all same less is = absurd (omega (arith, less))
  seen_at [] (z ∷ ys) i y all same less is = absurd cc
  seen_at (x ∷ xs) [] i y all same less is = absurd cc
  seen_at (x ∷ xs) (z ∷ ys) zero y all same less is =
      let one : f x ≡ h z = cc in (x, one ∙ ap h (sym is), all.0)
  seen_at (x ∷ xs) (z ∷ ys) (suc i) y all same less is =
      let more : map f xs ≡ map h ys = cc in
      seen_at xs ys i y all.1 more (omega (arith, less)) is

  pub one_seen : (made : List X) (ys : List Y) (i : ℕ) (x : X) (y : Y)
      → map f made ≡ map h (take i ys) → i < length ys → y ≡ get_or ys i y → f x ≡ h y
      → map f (made ++ x ∷ []) ≡ map h (take (i + 1) ys)
  one_seen made ys i x y so_far less is one =
      map-append f made (x ∷ [])
      ∙ ap (λ (zs : List Z). zs ++ f x ∷ []) so_far
      ∙ ap (λ (z : Z). map h (take i ys) ++ z ∷ []) (one ∙ ap h is)
      ∙ sym (ap (map h) (take_more ys i y less) ∙ map-append h (take i ys) (get_or ys i y ∷ []))

-- a list that is not empty has an element
pub some_there : {X : Type 0} (xs : List X) → xs ≢ [] → 0 < length xs
some_there [] other = absurd (other refl)
some_there (x ∷ xs) other = omega arith

-- ---- tables of the same bytes are in the same order

same_ranges : (ts us : List OpenTable) → map bytes_of ts ≡ map bytes_of us
    → map range_of ts ≡ map range_of us
same_ranges [] [] same = refl
same_ranges [] (u ∷ us) same = absurd cc
same_ranges (t ∷ ts) [] same = absurd cc
same_ranges (t ∷ ts) (u ∷ us) same =
    let one : t.bytes ≡ u.bytes = cc in
    let more : map bytes_of ts ≡ map bytes_of us = cc in
    ap (λ r. r ∷ map range_of ts)
    (ap (λ (bs : List ℕ). range_of (record t { bytes = bs })) one)
    ∙ ap (λ rs. range_of u ∷ rs) (same_ranges ts us more)

pub order_alike : (ts us : List OpenTable) → map bytes_of ts ≡ map bytes_of us
    → IsInOrder range_of ts → IsInOrder range_of us
order_alike ts us same order =
    subst (λ rs. are_in_order rs ≡ true) (same_ranges ts us same) order

pub some_alike : (ts us : List OpenTable) → map bytes_of ts ≡ map bytes_of us → 0 < length ts
    → 0 < length us
some_alike [] us same some = absurd (omega (arith, some))
some_alike (t ∷ ts) [] same some = absurd cc
some_alike (t ∷ ts) (u ∷ us) same some = omega arith

-- ---- the opened tables of a run

pub run_owned : {E : Type 0} (n : ℕ) (r : Result (List OpenTable) E) (ts : List OpenTable)
    → IfOk r (λ run. run ≡ ts) → IfOk r (λ _. 0 < length ts) → IfOk r (λ _. IsInOrder range_of ts)
    → AllByRecursion (IsOwnTable n) ts → IfOk r (IsOwnRun n)
run_owned n (Ok run) ts is some order own = subst (IsOwnRun n) (sym is)
    (record { some = some; order = order; tables = own })
run_owned n (Err e) ts is some order own = tt

-- ---- the metadata of a table

-- its highest seqno, and its number of weak tombstones
pub all_highest : (n : ℕ) (es : List Entry) → highest_seqno es < n
    → AllByRecursion (λ (e : Entry). e.seqno < n) es
unfolding highest_seqno
all_highest n [] h = tt
all_highest n (e ∷ es) h = (omega (arith, h), all_highest n es (omega (arith, h)))

highest_below : (n : ℕ) (es : List Entry) → 0 < n → AllByRecursion (IsOwn n) es
    → highest_seqno es < n
unfolding highest_seqno
highest_below n [] some own = some
highest_below n (e ∷ es) some own =
    let less = own.0.0 in omega (arith, less, highest_below n es some own.1)

pub highest_own : (n : ℕ) (es : List Entry) → 0 < length es → AllByRecursion (IsOwn n) es
    → highest_seqno es < n
highest_own n [] some own = absurd (omega (arith, some))
highest_own n (e ∷ es) some own =
    let less = own.0.0 in highest_below n (e ∷ es) (omega (arith, less)) own

pub none_weak : (n : ℕ) (es : List Entry) → AllByRecursion (IsOwn n) es → count_by is_weak es ≡ 0
none_weak n [] own = refl
none_weak n (e ∷ es) own = count_no is_weak e es own.0.1 ∙ none_weak n es own.1

pub own_said : (n : ℕ) (es : List Entry) → highest_seqno es < n → count_by is_weak es ≡ 0
    → AllByRecursion (IsOwn n) es
own_said n es high none =
    both es (all_highest n es high) (none_counted is_weak es none)
  where
    both : (es : List Entry) → AllByRecursion (λ (e : Entry). e.seqno < n) es
        → AllByRecursion (λ (e : Entry). is_weak e ≡ false) es → AllByRecursion (IsOwn n) es
    both [] low kinds = tt
    both (e ∷ es) low kinds = ((low.0, kinds.0), both es low.1 kinds.1)

-- such a table, whose bytes store the list
pub own_table : (n : ℕ) (t : OpenTable) (es : List Entry) → IsOpen t → t.global_seqno ≡ 0
    → StoresList t.bytes es → 0 < length es → highest_seqno es < n → count_by is_weak es ≡ 0
    → IsOwnTable n t
own_table n t es opened unlifted stored some high none = record {
  list = es;
  holds = record {
    stored = es;
    opened = opened;
    table = stored;
    lifted_is = sym (ap (lift es) unlifted ∙ lift_zero es);
  };
  some = some;
  own = own_said n es high none;
  unlifted = unlifted;
}

-- for bytes that store a list, the only error is `OutOfMemory`
pub stored_opens : (bytes : List ℕ) (es : List Entry) → StoresList bytes es
    → (e : Error) → (is_memory e ≡ false → fits_result es 0 ≡ Err e) → is_memory e ≡ true
stored_opens bytes es stored e returned =
    elim (cases_Bool (is_memory e)) [
      | inl memory ↦ memory
      | inr other ↦ absurd (fits other)
    ]
  where
    fits : is_memory e ≡ false → ⊥
    fits other =
        let low : ltb (2 ^ 64 - 1) (highest_seqno es + 0) ≡ false =
        le-ltb _ _ (omega (arith, small_numbers es stored.numbers)) in
        let fine : fits_result es 0 ≡ Ok tt = rw low refl in
        let no : Ok tt ≡ Err e = sym fine ∙ returned other in
        cc
