-- A store reads as the same history after each call.
use Rattle.std.proofs.Common.{◌≡◌, refl, sym, ◌∙◌, ap, subst, ℕ, ◌+◌, ◌-◌, ◌^◌, ◌<◌, ◌≤◌, Bool}
use Rattle.std.proofs.Common.{false, List, [], ◌∷◌, ◌++◌, count_by, inl, inr, arith}
use Rattle.std.specs.Prelude.{Option, Some, None, map}
use Rattle.std.specs.List.{AllByRecursion}
use Rattle.std.specs.Option.{option_or}
use Rattle.std.proofs.lemmas.Bool.{cases_Bool}
use Rattle.lsm_tables.specs.Words.{AreCompactable, Distinct, Entry, HasList, IsStrict}
use Rattle.lsm_tables.specs.Words.{IsStrictAfter, IsWritable, OpenTable, RunsHoldLists}
use Rattle.lsm_tables.specs.Words.{all_entries, is_hit, joined, leading_of, ok_results, point}
use Rattle.lsm_tables.specs.Words.{seen, shown, sort_entries, union_in}
use Rattle.lsm_tables.proofs.TableLaws.{IsOfKey, all_inserted, all_more, as_pairs, ascends_of, at}
use Rattle.lsm_tables.proofs.TableLaws.{count_join, distinct_once, entries_of, from_pairs, is_weak}
use Rattle.lsm_tables.proofs.TableLaws.{leading_sorted, leads_older, once_strict, point_of_key}
use Rattle.lsm_tables.proofs.TableLaws.{union_count, union_up}
use Rattle.example_store.specs.Recent.{IsPut}
use Rattle.example_store.specs.Story.{AreNumbered, HoldBelow, Holding, IsOwn, IsOwnRun, IsStore}
use Rattle.example_store.specs.Story.{IsStory, IsReported, holding}
use Rattle.example_store.proofs.Own.{later_runs, low_union}
use Rattle.example_store.proofs.Places.{all_put, hit_first, hit_later}

-- ---- reads of lists one after another

module _ (key : List ℕ) (bound : ℕ) where
  nothing : point [] key bound ≡ None
  unfolding point
  nothing = refl

  pub point_behind : (xs ys : List Entry)
      → point (xs ++ ys) key bound ≡ option_or (point xs key bound) (point ys key bound)
  point_behind [] ys = sym (ap (λ (o : Option Entry). option_or o (point ys key bound)) nothing)
  point_behind (x ∷ xs) ys =
      elim (cases_Bool (is_hit key bound x)) [
        | inl hit ↦ hit_first x key bound (xs ++ ys) hit
            ∙ sym (ap (λ (o : Option Entry). option_or o (point ys key bound))
            (hit_first x key bound xs hit))
        | inr miss ↦ hit_later x key bound (xs ++ ys) miss
            ∙ point_behind xs ys
            ∙ sym (ap (λ (o : Option Entry). option_or o (point ys key bound))
            (hit_later x key bound xs miss))
      ]

  -- one entry before lists that read alike
  pub seen_more : (e : Entry) (xs ys : List Entry) → seen xs key bound ≡ seen ys key bound
      → seen (e ∷ xs) key bound ≡ seen (e ∷ ys) key bound
  seen_more e xs ys same =
      elim (cases_Bool (is_hit key bound e)) [
        | inl hit ↦ ap shown (hit_first e key bound xs hit ∙ sym (hit_first e key bound ys hit))
        | inr miss ↦ ap shown (hit_later e key bound xs miss) ∙ same
            ∙ sym (ap shown (hit_later e key bound ys miss))
      ]

  -- an entry that was inserted into the first of two lists
  pub seen_put : (e : Entry) (old new rest ws : List Entry) → IsPut e old new
      → seen (old ++ rest) key bound ≡ seen ws key bound
      → seen (new ++ rest) key bound ≡ seen (e ∷ ws) key bound
  seen_put e old new rest ws put same =
      ap shown (point_behind new rest
      ∙ ap (λ (o : Option Entry). option_or o (point rest key bound)) (put.reads key bound)
      ∙ sym (point_behind (e ∷ old) rest))
      ∙ seen_more e (old ++ rest) ws same

  -- if the entry found first is newer than all later ones, the sorted entries read alike
  pub found_newer : (from to : ℕ) (es all : List Entry) → AreNumbered from to es
      → AllByRecursion (λ (e : Entry). e.seqno < from) all → (x : Option Entry)
      → point es key bound ≡ x → leading_of x (point all key bound)
      ≡ option_or x (point all key bound)
  found_newer from to es all numbered low None is = refl
  found_newer from to es all numbered low (Some x) is =
      let own : x.user_key ≡ key = subst (IsOfKey key bound) is (point_of_key key bound es) in
      let high : from ≤ x.seqno = found_from es numbered x is in
      leads_older key bound x all own (all_more (λ (e : Entry). e.seqno < from)
      (λ (e : Entry). e.seqno < x.seqno) (λ e less. omega (arith, less, high)) all low)
    where
      found_from : (es : List Entry) → AreNumbered from to es → (x : Entry)
          → point es key bound ≡ Some x → from ≤ x.seqno
      found_from [] h x is = absurd (let no : None ≡ Some x = sym nothing ∙ is in cc)
      found_from (e ∷ es) h x is =
          elim (cases_Bool (is_hit key bound e)) [
            | inl hit ↦
                let same : Some e ≡ Some x = sym (hit_first e key bound es hit) ∙ is in
                let one : e ≡ x = cc in
                subst (λ (y : Entry). from ≤ y.seqno) one h.0.0
            | inr miss ↦ found_from es h.1 x (sym (hit_later e key bound es miss) ∙ is)
          ]

-- ---- one more list in a union

abbrev rest_of : List (List (List Entry)) → List Entry
rest_of lists = all_entries (map (λ (run : List (List Entry)). ok_results (joined run)) lists)

-- a fact about all entries of two lists holds after sorting one into the other
pub all_sorted : (P : Entry → Type 0) (es all : List Entry) → AllByRecursion P es
    → AllByRecursion P (sort_entries all) → AllByRecursion P (sort_entries (es ++ all))
all_sorted P [] all h k = k
all_sorted P (e ∷ es) all h k = all_inserted P e (sort_entries (es ++ all)) h.0
    (all_sorted P es all h.1 k)

module _ (es : List Entry) (ls : List (List Entry)) (whole : joined ls ≡ es)
    (lists : List (List (List Entry))) where
  union_more : union_in (ls ∷ lists) ≡ sort_entries (es ++ rest_of lists)
  union_more = ap (λ (xs : List Entry). sort_entries (xs ++ rest_of lists))
      (entries_of (joined ls) ∙ whole)

  -- a read of it
  pub read_more : (from to : ℕ) → AreNumbered from to es
      → AllByRecursion (λ (e : Entry). e.seqno < from) (union_in lists) → IsStrict es
      → (key : List ℕ) (bound : ℕ)
      → point (union_in (ls ∷ lists)) key bound ≡ point (es ++ union_in lists) key bound
  read_more from to numbered low strict key bound =
      ap (λ (xs : List Entry). point xs key bound) union_more
      ∙ leading_sorted key bound es (rest_of lists) (ascends_of es (as_pairs es strict))
      ∙ found_newer key bound from to es (union_in lists) numbered low (point es key bound) refl
      ∙ sym (point_behind key bound es (union_in lists))

  pub all_union : (P : Entry → Type 0) → AllByRecursion P es → AllByRecursion P (union_in lists)
      → AllByRecursion P (union_in (ls ∷ lists))
  all_union P h k = subst (AllByRecursion P) (sym union_more) (all_sorted P es (rest_of lists) h k)

  others : (x : Entry) (from : ℕ) → from ≤ x.seqno → (ys : List Entry)
      → AllByRecursion (λ (e : Entry). e.seqno < from) ys
      → AllByRecursion (λ (y : Entry). x.user_key ≡ y.user_key → x.seqno ≡ y.seqno → ⊥) ys
  others x from high [] low = tt
  others x from high (y ∷ ys) low =
      (λ _ same. absurd (omega (arith, high, low.0, same)), others x from high ys low.1)

  apart : (from to : ℕ) (xs ys : List Entry) → AreNumbered from to xs
      → AllByRecursion (λ (e : Entry). e.seqno < from) ys → Distinct xs ys
  apart from to [] ys h low = tt
  apart from to (x ∷ xs) ys h low = (others x from h.0.0 ys low, apart from to xs ys h.1 low)

  count_more : (p : Entry → Bool) → count_by p (union_in (ls ∷ lists))
      ≡ count_by p es + count_by p (union_in lists)
  count_more p =
      union_count (ls ∷ lists) p
      ∙ ap (λ (xs : List Entry). count_by p (xs ++ joined (map joined lists))) whole
      ∙ count_join p es (joined (map joined lists))
      ∙ ap (λ (n : ℕ). count_by p es + n) (sym (union_count lists p))

  pub strict_more : (from to : ℕ) → AreNumbered from to es
      → AllByRecursion (λ (e : Entry). e.seqno < from) (union_in lists) → IsStrict es
      → IsStrict (union_in lists) → IsStrict (union_in (ls ∷ lists))
  strict_more from to numbered low strict rest =
      let once = distinct_once es (union_in lists) (as_pairs es strict)
      (as_pairs (union_in lists) rest) (apart from to es (union_in lists) numbered low) in
      from_pairs (union_in (ls ∷ lists)) (once_strict (union_in (ls ∷ lists))
      (union_up (ls ∷ lists))
      (λ key number. omega (arith, count_more (at key number), once key number)))

-- ---- writes

pub story_later : (n m : ℕ) (ws : List Entry) → n ≤ m → IsStory n ws → IsStory m ws
story_later n m [] le h = tt
story_later n m (e ∷ ws) le h = (omega (arith, le, h.0), h.1)

pub numbered_later : (from n m : ℕ) (es : List Entry) → n ≤ m → AreNumbered from n es
    → AreNumbered from m es
numbered_later from n m es le h = all_more
    (λ (e : Entry). (from ≤ e.seqno) × IsOwn n e)
    (λ (e : Entry). (from ≤ e.seqno) × IsOwn m e)
    (λ e both. let less = both.1.0 in (both.0, (omega (arith, le, less), both.1.1))) es h

-- a store's own entries, with seqnos below a bound
pub all_own : (from n : ℕ) (es : List Entry) → AreNumbered from n es → AllByRecursion (IsOwn n) es
all_own from n es h = all_more (λ (e : Entry). (from ≤ e.seqno) × IsOwn n e) (IsOwn n)
    (λ e both. both.1) es h

pub all_older : (from n : ℕ) (es : List Entry) → AreNumbered from n es
    → AllByRecursion (λ (e : Entry). e.seqno < n) es
all_older from n es h = all_more (IsOwn n) (λ (e : Entry). e.seqno < n) (λ e own. own.0) es
    (all_own from n es h)

-- an entry with the next seqno
pub reports_more : (s t : Holding) (e : Entry) (ws : List Entry) → IsReported s ws
    → IsPut e s.recent t.recent → e.seqno ≡ s.next → t.next ≡ s.next + 1 → t.runs ≡ s.runs
    → t.oldest ≡ s.oldest → IsReported t (e ∷ ws)
reports_more s t e ws returned put number next runs oldest = record {
  story = (
    omega (arith, number, next),
    story_later s.next e.seqno ws (omega (arith, number))
        returned.story,
  );
  lists = returned.lists;
  hold = subst (λ (rs : List (List OpenTable)). RunsHoldLists rs returned.lists) (sym runs) returned.hold;
  same = λ key bound reads. seen_put key bound e s.recent t.recent (union_in returned.lists) ws put
      (returned.same key bound (omega (arith, oldest, reads)));
}

pub numbered_more : (from next later : ℕ) (e : Entry) (old new : List Entry) → IsPut e old new
    → AreNumbered from next old → from ≤ next → e.seqno ≡ next → is_weak e ≡ false
    → later ≡ next + 1 → AreNumbered from later new
numbered_more from next later e old new put h order number kind is =
    let P = λ (x : Entry). (from ≤ x.seqno) × IsOwn later x in
    subst (AllByRecursion P) (sym put.new_is)
    (all_put e P put.front put.behind
    (omega (arith, number, order), (omega (arith, number, is), kind))
    (subst (AllByRecursion P) put.old_is
    (numbered_later from next later old (omega (arith, is)) h)))

-- ---- flushing

pub writable_recent : (s : Holding) → IsStore s → IsStrict s.recent → IsWritable s.recent
writable_recent s sound strict = record {
  strict = strict;
  numbered = all_more (λ (e : Entry). e.seqno < s.next) (λ (e : Entry). e.seqno < 2 ^ 64 - 1)
      (λ e low. let room = sound.room in omega (arith, room, low)) s.recent
      (all_older s.flushed s.next s.recent sound.recent);
}

-- a run of the memtable's entries, before the others
pub able_flushed : (s : Holding) (run : List OpenTable) → IsStore s → IsStrict s.recent
    → HasList s.recent run → IsOwnRun s.next run → HoldBelow s.next (run ∷ s.runs)
able_flushed s run sound strict has own =
    let able = sound.runs.able in
    let writable = writable_recent s sound strict in
    record {
      own = (own, later_runs s.flushed s.next sound.order s.runs sound.runs.own);
      able = record {
        lists = has.lists ∷ able.lists;
        hold = ((has.order, has.hold), able.hold);
        some = (has.some, able.some);
        writable = record {
          strict = strict_more s.recent has.lists has.whole able.lists s.flushed s.next
              sound.recent (low_union s.flushed s.runs sound.runs.own able.lists able.hold) strict
              able.writable.strict;
          numbered = all_union s.recent has.lists has.whole able.lists
              (λ (e : Entry). e.seqno < 2 ^ 64 - 1) writable.numbered able.writable.numbered;
        };
      };
    }

-- the seqnos in the runs' lists are below those in the memtable
pub low_lists : (s : Holding) (ws : List Entry) → IsStore s → (returned : IsReported s ws)
    → AllByRecursion (λ (e : Entry). e.seqno < s.flushed) (union_in returned.lists)
low_lists s ws sound returned = low_union s.flushed s.runs sound.runs.own returned.lists returned.hold

pub reports_flushed : (s t : Holding) (run : List OpenTable) (ws : List Entry) → IsStore s
    → IsStrict s.recent → HasList s.recent run → IsReported s ws → t.recent ≡ []
    → t.runs ≡ run ∷ s.runs → t.next ≡ s.next → t.oldest ≡ s.oldest → IsReported t ws
reports_flushed s t run ws sound strict has returned none runs next oldest = record {
  story = subst (λ (n : ℕ). IsStory n ws) (sym next) returned.story;
  lists = has.lists ∷ returned.lists;
  hold = subst (λ (rs : List (List OpenTable)). RunsHoldLists rs (has.lists ∷ returned.lists))
      (sym runs) ((has.order, has.hold), returned.hold);
  same = λ key bound reads.
      ap (λ (xs : List Entry). seen (xs ++ union_in (has.lists ∷ returned.lists)) key bound) none
      ∙ ap shown (read_more s.recent has.lists has.whole returned.lists s.flushed s.next sound.recent
      (low_lists s ws sound returned) strict key bound)
      ∙ returned.same key bound (omega (arith, oldest, reads));
}

-- no table was written
pub reports_still : (s t : Holding) (ws : List Entry) → IsReported s ws → t.recent ≡ s.recent
    → t.runs ≡ s.runs → t.next ≡ s.next → t.oldest ≡ s.oldest → IsReported t ws
reports_still s t ws returned recent runs next oldest = record {
  story = subst (λ (n : ℕ). IsStory n ws) (sym next) returned.story;
  lists = returned.lists;
  hold = subst (λ (rs : List (List OpenTable)). RunsHoldLists rs returned.lists) (sym runs) returned.hold;
  same = λ key bound reads.
      ap (λ (xs : List Entry). seen (xs ++ union_in returned.lists) key bound) recent
      ∙ returned.same key bound (omega (arith, oldest, reads));
}

-- ---- a new store

pub able_none : AreCompactable []
unfolding IsStrictAfter
able_none = record {
  lists = [];
  hold = tt;
  some = tt;
  writable = record { strict = tt; numbered = tt };
}

none_below : (bound : ℕ) → HoldBelow bound []
none_below bound = record { own = tt; able = able_none }

pub valid_new : (recent : List Entry) (runs : List (List OpenTable)) (ids : Option ℕ)
    (target limit : ℕ) → recent ≡ [] → runs ≡ []
    → IsStore (holding recent runs ids target 0 0 0 limit)
valid_new recent runs ids target limit none empty = record {
  recent = subst (AreNumbered 0 0) (sym none) tt;
  runs = subst (HoldBelow 0) (sym empty) (none_below 0);
  order = omega arith;
  room = omega arith;
  kept = omega arith;
}

pub reports_new : (recent : List Entry) (runs : List (List OpenTable)) (ids : Option ℕ)
    (target limit : ℕ) → recent ≡ [] → runs ≡ []
    → IsReported (holding recent runs ids target 0 0 0 limit) []
reports_new recent runs ids target limit none empty = record {
  story = tt;
  lists = [];
  hold = subst (λ (rs : List (List OpenTable)). RunsHoldLists rs []) (sym empty) tt;
  same = λ key bound reads.
      ap (λ (xs : List Entry). seen (xs ++ union_in []) key bound) none;
}

-- ---- the invariant is kept

module _ (recent new : List Entry) (runs : List (List OpenTable)) (ids : Option ℕ)
    (target next flushed oldest limit : ℕ) where
  pub older_recent : (n : ℕ) → IsStore (holding recent runs ids target next flushed oldest limit)
      → n ≡ next → AllByRecursion (λ (e : Entry). e.seqno < n) recent
  older_recent n sound is = subst (λ (m : ℕ). AllByRecursion (λ (e : Entry). e.seqno < m) recent)
      (sym is) (all_older flushed next recent sound.recent)

  pub valid_more : (e : Entry) → IsStore (holding recent runs ids target next flushed oldest limit)
      → IsPut e recent new → e.seqno ≡ next → is_weak e ≡ false → next < 2 ^ 64 - 2
      → IsStore (holding new runs ids target (next + 1) flushed oldest limit)
  valid_more e sound put number kind room = record {
    recent = numbered_more flushed next (next + 1) e recent new put sound.recent sound.order number
        kind refl;
    runs = sound.runs;
    order = let order = sound.order in omega (arith, order);
    room = omega (arith, room);
    kept = let kept = sound.kept in omega (arith, kept);
  }

  pub valid_flushed : (run : List OpenTable) (left : Option ℕ) (all : List (List OpenTable))
      → IsStore (holding recent runs ids target next flushed oldest limit) → IsStrict recent
      → HasList recent run → IsOwnRun next run → new ≡ [] → all ≡ run ∷ runs
      → IsStore (holding new all left target next next oldest limit)
  valid_flushed run left all sound strict has own none is = record {
    recent = subst (AreNumbered next next) (sym none) tt;
    runs = subst (HoldBelow next) (sym is)
        (able_flushed (holding recent runs ids target next flushed oldest limit) run sound strict
        has own);
    order = omega arith;
    room = sound.room;
    kept = sound.kept;
  }
