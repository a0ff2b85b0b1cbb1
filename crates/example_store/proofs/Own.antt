-- Tables and runs that have only a store's own entries.
use Rattle.std.proofs.Common.{◌≡◌, sym, ◌∙◌, ap, subst, ℕ, ◌+◌, ◌-◌, ◌^◌, ◌<◌, ◌≤◌, List}
use Rattle.std.proofs.Common.{[], ◌∷◌, length, arith}
use Rattle.std.specs.Prelude.{IfSome, MatchOption, None, Option, Some, map}
use Rattle.std.specs.List.{AllByRecursion, AllZip}
use Rattle.std.proofs.lemmas.Simd.{map-map}
use Rattle.lsm_tables.specs.Words.{AreCompactable, AreCutOf, Entry, HasList, HoldLists, IsStrict}
use Rattle.lsm_tables.specs.Words.{Label, OpenTable, Rules, RunsHoldLists, StoresList}
use Rattle.lsm_tables.specs.Words.{all_entries, joined, joined_in, kept_in, lift, ok_results}
use Rattle.lsm_tables.specs.Words.{sort_entries, union_in}
use Rattle.lsm_tables.proofs.TableLaws.{AreOpened, HaveEntries, all_append, all_behind, all_front}
use Rattle.lsm_tables.proofs.TableLaws.{all_inserted, all_kept, all_more, entries_joined, one_way}
use Rattle.lsm_tables.proofs.TableLaws.{lift_zero, tables_there, zeroed_below}
use Rattle.example_store.specs.Closed.{StoreLists, bytes_by_run}
use Rattle.example_store.specs.Story.{IsOwn, IsOwnRun, IsOwnTable, option_list}

-- a fact about each entry holds for each after sorting
pub all_in_order : (P : Entry → Type 0) (es : List Entry) → AllByRecursion P es
    → AllByRecursion P (sort_entries es)
all_in_order P [] h = tt
all_in_order P (e ∷ es) h = all_inserted P e (sort_entries es) h.0 (all_in_order P es h.1)

pub union_of_joined : (lists : List (List (List Entry)))
    → union_in lists ≡ sort_entries (joined_in lists)
union_of_joined lists = ap sort_entries (ap all_entries (sym (map-map
    (λ (es : List Entry). ok_results es) joined lists)) ∙ entries_joined (map joined lists))

-- ---- the lists of tables and of runs

module _ (bound : ℕ) where
  -- lists that tables hold
  pub record OwnLists (tables : List OpenTable) : Type 0 where
    pub lists : List (List Entry)
    pub hold : HoldLists tables lists
    pub some : AllByRecursion (λ (es : List Entry). 0 < length es) lists
    pub own : AllByRecursion (IsOwn bound) (joined lists)

  pub own_lists : (tables : List OpenTable) → AllByRecursion (IsOwnTable bound) tables
      → OwnLists tables
  own_lists [] h = record { lists = []; hold = tt; some = tt; own = tt }
  own_lists (t ∷ ts) h =
      let more = own_lists ts h.1 in
      record {
        lists = h.0.list ∷ more.lists;
        hold = (h.0.holds, more.hold);
        some = (h.0.some, more.some);
        own = all_append (IsOwn bound) h.0.list (joined more.lists) h.0.own more.own;
      }

  pub own_tables : (tables : List OpenTable) (lists : List (List Entry)) → HoldLists tables lists
      → AllByRecursion (λ (es : List Entry). 0 < length es) lists
      → AllByRecursion (IsOwn bound) (joined lists)
      → AllByRecursion (λ (t : OpenTable). t.global_seqno ≡ 0) tables
      → AllByRecursion (IsOwnTable bound) tables
  own_tables [] lists hold some own unlifted = tt
  own_tables (t ∷ ts) [] hold some own unlifted = absurd hold
  own_tables (t ∷ ts) (es ∷ ls) hold some own unlifted = (
    record {
      list = es;
      holds = hold.0;
      some = some.0;
      own = all_front (IsOwn bound) es (joined ls) own;
      unlifted = unlifted.0;
    },
    own_tables ts ls hold.1 some.1 (all_behind (IsOwn bound) es (joined ls) own) unlifted.1,
  )

  -- lists that runs hold
  pub record OwnRunLists (runs : List (List OpenTable)) : Type 0 where
    pub lists : List (List (List Entry))
    pub hold : RunsHoldLists runs lists
    pub some : AllByRecursion HaveEntries lists
    pub own : AllByRecursion (IsOwn bound) (joined_in lists)

  lists_there : (tables : List OpenTable) (lists : List (List Entry)) → HoldLists tables lists
      → 0 < length tables → 0 < length lists
  lists_there [] lists hold some = absurd (omega (arith, some))
  lists_there (t ∷ ts) [] hold some = absurd hold
  lists_there (t ∷ ts) (es ∷ ls) hold some = omega arith

  pub own_run_lists : (runs : List (List OpenTable)) → AllByRecursion (IsOwnRun bound) runs
      → OwnRunLists runs
  own_run_lists [] h = record { lists = []; hold = tt; some = tt; own = tt }
  own_run_lists (run ∷ runs) h =
      let one = own_lists run h.0.tables in
      let more = own_run_lists runs h.1 in
      record {
        lists = one.lists ∷ more.lists;
        hold = ((h.0.order, one.hold), more.hold);
        some = ((lists_there run one.lists one.hold h.0.some, one.some), more.some);
        own = all_append (IsOwn bound) (joined one.lists) (joined_in more.lists) one.own more.own;
      }

  -- all their entries are the store's own
  pub own_union : (runs : List (List OpenTable)) → AllByRecursion (IsOwnRun bound) runs
      → (lists : List (List (List Entry))) → RunsHoldLists runs lists
      → AllByRecursion (IsOwn bound) (union_in lists)
  own_union runs own lists hold =
      let all = own_run_lists runs own in
      subst (λ (ls : List (List (List Entry))). AllByRecursion (IsOwn bound) (union_in ls))
      (one_way runs all.lists lists all.hold hold)
      (subst (AllByRecursion (IsOwn bound)) (sym (union_of_joined all.lists))
      (all_in_order (IsOwn bound) (joined_in all.lists) all.own))

  pub low_union : (runs : List (List OpenTable)) → AllByRecursion (IsOwnRun bound) runs
      → (lists : List (List (List Entry))) → RunsHoldLists runs lists
      → AllByRecursion (λ (e : Entry). e.seqno < bound) (union_in lists)
  low_union runs own lists hold = all_more (IsOwn bound) (λ (e : Entry). e.seqno < bound)
      (λ e h. h.0) (union_in lists) (own_union runs own lists hold)

  -- they may be compacted if no key has one seqno twice
  pub own_able : (runs : List (List OpenTable)) (own : AllByRecursion (IsOwnRun bound) runs)
      → bound ≤ 2 ^ 64 - 1 → IsStrict (union_in (own_run_lists runs own).lists)
      → AreCompactable runs
  own_able runs own room strict =
      let all = own_run_lists runs own in
      record {
        lists = all.lists;
        hold = all.hold;
        some = all.some;
        writable = record {
          strict = strict;
          numbered = all_more (λ (e : Entry). e.seqno < bound)
              (λ (e : Entry). e.seqno < 2 ^ 64 - 1) (λ e less. omega (arith, less, room))
              (union_in all.lists) (low_union runs own all.lists all.hold);
        };
      }

  -- ---- a run of a list

  pub own_run : (es : List Entry) (run : List OpenTable) → HasList es run
      → AllByRecursion (λ (t : OpenTable). t.global_seqno ≡ 0) run
      → AllByRecursion (IsOwn bound) es → IsOwnRun bound run
  own_run es run has unlifted own = record {
    some = tables_there run has.lists has.hold has.some;
    order = has.order;
    tables = own_tables run has.lists has.hold has.some.1
        (subst (AllByRecursion (IsOwn bound)) (sym has.whole) own) unlifted;
  }

  -- the entries kept of a store's own are its own
  pub own_kept : (rules : Rules) (lists : List (List (List Entry)))
      → AllByRecursion (IsOwn bound) (union_in lists)
      → AllByRecursion (IsOwn bound) (kept_in rules lists)
  own_kept rules lists own = all_kept rules (IsOwn bound)
      (λ e h. let less = h.0 in (omega (arith, less, zeroed_below rules e), h.1))
      (union_in lists) own

-- ---- tables that were opened without a global seqno

opened_unlifted : (label : Label) (lists : List (List Entry)) (run : List OpenTable)
    → AreOpened label lists 0 run
    → AllByRecursion (λ (t : OpenTable). t.global_seqno ≡ 0) run
opened_unlifted label lists [] h = tt
opened_unlifted label [] (t ∷ ts) h = absurd h
opened_unlifted label (es ∷ ls) (t ∷ ts) h =
    (h.0.is.number_is, opened_unlifted (record label { table_id = label.table_id + 1 }) ls ts h.1)

pub cut_own : (bound : ℕ) (label : Label) (target : ℕ) (es : List Entry)
    (r : Option (List OpenTable)) → MatchOption r (es ≡ []) (λ run. HasList es run)
    → IfSome r (λ run. AreCutOf label target es 0 run) → AllByRecursion (IsOwn bound) es
    → IfSome r (IsOwnRun bound)
cut_own bound label target es None has cut own = tt
cut_own bound label target es (Some run) has cut own =
    own_run bound es run has (opened_unlifted label cut.lists run cut.opened) own

pub listed_own : (bound : ℕ) (r : Option (List OpenTable)) → IfSome r (IsOwnRun bound)
    → AllByRecursion (IsOwnRun bound) (option_list r)
listed_own bound None h = tt
listed_own bound (Some run) h = (h, tt)

-- ---- below a later bound

module _ (n m : ℕ) (le : n ≤ m) where
  later_entries : (es : List Entry) → AllByRecursion (IsOwn n) es → AllByRecursion (IsOwn m) es
  later_entries = all_more (IsOwn n) (IsOwn m)
      (λ e h. let less = h.0 in (omega (arith, le, less), h.1))

  later_tables : (ts : List OpenTable) → AllByRecursion (IsOwnTable n) ts
      → AllByRecursion (IsOwnTable m) ts
  later_tables = all_more (IsOwnTable n) (IsOwnTable m) (λ t h. record {
    list = h.list;
    holds = h.holds;
    some = h.some;
    own = later_entries h.list h.own;
    unlifted = h.unlifted;
  })

  pub later_runs : (runs : List (List OpenTable)) → AllByRecursion (IsOwnRun n) runs
      → AllByRecursion (IsOwnRun m) runs
  later_runs = all_more (IsOwnRun n) (IsOwnRun m) (λ run h. record {
    some = h.some;
    order = h.order;
    tables = later_tables run h.tables;
  })

-- ---- each file stores a list

abbrev pub bytes_of : OpenTable → List ℕ
bytes_of t = t.bytes

module _ (n : ℕ) where
  pub table_stored : (t : OpenTable) (own : IsOwnTable n t) → StoresList t.bytes own.list
  table_stored t own = subst (StoresList t.bytes)
      (sym (own.holds.lifted_is ∙ ap (lift own.holds.stored) own.unlifted
      ∙ lift_zero own.holds.stored)) own.holds.table

  run_stored : (ts : List OpenTable) (own : AllByRecursion (IsOwnTable n) ts)
      → AllZip StoresList (map bytes_of ts) (own_lists n ts own).lists
  unfolding own_lists
  run_stored [] own = tt
  run_stored (t ∷ ts) own = (table_stored t own.0, run_stored ts own.1)

  pub runs_stored : (runs : List (List OpenTable)) (own : AllByRecursion (IsOwnRun n) runs)
      → StoreLists (bytes_by_run runs) (own_run_lists n runs own).lists
  unfolding own_run_lists
  runs_stored [] own = tt
  runs_stored (ts ∷ runs) own = (run_stored ts own.0.tables, runs_stored runs own.1)
