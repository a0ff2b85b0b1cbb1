-- Sorted lists of entries, and lists with the same entries.
use Rattle.std.specs.Prelude.{◌≡◌, ◌<◌, Bool, true, false, cond, not, List, [], ◌∷◌, ◌++◌, filter}
use Rattle.std.specs.Prelude.{count_by, Ok, Err}
use Rattle.std.specs.declared.cmp.Ordering.{Ordering}
use Rattle.std.specs.List.{AllByRecursion}
use Rattle.std.specs.Ordering.{on, is_gt}
use Rattle.sst_entries.specs.Entry.{Entry}
use Rattle.sst_entries.specs.Key.{same_key, key_cmp}
use Rattle.sst_entries.specs.declared.key.InternalKey.{InternalKey}
use Rattle.sst_entries.specs.declared.error.Error.{Error}
use Rattle.lsm_sorted.specs.merge.Ends.{R}

-- the key, the sequence number and the kind of an entry
abbrev pub internal_key_of : Entry → InternalKey (Unit {0})
internal_key_of e = record { user_key = e.user_key; seqno = e.seqno; value_type = e.kind }

-- the order of entries by internal key
abbrev pub item_cmp : Entry → Entry → Ordering
item_cmp = on internal_key_of key_cmp

-- an entry does not sort after another
abbrev pub AtMost : Entry → Entry → Type 0
AtMost x y = is_gt (item_cmp x y) ≡ false

-- the entries are sorted; ties are allowed
abbrev pub Ascends : List Entry → Type 0
Ascends [] = Unit {0}
Ascends (x ∷ xs) = AllByRecursion (AtMost x) xs × Ascends xs

-- the lists have the same items with the same multiplicity: every test passes equally often
pub record SameBag {A : Type 0} (xs ys : List A) : Type 0 where
  pub count : (p : A → Bool) → count_by p xs ≡ count_by p ys

-- xs contains x
pub record IsAmong {A : Type 0} (x : A) (xs : List A) : Type 0 where
  pub at : (p : A → Bool) → p x ≡ true → 0 < count_by p xs

-- the entries and the errors of lists of results
abbrev pub entries_among : List R → List Entry
entries_among [] = []
entries_among (Ok x ∷ rs) = x ∷ entries_among rs
entries_among (Err e ∷ rs) = entries_among rs

abbrev pub errors_among : List R → List Error
errors_among [] = []
errors_among (Ok x ∷ rs) = errors_among rs
errors_among (Err e ∷ rs) = e ∷ errors_among rs

abbrev pub all_entries : List (List R) → List Entry
all_entries [] = []
all_entries (rs ∷ rss) = entries_among rs ++ all_entries rss

abbrev pub all_errors : List (List R) → List Error
all_errors [] = []
all_errors (rs ∷ rss) = errors_among rs ++ all_errors rss

-- a sorted list with exactly the entries of the lists, with multiplicity
pub record IsUnion (lists : List (List R)) (xs : List Entry) : Type 0 where
  pub ascends : Ascends xs
  pub same : SameBag xs (all_entries lists)

-- the first entry of each key
abbrev pub newest : List Entry → List Entry
newest [] = []
newest (x ∷ xs) = x ∷ filter (λ y. not (same_key y.user_key x.user_key)) (newest xs)

-- x inserted before the first of xs that it does not sort after
abbrev pub insert_sorted : Entry → List Entry → List Entry
insert_sorted x [] = x ∷ []
insert_sorted x (y ∷ ys) = cond (is_gt (item_cmp x y)) (y ∷ insert_sorted x ys) (x ∷ y ∷ ys)

-- the entries sorted; a stable sort
abbrev pub sort_entries : List Entry → List Entry
sort_entries [] = []
sort_entries (x ∷ xs) = insert_sorted x (sort_entries xs)

-- the entries of all lists sorted; ties keep the order of the lists
abbrev pub union_of : List (List R) → List Entry
union_of lists = sort_entries (all_entries lists)
