-- The newest version of each key in a lending source.
use Rattle.std.specs.Prelude.{◌≡◌, ℕ, Bool, true, false, cond, not, List, [], ◌∷◌, filter}
use Rattle.std.specs.Prelude.{Option, Some, None, Ok, Err}
use Rattle.sst_entries.specs.Entry.{Entry}
use Rattle.sst_entries.specs.Key.{same_key}
use Rattle.sst_entries.specs.Stream.{CanYield, YieldsExactly, YieldsFirst, answer_stops, nowhere, ok_results}
use Rattle.sst_entries.specs.declared.error.Error.{Error}
use Rattle.sst_entries.specs.declared.error.Error.TheVariants.{OutOfMemory}
use Rattle.lsm_sorted.specs.merge.Ends.{R}
use Rattle.lsm_sorted.specs.merge.Union.{Ascends, entries_among, newest}
use Rattle.lsm_sorted.specs.lending.LentFaults.{CallReports}
use Rattle.lsm_sorted.specs.Newest.{is_of}
use Rattle.lsm_sorted.specs.declared.lending_newest.LendingNewest.{LendingNewest}

-- the first entry of each key, and every error, in order
abbrev pub newest_results : List R → List R
newest_results [] = []
newest_results (Ok x ∷ rs) = Ok x ∷ filter (λ r. not (is_of x.user_key r)) (newest_results rs)
newest_results (Err e ∷ rs) = Err e ∷ newest_results rs

-- an entry has the key yielded last, if any
abbrev pub is_given : Option (List ℕ) → Entry → Bool
is_given None x = false
is_given (Some k) x = same_key x.user_key k

-- the results after this key was yielded: entries with the same key are skipped
abbrev pub news : Option (List ℕ) → List R → List R
news k [] = []
news k (Ok x ∷ rs) = cond (is_given k x) (news k rs) (Ok x ∷ news (Some x.user_key) rs)
news k (Err e ∷ rs) = Err e ∷ news k rs

-- its source
abbrev pub newest_lender : {S A : Type 0} → LendingNewest S A → S
newest_lender s = s.source

-- the key yielded last
abbrev pub given_key : {S A : Type 0} → LendingNewest S A → Option (List ℕ)
given_key s = cond s.has_key (Some s.key.items) None

-- whether the borrowed entry, if any, has another key
abbrev pub is_other : Option (List ℕ) → Option Entry → Bool
is_other k None = true
is_other k (Some x) = not (is_given k x)

-- the borrowed entry
abbrev pub lent_newest : {S A : Type 0} → (S → Option Entry) → LendingNewest S A → Option Entry
lent_newest lent s = cond s.is_over None (cond s.has_key (lent s.source) None)

-- the maximum number of remaining results
abbrev pub newest_left : {S A : Type 0} → (S → ℕ) → LendingNewest S A → ℕ
newest_left left s = cond s.is_over 0 (left s.source)

-- the source may be called
abbrev pub MayNewest : {S A : Type 0} → (S → Option R → S → Type 0) → (S → Type 0)
    → LendingNewest S A → Type 0
MayNewest advances can s = CanYield advances nowhere can can s.source

-- the remaining results; only `OutOfMemory` ends it
pub record LeavesNewest {S A : Type 0} (stops : Error → Bool) (advances : S → Option R → S → Type 0)
    (s : LendingNewest S A) (ys : List R) : Type 0 where
  pub memory : stops OutOfMemory ≡ true
  pub live : s.is_over ≡ false
  pub rest : List R
  pub has : YieldsExactly (answer_stops stops) advances nowhere s.source rest
  pub is : ys ≡ news (given_key s) rest

-- one call: it may be called again, and its result is the first of the remaining list, up to an
-- error in `stops`. It reports the source's errors.
pub record AdvancesNewest {S : Type 0} (advances : S → Option R → S → Type 0) (can : S → Type 0)
    {A : Type 0} (s : LendingNewest S A) (r : Option R) (t : LendingNewest S A) : Type 0 where
  pub may : MayNewest advances can t
  pub gives : (stops : Error → Bool) → YieldsFirst stops (LeavesNewest stops advances) s r t
  pub states : CallReports advances newest_lender (λ n. n.is_over) (λ n. true) s r t

module _ {S T : Type 0} (advances : S → Option R → S → Type 0) (source : S)
    (next : T → Option R → T → Type 0) (t : T) where
  -- except for `OutOfMemory`: for a sorted list, it yields the newest version of each key, with the
  -- errors in order
  pub record YieldsNewestResults : Type 0 where
    pub yields : (stops : Error → Bool) (xs : List R) → stops OutOfMemory ≡ true
        → Ascends (entries_among xs) → YieldsExactly (answer_stops stops) advances nowhere source xs
        → YieldsExactly (answer_stops stops) next nowhere t (newest_results xs)

  -- the same without errors
  pub record YieldsNewestEntries : Type 0 where
    pub yields : (stops : Error → Bool) (xs : List Entry) → stops OutOfMemory ≡ true → Ascends xs
        → YieldsExactly (answer_stops stops) advances nowhere source (ok_results xs)
        → YieldsExactly (answer_stops stops) next nowhere t (ok_results (newest xs))
