-- The entries of a source with a seqno below a bound, and its errors.
use Rattle.std.specs.Prelude.{◌≡◌, ℕ, Bool, true, false, nat_lt, filter, List, Option, MatchOption}
use Rattle.std.specs.Prelude.{Ok, Err}
use Rattle.std.specs.List.{AllByRecursion}
use Rattle.std.specs.Iterator.{Count, IsFinite, Yields}
use Rattle.sst_entries.specs.declared.error.Error.{Error}
use Rattle.sst_entries.specs.Entry.{Entry}
use Rattle.sst_entries.specs.Stream.{CanYield, YieldsExactly, answer_stops}
use Rattle.lsm_sorted.specs.merge.Ends.{R}
use Rattle.lsm_sorted.specs.declared.below.Below.{Below}

-- the entries with a seqno below a bound
abbrev pub numbered_below : ℕ → List Entry → List Entry
numbered_below bound es = filter (λ e. nat_lt e.seqno bound) es

-- an entry passes if its seqno is below the bound; an error always passes
abbrev pub passes : ℕ → R → Bool
passes bound (Ok e) = nat_lt e.seqno bound
passes bound (Err e) = true

-- the results that pass
abbrev pub below_results : ℕ → List R → List R
below_results bound rs = filter (passes bound) rs

-- a source with a bound
abbrev pub below_of : {S : Type 0} → ℕ → S → Below S
below_of bound source = record { iter = source; seqno = bound }

-- the source may be called, and is finite
pub record MayAsk {S : Type 0} (front back : S → Option R → S → Type 0) (can can_back : S → Type 0)
    (left : S → Count) (s : Below S) : Type 0 where
  pub asks : CanYield front back can can_back s.iter
  pub ends : IsFinite (left s.iter)

-- calls of the source from s to t returned only results that do not pass
pub record LetsGo {S : Type 0} (bound : ℕ) (ask : S → Option R → S → Type 0) (s t : S) : Type 0
  where
    pub gone : List R
    pub gave : Yields ask s gone t
    pub high : AllByRecursion (λ x. passes bound x ≡ false) gone

-- one call: it may be called again, and it returns the source's first result that passes
pub record GivesBelow {S : Type 0} (May : Below S → Type 0) (ask : S → Option R → S → Type 0)
    (s : Below S) (r : Option R) (t : Below S) : Type 0 where
  pub may : May t
  pub same : t.seqno ≡ s.seqno
  pub led : S
  pub before : LetsGo s.seqno ask s.iter led
  pub gives : ask led r t.iter
  pub low : MatchOption r (Unit {0}) (λ x. passes s.seqno x ≡ true)

-- of a list that the source yields, the results that pass are yielded, up to an error in `stops`
pub record YieldsBelow {S T : Type 0} (front back : S → Option R → S → Type 0) (source : S)
    (bound : ℕ) (next next_back : T → Option R → T → Type 0) (t : T) : Type 0 where
  pub yields : (stops : Error → Bool) (xs : List R) → YieldsExactly (answer_stops stops) front back source xs
      → YieldsExactly (answer_stops stops) next next_back t (below_results bound xs)

-- before any call: for calls at both ends, the results of its source that pass are yielded
abbrev pub YieldsItsBelow : {S : Type 0} (front back : S → Option R → S → Type 0)
    (next next_back : Below S → Option R → Below S → Type 0) → Below S → Type 0
YieldsItsBelow {S} front back next next_back s = (source : S) (bound : ℕ) →
    s ≡ below_of bound source → YieldsBelow front back source bound next next_back s

-- before any call: a call is allowed if the source may be called and is finite
abbrev pub MayStartBelow : {S : Type 0} (front back : S → Option R → S → Type 0)
    (can can_back : S → Type 0) → (S → Count) → (Below S → Type 0) → Below S → Type 0
MayStartBelow {S} front back can can_back left can_next s = (source : S) (bound : ℕ) →
    s ≡ below_of bound source → CanYield front back can can_back source →
    IsFinite (left source) → can_next s
