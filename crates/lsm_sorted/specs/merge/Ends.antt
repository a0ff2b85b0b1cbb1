-- An iterator that is not called again after `None`.
use Rattle.std.specs.Prelude.{◌≡◌, ℕ, Bool, true, false, cond, List, [], Option, None, Result}
use Rattle.std.specs.Prelude.{is_none}
use Rattle.std.specs.Iterator.{Count, IsFinite, size}
use Rattle.sst_entries.specs.Entry.{Entry}
use Rattle.sst_entries.specs.declared.error.Error.{Error}
use Rattle.lsm_sorted.specs.declared.heap.ends.Ends.{Ends}
use Rattle.sst_entries.specs.declared.stream.Direction.{Direction}
use Rattle.sst_entries.specs.declared.stream.Direction.TheVariants.{Front, Back}
use Rattle.sst_entries.specs.Stream.{YieldsExactly, CanYield, answer_stops, YieldsFirst, YieldsLast}
use Rattle.sst_entries.specs.Stream.{nowhere}

-- an entry, or an error
abbrev pub R : Type 0
R = Result Entry Error

-- after any calls at the front alone, it may be called again
abbrev pub CanAdvance : {S : Type 0} → (S → Option R → S → Type 0) → (S → Type 0) → S → Type 0
CanAdvance advances can = CanYield advances nowhere can can

module _ {S : Type 0} (stops : Error → Bool) (front back : S → Option R → S → Type 0) where
  -- the remaining results, by whether it has ended
  abbrev pub LeftIf : Bool → S → List R → Type 0
  LeftIf true s xs = xs ≡ []
  LeftIf false s xs = YieldsExactly (answer_stops stops) front back s xs

  -- the remaining results
  pub record Left (s : Ends S) (xs : List R) : Type 0 where
    pub lists : LeftIf s.done s.iter xs

-- a call returned the item at its end
abbrev pub YieldsAt : Direction → (Error → Bool) → {T : Type 0} → (T → List R → Type 0) → T
    → Option R → T → Type 0
YieldsAt Front stops Has = YieldsFirst stops Has
YieldsAt Back stops Has = YieldsLast stops Has

module _ {S : Type 0} (front back : S → Option R → S → Type 0) where
  -- the same, by whether it has ended
  abbrev pub GoesIf : (S → Type 0) → (S → Type 0) → (S → Count) → Bool → S → Type 0
  GoesIf can can_back left true s = Unit {0}
  GoesIf can can_back left false s = CanYield front back can can_back s × IsFinite (left s)

  -- it may be called at both ends, and is finite
  pub record Goes (can can_back : S → Type 0) (left : S → Count) (s : Ends S) : Type 0 where
    pub ready : GoesIf can can_back left s.done s.iter

-- the maximum number of remaining items
abbrev pub ends_size : {S : Type 0} → (S → Count) → Ends S → ℕ
ends_size left s = cond s.done 0 (size (left s.iter))

-- before any call
abbrev pub new_ends : {S : Type 0} → S → Ends S
new_ends s = record { iter = s; done = false }

-- one call, by whether it has ended
abbrev pub AskedIf : {S : Type 0} → (S → Option R → S → Type 0) → Bool → Ends S → Option R → Ends S
    → Type 0
AskedIf ask true s r t = (r ≡ None) × (t ≡ s)
AskedIf ask false s r t = ask s.iter r t.iter × (t.done ≡ is_none r)

-- the iterator was called once; one that has ended was not called
pub record Asked {S : Type 0} (ask : S → Option R → S → Type 0) (s : Ends S) (r : Option R)
    (t : Ends S) : Type 0 where
  pub call : AskedIf ask s.done s r t
