-- Calls on handles: what they leave, and the code for a handle that is open, closed or of another
-- kind.
use Rattle.std.specs.Prelude.{◌≡◌, ◌≢◌, ◌⊎◌, ◌||◌, ℕ, Bool, false, true, List, Option, None, Some}
use Rattle.std.specs.Prelude.{IsSomeAnd, is_some, nat_lt}
use Rattle.sst_entries.specs.Entry.{Entry}
use Rattle.sst_c.specs.Reported.{entry_facts, found_by, found_in}
use Rattle.sst_c.specs.What.{writer_in}
use Rattle.sst_c.specs.declared.entries.EntryReport.{EntryReport}
use Rattle.sst_c.specs.declared.held.Held.{Held}
use Rattle.sst_c.specs.declared.held.What.{What}

-- a call opens a handle, and leaves it unchanged on error
pub record OpensHandle (handle after : Option Held) (code : ℕ) : Type 0 where
  pub unclosed : is_some handle ≡ true → code ≡ 101
  pub left : code ≢ 0 → after ≡ handle

-- the same from a source, a handle that holds an object of some kind and is unchanged
pub record UsesSource (is_kind : What → Bool) (source source_after handle after : Option Held)
    (code : ℕ) : Type 0 where
  pub opens : OpensHandle handle after code
  pub kept : source_after ≡ source
  pub shut : handle ≡ None → source ≡ None → code ≡ 100
  pub other : (h : Held) → handle ≡ None → source ≡ Some h → is_kind h.what ≡ false → code ≡ 102

-- the same, and the opened handle has found nothing
pub record OpensFrom (is_kind : What → Bool) (source source_after handle after : Option Held)
    (code : ℕ) : Type 0 where
  pub uses : UsesSource is_kind source source_after handle after code
  pub new : code ≡ 0 → IsSomeAnd after (λ h. found_by h ≡ None)

-- the same within bounds of these kinds: the code is 105 for another kind of bound, else 0, or 1 if
-- out of memory
pub record OpensWithin (lower_kind upper_kind : ℕ) (is_kind : What → Bool)
    (source source_after handle after : Option Held) (code : ℕ) : Type 0 where
  pub opens : OpensFrom is_kind source source_after handle after code
  pub kinds : (h : Held) → handle ≡ None → source ≡ Some h → is_kind h.what ≡ true
      → nat_lt 2 lower_kind || nat_lt 2 upper_kind ≡ true → code ≡ 105
  pub memory : (h : Held) → handle ≡ None → source ≡ Some h → is_kind h.what ≡ true
      → nat_lt 2 lower_kind || nat_lt 2 upper_kind ≡ false → (code ≡ 0) ⊎ (code ≡ 1)

-- a new object is made of the object w, which is of some kind, and put into a closed handle. The handle
-- stays closed on error, and has found nothing when opened
pub record OpensNew (is_kind : What → Bool) (w : What) (after : Option Held) (code : ℕ) : Type 0 where
  pub other : is_kind w ≡ false → code ≡ 102
  pub new : code ≡ 0 → IsSomeAnd after (λ h. found_by h ≡ None)
  pub left : code ≢ 0 → after ≡ None

-- the same within bounds of these kinds
pub record OpensNewWithin (lower_kind upper_kind : ℕ) (is_kind : What → Bool) (w : What)
    (after : Option Held) (code : ℕ) : Type 0 where
  pub begins : OpensNew is_kind w after code
  pub kinds : is_kind w ≡ true → nat_lt 2 lower_kind || nat_lt 2 upper_kind ≡ true → code ≡ 105
  pub memory : is_kind w ≡ true → nat_lt 2 lower_kind || nat_lt 2 upper_kind ≡ false
      → (code ≡ 0) ⊎ (code ≡ 1)

-- if a handle is closed and the source holds an object, this holds of the object
abbrev pub FromHeld : (handle source : Option Held) → (What → Type 0) → Type 0
FromHeld handle source P = (h : Held) → handle ≡ None → source ≡ Some h → P h.what

-- if the filled handle was closed and the other one holds an object, a call leads from this object to
-- the one that is held after that
abbrev pub LeadsFromHeld : (filled handle after : Option Held) → (What → What → Type 0) → Type 0
LeadsFromHeld filled handle after Leads = (h : Held) → filled ≡ None → handle ≡ Some h
    → IsSomeAnd after (λ k. Leads h.what k.what)

-- if the source holds an object and the code is 0, the opened handle holds one that is made of it so
abbrev pub MakesFrom : (source : Option Held) (code : ℕ) (after : Option Held)
    → (What → What → Type 0) → Type 0
MakesFrom source code after Makes = (h : Held) → source ≡ Some h → code ≡ 0
    → IsSomeAnd after (λ k. Makes h.what k.what)

-- a call queries a handle that holds an object of some kind, and leaves it unchanged
pub record QueriesHandle (is_kind : What → Bool) (handle after : Option Held) (code : ℕ) : Type 0
  where
    pub kept : after ≡ handle
    pub shut : handle ≡ None → code ≡ 100
    pub other : (h : Held) → handle ≡ Some h → is_kind h.what ≡ false → code ≡ 102

-- a call reads through a handle that holds an object of some kind, and reports the entry found. If
-- the handle is closed or of another kind, it finds nothing and leaves the object
pub record ReadsThrough (is_kind : What → Bool) (handle after : Option Held) (code : ℕ)
    (report : EntryReport) : Type 0 where
  pub shut : handle ≡ None → (code ≡ 100) × (after ≡ None)
  pub other : (h : Held) → handle ≡ Some h → is_kind h.what ≡ false
      → (code ≡ 102) × IsSomeAnd after (λ k. (found_by k ≡ None) × (k.what ≡ h.what))
  pub entry : report ≡ entry_facts (found_in after)

-- the same in bulk: if the handle is closed or of another kind, nothing is copied or counted
pub record TakesThrough (is_kind : What → Bool) (handle after : Option Held)
    (places returned : List EntryReport) (room copied : List ℕ) (count code : ℕ)
    (report : EntryReport) : Type 0 where
  pub reads : ReadsThrough is_kind handle after code report
  pub closed : handle ≡ None → (count ≡ 0) × (returned ≡ places) × (copied ≡ room)
  pub none : (h : Held) → handle ≡ Some h → is_kind h.what ≡ false
      → (count ≡ 0) × (returned ≡ places) × (copied ≡ room)

-- if the handle holds an object, a read of this kind leads to the object that it holds after that,
-- with the code and the entry found
abbrev pub ReadsHeld : (handle : Option Held) (code : ℕ) (after : Option Held)
    → (What → ℕ → Option Entry → What → Type 0) → Type 0
ReadsHeld handle code after Reads = (h : Held) → handle ≡ Some h
    → IsSomeAnd after (λ k. Reads h.what code (found_by k) k.what)

-- a call writes through a handle that holds a writer. If the handle is closed or holds none, nothing
-- is written. The entry found by the last read is unchanged
pub record WritesThrough (handle after : Option Held) (code : ℕ) : Type 0 where
  pub shut : handle ≡ None → (code ≡ 100) × (after ≡ None)
  pub other : (h : Held) → handle ≡ Some h → writer_in h.what ≡ None
      → (code ≡ 102) × IsSomeAnd after (λ k. k.what ≡ h.what)
  pub found : (h : Held) → handle ≡ Some h → IsSomeAnd after (λ k. found_by k ≡ found_by h)
