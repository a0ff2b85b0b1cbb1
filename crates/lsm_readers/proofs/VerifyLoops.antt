-- Entries that are read one after another, by their places: what is found in all of them is found
-- in those that are left.
use Rattle.std.proofs.Common.{◌≡◌, ℕ, zero, suc, ◌+◌, ◌<◌, ◌≤◌, List, [], ◌∷◌, length, map, drop}
use Rattle.std.proofs.Common.{Bool, true, false, cond, refl, sym, ap, ◌∙◌, arith}
use Rattle.std.specs.Prelude.{Option, None, Some, Result, Ok, Err}
use Rattle.std.specs.List.{slice_get}
use Rattle.std.specs.Result.{IsErrAnd}
use Rattle.std.proofs.lemmas.List.{drop_all, drop_more}
use Rattle.std.proofs.lemmas.Option.{get_or_from_slice_get, slice_get_within}
use Rattle.std.proofs.lemmas.Result.{err_from_is_err_and}
use Rattle.sst_blocks.specs.declared.section.SectionName.{SectionName}
use Rattle.sst_blocks.specs.declared.section.SectionName.TheVariants.{Index as IndexSection}
use Rattle.sst_entries.specs.declared.error.Error.{Error}
use Rattle.sst_entries.specs.Error.{Fails, is_memory}
use Rattle.lsm_readers.specs.declared.verify.Finding.{Finding}
use Rattle.lsm_readers.specs.declared.verify.VerifyError.{VerifyError}
use Rattle.lsm_readers.specs.declared.verify.VerifyError.TheVariants.{Found, OutOfMemory}
use Rattle.sst_entries.specs.Entry.{Entry}
use Rattle.sst_entries.specs.Strict.{last_of}
use Rattle.sst_blocks.specs.Handle.{Handle}
use Rattle.sst_blocks.specs.Handles.{end_of}
use Rattle.lsm_readers.specs.point.Parts.{Parts}
use Rattle.lsm_readers.specs.Verify.{◌>>=◌, Finds, Unread, Misses, load_refusal}
use Rattle.lsm_readers.specs.Verify.{end_named, entries_found, entry_found}
use Rattle.lsm_readers.specs.Verify.{finding, last_named, located, top_named}
use Rattle.lsm_readers.specs.declared.verify.Fault.TheVariants.{Hollow, Unloaded}

-- the list from a place on
pub drop_at : {X : Type 0} (xs : List X) (i : ℕ) (x : X) → slice_get xs i ≡ Some x
    → drop i xs ≡ x ∷ drop (i + 1) xs
drop_at {X} xs i x here =
    let within : i < length xs = slice_get_within xs i x here in
    drop_more xs i x within
    ∙ ap (λ (y : X). y ∷ drop (i + 1) xs) (get_or_from_slice_get xs i x x here)

-- ---- refusals

-- want of memory misses anything
pub wanted : {Y : Type 0} (e : VerifyError) (returned : Result Y Finding) → e ≡ OutOfMemory
    → Misses e returned
wanted e returned is = λ f found. absurd (let no : OutOfMemory ≡ Found f = sym is ∙ found in cc)

-- what is found is what is told
pub finds_it : {Y : Type 0} (e : VerifyError) (g : Finding) (returned : Result Y Finding)
    → e ≡ Found g → returned ≡ Err g → Misses e returned
finds_it e g returned is states = λ f found.
    let both : Found g ≡ Found f = sym is ∙ found in
    let same : g ≡ f = cc in
    states ∙ ap (λ (x : Finding). Err x) same

-- a step that is refused, and one before it
pub misses_here : {A B : Type 0} (e : VerifyError) (r : Result A Finding)
    (f : A → Result B Finding) → Misses e r → Misses e (r >>= f)
misses_here {A = A} e r f misses = λ g found. ap (λ (q : Result A Finding). q >>= f)
    (misses g found)

pub misses_later : {A B : Type 0} (e : VerifyError) (r : Result A Finding)
    (f : A → Result B Finding) (x : A) → r ≡ Ok x → Misses e (f x) → Misses e (r >>= f)
misses_later {A = A} e r f x is misses = λ g found. ap (λ (q : Result A Finding). q >>= f) is
    ∙ misses g found

-- a call that passed a refusal on
pub passes : {X Y : Type 0} (view : X → Y) (r : Result X VerifyError) (returned : Result Y Finding)
    (e : VerifyError) → IsErrAnd r (λ y. y ≡ e) → Misses e returned → Finds view r returned
passes view r returned e is misses = let p = err_from_is_err_and r is in rw (p.1, p.2) misses

abbrev fault_by : SectionName → ℕ → Error → Bool → VerifyError
fault_by section offset error memory =
    cond memory OutOfMemory (Found (finding section offset (Unloaded error)))

-- the refusal of a load at a place
pub misses_at : {X : Type 0} (section : SectionName) (offset : ℕ) (error : Error) (e : VerifyError)
    (returned : Result X Error) → e ≡ load_refusal section offset error → Fails error returned
    → Misses e (located section offset returned)
misses_at {X} section offset error e returned is fails = go (is_memory error) refl
  where
    go : (b : Bool) → is_memory error ≡ b → Misses e (located section offset returned)
    go true memory = wanted e (located section offset returned)
        (is ∙ ap (fault_by section offset error) memory)
    go false memory = finds_it e (finding section offset (Unloaded error))
        (located section offset returned) (is ∙ ap (fault_by section offset error) memory)
        (ap (λ (r : Result X Error). located section offset r) (fails memory))

-- ---- one entry after another

module _ (body : List ℕ) (parts : Parts) (at : ℕ) (left : Unread) (es : List Entry) where
  abbrev behind : ℕ → Result Unread Finding → Result Unread Finding
  behind i r = r >>= λ left. entries_found body parts at left (drop (i + 1) es)

  from_place : (i : ℕ) (e : Entry) → slice_get es i ≡ Some e
      → entries_found body parts at left (drop i es)
      ≡ behind i (entry_found body parts at left e)
  unfolding entries_found
  from_place i e here = ap (entries_found body parts at left) (drop_at es i e here)

  pub entries_next : (i : ℕ) (e : Entry) (next : Unread) → slice_get es i ≡ Some e
      → entry_found body parts at left e ≡ Ok next
      → entries_found body parts at left (drop i es)
      ≡ entries_found body parts at next (drop (i + 1) es)
  entries_next i e next here is = from_place i e here ∙ ap (behind i) is

  pub entries_miss : (i : ℕ) (e : Entry) (v : VerifyError) → slice_get es i ≡ Some e
      → Misses v (entry_found body parts at left e)
      → Misses v (entries_found body parts at left (drop i es))
  entries_miss i e v here misses = λ f found. from_place i e here ∙ ap (behind i) (misses f found)

  pub entries_last : (i : ℕ) → length es ≤ i
      → entries_found body parts at left (drop i es) ≡ Ok left
  unfolding entries_found
  entries_last i far = ap (entries_found body parts at left) (drop_all i es far)

-- ---- the last handle of a partition

last_at : (before : Option Entry) (hs : List Handle) (i : ℕ) (h : Handle) → slice_get hs i ≡ Some h
    → i + 1 ≡ length hs → last_of before (map end_of hs) ≡ Some (end_of h)
unfolding last_of
last_at before [] i h here last = absurd cc
last_at before (x ∷ []) zero h here last =
    let same : x ≡ h = cc in ap (λ (y : Handle). Some (end_of y)) same
last_at before (x ∷ []) (suc i) h here last = absurd cc
last_at before (x ∷ y ∷ ys) zero h here last = absurd (omega (arith, last))
last_at before (x ∷ y ∷ ys) (suc i) h here last =
    last_at (Some (end_of x)) (y ∷ ys) i h here (omega (arith, last))

pub top_at : (top : Handle) (hs : List Handle) (i : ℕ) (h : Handle) → slice_get hs i ≡ Some h
    → i + 1 ≡ length hs → top_named top hs ≡ end_named IndexSection top h.end_key h.seqno
top_at top hs i h here last = ap (last_named IndexSection top) (last_at None hs i h here last)

pub top_hollow : (top : Handle) (hs : List Handle) → length hs ≡ 0
    → top_named top hs ≡ Err (finding IndexSection top.offset Hollow)
unfolding last_of
top_hollow top [] none = refl
top_hollow top (h ∷ hs) none = absurd (omega (arith, none))
