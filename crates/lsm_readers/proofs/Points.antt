-- What a point read comes to.
use Rattle.std.proofs.Common.{◌≡◌, ℕ, ◌-◌, List, Option, Some, None, sym, ap, subst, ◌∙◌}
use Rattle.std.specs.Prelude.{Result}
use Rattle.std.specs.Result.{IsErrAnd}
use Rattle.sst_entries.specs.declared.error.Error.{Error}
use Rattle.sst_entries.specs.Entry.{Entry}
use Rattle.sst_blocks.specs.declared.opened.Opened.{Opened}
use Rattle.sst_blocks.specs.Access.{Access, in_memory}
use Rattle.sst_blocks.specs.Opened.{none_opened}
use Rattle.sst_blocks.specs.Place.{Place}
use Rattle.sst_blocks.specs.Sections.{body_of}
use Rattle.lsm_readers.specs.declared.inner.Inner.{Inner}
use Rattle.lsm_readers.specs.point.Answer.{admitted_handle, answer, match_at, match_in}
use Rattle.lsm_readers.specs.point.Answer.{table_answer}
use Rattle.lsm_readers.specs.point.Parts.{Parts}
use Rattle.lsm_readers.specs.point.Read.{DoesRead, Read, read_then}
use Rattle.lsm_readers.specs.point.Table.{OpenTable, parts_of, table_of}
use Rattle.lsm_readers.proofs.ReadLaws.{does_known, refusal, result, then_fails, then_goes}

-- a point read of an opened table is one of its bytes and of what it was recovered to
pub table_read : {A : Type 0} (source bytes : List ℕ) (inner : Inner A) (t : OpenTable)
    (key : List ℕ) (bound : ℕ) → source ≡ bytes → table_of bytes inner ≡ t
    → answer (body_of source) inner.global_seqno (parts_of inner) key bound
    ≡ table_answer t key bound
table_read source bytes inner t key bound is same =
    ap (λ (b : List ℕ). answer (body_of b) inner.global_seqno (parts_of inner) key bound) is
    ∙ ap (λ (u : OpenTable). table_answer u key bound) same

-- ---- a point read by its stored bound

module _ (access : Access) (body : List ℕ) (g : ℕ) (parts : Parts) (key : List ℕ) (bound n : ℕ)
    (lowered : n ≡ bound - g) (s : Result (Option Entry) Error) where
  lowest : read_then (admitted_handle body parts key n) (match_in body g key n)
      ≡ answer body g parts key bound
  unfolding answer
  lowest = ap (λ (k : ℕ). read_then (admitted_handle body parts key k) (match_in body g key k))
      lowered

  by_answer : (o o' : Opened) → DoesRead access s (read_then (admitted_handle body parts key n)
      (match_in body g key n)) o o' → DoesRead access s (answer body g parts key bound) o o'
  by_answer o o' does = subst (λ (r : Read (Option Entry)). DoesRead access s r o o') lowest does

  -- no handle could be read
  pub answer_fails : (e : Error) (o o' : Opened)
      → DoesRead access (refusal (Option Place) e) (admitted_handle body parts key n) o o'
      → IsErrAnd s (λ y. y ≡ e) → DoesRead access s (answer body g parts key bound) o o'
  answer_fails e o o' does is = by_answer o o' (then_fails access (admitted_handle body parts key n)
      (match_in body g key n) e s o o' does is)

  -- there was one
  pub answer_at : (place : Place) (mid : List ℕ) (o o' o'' : Opened)
      → DoesRead access (result (Some place)) (admitted_handle body parts key n) o o' → mid ≡ body
      → DoesRead access s (match_at mid g key n place) o' o''
      → DoesRead access s (answer body g parts key bound) o o''
  answer_at place mid o o' o'' does same read =
      by_answer o o'' (then_goes access (admitted_handle body parts key n) (match_in body g key n)
      (Some place) s o o' o'' does (subst (λ (b : List ℕ). DoesRead access s
      (match_at b g key n place) o' o'') same read))

-- there was none
pub answer_none : (access : Access) (body : List ℕ) (g : ℕ) (parts : Parts) (key : List ℕ)
    (bound n : ℕ) → n ≡ bound - g → (o o' : Opened) → DoesRead access (result None)
    (admitted_handle body parts key n) o o' → DoesRead access (result None)
    (answer body g parts key bound) o o'
answer_none access body g parts key bound n lowered o o' does =
    by_answer access body g parts key bound n lowered (result None) o o'
    (then_goes access (admitted_handle body parts key n) (match_in body g key n) None
    (result None) o o' o' does (does_known access None o'))

-- the handle was read by a source of its own, which counted nothing before
pub handle_begun : (bytes source : List ℕ) (parts : Parts) (key : List ℕ) (n : ℕ)
    (h returned : Result (Option Place) Error) (start new end : Opened) → source ≡ bytes
    → start ≡ none_opened → end ≡ new → h ≡ returned
    → DoesRead in_memory h (admitted_handle (body_of source) parts key n) start new
    → DoesRead in_memory returned (admitted_handle (body_of bytes) parts key n) none_opened end
handle_begun bytes source parts key n h returned start new end same none counts is does =
    let read = λ (b : List ℕ). admitted_handle (body_of b) parts key n in
    let here = subst (λ (b : List ℕ). DoesRead in_memory h (read b) start new) same does in
    let begun = subst (λ (o : Opened). DoesRead in_memory h (read bytes) o new) none here in
    let ended = subst (λ (o : Opened). DoesRead in_memory h (read bytes) none_opened o) (sym counts) begun in
    subst (λ (r : Result (Option Place) Error). DoesRead in_memory r (read bytes) none_opened end) is ended
