-- A scan of a table in its file: what a step of it comes to.
use Rattle.std.proofs.Common.{◌≡◌, ℕ, zero, suc, ◌-◌, ◌<◌, Bool, true, false, List, [], ◌∷◌}
use Rattle.std.proofs.Common.{refl, sym}
use Rattle.std.proofs.Common.{ap, subst, ◌∙◌, arith}
use Rattle.std.proofs.lemmas.Result.{err_from_is_err_and}
use Rattle.std.specs.Prelude.{Option, Some, None, Result, Ok, Err, OnOk, is_some}
use Rattle.std.specs.Result.{IsErrAnd}
use Rattle.sst_blocks.specs.Block.{Loaded, entries_of, load_at_result}
use Rattle.sst_blocks.specs.Opened.{with_load}
use Rattle.sst_blocks.specs.declared.block_type.BlockType.TheVariants.{Data}
use Rattle.sst_blocks.specs.declared.opened.Opened.{Opened}
use Rattle.lsm_readers.specs.point.Read.{◌>>=◌}
use Rattle.sst_entries.specs.declared.error.Error.{Error}
use Rattle.sst_entries.specs.Entry.{Entry}
use Rattle.lsm_readers.specs.Scan.{Scan, behind, block_result, ended, entries_from, fault_of}
use Rattle.lsm_readers.specs.Scan.{lend_first, lend_next}
use Rattle.lsm_readers.specs.Scan.{lifted_result, scan_left, unlend}
use Rattle.lsm_readers.proofs.Scans.{block_left, ended_left, entry_left}
use Rattle.lsm_files.specs.declared.error.FileError.{FileError}
use Rattle.lsm_files.specs.declared.error.FileError.TheVariants.{Io, Table}
use Rattle.lsm_files.specs.Reads.{ByteAccess}
use Rattle.lsm_files.specs.Results.{FileFaults, FileGives}
use Rattle.lsm_files.specs.Scan.{in_file, next_of, rest_of, table_error}

abbrev answered : {X : Type 0} → X → Result X Error
answered x = Ok x

-- ---- what is left, by the next entry or block

module _ (u : Scan) where
  entry_ok : (e x : Entry) (es : List Entry) → u.entries ≡ e ∷ es
      → lifted_result u.global_seqno e ≡ Ok x
      → scan_left u ≡ Ok x ∷ scan_left (record u { lent = Some x; entries = es })
  entry_ok e x es some is =
      let left = entry_left u.body u.global_seqno e es u.position u.blocks in
      ap (λ (ys : List Entry). entries_from u.body u.global_seqno ys u.position u.blocks) some
      ∙ (rw is at left)

  entry_err : (e : Entry) (f : Error) (es : List Entry) → u.entries ≡ e ∷ es
      → lifted_result u.global_seqno e ≡ Err f → scan_left u ≡ Err f ∷ []
  entry_err e f es some is =
      let left = entry_left u.body u.global_seqno e es u.position u.blocks in
      ap (λ (ys : List Entry). entries_from u.body u.global_seqno ys u.position u.blocks) some
      ∙ (rw is at left)

  at_block : (n : ℕ) → u.entries ≡ [] → u.blocks ≡ suc n
      → scan_left u ≡ entries_from u.body u.global_seqno [] u.position (suc n)
  at_block n none some = rw (none, some) refl

  pub block_ok : (es : List Entry) (next : ℕ) → u.entries ≡ [] → 0 < u.blocks
      → block_result u.body u.position ≡ Ok (es, next)
      → scan_left u ≡ entries_from u.body u.global_seqno es next (u.blocks - 1)
  block_ok es next none some is =
      let left = block_left u.body u.global_seqno u.position (u.blocks - 1) in
      at_block (u.blocks - 1) none (omega (arith, some)) ∙ (rw is at left)

  pub block_err : (f : Error) → u.entries ≡ [] → 0 < u.blocks
      → block_result u.body u.position ≡ Err f → scan_left u ≡ Err f ∷ []
  block_err f none some is =
      let left = block_left u.body u.global_seqno u.position (u.blocks - 1) in
      at_block (u.blocks - 1) none (omega (arith, some)) ∙ (rw is at left)

-- ---- a step within the block

abbrev Step : ByteAccess → Scan → Result Bool FileError × Scan → Type 0
Step reads u p = FileGives {X = Bool} reads (λ _. (p.1).lent) p.0 (next_of (scan_left u))
    × OnOk p.0 (scan_left p.1 ≡ rest_of (scan_left u))

module _ (reads : ByteAccess) (u : Scan) where
  first_came : (e : Entry) (es : List Entry) (one : Result Entry Error) → u.entries ≡ e ∷ es
      → lifted_result u.global_seqno e ≡ one → Step reads u (in_file (lend_first u es one))
  first_came e es (Ok x) some is =
      let whole = entry_ok u e x es some is in
      (ap next_of whole, sym (ap rest_of whole))
  first_came e es (Err f) some is =
      let whole = entry_err u e f es some is in
      (λ memory. ap next_of whole, tt)

  came_by : (es : List Entry) (r : Result Bool FileError) (t : Scan) → u.entries ≡ es
      → (r, t) ≡ in_file (lend_next u es) → (r ≡ Ok false → ⊥) → Step reads u (r, t)
  came_by [] r t none is some =
      absurd (some (ap (λ (p : Result Bool FileError × Scan). p.0) is))
  came_by (e ∷ es) r t stands is some = subst (Step reads u) (sym is)
      (first_came e es (lifted_result u.global_seqno e) stands refl)

  -- an entry came, or its error
  pub entry_came : (r : Result Bool FileError) (t : Scan)
      → (r, t) ≡ in_file (lend_next u u.entries) → (r ≡ Ok false → ⊥) → Step reads u (r, t)
  entry_came r t is some = came_by u.entries r t refl is some

abbrev next_result : Scan → Result (Option Entry) FileError
next_result u = table_error (next_of (scan_left u))

module _ (u t : Scan) (f : FileError) where
  exact_first : (e : Entry) (es : List Entry) (one : Result Entry Error) → u.entries ≡ e ∷ es
      → lifted_result u.global_seqno e ≡ one → (Err f, t) ≡ in_file (lend_first u es one)
      → next_result u ≡ Err f
  exact_first e es (Ok x) some lifted is =
      let wrong : ◌≡◌ {A = Result Bool FileError} (Err f) (Ok true) =
      ap (λ (p : Result Bool FileError × Scan). p.0) is in absurd cc
  exact_first e es (Err g) some lifted is =
      let both : ◌≡◌ {A = Result Bool FileError} (Err f) (Err (Table g)) =
      ap (λ (p : Result Bool FileError × Scan). p.0) is in
      let same : f ≡ Table g = cc in
      ap (λ (rs : List (Result Entry Error)). table_error (next_of rs))
      (entry_err u e g es some lifted) ∙ ap (λ (x : FileError). Err x) (sym same)

  exact_by : (es : List Entry) → u.entries ≡ es → (Err f, t) ≡ in_file (lend_next u es)
      → next_result u ≡ Err f
  exact_by [] none is =
      let wrong : ◌≡◌ {A = Result Bool FileError} (Err f) (Ok false) =
      ap (λ (p : Result Bool FileError × Scan). p.0) is in absurd cc
  exact_by (e ∷ es) some is = exact_first e es (lifted_result u.global_seqno e) some refl is

  -- the error of a step within the block is that of the next entry
  pub exact_error : (Err f, t) ≡ in_file (lend_next u u.entries) → next_result u ≡ Err f
  exact_error is = exact_by u.entries refl is

none_by : (u : Scan) (es : List Entry) (r : Result Bool FileError) (t : Scan) → u.entries ≡ es
    → (r, t) ≡ in_file (lend_next u es) → r ≡ Ok false → (u.entries ≡ []) × (t ≡ unlend u)
none_by u [] r t none is stop = (none, ap (λ (p : Result Bool FileError × Scan). p.1) is)
none_by u (e ∷ es) r t stands is stop = first (lifted_result u.global_seqno e) is
  where
    first : (one : Result Entry Error) → (r, t) ≡ in_file (lend_first u es one)
        → (u.entries ≡ []) × (t ≡ unlend u)
    first (Ok x) is =
        let wrong : Ok true ≡ Ok false = sym (ap (λ (p : Result Bool FileError × Scan). p.0) is)
        ∙ stop in absurd cc
    first (Err f) is =
        let wrong : Err (Table f) ≡ Ok false =
        sym (ap (λ (p : Result Bool FileError × Scan). p.0) is) ∙ stop in absurd cc

-- no entry is left in the block
pub no_entry : (u t : Scan) (r : Result Bool FileError)
    → (r, t) ≡ in_file (lend_next u u.entries) → r ≡ Ok false → (u.entries ≡ []) × (t ≡ unlend u)
no_entry u t r is stop = none_by u u.entries r t refl is stop

-- ---- what a step within the block leaves

abbrev Left : Scan → Result Bool FileError × Scan → Type 0
Left u (Ok true, t) = is_some t.lent ≡ true
Left u (Ok false, t) = Unit {0}
Left u (Err e, t) = t ≡ ended u

left_by : (u : Scan) (es : List Entry) → Left u (in_file (lend_next u es))
left_by u [] = tt
left_by u (e ∷ es) = first (lifted_result u.global_seqno e)
  where
    first : (one : Result Entry Error) → Left u (in_file (lend_first u es one))
    first (Ok x) = refl
    first (Err f) = refl

pub some_lent : (u t : Scan) (more : Bool) → (Ok more, t) ≡ in_file (lend_next u u.entries)
    → more ≡ true → true ≡ is_some t.lent
some_lent u t more is some =
    let here : (Ok true, t) ≡ in_file (lend_next u u.entries) =
    subst (λ (b : Bool). (Ok b, t) ≡ in_file (lend_next u u.entries)) some is in
    sym (subst (Left u) (sym here) (left_by u u.entries))

pub error_ends : (u t : Scan) (e : FileError) → (Err e, t) ≡ in_file (lend_next u u.entries)
    → t ≡ ended u
error_ends u t e is = subst (Left u) (sym is) (left_by u u.entries)

-- ---- the end of a block

not_some : (n : ℕ) → (0 < n → ⊥) → n ≡ 0
not_some zero never = refl
not_some (suc n) never = absurd (never (omega arith))

-- no block is left
pub over : (s u t : Scan) → scan_left u ≡ scan_left s → u.entries ≡ [] → t ≡ unlend u
    → (0 < t.blocks → ⊥) → scan_left s ≡ []
over s u t left none is last =
    let blocks : u.blocks ≡ 0 = ap (λ (v : Scan). v.blocks) (sym is) ∙ not_some t.blocks last in
    sym left ∙ ended_left u (none, blocks)

-- the next block was read
pub on_block : (s u t v : Scan) → scan_left u ≡ scan_left s → u.entries ≡ [] → t ≡ unlend u
    → 0 < t.blocks → block_result t.body t.position ≡ Ok (v.entries, v.position)
    → scan_left v ≡ entries_from t.body t.global_seqno v.entries v.position (t.blocks - 1)
    → scan_left v ≡ scan_left s
on_block s u t v left none is some read next =
    next
    ∙ sym (block_ok t v.entries v.position (ap (λ (w : Scan). w.entries) is ∙ none) some read)
    ∙ ap (λ (w : Scan). scan_left w) is ∙ left

-- it could not be read
block_fails : {X Y : Type 0} (reads : ByteAccess) (view : X → List Entry × ℕ) (seen : Y → Option Entry)
    (s t : Scan) (f : FileError) → scan_left t ≡ scan_left s → t.entries ≡ [] → 0 < t.blocks
    → FileGives reads view (Err f) (block_result t.body t.position)
    → FileGives reads seen (Err f) (next_of (scan_left s))
block_fails reads view seen s t (Io f) left none some fails = fails
block_fails reads view seen s t (Table f) left none some fails = λ memory.
    ap next_of (sym left ∙ block_err t f none some (fails memory))

pub no_block : {X Y : Type 0} (reads : ByteAccess) (view : X → List Entry × ℕ) (seen : Y → Option Entry)
    (s u t : Scan) (f : FileError) → scan_left u ≡ scan_left s → u.entries ≡ [] → t ≡ unlend u
    → 0 < t.blocks → FileGives reads view (Err f) (block_result t.body t.position)
    → FileGives reads seen (Err f) (next_of (scan_left s))
no_block reads view seen s u t f left none is some fails =
    block_fails reads view seen s t f (ap (λ (w : Scan). scan_left w) is ∙ left)
    (ap (λ (w : Scan). w.entries) is ∙ none) some fails

-- ---- the next block

-- the error of a step, after which nothing is done
bind_error : {X Y Z W : Type 0} (reads : ByteAccess) (view : X → Z) (seen : Y → W) (f : Z → W)
    (returned : Result Z Error) (e : FileError) → FileGives reads view (Err e) returned
    → FileGives reads seen (Err e) (returned >>= λ z. Ok (f z))
bind_error reads view seen f returned (Io g) may = may
bind_error {Z = Z} {W = W} reads view seen f returned (Table g) fails = λ memory.
    ap (λ (r : Result Z Error). r >>= λ z. answered (f z)) (fails memory)

-- a block could not be read
pub block_refuses : {X Y : Type 0} (reads : ByteAccess) (view : X → Loaded) (seen : Y → List Entry × ℕ)
    (body : List ℕ) (position : ℕ) (r : Result Y FileError) (e : FileError)
    → IsErrAnd r (λ y. y ≡ e) → FileGives reads view (Err e) (load_at_result body position Data)
    → FileGives reads seen r (block_result body position)
block_refuses reads view seen body position r e is fails =
    let p = err_from_is_err_and r is in
    rw (p.1, p.2) (bind_error reads view seen (λ b. (entries_of b, behind position b))
    (load_at_result body position Data) e fails)

pub block_read : (body : List ℕ) (position : ℕ) (b : Loaded) (es : List Entry) (next : ℕ)
    → load_at_result body position Data ≡ Ok b → es ≡ entries_of b → next ≡ behind position b
    → block_result body position ≡ Ok (es, next)
block_read body position b es next is entries end = rw (is, entries, end) refl

-- the block that follows
pub moved_by : (u s : Scan) (body : List ℕ) (es : List Entry) (next : ℕ) (o : Opened) → u ≡ s
    → body ≡ u.body → o ≡ with_load Data u.opened
    → record u {
      body = body;
      lent = None;
      entries = es;
      position = next;
      blocks = u.blocks - 1;
      opened = o;
    } ≡ record s {
      lent = None;
      entries = es;
      position = next;
      blocks = s.blocks - 1;
      opened = with_load Data s.opened;
    }
moved_by u s body es next o same kept counts = rw (kept, counts, same) refl

pub halted_by : (u s : Scan) (body : List ℕ) (o : Opened) → u ≡ s → body ≡ u.body
    → o ≡ with_load Data u.opened → record (ended u) { body = body; opened = o }
    ≡ record (ended s) { opened = with_load Data s.opened }
halted_by u s body o same kept counts = rw (kept, counts, same) refl

-- ---- a new scan

fault_same : (body : List ℕ) (position : ℕ) (r : Result Loaded Error)
    → fault_of {X = List Entry × ℕ} (r >>= λ b. Ok (entries_of b, behind position b)) ≡ fault_of r
fault_same body position (Ok b) = refl
fault_same body position (Err e) = refl

error_faults : {X Z : Type 0} (Y : Type 0) (reads : ByteAccess) (view : X → Z) (e : FileError)
    (returned : Result Z Error) (fault : Option Error) → fault_of returned ≡ fault
    → FileGives reads view (Err e) returned → FileFaults {X = Y} reads (Err e) fault
error_faults Y reads view (Io f) returned fault same fails = fails
error_faults Y reads view (Table f) returned fault same fails = λ memory.
    sym same ∙ ap fault_of (fails memory)

-- its first block could not be read
pub scan_refused : {X Y : Type 0} (reads : ByteAccess) (view : X → List Entry × ℕ) (body : List ℕ)
    (r : Result Y FileError) (e : FileError) → IsErrAnd r (λ y. y ≡ e)
    → FileGives reads view (Err e) (block_result body 0)
    → FileFaults reads r (fault_of (load_at_result body 0 Data))
scan_refused {Y = Y} reads view body r e is fails =
    let p = err_from_is_err_and r is in
    rw (p.1, p.2) (error_faults Y reads view e (block_result body 0)
    (fault_of (load_at_result body 0 Data)) (fault_same body 0 (load_at_result body 0 Data)) fails)

pub scan_opened : (body : List ℕ) (es : List Entry) (next : ℕ) → block_result body 0 ≡ Ok (es, next)
    → fault_of (load_at_result body 0 Data) ≡ None
scan_opened body es next is =
    sym (fault_same body 0 (load_at_result body 0 Data)) ∙ ap fault_of is
