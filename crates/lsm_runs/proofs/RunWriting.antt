-- A list that is written as tables, which are opened and stand in order.
use Rattle.std.proofs.Common.{◌≡◌, refl, sym, ◌∙◌, ap, subst, ℕ, suc, ◌+◌, ◌-◌, ◌^◌, ◌<◌, ◌==◌}
use Rattle.std.proofs.Common.{Bool, true, false, cond, List, [], ◌∷◌, ◌++◌, length, ◌≢◌, inl}
use Rattle.std.proofs.Common.{inr, arith, le-ltb, lt-ltb, ltb-false}
use Rattle.std.proofs.Common.{ltb-true}
use Rattle.std.specs.Prelude.{Option, Some, None, Result, Ok, Err, IfErr, IfSome, IsErrAnd}
use Rattle.std.specs.Prelude.{MatchOption, max, nat_lt}
use Rattle.std.specs.List.{AllByRecursion}
use Rattle.std.specs.Option.{option_map_or, option_or}
use Rattle.std.proofs.lemmas.Bool.{cases_Bool, eqb-true}
use Rattle.sst_entries.specs.declared.error.Error.{Error}
use Rattle.sst_entries.specs.declared.error.Error.TheVariants.{GlobalSeqNoTooLarge, OutOfMemory}
use Rattle.sst_entries.specs.Entry.{Entry}
use Rattle.sst_blocks.specs.declared.table.label.Label.{Label}
use Rattle.sst_blocks.specs.declared.table.options.Options.{Options}
use Rattle.sst_blocks.specs.table.Chunks.{joined}
use Rattle.sst_blocks.specs.table.Facts.{highest_seqno}
use Rattle.sst_blocks.specs.table.Options.{default_options}
use Rattle.sst_blocks.specs.table.Table.{IsTable}
use Rattle.lsm_writers.specs.declared.writer.FinishedTable.{FinishedTable}
use Rattle.lsm_writers.specs.Tables.{AreFinished}
use Rattle.lsm_writers.specs.Tables.{first_id, ids_fault}
use Rattle.lsm_writers.specs.Tables.{next_id, next_label}
use Rattle.lsm_writers.specs.Writing.{IsTableOf, Writing, gained}
use Rattle.lsm_writers.specs.Writing.{written}
use Rattle.lsm_writers.proofs.ListWriting.{written_gained}
use Rattle.lsm_writers.proofs.CutTables.{no_end}
use Rattle.lsm_readers.specs.OfList.{list_result, parts_said}
use Rattle.lsm_readers.specs.point.Parts.{Parts}
use Rattle.lsm_readers.specs.Scan.{fault_of}
use Rattle.lsm_readers.specs.point.Table.{OpenTable}
use Rattle.lsm_runs.proofs.HeldRuns.{AreHeld, held_table, none_held, run_held}
use Rattle.lsm_runs.specs.compaction.Chain.{AreCutOf, AreOpened, AreWritten, IsOpenedOf}
use Rattle.lsm_runs.specs.compaction.Chain.{IsRunOfList, ids_behind, run_label}
use Rattle.lsm_runs.specs.compaction.Written.{number_fault}

-- ---- the ids of a writer of many tables

pub first_is : (fault : Option ℕ) → ids_fault fault ≡ None → (first : ℕ) × (fault ≡ Some first)
first_is None h = absurd cc
first_is (Some first) h = (first, refl)

pub next_by : (id first : ℕ) (b : Bool) → nat_lt id (2 ^ 64 - 1) ≡ b → next_id id ≡ Some first
    → first ≡ id + 1
next_by id first true is h = let n : Some (id + 1) ≡ Some first = sym (rw is refl) ∙ h in cc
next_by id first false is h = let n : None ≡ Some first = sym (rw is refl) ∙ h in absurd cc

pub first_at : (target first : ℕ) → target ≡ 0 → first_id target first ≡ first + 1
first_at target first none = ap (λ (t : ℕ). first_id t first) none

pub first_else : (target first : ℕ) → 0 < target → first_id target first ≡ first
first_else target first some = elim (cases_Bool (target == 0)) [
  | inl e ↦ absurd (let none : target ≡ 0 = eqb-true _ _ e in omega (arith, none, some))
  | inr e ↦ rw e refl
]

pub left_none : (a b : Option Error) → option_or a b ≡ None → a ≡ None
left_none None b h = refl
left_none (Some x) b h = absurd cc

-- one entry more is some
pub more_written : (w : Writing) (e : Entry) → written (gained w e) ≡ [] → ⊥
more_written w e none = no_end (written w) e (sym (written_gained w e) ∙ none)

-- ---- the tables of a writer that has taken its list

pub other_label : {A : Type 0} (options : Options) (k l : Label) (ts : List (List Entry))
    (fs : List (FinishedTable A)) → ts ≡ [] → AreFinished options k ts fs
    → AreFinished options l ts fs
other_label options k l [] [] none h = tt
other_label options k l [] (f ∷ fs) none h = absurd h
other_label options k l (t ∷ ts) fs none h = absurd cc

-- a refusal for want of memory that is passed on
pub wants : {X : Type 0} (r : Result X Error) (e : Error) → IsErrAnd r (λ y. y ≡ e)
    → e ≡ OutOfMemory → IfErr r (λ x. x ≡ OutOfMemory)
wants (Ok x) e is memory = tt
wants (Err y) e is memory = is ∙ memory

-- ---- opening them

fault_same : (large : Bool) (p : Parts)
    → cond large (Some GlobalSeqNoTooLarge) None ≡ fault_of
    (cond large (Err GlobalSeqNoTooLarge) (Ok p))
fault_same true p = refl
fault_same false p = refl

module _ (es : List Entry) (g : ℕ) (bytes : List ℕ) (t : IsTable bytes es) where
  module _ (pin_filter pin_index : Bool) where
    global_seqno_result : number_fault es g ≡ fault_of (list_result t g pin_filter pin_index)
    global_seqno_result = fault_same (nat_lt (2 ^ 64 - 1) (highest_seqno es + g))
        (parts_said t pin_filter pin_index)

    pub fits_by : (parts : Parts) → list_result t g pin_filter pin_index ≡ Ok parts
        → number_fault es g ≡ None
    fits_by parts returned = global_seqno_result ∙ ap fault_of returned

    pub passes_by : (e : Error) → list_result t g pin_filter pin_index ≡ Err e
        → number_fault es g ≡ Some e
    passes_by e returned = global_seqno_result ∙ ap fault_of returned

  pub number_fits : (parts : Parts) → list_result t g true true ≡ Ok parts → number_fault es g ≡ None
  number_fits = fits_by true true

  pub number_passes : (e : Error) → list_result t g true true ≡ Err e → number_fault es g ≡ Some e
  number_passes = passes_by true true

pub small_number : (es : List Entry) (g : ℕ) → highest_seqno es + g < 2 ^ 64
    → number_fault es g ≡ None
small_number es g small =
    let low : nat_lt (2 ^ 64 - 1) (highest_seqno es + g) ≡ false =
    le-ltb _ _ (omega (arith, small)) in
    rw low refl

highest_joined : (xs ys : List Entry)
    → highest_seqno (xs ++ ys) ≡ max (highest_seqno xs) (highest_seqno ys)
unfolding highest_seqno
highest_joined [] ys = omega arith
highest_joined (x ∷ xs) ys = omega (arith, highest_joined xs ys)

all_small : (g : ℕ) (ls : List (List Entry)) → highest_seqno (joined ls) + g < 2 ^ 64
    → AllByRecursion (λ (es : List Entry). highest_seqno es + g < 2 ^ 64) ls
all_small g [] small = tt
all_small g (es ∷ ls) small =
    let both = highest_joined es (joined ls) in
    (omega (arith, both, small), all_small g ls (omega (arith, both, small)))

-- the highest number of two lists passes u64 where that of one does
fault_else : (m n g : ℕ) → nat_lt (2 ^ 64 - 1) (m + g) ≡ false → (b : Bool)
    → nat_lt (2 ^ 64 - 1) (n + g) ≡ b → nat_lt (2 ^ 64 - 1) (max m n + g) ≡ b
fault_else m n g small true large = lt-ltb (2 ^ 64 - 1) (max m n + g)
    (omega (arith, ltb-true _ _ large))
fault_else m n g small false low = le-ltb (2 ^ 64 - 1) (max m n + g)
    (omega (arith, ltb-false _ _ small, ltb-false _ _ low))

fault_by : (m n g : ℕ) (b : Bool) → nat_lt (2 ^ 64 - 1) (m + g) ≡ b
    → cond (nat_lt (2 ^ 64 - 1) (max m n + g)) (Some GlobalSeqNoTooLarge) None ≡ option_or
    (cond b (Some GlobalSeqNoTooLarge) None)
    (cond (nat_lt (2 ^ 64 - 1) (n + g)) (Some GlobalSeqNoTooLarge) None)
fault_by m n g true large = ap (λ (b : Bool). cond b (Some GlobalSeqNoTooLarge) None)
    (lt-ltb (2 ^ 64 - 1) (max m n + g) (omega (arith, ltb-true _ _ large)))
fault_by m n g false small = ap (λ (b : Bool). cond b (Some GlobalSeqNoTooLarge) None)
    (fault_else m n g small (nat_lt (2 ^ 64 - 1) (n + g)) refl)

pub number_joined : (xs ys : List Entry) (g : ℕ)
    → number_fault (xs ++ ys) g ≡ option_or (number_fault xs g) (number_fault ys g)
number_joined xs ys g =
    ap (λ (n : ℕ). cond (nat_lt (2 ^ 64 - 1) (n + g)) (Some GlobalSeqNoTooLarge) None)
    (highest_joined xs ys) ∙ fault_by (highest_seqno xs) (highest_seqno ys) g _ refl

pub no_number : (g : ℕ) → g < 2 ^ 64 → number_fault [] g ≡ None
unfolding highest_seqno
no_number g small = small_number [] g (omega (arith, small))

-- some of the tables are opened, their numbers fit, and the others are left
abbrev pub OpenSoFar : {A : Type 0} → Label → List (List Entry) → ℕ → List OpenTable
    → List (FinishedTable A) → Type 0
OpenSoFar label lists g [] fs = AreFinished default_options label lists fs
OpenSoFar label [] g (t ∷ ts) fs = ⊥
OpenSoFar label (es ∷ ls) g (t ∷ ts) fs = IsOpenedOf label es g t × (number_fault es g ≡ None)
    × OpenSoFar (next_label label) ls g ts fs

module _ {A : Type 0} (g : ℕ) where
  module _ (f : FinishedTable A) (fs : List (FinishedTable A)) where
    pub opened_next : (label : Label) (lists : List (List Entry)) (ts : List OpenTable)
        (t : OpenTable) → OpenSoFar label lists g ts (f ∷ fs)
        → ((l : Label) (es : List Entry) → IsTableOf l es f.id f.checksum.0 f.bytes
        → IsOpenedOf l es g t × (number_fault es g ≡ None))
        → OpenSoFar label lists g (ts ++ t ∷ []) fs
    opened_next label [] [] t h opens = absurd h
    opened_next label (es ∷ ls) [] t h opens = let is = opens label es h.0 in (is.0, is.1, h.1)
    opened_next label [] (x ∷ ts) t h opens = absurd h
    opened_next label (es ∷ ls) (x ∷ ts) t h opens =
        (h.0, h.1, opened_next (next_label label) ls ts t h.2 opens)

    -- the next of them is one whose number passes u64, and so does the highest of all
    pub next_large : (e : Error) (label : Label) (lists : List (List Entry)) (ts : List OpenTable)
        → OpenSoFar label lists g ts (f ∷ fs)
        → ((l : Label) (es : List Entry) → IsTableOf l es f.id f.checksum.0 f.bytes
        → number_fault es g ≡ Some e) → number_fault (joined lists) g ≡ Some e
    next_large e label [] [] h large = absurd h
    next_large e label (es ∷ ls) [] h large = number_joined es (joined ls) g
        ∙ ap (λ (x : Option Error). option_or x (number_fault (joined ls) g)) (large label es h.0)
    next_large e label [] (x ∷ ts) h large = absurd h
    next_large e label (es ∷ ls) (x ∷ ts) h large =
        number_joined es (joined ls) g ∙ ap (λ (x : Option Error). option_or x
        (number_fault (joined ls) g)) h.1 ∙ next_large e (next_label label) ls ts h.2 large

    -- the next of them is one of a list whose numbers fit
    pub next_fits : (label : Label) (lists : List (List Entry)) (ts : List OpenTable)
        → OpenSoFar label lists g ts (f ∷ fs)
        → AllByRecursion (λ (es : List Entry). highest_seqno es + g < 2 ^ 64) lists → (l : Label)
        × (es : List Entry) × IsTableOf l es f.id f.checksum.0 f.bytes × (number_fault es g ≡ None)
    next_fits label [] [] h small = absurd h
    next_fits label (es ∷ ls) [] h small = (label, es, h.0, small_number es g small.0)
    next_fits label [] (x ∷ ts) h small = absurd h
    next_fits label (es ∷ ls) (x ∷ ts) h small = next_fits (next_label label) ls ts h.2 small.1

  pub opened_all : (fs : List (FinishedTable A)) → fs ≡ []
      → (label : Label) (lists : List (List Entry)) (ts : List OpenTable)
      → OpenSoFar label lists g ts fs → AreOpened label lists g ts
  opened_all [] none label [] [] h = tt
  opened_all [] none label (es ∷ ls) [] h = absurd h
  opened_all [] none label [] (t ∷ ts) h = absurd h
  opened_all [] none label (es ∷ ls) (t ∷ ts) h =
      (h.0, opened_all [] none (next_label label) ls ts h.2)
  opened_all (f ∷ fs) none label ls ts h = absurd cc

  pub numbers_fit : g < 2 ^ 64 → (fs : List (FinishedTable A)) → fs ≡ []
      → (label : Label) (lists : List (List Entry)) (ts : List OpenTable)
      → OpenSoFar label lists g ts fs → number_fault (joined lists) g ≡ None
  numbers_fit small [] none label [] [] h = no_number g small
  numbers_fit small [] none label (es ∷ ls) [] h = absurd h
  numbers_fit small [] none label [] (t ∷ ts) h = absurd h
  numbers_fit small [] none label (es ∷ ls) (t ∷ ts) h =
      number_joined es (joined ls) g ∙ ap (λ (x : Option Error). option_or x
      (number_fault (joined ls) g)) h.1 ∙ numbers_fit small [] none (next_label label) ls ts h.2
  numbers_fit small (f ∷ fs) none label ls ts h = absurd cc

-- ---- the run

pub many_opened : (label : Label) (lists : List (List Entry)) (g : ℕ) (ts : List OpenTable)
    → AreOpened label lists g ts → length lists ≡ length ts
many_opened label [] g [] h = refl
many_opened label [] g (t ∷ ts) h = absurd h
many_opened label (es ∷ ls) g [] h = absurd h
many_opened label (es ∷ ls) g (t ∷ ts) h = ap suc (many_opened (next_label label) ls g ts h.1)

-- each of them stores its list
pub all_held : (label : Label) (lists : List (List Entry)) (g : ℕ) (ts : List OpenTable)
    → AreOpened label lists g ts → AreHeld g lists ts
all_held label [] g [] h = tt
all_held label [] g (t ∷ ts) h = absurd h
all_held label (es ∷ ls) g [] h = absurd h
all_held label (es ∷ ls) g (t ∷ ts) h = (
  held_table g es t h.0.is.some h.0.opened h.0.is.table h.0.is.number_is,
  all_held (next_label label) ls g ts h.1,
)

-- the numbers of each table fit where the highest does
pub all_fit : {A : Type 0} (ids : Option ℕ) (target moment : ℕ) (es : List Entry)
    (fs : List (FinishedTable A)) (left : Option ℕ) (g : ℕ)
    (w : AreWritten ids target moment es fs left) → highest_seqno es + g < 2 ^ 64
    → AllByRecursion (λ (xs : List Entry). highest_seqno xs + g < 2 ^ 64) w.lists
all_fit ids target moment es fs left g w small =
    all_small g w.lists (subst (λ (xs : List Entry). highest_seqno xs + g < 2 ^ 64)
    (sym w.cut.whole) small)

-- what putting the opened tables in a run answers
abbrev pub IsPut : List OpenTable → Option (List OpenTable) → Type 0
IsPut ts r = MatchOption r (ts ≡ []) (λ run. (run ≡ ts) × (ts ≢ []))

module _ {A : Type 0} (ids : Option ℕ) (target moment : ℕ) (es : List Entry)
    (fs : List (FinishedTable A)) (left : Option ℕ) (g : ℕ) (ts : List OpenTable)
    (w : AreWritten ids target moment es fs left)
    (h : AreOpened (run_label ids target moment) w.lists g ts) where
  abbrev the_label : Label
  the_label = run_label ids target moment

  held : AreHeld g w.lists ts
  held = all_held the_label w.lists g ts h

  cut_of : AreCutOf the_label target es g ts
  cut_of = record { lists = w.lists; cut = w.cut; opened = h }

  pub run_put : (r : Option (List OpenTable)) → IsPut ts r
      → MatchOption r (es ≡ []) (λ run. IsRunOfList es g run)
  run_put None none = none_held es g w.lists ts w.cut.whole held none
  run_put (Some run) p = subst (IsRunOfList es g) (sym p.0)
      (run_held es g w.lists ts w.cut.whole held w.order p.1)

  pub cut_put : (r : Option (List OpenTable)) → IsPut ts r
      → IfSome r (λ run. AreCutOf the_label target es g run)
  cut_put None none = tt
  cut_put (Some run) p = subst (AreCutOf the_label target es g) (sym p.0) cut_of

  pub ids_put : (r : Option (List OpenTable)) → IsPut ts r
      → left ≡ ids_behind ids target (option_map_or length r 0)
  ids_put None none = w.left_is ∙ ap (ids_behind ids target)
      (many_opened the_label w.lists g ts h ∙ ap length none)
  ids_put (Some run) p = w.left_is ∙ ap (ids_behind ids target)
      (many_opened the_label w.lists g ts h ∙ ap length (sym p.0))
