-- What holds of a writer of many tables, from call to call.
use Rattle.std.proofs.Common.{◌≡◌, refl, sym, ◌∙◌, ap, subst, ℕ, ◌+◌, ◌-◌, ◌^◌, ◌<◌, ◌≤◌, Bool}
use Rattle.std.proofs.Common.{true, false, List, [], ◌∷◌, ◌++◌, length, append_assoc, append-nil}
use Rattle.std.proofs.Common.{arith, length-append, IsTrue}
use Rattle.std.specs.Prelude.{Option, Some, None, ◌&&◌, nat_lt, MatchOption, unwrap_or}
use Rattle.std.specs.Option.{option_to_list}
use Rattle.std.proofs.lemmas.List.{length-map, map-append}
use Rattle.sst_blocks.specs.declared.version.TableVersion.TheVariants.{V4}
use Rattle.sst_entries.specs.Entry.{Entry}
use Rattle.sst_entries.specs.Strict.{IsStrictAfter, IsStrict, last_of}
use Rattle.sst_blocks.specs.declared.table.label.Label.{Label}
use Rattle.sst_blocks.specs.declared.table.options.Options.{Options}
use Rattle.sst_blocks.specs.table.Chunks.{joined}
use Rattle.lsm_writers.specs.declared.writer.FinishedTable.{FinishedTable}
use Rattle.lsm_writers.specs.Cut.{rest_chunk}
use Rattle.lsm_writers.specs.Tables.{AddsTable, AreCuts, AreFinished, AreHeld, GoesOn, drawn}
use Rattle.lsm_writers.specs.Tables.{gained_all, ids_fault, is_due, label_before, list_in}
use Rattle.lsm_writers.specs.Tables.{lists_in, next_id, next_label, next_writing}
use Rattle.lsm_writers.specs.Writing.{IsFinished, IsTableWith, Writing, fresh_writing, gained}
use Rattle.lsm_writers.specs.Writing.{may_be_written, spills_of, written}
use Rattle.lsm_writers.proofs.CutTables.{cuts_first, cuts_longer, cuts_next, gained_snoc}
use Rattle.lsm_writers.proofs.CutTables.{long_enough, no_end, still_short, unspilled}
use Rattle.lsm_writers.proofs.CutTables.{some_length}
use Rattle.lsm_writers.proofs.Cutting.{joined_more, rest_is}
use Rattle.lsm_writers.proofs.DataBack.{list_back}
use Rattle.lsm_writers.proofs.ListWriting.{no_spills, same_label, written_gained}
use Rattle.lsm_writers.proofs.Orders.{last_of-append, last_of_cons}
use Rattle.lsm_writers.proofs.Taking.{strict_gained}

-- ---- what may come next

and_true : (b : Bool) → b ≡ (b && true)
and_true true = refl
and_true false = refl

-- where nothing was written, the number alone counts
pub follows_none : (key : List ℕ) (n : ℕ) → nat_lt n (2 ^ 64 - 1) ≡ may_be_written [] key n
unfolding last_of
follows_none key n = and_true _

pub same_end : (before : List Entry) (t : List Entry) → (t ≡ [] → before ≡ [])
    → last_of None (before ++ t) ≡ last_of None t
same_end before [] begun = ap (last_of None) (append-nil before ∙ begun refl)
same_end before (x ∷ xs) begun = last_of-append None before (x ∷ xs)
    ∙ (last_of_cons (last_of None before) x xs ∙ sym (last_of_cons None x xs))

-- where nothing is written of the present table, there is none before it
none_before : (target : ℕ) (ids : Option ℕ) (ts : List (List Entry)) (w : Writing)
    → GoesOn target ids ts w → written w ≡ [] → joined ts ≡ []
none_before target ids ts w h none = ap joined (h.begun none)

-- the last entry of the whole list is that of the present table
pub last_all : (target : ℕ) (ids : Option ℕ) (ts : List (List Entry)) (w : Writing)
    → GoesOn target ids ts w → last_of None (joined ts ++ written w) ≡ last_of None (written w)
last_all target ids ts w h = same_end (joined ts) (written w) (none_before target ids ts w h)

-- what may follow the present list may follow the whole one
pub follows_all : (target : ℕ) (ids : Option ℕ) (ts : List (List Entry)) (w : Writing)
    (key : List ℕ) (n : ℕ) → GoesOn target ids ts w
    → may_be_written (written w) key n ≡ may_be_written (joined ts ++ written w) key n
follows_all target ids ts w key n h = rw (last_all target ids ts w h) refl

-- ---- finished tables

pub finished_more : {A : Type 0} (options : Options) (label : Label) (ts : List (List Entry))
    (fs : List (FinishedTable A)) (t : List Entry) (f : FinishedTable A)
    → AreFinished options label ts fs → IsTableWith
    (record label { table_id = label.table_id + length fs }) options t f.id f.checksum.0 f.bytes
    → AreFinished options label (ts ++ t ∷ []) (fs ++ f ∷ [])
finished_more options label [] [] t f h one = (
  subst (λ (n : ℕ). IsTableWith (record label { table_id = n }) options t f.id f.checksum.0
      f.bytes) (omega arith) one,
  tt,
)
finished_more options label [] (x ∷ fs) t f h one = absurd h
finished_more options label (u ∷ ts) [] t f h one = absurd h
finished_more options label (u ∷ ts) (x ∷ fs) t f h one =
    let n : label.table_id + length (x ∷ fs) ≡ (label.table_id + 1) + length fs = omega arith in (
      h.0,
      finished_more options (next_label label) ts fs t f h.1
          (subst (λ (k : ℕ). IsTableWith (record label { table_id = k }) options t f.id f.checksum.0
          f.bytes) n one),
    )

-- the finished table of a writer that has taken its list and nothing else
pub table_with : (w : Writing) (id checksum : ℕ) (bytes : List ℕ) → spills_of w ≡ []
    → IsFinished w id checksum bytes → IsTableWith w.label w.options (written w) id checksum bytes
table_with w id checksum bytes none f = record {
  some = f.some;
  id_is = f.id_is;
  checksum_is = f.checksum_is;
  table = record {
    label = w.label;
    options = w.options;
    version = V4;
    spills = spills_of w;
    file =
        f.file_is;
    strict = f.strict;
    fits = f.fits;
  };
  label_is = refl;
  options_are = refl;
  version_is = refl;
  spills_are = none;
}

never_spilled : (w : Writing) → w ≡ gained_all (fresh_writing w.label w.options) (written w)
    → spills_of w ≡ []
never_spilled w is = ap spills_of is ∙ (unspilled (fresh_writing w.label w.options) (written w)
    ∙ no_spills (fresh_writing w.label w.options) refl)

before_is : (label : Label) (n : ℕ) → n ≤ label.table_id
    → record label { table_id = (label.table_id - n) + n } ≡ label
before_is label n few = ap (λ (k : ℕ). record label { table_id = k }) (omega (arith, few))

-- the finished tables with that of the present writer
pub all_finished : {A : Type 0} (target : ℕ) (ids : Option ℕ) (fs : List (FinishedTable A))
    (w : Writing) (f : FinishedTable A) → AreHeld w.options w.label fs
    → GoesOn target ids (lists_in fs) w → IsFinished w f.id f.checksum.0 f.bytes
    → AreFinished w.options (label_before (length fs) w.label) (lists_in fs ++ written w ∷ [])
    (fs ++ f ∷ [])
all_finished target ids fs w f held h done =
    let one = table_with w f.id f.checksum.0 f.bytes (never_spilled w h.present) done in
    finished_more w.options (label_before (length fs) w.label) (lists_in fs) fs
    (written w) f held.finished
    (subst (λ (l : Label). IsTableWith l w.options (written w) f.id f.checksum.0 f.bytes)
    (sym (before_is w.label (length fs) held.few)) one)

-- no tables are held
pub none_held : {A : Type 0} (options : Options) (label : Label) (fs : List (FinishedTable A))
    → fs ≡ [] → AreHeld options label fs
none_held {A} options label fs none =
    let made : AreHeld {A = A} options label [] = record { finished = tt; few = omega arith } in
    subst (AreHeld options label) (sym none) made

pub no_lists : {A : Type 0} (fs : List (FinishedTable A)) → lists_in fs ≡ [] → fs ≡ []
no_lists [] none = refl
no_lists (f ∷ fs) none = absurd cc

-- the tables stay held where the table info and the options stay
pub held_still : {A : Type 0} (w v : Writing) (fs gs : List (FinishedTable A)) → gs ≡ fs
    → v.label ≡ w.label → v.options ≡ w.options → AreHeld w.options w.label fs
    → AreHeld v.options v.label gs
held_still w v fs gs same label options held =
    let by_label : AreHeld w.options v.label fs =
    subst (λ (l : Label). AreHeld w.options l fs) (sym label) held in
    let by_options : AreHeld v.options v.label fs =
    subst (λ (o : Options). AreHeld o v.label fs) (sym options) by_label in
    subst (AreHeld v.options v.label) (sym same) by_options

pub lists_more : {A : Type 0} (fs : List (FinishedTable A)) (f : FinishedTable A) (t : List Entry)
    → list_in f.bytes ≡ t → lists_in (fs ++ f ∷ []) ≡ lists_in fs ++ t ∷ []
lists_more {A} fs f t is = map-append (λ (x : FinishedTable A). list_in x.bytes) fs (f ∷ [])
    ∙ ap (λ (x : List Entry). lists_in fs ++ x ∷ []) is

-- ---- one entry more in the present table

-- the lists of all tables, one after another, with an entry more
module _ (target : ℕ) (ids : Option ℕ) (ts : List (List Entry)) (w : Writing) (e : Entry)
    (h : GoesOn target ids ts w) (next : IsTrue
    (may_be_written (joined ts ++ written w) e.user_key e.seqno)) where
  pub goes_on_still : is_due target w e ≡ false → GoesOn target ids ts (gained w e)
  goes_on_still due =
      let v = gained w e in
      let t = written w in
      let all : written v ≡ t ++ e ∷ [] = written_gained w e in
      let same = same_label w e in
      let start : fresh_writing w.label w.options ≡ fresh_writing v.label v.options =
      ap (λ (x : Label). fresh_writing x w.options) (sym same.0)
      ∙ ap (λ (x : Options). fresh_writing v.label x) (sym same.1) in
      let strict : IsStrict ((joined ts ++ t) ++ e ∷ []) =
      strict_gained (joined ts ++ t) e h.strict next in
      let strict' : IsStrict (joined ts ++ (t ++ e ∷ [])) =
      subst IsStrict (append_assoc (joined ts) t (e ∷ [])) strict in
      let cuts : AreCuts w.options.data_block_size target (ts ++ rest_chunk (t ++ e ∷ [])) =
      cuts_longer w.options.data_block_size target ts t e h.begun h.cuts
      (still_short target w e h.present due) in
      let cuts' : AreCuts v.options.data_block_size target (ts ++ rest_chunk (t ++ e ∷ [])) =
      subst (λ (o : Options). AreCuts o.data_block_size target (ts ++ rest_chunk (t ++ e ∷ [])))
      (sym same.1) cuts in
      record {
        present = ap (λ (x : Writing). gained x e) h.present
            ∙ (sym (gained_snoc (fresh_writing w.label w.options) t e)
            ∙ (ap (λ (x : Writing). gained_all x (t ++ e ∷ [])) start
            ∙ ap (gained_all (fresh_writing v.label v.options)) (sym all)));
        strict = subst (λ (x : List Entry). IsStrict (joined ts ++ x)) (sym all) strict';
        cuts = subst (λ (x : List Entry). AreCuts v.options.data_block_size target
            (ts ++ rest_chunk x)) (sym all) cuts';
        next = h.next ∙ ap (λ (l : Label). next_id l.table_id) (sym same.0);
        begun = λ none. absurd (no_end t e (sym all ∙ none));
      }

-- ---- an entry that begins the next table

-- the counter's next id, where it has one, is that behind the present table's
pub next_is : (ids : Option ℕ) (n : ℕ) → ids ≡ next_id n → ids_fault ids ≡ None
    → unwrap_or ids 0 ≡ n + 1
next_is ids n is some = by_room ids n (nat_lt n (2 ^ 64 - 1)) refl is some
  where
    by_room : (ids : Option ℕ) (n : ℕ) (b : Bool) → nat_lt n (2 ^ 64 - 1) ≡ b → ids ≡ next_id n
        → ids_fault ids ≡ None → unwrap_or ids 0 ≡ n + 1
    by_room ids n true h is some = let e : next_id n ≡ Some (n + 1) = rw h refl in
        ap (λ (o : Option ℕ). unwrap_or o 0) (is ∙ e)
    by_room ids n false h is some =
        let e : next_id n ≡ None = rw h refl in
        let none : ids_fault None ≡ None = subst (λ (o : Option ℕ). ids_fault o ≡ None)
        (is ∙ e) some in
        absurd cc

drawn_is : (ids : Option ℕ) → ids_fault ids ≡ None → drawn ids ≡ next_id (unwrap_or ids 0)
drawn_is None h = absurd cc
drawn_is (Some id) h = refl

strict_one : (e : Entry) → IsStrict (e ∷ [])
unfolding IsStrictAfter
strict_one e = (refl, tt)

abbrev IsAdded : {A : Type 0} → Writing → List (FinishedTable A) → List (FinishedTable A)
    → Option (FinishedTable A) → Type 0
IsAdded w fs gs table = (gs ≡ fs ++ option_to_list table)
    × MatchOption table (written w ≡ []) (λ f. IsFinished w f.id f.checksum.0 f.bytes)

module _ (target : ℕ) (ids : Option ℕ) (ts : List (List Entry)) (w : Writing) (e : Entry)
    (h : GoesOn target ids ts w) (next : IsTrue
    (may_be_written (joined ts ++ written w) e.user_key e.seqno))
    (due : is_due target w e ≡ true) (some : ids_fault ids ≡ None) where
  -- the next writer with its first entry
  next_first : (us : List (List Entry)) → IsStrict (joined us ++ e ∷ [])
      → AreCuts w.options.data_block_size target (us ++ rest_chunk (e ∷ []))
      → GoesOn target (drawn ids) us (gained (next_writing ids w) e)
  next_first us strict cuts =
      let N = next_writing ids w in
      let v = gained N e in
      let all : written v ≡ e ∷ [] = written_gained N e in
      let same = same_label N e in
      let start : fresh_writing N.label N.options ≡ fresh_writing v.label v.options =
      ap (λ (x : Label). fresh_writing x N.options) (sym same.0)
      ∙ ap (λ (x : Options). fresh_writing v.label x) (sym same.1) in
      let cuts' : AreCuts v.options.data_block_size target (us ++ rest_chunk (e ∷ [])) =
      subst (λ (o : Options). AreCuts o.data_block_size target (us ++ rest_chunk (e ∷ [])))
      (sym same.1) cuts in
      record {
        present = ap (λ (x : Writing). gained_all x (e ∷ [])) start
            ∙ ap (gained_all (fresh_writing v.label v.options)) (sym all);
        strict = subst (λ (x : List Entry). IsStrict (joined us ++ x)) (sym all) strict;
        cuts = subst (λ (x : List Entry). AreCuts v.options.data_block_size target
            (us ++ rest_chunk x)) (sym all) cuts';
        next = drawn_is ids some ∙ ap (λ (l : Label). next_id l.table_id) (sym same.0);
        begun = λ none. absurd (no_end [] e (sym all ∙ none));
      }

  goes_on_by : (t : List Entry) → written w ≡ t
      → GoesOn target (drawn ids) (ts ++ rest_chunk t) (gained (next_writing ids w) e)
  goes_on_by [] is =
      let none : ts ++ [] ≡ [] = append-nil ts ∙ h.begun is in
      subst (λ (us : List (List Entry)). GoesOn target (drawn ids) us
      (gained (next_writing ids w) e)) (sym none)
      (next_first [] (strict_one e) (cuts_first w.options.data_block_size target e))
  goes_on_by (x ∷ xs) is =
      let t = x ∷ xs in
      let some : written w ≡ [] → ⊥ = λ none. (let both : x ∷ xs ≡ [] = sym is ∙ none in cc) in
      let strict : IsStrict ((joined ts ++ written w) ++ e ∷ []) =
      strict_gained (joined ts ++ written w) e h.strict next in
      let strict' : IsStrict (joined (ts ++ written w ∷ []) ++ e ∷ []) =
      subst (λ (ys : List Entry). IsStrict (ys ++ e ∷ [])) (sym (joined_more ts (written w)))
      strict in
      let long = long_enough target w e h.present due some in
      let cuts : AreCuts w.options.data_block_size target
      ((ts ++ written w ∷ []) ++ rest_chunk (e ∷ [])) =
      cuts_next w.options.data_block_size target ts (written w) e some h.cuts long.0 long.1 in
      subst (λ (ys : List Entry). GoesOn target (drawn ids) (ts ++ ys ∷ [])
      (gained (next_writing ids w) e)) is (next_first (ts ++ written w ∷ []) strict' cuts)

  pub goes_on_next : GoesOn target (drawn ids) (ts ++ rest_chunk (written w))
      (gained (next_writing ids w) e)
  goes_on_next = goes_on_by (written w) refl

-- the first table info stays where the next table is begun
first_by : (target : ℕ) (ids : Option ℕ) (ts : List (List Entry)) (w : Writing)
    → GoesOn target ids ts w → ids_fault ids ≡ None → length ts ≤ w.label.table_id
    → (t : List Entry) → written w ≡ t → (ts ++ rest_chunk t ≡ [] → ⊥)
    → label_before (length (ts ++ rest_chunk t)) (next_writing ids w).label
    ≡ label_before (length ts) w.label
first_by target ids ts w h some few [] is more = absurd (more (append-nil ts ∙ h.begun is))
first_by target ids ts w h some few (x ∷ xs) is more =
    let n : length (ts ++ (x ∷ xs) ∷ []) ≡ length ts + 1 = length-append ts ((x ∷ xs) ∷ []) in
    let id : unwrap_or ids 0 ≡ w.label.table_id + 1 = next_is ids w.label.table_id h.next some in
    ap (λ (k : ℕ). record w.label { table_id = k }) (omega (arith, n, id, few))

pub first_stands : (target : ℕ) (ids : Option ℕ) (ts : List (List Entry)) (w : Writing)
    → GoesOn target ids ts w → ids_fault ids ≡ None → length ts ≤ w.label.table_id
    → (ts ++ rest_chunk (written w) ≡ [] → ⊥)
    → label_before (length (ts ++ rest_chunk (written w))) (next_writing ids w).label
    ≡ label_before (length ts) w.label
first_stands target ids ts w h some few more =
    first_by target ids ts w h some few (written w) refl more

pub few_lists : {A : Type 0} (options : Options) (label : Label) (fs : List (FinishedTable A))
    → AreHeld options label fs → length (lists_in fs) ≤ label.table_id
few_lists {A} options label fs held =
    subst (λ (n : ℕ). n ≤ label.table_id)
    (sym (length-map fs (λ (f : FinishedTable A). list_in f.bytes))) held.few

-- the finished tables with that of the writer, before the next one
module _ {A : Type 0} (target : ℕ) (ids : Option ℕ) (fs gs : List (FinishedTable A)) (w : Writing)
    (held : AreHeld w.options w.label fs) (h : GoesOn target ids (lists_in fs) w)
    (some : ids_fault ids ≡ None) where
  held_by : (table : Option (FinishedTable A)) → IsAdded w fs gs table
      → AreHeld w.options (next_writing ids w).label gs
  held_by None added = none_held w.options (next_writing ids w).label gs
      (added.0 ∙ (append-nil fs ∙ no_lists fs (h.begun added.1)))
  held_by (Some f) added =
      let t = written w in
      let gs' = fs ++ f ∷ [] in
      let lists : lists_in gs' ≡ lists_in fs ++ t ∷ [] = lists_more fs f t
      (list_back w f.id f.checksum.0 f.bytes added.1) in
      let n : length gs' ≡ length fs + 1 = length-append fs (f ∷ []) in
      let id : unwrap_or ids 0 ≡ w.label.table_id + 1 = next_is ids w.label.table_id h.next some in
      let label : label_before (length fs) w.label
      ≡ label_before (length gs') (next_writing ids w).label =
      ap (λ (k : ℕ). record w.label { table_id = k }) (omega (arith, n, id, held.few)) in
      let done : AreFinished w.options (label_before (length gs') (next_writing ids w).label)
      (lists_in fs ++ t ∷ []) gs' =
      subst (λ (l : Label). AreFinished w.options l (lists_in fs ++ t ∷ []) gs') label
      (all_finished target ids fs w f held h added.1) in
      let made : AreHeld w.options (next_writing ids w).label gs' = record {
        finished = subst (λ (x : List (List Entry)). AreFinished w.options
            (label_before (length gs') (next_writing ids w).label) x gs') (sym lists) done;
        few = omega (arith, n, id, held.few);
      } in
      subst (AreHeld w.options (next_writing ids w).label) (sym added.0) made

  pub held_next : AddsTable w fs gs → AreHeld w.options (next_writing ids w).label gs
  held_next a = held_by a.table (a.added, a.is)

-- the lists of the finished tables, where that of a writer was added
lists_by : {A : Type 0} (w : Writing) (fs gs : List (FinishedTable A))
    (table : Option (FinishedTable A)) → IsAdded w fs gs table
    → lists_in gs ≡ lists_in fs ++ rest_chunk (written w)
lists_by {A} w fs gs None added =
    ap (λ (x : List (FinishedTable A)). lists_in x) (added.0 ∙ append-nil fs)
    ∙ (sym (append-nil (lists_in fs)) ∙ ap (λ (x : List Entry). lists_in fs ++ rest_chunk x)
    (sym added.1))
lists_by {A} w fs gs (Some f) added =
    let some : 0 < length (written w) = some_length (written w) added.1.some in
    ap (λ (x : List (FinishedTable A)). lists_in x) added.0
    ∙ (lists_more fs f (written w) (list_back w f.id f.checksum.0 f.bytes added.1)
    ∙ ap (λ (x : List (List Entry)). lists_in fs ++ x) (sym (rest_is (written w) some)))

pub lists_added : {A : Type 0} (w : Writing) (fs gs : List (FinishedTable A)) → AddsTable w fs gs
    → lists_in gs ≡ lists_in fs ++ rest_chunk (written w)
lists_added w fs gs a = lists_by w fs gs a.table (a.added, a.is)
