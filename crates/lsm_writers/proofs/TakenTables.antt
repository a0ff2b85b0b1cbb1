-- Finished tables that are taken while the writer goes on.
use Rattle.std.proofs.Common.{◌≡◌, refl, sym, ◌∙◌, ap, subst, ℕ, suc, ◌+◌, ◌-◌, ◌<◌, ◌≤◌, Bool}
use Rattle.std.proofs.Common.{true, false, List, [], ◌∷◌, ◌++◌, length, append_assoc}
use Rattle.std.proofs.Common.{◌^◌, arith, length-append, IsTrue}
use Rattle.std.specs.Prelude.{Option, Some, None, drop, take, if◌then◌else◌}
use Rattle.std.specs.Prelude.{◌&&◌, nat_lt}
use Rattle.std.specs.Option.{option_or, option_to_list}
use Rattle.std.proofs.Math.Seq.{take-add}
use Rattle.std.proofs.lemmas.List.{drop-append-le, drop-drop, drop_all, length-drop, length-map}
use Rattle.std.proofs.lemmas.List.{take-append-drop, take-append-le}
use Rattle.sst_entries.specs.declared.error.Error.TheVariants.{WriterFailed}
use Rattle.sst_entries.specs.declared.value_type.ValueType.TheVariants.{Value}
use Rattle.sst_entries.specs.Entry.{Entry, entry}
use Rattle.sst_entries.specs.Strict.{IsStrict, IsStrictAfter, last_of, may_follow}
use Rattle.sst_entries.proofs.Strictness.{strict_alone, strict_back}
use Rattle.sst_blocks.specs.declared.table.label.Label.{Label}
use Rattle.sst_blocks.specs.declared.table.options.Options.{Options}
use Rattle.sst_blocks.specs.table.Chunks.{joined}
use Rattle.lsm_writers.specs.declared.writer.FinishedTable.{FinishedTable}
use Rattle.lsm_writers.specs.Cut.{rest_chunk}
use Rattle.lsm_writers.specs.Taken.{AreTakenFrom, BegunLaw, FinishedLaw, IsWriting, TakenLaw}
use Rattle.lsm_writers.specs.Taken.{WrittenLaw, taken}
use Rattle.lsm_writers.specs.Tables.{AreFinished, AreHeld, GoesOn, TablesWriting, all_written}
use Rattle.lsm_writers.specs.Tables.{first_label, ids_fault, is_due, label_before, list_in, lists_in}
use Rattle.lsm_writers.specs.Tables.{next_label, next_writing, rotated, standing, tables_of, took}
use Rattle.lsm_writers.specs.Tables.{new_tables, rotation_fault, took_fault, turn_fault}
use Rattle.lsm_writers.specs.Tables.{with_options}
use Rattle.lsm_writers.specs.Writing.{IsTableWith, Writing, gained, may_be_written, write_fault}
use Rattle.lsm_writers.specs.Writing.{written}
use Rattle.lsm_writers.proofs.ListWriting.{same_label}
use Rattle.lsm_writers.proofs.Rotating.{few_lists, first_stands, goes_on_next, goes_on_still}
use Rattle.lsm_writers.proofs.Rotating.{last_all, next_is, same_end}
use Rattle.lsm_writers.proofs.Turning.{ids_left, state_of}

-- ---- the oldest one

popped_first : {X : Type 0} (xs ys : List X) (o : Option X) → xs ≡ option_to_list o ++ ys
    → ys ≡ drop 1 xs → take 1 xs ≡ option_to_list o
popped_first [] ys None is rest = refl
popped_first [] ys (Some x) is rest = absurd cc
popped_first (x ∷ xs) ys None is rest = absurd (omega (arith, ap length is, ap length rest))
popped_first (x ∷ xs) ys (Some y) is rest = ap (take 1) is

next_before : (label : Label) (n : ℕ) → suc n ≤ label.table_id
    → next_label (label_before (suc n) label) ≡ label_before n label
next_before label n few = ap (λ (k : ℕ). record label { table_id = k }) (omega (arith, few))

pub held_rest : {A : Type 0} (options : Options) (label : Label) (fs : List (FinishedTable A))
    → AreHeld options label fs → AreHeld options label (drop 1 fs)
held_rest options label [] held = held
held_rest options label (f ∷ fs) held = record {
  finished = subst (λ (l : Label). AreFinished options l (lists_in fs) fs)
      (next_before label (length fs) held.few) held.finished.1;
  few = omega (arith, held.few);
}

goes_on_behind : (target : ℕ) (ids : Option ℕ) (t : List Entry) (ts : List (List Entry))
    (w : Writing) → GoesOn target ids (t ∷ ts) w → GoesOn target ids ts w
goes_on_behind target ids t ts w h =
    let strict : IsStrict (t ++ (joined ts ++ written w)) =
    subst IsStrict (append_assoc t (joined ts) (written w)) h.strict in
    record {
      present = h.present;
      strict = strict_alone (last_of None t) (joined ts ++ written w)
          (strict_back None t (joined ts ++ written w) strict);
      cuts = h.cuts.2;
      next = h.next;
      begun = λ none. absurd (let no : t ∷ ts ≡ [] = h.begun none in cc);
    }

pub goes_on_rest : {A : Type 0} (target : ℕ) (ids : Option ℕ) (fs : List (FinishedTable A))
    (w : Writing) → GoesOn target ids (lists_in fs) w → GoesOn target ids (lists_in (drop 1 fs)) w
goes_on_rest target ids [] w h = h
goes_on_rest target ids (f ∷ fs) w h =
    goes_on_behind target ids (list_in f.bytes) (lists_in fs) w h

lists_rest : {A : Type 0} (fs : List (FinishedTable A)) → lists_in (drop 1 fs) ≡ drop 1 (lists_in fs)
lists_rest [] = refl
lists_rest (f ∷ fs) = refl

oldest_by : {A : Type 0} (options : Options) (label : Label) (fs : List (FinishedTable A))
    → AreHeld options label fs
    → AreFinished options (label_before (length (lists_in fs)) label) (take 1 (lists_in fs))
    (take 1 fs)
oldest_by options label [] held = tt
oldest_by {A} options label (f ∷ fs) held = (
  subst (λ (n : ℕ). IsTableWith (label_before n label) options (list_in f.bytes) f.id f.checksum.0
      f.bytes)
      (sym (length-map (f ∷ fs) (λ (x : FinishedTable A). list_in x.bytes))) held.finished.0,
  tt,
)

-- the states before and after
module _ {A : Type 0} (target : ℕ) (ids : Option ℕ) (fs : List (FinishedTable A)) (w : Writing)
    (failed : Bool) (held : AreHeld w.options w.label fs) where
  pub few_held : length (state_of target ids fs w failed).tables ≤ w.label.table_id
  few_held = few_lists w.options w.label fs held

  pub oldest_is : (o : Option (FinishedTable A)) (gs : List (FinishedTable A))
      → fs ≡ option_to_list o ++ gs → gs ≡ drop 1 fs
      → AreFinished w.options (first_label (state_of target ids fs w failed))
      (take 1 (lists_in fs)) (option_to_list o)
  oldest_is o gs is rest =
      subst (λ (xs : List (FinishedTable A)). AreFinished w.options
      (first_label (state_of target ids fs w failed)) (take 1 (lists_in fs)) xs)
      (popped_first fs gs o is rest) (oldest_by w.options w.label fs held)

  pub rest_left : state_of target ids (drop 1 fs) w failed
      ≡ taken 1 (state_of target ids fs w failed)
  rest_left =
      ap (λ (ts : List (List Entry)). let m : TablesWriting = record {
        target = target;
        ids = ids;
        tables = ts;
        present = w;
        failed = failed;
      } in m) (lists_rest fs)

  last_by : (b : Bool) → failed ≡ b → (failed ≡ false → GoesOn target ids (lists_in fs) w)
      → last_of None (all_written (state_of target ids (drop 1 fs) w failed))
      ≡ last_of None (all_written (state_of target ids fs w failed))
  last_by true spent goes = rw spent refl
  last_by false works goes =
      let h = goes works in
      rw works (last_all target ids (lists_in (drop 1 fs)) w (goes_on_rest target ids fs w h)
      ∙ sym (last_all target ids (lists_in fs) w h))

  pub last_stays : (failed ≡ false → GoesOn target ids (lists_in fs) w)
      → last_of None (all_written (state_of target ids (drop 1 fs) w failed))
      ≡ last_of None (all_written (state_of target ids fs w failed))
  last_stays goes = last_by failed refl goes

-- ---- several of them

-- the table info of the n-th table behind
abbrev pub label_behind : ℕ → Label → Label
label_behind n label = record label { table_id = label.table_id + n }

label_here : (label : Label) → label_behind 0 label ≡ label
label_here label = ap (λ (k : ℕ). record label { table_id = k }) (omega arith)

label_next : (n : ℕ) (label : Label) → label_behind (suc n) label
    ≡ label_behind n (next_label label)
label_next n label = ap (λ (k : ℕ). record label { table_id = k }) (omega arith)

pub finished_append : {A : Type 0} (options : Options) (label : Label) (ts us : List (List Entry))
    (gs fs : List (FinishedTable A)) → AreFinished options label ts gs
    → AreFinished options (label_behind (length gs) label) us fs
    → AreFinished options label (ts ++ us) (gs ++ fs)
finished_append options label [] us [] fs h k =
    subst (λ (l : Label). AreFinished options l us fs) (label_here label) k
finished_append options label [] us (g ∷ gs) fs h k = absurd h
finished_append options label (t ∷ ts) us [] fs h k = absurd h
finished_append options label (t ∷ ts) us (g ∷ gs) fs h k = (
  h.0,
  finished_append options (next_label label) ts us gs fs h.1
      (subst (λ (l : Label). AreFinished options l us fs) (label_next (length gs) label) k),
)

pub finished_many : {A : Type 0} (options : Options) (label : Label) (ts : List (List Entry))
    (gs : List (FinishedTable A)) → AreFinished options label ts gs → length ts ≡ length gs
finished_many options label [] [] h = refl
finished_many options label [] (g ∷ gs) h = absurd h
finished_many options label (t ∷ ts) [] h = absurd h
finished_many options label (t ∷ ts) (g ∷ gs) h =
    ap suc (finished_many options (next_label label) ts gs h.1)

pub few_taken : {X : Type 0} (n : ℕ) (xs : List X) → length (take n xs) ≡ n → n ≤ length xs
few_taken n xs is = omega (
  arith,
  is,
  ap length (take-append-drop n xs),
  length-append (take n xs) (drop n xs),
)

module _ {A : Type 0} (m : TablesWriting) (gs : List (FinishedTable A)) where
  abbrev k : ℕ
  k = length gs

  module _ (h : AreTakenFrom m gs (taken k m)) where
    many : k ≤ length m.tables
    many = few_taken k m.tables (finished_many m.present.options (first_label m) (take k m.tables)
        gs h.finished)

    -- the first table info of what is left
    pub label_left : first_label (taken k m) ≡ label_behind k (first_label m)
    label_left = ap (λ (i : ℕ). record m.present.label { table_id = i })
        (omega (arith, many, h.ids, length-drop k m.tables))

    pub taken_more : (fs : List (FinishedTable A)) → AreFinished m.present.options
        (first_label (taken k m)) (take (length fs) (drop k m.tables)) fs
        → AreTakenFrom m (gs ++ fs) (taken (length fs) (taken k m))
    taken_more fs more =
        let n : length (gs ++ fs) ≡ k + length fs = length-append gs fs in
        let both : AreFinished m.present.options (first_label m)
        (take k m.tables ++ take (length fs) (drop k m.tables)) (gs ++ fs) =
        finished_append m.present.options (first_label m) (take k m.tables)
        (take (length fs) (drop k m.tables)) gs fs h.finished
        (subst (λ (l : Label). AreFinished m.present.options l
        (take (length fs) (drop k m.tables)) fs) label_left more) in
        let front : take k m.tables ++ take (length fs) (drop k m.tables)
        ≡ take (length (gs ++ fs)) m.tables = sym (ap (λ (i : ℕ). take i m.tables) n
        ∙ take-add k (length fs) m.tables) in
        record {
          finished = subst (λ (ts : List (List Entry)). AreFinished m.present.options
              (first_label m) ts (gs ++ fs)) front both;
          left = ap (λ (ts : List (List Entry)). let x : TablesWriting = record m { tables = ts }
              in x) (drop-drop (length fs) k m.tables
              ∙ ap (λ (i : ℕ). drop i m.tables) (sym n));
          ids = h.ids;
        }

    pub finished_all : (fs : List (FinishedTable A)) → AreFinished m.present.options
        (first_label (taken k m)) (tables_of (taken k m)) fs
        → AreFinished m.present.options (first_label m) (tables_of m) (gs ++ fs)
    finished_all fs rest =
        let last = rest_chunk (written m.present) in
        let both = finished_append m.present.options (first_label m) (take k m.tables)
        (drop k m.tables ++ last) gs fs h.finished
        (subst (λ (l : Label). AreFinished m.present.options l (drop k m.tables ++ last) fs)
        label_left rest) in
        let whole : take k m.tables ++ (drop k m.tables ++ last) ≡ m.tables ++ last =
        sym (append_assoc (take k m.tables) (drop k m.tables) last)
        ∙ ap (λ (ts : List (List Entry)). ts ++ last) (take-append-drop k m.tables) in
        subst (λ (ts : List (List Entry)). AreFinished m.present.options (first_label m) ts
        (gs ++ fs)) whole both

pub taken_law : (A : Type 0) → TakenLaw A
taken_law A m n gs fs h more =
    let at : AreTakenFrom m gs (taken (length gs) m) = subst (AreTakenFrom m gs) h.left h in
    subst (λ (x : TablesWriting). AreTakenFrom m (gs ++ fs) (taken (length fs) x)) (sym h.left)
    (taken_more m gs at fs
    (subst (λ (x : TablesWriting). AreFinished x.present.options (first_label x)
    (take (length fs) x.tables) fs) h.left more))

pub finished_law : (A : Type 0) → FinishedLaw A
finished_law A m n gs fs h rest =
    let at : AreTakenFrom m gs (taken (length gs) m) = subst (AreTakenFrom m gs) h.left h in
    finished_all m gs at fs
    (subst (λ (x : TablesWriting). AreFinished x.present.options (first_label x) (tables_of x) fs)
    h.left rest)

-- ---- an entry that is written

module _ (m : TablesWriting) (k : ℕ) (e : Entry) where
  present_by : (due : Bool) → (if due then rotated (taken k m) else taken k m).present
      ≡ (if due then rotated m else m).present
  present_by true = refl
  present_by false = refl

  fault_same : took_fault (taken k m) e ≡ took_fault m e
  fault_same = ap (λ (w : Writing). if m.failed then Some WriterFailed
      else option_or (turn_fault m.target m.ids m.present e) (write_fault w e))
      (present_by (is_due m.target m.present e))

  last_same : GoesOn m.target m.ids m.tables m.present → m.failed ≡ false
      → last_of None (all_written (taken k m)) ≡ last_of None (all_written m)
  last_same h works =
      let none : written m.present ≡ [] → joined (drop k m.tables) ≡ [] = λ nothing.
      ap joined (drop_all k m.tables (let no : m.tables ≡ [] = h.begun nothing in
      omega (arith, ap length no))) in
      rw works (same_end (joined (drop k m.tables)) (written m.present) none
      ∙ sym (last_all m.target m.ids m.tables m.present h))

  left_by : k ≤ length m.tables → (due : Bool)
      → (let x : TablesWriting = if due then rotated (taken k m) else taken k m in
      record x { present = gained x.present e })
      ≡ taken k (let x : TablesWriting = if due then rotated m else m in
      record x { present = gained x.present e })
  left_by few false = refl
  left_by few true =
      ap (λ (ts : List (List Entry)). let x : TablesWriting = rotated m in
      let y : TablesWriting = record x { tables = ts; present = gained x.present e } in y)
      (sym (drop-append-le k m.tables (rest_chunk (written m.present)) few))

  front_by : k ≤ length m.tables → (due : Bool)
      → take k (if due then rotated m else m).tables ≡ take k m.tables
  front_by few false = refl
  front_by few true = take-append-le k m.tables (rest_chunk (written m.present)) few

rest_one : (t : List Entry) → length (rest_chunk t) ≤ 1
rest_one [] = omega arith
rest_one (e ∷ t) = omega arith

none_first : {X : Type 0} (a b : Option X) → option_or a b ≡ None → a ≡ None
none_first None b h = refl
none_first (Some x) b h = absurd cc

-- no fault, so an id is left where a table is due
id_left : (m : TablesWriting) (e : Entry) → m.failed ≡ false → is_due m.target m.present e ≡ true
    → took_fault m e ≡ None → ids_fault m.ids ≡ None
id_left m e works due fine =
    let returned : took_fault m e ≡ option_or (turn_fault m.target m.ids m.present e)
    (write_fault (standing m e).present e) = rw works refl in
    let turned : turn_fault m.target m.ids m.present e ≡ rotation_fault m.ids m.present =
    rw due refl in
    ids_left m.ids m.present (sym turned ∙ none_first _ _ (sym returned ∙ fine))

module _ (m : TablesWriting) (e : Entry) (h : GoesOn m.target m.ids m.tables m.present)
    (works : m.failed ≡ false) (fine : took_fault m e ≡ None)
    (few : length m.tables ≤ m.present.label.table_id) where
  few_by : (due : Bool) → is_due m.target m.present e ≡ due
      → length (if due then rotated m else m).tables
      ≤ (gained (if due then rotated m else m).present e).label.table_id
  few_by false is = omega (arith, few, ap (λ (l : Label). l.table_id) (same_label m.present e).0)
  few_by true is =
      let next = next_is m.ids m.present.label.table_id h.next (id_left m e works is fine) in
      omega (
        arith,
        few,
        next,
        rest_one (written m.present),
        length-append m.tables (rest_chunk (written m.present)),
        ap (λ (l : Label). l.table_id) (same_label (next_writing m.ids m.present) e).0,
      )

  first_by : (due : Bool) → is_due m.target m.present e ≡ due → 0 < length m.tables
      → label_before (length (if due then rotated m else m).tables)
      (gained (if due then rotated m else m).present e).label ≡ first_label m
  first_by false is some = ap (label_before (length m.tables)) (same_label m.present e).0
  first_by true is some =
      ap (label_before (length (tables_of m))) (same_label (next_writing m.ids m.present) e).0
      ∙ first_stands m.target m.ids m.tables m.present h (id_left m e works is fine) few
      (λ none. omega (
        arith,
        some,
        ap length none,
        length-append m.tables (rest_chunk (written m.present)),
      ))

  options_by : (due : Bool) → (gained (if due then rotated m else m).present e).options
      ≡ m.present.options
  options_by false = (same_label m.present e).1
  options_by true = (same_label (next_writing m.ids m.present) e).1

  finished_still : {A : Type 0} (gs : List (FinishedTable A))
      → AreTakenFrom m gs (taken (length gs) m)
      → AreFinished (took m e).present.options (first_label (took m e))
      (take (length gs) (took m e).tables) gs
  finished_still [] at = tt
  finished_still (g ∷ gs) at =
      let k = length (g ∷ gs) in
      let n = took m e in
      let all = many m (g ∷ gs) at in
      let some : 0 < length m.tables = omega (arith, all) in
      subst (λ (o : Options). AreFinished o (first_label n) (take k n.tables) (g ∷ gs))
      (sym (options_by (is_due m.target m.present e)))
      (subst (λ (l : Label). AreFinished m.present.options l (take k n.tables) (g ∷ gs))
      (sym (first_by (is_due m.target m.present e) refl some))
      (subst (λ (ts : List (List Entry)). AreFinished m.present.options (first_label m) ts
      (g ∷ gs)) (sym (front_by m k e all (is_due m.target m.present e))) at.finished))

  taken_still : {A : Type 0} (gs : List (FinishedTable A))
      → AreTakenFrom m gs (taken (length gs) m)
      → AreTakenFrom (took m e) gs (took (taken (length gs) m) e)
  taken_still gs at = record {
    finished = finished_still gs at;
    left = left_by m (length gs) e (many m gs at) (is_due m.target m.present e);
    ids = few_by (is_due m.target m.present e) refl;
  }

  failed_by : (due : Bool) → (if due then rotated m else m).failed ≡ false
  failed_by false = works
  failed_by true = works

  goes_by : (due : Bool) → is_due m.target m.present e ≡ due
      → IsTrue (may_be_written (joined m.tables ++ written m.present) e.user_key e.seqno)
      → (let x : TablesWriting = if due then rotated m else m in
      GoesOn x.target x.ids x.tables (gained x.present e))
  goes_by false is next = goes_on_still m.target m.ids m.tables m.present e h next is
  goes_by true is next = goes_on_next m.target m.ids m.tables m.present e h next is
      (id_left m e works is fine)

  still_writing : (n : TablesWriting) → last_of None (all_written n) ≡ last_of None (all_written m)
      → IsTrue (may_be_written (all_written n) e.user_key e.seqno) → IsWriting (took m e)
  still_writing n same next =
      let all : all_written m ≡ joined m.tables ++ written m.present = rw works refl in
      let same' : last_of None (all_written n) ≡ last_of None (joined m.tables ++ written m.present)
      = same ∙ ap (last_of None) all in
      let next' : IsTrue (may_be_written (joined m.tables ++ written m.present) e.user_key e.seqno)
      = subst (λ (o : Option Entry). IsTrue (nat_lt e.seqno (2 ^ 64 - 1)
      && may_follow o (entry e.user_key [] e.seqno Value))) same' next in
      record {
        works = failed_by (is_due m.target m.present e);
        goes_on = goes_by (is_due m.target m.present e) refl next';
      }

pub written_law : (A : Type 0) → WrittenLaw A
written_law A m n gs e h writing =
    let goes = writing.goes_on in
    let works = writing.works in
    let at : AreTakenFrom m gs (taken (length gs) m) = subst (AreTakenFrom m gs) h.left h in
    let same : last_of None (all_written n) ≡ last_of None (all_written m) =
    ap (λ (x : TablesWriting). last_of None (all_written x)) h.left
    ∙ last_same m (length gs) e goes works in (
      same,
      ap (λ (x : TablesWriting). took_fault x e) h.left ∙ fault_same m (length gs) e,
      λ fine. subst (λ (x : TablesWriting). AreTakenFrom (took m e) gs (took x e)) (sym h.left)
          (taken_still m e goes works fine h.ids gs at),
      λ fine next. still_writing m e goes works fine h.ids n same next,
    )

pub begun_law : (A : Type 0) → BegunLaw A
unfolding IsStrictAfter
begun_law A first target level moment options =
    let m = with_options (new_tables (Some first) target level moment) options in (
      record {
        works = refl;
        goes_on = record { present = refl; strict = tt; cuts = tt; next = refl; begun = λ _. refl };
      },
      record { finished = tt; left = refl; ids = omega arith },
    )
