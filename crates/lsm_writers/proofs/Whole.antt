-- A list that is written whole, and what its tables are.
use Rattle.std.proofs.Common.{◌≡◌, refl, sym, ◌∙◌, ap, subst, ℕ, ◌+◌, ◌-◌, ◌^◌, ◌<◌, ◌≤◌, ◌==◌}
use Rattle.std.proofs.Common.{Bool, true, false, List, [], ◌∷◌, ◌++◌, length, append_assoc}
use Rattle.std.proofs.Common.{append-nil, arith, length-append, IsTrue}
use Rattle.std.specs.Prelude.{Option, Some, None, nat_le, unwrap_or}
use Rattle.std.specs.List.{AllByRecursion}
use Rattle.std.specs.Option.{option_or}
use Rattle.std.proofs.lemmas.Bool.{eqb-false, eqb-true, le-leb, leb-true, lt-ltb}
use Rattle.std.proofs.lemmas.List.Sums.{sum_by-append}
use Rattle.sst_blocks.specs.declared.version.TableVersion.TheVariants.{V4}
use Rattle.sst_blocks.specs.Bounds.{data_block_bound_of, entry_bound}
use Rattle.sst_entries.specs.declared.error.Error.{Error}
use Rattle.sst_entries.specs.Entry.{Entry}
use Rattle.sst_entries.specs.Key.{same_key}
use Rattle.sst_entries.specs.Strict.{IsStrict, last_of}
use Rattle.sst_entries.proofs.Booleans.{and_both, is_false, not_not}
use Rattle.sst_entries.proofs.KeyLemmas.{same_is}
use Rattle.sst_blocks.specs.declared.table.label.Label.{Label}
use Rattle.sst_blocks.specs.declared.table.options.Options.{Options}
use Rattle.sst_blocks.specs.table.Chunks.{is_full, joined}
use Rattle.sst_blocks.specs.table.Facts.{starts_key}
use Rattle.sst_blocks.specs.table.Fits.{EntryFits}
use Rattle.sst_blocks.specs.table.Index.{data_section}
use Rattle.sst_blocks.specs.table.Options.{label_of}
use Rattle.sst_blocks.specs.table.Parts.{parts_after}
use Rattle.lsm_writers.specs.Cut.{rest_chunk}
use Rattle.lsm_writers.specs.Tables.{AreCuts, HasOneKey, HasTaken, IsCut, OneKeyLaw, TableFits}
use Rattle.lsm_writers.specs.Tables.{TablesWriting, Takes, TakesLaw, apart, cut_len, drawn}
use Rattle.lsm_writers.specs.Tables.{first_id, gained_all, ids_fault, is_due, label_before, next_id}
use Rattle.lsm_writers.specs.Tables.{next_label, rotated, rotation_fault, standing, table_fault}
use Rattle.lsm_writers.specs.Tables.{took, took_fault, turn_fault}
use Rattle.lsm_writers.specs.Writing.{IsWritable, Writing, finish_fault, fresh_writing, gained}
use Rattle.lsm_writers.specs.Writing.{may_be_written, spilled, write_fault, written}
use Rattle.lsm_writers.proofs.AllTables.{failed_kept, in_order}
use Rattle.lsm_writers.proofs.CutTables.{apart_first, apart_starts, cut_len_is, gained_full}
use Rattle.lsm_writers.proofs.CutTables.{gained_open, gained_snoc, long_enough, no_end}
use Rattle.lsm_writers.proofs.CutTables.{options_kept, part_full, part_open}
use Rattle.lsm_writers.proofs.CutTables.{some_length}
use Rattle.lsm_writers.proofs.Cutting.{joined_more, rest_is}
use Rattle.lsm_writers.proofs.Finishing.{nothing_refused}
use Rattle.lsm_writers.proofs.Fitting.{finish_fault_is, fits_in}
use Rattle.lsm_writers.proofs.Orders.{last_of-append, nothing_last}
use Rattle.lsm_writers.proofs.ListWriting.{listed_follows, same_label, written_gained}

-- ---- a writer that has taken some entries

all_gained : (w : Writing) (es : List Entry) → written (gained_all w es) ≡ written w ++ es
all_gained w [] = sym (append-nil (written w))
all_gained w (e ∷ es) = all_gained (gained w e) es
    ∙ (ap (λ (x : List Entry). x ++ es) (written_gained w e) ∙ append_assoc (written w) (e ∷ []) es)

label_kept : (w : Writing) (es : List Entry) → (gained_all w es).label ≡ w.label
label_kept w [] = refl
label_kept w (e ∷ es) = label_kept (gained w e) es ∙ (same_label w e).0

-- the writer of a table behind these entries of it
abbrev behind : Options → Label → List Entry → Writing
behind options label t = gained_all (fresh_writing label options) t

written_is : (options : Options) (label : Label) (t : List Entry)
    → written (behind options label t) ≡ t
written_is options label t = all_gained (fresh_writing label options) t

is_whole : (options : Options) (label : Label) (t : List Entry)
    → behind options label t ≡ gained_all (fresh_writing (behind options label t).label
    (behind options label t).options) (written (behind options label t))
is_whole options label t =
    let w = behind options label t in
    let l : w.label ≡ label = label_kept (fresh_writing label options) t in
    let o : w.options ≡ options = options_kept (fresh_writing label options) t in
    sym (ap (λ (x : Label). gained_all (fresh_writing x w.options) (written w)) l
    ∙ (ap (λ (x : Options). gained_all (fresh_writing label x) (written w)) o
    ∙ ap (gained_all (fresh_writing label options)) (written_is options label t)))

-- what finishing it refuses
finish_is : (options : Options) (label : Label) (t : List Entry)
    → finish_fault (behind options label t) ≡ table_fault options t
finish_is options label t =
    let w = behind options label t in
    finish_fault_is w (is_whole options label t)
    ∙ (ap (λ (x : Options). table_fault x (written w))
    (options_kept (fresh_writing label options) t)
    ∙ ap (table_fault options) (written_is options label t))

-- a table without entries has no fault
none_fits : (options : Options) (label : Label) → table_fault options [] ≡ None
none_fits options label = sym (finish_is options label [])
    ∙ nothing_refused (spilled (fresh_writing label options)) refl

-- ---- room in data blocks

abbrev Small : List Entry → Type 0
Small c = data_block_bound_of c < 2 ^ 32

fewer_small : (p es : List Entry) → Small (p ++ es) → Small p
fewer_small p es small = omega (arith, small, sum_by-append entry_bound p es)

small_by : (full : List Entry → Bool) (p : List Entry) (e : Entry) (es : List Entry) (b : Bool)
    → full (p ++ e ∷ []) ≡ b → AllByRecursion Small (parts_after full p (e ∷ es))
    → (AllByRecursion Small (parts_after full (p ++ e ∷ []) es) → Small (p ++ e ∷ [])) → Small p
small_by full p e es true is h more = fewer_small p (e ∷ [])
    (subst (AllByRecursion Small) (part_full full p e es is) h).0
small_by full p e es false is h more = fewer_small p (e ∷ [])
    (more (subst (AllByRecursion Small) (part_open full p e es is) h))

front_small : (full : List Entry → Bool) (es p : List Entry) → (p ≡ [] → ⊥)
    → AllByRecursion Small (parts_after full p es) → Small p
unfolding parts_after
front_small full [] [] some h = absurd (some refl)
front_small full [] (x ∷ xs) some h = h.0
front_small full (e ∷ es) p some h = small_by full p e es _ refl h
    (front_small full es (p ++ e ∷ []) (no_end p e))

-- the blocks of what is pending and of entries behind it
abbrev HasRoom : Writing → List Entry → Type 0
HasRoom w es = AllByRecursion Small (parts_after (is_full w.options.data_block_size) w.pending es)

room_by : (w : Writing) (e : Entry) (es : List Entry) (b : Bool)
    → is_full w.options.data_block_size (w.pending ++ e ∷ []) ≡ b → HasRoom w (e ∷ es)
    → Small (w.pending ++ e ∷ []) × HasRoom (gained w e) es
room_by w e es true is h =
    let parts = subst (AllByRecursion Small) (part_full
    (is_full w.options.data_block_size) w.pending e es is) h in
    (parts.0, subst (λ (v : Writing). HasRoom v es) (sym (gained_full w e is)) parts.1)
room_by w e es false is h =
    let full = is_full w.options.data_block_size in
    let parts = subst (AllByRecursion Small) (part_open full w.pending e es is) h in (
      front_small full es (w.pending ++ e ∷ []) (no_end w.pending e) parts,
      subst
          (λ (v : Writing). HasRoom v es) (sym (gained_open w e is)) parts,
    )

room_next : (w : Writing) (e : Entry) (es : List Entry) → HasRoom w (e ∷ es)
    → Small (w.pending ++ e ∷ []) × HasRoom (gained w e) es
room_next w e es h = room_by w e es _ refl h

-- ---- a writer of many tables behind some tables and the front of one

same_id : (label : Label) → label_before 0 label ≡ label
same_id label = ap (λ (k : ℕ). record label { table_id = k }) (omega arith)

module _ (target : ℕ) (options : Options) where
  abbrev state : Label → List (List Entry) → List Entry → TablesWriting
  state label ts t = record {
    target = target;
    ids = next_id label.table_id;
    tables = ts;
    present =
        behind options label t;
    failed = false;
  }

  -- within a table none is due
  not_due_within : (label : Label) (t : List Entry) (e : Entry) (rest : List Entry) → (t ≡ [] → ⊥)
      → IsCut options.data_block_size target (t ++ e ∷ rest)
      → is_due target (behind options label t) e ≡ false
  not_due_within label t e rest some cut = is_false _ (λ due.
      let w = behind options label t in
      let all : written w ≡ t = written_is options label t in
      let long = long_enough target w e (is_whole options label t) due
      (λ none. some (sym all ∙ none)) in
      let joint : apart t (e ∷ []) ≡ true = subst
      (λ (x : List Entry). apart x (e ∷ []) ≡ true) all long.0 in
      let reached : target ≤ cut_len options.data_block_size t =
      subst (λ (x : List Entry). target ≤ cut_len options.data_block_size x) all
      (subst (λ (o : Options). target ≤ cut_len o.data_block_size (written w))
      (options_kept (fresh_writing label options) t) long.1) in
      let short : cut_len options.data_block_size t < target =
      cut.shortest t (e ∷ rest) refl (apart_first t e rest [] ∙ joint) in
      omega (arith, reached, short))

  -- behind a table that is cut the next one is
  due_behind : (label : Label) (t : List Entry) (e : Entry) (rest : List Entry)
      → apart t (e ∷ rest) ≡ true → target ≤ cut_len options.data_block_size t
      → is_due target (behind options label t) e ≡ true
  due_behind label t e rest joint reached =
      let w = behind options label t in
      let all : written w ≡ t = written_is options label t in
      let starts : starts_key (last_of None t) e ≡ true =
      apart_starts t e (apart_first t e [] rest ∙ joint) in
      let len : cut_len w.options.data_block_size (written w) ≡ length (data_section V4 w.cut) =
      cut_len_is w (is_whole options label t) in
      let same : cut_len options.data_block_size t ≡ length (data_section V4 w.cut) =
      sym (ap (λ (o : Options). cut_len o.data_block_size (written w))
      (options_kept (fresh_writing label options) t) ∙ ap (cut_len options.data_block_size) all)
      ∙ len in
      and_both (starts_key (last_of None (written w)) e)
      (nat_le target (length (data_section V4 w.cut)))
      (subst (λ (x : List Entry). starts_key (last_of None x) e ≡ true) (sym all) starts)
      (le-leb _ _ (subst (λ (n : ℕ). target ≤ n) same reached))

  -- before the first entry one is due at target 0 alone
  first_due : (label : Label) (e : Entry) → target ≡ 0
      → is_due target (fresh_writing label options) e ≡ true
  first_due label e none = rw nothing_last (le-leb _ _ (omega (arith, none)))

  first_not_due : (label : Label) (e : Entry) → (target ≡ 0 → ⊥)
      → is_due target (fresh_writing label options) e ≡ false
  first_not_due label e some = is_false _ (λ due.
      let reached : nat_le target 0 ≡ true = rw nothing_last at due in
      absurd (some (omega (arith, leb-true _ _ reached))))

  -- an entry more of the present table
  step_open : (label : Label) (ts : List (List Entry)) (t : List Entry) (e : Entry)
      → is_due target (behind options label t) e ≡ false
      → took (state label ts t) e ≡ state label ts (t ++ e ∷ [])
  step_open label ts t e h =
      let m = state label ts t in
      let same : standing m e ≡ m = rw h refl in
      ap (λ (n : TablesWriting). record n { present = gained n.present e }) same
      ∙ ap (λ (w : Writing). record m { present = w })
      (sym (gained_snoc (fresh_writing label options) t e))

  id_left : (label : Label) → label.table_id < 2 ^ 64 - 1
      → next_id label.table_id ≡ Some (label.table_id + 1)
  id_left label room = rw (lt-ltb _ _ room) refl

  -- an entry that begins the next table
  abbrev turned : List (List Entry) → Entry → Option ℕ → List Entry → Label → Options
      → TablesWriting
  turned ts e ids t label options = record {
    target = target;
    ids = drawn ids;
    tables =
        ts ++ rest_chunk t;
    present = gained (fresh_writing
        (record label { table_id = unwrap_or ids 0 }) options) e;
    failed = false;
  }

  step_due : (label : Label) (ts : List (List Entry)) (t : List Entry) (e : Entry)
      → is_due target (behind options label t) e ≡ true → label.table_id < 2 ^ 64 - 1
      → took (state label ts t) e ≡ state (next_label label) (ts ++ rest_chunk t) (e ∷ [])
  step_due label ts t e h room =
      let m = state label ts t in
      let w = behind options label t in
      let ids = next_id label.table_id in
      let next : standing m e ≡ rotated m = rw h refl in
      ap (λ (n : TablesWriting). record n { present = gained n.present e }) next
      ∙ ap (λ (x : List Entry). turned ts e ids x w.label w.options) (written_is options label t)
      ∙ ap (λ (x : Label). turned ts e ids t x w.options)
      (label_kept (fresh_writing label options) t)
      ∙ ap (turned ts e ids t label) (options_kept (fresh_writing label options) t)
      ∙ ap (λ (x : Option ℕ). turned ts e x t label options) (id_left label room)

  open_fault : (label : Label) (ts : List (List Entry)) (t : List Entry) (e : Entry)
      → is_due target (behind options label t) e ≡ false → EntryFits V4 e
      → Small ((behind options label t).pending ++ e ∷ []) → took_fault (state label ts t) e ≡ None
  open_fault label ts t e h fits small =
      let m = state label ts t in
      let w = behind options label t in
      let turn : turn_fault target m.ids w e ≡ None = rw h refl in
      let same : standing m e ≡ m = rw h refl in
      let fine : write_fault w e ≡ None = rw (failed_kept (fresh_writing label options) t)
      (fits_in w.pending e fits small) in
      ap (λ (x : Option Error). option_or x (write_fault (standing m e).present e)) turn
      ∙ (ap (λ (n : TablesWriting). write_fault n.present e) same ∙ fine)

  due_fault : (label : Label) (ts : List (List Entry)) (t : List Entry) (e : Entry)
      → is_due target (behind options label t) e ≡ true → label.table_id < 2 ^ 64 - 1
      → table_fault options t ≡ None → EntryFits V4 e → Small (e ∷ [])
      → took_fault (state label ts t) e ≡ None
  due_fault label ts t e h room sections fits small =
      let m = state label ts t in
      let w = behind options label t in
      let turn : turn_fault target m.ids w e ≡ rotation_fault m.ids w = rw h refl in
      let left : ids_fault m.ids ≡ None = ap ids_fault (id_left label room) in
      let done : rotation_fault m.ids w ≡ None = ap
      (λ (x : Option Error). option_or x (finish_fault w)) left
      ∙ (finish_is options label t ∙ sections) in
      let next : standing m e ≡ rotated m = rw h refl in
      ap (λ (x : Option Error). option_or x (write_fault (standing m e).present e)) (turn ∙ done)
      ∙ (ap (λ (n : TablesWriting). write_fault n.present e) next ∙ fits_in [] e fits small)

  may_follow_all : (label : Label) (ts : List (List Entry)) (t : List Entry) (e : Entry)
      (rest : List Entry) → IsWritable ((joined ts ++ t) ++ e ∷ rest)
      → IsTrue (may_be_written (joined ts ++ written (behind options label t)) e.user_key e.seqno)
  may_follow_all label ts t e rest ok =
      subst (λ (x : List Entry). IsTrue (may_be_written (joined ts ++ x) e.user_key e.seqno))
      (sym (written_is options label t)) (listed_follows (joined ts ++ t) e rest ok)

  module _ (all : List (List Entry)) (first : Label) where
    -- the rest of a table, where what comes behind it is taken
    takes_rest : (label : Label) (ts : List (List Entry)) (next : List Entry) (rest t : List Entry)
        → (t ≡ [] → ⊥) → IsCut options.data_block_size target (t ++ rest)
        → AllByRecursion (EntryFits V4) rest → HasRoom (behind options label t) rest
        → IsWritable ((joined ts ++ t) ++ (rest ++ next))
        → Takes all first (state label ts (t ++ rest)) next
        → Takes all first (state label ts t) (rest ++ next)
    takes_rest label ts next [] t some cut fits room ok more =
        subst (λ (x : List Entry). Takes all first (state label ts x) next) (append-nil t) more
    takes_rest label ts next (e ∷ rest) t some cut fits room ok more =
        let w = behind options label t in
        let due = not_due_within label t e rest some cut in
        let n = room_next w e rest room in
        let whole : (t ++ e ∷ []) ++ rest ≡ t ++ e ∷ rest = append_assoc t (e ∷ []) rest in
        let moved : (joined ts ++ (t ++ e ∷ [])) ++ (rest ++ next) ≡ (joined ts ++ t)
        ++ (e ∷ (rest ++ next)) = simp append_assoc in (
          may_follow_all label ts t e (rest ++ next) ok,
          open_fault label ts t e due fits.0 n.0,
          subst (λ (m : TablesWriting). Takes all first m (rest ++ next))
              (sym (step_open label ts t e due))
              (takes_rest label ts next rest (t ++ e ∷ []) (no_end t e)
              (subst (IsCut options.data_block_size target) (sym whole) cut) fits.1
              (subst (λ (v : Writing). HasRoom v rest)
              (sym (gained_snoc (fresh_writing label options) t e)) n.1)
              (subst IsWritable (sym moved) ok)
              (subst (λ (x : List Entry). Takes all first (state label ts x) next)
              (sym whole) more)),
        )

    -- the same of a table whose first entry was taken
    takes_table : (label : Label) (ts : List (List Entry)) (next : List Entry) (e : Entry)
        (t : List Entry) → IsCut options.data_block_size target (e ∷ t) → TableFits options (e ∷ t)
        → IsWritable ((joined ts ++ e ∷ []) ++ (t ++ next))
        → Takes all first (state label ts (e ∷ t)) next
        → Takes all first (state label ts (e ∷ [])) (t ++ next)
    takes_table label ts next e t cut fits ok more =
        takes_rest label ts next t (e ∷ []) (λ none. cc) cut fits.entries.1
        (room_next (fresh_writing label options) e t fits.blocks).1 ok more

    -- the tables behind one
    takes_behind : (label : Label) (ts : List (List Entry)) (t : List Entry)
        (next : List (List Entry)) → (t ≡ [] → ⊥) → AreCuts options.data_block_size target
        (t ∷ next) → AllByRecursion (TableFits options) (t ∷ next)
        → label.table_id + length next < 2 ^ 64 → length ts ≤ label.table_id
        → IsWritable ((joined ts ++ t) ++ joined next) → ts ++ t ∷ next ≡ all
        → label_before (length ts) label ≡ first → Takes all first (state label ts t) (joined next)
    takes_behind label ts t [] some cuts fits ids few ok whole from =
        let rest : rest_chunk t ≡ t ∷ [] = rest_is t (some_length t some) in
        let made : HasTaken all first (state label ts t) = record {
          finishes = finish_is options label t ∙ fits.0.sections;
          tables = ap (λ (x : List Entry). ts ++ rest_chunk x) (written_is options label t)
              ∙ (ap (λ (x : List (List Entry)). ts ++ x) rest ∙ whole);
          first = λ _. ap (label_before (length ts)) (label_kept (fresh_writing label options) t)
              ∙ from;
        } in
        made
    takes_behind label ts t ([] ∷ next) some cuts fits ids few ok whole from =
        absurd (omega (arith, (cuts.2.0).some))
    takes_behind label ts t ((e ∷ u) ∷ next) some cuts fits ids few ok whole from =
        let due = due_behind label t e u cuts.1.0 cuts.1.1 in
        let left : label.table_id < 2 ^ 64 - 1 = omega (arith, ids) in
        let small = (room_next (fresh_writing label options) e u (fits.1.0).blocks).0 in
        let rest : rest_chunk t ≡ t ∷ [] = rest_is t (some_length t some) in
        let N = next_label label in
        let us = ts ++ t ∷ [] in
        let n : length us ≡ length ts + 1 = length-append ts (t ∷ []) in
        let one : joined us ≡ joined ts ++ t = joined_more ts t in
        let all_is : us ++ (e ∷ u) ∷ next ≡ all = append_assoc ts (t ∷ []) ((e ∷ u) ∷ next)
        ∙ whole in
        let from' : label_before (length us) N ≡ first =
        ap (λ (k : ℕ). record label { table_id = k }) (omega (arith, n, few)) ∙ from in
        let ok1 : IsWritable ((joined us ++ e ∷ []) ++ (u ++ joined next)) =
        subst IsWritable (ap (λ (x : List Entry). x ++ e ∷ (u ++ joined next)) (sym one)
        ∙ sym (append_assoc (joined us) (e ∷ []) (u ++ joined next))) ok in
        let ok2 : IsWritable ((joined us ++ e ∷ u) ++ joined next) =
        subst IsWritable (ap (λ (x : List Entry). x ++ e ∷ (u ++ joined next)) (sym one)
        ∙ sym (append_assoc (joined us) (e ∷ u) (joined next))) ok in
        let more : Takes all first (state N us (e ∷ [])) (u ++ joined next) =
        takes_table N us (joined next) e u cuts.2.0 fits.1.0 ok1
        (takes_behind N us (e ∷ u) next (λ none. cc) cuts.2 fits.1 (omega (arith, ids))
        (omega (arith, n, few)) ok2 all_is from') in
        let there : took (state label ts t) e ≡ state N us (e ∷ []) = step_due label ts t e due left
        ∙ ap (λ (x : List (List Entry)). state N (ts ++ x) (e ∷ [])) rest in (
          may_follow_all label ts t e (u ++ joined next) ok,
          due_fault label ts t e due left fits.0.sections ((fits.1.0).entries).0 small,
          subst (λ (m : TablesWriting). Takes all first m (u ++ joined next)) (sym there) more,
        )

  -- the whole list
  takes_first : (label first : Label) (e : Entry) (t : List Entry) (next : List (List Entry))
      → AreCuts options.data_block_size target ((e ∷ t) ∷ next)
      → AllByRecursion (TableFits options) ((e ∷ t) ∷ next) → IsWritable (e ∷ (t ++ joined next))
      → first ≡ label → label.table_id + length next < 2 ^ 64
      → Takes ((e ∷ t) ∷ next) first (state label [] (e ∷ [])) (t ++ joined next)
  takes_first label first e t next cuts fits ok is ids =
      takes_table ((e ∷ t) ∷ next) first label [] (joined next) e t cuts.0 fits.0 ok
      (takes_behind ((e ∷ t) ∷ next) first label [] (e ∷ t) next (λ none. cc) cuts fits ids
      (omega arith) ok refl (same_id label ∙ sym is))

  takes_all : (first level moment : ℕ) (ts : List (List Entry)) (zero : Bool) → (target == 0) ≡ zero
      → AreCuts options.data_block_size target ts → AllByRecursion (TableFits options) ts
      → IsWritable (joined ts) → first_id target first + length ts ≤ 2 ^ 64
      → Takes ts (label_of (first_id target first) level moment)
      (state (label_of first level moment) [] []) (joined ts)
  takes_all first level moment [] zero is cuts fits ok ids =
      let label = label_of first level moment in
      record {
        finishes = finish_is options label [] ∙ none_fits options label;
        tables =
            refl;
        first = λ some. absurd (some refl);
      }
  takes_all first level moment ([] ∷ next) zero is cuts fits ok ids =
      absurd (omega (arith, (cuts.0).some))
  takes_all first level moment ((e ∷ t) ∷ next) true is cuts fits ok ids =
      let label = label_of first level moment in
      let id : first_id target first ≡ first + 1 = rw is refl in
      let due = first_due label e (eqb-true _ _ is) in
      let left : first < 2 ^ 64 - 1 = omega (arith, ids, id) in
      let small = (room_next (fresh_writing label options) e t (fits.0).blocks).0 in (
        may_follow_all label [] [] e (t ++ joined next) ok,
        due_fault label [] [] e due left (none_fits options label) ((fits.0).entries).0 small,
        subst (λ (m : TablesWriting). Takes ((e ∷ t) ∷ next)
            (label_of (first_id target first) level moment) m (t ++ joined next))
            (sym (step_due label [] [] e due left))
            (takes_first (next_label label) (label_of (first_id target first) level moment) e t next
            cuts fits ok (ap (λ (k : ℕ). label_of k level moment) id) (omega (arith, ids, id))),
      )
  takes_all first level moment ((e ∷ t) ∷ next) false is cuts fits ok ids =
      let label = label_of first level moment in
      let id : first_id target first ≡ first = rw is refl in
      let due = first_not_due label e (eqb-false _ _ is) in
      let small = (room_next (fresh_writing label options) e t (fits.0).blocks).0 in (
        may_follow_all label [] [] e (t ++ joined next) ok,
        open_fault label [] [] e due ((fits.0).entries).0 small,
        subst (λ (m : TablesWriting). Takes ((e ∷ t) ∷ next)
            (label_of (first_id target first) level moment) m (t ++ joined next))
            (sym (step_open label [] [] e due))
            (takes_first label (label_of (first_id target first) level moment) e t next cuts fits ok
            (ap (λ (k : ℕ). label_of k level moment) id) (omega (arith, ids, id))),
      )

pub takes_law : TakesLaw
takes_law first target level moment options es ts ok tables fits ids =
    let made = takes_all target options first level moment ts _ refl tables.each fits
    (subst IsWritable (sym tables.whole) ok) ids in
    subst (Takes ts (label_of (first_id target first) level moment)
    (state target options (label_of first level moment) [] [])) tables.whole made

-- ---- tables at target 0

last_behind : (t : List Entry) (e : Entry) → last_of None (t ++ e ∷ []) ≡ Some e
unfolding last_of
last_behind t e = last_of-append None t (e ∷ [])

no_joint : (a : List Entry) (y : Entry) (b : List Entry) → (a ≡ [] → ⊥) → apart a (y ∷ b) ≡ false
    → starts_key (last_of None a) y ≡ false
no_joint [] y b some h = absurd (some refl)
no_joint (x ∷ a) y b some h = h

-- no joint between two keys stands within such a table
same_keys : (size : ℕ) (t : List Entry) (e : Entry) (es : List Entry) → IsCut size 0 (t ++ e ∷ es)
    → AllByRecursion (λ (x : Entry). x.user_key ≡ e.user_key) es
same_keys size t e [] cut = tt
same_keys size t e (x ∷ es) cut =
    let front = t ++ e ∷ [] in
    let split : t ++ e ∷ (x ∷ es) ≡ front ++ x ∷ es = sym (append_assoc t (e ∷ []) (x ∷ es)) in
    let apart_is : apart front (x ∷ es) ≡ false =
    is_false _ (λ joint. let short : cut_len size front < 0 =
    cut.shortest front (x ∷ es) split joint in omega (arith, short)) in
    let starts : starts_key (last_of None front) x ≡ false =
    no_joint front x es (no_end t e) apart_is in
    let last : last_of None front ≡ Some e = last_behind t e in
    let same : same_key e.user_key x.user_key ≡ true =
    not_not _ (subst (λ (o : Option Entry). starts_key o x ≡ false) last starts) in
    let key : e.user_key ≡ x.user_key = same_is e.user_key x.user_key same in
    let more = same_keys size front x es (subst (IsCut size 0) split cut) in (
      sym key,
      subst (λ (k : List ℕ). AllByRecursion (λ (y : Entry). y.user_key ≡ k) es)
          (sym key) more,
    )

one_key : (size : ℕ) (ts : List (List Entry)) → AreCuts size 0 ts → AllByRecursion HasOneKey ts
one_key size [] cuts = tt
one_key size ([] ∷ ts) cuts = (tt, one_key size ts cuts.2)
one_key size ((e ∷ t) ∷ ts) cuts = (same_keys size [] e t cuts.0, one_key size ts cuts.2)

pub one_key_law : OneKeyLaw
one_key_law size es ts strict tables = (
  one_key size ts tables.each,
  in_order size 0 None ts tables.each (subst IsStrict (sym tables.whole) strict),
)
