-- A writer that had written nothing: its labels, its counter and its tables once it has taken a
-- list.
use Rattle.std.proofs.Common.{◌≡◌, refl, sym, ◌∙◌, ap, subst, ℕ, zero, suc, ◌+◌, ◌-◌, ◌^◌, ◌<◌}
use Rattle.std.proofs.Common.{◌==◌, Bool, true, false, cond, List, [], ◌∷◌, ◌++◌, length, ◌⊎◌, inl}
use Rattle.std.proofs.Common.{inr, arith, length-append, le-ltb, ltb-false}
use Rattle.std.specs.Prelude.{Option, Some, None, nat_le, nat_lt}
use Rattle.std.specs.Option.{option_or}
use Rattle.std.proofs.lemmas.Bool.{cases_Bool, eqb-true, leb-false, leb-true}
use Rattle.sst_entries.specs.declared.error.Error.{Error}
use Rattle.sst_entries.specs.declared.error.Error.TheVariants.{WriterFailed}
use Rattle.sst_entries.specs.Entry.{Entry}
use Rattle.sst_entries.specs.Strict.{IsStrict}
use Rattle.sst_blocks.specs.table.Chunks.{joined}
use Rattle.sst_blocks.specs.declared.table.label.Label.{Label}
use Rattle.sst_blocks.specs.declared.table.options.Options.{Options}
use Rattle.sst_blocks.specs.table.Options.{label_of}
use Rattle.lsm_writers.specs.declared.writer.FinishedTable.{FinishedTable}
use Rattle.lsm_writers.specs.Cut.{rest_chunk}
use Rattle.lsm_writers.specs.Tables.{AreFinished, AreInKeyOrder, AreTables, IsFreshRun, Takes}
use Rattle.lsm_writers.specs.Tables.{TakesLaw, TablesWriting, all_written, drawn, first_id}
use Rattle.lsm_writers.specs.Tables.{first_label, ids_fault, is_due, new_tables, next_id}
use Rattle.lsm_writers.specs.Tables.{next_writing, rotated, rotation_fault, standing, tables_of}
use Rattle.lsm_writers.specs.Tables.{took, took_fault, turn_fault, with_options}
use Rattle.lsm_writers.specs.Writing.{IsWritable, Writing, fresh_writing, gained, write_fault}
use Rattle.lsm_writers.specs.Writing.{written}
use Rattle.lsm_writers.proofs.Cutting.{rest_is}
use Rattle.lsm_writers.proofs.ListWriting.{same_label}
use Rattle.lsm_writers.proofs.CutTables.{some_length}
use Rattle.lsm_writers.proofs.Orders.{nothing_last}
use Rattle.lsm_runs.specs.compaction.Chain.{ids_behind, writes_fault}
use Rattle.lsm_runs.specs.compaction.Compacted.{AreWrittenBy, FitsBy, RunsOn, begun_behind}
use Rattle.lsm_runs.specs.compaction.Compacted.{drawn_often}
use Rattle.lsm_runs.specs.compaction.Compacted.{first_written}
use Rattle.lsm_runs.proofs.RunWriting.{first_at, first_else, first_is, left_none, next_by}
use Rattle.lsm_runs.proofs.RunWriting.{other_label, more_written}

-- ---- small facts

one_more : (ts : List (List Entry)) (t : List Entry) → (t ≡ [] → ⊥)
    → length (ts ++ rest_chunk t) ≡ suc (length ts)
one_more ts t some =
    ap (λ (c : List (List Entry)). length (ts ++ c)) (rest_is t (some_length t some))
    ∙ length-append ts (t ∷ [])
    ∙ (let e : length ts + 1 ≡ suc (length ts) = omega arith in e)

begun_at : (target n : ℕ) → target ≡ 0 → begun_behind target n ≡ n
begun_at target n none = ap (λ (t : ℕ). begun_behind t n) none

begun_else : (target n : ℕ) → 0 < target → begun_behind target n ≡ n - 1
begun_else target n some = elim (cases_Bool (target == 0)) [
  | inl e ↦ absurd (let none : target ≡ 0 = eqb-true _ _ e in omega (arith, none, some))
  | inr e ↦ rw e refl
]

begun_more : (target n : ℕ) → begun_behind target (suc (suc n)) ≡ suc (begun_behind target (suc n))
begun_more target n = elim (cases_Bool (target == 0)) [
  | inl e ↦ rw e refl
  | inr e ↦ rw e (let k : suc (suc n) - 1 ≡ suc (suc n - 1) = omega arith in k)
]

-- ---- labels and the counter, entry by entry

-- the present table has entries: it has the writer's label, but for its id; so often the counter
-- was drawn from; and where the writer's ids run on, so do these
pub record Going (w m : TablesWriting) : Type 0 where
  pub some : written m.present ≡ [] → ⊥
  pub label_is : m.present.label ≡ record w.present.label { table_id = m.present.label.table_id }
  pub ids_are : m.ids ≡ drawn_often (begun_behind w.target (suc (length m.tables))) w.ids
  pub id_is : RunsOn w
      → m.present.label.table_id ≡ first_id w.target w.present.label.table_id + length m.tables
  pub next : RunsOn w → RunsOn m

pub record Since (w m : TablesWriting) : Type 0 where
  pub target_is : m.target ≡ w.target
  pub options_are : m.present.options ≡ w.present.options
  pub works : m.failed ≡ false
  pub stands : (m ≡ w) ⊎ Going w m

relabel : (l p v : Label) → l ≡ p → p ≡ record v { table_id = p.table_id } → l
    ≡ record v { table_id = l.table_id }
relabel l p v same is = same ∙ is ∙ ap (λ (x : Label). record v { table_id = x.table_id })
    (sym same)

own_label : (p v : Label) → p ≡ v → p ≡ record v { table_id = p.table_id }
own_label p v same = same ∙ ap (λ (x : Label). record v { table_id = x.table_id }) (sym same)

begun_none : (target : ℕ) → begun_behind target 0 ≡ 0
begun_none target = elim (cases_Bool (target == 0)) [ inl e ↦ rw e refl | inr e ↦ rw e refl ]

pub since_now : (w : TablesWriting) → IsFreshRun w → Since w w
since_now w fresh = record {
  target_is = refl;
  options_are = refl;
  works = fresh.2;
  stands =
      inl refl;
}

module _ (w : TablesWriting) (fresh : IsFreshRun w) where
  pub nothing_written : written w.present ≡ []
  nothing_written = ap (λ (cs : List (List Entry)). joined cs ++ w.present.pending) fresh.1.0
      ∙ fresh.1.1

  pub nothing_yet : all_written w ≡ []
  nothing_yet =
      ap (λ (b : Bool). cond b [] (joined w.tables ++ written w.present)) fresh.2
      ∙ ap (λ (ts : List (List Entry)). joined ts ++ written w.present) fresh.0
      ∙ nothing_written

  no_tables : tables_of w ≡ []
  no_tables = ap (λ (ts : List (List Entry)). ts ++ rest_chunk (written w.present)) fresh.0
      ∙ ap rest_chunk nothing_written

  pub present_is : w.present ≡ fresh_writing w.present.label w.present.options
  present_is =
      let l = w.present.label in
      let o = w.present.options in
      let cut : w.present ≡ record {
        label = l;
        options = o;
        cut = [];
        pending =
            w.present.pending;
        failed = w.present.failed;
      } =
      ap (λ (cs : List (List Entry)). let x : Writing =
      record {
        label = l;
        options = o;
        cut = cs;
        pending = w.present.pending;
        failed =
            w.present.failed;
      } in x) fresh.1.0 in
      cut
      ∙ ap (λ (es : List Entry). let x : Writing =
      record { label = l; options = o; cut = []; pending = es; failed = w.present.failed } in x)
      fresh.1.1
      ∙ ap (λ (b : Bool). let x : Writing = record
      { label = l; options = o; cut = []; pending = []; failed = b } in x) fresh.1.2

due_fresh : (target : ℕ) (label : Label) (options : Options) (e : Entry)
    → is_due target (fresh_writing label options) e ≡ nat_le target 0
due_fresh target label options e = rw nothing_last refl

module _ (w m : TablesWriting) (fresh : IsFreshRun w) (e : Entry) (h : Since w m) where
  -- before the first entry a table is due at target 0 alone
  first_due : m ≡ w → is_due m.target m.present e ≡ nat_le w.target 0
  first_due same =
      ap (λ (x : TablesWriting). is_due x.target x.present e) same
      ∙ ap (λ (p : Writing). is_due w.target p e) (present_is w fresh)
      ∙ due_fresh w.target w.present.label w.present.options e

  -- one more entry of the present table
  going_open : is_due m.target m.present e ≡ false → (m ≡ w) ⊎ Going w m
      → Going w (record m { present = gained m.present e })
  going_open due (inl same) =
      let kept = same_label m.present e in
      let some : 0 < w.target = leb-false _ _ (sym (first_due same) ∙ due) in
      let none : m.tables ≡ [] = ap (λ (x : TablesWriting). x.tables) same ∙ fresh.0 in
      let label : m.present.label ≡ w.present.label =
      ap (λ (x : TablesWriting). x.present.label) same in
      let many : length m.tables ≡ 0 = ap length none in
      let begun : 0 ≡ begun_behind w.target (suc (length m.tables)) =
      omega (arith, begun_else w.target (suc (length m.tables)) some, many) in
      record {
        some = more_written m.present e;
        label_is = relabel (gained m.present e).label m.present.label w.present.label kept.0
            (own_label m.present.label w.present.label label);
        ids_are = ap (λ (x : TablesWriting). x.ids) same
            ∙ ap (λ (k : ℕ). drawn_often k w.ids) begun;
        id_is = λ r. omega (
          arith,
          ap (λ (l : Label). l.table_id) kept.0,
          ap
              (λ (l : Label). l.table_id) label,
          first_else w.target w.present.label.table_id some,
          many,
        );
        next = λ r. ap (λ (x : TablesWriting). x.ids) same ∙ r
            ∙ ap (λ (l : Label). next_id l.table_id) (sym (kept.0 ∙ label));
      }
  going_open due (inr g) =
      let kept = same_label m.present e in
      record {
        some = more_written m.present e;
        label_is = relabel (gained m.present e).label m.present.label w.present.label kept.0
            g.label_is;
        ids_are = g.ids_are;
        id_is = λ r. ap (λ (l : Label). l.table_id) kept.0 ∙ g.id_is r;
        next = λ r. g.next r ∙ ap (λ (l : Label). next_id l.table_id) (sym kept.0);
      }

  since_open : is_due m.target m.present e ≡ false → Since w (took m e)
  since_open due =
      let n : TablesWriting = record m { present = gained m.present e } in
      let made : Since w n = record {
        target_is = h.target_is;
        options_are = (same_label m.present e).1 ∙ h.options_are;
        works = h.works;
        stands = inr (going_open due h.stands);
      } in
      let same : standing m e ≡ m = rw due refl in
      subst (Since w) (sym (ap (λ (x : TablesWriting). record x { present = gained x.present e })
      same)) made

  -- the first entry of the next table, which has an id
  abbrev turned : ℕ → TablesWriting
  turned id = record {
    target = m.target;
    ids = next_id id;
    tables = tables_of m;
    present =
        gained (fresh_writing (record m.present.label { table_id = id }) m.present.options) e;
    failed = m.failed;
  }

  going_due : (id : ℕ) → m.ids ≡ Some id → is_due m.target m.present e ≡ true → (m ≡ w) ⊎ Going w m
      → Going w (turned id)
  going_due id left due (inl same) =
      let N : Label = record m.present.label { table_id = id } in
      let kept = same_label (fresh_writing N m.present.options) e in
      let none : w.target ≡ 0 = omega (arith, leb-true _ _ (sym (first_due same) ∙ due)) in
      let label : m.present.label ≡ w.present.label =
      ap (λ (x : TablesWriting). x.present.label) same in
      let many : length (tables_of m) ≡ 0 = ap (λ (x : TablesWriting). length (tables_of x)) same
      ∙ ap length (no_tables w fresh) in
      let begun : suc zero ≡ begun_behind w.target (suc (length (tables_of m))) =
      omega (arith, begun_at w.target (suc (length (tables_of m))) none, many) in
      record {
        some = more_written (fresh_writing N m.present.options) e;
        label_is = relabel (turned id).present.label N w.present.label kept.0
            (ap (λ (l : Label). record l { table_id = id }) label);
        ids_are = ap drawn (sym left) ∙ ap (λ (x : TablesWriting). drawn x.ids) same
            ∙ ap (λ (k : ℕ). drawn_often k w.ids) begun;
        id_is = λ r.
            let is : id ≡ w.present.label.table_id + 1 =
            next_by w.present.label.table_id id _ refl
            (sym r ∙ sym (ap (λ (x : TablesWriting). x.ids) same) ∙ left) in
            omega (
              arith,
              ap (λ (l : Label). l.table_id) kept.0,
              is,
              first_at w.target
                  w.present.label.table_id none,
              many,
            );
        next = λ r. ap (λ (l : Label). next_id l.table_id) (sym kept.0);
      }
  going_due id left due (inr g) =
      let N : Label = record m.present.label { table_id = id } in
      let kept = same_label (fresh_writing N m.present.options) e in
      let many : length (tables_of m) ≡ suc (length m.tables) =
      one_more m.tables (written m.present) g.some in
      record {
        some = more_written (fresh_writing N m.present.options) e;
        label_is = relabel (turned id).present.label N w.present.label kept.0
            (ap (λ (l : Label). record l { table_id = id }) g.label_is);
        ids_are =
            ap drawn (sym left) ∙ ap drawn g.ids_are
            ∙ ap (λ (k : ℕ). drawn_often k w.ids) (sym (begun_more w.target (length m.tables))
            ∙ ap (λ (k : ℕ). begun_behind w.target (suc k)) (sym many));
        id_is = λ r.
            let is : id ≡ m.present.label.table_id + 1 =
            next_by m.present.label.table_id id _ refl (sym (g.next r) ∙ left) in
            omega (arith, ap (λ (l : Label). l.table_id) kept.0, is, g.id_is r, many);
        next = λ r. ap (λ (l : Label). next_id l.table_id) (sym kept.0);
      }

  since_due : is_due m.target m.present e ≡ true → took_fault m e ≡ None → Since w (took m e)
  since_due due fine =
      let p = m.present in
      let turns : option_or (turn_fault m.target m.ids p e) (write_fault (standing m e).present e)
      ≡ None =
      sym (ap (λ (b : Bool). cond b (Some WriterFailed)
      (option_or (turn_fault m.target m.ids p e) (write_fault (standing m e).present e)))
      h.works) ∙ fine in
      let turn : rotation_fault m.ids p ≡ None = sym
      (ap (λ (b : Bool). cond b (rotation_fault m.ids p) None) due) ∙ left_none _ _ turns in
      let left = first_is m.ids (left_none _ _ turn) in
      let id = left.0 in
      let made : Since w (turned id) = record {
        target_is = h.target_is;
        options_are = (same_label (fresh_writing (record p.label { table_id = id }) p.options) e).1
            ∙ h.options_are;
        works = h.works;
        stands = inr (going_due id left.1 due h.stands);
      } in
      let turning : standing m e ≡ rotated m = rw due refl in
      let there : took m e ≡ turned id =
      ap (λ (x : TablesWriting). record x { present = gained x.present e }) turning
      ∙ ap (λ (i : Option ℕ). record {
        target = m.target;
        ids = drawn i;
        tables =
            tables_of m;
        present = gained (next_writing i p) e;
        failed = m.failed;
      }) left.1 in
      subst (Since w) (sym there) made

  pub since_more : took_fault m e ≡ None → Since w (took m e)
  since_more fine = elim (cases_Bool (is_due m.target m.present e)) [
    | inl due ↦ since_due due fine
    | inr due ↦ since_open due
  ]

-- ---- the tables at the end

module _ {A : Type 0} (w m : TablesWriting) (fresh : IsFreshRun w) (next : RunsOn w) (h : Since w m)
    (es : List Entry) (fs : List (FinishedTable A)) (left : Option ℕ) where
  pub numbered : left ≡ m.ids → AreFinished w.present.options (first_label m) (tables_of m) fs
      → (m ≡ w) ⊎ Going w m → AreFinished w.present.options (first_written w) (tables_of m) fs
      × (left ≡ drawn_often (begun_behind w.target (length (tables_of m))) w.ids)
  numbered is finished (inl same) =
      let none : tables_of m ≡ [] = ap tables_of same ∙ no_tables w fresh in (
        other_label w.present.options (first_label m) (first_written w)
            (tables_of m) fs none finished,
        is ∙ ap (λ (x : TablesWriting). x.ids) same
            ∙ ap (λ (k : ℕ). drawn_often k w.ids) (sym
            (ap (λ (ts : List (List Entry)). begun_behind w.target (length ts)) none
            ∙ begun_none w.target)),
      )
  numbered is finished (inr g) =
      let id = g.id_is next in
      let first : m.present.label.table_id - length m.tables
      ≡ first_id w.target w.present.label.table_id = omega (arith, id) in
      let label : first_label m ≡ first_written w =
      ap (λ (l : Label). record l { table_id = m.present.label.table_id - length m.tables })
      g.label_is
      ∙ ap (λ (i : ℕ). record w.present.label { table_id = i }) first in (
        subst (λ (l : Label). AreFinished w.present.options l (tables_of m) fs) label finished,
        is ∙ g.ids_are ∙ ap (λ (k : ℕ). drawn_often (begun_behind w.target k) w.ids)
            (sym (one_more m.tables (written m.present) g.some)),
      )

  pub list_finished : left ≡ m.ids → IsStrict es
      → AreTables m.present.options.data_block_size m.target es (tables_of m)
      → AreInKeyOrder (tables_of m) → AreFinished m.present.options (first_label m) (tables_of m) fs
      → AreWrittenBy w es fs left
  list_finished is strict cut order finished =
      let n = numbered is (subst (λ (o : Options). AreFinished o (first_label m) (tables_of m) fs)
      h.options_are finished) h.stands in
      record {
        strict = strict;
        lists = tables_of m;
        cut =
            subst (λ (o : Options). AreTables o.data_block_size w.target es (tables_of m))
            h.options_are
            (subst (λ (t : ℕ). AreTables m.present.options.data_block_size t es (tables_of m))
            h.target_is cut);
        order = order;
        finished = n.0;
        left_is = n.1;
      }

  pub all_finished : all_written m ≡ es → left ≡ m.ids → IsStrict (all_written m)
      → AreTables m.present.options.data_block_size m.target (all_written m) (tables_of m)
      → AreInKeyOrder (tables_of m) → AreFinished m.present.options (first_label m) (tables_of m) fs
      → AreWrittenBy w es fs left
  all_finished all is strict cut order finished =
      list_finished is (subst IsStrict all strict)
      (subst (λ (x : List Entry). AreTables m.present.options.data_block_size m.target x
      (tables_of m)) all cut) order finished

-- ---- a list that fits

fresh_is : (w : TablesWriting) → IsFreshRun w → RunsOn w
    → with_options (new_tables (Some w.present.label.table_id) w.target
    w.present.label.initial_level w.present.label.created_at) w.present.options ≡ w
fresh_is w fresh next =
    let t = w.target in
    let p = fresh_writing w.present.label w.present.options in
    let by_ids : record {
      target = t;
      ids = next_id w.present.label.table_id;
      tables = [];
      present =
          p;
      failed = false;
    } ≡ record {
      target = t;
      ids = w.ids;
      tables = [];
      present = p;
      failed =
          false;
    } =
    ap (λ (i : Option ℕ). let x : TablesWriting =
    record { target = t; ids = i; tables = []; present = p; failed = false } in x) (sym next) in
    by_ids
    ∙ ap (λ (ts : List (List Entry)). let x : TablesWriting =
    record { target = t; ids = w.ids; tables = ts; present = p; failed = false } in x)
    (sym fresh.0)
    ∙ ap (λ (q : Writing). let x : TablesWriting =
    record { target = t; ids = w.ids; tables = w.tables; present = q; failed = false } in x)
    (sym (present_is w fresh))
    ∙ ap (λ (b : Bool). let x : TablesWriting = record
    { target = t; ids = w.ids; tables = w.tables; present = w.present; failed = b } in x)
    (sym fresh.2)

none_taken : (ts : List (List Entry)) (label : Label) (m : TablesWriting) (es : List Entry)
    → Takes ts label m es → writes_fault m es ≡ None
none_taken ts label m [] h = h.finishes
none_taken ts label m (e ∷ es) h = ap (λ (o : Option Error). option_or o
    (writes_fault (took m e) es)) h.1 ∙ none_taken ts label (took m e) es h.2

pub fits_none : (w : TablesWriting) (es : List Entry) → TakesLaw → IsFreshRun w → RunsOn w
    → IsWritable es → FitsBy w es → writes_fault w es ≡ None
fits_none w es law fresh next writable fits =
    let label = w.present.label in
    let takes = law label.table_id w.target label.initial_level label.created_at w.present.options
    es fits.tables writable fits.cut fits.fit fits.left in
    none_taken fits.tables (label_of (first_id w.target label.table_id) label.initial_level
    label.created_at) w es
    (subst (λ (x : TablesWriting). Takes fits.tables
    (label_of (first_id w.target label.table_id) label.initial_level label.created_at) x es)
    (fresh_is w fresh next) takes)

-- ---- the counter behind the tables of a new writer

-- drawing once more gives what is behind the next id, where there is one or not
drawn_next : (id : ℕ) (b : Bool) → nat_lt id (2 ^ 64 - 1) ≡ b
    → drawn (next_id id) ≡ next_id (id + 1)
drawn_next id true is = rw is refl
drawn_next id false is =
    let past : nat_lt (id + 1) (2 ^ 64 - 1) ≡ false =
    le-ltb _ _ (omega (arith, ltb-false _ _ is)) in
    rw (is, past) refl

drawn_all : (n id : ℕ) → drawn_often n (next_id id) ≡ next_id (id + n)
drawn_all zero id = ap next_id (let k : id ≡ id + 0 = omega arith in k)
drawn_all (suc n) id =
    ap drawn (drawn_all n id) ∙ drawn_next (id + n) _ refl
    ∙ ap next_id (let k : id + n + 1 ≡ id + suc n = omega arith in k)

drawn_behind : (target first n : ℕ)
    → drawn_often (begun_behind target n) (next_id first) ≡ ids_behind (Some first) target n
drawn_behind target first zero = ap (λ (k : ℕ). drawn_often k (next_id first)) (begun_none target)
drawn_behind target first (suc n) = elim (cases_Bool (target == 0)) [
  | inl e ↦
      let none : target ≡ 0 = eqb-true _ _ e in
      let id : first + suc n ≡ first_id target first + n =
      omega (arith, first_at target first none) in
      ap (λ (k : ℕ). drawn_often k (next_id first)) (begun_at target (suc n) none)
      ∙ drawn_all (suc n) first ∙ ap next_id id
  | inr e ↦
      let begun : begun_behind target (suc n) ≡ n =
      rw e (let k : suc n - 1 ≡ n = omega arith in k) in
      let id : first + n ≡ first_id target first + n = ap (λ (k : ℕ). k + n) (rw e refl) in
      ap (λ (k : ℕ). drawn_often k (next_id first)) begun ∙ drawn_all n first ∙ ap next_id id
]

pub behind_new : (ids : Option ℕ) (target n : ℕ) → ids_fault ids ≡ None
    → drawn_often (begun_behind target n) (drawn ids) ≡ ids_behind ids target n
behind_new None target n fine = absurd cc
behind_new (Some first) target n fine = drawn_behind target first n
