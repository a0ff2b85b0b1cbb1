-- A list that is written entry by entry.
use Rattle.std.proofs.Common.{◌≡◌, refl, sym, ◌∙◌, ap, subst, ℕ, ◌+◌, Bool, true, false, cond}
use Rattle.std.proofs.Common.{length, IsTrue, append_assoc, append-nil, List, [], ◌∷◌, ◌++◌, ◌<◌}
use Rattle.std.proofs.Common.{◌-◌, ◌^◌, lt-ltb, ltb-true}
use Rattle.std.specs.Prelude.{Option, Some, None, Result, Ok, Err, IfOk, MatchOption, nat_lt}
use Rattle.std.specs.List.{AllByRecursion, list_all}
use Rattle.sst_blocks.specs.declared.version.TableVersion.TheVariants.{V4}
use Rattle.sst_entries.specs.declared.value_type.ValueType.TheVariants.{Value}
use Rattle.sst_entries.specs.Entry.{Entry, entry}
use Rattle.sst_entries.specs.Strict.{last_of, IsStrictAfter}
use Rattle.sst_entries.specs.declared.error.Error.{Error}
use Rattle.sst_entries.proofs.Booleans.{and_both, and_parts}
use Rattle.sst_entries.proofs.Lists.{all_behind}
use Rattle.sst_entries.proofs.Strictness.{strict_back}
use Rattle.lsm_writers.specs.declared.writer.FinishedTable.{FinishedTable}
use Rattle.sst_blocks.specs.declared.table.label.Label.{Label}
use Rattle.sst_blocks.specs.table.Options.{default_options}
use Rattle.sst_blocks.specs.table.Table.{IsTable}
use Rattle.lsm_writers.specs.Writing.{early_ends, may_be_written, gained, spills_of, written}
use Rattle.lsm_writers.specs.Writing.{IsFinished, IsTableOf, IsWritable, Writing}
use Rattle.sst_blocks.specs.table.Chunks.{joined, is_full}
use Rattle.lsm_writers.proofs.Cutting.{joined_more}
use Rattle.lsm_writers.proofs.Orders.{ends_follow}

-- an entry of a list follows those before it
pub listed_follows : (xs : List Entry) (e : Entry) (ys : List Entry) → IsWritable (xs ++ e ∷ ys)
    → IsTrue (may_be_written xs e.user_key e.seqno)
unfolding IsStrictAfter
listed_follows xs e ys p =
    let behind : IsStrictAfter (last_of None xs) (e ∷ ys) = strict_back None xs (e ∷ ys) p.strict in
    let low : e.seqno < 2 ^ 64 - 1 = (all_behind (λ (e : Entry). e.seqno < 2 ^ 64 - 1) xs
    (e ∷ ys) p.numbered).0 in
    and_both _ _ (lt-ltb _ _ low) (ends_follow (last_of None xs)
    (entry e.user_key [] e.seqno Value) e refl refl behind.0)

-- the list of a writer that gained an entry
gained_by : (w : Writing) (e : Entry) (full : Bool)
    → is_full w.options.data_block_size (w.pending ++ e ∷ []) ≡ full
    → written (gained w e) ≡ written w ++ e ∷ []
gained_by w e true h =
    rw h (append-nil (joined (w.cut ++ (w.pending ++ e ∷ []) ∷ []))
    ∙ joined_more w.cut (w.pending ++ e ∷ []) ∙ sym
    (append_assoc (joined w.cut) w.pending (e ∷ [])))
gained_by w e false h = rw h (sym (append_assoc (joined w.cut) w.pending (e ∷ [])))

pub written_gained : (w : Writing) (e : Entry) → written (gained w e) ≡ written w ++ e ∷ []
written_gained w e = gained_by w e _ refl

-- what else a writer is stays as it was
label_by : (w : Writing) (e : Entry) (full : Bool)
    → is_full w.options.data_block_size (w.pending ++ e ∷ []) ≡ full
    → ((gained w e).label ≡ w.label) × ((gained w e).options ≡ w.options)
label_by w e true h = rw h (refl, refl)
label_by w e false h = rw h (refl, refl)

pub same_label : (w : Writing) (e : Entry) → ((gained w e).label ≡ w.label)
    × ((gained w e).options ≡ w.options)
same_label w e = label_by w e _ refl

-- a full chunk more ends no chunk early
early_more : (size at : ℕ) (cs : List (List Entry)) (c : List Entry) → is_full size c ≡ true
    → early_ends size at (cs ++ c ∷ []) ≡ early_ends size at cs
unfolding early_ends
early_more size at [] c h = rw h refl
early_more size at (d ∷ ds) c h =
    ap (λ (ends : List ℕ). cond (is_full size d) ends ((at + length d) ∷ ends))
    (early_more size (at + length d) ds c h)

spilled_by : (w : Writing) (e : Entry) (full : Bool)
    → is_full w.options.data_block_size (w.pending ++ e ∷ []) ≡ full
    → spills_of (gained w e) ≡ spills_of w
spilled_by w e true h = rw h (early_more w.options.data_block_size 0 w.cut (w.pending ++ e ∷ []) h)
spilled_by w e false h = rw h refl

pub same_spills : (w : Writing) (e : Entry) → spills_of (gained w e) ≡ spills_of w
same_spills w e = spilled_by w e _ refl

pub no_spills : (w : Writing) → w.cut ≡ [] → spills_of w ≡ []
unfolding early_ends
no_spills w h = rw h refl

-- what a writer of all entries finishes
module _ (w : Writing) (es : List Entry) (label : Label) (all : written w ≡ es)
    (named : w.label ≡ label) (options : w.options ≡ default_options)
    (unspilled : spills_of w ≡ []) where
  finished : (id checksum : ℕ) (bytes : List ℕ) → IsFinished w id checksum bytes
      → IsTableOf label es id checksum bytes
  finished id checksum bytes f =
      let P : List Entry → Type 0 = λ xs. (t : IsTable bytes xs) × (t.label ≡ label)
      × (t.options ≡ default_options) × (t.version ≡ V4) × (t.spills ≡ []) in
      let made : IsTable bytes (written w) = record {
        label = w.label;
        options = w.options;
        version = V4;
        spills = spills_of w;
        file =
            f.file_is;
        strict = f.strict;
        fits = f.fits;
      } in
      let table : P es = subst P all (made, named, options, refl, unspilled) in
      record {
        some = λ none. f.some (all ∙ none);
        id_is = f.id_is ∙ ap (λ (l : Label). l.table_id) named;
        checksum_is = f.checksum_is;
        table = table.0;
        label_is = table.1;
        options_are = table.2;
        version_is = table.3;
        spills_are = table.4;
      }

pub table_by : {A : Type 0} (r : Result (Option (FinishedTable A)) Error) (w : Writing)
    (es : List Entry) (label : Label) → written w ≡ es → w.label ≡ label
    → w.options ≡ default_options → spills_of w ≡ []
    → IfOk r (λ t. MatchOption t (written w ≡ []) (λ f. IsFinished w f.id f.checksum.0 f.bytes))
    → IfOk r (λ t. MatchOption t (es ≡ []) (λ f. IsTableOf label es f.id f.checksum.0 f.bytes))
table_by (Err e) w es label all named options unspilled h = tt
table_by (Ok None) w es label all named options unspilled h = sym all ∙ h
table_by (Ok (Some f)) w es label all named options unspilled h =
    finished w es label all named options unspilled f.id f.checksum.0 f.bytes h

-- a list whose numbers are all below the largest one, as a test
pub numbered_from_test : (es : List Entry) → list_all
    (λ (e : Entry). nat_lt e.seqno (2 ^ 64 - 1)) es ≡ true
    → AllByRecursion (λ (e : Entry). e.seqno < 2 ^ 64 - 1) es
numbered_from_test [] h = tt
numbered_from_test (e ∷ es) h =
    let p = and_parts (nat_lt e.seqno (2 ^ 64 - 1))
    (list_all (λ (x : Entry). nat_lt x.seqno (2 ^ 64 - 1)) es) h in
    (ltb-true _ _ p.0, numbered_from_test es p.1)

pub test_from_numbered : (es : List Entry) → AllByRecursion (λ (e : Entry). e.seqno < 2 ^ 64 - 1) es
    → list_all (λ (e : Entry). nat_lt e.seqno (2 ^ 64 - 1)) es ≡ true
test_from_numbered [] h = refl
test_from_numbered (e ∷ es) h = and_both _ _ (lt-ltb _ _ h.0) (test_from_numbered es h.1)
