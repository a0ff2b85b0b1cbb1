-- The file that an error of a merged dump comes from.
use Rattle.std.proofs.Common.{◌≡◌, ◌∙◌, ap, refl, sym, ℕ, ◌+◌, ◌<◌, ◌≤◌, ◌^◌, ◌-◌, List, get_or, length, take}
use Rattle.std.proofs.Common.{subst, true, true≢false}
use Rattle.std.specs.Prelude.{None, Some, is_some}
use Rattle.std.proofs.lemmas.List.{take_all}
use Rattle.sst_entries.specs.Entry.{Entry}
use Rattle.sst_entries.specs.Stream.{ok_results}
use Rattle.sst_entries.specs.declared.error.Error.{Error}
use Rattle.lsm_readers.specs.Stored.{StoresList}
use Rattle.sst_tool.specs.declared.files.error.ToolError.{ToolError}
use Rattle.sst_tool.specs.declared.files.error.ToolError.TheVariants as error
use Rattle.sst_tool.specs.declared.show.dumps.DumpOptions.{DumpOptions}
use Rattle.sst_tool.specs.declared.show.named.NamedTable.{NamedTable}
use Rattle.sst_tool.specs.show.Failures.{NamesNone, NamesOnly}
use Rattle.sst_tool.specs.show.Merged.{FailsOnlyAs, IsUnread, NamesUnread, range_error, unread_file}
use Rattle.sst_tool.specs.show.Read.{Outcome, dumped, first_error, readable}
use Rattle.sst_tool.proofs.FileLemmas.{found_here, none_more}
use Rattle.sst_tool.proofs.MergedLemmas.{no_first}

module _ {A : Type 0} (o : DumpOptions) (fs : List (NamedTable A)) where
  -- an error of the output or of memory names no file
  pub none_unread : (f : ToolError) → NamesNone f → NamesUnread o fs f
  none_unread (error.Output e) none = tt
  none_unread (error.Refused e) none = λ other. absurd (true≢false (sym none ∙ other))
  none_unread f none = absurd none

  -- so is an error that is none of the library
  pub other_unread : (f : ToolError) → ((e : Error) → f ≡ error.Refused e → ⊥)
      → FailsOnlyAs (λ _. Unit {0}) f → NamesUnread o fs f
  other_unread (error.Output e) other fails = tt
  other_unread (error.Refused e) other fails = absurd (other e refl)
  other_unread f other fails = absurd fails

  -- the range of one more file can be read
  pub read_more : (i : ℕ) (f : NamedTable A) → i < length fs → f ≡ get_or fs i f
      → unread_file o (take i fs) ≡ None
      → (es : List Entry) × (dumped o.reverse (2 ^ 64 - 1) (readable o f.table) ≡ ok_results es)
      → unread_file o (take (i + 1) fs) ≡ None
  read_more i f less is before read =
      none_more (λ (g : NamedTable A). is_some (range_error o g.table)) fs i f less is before
      (ap (λ (rs : List Outcome). is_some (first_error rs)) read.1 ∙ ap is_some (no_first read.0))

  unread_by : (f : NamedTable A) (e : ToolError)
      → NamesOnly f (λ x. range_error o f.table ≡ Some x) e
      → ((es : List Entry) → StoresList f.table.bytes es → NamesNone e) → IsUnread o f e
  unread_by f (error.Unreadable name at e) named sound =
      (named.0, named.1, λ stores. sound stores.0 stores.1)
  unread_by f (error.Refused e) named sound = named
  unread_by f e named sound = tt

  named_by : (i : ℕ) (f : NamedTable A) → i < length fs → f ≡ get_or fs i f
      → unread_file o (take i fs) ≡ None → (e : ToolError) → IsUnread o f e → NamesUnread o fs e
  named_by i f less is before (error.Unreadable name at e) unread = (
    f,
    found_here (λ (g : NamedTable A). is_some (range_error o g.table)) fs i f less is before
        (ap is_some unread.1),
    unread,
  )
  named_by i f less is before (error.Refused e) unread =
      λ other. absurd (true≢false (sym unread ∙ other))
  named_by i f less is before e unread = tt

  -- the first file whose range cannot be read
  pub first_named : (i : ℕ) (f : NamedTable A) → i < length fs → f ≡ get_or fs i f
      → unread_file o (take i fs) ≡ None → (e : ToolError)
      → NamesOnly f (λ x. range_error o f.table ≡ Some x) e
      → ((es : List Entry) → StoresList f.table.bytes es → NamesNone e) → NamesUnread o fs e
  first_named i f less is before e named sound =
      named_by i f less is before e (unread_by f e named sound)

  -- the ranges of all files can be read
  pub all_read : (i : ℕ) → length fs ≤ i → unread_file o (take i fs) ≡ None
      → unread_file o fs ≡ None
  all_read i all before =
      subst (λ (gs : List (NamedTable A)). unread_file o gs ≡ None) (take_all i fs all) before
