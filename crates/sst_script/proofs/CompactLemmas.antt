-- The result of compacting the runs, and that they may be compacted.
use Rattle.std.proofs.Common.{◌≡◌, refl, sym, ◌∙◌, ap, subst, inl, inr, ◌⊎◌, ℕ, ◌<◌, Bool, true}
use Rattle.std.proofs.Common.{false, List, [], ◌∷◌, length, arith}
use Rattle.std.specs.Prelude.{◌≢◌, Option, Some, None, Result, Ok, Err}
use Rattle.std.specs.List.{AllByRecursion}
use Rattle.std.specs.Option.{option_map}
use Rattle.std.specs.Result.{IsErrAnd}
use Rattle.sst_entries.specs.declared.error.Error.{Error}
use Rattle.sst_entries.specs.declared.error.Error.TheVariants.{OutOfMemory}
use Rattle.sst_entries.specs.Entry.{Entry}
use Rattle.sst_entries.specs.Error.{is_memory}
use Rattle.sst_entries.proofs.Refusals.{memory_is}
use Rattle.sst_blocks.specs.table.Chunks.{joined}
use Rattle.sst_blocks.specs.declared.table.label.Label.{Label}
use Rattle.lsm_readers.specs.point.Table.{OpenTable}
use Rattle.lsm_sorted.specs.Compaction.{kept, unfiltered}
use Rattle.lsm_writers.specs.Writing.{IsWritable}
use Rattle.lsm_runs.specs.compaction.Chain.{AreCutOf, IsRunOfList, ids_behind, run_label}
use Rattle.lsm_runs.specs.compaction.Chain.{tables_fault}
use Rattle.lsm_runs.specs.compaction.Compacted.{AreCompactable, HaveEntries, kept_in, rules_by}
use Rattle.lsm_runs.specs.RunLists.{HoldLists, RunsHoldLists}
use Rattle.lsm_runs.specs.SeveralRuns.{union_in}
use Rattle.lsm_runs.proofs.Compactable.{run_entries}
use Rattle.lsm_runs.proofs.OneList.{one_way}
use Rattle.sst_script.specs.declared.stop.Failure.{Failure}
use Rattle.sst_script.specs.declared.stop.Failure.TheVariants.{Refused}
use Rattle.sst_script.specs.Runs.{HasRuns, Run, repeats, run_tables, union}
use Rattle.sst_script.specs.Script.{FailsToCompact, CompactsRuns, CompactsTo, kept_by, kept_fault}
use Rattle.sst_script.specs.Script.{store, target_size}
use Rattle.lsm_runs.proofs.CompactedBack.{lift_zero}
use Rattle.sst_script.proofs.PendingLemmas.{nothing_pending}
use Rattle.sst_script.proofs.RunLemmas.{held, lists_of, union_same}
use Rattle.sst_script.proofs.UnionLemmas.{union_more}

-- ---- runs that may be compacted

-- each table's list has an entry
abbrev pub EachHasEntries : List Run → Type 0
EachHasEntries rs = AllByRecursion HaveEntries (lists_of rs)

-- runs of lists that have entries, where no key has one seqno twice in all of them
pub able_from : (rs : List Run) (ts : List (List OpenTable)) → run_tables rs ≡ ts
    → EachHasEntries rs → IsWritable (union rs) → AreCompactable ts
able_from rs ts same some writable = record {
  lists = lists_of rs;
  hold = held rs ts same;
  some = some;
  writable = subst IsWritable (sym (union_same rs)) writable;
}

pub able_none : AreCompactable []
able_none = able_from [] [] refl tt nothing_pending

module _ (rs : List Run) (ts : List (List OpenTable)) (same : run_tables rs ≡ ts)
    (able : AreCompactable ts) where
  lists_are : able.lists ≡ lists_of rs
  lists_are = one_way ts able.lists (lists_of rs) able.hold (held rs ts same)

  pub able_entries : EachHasEntries rs
  able_entries = subst (AllByRecursion HaveEntries) lists_are able.some

  pub able_writable : IsWritable (union rs)
  able_writable = subst IsWritable (ap union_in lists_are ∙ union_same rs) able.writable

-- tables that hold lists are not none
some_tables : (ts : List OpenTable) (ls : List (List Entry)) → HoldLists ts ls → 0 < length ls
    → ts ≢ []
some_tables [] [] h some = absurd (omega (arith, some))
some_tables [] (es ∷ ls) h some = absurd h
some_tables (t ∷ ts) ls h some = λ e. absurd cc

each_some : (ts : List (List OpenTable)) (lists : List (List (List Entry))) → RunsHoldLists ts lists
    → AllByRecursion HaveEntries lists → AllByRecursion (λ (run : List OpenTable). run ≢ []) ts
each_some [] lists h some = tt
each_some (run ∷ ts) [] h some = absurd h
each_some (run ∷ ts) (ls ∷ lists) h some = (
  some_tables run ls h.0.1 some.0.0,
  each_some ts lists
      h.1 some.1,
)

-- runs of tables that hold lists
pub runs_of : (ts : List (List OpenTable)) (lists : List (List (List Entry)))
    → RunsHoldLists ts lists → AllByRecursion (λ (run : List OpenTable). run ≢ []) ts
    → (rs : List Run) × (run_tables rs ≡ ts)
runs_of [] lists h some = ([], refl)
runs_of (run ∷ ts) [] h some = absurd h
runs_of (run ∷ ts) (ls ∷ lists) h some =
    let rest = runs_of ts lists h.1 some.1 in
    let one : Run = record {
      list = joined ls;
      tables = run;
      is = record {
        lists = ls;
        whole = sym (lift_zero (joined ls));
        hold = h.0.1;
        order =
            h.0.0;
        some = some.0;
      };
    } in
    (one ∷ rest.0, ap (λ (us : List (List OpenTable)). run ∷ us) rest.1)

pub able_runs : (ts : List (List OpenTable)) → AreCompactable ts
    → (rs : List Run) × (run_tables rs ≡ ts)
able_runs ts able = runs_of ts able.lists able.hold (each_some ts able.lists able.hold able.some)

-- one more run, written of a list that repeats none of their entries
pub able_more : (rs : List Run) (ts new : List (List OpenTable)) (label : Label) (es : List Entry)
    (tables : List OpenTable) → run_tables rs ≡ ts → AreCompactable ts → new ≡ tables ∷ ts
    → IsWritable es → repeats rs es ≡ false
    → IsRunOfList es 0 tables → AreCutOf label target_size es 0 tables → AreCompactable new
able_more rs ts new label es tables same able new_is writable fresh is cut =
    let run : Run = record { list = es; tables = tables; is = is } in
    able_from (run ∷ rs) new (ap (λ (us : List (List OpenTable)). tables ∷ us) same ∙ sym new_is)
    (run_entries label target_size es 0 tables is cut, able_entries rs ts same able)
    (union_more run rs writable (able_writable rs ts same able) fresh)

-- ---- the result of compacting them

-- a fact about a timestamp and some entries
pub moved : (P : ℕ → List Entry → Type 0) (m n : ℕ) (es xs : List Entry) → m ≡ n → es ≡ xs → P m es
    → P n xs
moved P m n es xs moment same h = subst (P n) same (subst (λ (k : ℕ). P k es) moment h)

-- the entries kept of their tables' lists
pub kept_is : (watermark : ℕ) (evict zero : Bool) (rs : List Run)
    → kept_in (rules_by watermark evict zero) (lists_of rs) ≡ kept_by watermark evict zero rs
kept_is watermark evict zero rs = ap (λ (es : List Entry). kept (rules_by watermark evict zero)
    (unfiltered es)) (union_same rs)

module _ (es left : List Entry) (next : Option ℕ) (rs : List Run) (ts : List (List OpenTable))
    (same : run_tables rs ≡ ts) where
  -- it fails, and the runs are unchanged
  abbrev MayFail : Failure → Type 0
  MayFail f = (f ≡ Refused OutOfMemory) ⊎ (kept_fault (store es rs next) left ≡ Some f)

  pub not_compacted : (r : Result ℕ Failure) (f : Failure) → IsErrAnd r (λ y. y ≡ f) → MayFail f
      → HasRuns ts (λ after. CompactsRuns (store es rs next) left r (store es after next))
  not_compacted (Ok count) f is may = absurd is
  not_compacted (Err y) f is may = (
    rs,
    same,
    subst
        (λ (x : Failure). FailsToCompact (store es rs next) left x (store es rs next)) (sym is)
        (may, refl),
  )

  fails_by : (e : Error) (b : Bool) → is_memory e ≡ b
      → (is_memory e ≡ false → tables_fault next target_size 0 left ≡ Some e) → MayFail (Refused e)
  fails_by e true memory fault = inl (ap (λ (x : Error). Refused x) (memory_is e memory))
  fails_by e false memory fault = inr (ap (option_map Refused) (fault memory))

  pub compaction_fails : (e : Error)
      → (is_memory e ≡ false → tables_fault next target_size 0 left ≡ Some e) → MayFail (Refused e)
  compaction_fails e fault = fails_by e _ refl fault

  -- the kept entries were written
  pub compacted : (new : List (List OpenTable)) (following : Option ℕ) (tables : List OpenTable)
      (count : ℕ) → new ≡ tables ∷ [] → count ≡ length tables
      → tables_fault next target_size 0 left ≡ None
      → following ≡ ids_behind next target_size (length tables) → IsRunOfList left 0 tables
      → AreCutOf (run_label next target_size 0) target_size left 0 tables
      → HasRuns new (λ after. CompactsTo (store es rs next) left count (store es after following))
  compacted new following tables count new_is count_is written behind is cut =
      let run : Run = record { list = left; tables = tables; is = is } in
      let ids : following ≡ ids_behind next target_size count = behind
      ∙ ap (ids_behind next target_size) (sym count_is) in (
        run ∷ [],
        sym new_is,
        (
          ap (option_map Refused) written,
          inr (
            run,
            refl,
            count_is,
            cut,
            ap
                (λ (n : Option ℕ). store es (run ∷ []) n) ids,
          ),
        ),
      )

  -- nothing was kept
  pub compacted_away : (new : List (List OpenTable)) (following : Option ℕ) (count : ℕ) → new ≡ []
      → count ≡ 0 → tables_fault next target_size 0 left ≡ None
      → following ≡ ids_behind next target_size 0 → left ≡ []
      → HasRuns new (λ after. CompactsTo (store es rs next) left count (store es after following))
  compacted_away new following count new_is count_is written behind none =
      let ids : following ≡ ids_behind next target_size count = behind
      ∙ ap (ids_behind next target_size) (sym count_is) in (
        [],
        sym new_is,
        (
          ap (option_map Refused) written,
          inl (
            count_is,
            none,
            ap
                (λ (n : Option ℕ). store es [] n) ids,
          ),
        ),
      )
