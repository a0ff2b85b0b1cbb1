-- Which refusal of the library's is told.
use denote.Ref.{Bor}
use Rattle.std.proofs.Common.{◌≡◌, sym, ◌∙◌, ap, subst, ℕ, zero, suc, ◌+◌, ◌^◌, ◌<◌, List}
use Rattle.std.proofs.Common.{[], ◌∷◌, inl, inr, arith, false, length}
use Rattle.std.specs.Prelude.{Option, Some, None}
use Rattle.std.specs.List.{AllByRecursion, slice_get}
use Rattle.std.proofs.lemmas.List.{length-map}
use Rattle.sst_entries.specs.Entry.{Entry}
use Rattle.sst_entries.specs.Error.{is_memory}
use Rattle.sst_entries.specs.declared.error.Error.{Error}
use Rattle.sst_entries.specs.declared.error.Error.TheVariants.{OutOfMemory}
use Rattle.sst_blocks.specs.table.Facts.{highest_seqno}
use Rattle.lsm_readers.specs.Stored.{StoresList}
use Rattle.lsm_readers.specs.point.Table.{OpenTable}
use Rattle.lsm_runs.specs.RunLists.{RunsHoldLists}
use Rattle.lsm_runs.specs.compaction.AnyRuns.{AreTablesBy}
use Rattle.lsm_runs.specs.compaction.Compacted.{AreCompactable, FitsBy, HaveEntries, kept_in}
use Rattle.lsm_runs.specs.compaction.OpenedBy.{run_with_fault}
use Rattle.lsm_runs.specs.declared.compaction.any_runs.CompactionOutcome.{CompactionOutcome}
use Rattle.lsm_runs.specs.declared.compaction.any_runs.CompactionOutcome.TheVariants.{OutOfOrder}
use Rattle.lsm_runs.specs.declared.compaction.any_runs.CompactionOutcome.TheVariants.{Stopped, Tables}
use Rattle.sst_tool.specs.declared.files.error.ToolError.{ToolError}
use Rattle.sst_tool.specs.declared.files.error.ToolError.TheVariants as error
use Rattle.sst_tool.specs.declared.make.compact_options.CompactOptions.{CompactOptions}
use Rattle.sst_tool.specs.make.Blamed.{BlamesNoneForMemory, IsBlame, KeepsRefusal, NamesBlame}
use Rattle.sst_tool.specs.make.Compacted.{HasNoTables, TellsLibrary}
use Rattle.sst_tool.specs.make.Written.{writer_by}
use Rattle.sst_tool.specs.make.Compacted.{each_alone}
use Rattle.sst_tool.specs.make.Scanned.{path_or_mark}
use Rattle.sst_tool.specs.make.Scanned.{StoresNoEntries}

-- ---- tables that hold lists

-- the bytes of a table store a list that has an entry
abbrev StoresSome : OpenTable → Type 0
StoresSome t = (stored : List Entry) × StoresList t.bytes stored × (0 < length stored)

none_some : {X : Type 0} {x : X} → Some x ≡ None → ⊥
none_some e = cc

same_table : (x t : OpenTable) → Some x ≡ Some t → x ≡ t
same_table x t e = cc

-- a table alone
holds_one : (x : OpenTable) (ls : List (List Entry)) (rest : List (List (List Entry)))
    (tables : List OpenTable) → RunsHoldLists ((x ∷ []) ∷ each_alone tables) (ls ∷ rest)
    → HaveEntries ls → StoresSome x
holds_one x [] rest tables hold some = absurd hold.0.1
holds_one x (es ∷ []) rest tables hold some =
    let held = hold.0.1.0 in
    let long : length es ≡ length held.stored =
    ap length held.lifted_is ∙ length-map held.stored _ in
    (held.stored, held.table, omega (arith, long, some.1.0))
holds_one x (es ∷ fs ∷ ls) rest tables hold some = absurd hold.0.1.1

-- each of several
holds_at : (tables : List OpenTable) (lists : List (List (List Entry))) (place : ℕ)
    (t : OpenTable) → RunsHoldLists (each_alone tables) lists → AllByRecursion HaveEntries lists
    → slice_get tables place ≡ Some t → StoresSome t
holds_at [] lists place t hold some is = absurd (none_some (sym is))
holds_at (x ∷ tables) [] place t hold some is = absurd hold
holds_at (x ∷ tables) (ls ∷ lists) zero t hold some is =
    subst StoresSome (same_table x t is) (holds_one x ls lists tables hold some.0)
holds_at (x ∷ tables) (ls ∷ lists) (suc place) t hold some is =
    holds_at tables lists place t hold.1 some.1 is

-- so no file is blamed
no_blame : (paths : List (Bor (List ℕ))) (tables : List OpenTable) (e : ToolError)
    (one : (place : ℕ) × (t : OpenTable) × (slice_get tables place ≡ Some t)
    × NamesBlame (path_or_mark (slice_get paths place)) t e × StoresNoEntries t)
    → AreCompactable (each_alone tables) → ⊥
no_blame paths tables e one able =
    let stored = holds_at tables able.lists one.0 one.1 able.hold able.some one.2 in
    one.4 stored.0 stored.1 stored.2

-- ---- what is told

-- the first fault, memory aside
told_by : (returned : Option Error) (fault f : Error) → f ≡ fault
    → (is_memory fault ≡ false → returned ≡ Some fault) → is_memory f ≡ false → returned ≡ Some f
told_by returned fault f same refused other =
    refused (ap is_memory (sym same) ∙ other) ∙ ap (λ (g : Error). Some g) (sym same)

-- a refusal
pub refused_so : (o : CompactOptions) (paths : List (Bor (List ℕ))) (opened : List OpenTable)
    (fault : Error) (e : ToolError) → KeepsRefusal fault e → IsBlame paths opened e
    → (fault ≡ OutOfMemory → e ≡ error.Refused OutOfMemory) → BlamesNoneForMemory e
    → (AreCompactable (each_alone opened) → (lists : List (List (List Entry)))
    → RunsHoldLists (each_alone opened) lists → is_memory fault ≡ false
    → run_with_fault (writer_by o.tables) (kept_in o.rules lists) 0 ≡ Some fault)
    → (AreCompactable (each_alone opened) → (lists : List (List (List Entry)))
    → RunsHoldLists (each_alone opened) lists → FitsBy (writer_by o.tables) (kept_in o.rules lists)
    → highest_seqno (kept_in o.rules lists) + 0 < 2 ^ 64 → fault ≡ OutOfMemory)
    → TellsLibrary o opened e
refused_so o paths opened fault (error.Refused f) kept blame memory other refused taken =
    λ able lists hold. record {
      returned = told_by (run_with_fault (writer_by o.tables) (kept_in o.rules lists) 0) fault f kept
          (refused able lists hold);
      taken = λ fits low. memory (taken able lists hold fits low);
    }
refused_so o paths opened fault (error.Unplaced f) kept blame memory other refused taken =
    λ able lists hold. record {
      returned = told_by (run_with_fault (writer_by o.tables) (kept_in o.rules lists) 0) fault f kept
          (refused able lists hold) other;
      taken = λ fits low. memory (taken able lists hold fits low);
    }
refused_so o paths opened fault (error.Unreadable name at e) kept (inl none) memory other refused
    taken = absurd none
refused_so o paths opened fault (error.Unreadable name at e) kept (inr one) memory other refused
    taken =
    λ able lists hold. absurd (no_blame paths opened (error.Unreadable name at e)
    (one.0, one.1, one.2, one.3, one.4) able)
refused_so o paths opened fault e kept blame memory other refused taken = absurd kept

-- entries that come out of order
pub none_so : {A : Type 0} (o : CompactOptions) (opened : List OpenTable)
    (outcome : CompactionOutcome A) (e : ToolError) → HasNoTables outcome
    → (AreCompactable (each_alone opened) → (lists : List (List (List Entry)))
    → RunsHoldLists (each_alone opened) lists
    → AreTablesBy (writer_by o.tables) (kept_in o.rules lists) outcome)
    → TellsLibrary o opened e
none_so o opened (Tables tables left) e none made = absurd none
none_so o opened OutOfOrder e none made = λ able lists hold. absurd (made able lists hold)
none_so o opened Stopped e none made = λ able lists hold. absurd (made able lists hold)
