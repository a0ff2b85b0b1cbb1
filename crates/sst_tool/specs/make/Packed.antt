-- Packing of files.
use denote.Ref.{Bor}
use Rattle.std.specs.Prelude.{◌≡◌, ℕ, List, false, take, true, Option, Some}
use Rattle.std.specs.List.{slice_get}
use Rattle.lsm_sorted.specs.version.KeyRange.{Interval, is_well_formed}
use Rattle.lsm_sorted.specs.version.Packing.{AreTablesWellFormed}
use Rattle.lsm_run_parts.specs.RunParts.{range_of}
use Rattle.sst_entries.specs.declared.error.Error.TheVariants.{OutOfMemory}
use Rattle.sst_tool.specs.declared.files.error.ToolError.{ToolError}
use Rattle.sst_tool.specs.declared.files.error.ToolError.TheVariants as error
use Rattle.sst_tool.specs.files.Files.{is_memory_fault}
use Rattle.sst_tool.specs.files.Opened.{OpenAs, StopsOpening}
use Rattle.sst_tool.specs.make.Scanned.{path_or_mark}

-- The error says that the first key of this path's file is above the last.
abbrev pub IsTurned : List ℕ → ToolError → Type 0
IsTurned path (error.Range name) = name.now ≡ path
IsTurned path _ = ⊥

-- The error names the path of the first table whose first key is above its last.
abbrev pub NamesTurned : {T : Type 0} → (T → Interval) → List (Bor (List ℕ)) → List T
    → ToolError → Type 0
NamesTurned {T} range paths tables e = (place : ℕ) × (t : T) × (slice_get tables place ≡ Some t)
    × (is_well_formed (range t) ≡ false) × IsTurned (path_or_mark (slice_get paths place)) e
    × AreTablesWellFormed range (take place tables)

-- The error is that of the first file that does not open, or names one whose first key is above its
-- last, or is OutOfMemory.
abbrev pub RefusesToPack : (List ℕ → Option (List ℕ)) → List (Bor (List ℕ)) → ToolError → Type 0
RefusesToPack content paths (error.File e) =
    (is_memory_fault e.fault ≡ false) × StopsOpening true content paths e
RefusesToPack content paths (error.Refused e) = e ≡ OutOfMemory
RefusesToPack content paths (error.Range name) = OpenAs content paths (λ tables.
    NamesTurned range_of paths tables (error.Range name))
RefusesToPack content paths _ = ⊥
