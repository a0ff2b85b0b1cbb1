-- What is said of a file that is at fault.
use denote.Ref.{Bor}
use Rattle.std.proofs.Common.{◌≡◌, ◌⊎◌, refl, ap, Bool, true, false, inl, inr, ℕ, List}
use Rattle.std.specs.Prelude.{Option, if◌then◌else◌}
use Rattle.sst_tool.specs.declared.files.file_error.FileError.{FileError}
use Rattle.sst_tool.specs.declared.files.file_error.FileFault.{FileFault}
use Rattle.sst_tool.specs.declared.files.file_error.FileFault.TheVariants.{AfterOthers, CutShort, Folder}
use Rattle.sst_tool.specs.declared.files.file_error.FileFault.TheVariants.{Io, Left, NamesTaken, NotPlain}
use Rattle.sst_tool.specs.declared.files.file_error.FileFault.TheVariants.{NotSynced, Refused, Taken}
use Rattle.sst_tool.specs.files.Files.{error_of_file, is_memory_fault}
use Rattle.sst_tool.specs.files.Placed.{IsOfSystem, TellsFound}
use Rattle.sst_tool.specs.files.Opened.{StopsOpening}
use Rattle.sst_entries.specs.declared.error.Error.TheVariants.{OutOfMemory}
use Rattle.sst_tool.specs.declared.files.error.ToolError.TheVariants as error
use Rattle.sst_tool.specs.make.Blamed.{BlamesNoneForMemory}
use Rattle.sst_tool.specs.make.Compacted.{IfOutOfOrder}
use Rattle.sst_tool.specs.make.Packed.{RefusesToPack}

order_by : (e : FileError) (P : Type 0) (b : Bool)
    → IfOutOfOrder (if b then error.Refused OutOfMemory else error.File e) P
order_by e P true = tt
order_by e P false = tt

-- it says nothing of an order
pub blamed_order : (e : FileError) (P : Type 0) → IfOutOfOrder (error_of_file e) P
blamed_order e P = order_by e P (is_memory_fault e.fault)

memory_by : (e : FileError) (b : Bool) → is_memory_fault e.fault ≡ b
    → BlamesNoneForMemory (if b then error.Refused OutOfMemory else error.File e)
memory_by e true is = tt
memory_by e false is = is

-- it names no file where memory is wanted
pub blamed_memory : (e : FileError) → BlamesNoneForMemory (error_of_file e)
blamed_memory e = memory_by e (is_memory_fault e.fault) refl

packs_by : (content : List ℕ → Option (List ℕ)) (paths : List (Bor (List ℕ))) (e : FileError)
    (b : Bool) → StopsOpening true content paths e → is_memory_fault e.fault ≡ b
    → RefusesToPack content paths (if b then error.Refused OutOfMemory else error.File e)
packs_by content paths e true stops is = refl
packs_by content paths e false stops is = (is, stops)

-- it is one of those that packing is refused with
pub blamed_packs : (content : List ℕ → Option (List ℕ)) (paths : List (Bor (List ℕ)))
    (e : FileError) → StopsOpening true content paths e → RefusesToPack content paths (error_of_file e)
blamed_packs content paths e stops =
    packs_by content paths e (is_memory_fault e.fault) stops refl

-- what is found of a path is no want of memory
found_by : (there : Option Bool) (e : FileFault) → (e ≡ Taken) ⊎ IsOfSystem e
    → is_memory_fault e ≡ false
found_by there e (inl taken) = ap is_memory_fault taken
found_by there (Io error) (inr system) = refl
found_by there Folder (inr system) = absurd system
found_by there Taken (inr system) = absurd system
found_by there NotPlain (inr system) = absurd system
found_by there Left (inr system) = absurd system
found_by there (CutShort read size) (inr system) = absurd system
found_by there NamesTaken (inr system) = absurd system
found_by there (AfterOthers renamed error) (inr system) = absurd system
found_by there (NotSynced error) (inr system) = absurd system
found_by there (Refused error) (inr system) = absurd system

pub found_memory : (there : Option Bool) (e : FileFault) → TellsFound Taken there e
    → is_memory_fault e ≡ false
found_memory there e (inl taken) = found_by there e (inl taken.0)
found_memory there e (inr system) = found_by there e (inr system.0)
