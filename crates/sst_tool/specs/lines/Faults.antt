-- The errors of lines.
use Rattle.std.specs.Prelude.{◌≡◌, ℕ, Bool, true, false}
use Rattle.sst_tool.specs.declared.lines.entry_line.LineError.{LineError}
use Rattle.sst_tool.specs.declared.lines.entry_line.LineError.TheVariants.{Key, OutOfMemory, Value}

-- The error is OutOfMemory.
abbrev pub lacks_memory : LineError → Bool
lacks_memory OutOfMemory = true
lacks_memory e = false

-- Two errors are the same, but for the byte that they name.
abbrev pub IsSameFault : LineError → LineError → Type 0
IsSameFault (Key n) e = (m : ℕ) × (e ≡ Key m)
IsSameFault (Value n) e = (m : ℕ) × (e ≡ Value m)
IsSameFault fault e = e ≡ fault
