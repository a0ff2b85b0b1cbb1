-- Temporary files, as the code has them.
use Rattle.std.specs.Prelude.{◌≡◌, ℕ, Bool, List, [], ◌∷◌, ◌++◌, Option, map, string_bytes}
use Rattle.std.specs.Fs.{permissions_mode}
use Rattle.std.specs.List.{AllByRecursion}
use Rattle.std.specs.Option.{option_map}
use Rattle.sst_tool.specs.declared.files.write.Beside.{Beside}
use Rattle.sst_tool.specs.declared.files.write.NewFile.{NewFile}
use Rattle.sst_tool.specs.files.Placed.{Standing, StandsBeside, StandsNowhere}
use Rattle.sst_tool.specs.files.Modes.{KeepsMode}
use Rattle.sst_tool.specs.files.Steps.{Step, then_done}
use Rattle.sst_tool.specs.files.Steps.Step.{Wrote}
use Rattle.sst_tool.specs.files.There.{SameElsewhere}

-- The temporary file of this value.
abbrev pub standing_of : {A : Type 0} → Beside A → Standing
standing_of b = record {
  file = b.file;
  path = string_bytes b.path;
  beside = string_bytes b.temporary;
  mode = option_map permissions_mode b.permissions;
}

abbrev pub standing_in : {A : Type 0} → List (Beside A) → List Standing
standing_in bs = map standing_of bs

-- This holds of the paths, the modes and the steps of a place before and after a call.
abbrev pub BeforeAndAfter : {S : Type 0} (there : S → List ℕ → Option Bool)
    (modes : S → List ℕ → Option (Option ℕ)) (done : S → Option (List Step)) (old new : S)
    → ((there by_then : List ℕ → Option Bool) → (modes last : List ℕ → Option (Option ℕ))
    → (known after : Option (List Step)) → Type 0) → Type 0
BeforeAndAfter there modes done old new P =
    P (there old) (there new) (modes old) (modes new) (done old) (done new)

-- The file was written under a temporary name.
pub record IsWritten (file : NewFile) (one : Standing) (there by_then : List ℕ → Option Bool)
    (modes last : List ℕ → Option (Option ℕ)) (known new : Option (List Step)) : Type 0 where
  pub file_is : one.file ≡ file
  pub stands : StandsBeside one
  pub done : new ≡ then_done known (Wrote one.beside file.bytes.now one.mode ∷ [])
  pub same : SameElsewhere one.beside there by_then
  pub kept : KeepsMode (modes one.path) one.mode
  pub left : SameElsewhere one.beside modes last

-- The list has one more temporary file.
pub record IsAdded (file : NewFile) (old new : List Standing)
    (there by_then : List ℕ → Option Bool) (modes last : List ℕ → Option (Option ℕ))
    (known after : Option (List Step)) : Type 0 where
  pub one : Standing
  pub written : IsWritten file one there by_then modes last known after
  pub added : new ≡ old ++ one ∷ []

-- Each temporary file has the mode that its path had before, unless a temporary file is there.
abbrev pub HaveModesKept : (List ℕ → Option (Option ℕ)) → List Standing → List Standing → Type 0
HaveModesKept modes all some = AllByRecursion (λ (s : Standing).
    StandsNowhere all s.path → KeepsMode (modes s.path) s.mode) some
