-- Which modes new files have.
use Rattle.std.proofs.Common.{◌≡◌, refl, ◌∙◌, ap, subst, ℕ, List, [], ◌∷◌, ◌++◌}
use Rattle.std.specs.Prelude.{IfSome, OnOk, Option, None, Some, Result, Ok, Err}
use Rattle.std.specs.Fs.{IsFile, file_type, metadata_mode, permissions_mode}
use Rattle.std.specs.List.{AllByRecursion}
use Rattle.std.specs.Option.{option_map}
use Rattle.std.specs.declared.fs.attrs.Metadata.{Metadata}
use Rattle.std.specs.declared.fs.permissions.Permissions.{Permissions}
use Rattle.sst_tool.specs.declared.files.write.NewFile.{NewFile}
use Rattle.sst_tool.specs.files.Modes.{AreModesKept, IsPlainMode, KeepsMode, KeepsModeOf, WritesElsewhere}
use Rattle.sst_tool.specs.files.Placed.{AreBeside, IsBesideOne, Standing, StandsBeside, StandsNowhere}
use Rattle.sst_tool.specs.files.Placed.{renaming, syncing, writing}
use Rattle.sst_tool.specs.files.Standing.{HaveModesKept}
use Rattle.sst_tool.specs.files.Steps.{OnlyDoes, Removes, Step, then_done}
use Rattle.sst_tool.specs.files.Steps.Step.{Removed}
use Rattle.sst_tool.proofs.Steps.{then_more}

plain_mode : (there : Option Metadata) → IfSome there (λ m. IsFile (file_type m))
    → IfSome (option_map metadata_mode there) IsPlainMode
plain_mode None plain = tt
plain_mode (Some m) plain = plain

-- permissions are those of what was found, which is a plain file
pub keeps : (known : Option (Option ℕ)) (there : Option Metadata) (p : Option Permissions)
    → IfSome known (λ was. option_map metadata_mode there ≡ was)
    → option_map permissions_mode p ≡ option_map metadata_mode there
    → IfSome there (λ m. IsFile (file_type m)) → KeepsMode known (option_map permissions_mode p)
keeps None there p returned same plain = tt
keeps (Some was) there p returned same plain = (
  same ∙ returned,
  subst (λ (w : Option ℕ). IfSome w IsPlainMode) returned (plain_mode there plain),
)

-- no step that writes files beside their names writes at a path, so none of them stands there
nowhere : (all : List Standing) (rest : List Step) (path : List ℕ)
    → AllByRecursion (WritesElsewhere path) (writing all ++ rest) → StandsNowhere all path
nowhere [] rest path h = tt
nowhere (s ∷ all) rest path h = (h.0, nowhere all rest path h.1)

module _ (modes : List ℕ → Option (Option ℕ)) (steps : List Step) where
  none_renaming : (all : List Standing) (rest : List Step)
      → AllByRecursion (KeepsModeOf modes steps) rest
      → AllByRecursion (KeepsModeOf modes steps) (renaming all ++ rest)
  none_renaming [] rest h = h
  none_renaming (s ∷ all) rest h = (tt, none_renaming all rest h)

  none_syncing : (all : List Standing) (rest : List Step)
      → AllByRecursion (KeepsModeOf modes steps) rest
      → AllByRecursion (KeepsModeOf modes steps) (syncing all ++ rest)
  none_syncing [] rest h = h
  none_syncing (s ∷ all) rest h = (tt, none_syncing all rest h)

  keeps_removing : (Is : List ℕ → Type 0) (step : Step) → Removes Is step
      → KeepsModeOf modes steps step
  keeps_removing Is (Removed path) h = tt
  keeps_removing Is step h = absurd h

  none_removing : (Is : List ℕ → Type 0) (some : List Step) → AllByRecursion (Removes Is) some
      → AllByRecursion (KeepsModeOf modes steps) some
  none_removing Is [] h = tt
  none_removing Is (s ∷ some) h = (keeps_removing Is s h.0, none_removing Is some h.1)

  some_writing : (all some : List Standing) (rest behind : List Step)
      → steps ≡ writing all ++ behind → AllByRecursion StandsBeside some
      → HaveModesKept modes all some → AllByRecursion (KeepsModeOf modes steps) rest
      → AllByRecursion (KeepsModeOf modes steps) (writing some ++ rest)
  some_writing all [] rest behind is beside kept h = h
  some_writing all (s ∷ some) rest behind is beside kept h = (
    (
      s.path,
      beside.0.1,
      λ apart. kept.0 (nowhere all behind s.path
          (subst (AllByRecursion (WritesElsewhere s.path)) is apart)),
    ),
    some_writing all some rest behind is beside.1 kept.1 h,
  )

-- all were written, renamed and synced, each with the mode of what had its name, and then names
-- beside them removed
pub modes_kept : {R E : Type 0} (returned : Result R E) (modes : List ℕ → Option (Option ℕ))
    (known one new : Option (List Step)) (all : List Standing) (files : List NewFile)
    → AreBeside files all → HaveModesKept modes all all → one ≡ then_done known (writing all)
    → OnOk returned
    (OnlyDoes (Removes (IsBesideOne all)) (then_done (then_done one (renaming all)) (syncing all)) new)
    → OnOk returned (AreModesKept modes known new)
modes_kept (Err e) modes known one new all files are kept written done = tt
modes_kept (Ok r) modes known one new all files are kept written done =
    let removed : List Step = done.steps in
    let synced : List Step = syncing all ++ removed in
    let behind : List Step = renaming all ++ synced in
    let steps : List Step = writing all ++ behind in (
      steps,
      done.done ∙ then_more (then_done one (renaming all)) (syncing all) removed
          ∙ then_more one (renaming all) synced
          ∙ ap (λ (k : Option (List Step)). then_done k behind) written
          ∙ then_more known (writing all) behind,
      some_writing modes steps all all behind behind refl are.beside kept
          (none_renaming modes steps all synced
          (none_syncing modes steps all removed (none_removing modes steps (IsBesideOne all) removed done.are))),
    )
