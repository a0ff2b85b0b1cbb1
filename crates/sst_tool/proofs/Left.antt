-- What is removed beside files.
use Rattle.std.proofs.Common.{◌≡◌, refl, sym, ◌∙◌, ap, subst, ℕ, ◌<◌, List, [], ◌∷◌, ◌++◌}
use Rattle.std.proofs.Common.{◌+◌, drop, get_or, length, take}
use Rattle.std.specs.Prelude.{Any, Option, string_bytes}
use Rattle.std.specs.List.{AllByRecursion}
use Rattle.sst_entries.proofs.Lists.{all_append}
use Rattle.sst_tool.specs.declared.files.write.Beside.{Beside}
use Rattle.sst_tool.specs.files.Ended.{files_left, path_behind}
use Rattle.sst_tool.specs.files.Files.{IsBeside}
use Rattle.sst_tool.specs.files.NewFolders.{Clears, IsBesideFolder, IsStemOf, path_within}
use Rattle.sst_tool.specs.files.Placed.{IsBesideOne, Standing}
use Rattle.sst_tool.specs.files.Standing.{standing_in, standing_of}
use Rattle.sst_tool.specs.files.Steps.{OnlyDoes, Removes, Step, then_done}
use Rattle.sst_tool.specs.files.Steps.Step.{Removed, RemovedFolder}
use Rattle.sst_tool.proofs.Steps.{any_at, standing_at, then_more, then_none}

-- nothing is done
pub does_none : (Is : Step → Type 0) (known now : Option (List Step)) → now ≡ known
    → OnlyDoes Is known now
does_none Is known now same = record {
  steps = [];
  are = tt;
  done = same ∙ sym (then_none known);
}

-- one step is
pub does_one : (Is : Step → Type 0) (known now : Option (List Step)) (step : Step) → Is step
    → now ≡ then_done known (step ∷ []) → OnlyDoes Is known now
does_one Is known now step is done = record {
  steps = step ∷ [];
  are = (is, tt);
  done = done;
}

all_within : (P Q : Step → Type 0) (xs : List Step) → ((x : Step) → P x → Q x)
    → AllByRecursion P xs → AllByRecursion Q xs
all_within P Q [] within all = tt
all_within P Q (x ∷ xs) within all = (within x all.0, all_within P Q xs within all.1)

-- and then more steps are
pub does_more : (Is Last : Step → Type 0) (known now after : Option (List Step))
    → ((step : Step) → Last step → Is step) → OnlyDoes Is known now
    → OnlyDoes Last now after → OnlyDoes Is known after
does_more Is Last known now after within old new = record {
  steps = old.steps ++ new.steps;
  are = all_append Is old.steps new.steps old.are (all_within Last Is new.steps within new.are);
  done = new.done ∙ ap (λ (k : Option (List Step)). then_done k new.steps) old.done
      ∙ then_more known old.steps new.steps;
}

-- a file with a path of one kind has one of the other
pub removes_within : (P Q : List ℕ → Type 0) → ((path : List ℕ) → P path → Q path)
    → (step : Step) → Removes P step → Removes Q step
removes_within P Q within (Removed path) h = within path h
removes_within P Q within step h = absurd h

-- a file whose name was spelled
pub removes_named : (P : List ℕ → Type 0) (path text : List ℕ) → P text → path ≡ text
    → (step : Step) → Removes (λ p. p ≡ path) step → Removes P step
removes_named P path text holds same step h =
    removes_within (λ p. p ≡ path) P
    (λ p is. subst P (sym (is ∙ same)) holds) step h

-- a folder with a path of one kind has one of the other
pub clears_within : (P Q : List ℕ → Type 0) → ((path : List ℕ) → P path → Q path)
    → (step : Step) → Clears P step → Clears Q step
clears_within P Q within (Removed path) h = (h.0, h.1, within h.0 h.2, h.3)
clears_within P Q within (RemovedFolder path) h = within path h
clears_within P Q within step h = absurd h

-- a folder whose name was spelled
pub clears_named : (P : List ℕ → Type 0) (path text : List ℕ) → P text → path ≡ text
    → (step : Step) → Clears (λ p. p ≡ path) step → Clears P step
clears_named P path text holds same step h =
    clears_within (λ p. p ≡ path) P
    (λ p is. subst P (sym (is ∙ same)) holds) step h

-- a table in a folder
pub clears_table : (folder path text : List ℕ) (number : ℕ) → path ≡ text
    → text ≡ path_within folder number → (step : Step) → Removes (λ p. p ≡ path) step
    → Clears (λ p. p ≡ folder) step
clears_table folder path text number same is (Removed p) h = (folder, number, refl, h ∙ same ∙ is)
clears_table folder path text number same is step h = absurd h

-- the temporary folders of a path without its slashes
pub clears_stem : (folder stem : List ℕ) (known new : Option (List Step)) → IsStemOf stem folder
    → OnlyDoes (Clears (IsBeside stem)) known new
    → OnlyDoes (Clears (IsBesideFolder folder)) known new
clears_stem folder stem known new cut does =
    does_more (Clears (IsBesideFolder folder)) (Clears (IsBeside stem)) known known new
    (clears_within (IsBeside stem) (IsBesideFolder folder) (λ p beside. (stem, cut, beside)))
    (does_none (Clears (IsBesideFolder folder)) known known refl) does

-- no file gets another name by this
pub clears_still : (Is : List ℕ → Type 0) (steps : List Step) → AllByRecursion (Clears Is) steps
    → (path : List ℕ) → path_behind steps path ≡ path
clears_still Is [] h path = refl
clears_still Is (Removed p ∷ steps) h path = clears_still Is steps h.1 path
clears_still Is (RemovedFolder p ∷ steps) h path = clears_still Is steps h.1 path
clears_still Is (step ∷ steps) h path = absurd h.0

-- nor is one written
pub clears_left : (Is : List ℕ → Type 0) (steps : List Step) → AllByRecursion (Clears Is) steps
    → files_left steps ≡ []
clears_left Is [] h = refl
clears_left Is (Removed p ∷ steps) h = clears_left Is steps h.1
clears_left Is (RemovedFolder p ∷ steps) h = clears_left Is steps h.1
clears_left Is (step ∷ steps) h = absurd h.0

-- a temporary name of one of the files
pub beside_one : {A : Type 0} (bs : List (Beside A)) (i : ℕ) (b : Beside A) (text path : List ℕ)
    → i < length bs → b ≡ get_or bs i b → text ≡ string_bytes b.path → IsBeside text path
    → IsBesideOne (standing_in bs) path
beside_one {A} bs i b text path less here is beside =
    let P : Standing → Type 0 = λ s. IsBeside s.path path in
    subst (Any P) (sym (standing_at bs i b less here))
    (any_at P (standing_in (take i bs)) (standing_of b) (standing_in (drop (i + 1) bs))
    (subst (λ (t : List ℕ). IsBeside t path) is beside))
