-- New folders: what was written in them, and where it ends up.
use Rattle.std.proofs.Common.{◌≡◌, refl, sym, ◌∙◌, ap, subst, ℕ, suc, ◌+◌, ◌-◌, ◌<◌, List, [], ◌∷◌}
use Rattle.std.proofs.Common.{◌++◌, append-nil, append_assoc, arith, drop, get_or, inl, inr, length}
use Rattle.std.proofs.Common.{length-append, take}
use Rattle.std.specs.Prelude.{◌≢◌, IfErr, IfSome, OnOk, Option, None, Some, Result, Ok, Err, codes}
use Rattle.std.specs.Prelude.{Bool, false, if◌then◌else◌, map}
use Rattle.std.specs.Fmt.{decimal}
use Rattle.std.specs.List.{AllByRecursion}
use Rattle.std.specs.Path.{slash}
use Rattle.std.specs.Str.Pattern.{CutsSuffixes, FindsCharSuffix, IsTrimEndMatches}
use Rattle.std.proofs.lemmas.Bool.{eq-eqb}
use Rattle.std.proofs.lemmas.List.{append_cancel_left, drop_all, length-map, length-take-le, map-append}
use Rattle.std.proofs.lemmas.List.{take-append-drop, take-map, take_all, take_more}
use Rattle.std.proofs.lemmas.Str.Pattern.{drop_at_char}
use Rattle.sst_tool.specs.declared.files.file_error.FileError.{FileError}
use Rattle.sst_tool.specs.declared.files.file_error.FileFault.{FileFault}
use Rattle.sst_tool.specs.declared.files.file_error.FileFault.TheVariants.{AfterOthers, CutShort, Folder}
use Rattle.sst_tool.specs.declared.files.file_error.FileFault.TheVariants.{Io, Left, NamesTaken, NotPlain}
use Rattle.sst_tool.specs.declared.files.file_error.FileFault.TheVariants.{NotSynced, Refused, Taken}
use Rattle.sst_tool.specs.files.Ended.{behind_front, files_left, moved_by, path_behind, path_moved}
use Rattle.sst_tool.specs.files.Files.{file_number, path_text}
use Rattle.sst_tool.specs.files.NewFolders.{Clears, IsBesideFolder, IsEmptied, IsFolderGivenUp}
use Rattle.sst_tool.specs.files.NewFolders.{IsFolderInPlace, IsFolderNotPlaced}
use Rattle.sst_tool.specs.files.NewFolders.{IsFolderPlaced, IsNamingFault, IsNotFilled, IsStemOf}
use Rattle.sst_tool.specs.files.NewFolders.{IsMakingFault, IsWritingFault, LiesWithin, MaySyncNames}
use Rattle.sst_tool.specs.files.NewFolders.{TellsNameTaken, TellsStemTaken, TellsTaken}
use Rattle.sst_tool.specs.files.NewFolders.{StopsWithin, TellsGivenUp, giving_up, naming_folder}
use Rattle.sst_tool.specs.files.NewFolders.{numbered_within, path_within}
use Rattle.sst_tool.specs.files.NewFolders.{removing_folder, writing_files}
use Rattle.sst_tool.specs.files.Numbered.{numbered_files}
use Rattle.sst_tool.specs.files.Placed.{IsNotSynced, TellsFound}
use Rattle.sst_tool.specs.files.Steps.{OnlyDoes, Step, then_done}
use Rattle.sst_tool.specs.files.Steps.Step.{MadeFolder, Removed, RemovedFolder, Synced}
use Rattle.sst_tool.specs.files.Steps.Step.{Wrote}
use Rattle.sst_tool.specs.files.There.{LiesElsewhere, SameButBehind, SameElsewhere}
use Rattle.sst_tool.proofs.FilesMore.{files_behind}
use Rattle.sst_tool.proofs.Left.{clears_left, clears_still}
use Rattle.sst_tool.proofs.Steps.{then_more}

-- ---- the name beside a folder's

-- one slash less
slash_cut : (m r : List ℕ) (n : ℕ) → FindsCharSuffix slash m (Some n) → r ≡ take (length m - n) m
    → m ≡ r ++ slash ∷ []
slash_cut m r n found is =
    let none : drop (length m) m ≡ [] = drop_all (length m) m (omega arith) in
    sym (take-append-drop (length m - n) m)
    ∙ ap (λ (l : List ℕ). l ++ drop (length m - n) m) (sym is)
    ∙ ap (λ (l : List ℕ). r ++ l)
    (drop_at_char slash m (length m - n) (length m) found.1 (omega arith)
    ∙ ap (λ (l : List ℕ). slash ∷ l) none)

-- all of them
slashes_cut : (s : List ℕ) (ns r : List ℕ) → CutsSuffixes (FindsCharSuffix slash) s ns r
    → (slashes : List ℕ) × (s ≡ r ++ slashes) × AllByRecursion (λ c. c ≡ slash) slashes
slashes_cut s [] r h = ([], sym h ∙ sym (append-nil r), tt)
slashes_cut s (n ∷ ns) r h =
    let more = slashes_cut s ns h.0 h.1 in (
      slash ∷ more.0,
      more.1 ∙ ap (λ (l : List ℕ). l ++ more.0) (slash_cut h.0 r n h.2 h.3)
          ∙ append_assoc r (slash ∷ []) more.0,
      (refl, more.2),
    )

-- and none is left
no_slash : (r : List ℕ) (o : Option ℕ) → FindsCharSuffix slash r o → IfSome o (λ n. n ≡ 0)
    → (front : List ℕ) → r ≢ front ++ codes "/"
unfolding lib.Utf8.encode
no_slash r None found none front = found front
no_slash r (Some n) found none front =
    let one : n ≡ 1 = found.0 in
    absurd (omega (arith, one, none))

pub stem_is : (s r : List ℕ) → IsTrimEndMatches (FindsCharSuffix slash) s r → IsStemOf r s
stem_is s r h =
    let cut = slashes_cut s h.0.0 r h.0.1 in
    (cut.0, cut.1, cut.2, no_slash r h.1.0 h.1.1 h.1.2)

-- ---- what was written so far

module _ {X : Type 0} (bytes_of : X → List ℕ) where
  -- one more file
  within_more : (folder : List ℕ) (tables : List X) (i : ℕ) (t : X)
      → i < length tables → t ≡ get_or tables i t
      → numbered_within folder (map bytes_of (take (i + 1) tables))
      ≡ numbered_within folder (map bytes_of (take i tables))
      ++ (path_within folder (1 + i), bytes_of t) ∷ []
  within_more folder tables i t less here =
      let all : List (List ℕ) = map bytes_of (take i tables) in
      let more : take (i + 1) tables ≡ take i tables ++ t ∷ [] =
      take_more tables i t less ∙ ap (λ (y : X). take i tables ++ y ∷ []) (sym here) in
      let long : length all ≡ i =
      length-map (take i tables) bytes_of ∙ length-take-le i tables (omega (arith, less)) in
      ap (λ (l : List X). numbered_within folder (map bytes_of l)) more
      ∙ ap (numbered_within folder) (map-append bytes_of (take i tables) (t ∷ []))
      ∙ files_behind (path_within folder) 1 all (bytes_of t)
      ∙ ap (λ (n : ℕ). numbered_within folder all ++ (path_within folder (1 + n), bytes_of t) ∷ []) long

  pub wrote_within : (folder : List ℕ) (tables : List X) (i : ℕ)
      (t : X) (number : ℕ) (bytes : List ℕ) (old new : List (List ℕ))
      (known now after : Option (List Step)) → i < length tables → t ≡ get_or tables i t
      → number ≡ 1 + i → bytes ≡ bytes_of t
      → LiesWithin (numbered_within folder (map bytes_of (take i tables))) old known now
      → new ≡ old ++ path_within folder number ∷ []
      → after ≡ then_done now (Wrote (path_within folder number) bytes None ∷ [])
      → LiesWithin (numbered_within folder (map bytes_of (take (i + 1) tables))) new known after
  wrote_within folder tables i t number bytes old new known now after less here counted held
      so_far added done =
      let files : List (List ℕ × List ℕ) =
      numbered_within folder (map bytes_of (take i tables)) in
      let one : List ℕ × List ℕ = (path_within folder (1 + i), bytes_of t) in
      let more : numbered_within folder (map bytes_of (take (i + 1) tables)) ≡ files ++ one ∷ [] =
      within_more folder tables i t less here in (
        added ∙ ap (λ (l : List (List ℕ)). l ++ path_within folder number ∷ []) so_far.0
            ∙ ap (λ (n : ℕ). map (λ f. f.0) files ++ path_within folder n ∷ []) counted
            ∙ sym (map-append (λ f. f.0) files (one ∷ []))
            ∙ ap (map (λ f. f.0)) (sym more),
        done ∙ ap (λ (n : ℕ). then_done now (Wrote (path_within folder n) bytes None ∷ [])) counted
            ∙ ap (λ (b : List ℕ). then_done now (Wrote (path_within folder (1 + i)) b None ∷ []))
            held
            ∙ ap (λ (k : Option (List Step)). then_done k (Wrote one.0 one.1 None ∷ [])) so_far.1
            ∙ then_more known (writing_files files) (Wrote one.0 one.1 None ∷ [])
            ∙ ap (then_done known)
            (sym (map-append (λ f. Wrote f.0 f.1 None) files (one ∷ []))
            ∙ ap writing_files (sym more)),
      )

  -- one that was not written
  pub stops_writing : (folder beside : List ℕ) (tables : List X) (i number : ℕ)
      (old new : List (List ℕ)) (known now after : Option (List Step)) (e : FileError)
      → i < length tables
      → LiesWithin (numbered_within beside (map bytes_of (take i tables))) old known now
      → new ≡ old → after ≡ now → number ≡ 1 + i → path_text e.name ≡ path_within folder number
      → IsWritingFault e.fault
      → StopsWithin folder beside (map bytes_of tables) new known e after
  stops_writing folder beside tables i number old new known now after e less so_far kept nothing
      counted named fault =
      let all : List (List ℕ) = map bytes_of tables in
      let some : map bytes_of (take i tables) ≡ take i all = sym (take-map bytes_of i tables) in
      let long : length all ≡ length tables = length-map tables bytes_of in
      record {
        written = i;
        synced = [];
        returned = inl (
          omega (arith, long, less),
          named ∙ ap (path_within folder) counted,
          fault,
          refl,
        );
        paths_are = kept ∙ so_far.0
            ∙ ap (λ (l : List (List ℕ)). map (λ f. f.0) (numbered_within beside l)) some;
        done = nothing ∙ so_far.1
            ∙ ap (λ (l : List (List ℕ)). then_done known (writing_files (numbered_within beside l)))
            some
            ∙ ap (then_done known)
            (sym (append-nil (writing_files (numbered_within beside (take i all)))));
      }

-- all were written, and the folder did not get its name
pub stops_naming : (folder beside : List ℕ) (all paths : List (List ℕ))
    (known now after : Option (List Step)) (e : FileError) (steps : List Step)
    → LiesWithin (numbered_within beside all) paths known now → path_text e.name ≡ folder
    → IsNamingFault e.fault → MaySyncNames beside steps → after ≡ then_done now steps
    → StopsWithin folder beside all paths known e after
stops_naming folder beside all paths known now after e steps wrote named fault may done =
    let whole : all ≡ take (length all) all = sym (take_all (length all) all (omega arith)) in
    record {
      written = length all;
      synced = steps;
      returned = inr (refl, named, fault, may);
      paths_are = wrote.0
          ∙ ap (λ (l : List (List ℕ)). map (λ f. f.0) (numbered_within beside l)) whole;
      done = done ∙ ap (λ (k : Option (List Step)). then_done k steps) wrote.1
          ∙ then_more known (writing_files (numbered_within beside all)) steps
          ∙ ap (λ (l : List (List ℕ)).
          then_done known (writing_files (numbered_within beside l) ++ steps)) whole;
    }

-- ---- what was removed again

-- the files of these paths
removed_paths : {X : Type 0} (path_of : X → List ℕ) (xs : List X)
    (files : List (List ℕ × List ℕ)) → map path_of xs ≡ map (λ f. f.0) files
    → map (λ (x : X). Removed (path_of x)) xs ≡ map (λ f. Removed f.0) files
removed_paths path_of [] [] same = refl
removed_paths path_of [] (f ∷ fs) same = absurd cc
removed_paths path_of (x ∷ xs) [] same = absurd cc
removed_paths {X} path_of (x ∷ xs) (f ∷ fs) same =
    let one : path_of x ≡ f.0 = cc in
    let rest : map path_of xs ≡ map (λ f. f.0) fs = cc in
    ap (λ (p : List ℕ). Removed p ∷ map (λ (y : X). Removed (path_of y)) xs) one
    ∙ ap (λ (l : List Step). Removed f.0 ∷ l) (removed_paths path_of xs fs rest)

pub emptied : {X : Type 0} (path_of : X → List ℕ) (folder beside : List ℕ)
    (all : List (List ℕ)) (known now after last : Option (List Step)) (e : FileError)
    (xs seen : List X) → StopsWithin folder beside all (map path_of xs) known e now
    → seen ≡ xs → after ≡ then_done now (map (λ (x : X). Removed (path_of x)) seen)
    → last ≡ then_done after (RemovedFolder beside ∷ [])
    → IsNotFilled folder beside all known e last
emptied {X} path_of folder beside all known now after last e xs seen stops same removed gone =
    let files : List (List ℕ × List ℕ) = numbered_within beside (take stops.written all) in
    let them : List Step = map (λ f. Removed f.0) files in
    let are : map (λ (x : X). Removed (path_of x)) seen ≡ them =
    ap (map (λ (x : X). Removed (path_of x))) same
    ∙ removed_paths path_of xs files stops.paths_are in
    inl record {
      written = stops.written;
      synced = stops.synced;
      returned = stops.returned;
      done = gone
          ∙ ap (λ (k : Option (List Step)). then_done k (RemovedFolder beside ∷ []))
          (removed ∙ ap (then_done now) are)
          ∙ then_more now them (RemovedFolder beside ∷ [])
          ∙ ap (λ (k : Option (List Step)). then_done k (removing_folder beside files)) stops.done
          ∙ then_more known (writing_files files ++ stops.synced) (removing_folder beside files)
          ∙ ap (then_done known)
          (append_assoc (writing_files files) stops.synced (removing_folder beside files));
    }

-- ---- where files end up

-- a front is found where it stands
front_found : (front rest : List ℕ) → behind_front front (front ++ rest) ≡ Some rest
front_found [] rest = refl
front_found (b ∷ front) rest =
    ap (λ (t : Bool). if t then behind_front front (front ++ rest) else None) (eq-eqb b b refl)
    ∙ front_found front rest

-- a file goes with its folder
moved_within : (from to : List ℕ) (number : ℕ)
    → path_moved from to (path_within from number) ≡ path_within to number
moved_within from to number =
    let rest : List ℕ = file_number number ++ codes ".sst" in
    let split : path_within from number ≡ (from ++ codes "/") ++ rest =
    sym (append_assoc from (codes "/") rest) in
    ap (moved_by to (path_within from number))
    (ap (behind_front (from ++ codes "/")) split ∙ front_found (from ++ codes "/") rest)

-- writing other files moves none
behind_writing : (files : List (List ℕ × List ℕ)) (steps : List Step) (path : List ℕ)
    → path_behind (writing_files files ++ steps) path ≡ path_behind steps path
behind_writing [] steps path = refl
behind_writing (f ∷ files) steps path = behind_writing files steps path

-- the files of a folder, behind steps that write none
left_within : (from to : List ℕ) (steps : List Step) (number : ℕ) (all : List (List ℕ))
    → ((n : ℕ) → path_behind steps (path_within from n) ≡ path_within to n)
    → files_left steps ≡ []
    → files_left (writing_files (numbered_files (path_within from) number all) ++ steps)
    ≡ numbered_files (path_within to) number all
left_within from to steps number [] moves none = none
left_within from to steps number (bytes ∷ all) moves none =
    let files : List (List ℕ × List ℕ) = numbered_files (path_within from) (suc number) all in
    ap (λ (p : List ℕ). (p, bytes) ∷ files_left (writing_files files ++ steps))
    (behind_writing files steps (path_within from number) ∙ moves number)
    ∙ ap (λ (l : List (List ℕ × List ℕ)). (path_within to number, bytes) ∷ l)
    (left_within from to steps (suc number) all moves none)

-- nor does removing files
behind_removing : (folder : List ℕ) (files : List (List ℕ × List ℕ)) (path : List ℕ)
    → path_behind (removing_folder folder files) path ≡ path
behind_removing folder [] path = refl
behind_removing folder (f ∷ files) path = behind_removing folder files path

left_removing : (folder : List ℕ) (files : List (List ℕ × List ℕ))
    → files_left (removing_folder folder files) ≡ []
left_removing folder [] = refl
left_removing folder (f ∷ files) = left_removing folder files

-- ---- a folder that is placed

pub is_placed : (folder beside : List ℕ) (all : List (List ℕ)) (behind : List Step)
    (known one new : Option (List Step)) → IsBesideFolder folder beside
    → one ≡ then_done known (MadeFolder beside ∷ [])
    → new ≡ then_done one
    ((writing_files (numbered_within beside all) ++ naming_folder beside folder) ++ behind)
    → ((path : List ℕ) → path_behind behind path ≡ path) → files_left behind ≡ []
    → IsFolderPlaced folder all behind known new
is_placed folder beside all behind known one new named made done still none =
    let files : List Step = writing_files (numbered_within beside all) in
    let steps : List Step = naming_folder beside folder in
    record {
      beside = beside;
      named = named;
      done = done
          ∙ ap (λ (k : Option (List Step)). then_done k ((files ++ steps) ++ behind)) made
          ∙ then_more known (MadeFolder beside ∷ []) ((files ++ steps) ++ behind);
      left = ap files_left (append_assoc files steps behind)
          ∙ left_within beside folder (steps ++ behind) 1 all
          (λ n. still (path_moved beside folder (path_within beside n))
          ∙ moved_within beside folder n) none;
    }

pub placed_folder : {R : Type 0} (returned : Result R FileError) (folder text beside : List ℕ)
    (all : List (List ℕ)) (known one new : Option (List Step)) → text ≡ beside
    → IsBesideFolder folder beside → one ≡ then_done known (MadeFolder beside ∷ [])
    → OnOk returned (OnlyDoes (Clears (IsBesideFolder folder)) (then_done one
    ((writing_files (numbered_within text all) ++ naming_folder text folder)
    ++ Synced folder ∷ [])) new)
    → OnOk returned (IsFolderInPlace folder all known new)
placed_folder (Err e) folder text beside all known one new same named made done = tt
placed_folder (Ok r) folder text beside all known one new same named made done =
    let Is : Step → Type 0 = Clears (IsBesideFolder folder) in
    let steps : List Step =
    writing_files (numbered_within beside all) ++ naming_folder beside folder in
    let does : OnlyDoes Is (then_done one (steps ++ Synced folder ∷ [])) new =
    subst (λ (t : List ℕ). OnlyDoes Is (then_done one
    ((writing_files (numbered_within t all) ++ naming_folder t folder) ++ Synced folder ∷ [])) new)
    same done in
    record {
      behind = does.steps;
      cleared = does.are;
      placed = is_placed folder beside all (Synced folder ∷ does.steps) known one new named made
          (does.done ∙ then_more one (steps ++ Synced folder ∷ []) does.steps
          ∙ ap (then_done one) (append_assoc steps (Synced folder ∷ []) does.steps))
          (clears_still (IsBesideFolder folder) does.steps does.are)
          (clears_left (IsBesideFolder folder) does.steps does.are);
    }

-- ---- a folder that is given up

-- a dot stands where a slash would
dot_no_slash : (slashes x : List ℕ) → AllByRecursion (λ c. c ≡ slash) slashes
    → (codes "." ++ x) ≢ slashes
dot_no_slash [] x are same = cc
dot_no_slash (s ∷ slashes) x are same =
    let one : 46 ≡ s = ap (λ (l : List ℕ). get_or l 0 0) same in
    absurd (omega (arith, one, are.0))

dot_no_slashes : (slashes x rest : List ℕ) → AllByRecursion (λ c. c ≡ slash) slashes
    → (codes "." ++ x) ≢ slashes ++ (codes "/" ++ rest)
dot_no_slashes [] x rest are same =
    let one : 46 ≡ slash = ap (λ (l : List ℕ). get_or l 0 0) same in
    absurd (omega (arith, one))
dot_no_slashes (s ∷ slashes) x rest are same =
    let one : 46 ≡ s = ap (λ (l : List ℕ). get_or l 0 0) same in
    absurd (omega (arith, one, are.0))

-- what lies in a folder beside a name does not lie under the name
elsewhere_one : (folder beside : List ℕ) (number : ℕ) → IsBesideFolder folder beside
    → LiesElsewhere folder (path_within beside number)
elsewhere_one folder beside number named =
    let stem : List ℕ = named.0 in
    let slashes : List ℕ = named.1.0 in
    let kept : folder ≡ stem ++ slashes = named.1.1 in
    let are : AllByRecursion (λ c. c ≡ slash) slashes = named.1.2 in
    let mark : List ℕ = decimal named.2.0 ++ codes ".tmp" in
    let end : List ℕ = codes "/" ++ (file_number number ++ codes ".sst") in
    let split : path_within beside number ≡ stem ++ (codes "." ++ (mark ++ end)) =
    ap (λ (l : List ℕ). l ++ end) named.2.1
    ∙ append_assoc stem (codes "." ++ mark) end
    ∙ ap (λ (l : List ℕ). stem ++ l) (append_assoc (codes ".") mark end) in (
      λ same. dot_no_slash slashes (mark ++ end) are
          (append_cancel_left stem (codes "." ++ (mark ++ end)) slashes
          (sym split ∙ same ∙ kept)),
      λ rest same. dot_no_slashes slashes (mark ++ end) rest are
          (append_cancel_left stem (codes "." ++ (mark ++ end)) (slashes ++ (codes "/" ++ rest))
          (sym split ∙ same ∙ ap (λ (l : List ℕ). l ++ (codes "/" ++ rest)) kept
          ∙ append_assoc stem slashes (codes "/" ++ rest))),
    )

elsewhere_all : (folder beside : List ℕ) (number : ℕ) (all : List (List ℕ))
    → IsBesideFolder folder beside
    → AllByRecursion (λ (f : List ℕ × List ℕ). LiesElsewhere folder f.0)
    (numbered_files (path_within beside) number all)
elsewhere_all folder beside number [] named = tt
elsewhere_all folder beside number (bytes ∷ all) named =
    (elsewhere_one folder beside number named, elsewhere_all folder beside (suc number) all named)

-- whether or not it was synced
synced_still : (beside : List ℕ) (synced steps : List Step) (path : List ℕ)
    → MaySyncNames beside synced → path_behind (synced ++ steps) path ≡ path_behind steps path
synced_still beside synced steps path (inl none) =
    ap (λ (l : List Step). path_behind (l ++ steps) path) none
synced_still beside synced steps path (inr one) =
    ap (λ (l : List Step). path_behind (l ++ steps) path) one

synced_none : (beside : List ℕ) (synced steps : List Step) → MaySyncNames beside synced
    → files_left (synced ++ steps) ≡ files_left steps
synced_none beside synced steps (inl none) = ap (λ (l : List Step). files_left (l ++ steps)) none
synced_none beside synced steps (inr one) = ap (λ (l : List Step). files_left (l ++ steps)) one

may_sync : (folder beside : List ℕ) (all : List (List ℕ)) (written : ℕ) (synced : List Step)
    (e : FileError) → TellsGivenUp folder beside all written synced e
    → MaySyncNames beside synced
may_sync folder beside all written synced e (inl file) = inl file.3
may_sync folder beside all written synced e (inr name) = name.3

-- so it is where all is removed again
left_given_up : (beside : List ℕ) (some : List (List ℕ)) (synced : List Step)
    → MaySyncNames beside synced
    → files_left (giving_up beside some synced) ≡ numbered_within beside some
left_given_up beside some synced may =
    let files : List (List ℕ × List ℕ) = numbered_within beside some in
    left_within beside beside (synced ++ removing_folder beside files) 1 some
    (λ n. synced_still beside synced (removing_folder beside files) (path_within beside n) may
    ∙ behind_removing beside files (path_within beside n))
    (synced_none beside synced (removing_folder beside files) may ∙ left_removing beside files)

pub given_up : (folder beside : List ℕ) (all : List (List ℕ)) (known one new : Option (List Step))
    (e : FileError) → IsBesideFolder folder beside
    → one ≡ then_done known (MadeFolder beside ∷ []) → IsEmptied folder beside all one e new
    → IsFolderGivenUp folder all known e new
given_up folder beside all known one new e named made gone =
    let some : List (List ℕ) = take gone.written all in
    let files : List (List ℕ × List ℕ) = numbered_within beside some in
    let steps : List Step =
    writing_files files ++ (gone.synced ++ removing_folder beside files) in
    record {
      beside = beside;
      named = named;
      written = gone.written;
      synced = gone.synced;
      returned = gone.returned;
      done = gone.done
          ∙ ap (λ (k : Option (List Step)). then_done k steps) made
          ∙ then_more known (MadeFolder beside ∷ []) steps;
      elsewhere = subst
          (AllByRecursion (λ (f : List ℕ × List ℕ). LiesElsewhere folder f.0))
          (sym (left_given_up beside some gone.synced
          (may_sync folder beside all gone.written gone.synced e gone.returned)))
          (elsewhere_all folder beside 1 some named);
    }

-- ---- the whole

-- a folder that was made is not placed
pub not_filled : (folder beside : List ℕ) (all : List (List ℕ))
    (known one new : Option (List Step)) (e : FileError) → IsBesideFolder folder beside
    → one ≡ then_done known (MadeFolder beside ∷ []) → IsNotFilled folder beside all one e new
    → IsFolderNotPlaced folder all known e new
not_filled folder beside all known one new e named made (inl gone) =
    inr (inl (given_up folder beside all known one new e named made gone))
not_filled folder beside all known one new e named made (inr returned) =
    let steps : List Step =
    writing_files (numbered_within beside all) ++ naming_folder beside folder in
    inr (inr (
      returned.0,
      returned.1,
      is_placed folder beside all [] known one new named made
          (returned.2 ∙ ap (then_done one) (sym (append-nil steps))) (λ path. refl) refl,
    ))

pub refused_folder : {R : Type 0} (returned : Result R FileError) (folder text beside : List ℕ)
    (all : List (List ℕ)) (known one new : Option (List Step)) → text ≡ beside
    → IsBesideFolder folder beside → one ≡ then_done known (MadeFolder beside ∷ [])
    → IfErr returned (λ e. IsNotFilled folder text all one e new)
    → IfErr returned (λ e. IsFolderNotPlaced folder all known e new)
refused_folder (Ok r) folder text beside all known one new same named made h = tt
refused_folder (Err e) folder text beside all known one new same named made h =
    not_filled folder beside all known one new e named made
    (subst (λ (t : List ℕ). IsNotFilled folder t all one e new) same h)

-- ---- the folder's name, while it is filled

-- a folder's name does not begin with one beside it
apart_beside : (folder beside : List ℕ) → IsBesideFolder folder beside → (rest : List ℕ)
    → folder ≢ beside ++ rest
apart_beside folder beside named rest same =
    let stem : List ℕ = named.0 in
    let slashes : List ℕ = named.1.0 in
    let kept : folder ≡ stem ++ slashes = named.1.1 in
    let are : AllByRecursion (λ c. c ≡ slash) slashes = named.1.2 in
    let mark : List ℕ = decimal named.2.0 ++ codes ".tmp" in
    let split : beside ++ rest ≡ stem ++ (codes "." ++ (mark ++ rest)) =
    ap (λ (l : List ℕ). l ++ rest) named.2.1
    ∙ append_assoc stem (codes "." ++ mark) rest
    ∙ ap (λ (l : List ℕ). stem ++ l) (append_assoc (codes ".") mark rest) in
    dot_no_slash slashes (mark ++ rest) are
    (append_cancel_left stem (codes "." ++ (mark ++ rest)) slashes (sym split ∙ sym same ∙ kept))

-- so it is as free as before where the folder beside it is made, and where files are made in that
pub name_made : (folder beside : List ℕ) (old new : List ℕ → Option Bool)
    → IsBesideFolder folder beside → SameElsewhere beside old new → new folder ≡ old folder
name_made folder beside old new named same =
    same folder (
      λ e. apart_beside folder beside named [] (e ∙ sym (append-nil beside)),
      λ rest. apart_beside folder beside named (codes "/" ++ rest),
    )

pub name_filled : (folder beside : List ℕ) (old new : List ℕ → Option Bool)
    → IsBesideFolder folder beside → SameButBehind beside old new → new folder ≡ old folder
name_filled folder beside old new named same = same folder (apart_beside folder beside named)

-- a file in a folder begins with the folder's name
pub same_behind : (folder path : List ℕ) (number : ℕ) (old new : List ℕ → Option Bool)
    → path ≡ path_within folder number → SameElsewhere path old new → SameButBehind folder old new
same_behind folder path number old new is same other apart =
    let end : List ℕ = codes "/" ++ (file_number number ++ codes ".sst") in (same other (
      λ e. apart end (e ∙ is),
      λ rest e. apart (end ++ (codes "/" ++ rest))
          (e ∙ ap (λ (l : List ℕ). l ++ (codes "/" ++ rest)) is
          ∙ append_assoc folder end (codes "/" ++ rest)),
    ))

pub behind_more : (text : List ℕ) (old mid new : List ℕ → Option Bool)
    → SameButBehind text old mid → SameButBehind text mid new → SameButBehind text old new
behind_more text old mid new one two other apart = two other apart ∙ one other apart

-- what was free then was free before
pub free_before : {R E : Type 0} (returned : Result R E) (old new : Option Bool) → new ≡ old
    → OnOk returned (IfSome new (λ b. b ≡ false)) → OnOk returned (IfSome old (λ b. b ≡ false))
free_before {R} {E} returned old new same h =
    subst (λ (k : Option Bool). OnOk returned (IfSome k (λ b. b ≡ false))) same h

-- ---- what is told as taken

pub taken_before : {R : Type 0} (returned : Result R FileError) (folder : List ℕ)
    (old new : List ℕ → Option Bool) → new folder ≡ old folder
    → IfErr returned (TellsNameTaken new folder) → IfErr returned (TellsNameTaken old folder)
taken_before (Ok r) folder old new same h = tt
taken_before (Err e) folder old new same h =
    λ named. subst (TellsTaken e.fault) same (h named)

-- what was found has the name
found_taken : (fault : FileFault) (there : Option Bool) → TellsFound Taken there fault
    → TellsTaken fault there
found_taken fault there (inl h) =
    subst (λ (f : FileFault). TellsTaken f there) (sym h.0) h.1
found_taken Folder there (inr h) = tt
found_taken Taken there (inr h) = absurd h.0
found_taken NotPlain there (inr h) = tt
found_taken Left there (inr h) = tt
found_taken (CutShort read size) there (inr h) = tt
found_taken NamesTaken there (inr h) = tt
found_taken (AfterOthers renamed error) there (inr h) = tt
found_taken (NotSynced error) there (inr h) = tt
found_taken (Io error) there (inr h) = tt
found_taken (Refused error) there (inr h) = tt

pub name_found : {R : Type 0} (returned : Result R FileFault) (old new : Option Bool) → new ≡ old
    → IfErr returned (TellsFound Taken new) → IfErr returned (λ fault. TellsTaken fault old)
name_found (Ok r) old new same h = tt
name_found (Err fault) old new same h =
    subst (TellsTaken fault) same (found_taken fault new h)

-- a file in the folder has another name
pub within_taken : (folder : List ℕ) (number : ℕ) (fault : FileFault) (there : Option Bool)
    → path_within folder number ≡ folder → TellsTaken fault there
within_taken folder number fault there same =
    let rest : List ℕ = file_number number ++ codes ".sst" in
    let end : List ℕ = codes "/" ++ rest in
    let one : length (codes "/") ≡ 1 = refl in
    let long : length folder ≡ length (folder ++ end) = ap length (sym same) in
    absurd (omega (arith, one, long, length-append folder end, length-append (codes "/") rest))

-- none is told where no folder is made, nor where it may not last
pub making_taken : (fault : FileFault) (there : Option Bool) → IsMakingFault fault
    → TellsTaken fault there
making_taken Folder there h = tt
making_taken Taken there h = absurd h
making_taken NotPlain there h = tt
making_taken Left there h = tt
making_taken (CutShort read size) there h = tt
making_taken NamesTaken there h = tt
making_taken (AfterOthers renamed error) there h = tt
making_taken (NotSynced error) there h = tt
making_taken (Io error) there h = tt
making_taken (Refused error) there h = tt

pub synced_taken : (fault : FileFault) (there : Option Bool) → IsNotSynced fault
    → TellsTaken fault there
synced_taken Folder there h = tt
synced_taken Taken there h = absurd h
synced_taken NotPlain there h = tt
synced_taken Left there h = tt
synced_taken (CutShort read size) there h = tt
synced_taken NamesTaken there h = tt
synced_taken (AfterOthers renamed error) there h = tt
synced_taken (NotSynced error) there h = tt
synced_taken (Io error) there h = tt
synced_taken (Refused error) there h = tt

-- nor are the names beside it, once it is made
writing_stem : (there : List ℕ → Option Bool) (folder : List ℕ) (fault : FileFault)
    → IsWritingFault fault → TellsStemTaken there folder fault
writing_stem there folder Folder h = tt
writing_stem there folder Taken h = tt
writing_stem there folder NotPlain h = tt
writing_stem there folder Left h = tt
writing_stem there folder (CutShort read size) h = tt
writing_stem there folder NamesTaken h = absurd h
writing_stem there folder (AfterOthers renamed error) h = tt
writing_stem there folder (NotSynced error) h = tt
writing_stem there folder (Io error) h = tt
writing_stem there folder (Refused error) h = tt

naming_stem : (there : List ℕ → Option Bool) (folder : List ℕ) (fault : FileFault)
    → IsNamingFault fault → TellsStemTaken there folder fault
naming_stem there folder Folder h = tt
naming_stem there folder Taken h = tt
naming_stem there folder NotPlain h = tt
naming_stem there folder Left h = tt
naming_stem there folder (CutShort read size) h = tt
naming_stem there folder NamesTaken h = absurd h
naming_stem there folder (AfterOthers renamed error) h = tt
naming_stem there folder (NotSynced error) h = tt
naming_stem there folder (Io error) h = tt
naming_stem there folder (Refused error) h = tt

synced_stem : (there : List ℕ → Option Bool) (folder : List ℕ) (fault : FileFault)
    → IsNotSynced fault → TellsStemTaken there folder fault
synced_stem there folder Folder h = tt
synced_stem there folder Taken h = tt
synced_stem there folder NotPlain h = tt
synced_stem there folder Left h = tt
synced_stem there folder (CutShort read size) h = tt
synced_stem there folder NamesTaken h = absurd h
synced_stem there folder (AfterOthers renamed error) h = tt
synced_stem there folder (NotSynced error) h = tt
synced_stem there folder (Io error) h = tt
synced_stem there folder (Refused error) h = tt

given_stem : (there : List ℕ → Option Bool) (folder beside : List ℕ) (all : List (List ℕ))
    (written : ℕ) (synced : List Step) (e : FileError)
    → TellsGivenUp folder beside all written synced e → TellsStemTaken there folder e.fault
given_stem there folder beside all written synced e (inl file) =
    writing_stem there folder e.fault file.2
given_stem there folder beside all written synced e (inr name) =
    naming_stem there folder e.fault name.2

filled_stem : (there : List ℕ → Option Bool) (folder beside : List ℕ) (all : List (List ℕ))
    (known new : Option (List Step)) (e : FileError) → IsNotFilled folder beside all known e new
    → TellsStemTaken there folder e.fault
filled_stem there folder beside all known new e (inl gone) =
    given_stem there folder beside all gone.written gone.synced e gone.returned
filled_stem there folder beside all known new e (inr returned) =
    synced_stem there folder e.fault returned.1

pub stem_told : {R : Type 0} (returned : Result R FileError) (there : List ℕ → Option Bool)
    (folder beside : List ℕ) (all : List (List ℕ)) (known new : Option (List Step))
    → IfErr returned (λ e. IsNotFilled folder beside all known e new)
    → IfErr returned (λ e. TellsStemTaken there folder e.fault)
stem_told (Ok r) there folder beside all known new h = tt
stem_told (Err e) there folder beside all known new h =
    filled_stem there folder beside all known new e h
