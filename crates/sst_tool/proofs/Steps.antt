-- Steps, one behind another.
use Rattle.std.proofs.Common.{◌≡◌, refl, sym, ◌∙◌, ap, subst, ℕ, ◌+◌, ◌<◌, List, [], ◌∷◌, ◌++◌}
use Rattle.std.proofs.Common.{append-nil, append_assoc, arith, drop, get_or, inl, inr, length}
use Rattle.std.proofs.Common.{length-append, take}
use Rattle.std.specs.Prelude.{Any, IfErr, IfSome, OnOk, Option, Some, None, Result, Ok, Err, map}
use Rattle.std.specs.List.{AllByRecursion}
use Rattle.std.proofs.lemmas.List.{drop_more, get_or_at, get_or_default, length-map, length-take-le, map-append}
use Rattle.std.proofs.lemmas.List.{take-append-drop, take_more}
use Rattle.sst_tool.specs.declared.files.file_error.FileError.{FileError}
use Rattle.sst_tool.specs.declared.files.file_error.FileFault.{FileFault}
use Rattle.sst_tool.specs.declared.files.file_error.FileFault.TheVariants.{AfterOthers, CutShort, Folder}
use Rattle.sst_tool.specs.declared.files.file_error.FileFault.TheVariants.{Io, Left, NamesTaken, NotPlain}
use Rattle.sst_tool.specs.declared.files.file_error.FileFault.TheVariants.{NotSynced, Refused, Taken}
use Rattle.sst_tool.specs.declared.files.write.Beside.{Beside}
use Rattle.sst_tool.specs.declared.files.write.NewFile.{NewFile}
use Rattle.sst_tool.specs.files.Placed.{AreBeside, AreNotPlaced, AreNotPut, AreInPlace, IsEarly}
use Rattle.sst_tool.specs.files.Placed.{IsBesideOne, IsNotSynced, Standing, StandsBeside, StopSyncing}
use Rattle.sst_tool.specs.files.Placed.{SameButBeside, StopsRenamingAt, StopsBefore, TellsAllTaken}
use Rattle.sst_tool.specs.files.Placed.{TellsRenamed}
use Rattle.sst_tool.specs.files.Files.{path_text}
use Rattle.sst_tool.specs.files.Placed.{IfLeft, TellsLeft, removing, renaming, syncing, writing}
use Rattle.sst_tool.specs.files.Modes.{KeepsMode}
use Rattle.sst_tool.specs.files.Placed.{StandsNowhere}
use Rattle.sst_tool.specs.files.Standing.{HaveModesKept, IsAdded, standing_in, standing_of}
use Rattle.std.proofs.Common.{Bool, true, false}
use Rattle.sst_tool.specs.files.Steps.{OnlyDoes, Removes, Step, then_done, written_if}
use Rattle.sst_tool.specs.files.Steps.Step.{Wrote}
use Rattle.sst_tool.specs.files.There.{LiesElsewhere}

-- no step
pub then_none : (known : Option (List Step)) → then_done known [] ≡ known
then_none None = refl
then_none (Some done) = ap Some (append-nil done)

-- steps behind steps
pub then_more : (known : Option (List Step)) (one more : List Step)
    → then_done (then_done known one) more ≡ then_done known (one ++ more)
then_more None one more = refl
then_more (Some done) one more = ap Some (append_assoc done one more)

-- one more element of a list, whose step is done last
pub one_more : {A : Type 0} (step : Standing → Step) (known now after : Option (List Step))
    (bs : List (Beside A)) (i : ℕ) (b : Beside A)
    → i < length bs → b ≡ get_or bs i b
    → now ≡ then_done known (map step (standing_in (take i bs)))
    → after ≡ then_done now (step (standing_of b) ∷ [])
    → after ≡ then_done known (map step (standing_in (take (i + 1) bs)))
one_more {A} step known now after bs i b less here so_far last =
    let more : take (i + 1) bs ≡ take i bs ++ b ∷ [] =
    take_more bs i b less ∙ ap (λ (x : Beside A). take i bs ++ x ∷ []) (sym here) in
    let stands : standing_in (take (i + 1) bs)
    ≡ standing_in (take i bs) ++ standing_of b ∷ [] =
    ap standing_in more ∙ map-append standing_of (take i bs) (b ∷ []) in
    let steps : map step (standing_in (take (i + 1) bs))
    ≡ map step (standing_in (take i bs)) ++ step (standing_of b) ∷ [] =
    ap (map step) stands ∙ map-append step (standing_in (take i bs)) (standing_of b ∷ []) in
    last ∙ ap (λ (k : Option (List Step)). then_done k (step (standing_of b) ∷ [])) so_far
    ∙ then_more known (map step (standing_in (take i bs))) (step (standing_of b) ∷ [])
    ∙ ap (then_done known) (sym steps)

-- all of a list and one more
all_behind : (xs : List Standing) (x : Standing) → AllByRecursion StandsBeside xs
    → StandsBeside x → AllByRecursion StandsBeside (xs ++ x ∷ [])
all_behind [] x all one = (one, tt)
all_behind (y ∷ ys) x all one = (all.0, all_behind ys x all.1 one)

-- one more file was written beside its name
pub beside_more : {A : Type 0} (wanted : List NewFile) (i : ℕ) (file : NewFile)
    (old new : List (Beside A)) (there by_then : List ℕ → Option Bool)
    (modes last : List ℕ → Option (Option ℕ)) (known after : Option (List Step))
    → i < length wanted → file ≡ get_or wanted i file
    → AreBeside (take i wanted) (standing_in old)
    → IsAdded file (standing_in old) (standing_in new) there by_then modes last known after
    → AreBeside (take (i + 1) wanted) (standing_in new)
beside_more {A} wanted i file old new there by_then modes last known after less here so_far one =
    let more : take (i + 1) wanted ≡ take i wanted ++ file ∷ [] =
    take_more wanted i file less ∙ ap (λ (x : NewFile). take i wanted ++ x ∷ []) (sym here) in
    let files : map (λ (s : Standing). s.file) (standing_in new)
    ≡ take i wanted ++ file ∷ [] =
    ap (map (λ (s : Standing). s.file)) one.added
    ∙ map-append (λ (s : Standing). s.file) (standing_in old) (one.one ∷ [])
    ∙ ap (λ (l : List NewFile). l ++ one.one.file ∷ []) so_far.files_are
    ∙ ap (λ (f : NewFile). take i wanted ++ f ∷ []) one.written.file_is in
    record {
      files_are = files ∙ sym more;
      beside = subst (AllByRecursion StandsBeside) (sym one.added)
          (all_behind (standing_in old) one.one so_far.beside one.written.stands);
    }

-- and so it was done
pub written_more : {A : Type 0} (file : NewFile) (old new : List (Beside A))
    (there by_then : List ℕ → Option Bool) (modes last : List ℕ → Option (Option ℕ))
    (known now after : Option (List Step)) → now ≡ then_done known (writing (standing_in old))
    → IsAdded file (standing_in old) (standing_in new) there by_then modes last now after
    → after ≡ then_done known (writing (standing_in new))
written_more {A} file old new there by_then modes last known now after so_far one =
    let bytes : Wrote one.one.beside file.bytes.now one.one.mode
    ≡ Wrote one.one.beside one.one.file.bytes.now one.one.mode =
    ap (λ (f : NewFile). Wrote one.one.beside f.bytes.now one.one.mode)
    (sym one.written.file_is) in
    let steps : writing (standing_in new)
    ≡ writing (standing_in old)
    ++ Wrote one.one.beside one.one.file.bytes.now one.one.mode ∷ [] =
    ap writing one.added
    ∙ map-append (λ (s : Standing). Wrote s.beside s.file.bytes.now s.mode) (standing_in old)
    (one.one ∷ []) in
    one.written.done
    ∙ ap (λ (s : Step). then_done now (s ∷ [])) bytes
    ∙ ap (λ (k : Option (List Step)).
    then_done k (Wrote one.one.beside one.one.file.bytes.now one.one.mode ∷ [])) so_far
    ∙ then_more known (writing (standing_in old))
    (Wrote one.one.beside one.one.file.bytes.now one.one.mode ∷ [])
    ∙ ap (then_done known) (sym steps)

-- the first of a list and one behind them
all_before : (P : Standing → Type 0) (xs : List Standing) (x : Standing)
    → AllByRecursion P (xs ++ x ∷ []) → AllByRecursion P xs
all_before P [] x all = tt
all_before P (y ∷ ys) x all = (all.0, all_before P ys x all.1)

last_of : (P : Standing → Type 0) (xs : List Standing) (x : Standing)
    → AllByRecursion P (xs ++ x ∷ []) → P x
last_of P [] x all = all.0
last_of P (y ∷ ys) x all = last_of P ys x all.1

-- what has other names stays
pub same_more : {A : Type 0} (file : NewFile) (old new : List (Beside A))
    (there now by_then : List ℕ → Option Bool) (modes last : List ℕ → Option (Option ℕ))
    (known after : Option (List Step)) → SameButBeside (standing_in old) there now
    → IsAdded file (standing_in old) (standing_in new) now by_then modes last known after
    → SameButBeside (standing_in new) there by_then
same_more {A} file old new there now by_then modes last known after so_far one other apart =
    let P : Standing → Type 0 = λ s. LiesElsewhere s.beside other in
    let all : AllByRecursion P (standing_in old ++ one.one ∷ []) =
    subst (AllByRecursion P) one.added apart in
    one.written.same other (last_of P (standing_in old) one.one all)
    ∙ so_far other (all_before P (standing_in old) one.one all)

-- nor does the mode of what has other names change
pub left_more : {A : Type 0} (file : NewFile) (old new : List (Beside A))
    (there by_then : List ℕ → Option Bool) (modes now last : List ℕ → Option (Option ℕ))
    (known after : Option (List Step)) → SameButBeside (standing_in old) modes now
    → IsAdded file (standing_in old) (standing_in new) there by_then now last known after
    → SameButBeside (standing_in new) modes last
left_more {A} file old new there by_then modes now last known after so_far one other apart =
    let P : Standing → Type 0 = λ s. LiesElsewhere s.beside other in
    let all : AllByRecursion P (standing_in old ++ one.one ∷ []) =
    subst (AllByRecursion P) one.added apart in
    one.written.left other (last_of P (standing_in old) one.one all)
    ∙ so_far other (all_before P (standing_in old) one.one all)

-- what holds of each file among some holds among more
kept_among : (modes : List ℕ → Option (Option ℕ)) (all : List Standing) (one : Standing)
    (some : List Standing) → HaveModesKept modes all some → HaveModesKept modes (all ++ one ∷ []) some
kept_among modes all one [] h = tt
kept_among modes all one (s ∷ some) h = (
  λ apart. h.0 (all_before (λ t. LiesElsewhere t.beside s.path) all one apart),
  kept_among modes all one some h.1,
)

-- and of one more
kept_behind : (modes : List ℕ → Option (Option ℕ)) (all : List Standing) (one : Standing)
    (some : List Standing) → HaveModesKept modes all some
    → (StandsNowhere all one.path → KeepsMode (modes one.path) one.mode)
    → HaveModesKept modes all (some ++ one ∷ [])
kept_behind modes all one [] h last = (last, tt)
kept_behind modes all one (s ∷ some) h last = (h.0, kept_behind modes all one some h.1 last)

-- one more file has the mode of what had its name before
pub kept_more : {A : Type 0} (file : NewFile) (old new : List (Beside A))
    (there by_then : List ℕ → Option Bool) (modes now last : List ℕ → Option (Option ℕ))
    (known after : Option (List Step)) → HaveModesKept modes (standing_in old) (standing_in old)
    → SameButBeside (standing_in old) modes now
    → IsAdded file (standing_in old) (standing_in new) there by_then now last known after
    → HaveModesKept modes (standing_in new) (standing_in new)
kept_more {A} file old new there by_then modes now last known after so_far same one =
    let all : List Standing = standing_in old in
    let mine : StandsNowhere (all ++ one.one ∷ []) one.one.path
    → KeepsMode (modes one.one.path) one.one.mode = λ apart.
    subst (λ (k : Option (Option ℕ)). KeepsMode k one.one.mode)
    (same one.one.path (all_before (λ (t : Standing). LiesElsewhere t.beside one.one.path) all
    one.one apart)) one.written.kept in
    subst (λ (l : List Standing). HaveModesKept modes l l) (sym one.added)
    (kept_behind modes (all ++ one.one ∷ []) one.one all
    (kept_among modes all one.one all so_far) mine)

-- a file was written under a name that was free
pub wrote_new : (known now after : Option (List Step)) (free : Bool) (path text bytes : List ℕ)
    (mode : Option ℕ) → now ≡ known → free ≡ true → path ≡ text
    → after ≡ then_done now (written_if free path bytes mode)
    → after ≡ then_done known (Wrote text bytes mode ∷ [])
wrote_new known now after free path text bytes mode same was is done =
    done ∙ ap (λ (b : Bool). then_done now (written_if b path bytes mode)) was
    ∙ ap (λ (p : List ℕ). then_done now (Wrote p bytes mode ∷ [])) is
    ∙ ap (λ (k : Option (List Step)). then_done k (Wrote text bytes mode ∷ [])) same

-- none was, under one that was not
pub passed_over : (known now after : Option (List Step)) (free : Bool) (path bytes : List ℕ)
    (mode : Option ℕ) → now ≡ known → free ≡ false
    → after ≡ then_done now (written_if free path bytes mode) → after ≡ known
passed_over known now after free path bytes mode same was done =
    done ∙ ap (λ (b : Bool). then_done now (written_if b path bytes mode)) was
    ∙ then_none now ∙ same

-- ---- one file among others

-- a list around one of its places
pub list_at : {X : Type 0} (xs : List X) (i : ℕ) (x : X) → i < length xs → x ≡ get_or xs i x
    → xs ≡ take i xs ++ x ∷ drop (i + 1) xs
list_at {X} xs i x less here =
    sym (take-append-drop i xs)
    ∙ ap (λ (l : List X). take i xs ++ l)
    (drop_more xs i x less ∙ ap (λ (y : X). y ∷ drop (i + 1) xs) (sym here))

-- files that stand beside their names, around one of them
pub standing_at : {A : Type 0} (bs : List (Beside A)) (i : ℕ) (b : Beside A) → i < length bs
    → b ≡ get_or bs i b
    → standing_in bs
    ≡ standing_in (take i bs) ++ standing_of b ∷ standing_in (drop (i + 1) bs)
standing_at {A} bs i b less here =
    ap standing_in (list_at bs i b less here)
    ∙ map-append standing_of (take i bs) (b ∷ drop (i + 1) bs)

-- files that were to be written, up to one that was not
pub stops_before : {A : Type 0} (there by_then : List ℕ → Option Bool) (wanted : List NewFile)
    (i : ℕ) (file : NewFile) (bs : List (Beside A)) (e : FileError) → i < length wanted
    → file ≡ get_or wanted i file → AreBeside (take i wanted) (standing_in bs)
    → e.name ≡ file.name → IsEarly e.fault → SameButBeside (standing_in bs) there by_then
    → TellsAllTaken by_then (path_text file.name) e.fault
    → StopsBefore there wanted (standing_in bs) e
stops_before {A} there by_then wanted i file bs e less here are named early same taken = record {
  before = take i wanted;
  file = file;
  behind = drop (i + 1) wanted;
  split = list_at wanted i file less here;
  are = are;
  named = named;
  early = early;
  by_then = by_then;
  same = same;
  taken = taken;
}

-- one that was not renamed
pub stops_at : {A : Type 0} (bs : List (Beside A)) (i : ℕ) (b : Beside A) (e : FileError)
    → i < length bs → b ≡ get_or bs i b → e.name ≡ b.file.name → TellsRenamed e.fault i
    → StopsRenamingAt (standing_in bs) i e
stops_at {A} bs i b e less here named counted = record {
  before = standing_in (take i bs);
  one = standing_of b;
  behind = standing_in (drop (i + 1) bs);
  split = standing_at bs i b less here;
  long = length-map (take i bs) standing_of ∙ length-take-le i bs (omega (arith, less));
  named = named;
  counted = counted;
}

-- one whose folder was not synced
pub stops_syncing : {A : Type 0} (known now : Option (List Step)) (bs : List (Beside A)) (i : ℕ)
    (b : Beside A) (e : FileError) → i < length bs → b ≡ get_or bs i b → e.name ≡ b.file.name
    → IsNotSynced e.fault → now ≡ then_done known (syncing (standing_in (take i bs)))
    → StopSyncing known (standing_in bs) e now
stops_syncing {A} known now bs i b e less here named returned so_far = record {
  before = standing_in (take i bs);
  one = standing_of b;
  behind = standing_in (drop (i + 1) bs);
  split = standing_at bs i b less here;
  named = named;
  returned = returned;
  done = so_far;
}

-- ---- the whole

-- all were written, renamed and synced, and then names beside them removed
pub placed : (known one new : Option (List Step)) (wanted : List NewFile) (all : List Standing)
    → AreBeside wanted all → one ≡ then_done known (writing all)
    → OnlyDoes (Removes (IsBesideOne all)) (then_done (then_done one (renaming all)) (syncing all)) new
    → AreInPlace known wanted new
placed known one new wanted all are written done =
    let rest : then_done (then_done one (renaming all)) (syncing all)
    ≡ then_done known (writing all ++ (renaming all ++ syncing all)) =
    then_more one (renaming all) (syncing all)
    ∙ ap (λ (k : Option (List Step)). then_done k (renaming all ++ syncing all)) written
    ∙ then_more known (writing all) (renaming all ++ syncing all) in
    record {
      all = all;
      are = are;
      done = subst (λ (k : Option (List Step)). OnlyDoes (Removes (IsBesideOne all)) k new)
          (rest ∙ ap (then_done known)
          (sym (append_assoc (writing all) (renaming all) (syncing all)))) done;
    }

-- some were written, and these removed
pub stop_writing : (there : List ℕ → Option Bool) (known one new : Option (List Step))
    (wanted : List NewFile) (all : List Standing) (e : FileError)
    → StopsBefore there wanted all e → one ≡ then_done known (writing all)
    → new ≡ then_done one (removing all) → AreNotPlaced there known wanted e new
stop_writing there known one new wanted all e stops written removed =
    inl record {
      all = all;
      stops = stops;
      done = removed ∙ ap (λ (k : Option (List Step)). then_done k (removing all)) written
          ∙ then_more known (writing all) (removing all);
    }

-- all were written, and not all put in their places
pub stop_putting : (there : List ℕ → Option Bool) (known one new : Option (List Step))
    (wanted : List NewFile) (all : List Standing) (e : FileError) → AreBeside wanted all
    → one ≡ then_done known (writing all) → AreNotPut one all e new
    → AreNotPlaced there known wanted e new
stop_putting there known one new wanted all e are written stops =
    inr record {
      all = all;
      are = are;
      stops = subst (λ (k : Option (List Step)). AreNotPut k all e new) written stops;
    }

-- some were renamed, and the others removed
pub stop_renaming : (known one new : Option (List Step)) (all : List Standing) (n : ℕ)
    (e : FileError) → StopsRenamingAt all n e → one ≡ then_done known (renaming (take n all))
    → new ≡ then_done one (removing (drop n all)) → AreNotPut known all e new
stop_renaming known one new all n e stops renamed removed =
    inl record {
      renamed = n;
      stops = stops;
      done = removed
          ∙ ap (λ (k : Option (List Step)). then_done k (removing (drop n all))) renamed
          ∙ then_more known (renaming (take n all)) (removing (drop n all));
    }

-- all were renamed, and not all folders synced
pub stop_syncing : (known one new : Option (List Step)) (all : List Standing) (e : FileError)
    → one ≡ then_done known (renaming all) → StopSyncing one all e new
    → AreNotPut known all e new
stop_syncing known one new all e renamed stops =
    inr (subst (λ (k : Option (List Step)). StopSyncing k all e new) renamed stops)

-- ---- the file that is named

-- the one at its place
pub any_at : {X : Type 0} (P : X → Type 0) (before : List X) (x : X) (behind : List X) → P x
    → Any P (before ++ x ∷ behind)
any_at {X} P before x behind holds =
    let long : length before < length (before ++ x ∷ behind) =
    omega (arith, length-append before (x ∷ behind)) in
    (length before, x, long, get_or_at before x behind x (length before) refl, holds)

-- the file of one that stands among others
file_at : (wanted : List NewFile) (all before : List Standing) (one : Standing)
    (behind : List Standing) (e : FileError) → AreBeside wanted all
    → all ≡ before ++ one ∷ behind → e.name ≡ one.file.name
    → Any (λ (file : NewFile). file.name ≡ e.name) wanted
file_at wanted all before one behind e are split named =
    let is : wanted
    ≡ map (λ (s : Standing). s.file) before
    ++ one.file ∷ map (λ (s : Standing). s.file) behind =
    sym are.files_are ∙ ap (map (λ (s : Standing). s.file)) split
    ∙ map-append (λ (s : Standing). s.file) before (one ∷ behind) in
    subst (Any (λ (file : NewFile). file.name ≡ e.name)) (sym is)
    (any_at (λ (file : NewFile). file.name ≡ e.name) (map (λ (s : Standing). s.file) before)
    one.file (map (λ (s : Standing). s.file) behind) (sym named))

-- the file that was not written
pub names_unwritten : (there : List ℕ → Option Bool) (wanted : List NewFile)
    (all : List Standing) (e : FileError) → StopsBefore there wanted all e
    → Any (λ (file : NewFile). file.name ≡ e.name) wanted
names_unwritten there wanted all e stops =
    subst (Any (λ (file : NewFile). file.name ≡ e.name)) (sym stops.split)
    (any_at (λ (file : NewFile). file.name ≡ e.name) stops.before stops.file stops.behind
    (sym stops.named))

-- the file that was not put in its place
pub names_unput : (known new : Option (List Step)) (wanted : List NewFile) (all : List Standing)
    (e : FileError) → AreBeside wanted all → AreNotPut known all e new
    → Any (λ (file : NewFile). file.name ≡ e.name) wanted
names_unput known new wanted all e are (inl stop) =
    let s = stop.stops in
    file_at wanted all s.before s.one s.behind e are s.split s.named
names_unput known new wanted all e are (inr stop) =
    file_at wanted all stop.before stop.one stop.behind e are stop.split stop.named

-- ---- what a call tells

-- one of a list that is read by its place
pub stopped_before : {A : Type 0} (there by_then : List ℕ → Option Bool)
    (wanted : List NewFile) (i : ℕ) (d : NewFile) (old new : List (Beside A)) (e : FileError)
    → i < length wanted → AreBeside (take i wanted) (standing_in old) → new ≡ old
    → e.name ≡ (get_or wanted i d).name → IsEarly e.fault
    → SameButBeside (standing_in old) there by_then
    → TellsAllTaken by_then (path_text (get_or wanted i d).name) e.fault
    → StopsBefore there wanted (standing_in new) e
stopped_before {A} there by_then wanted i d old new e less are kept named early same taken =
    subst (λ (bs : List (Beside A)). StopsBefore there wanted (standing_in bs) e) (sym kept)
    (stops_before there by_then wanted i (get_or wanted i d) old e less
    (get_or_default wanted i d (get_or wanted i d) less) are named early same taken)

-- the same of one that was not renamed
pub stopped_at : {A : Type 0} (bs : List (Beside A)) (i : ℕ) (d : Beside A) (e : FileError)
    → i < length bs → e.name ≡ (get_or bs i d).file.name → TellsRenamed e.fault i
    → StopsRenamingAt (standing_in bs) i e
stopped_at {A} bs i d e less named counted =
    stops_at bs i (get_or bs i d) e less (get_or_default bs i d (get_or bs i d) less) named counted

-- putting files in their places
pub put_placed : {A R : Type 0} (returned : Result R FileError) (known one new : Option (List Step))
    (wanted : List NewFile) (bs named : List (Beside A)) → AreBeside wanted (standing_in bs)
    → named ≡ bs → one ≡ then_done known (writing (standing_in bs))
    → OnOk returned (OnlyDoes (Removes (IsBesideOne (standing_in named)))
    (then_done (then_done one (renaming (standing_in named))) (syncing (standing_in named))) new)
    → OnOk returned (AreInPlace known wanted new)
put_placed (Err e) known one new wanted bs named are same written h = tt
put_placed {A} (Ok r) known one new wanted bs named are same written h =
    placed known one new wanted (standing_in bs) are written
    (subst (λ (l : List (Beside A)). OnlyDoes (Removes (IsBesideOne (standing_in l)))
    (then_done (then_done one (renaming (standing_in l))) (syncing (standing_in l))) new) same h)

-- putting files in their places is refused
pub put_refused : {A R : Type 0} (returned : Result R FileError) (there : List ℕ → Option Bool)
    (known one new : Option (List Step)) (wanted : List NewFile) (bs named : List (Beside A))
    → AreBeside wanted (standing_in bs) → named ≡ bs
    → one ≡ then_done known (writing (standing_in bs))
    → IfErr returned (λ e. AreNotPut one (standing_in named) e new)
    → IfErr returned (λ e. AreNotPlaced there known wanted e new)
put_refused (Ok r) there known one new wanted bs named are same written h = tt
put_refused {A} (Err e) there known one new wanted bs named are same written h =
    stop_putting there known one new wanted (standing_in bs) e are written
    (subst (λ (l : List (Beside A)). AreNotPut one (standing_in l) e new) same h)

pub put_names : {A R : Type 0} (returned : Result R FileError) (one new : Option (List Step))
    (wanted : List NewFile) (bs named : List (Beside A)) → AreBeside wanted (standing_in bs)
    → named ≡ bs → IfErr returned (λ e. AreNotPut one (standing_in named) e new)
    → IfErr returned (λ e. Any (λ (file : NewFile). file.name ≡ e.name) wanted)
put_names (Ok r) one new wanted bs named are same h = tt
put_names {A} (Err e) one new wanted bs named are same h =
    names_unput one new wanted (standing_in bs) e are
    (subst (λ (l : List (Beside A)). AreNotPut one (standing_in l) e new) same h)

-- ---- a file of an earlier write

-- what holds of it, and what follows of that
if_left : (fault : FileFault) (X Y : Type 0) → (X → Y) → IfLeft fault X → IfLeft fault Y
if_left Folder X Y f h = tt
if_left Taken X Y f h = tt
if_left NotPlain X Y f h = tt
if_left Left X Y f h = f h
if_left (CutShort read size) X Y f h = tt
if_left NamesTaken X Y f h = tt
if_left (AfterOthers renamed error) X Y f h = tt
if_left (NotSynced error) X Y f h = tt
if_left (Io error) X Y f h = tt
if_left (Refused error) X Y f h = tt

-- its name
pub left_named : {R : Type 0} (returned : Result R FileError) (next : List ℕ) (there : Option Bool)
    (known new : Option (List Step)) → IfErr returned (λ e. TellsLeft e next there known new)
    → IfErr returned (λ e. IfLeft e.fault (path_text e.name ≡ next))
left_named (Ok r) next there known new h = tt
left_named (Err e) next there known new h =
    if_left e.fault
    ((path_text e.name ≡ next) × IfSome there (λ b. b ≡ true) × (new ≡ known))
    (path_text e.name ≡ next) (λ all. all.0) h

-- none is told where files are placed
early_none : (fault : FileFault) → IsEarly fault → IfLeft fault ⊥
early_none Folder h = tt
early_none Taken h = absurd h
early_none NotPlain h = tt
early_none Left h = absurd h
early_none (CutShort read size) h = absurd h
early_none NamesTaken h = tt
early_none (AfterOthers renamed error) h = absurd h
early_none (NotSynced error) h = absurd h
early_none (Io error) h = tt
early_none (Refused error) h = tt

renamed_none : (fault : FileFault) (n : ℕ) → TellsRenamed fault n → IfLeft fault ⊥
renamed_none Folder n h = tt
renamed_none Taken n h = tt
renamed_none NotPlain n h = tt
renamed_none Left n h = h
renamed_none (CutShort read size) n h = tt
renamed_none NamesTaken n h = tt
renamed_none (AfterOthers renamed error) n h = tt
renamed_none (NotSynced error) n h = tt
renamed_none (Io error) n h = tt
renamed_none (Refused error) n h = tt

synced_none : (fault : FileFault) → IsNotSynced fault → IfLeft fault ⊥
synced_none Folder h = tt
synced_none Taken h = tt
synced_none NotPlain h = tt
synced_none Left h = h
synced_none (CutShort read size) h = tt
synced_none NamesTaken h = tt
synced_none (AfterOthers renamed error) h = tt
synced_none (NotSynced error) h = tt
synced_none (Io error) h = tt
synced_none (Refused error) h = tt

unput_none : (known new : Option (List Step)) (all : List Standing) (e : FileError)
    → AreNotPut known all e new → IfLeft e.fault ⊥
unput_none known new all e (inl stop) = renamed_none e.fault stop.renamed stop.stops.counted
unput_none known new all e (inr stop) = synced_none e.fault stop.returned

placed_none : (there : List ℕ → Option Bool) (known new : Option (List Step))
    (wanted : List NewFile) (e : FileError) → AreNotPlaced there known wanted e new
    → IfLeft e.fault ⊥
placed_none there known new wanted e (inl stop) = early_none e.fault stop.stops.early
placed_none there known new wanted e (inr stop) =
    unput_none (then_done known (writing stop.all)) new stop.all e stop.stops

pub none_left : {R : Type 0} (returned : Result R FileError) (there : List ℕ → Option Bool)
    (known new : Option (List Step)) (wanted : List NewFile)
    → IfErr returned (λ e. AreNotPlaced there known wanted e new)
    → IfErr returned (λ e. IfLeft e.fault ⊥)
none_left (Ok r) there known new wanted h = tt
none_left (Err e) there known new wanted h = placed_none there known new wanted e h
