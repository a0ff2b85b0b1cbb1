-- Calls that do a read: one without a load, one load, and one read behind another.
use Rattle.std.proofs.Common.{◌≡◌, ℕ, ◌+◌, ◌<◌, false, List, [], ◌∷◌, ◌++◌, length, take, refl, sym}
use Rattle.std.proofs.Common.{ap, subst, ◌∙◌, length-append, arith, inl, inr}
use Rattle.std.proofs.lemmas.Bool.{cases_lt}
use Rattle.std.proofs.Math.Seq.{take-append-add, take-length}
use Rattle.std.proofs.lemmas.List.{take-append-le}
use Rattle.std.specs.Prelude.{Option, Some, None, Result, Ok, Err, IsOk}
use Rattle.std.specs.Result.{IsErrAnd}
use Rattle.sst_entries.specs.declared.error.Error.{Error}
use Rattle.sst_entries.specs.Error.{FaultsFirst, Gives, is_memory}
use Rattle.sst_blocks.specs.declared.block_type.BlockType.{BlockType}
use Rattle.sst_blocks.specs.declared.opened.Opened.{Opened}
use Rattle.sst_blocks.specs.Access.{Access, IsInMemory, IsKnown, in_memory, read_on_load, unknown}
use Rattle.sst_blocks.specs.Opened.{with_load}
use Rattle.lsm_readers.specs.point.Read.{◌>>=◌, DoesRead, Opens, Read, early_then, early_of, known}
use Rattle.lsm_readers.specs.point.Read.{loads_behind, opened_by, read_then, wants_memory}
use Rattle.lsm_readers.proofs.Recovered.{first_from}
use Rattle.lsm_readers.proofs.Steps.{fails_here, passes_fault}

abbrev pub result : {X : Type 0} → X → Result X Error
result x = Ok x

abbrev pub refusal : (X : Type 0) → Error → Result X Error
refusal X e = Err e

-- bytes in memory are known
pub memory_known : (a : Access) → IsInMemory a → IsKnown a
memory_known in_memory at = tt
memory_known read_on_load at = tt
memory_known unknown at = at

-- ---- loads

pub no_loads : {X : Type 0} (r : Result X Error) (o : Opened) → Opens r [] o o
no_loads r o = record {
  made = 0;
  counts = refl;
  within = omega arith;
  whole = λ _. refl;
  some =
      λ h. absurd (omega (arith, h));
}

pub one_load : {X : Type 0} (r : Result X Error) (k : BlockType) (o o' : Opened)
    → o' ≡ with_load k o → Opens r (k ∷ []) o o'
one_load r k o o' counted = record {
  made = 1;
  counts = counted;
  within = omega arith;
  whole =
      λ _. refl;
  some = λ _. omega arith;
}

opened_more : (ks ls : List BlockType) (o : Opened)
    → opened_by (ks ++ ls) o ≡ opened_by ls (opened_by ks o)
opened_more [] ls o = refl
opened_more (k ∷ ks) ls o = opened_more ks ls (with_load k o)

-- ---- a value that is known, and one load

pub does_known : {X : Type 0} (access : Access) (x : X) (o : Opened)
    → DoesRead access (Ok x) (known x) o o
does_known access x o = record {
  returned = refl;
  early = λ at e h. absurd cc;
  opens = no_loads (Ok x) o;
  calm =
      λ _. refl;
}

-- nothing was told before memory was taken
none_result : {X Y : Type 0} (x : X) (s : Result Y Error) (returned : Option Error)
    → FaultsFirst (result x) returned → FaultsFirst s returned
none_result x s returned first = λ e h. absurd (let wrong : Some e ≡ None = first e h in cc)

-- ---- one read behind another

calm_front : {X : Type 0} (r : Result X Error) (ks ls : List BlockType) → (ls ≡ [] → IsOk r)
    → (ks ++ ls) ≡ [] → IsOk r
calm_front r [] ls calm none = calm none
calm_front r (k ∷ ks) ls calm none = absurd cc

early_goes : {X Y : Type 0} (x : X) (s : Result Y Error) (ks : List BlockType)
    (early behind : Option Error) → FaultsFirst (result x) early → FaultsFirst s behind
    → FaultsFirst s (early_of ks early behind)
early_goes x s [] None behind calm first = first
early_goes x s [] (Some e) behind calm first =
    absurd (let wrong : Some e ≡ None = calm e refl in cc)
early_goes x s (k ∷ ks) early behind calm first = none_result x s early calm

some_more : (k l m : ℕ) → (0 < l → 0 < m) → 0 < k + l → 0 < k + m
some_more k l m more some = elim (cases_lt 0 l) [
  | inl lt ↦ omega (arith, more lt)
  | inr le ↦ omega (arith, some, le)
]

opens_goes : {X Y : Type 0} (x : X) (s : Result Y Error) (ks ls : List BlockType)
    (o o' o'' : Opened) → Opens (result x) ks o o' → Opens s ls o' o'' → Opens s (ks ++ ls) o o''
opens_goes x s ks ls o o' o'' a b =
    let whole : a.made ≡ length ks = a.whole refl in
    let front : o' ≡ opened_by ks o = a.counts ∙ ap (λ (n : ℕ). opened_by (take n ks) o) whole
    ∙ ap (λ (l : List BlockType). opened_by l o) (take-length ks) in
    let all : opened_by (take (length ks + b.made) (ks ++ ls)) o
    ≡ opened_by (take b.made ls) (opened_by ks o) =
    ap (λ (l : List BlockType). opened_by l o) (take-append-add ks ls b.made)
    ∙ opened_more ks (take b.made ls) o in
    let sum = length-append ks ls in
    record {
      made = length ks + b.made;
      counts = b.counts ∙ ap (opened_by (take b.made ls)) front ∙ sym all;
      within = omega (arith, b.within, sum);
      whole = λ calm. omega (arith, b.whole calm, sum);
      some = λ h. some_more (length ks) (length ls) b.made b.some (omega (arith, sum, h));
    }

-- the first gave a value
pub then_goes : {X Y : Type 0} (access : Access) (first : Read X) (next : X → Read Y) (x : X)
    (s : Result Y Error) (o o' o'' : Opened) → DoesRead access (result x) first o o'
    → DoesRead access s (next x) o' o'' → DoesRead access s (read_then first next) o o''
then_goes {X} {Y} access first next x s o o' o'' a b =
    let returned : first.returned ≡ Ok x = a.returned in
    let loads : loads_behind first.returned next ≡ (next x).loads =
    ap (λ (t : Result X Error). loads_behind t next) returned in
    let early : early_then first.returned next ≡ (next x).early =
    ap (λ (t : Result X Error). early_then t next) returned in
    record {
      returned = subst (λ (t : Result X Error). Gives (λ (y : Y). y) s (t >>= λ x. (next x).returned))
          (sym returned) b.returned;
      early = λ at. early_goes x s first.loads first.early (early_then first.returned next)
          (a.early at) (subst (FaultsFirst s) (sym early) (b.early at));
      opens = opens_goes x s first.loads (loads_behind first.returned next) o o' o'' a.opens
          (subst (λ (l : List BlockType). Opens s l o' o'') (sym loads) b.opens);
      calm = calm_front s first.loads (loads_behind first.returned next)
          (subst (λ (l : List BlockType). l ≡ [] → IsOk s) (sym loads) b.calm);
    }

-- a refusal came behind some load
some_loads : (X : Type 0) (e : Error) (ks : List BlockType) → (ks ≡ [] → IsOk (refusal X e))
    → 0 < length ks
some_loads X e [] calm = absurd (let wrong = calm refl in cc)
some_loads X e (k ∷ ks) calm = omega arith

early_fails : (X : Type 0) {Y : Type 0} (e : Error) (s : Result Y Error) (ks : List BlockType)
    (early behind : Option Error) → 0 < length ks → IsErrAnd s (λ y. y ≡ e)
    → FaultsFirst (refusal X e) early → FaultsFirst s (early_of ks early behind)
early_fails X e s [] early behind some is first = absurd (omega (arith, some))
early_fails X e s (k ∷ ks) early behind some is first = first_from s e early is first

memory_same : {Y : Type 0} (e : Error) (s : Result Y Error) → IsErrAnd s (λ y. y ≡ e)
    → wants_memory s ≡ is_memory e
memory_same e (Ok y) is = absurd is
memory_same e (Err d) is = ap is_memory is

-- nothing is read behind a fault
behind_fails : {X Y : Type 0} (returned : Result X Error) (next : X → Read Y) (e : Error) → returned ≡ Err e
    → loads_behind returned next ≡ []
behind_fails (Ok x) next e is = absurd cc
behind_fails (Err d) next e is = refl

opens_fails : (X : Type 0) {Y : Type 0} (e : Error) (s : Result Y Error) (ks ls : List BlockType)
    (o o' : Opened) → IsErrAnd s (λ y. y ≡ e) → 0 < length ks → (is_memory e ≡ false → ls ≡ [])
    → Opens (refusal X e) ks o o' → Opens s (ks ++ ls) o o'
opens_fails X e s ks ls o o' is some none a =
    let sum = length-append ks ls in
    let front : take a.made (ks ++ ls) ≡ take a.made ks = take-append-le a.made ks ls a.within in
    let empty : is_memory e ≡ false → length ls ≡ 0 = λ memory. ap length (none memory) in
    record {
      made = a.made;
      counts = a.counts ∙ sym (ap (λ (l : List BlockType). opened_by l o) front);
      within = omega (arith, a.within, sum);
      whole = λ calm. let memory : is_memory e ≡ false = sym (memory_same e s is) ∙ calm in
          omega (arith, a.whole memory, empty memory, sum);
      some = λ h. a.some some;
    }

-- the first was refused
pub then_fails : {X Y : Type 0} (access : Access) (first : Read X) (next : X → Read Y) (e : Error)
    (s : Result Y Error) (o o' : Opened) → DoesRead access (refusal X e) first o o'
    → IsErrAnd s (λ y. y ≡ e) → DoesRead access s (read_then first next) o o'
then_fails {X} {Y} access first next e s o o' a is =
    let some = some_loads X e first.loads a.calm in
    let ls = loads_behind first.returned next in
    record {
      returned = passes_fault (λ (y : Y). y) s (first.returned >>= λ x. (next x).returned) e is
          (fails_here first.returned (λ x. (next x).returned) e a.returned);
      early = λ at. early_fails X e s first.loads first.early
          (early_then first.returned next) some is (a.early at);
      opens = opens_fails X e s first.loads ls o o' is some
          (λ memory. behind_fails first.returned next e (a.returned memory)) a.opens;
      calm = λ none. absurd (let sum = length-append first.loads ls in
          let zero : length (first.loads ++ ls) ≡ 0 = ap length none in
          omega (arith, sum, some, zero));
    }
