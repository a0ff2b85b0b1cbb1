-- Files, one after another.
use Rattle.std.proofs.Common.{◌≡◌, refl, sym, ◌∙◌, ap, ℕ, ◌+◌, ◌<◌, List, [], ◌∷◌, ◌++◌, length, get_or}
use Rattle.std.proofs.Common.{arith, map, subst, suc, take, true, false, zero}
use Rattle.std.specs.Prelude.{Bool, Option, None, Some, cond, find}
use Rattle.std.proofs.lemmas.List.{map-append, take_more}
use Rattle.sst_entries.specs.Error.{is_memory}
use Rattle.sst_entries.specs.declared.error.Error.{Error}
use Rattle.lsm_readers.specs.point.Table.{OpenTable}
use Rattle.sst_tool.specs.declared.files.error.ToolError.{ToolError}
use Rattle.sst_tool.specs.declared.files.error.ToolError.TheVariants as error
use Rattle.sst_tool.specs.show.Failures.{BlamesFile, FailsAs, NamesNone}
use Rattle.sst_tool.specs.show.Failures.{NamesOnly, NamesRefusal}
use Rattle.sst_tool.specs.show.Files.{runs_in}
use Rattle.sst_tool.specs.declared.show.named.NamedTable.{NamedTable}

-- the run of one more file
pub runs_more : {A X : Type 0} (value : X → List OpenTable) (fs : List (NamedTable A)) (i : ℕ)
    (f : NamedTable A) (rs : List X) (r : X) → i < length fs → f ≡ get_or fs i f
    → map value rs ≡ runs_in (take i fs) → value r ≡ f.table ∷ []
    → map value (rs ++ r ∷ []) ≡ runs_in (take (i + 1) fs)
runs_more {A} value fs i f rs r h is before one =
    let table = λ (f : NamedTable A). f.table ∷ [] in
    map-append value rs (r ∷ [])
    ∙ ap (λ (ts : List (List OpenTable)). ts ++ value r ∷ []) before
    ∙ ap (λ (t : List OpenTable). runs_in (take i fs) ++ t ∷ []) (one ∙ ap table is)
    ∙ sym (ap runs_in (take_more fs i f h) ∙ map-append table (take i fs) (get_or fs i f ∷ []))

-- what is found first, or behind what is passed over
found_first : {X : Type 0} (p : X → Bool) (y : X) (ys : List X) → p y ≡ true
    → find p (y ∷ ys) ≡ Some y
found_first {X} p y ys so = ap (λ (b : Bool). cond b (Some y) (find p ys)) so

none_first : {X : Type 0} (p : X → Bool) (y : X) (ys : List X) → find p ys ≡ None → p y ≡ false
    → find p (y ∷ ys) ≡ None
none_first {X} p y ys none not = ap (λ (b : Bool). cond b (Some y) (find p ys)) not ∙ none

passed_by : {X : Type 0} (b : Bool) (y : X) (rest : Option X) → cond b (Some y) rest ≡ None
    → (b ≡ false) × (rest ≡ None)
passed_by true y rest none = absurd cc
passed_by false y rest none = (refl, none)

passed_over : {X : Type 0} (p : X → Bool) (y : X) (ys : List X) → find p (y ∷ ys) ≡ None
    → (p y ≡ false) × (find p ys ≡ None)
passed_over p y ys none = passed_by (p y) y (find p ys) none

none_behind : {X : Type 0} (p : X → Bool) (y : X) (ys zs : List X) → find p (y ∷ ys) ≡ None
    → (find p ys ≡ None → find p zs ≡ None) → find p (y ∷ zs) ≡ None
none_behind p y ys zs none then =
    let both = passed_over p y ys none in none_first p y zs (then both.1) both.0

found_behind : {X : Type 0} (p : X → Bool) (y : X) (ys zs : List X) (x : X)
    → find p (y ∷ ys) ≡ None → (find p ys ≡ None → find p zs ≡ Some x) → find p (y ∷ zs) ≡ Some x
found_behind {X} p y ys zs x none then =
    let both = passed_over p y ys none in
    ap (λ (b : Bool). cond b (Some y) (find p zs)) both.0 ∙ then both.1

-- nothing is found in one more
pub none_more : {X : Type 0} (p : X → Bool) (xs : List X) (i : ℕ) (x : X) → i < length xs
    → x ≡ get_or xs i x → find p (take i xs) ≡ None → p x ≡ false
    → find p (take (i + 1) xs) ≡ None
none_more p [] i x h is none not = absurd (omega (arith, h))
none_more p (y ∷ ys) zero x h is none not = none_first p y [] refl (ap p (sym is) ∙ not)
none_more p (y ∷ ys) (suc i) x h is none not =
    let next : suc i + 1 ≡ suc (i + 1) = omega arith in
    ap (λ (n : ℕ). find p (take n (y ∷ ys))) next
    ∙ none_behind p y (take i ys) (take (i + 1) ys) none
    (λ before. none_more p ys i x (omega (arith, h)) is before not)

-- the first of those that are not passed over
pub found_here : {X : Type 0} (p : X → Bool) (xs : List X) (i : ℕ) (x : X) → i < length xs
    → x ≡ get_or xs i x → find p (take i xs) ≡ None → p x ≡ true → find p xs ≡ Some x
found_here p [] i x h is none so = absurd (omega (arith, h))
found_here p (y ∷ ys) zero x h is none so =
    found_first p y ys (ap p (sym is) ∙ so) ∙ ap Some (sym is)
found_here p (y ∷ ys) (suc i) x h is none so =
    found_behind p y (take i ys) ys x none
    (λ before. found_here p ys i x (omega (arith, h)) is before so)

named_refusal : {A : Type 0} (f : NamedTable A) (IsReported : Error → Type 0) (r : Error)
    (e : ToolError) → IsReported r → NamesRefusal f r e → NamesOnly f IsReported e
named_refusal f IsReported r (error.Unreadable name at x) is returned =
    (returned.0, subst IsReported (sym returned.1) is)
named_refusal f IsReported r e is returned = absurd returned

by_memory : {A : Type 0} (f : NamedTable A) (IsReported : Error → Type 0) (r : Error) (e : ToolError)
    (b : Bool) → is_memory r ≡ b → FailsAs IsReported (error.Refused r)
    → BlamesFile f (error.Refused r) e → NamesOnly f IsReported e
by_memory f IsReported r e true so fails returned = subst (NamesOnly f IsReported) (sym (returned.0 so)) so
by_memory f IsReported r e false so fails returned = named_refusal f IsReported r e (fails so) (returned.1 so)

-- a failure of a file names it, if any
pub failure_only : {A : Type 0} (f : NamedTable A) (IsReported : Error → Type 0) (x e : ToolError)
    → FailsAs IsReported x → BlamesFile f x e → NamesOnly f IsReported e
failure_only f IsReported (error.Refused r) e fails returned =
    by_memory f IsReported r e (is_memory r) refl fails returned
failure_only f IsReported (error.Unreadable name at r) e fails returned = absurd fails
failure_only f IsReported x e fails returned = subst (NamesOnly f IsReported) (sym returned) tt

-- a failure that is no file's fault names none
pub failure_none : {A : Type 0} (f : NamedTable A) (x e : ToolError) → BlamesFile f x e
    → NamesNone x → NamesNone e
failure_none f (error.Refused r) e returned none = subst NamesNone (sym (returned.0 none)) none
failure_none f x e returned none = subst NamesNone (sym returned) none

-- any other failure is told as it is
pub blames_other : {A : Type 0} (f : NamedTable A) (x : ToolError)
    → ((r : Error) → x ≡ error.Refused r → ⊥) → BlamesFile f x x
blames_other f (error.Refused r) other = absurd (other r refl)
blames_other f x other = refl
