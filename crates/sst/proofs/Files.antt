-- Files that are verified, one after another.
use denote.Ref.{Bor}
use Rattle.std.proofs.Common.{◌≡◌, sym, subst, ℕ, zero, suc, ◌+◌, ◌-◌, ◌^◌, ◌<◌, List, [], ◌∷◌, ◌++◌}
use Rattle.std.proofs.Common.{Bool, arith, false, get_or, inl, inr, length, nat_eq, take, true}
use Rattle.std.specs.Prelude.{Any, Err, IfOk, IfSome, None, Ok, Option, Result, min}
use Rattle.std.specs.List.{AllByRecursion}
use Rattle.std.proofs.lemmas.List.{get_or_default, take_more}
use Rattle.lsm_readers.specs.point.Parts.{recovered_result}
use Rattle.lsm_readers.specs.point.Table.{OpenTable}
use Rattle.sst_entries.specs.Error.{Gives, is_memory}
use Rattle.sst_entries.specs.declared.error.Error.{Error}
use Rattle.sst_tool.specs.files.Opened.{IsToldByBytes}
use Rattle.sst_tool.specs.show.Files.{IsSoundTable}
use Rattle.sst.specs.Verified.{HaveFaulty, IsFaultyFile, StoresNoTable}

all_more : {A : Type 0} (P : A → Type 0) (xs : List A) (x : A) → AllByRecursion P xs → P x
    → AllByRecursion P (xs ++ x ∷ [])
all_more P [] x all one = (one, tt)
all_more P (y ∷ ys) x all one = (all.0, all_more P ys x all.1 one)

-- what holds of the files so far holds of one more
pub all_so_far : {A : Type 0} (P : A → Type 0) (xs : List A) (i : ℕ) (d : A) → i < length xs
    → AllByRecursion P (take i xs) → P (get_or xs i d) → AllByRecursion P (take (i + 1) xs)
all_so_far P xs i d h before one =
    subst (AllByRecursion P) (sym (take_more xs i d h))
    (all_more P (take i xs) (get_or xs i d) before one)

-- where faults are counted, a file so far is at fault
pub faulty_so_far : (content : List ℕ → Option (List ℕ)) (names : List (Bor (List ℕ))) (i : ℕ)
    (d : Bor (List ℕ)) (faults found more : ℕ) → i < length names
    → more ≡ min (faults + found) (2 ^ 64 - 1) → (0 < faults → HaveFaulty content names)
    → (0 < found → IsFaultyFile (content (get_or names i d).now)) → 0 < more
    → HaveFaulty content names
faulty_so_far content names i d zero found more less is before one some = (
  i,
  get_or names i d,
  less,
  sym (get_or_default names i d (get_or names i d) less),
  one (omega (arith, is, some)),
)
faulty_so_far content names i d (suc n) found more less is before one some = before (omega arith)

-- a count that is returned early is that of the files so far
pub so_far : {E : Type 0} (H : Type 0) (faults : ℕ) (r : Result ℕ E)
    → IfOk r (λ n. (n ≡ faults) × (0 < n)) → (0 < faults → H) → IfOk r (λ n. 0 < n → H)
so_far H faults (Ok n) is have = λ some. have (subst (λ (k : ℕ). 0 < k) is.0 is.1)
so_far H faults (Err e) is have = tt

-- a file that is not read is at fault
pub missed : {E : Type 0} (known : Option (List ℕ)) (memory : Bool) (r : Result ℕ E)
    → (memory ≡ false → known ≡ None) → IfOk r (λ n. memory ≡ false)
    → IfOk r (λ n. 0 < n → IsFaultyFile known)
missed known memory (Ok n) unknown other = λ some. inr (unknown other)
missed known memory (Err e) unknown other = tt

-- so is one whose bytes open as no table
pub no_table : {E : Type 0} (bytes : List ℕ) (e : Error) (r : Result ℕ E)
    → Gives (λ (t : OpenTable). t.parts) (Err e) (recovered_result bytes 0 false false)
    → IfOk r (λ n. is_memory e ≡ false) → IfOk r (λ n. 0 < n → StoresNoTable bytes)
no_table bytes e (Ok n) refused other = λ some. inr (e, other, refused)
no_table bytes e (Err f) refused other = tt

not_none : (n : ℕ) → n ≡ 0 → 0 < n → ⊥
not_none zero is some = omega (arith, some)
not_none (suc n) is some = omega (arith, is)

-- a table in which no fault is counted is valid
pub verified_sound : {E : Type 0} (bytes : List ℕ) (t : OpenTable) (r : Result ℕ E)
    → t.bytes ≡ bytes → IfOk r (λ n. n ≡ 0 → IsSoundTable t)
    → IfOk r (λ n. n ≡ 0 → (u : OpenTable) × (u.bytes ≡ bytes) × IsSoundTable u)
verified_sound bytes t (Ok n) same sound = λ none. (t, same, sound none)
verified_sound bytes t (Err e) same sound = tt

-- and one in which a fault is counted stores no list
pub verified_faulty : {E : Type 0} (bytes : List ℕ) (t : OpenTable) (r : Result ℕ E)
    → t.bytes ≡ bytes → IsToldByBytes false t → (IsSoundTable t → IfOk r (λ n. n ≡ 0))
    → IfOk r (λ n. 0 < n → StoresNoTable bytes)
verified_faulty bytes t (Ok n) same recovered complete =
    λ some. inl (t, same, recovered, λ sound. not_none n (complete sound) some)
verified_faulty bytes t (Err e) same recovered complete = tt

-- a number that tests as none is none, and else is some
pub none_tested : (n : ℕ) → nat_eq n 0 ≡ true → n ≡ 0
none_tested n is = grind (arith, is)

pub some_tested : (n : ℕ) → nat_eq n 0 ≡ false → 0 < n
some_tested n is = grind (arith, is)
