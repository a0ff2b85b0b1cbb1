-- Runs that are shared and packed. Assumes `Logic`.
use Rattle.std.proofs.Common.{◌≡◌, ℕ, ◌+◌, ◌<◌, sym, ◌∙◌, ap, subst, List, [], ◌∷◌, ◌++◌}
use Rattle.std.proofs.Common.{append-nil, append_assoc, get_or, length, take, Result, Ok, Err}
use Rattle.std.specs.Prelude.{IfOk, map}
use Rattle.std.proofs.lemmas.List.{map-append, take_more}
use Rattle.std.proofs.lemmas.List.Concat.{flat_map-append}
use Rattle.sst_entries.specs.declared.error.Error.{Error}
use Rattle.lsm_sorted.specs.version.Packing.{AreInOrder, tables_in}
use Rattle.lsm_readers.specs.point.Table.{OpenTable}
use Rattle.lsm_run_parts.specs.RunParts.{range_of}
use Rattle.sst_c.specs.Packed.{ArePackedOf}

pub shared_more : {X Y : Type 0} (f : X → Y) (shared : List X) (x : X) (y : Y)
    (before rest all : List Y) → f x ≡ y → before ≡ y ∷ rest → map f shared ++ before ≡ all
    → map f (shared ++ x ∷ []) ++ rest ≡ all
shared_more {X} {Y} f shared x y before rest all is next so_far =
    ap (λ (ys : List Y). ys ++ rest) (map-append f shared (x ∷ []))
    ∙ append_assoc (map f shared) (f x ∷ []) rest
    ∙ ap (λ (z : Y). map f shared ++ z ∷ rest) is
    ∙ ap (λ (ys : List Y). map f shared ++ ys) (sym next)
    ∙ so_far

pub shared_all : {X Y : Type 0} (f : X → Y) (shared : List X) (rest all : List Y) → rest ≡ []
    → map f shared ++ rest ≡ all → map f shared ≡ all
shared_all {X} {Y} f shared rest all none so_far = sym (append-nil (map f shared))
    ∙ ap (λ (ys : List Y). map f shared ++ ys) (sym none) ∙ so_far

-- runs that are packed stay so when they are shared
pub shared_packed : {X : Type 0} (r : Result X Error) (view : X → List (List OpenTable))
    (runs packed : List (List OpenTable)) → (AreInOrder range_of runs → ArePackedOf runs packed)
    → IfOk r (λ x. view x ≡ packed)
    → IfOk r (λ x. AreInOrder range_of runs → ArePackedOf runs (view x))
shared_packed (Ok x) view runs packed are same =
    λ order. subst (ArePackedOf runs) (sym same) (are order)
shared_packed (Err e) view runs packed are same = tt

-- the tables of one run more stand behind the others
pub tables_more : {X : Type 0} (f : X → List OpenTable) (xs : List X) (i : ℕ) (x : X)
    (tables more : List OpenTable) → i < length xs → x ≡ get_or xs i x
    → tables ≡ tables_in (map f (take i xs)) → more ≡ tables ++ f x
    → more ≡ tables_in (map f (take (i + 1) xs))
tables_more {X} f xs i x tables more less at so_far is =
    let front = map f (take i xs) in
    let next : take (i + 1) xs ≡ take i xs ++ x ∷ [] =
    take_more xs i x less ∙ ap (λ (y : X). take i xs ++ y ∷ []) (sym at) in
    is
    ∙ ap (λ (ts : List OpenTable). ts ++ f x) so_far
    ∙ ap (λ (ts : List OpenTable). tables_in front ++ ts) (sym (append-nil (f x)))
    ∙ sym (flat_map-append (λ (run : List OpenTable). run) front (f x ∷ []))
    ∙ ap tables_in (sym (map-append f (take i xs) (x ∷ [])))
    ∙ ap (λ (ys : List X). tables_in (map f ys)) (sym next)

-- one more stands behind those that were there first
pub one_more : {X : Type 0} (first now more xs : List X) (i : ℕ) (x : X) → i < length xs
    → x ≡ get_or xs i x → now ≡ first ++ take i xs → more ≡ now ++ x ∷ []
    → more ≡ first ++ take (i + 1) xs
one_more {X} first now more xs i x less at so_far is =
    is
    ∙ ap (λ (ys : List X). ys ++ x ∷ []) so_far
    ∙ append_assoc first (take i xs) (x ∷ [])
    ∙ ap (λ (ys : List X). first ++ ys)
    (sym (take_more xs i x less ∙ ap (λ (y : X). take i xs ++ y ∷ []) (sym at)))
