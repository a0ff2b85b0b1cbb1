-- Tables that stand alone in runs.
use Rattle.std.proofs.Common.{◌≡◌, refl, sym, ◌∙◌, ap, subst, ℕ, ◌+◌, ◌<◌, suc, true, List}
use Rattle.std.proofs.Common.{[], ◌∷◌, ◌++◌, length, append_assoc, append-nil, length-append, arith}
use Rattle.std.specs.Prelude.{◌≢◌, map}
use Rattle.std.specs.List.{AllByRecursion}
use Rattle.lsm_sorted.specs.version.KeyRange.{Interval, are_disjoint}
use Rattle.lsm_sorted.specs.version.Packing.{AreDisjointRuns, ArePacked, ArePlaced}
use Rattle.lsm_sorted.specs.version.Packing.{AreTablesWellFormed}
use Rattle.lsm_sorted.specs.version.Packing.{AreWellFormed, IsChain, IsLeastSize, SameHolders}
use Rattle.lsm_sorted.specs.version.Packing.{SameTables}
use Rattle.lsm_sorted.specs.version.Packing.{tables_in}
use Rattle.lsm_sorted.specs.declared.version.packed.Packed.{Packed}
use Rattle.lsm_sorted.specs.declared.version.packed.Placed.{Placed}
use Rattle.lsm_sorted.specs.version.Packed.{IsPackedOf, alone, indexed}

-- one more table stands alone
pub alone_more : {T : Type 0} (runs : List (List (Placed T))) (t : T) (rest before : List T)
    (all : List (List (Placed T))) → before ≡ t ∷ rest
    → runs ++ alone (length runs) before ≡ all
    → (runs ++ (indexed (length runs) t ∷ []) ∷ [])
    ++ alone (length (runs ++ (indexed (length runs) t ∷ []) ∷ [])) rest ≡ all
alone_more {T} runs t rest before all next so_far =
    let x : List (Placed T) = indexed (length runs) t ∷ [] in
    let one : length (runs ++ x ∷ []) ≡ suc (length runs) =
    length-append runs (x ∷ []) ∙ (let e : length runs + 1 ≡ suc (length runs) = omega arith in e) in
    ap (λ (n : ℕ). (runs ++ x ∷ []) ++ alone n rest) one
    ∙ append_assoc runs (x ∷ []) (alone (suc (length runs)) rest)
    ∙ ap (λ (ts : List T). runs ++ alone (length runs) ts) (sym next)
    ∙ so_far

pub alone_all : {T : Type 0} (runs : List (List (Placed T))) (rest : List T)
    (all : List (List (Placed T))) → rest ≡ [] → runs ++ alone (length runs) rest ≡ all
    → runs ≡ all
alone_all {T} runs rest all none so_far =
    sym (append-nil runs)
    ∙ ap (λ (ts : List T). runs ++ alone (length runs) ts) (sym none)
    ∙ so_far

-- there is a table alone where there is one
pub alone_none : {T : Type 0} (place : ℕ) (ts : List T) → tables_in (alone place ts) ≡ [] → ts ≡ []
alone_none place [] none = refl
alone_none place (t ∷ ts) none = absurd cc

-- ---- runs of one table each are apart

module _ {T : Type 0} (range : T → Interval) where
  some_alone : (place : ℕ) (ts : List T) → AllByRecursion (λ run. run ≢ []) (alone place ts)
  some_alone place [] = tt
  some_alone place (t ∷ ts) = (λ none. absurd cc, some_alone (suc place) ts)

  apart_alone : (place : ℕ) (ts : List T)
      → AllByRecursion (λ (run : List (Placed T)). are_disjoint (map (λ x. range x.table) run) ≡ true)
      (alone place ts)
  apart_alone place [] = tt
  apart_alone place (t ∷ ts) = (refl, apart_alone (suc place) ts)

  formed_alone : (place : ℕ) (ts : List T) → AreTablesWellFormed range ts
      → AreWellFormed (λ (x : Placed T). range x.table) (alone place ts)
  formed_alone place [] formed = tt
  formed_alone place (t ∷ ts) formed = (formed.0, formed_alone (suc place) ts formed.1)

  pub disjoint_alone : (place : ℕ) (ts : List T) → AreTablesWellFormed range ts
      → AreDisjointRuns (λ (x : Placed T). range x.table) (alone place ts)
  disjoint_alone place ts formed = record {
    some = some_alone place ts;
    apart = apart_alone place ts;
    formed = formed_alone place ts formed;
  }

-- what packing and a chain tell of runs that are these tables, each alone
pub packed_of : {T A : Type 0} (range : T → Interval) (tables : List T) (p : Packed T A)
    (runs seen : List (List (Placed T))) → runs ≡ alone 0 tables → seen ≡ alone 0 tables
    → AreTablesWellFormed range tables → SameTables runs p.runs.items
    → (AreWellFormed (λ (x : Placed T). range x.table) runs
    → SameHolders (λ (x : Placed T). range x.table) runs p.runs.items)
    → (AreDisjointRuns (λ (x : Placed T). range x.table) runs
    → IsLeastSize (λ (x : Placed T). range x.table) runs (length p.runs.items))
    → (AreWellFormed (λ (x : Placed T). range x.table) runs → 1 < length runs
    → ArePacked (λ (x : Placed T). range x.table) p.runs.items)
    → (AreWellFormed (λ (x : Placed T). range x.table) runs → 1 < length runs
    → ArePlaced (λ (x : Placed T). range x.table) (tables_in runs) p.runs.items)
    → IsChain (λ (x : Placed T). range x.table) seen p.chain.items
    → (AreDisjointRuns (λ (x : Placed T). range x.table) seen
    → IsLeastSize (λ (x : Placed T). range x.table) seen (length p.chain.items))
    → IsPackedOf range tables p
packed_of {T} range tables p runs seen given looked formed same order least ordered behind chain
    as_long =
    let of = λ (x : Placed T). range x.table in
    let apart : AreDisjointRuns of (alone 0 tables) = disjoint_alone range 0 tables formed in
    let before = subst (AreDisjointRuns of) (sym given) apart in
    record {
      same = subst (λ (r : List (List (Placed T))). SameTables r p.runs.items) given same;
      order = subst (λ (r : List (List (Placed T))). SameHolders of r p.runs.items) given
          (order before.formed);
      ordered = subst (λ (r : List (List (Placed T))). 1 < length r → ArePacked of p.runs.items) given
          (ordered before.formed);
      behind = subst (λ (r : List (List (Placed T))).
          1 < length r → ArePlaced of (tables_in r) p.runs.items) given (behind before.formed);
      least = subst (λ (r : List (List (Placed T))). IsLeastSize of r (length p.runs.items)) given
          (least before);
      chain = subst (λ (r : List (List (Placed T))). IsChain of r p.chain.items) looked chain;
      as_long = subst (λ (r : List (List (Placed T))). IsLeastSize of r (length p.chain.items)) looked
          (as_long (subst (AreDisjointRuns of) (sym looked) apart));
    }
