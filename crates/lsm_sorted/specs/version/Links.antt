-- Tables with their positions in an input's runs, and the properties of packing them.
use Rattle.std.specs.Prelude.{◌≡◌, ℕ, suc, ◌<◌, ◌⊎◌, true, List, [], ◌∷◌, ◌++◌}
use Rattle.lsm_sorted.specs.version.KeyRange.{Interval, overlaps}
use Rattle.lsm_sorted.specs.version.Packing.{tables_in, AreInOrder, AreNotEmpty}

-- x is an element of a list
abbrev pub IsElement : {X : Type 0} → X → List X → Type 0
IsElement x [] = ⊥
IsElement x (y ∷ ys) = (x ≡ y) ⊎ IsElement x ys

-- a table with its run and its index there
pub record TableWithPlace (T : Type 0) : Type 0 where
  pub table : T
  pub run : ℕ
  pub place : ℕ

-- a table with this run and this index
abbrev pub table_with_place : {T : Type 0} → T → ℕ → ℕ → TableWithPlace T
table_with_place t i j = record { table = t; run = i; place = j }

-- the tables of a run, with their positions from an index on
abbrev pub run_with_places : {T : Type 0} → ℕ → ℕ → List T → List (TableWithPlace T)
run_with_places i j [] = []
run_with_places i j (t ∷ ts) = table_with_place t i j ∷ run_with_places i (suc j) ts

-- the tables of runs, with their positions from a run on
abbrev pub runs_with_places : {T : Type 0} → ℕ → List (List T) → List (TableWithPlace T)
runs_with_places i [] = []
runs_with_places i (run ∷ runs) = run_with_places i 0 run ++ runs_with_places (suc i) runs

module _ {X : Type 0} (f : X → Interval) (at : X → ℕ) where
  -- of two overlapping tables, the one in a later packed run is from a later input run
  abbrev pub KeepRunOrder : List (List X) → Type 0
  KeepRunOrder [] = Unit {0}
  KeepRunOrder (l ∷ ls) =
      ((x y : X) → IsElement x l → IsElement y (tables_in ls) →
      overlaps (f x) (f y) ≡ true → at x < at y) × KeepRunOrder ls

  -- each table of the next packed run overlaps one of this run, from an earlier input run
  abbrev pub CarriesNext : List X → List (List X) → Type 0
  CarriesNext l [] = Unit {0}
  CarriesNext l (m ∷ ms) =
      (y : X) → IsElement y m →
      (x : X) × IsElement x l × (overlaps (f x) (f y) ≡ true) × (at x < at y)

  -- the same for each packed run and the next
  abbrev pub EachCarriesNext : List (List X) → Type 0
  EachCarriesNext [] = Unit {0}
  EachCarriesNext (l ∷ ls) = CarriesNext l ls × EachCarriesNext ls

  -- all properties of packed runs
  pub record IsStack (ls : List (List X)) : Type 0 where
    pub order : AreInOrder f ls
    pub some : AreNotEmpty ls
    pub keeps_order : KeepRunOrder ls
    pub carries : EachCarriesNext ls
