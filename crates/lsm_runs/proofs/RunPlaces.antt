-- Where a point read of several runs finds its entry.
use Rattle.std.proofs.Common.{◌≡◌, refl, sym, ◌∙◌, ap, subst, ℕ, zero, suc, true, List}
use Rattle.std.proofs.Common.{[], ◌∷◌, drop, arith, inl, inr}
use Rattle.std.proofs.lemmas.Bool.{cases_Bool}
use Rattle.std.specs.Prelude.{◌⊎◌, IfOk, IfSome, IsOk, Option, Some, None, Result, Ok, Err, is_some}
use Rattle.std.specs.Prelude.{map, slice_get}
use Rattle.std.specs.Option.{option_and_then, option_map}
use Rattle.std.specs.declared.ops.Bound.TheVariants.{Included}
use Rattle.sst_entries.specs.declared.entry_ref.EntryRef.{EntryRef}
use Rattle.sst_entries.specs.declared.error.Error.{Error}
use Rattle.sst_entries.specs.Entry.{Entry}
use Rattle.sst_entries.specs.Error.{FaultsFirst, Gives}
use Rattle.sst_entries.specs.Lending.{entry_of_ref}
use Rattle.sst_blocks.specs.declared.entry_place.EntryPlace.{EntryPlace}
use Rattle.sst_blocks.specs.declared.opened.Opened.{Opened}
use Rattle.sst_blocks.specs.Asked.{result_map}
use Rattle.sst_blocks.specs.EntryPlace.{IsPlacedIn, entry_placed, placed_in}
use Rattle.sst_blocks.specs.Opened.{none_opened}
use Rattle.lsm_sorted.specs.version.KeyRange.{Interval, key_le}
use Rattle.lsm_sorted.specs.version.Run.{are_in_order, ends_before, first_and_last, how_many}
use Rattle.lsm_sorted.specs.version.Run.{overlap_indexes, starts_within, table_of_key}
use Rattle.lsm_sorted.proofs.RunLemmas.{falls-starts_within, first_and_last-some, key_found}
use Rattle.lsm_sorted.proofs.RunLemmas.{key_none, key_past, none_count, rest_in_order}
use Rattle.lsm_readers.proofs.ReadViews.{does_by, gives_by, gives_seen}
use Rattle.sst_blocks.specs.Access.{in_memory}
use Rattle.lsm_readers.specs.point.Read.{DoesRead, Opens, Read}
use Rattle.lsm_readers.specs.point.Table.{OpenTable}
use Rattle.lsm_readers.proofs.LentReads.{placed_there}
use Rattle.lsm_runs.specs.RunPlaces.{IsThere, run_place, placed_in_run, placed_in_runs}
use Rattle.lsm_runs.specs.declared.lent_gets.RunPlace.{RunPlace}
use Rattle.lsm_runs.proofs.RunReads.{found_is}

-- ---- the index of the table whose range has a key

module _ {T : Type 0} (f : T → Interval) (key : List ℕ) (ts : List T)
    (ordered : are_in_order (map f ts) ≡ true) where
  abbrev low : ℕ
  low = how_many (ends_before (Included key)) (map f ts)

  abbrev starts : List T → ℕ
  starts rest = how_many (starts_within (Included key)) (map f rest)

  abbrev at_first : Option (ℕ × ℕ) → Option T
  at_first ends = option_and_then (λ (e : ℕ × ℕ). slice_get ts e.0) ends

  first_there : (n : ℕ) (xs rest : List T) (t : T) → (t ∷ rest) ≡ drop n xs
      → Some t ≡ slice_get xs n
  first_there zero [] rest t is = absurd cc
  first_there zero (x ∷ xs) rest t is = let same : t ≡ x = cc in ap (λ (y : T). Some y) same
  first_there (suc n) [] rest t is = absurd cc
  first_there (suc n) (x ∷ xs) rest t is = first_there n xs rest t is

  by_rest : (rest : List T) → rest ≡ drop low ts
      → at_first (first_and_last low (starts rest)) ≡ table_of_key f key ts
  by_rest [] is = key_none f key ts [] low ordered refl is refl
  by_rest (t ∷ rest) is = elim (cases_Bool (key_le (f t).min key)) [
    | inl within ↦
        let some : starts (t ∷ rest) ≡ suc (starts rest) = rw within refl in
        ap at_first (first_and_last-some low (starts (t ∷ rest))
        (λ zero. absurd (omega (arith, some, zero))))
        ∙ sym (first_there low ts rest t is)
        ∙ key_found f key ts (t ∷ rest) low ordered refl is t refl within
    | inr past ↦
        let order = rest_in_order f ts (t ∷ rest) low is ordered in
        let none : starts (t ∷ rest) ≡ 0 = rw past (none_count f (starts_within (Included key))
        (falls-starts_within (Included key)) t rest order past) in
        ap (λ (m : ℕ). at_first (first_and_last low m)) none
        ∙ key_past f key ts (t ∷ rest) low ordered refl is t refl past
  ]

  map_drop : (n : ℕ) (xs : List T) → map f (drop n xs) ≡ drop n (map f xs)
  map_drop zero xs = refl
  map_drop (suc n) [] = refl
  map_drop (suc n) (x ∷ xs) = map_drop n xs

  -- the first index of what reaches a key is that of the table whose range has it
  pub index_of_key : at_first (overlap_indexes (Included key) (Included key) (map f ts))
      ≡ table_of_key f key ts
  index_of_key = ap (λ (rs : List Interval). at_first (first_and_last low
      (how_many (starts_within (Included key)) rs))) (sym (map_drop low ts))
      ∙ by_rest (drop low ts) refl

-- ---- what was found in a table of a run

module _ (tables : List OpenTable) (t : OpenTable) (run at : ℕ)
    (is : slice_get tables at ≡ Some t) where
  one_there : (p : EntryPlace) → IsPlacedIn t.bytes p
      → placed_in_run tables (run_place run at p) ≡ Some (entry_placed t.bytes p)
  one_there p there = ap (option_and_then (λ (u : OpenTable). placed_in u.bytes p)) is
      ∙ placed_there t.bytes p there

  abbrev AreThere : Result (Option EntryPlace) Error → Type 0
  AreThere found = IfOk found (λ o. IfSome o (IsPlacedIn t.bytes))

  -- it is the entry of the table's bytes
  pub seen_there : (found : Result (Option EntryPlace) Error) → AreThere found
      → result_map (option_and_then (placed_in_run tables))
      (result_map (option_map (run_place run at)) found)
      ≡ result_map (option_map (entry_placed t.bytes)) found
  seen_there (Ok None) there = refl
  seen_there (Ok (Some p)) there = ap (λ (o : Option Entry). found_is o) (one_there p there)
  seen_there (Err e) there = refl

  pub all_there : (found : Result (Option EntryPlace) Error) → AreThere found
      → IfOk (result_map (option_map (run_place run at)) found)
      (λ o. IfSome o (λ p. is_some (placed_in_run tables p) ≡ true))
  all_there (Ok None) there = tt
  all_there (Ok (Some p)) there = ap is_some (one_there p there)
  all_there (Err e) there = tt

  pub all_numbered : (found : Result (Option EntryPlace) Error)
      → IfOk (result_map (option_map (run_place run at)) found) (λ o. IfSome o (λ p. p.run ≡ run))
  all_numbered (Ok None) = tt
  all_numbered (Ok (Some p)) = refl
  all_numbered (Err e) = tt

-- ---- an entry in one run is one in several

module _ (runs : List (List OpenTable)) (tables : List OpenTable) (n : ℕ)
    (there : slice_get runs n ≡ Some tables) where
  in_runs : (p : RunPlace) → p.run ≡ n → placed_in_runs runs p ≡ placed_in_run tables p
  in_runs p is = ap (λ (i : ℕ). option_and_then (λ (ts : List OpenTable). placed_in_run ts p)
      (slice_get runs i)) is
      ∙ ap (option_and_then (λ (ts : List OpenTable). placed_in_run ts p)) there

  found_in_runs : (found : Option RunPlace) → IfSome found (λ p. p.run ≡ n)
      → option_and_then (placed_in_run tables) found ≡ option_and_then (placed_in_runs runs) found
  found_in_runs None is = refl
  found_in_runs (Some p) is = sym (in_runs p is)

  -- so of what was found, or the error
  seen_in_runs : (r : Result (Option RunPlace) Error)
      → IfOk r (λ found. IfSome found (λ p. p.run ≡ n))
      → result_map (option_and_then (placed_in_run tables)) r
      ≡ result_map (option_and_then (placed_in_runs runs)) r
  seen_in_runs (Ok found) is = ap (λ (o : Option Entry). found_is o) (found_in_runs found is)
  seen_in_runs (Err e) is = refl

  pub does_in_runs : (r : Result (Option RunPlace) Error) (read : Read (Option Entry))
      (own : Opened) → IfOk r (λ found. IfSome found (λ p. p.run ≡ n))
      → DoesRead in_memory (result_map (option_and_then (placed_in_run tables)) r) read none_opened own
      → DoesRead in_memory (result_map (option_and_then (placed_in_runs runs)) r) read none_opened own
  does_in_runs r read own is does =
      subst (λ (s : Result (Option Entry) Error). DoesRead in_memory s read none_opened own)
      (seen_in_runs r is) does

  pub there_in_runs : (found : Option RunPlace) → IfSome found (λ p. p.run ≡ n)
      → IfSome found (λ p. is_some (placed_in_run tables p) ≡ true) → IfSome found (IsThere runs)
  there_in_runs None is some = tt
  there_in_runs (Some p) is some = ap is_some (in_runs p is) ∙ some

abbrev pub found_place : Option RunPlace → Result (Option RunPlace) Error
found_place found = Ok found

abbrev pub refused_place : Error → Result (Option RunPlace) Error
refused_place e = Err e

-- one of two
pub one_of : {X : Type 0} (P : X → Type 0) (a b c : Option X) → (c ≡ a) ⊎ (c ≡ b) → IfSome a P
    → IfSome b P → IfSome c P
one_of P a b c (inl is) here there = subst (λ (o : Option _). IfSome o P) (sym is) here
one_of P a b c (inr is) here there = subst (λ (o : Option _). IfSome o P) (sym is) there

-- ---- what was found, borrowed

module _ (entry : RunPlace → Option Entry) (found : Result (Option RunPlace) Error)
    (lent : Result (Option EntryRef) Error)
    (same : result_map (option_map entry_of_ref) lent ≡ result_map (option_and_then entry) found) where
  pub lent_gives : (returned : Result (Option Entry) Error) → Gives (option_and_then entry) found returned
      → Gives (option_map entry_of_ref) lent returned
  lent_gives returned h = gives_seen (option_map entry_of_ref) lent returned
      (subst (λ (r : Result (Option Entry) Error). Gives (λ (x : Option Entry). x) r returned)
      (sym same) (gives_by (option_and_then entry) found returned h))

  pub lent_does : (read : Read (Option Entry)) (o o' : Opened)
      → Gives (option_and_then entry) found read.returned → FaultsFirst found read.early
      → Opens found read.loads o o' → (read.loads ≡ [] → IsOk found)
      → DoesRead in_memory (result_map (option_map entry_of_ref) lent) read o o'
  lent_does read o o' returned first opens calm =
      subst (λ (r : Result (Option Entry) Error). DoesRead in_memory r read o o') (sym same)
      (does_by (option_and_then entry) in_memory found read o o' returned first opens calm)
