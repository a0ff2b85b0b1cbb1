-- A point read that borrows: what a place in the table's bytes has.
use Rattle.std.proofs.Common.{◌≡◌, ℕ, List, [], refl, sym, subst}
use Rattle.std.proofs.lemmas.Bool.{le-ltb}
use Rattle.std.specs.Prelude.{Option, Some, Result, IsOk, length}
use Rattle.std.specs.Option.{option_map}
use Rattle.sst_entries.specs.declared.entry_ref.EntryRef.{EntryRef}
use Rattle.sst_entries.specs.declared.error.Error.{Error}
use Rattle.sst_entries.specs.Entry.{Entry}
use Rattle.sst_entries.specs.Error.{FaultsFirst, Gives}
use Rattle.sst_entries.specs.Lending.{entry_of_ref}
use Rattle.sst_blocks.specs.declared.entry_place.EntryPlace.{EntryPlace}
use Rattle.sst_blocks.specs.declared.opened.Opened.{Opened}
use Rattle.sst_blocks.specs.Access.{in_memory}
use Rattle.sst_blocks.specs.Asked.{result_map}
use Rattle.sst_blocks.specs.EntryPlace.{IsPlacedIn, entry_placed, placed_in}
use Rattle.lsm_readers.specs.point.Read.{DoesRead, Opens, Read}
use Rattle.lsm_readers.proofs.ReadViews.{does_by, gives_by, gives_seen}

-- within the bytes there is an entry
pub placed_there : (bytes : List ℕ) (p : EntryPlace) → IsPlacedIn bytes p
    → placed_in bytes p ≡ Some (entry_placed bytes p)
placed_there bytes p there = rw (
  le-ltb p.value_at p.key_at there.0,
  le-ltb p.end p.value_at there.1,
  le-ltb (length bytes) p.end there.2,
) refl

module _ (bytes : List ℕ) (found : Result (Option EntryPlace) Error)
    (lent : Result (Option EntryRef) Error)
    (same : result_map (option_map entry_of_ref) lent
    ≡ result_map (option_map (entry_placed bytes)) found) where
  -- what is borrowed answers as its place
  pub lent_gives : (returned : Result (Option Entry) Error)
      → Gives (option_map (entry_placed bytes)) found returned
      → Gives (option_map entry_of_ref) lent returned
  lent_gives returned h = gives_seen (option_map entry_of_ref) lent returned
      (subst (λ (r : Result (Option Entry) Error). Gives (λ (x : Option Entry). x) r returned)
      (sym same) (gives_by (option_map (entry_placed bytes)) found returned h))

  pub lent_does : (read : Read (Option Entry)) (o o' : Opened)
      → Gives (option_map (entry_placed bytes)) found read.returned → FaultsFirst found read.early
      → Opens found read.loads o o' → (read.loads ≡ [] → IsOk found)
      → DoesRead in_memory (result_map (option_map entry_of_ref) lent) read o o'
  lent_does read o o' returned first opens calm =
      subst (λ (r : Result (Option Entry) Error). DoesRead in_memory r read o o') (sym same)
      (does_by (option_map (entry_placed bytes)) in_memory found read o o' returned first opens calm)
