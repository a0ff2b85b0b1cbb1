-- Positions within a table's bytes have the entries that a list of answers shows. Assumes `Logic`.
use Rattle.std.proofs.Common.{◌≡◌, ℕ, List, [], ◌∷◌, true, false, refl, sym, ap, ◌∙◌}
use Rattle.std.specs.Prelude.{map, IfErr, IfOk, IfSome, Option, Some, None, Result, Ok, Err}
use Rattle.std.specs.List.{All}
use Rattle.std.specs.Option.{option_and_then, option_map}
use Rattle.std.proofs.lemmas.List.Elements.{All-head, All-tail}
use Rattle.sst_entries.specs.Entry.{Entry}
use Rattle.sst_entries.specs.Error.{Gives, is_memory}
use Rattle.sst_entries.specs.declared.error.Error.{Error}
use Rattle.sst_entries.specs.declared.error.Error.TheVariants.{OutOfMemory}
use Rattle.sst_blocks.specs.EntryPlace.{IsPlacedIn, entry_placed, placed_in}
use Rattle.sst_blocks.specs.declared.entry_place.EntryPlace.{EntryPlace}
use Rattle.lsm_readers.proofs.LentReads.{placed_there}
use Rattle.lsm_readers.specs.point.Batch.{entries_placed}

module _ (bytes : List ℕ) where
  abbrev IsThere : Option EntryPlace → Type 0
  IsThere place = IfSome place (IsPlacedIn bytes)

  one_there : (place : Option EntryPlace) → IsThere place
      → option_and_then (placed_in bytes) place ≡ option_map (entry_placed bytes) place
  one_there None is = refl
  one_there (Some place) is = placed_there bytes place is

  -- positions that are within the bytes show the entries there
  pub all_there : (places : List (Option EntryPlace)) → All IsThere places
      → map (option_and_then (placed_in bytes)) places ≡ entries_placed bytes places
  all_there [] are = refl
  all_there (place ∷ places) are =
      ap (λ (e : Option Entry). e ∷ map (option_and_then (placed_in bytes)) places)
      (one_there place (All-head IsThere place places are))
      ∙ ap (λ (es : List (Option Entry)). option_map (entry_placed bytes) place ∷ es)
      (all_there places (All-tail IsThere place places are))

abbrev answered : List (Option Entry) → Result (List (Option Entry)) Error
answered es = Ok es

-- a list made of the entries that reads return, unless memory runs out
pub gives_list : (r : Result (List (Option Entry)) Error) (es : List (Option Entry))
    (returned : Result (List (Option Entry)) Error) → returned ≡ Ok es → IfOk r (λ found. found ≡ es)
    → IfErr r (λ e. e ≡ OutOfMemory) → Gives (λ (found : List (Option Entry)). found) r returned
gives_list (Ok found) es returned is ok err = is ∙ ap answered (sym ok)
gives_list (Err e) es returned is ok err = λ other.
    absurd (let wrong : true ≡ false = ap is_memory (sym err) ∙ other in cc)
