-- What is asked of one block: a read of it, whether it is loaded or walked over.
use Rattle.std.proofs.Common.{◌≡◌, ℕ, ◌+◌, ◌^◌, ◌<◌, List, refl, ap, subst, arith}
use Rattle.std.specs.Prelude.{Option, Some, None, Result, Ok, Err, IfSome}
use Rattle.std.specs.Option.{option_map}
use Rattle.std.specs.Result.{IsErrAnd}
use Rattle.sst_entries.specs.declared.error.Error.{Error}
use Rattle.sst_entries.specs.Entry.{Entry}
use Rattle.sst_entries.specs.Error.{Fails, FaultsFirst, Gives}
use Rattle.sst_entries.specs.Point.{point}
use Rattle.sst_blocks.specs.declared.block_type.BlockType.{BlockType}
use Rattle.sst_blocks.specs.declared.block_type.BlockType.TheVariants.{Data}
use Rattle.sst_blocks.specs.declared.opened.Opened.{Opened}
use Rattle.sst_blocks.specs.Asked.{point_of, result_map}
use Rattle.sst_blocks.specs.Block.{Loaded, entries_of, load_result, place_fault}
use Rattle.sst_blocks.specs.Opened.{with_load}
use Rattle.sst_blocks.specs.Place.{Place}
use Rattle.lsm_readers.specs.point.Answer.{lifted, match_at}
use Rattle.lsm_readers.specs.point.Read.{◌>>=◌, DoesRead, block_read, read_map}
use Rattle.sst_blocks.proofs.Points.{point_below}
use Rattle.sst_blocks.specs.Access.{Access, IsInMemory}
use Rattle.lsm_readers.proofs.ReadLaws.{one_load, refusal, result}
use Rattle.lsm_readers.proofs.Recovered.{first_from}
use Rattle.lsm_readers.proofs.Steps.{passes_fault}

mapped : {X Y : Type 0} (f : X → Y) (returned : Result X Error)
    → result_map f returned ≡ (returned >>= λ x. Ok (f x))
mapped f (Ok x) = refl
mapped f (Err e) = refl

-- a call that answers what is asked of a block reads it
pub asked : {X : Type 0} (access : Access) (f : Loaded → X) (body : List ℕ) (place : Place)
    (kind : BlockType) (o o' : Opened) (r : Result X Error) → o' ≡ with_load kind o
    → Gives (λ (x : X). x) r (result_map f (load_result body place.offset place.size kind))
    → (IsInMemory access → FaultsFirst r (place_fault body place.offset place.size kind))
    → DoesRead access r (read_map f (block_read body place kind)) o o'
asked {X} access f body place kind o o' r counted returned first = record {
  returned = subst (λ (t : Result X Error). Gives (λ (x : X). x) r t)
      (mapped f (load_result body place.offset place.size kind)) returned;
  early = first;
  opens = one_load r kind o o' counted;
  calm = λ none. absurd cc;
}

-- a match in a block has a number below the bound
pub match_below : (returned : Result Loaded Error) (key : List ℕ) (bound : ℕ) (e : Entry)
    → result_map (point_of key bound) returned ≡ Ok (Some e) → e.seqno < bound
match_below (Ok b) key bound e is =
    let found : point (entries_of b) key bound ≡ Some e = cc in
    point_below (entries_of b) key bound e found
match_below (Err f) key bound e is = absurd cc

-- ---- a match whose number is lifted

map_fails : {X Y Z : Type 0} (f : X → Y) (h : X → Z) (returned : Result X Error) (e : Error)
    → result_map f returned ≡ Err e → result_map h returned ≡ Err e
map_fails f h (Ok x) e is = absurd cc
map_fails f h (Err d) e is = cc

map_goes : {X Y Z : Type 0} (f : X → Y) (h : Y → Z) (returned : Result X Error) (y : Y)
    → result_map f returned ≡ Ok y → result_map (λ x. h (f x)) returned ≡ Ok (h y)
map_goes {Y = Y} f h (Ok x) y is = let same : f x ≡ y = cc in ap (λ (z : Y). result (h z)) same
map_goes f h (Err e) y is = absurd cc

module _ (access : Access) (body : List ℕ) (g : ℕ) (key : List ℕ) (n : ℕ) (place : Place)
    (o o' : Opened) (counted : o' ≡ with_load Data o) where
  abbrev lifted_point : Loaded → Option Entry
  lifted_point b = option_map (lifted g) (point_of key n b)

  pub match_fails : (e : Error) (r : Result (Option Entry) Error) → IsErrAnd r (λ y. y ≡ e)
      → Fails e (result_map (point_of key n) (load_result body place.offset place.size Data))
      → (IsInMemory access → FaultsFirst (refusal (Option Entry) e)
      (place_fault body place.offset place.size Data))
      → DoesRead access r (match_at body g key n place) o o'
  match_fails e r is fails first =
      let returned = load_result body place.offset place.size Data in
      asked access lifted_point body place Data o o' r counted
      (passes_fault (λ (x : Option Entry). x) r (result_map lifted_point returned) e is
      (λ memory. map_fails (point_of key n) lifted_point returned e (fails memory)))
      (λ at. first_from r e (place_fault body place.offset place.size Data) is (first at))

  pub match_goes : (found : Option Entry) → result_map (point_of key n)
      (load_result body place.offset place.size Data) ≡ Ok found
      → (IsInMemory access → FaultsFirst (result found)
      (place_fault body place.offset place.size Data))
      → DoesRead access (result (option_map (lifted g) found)) (match_at body g key n place) o o'
  match_goes found is first =
      asked access lifted_point body place Data o o' (result (option_map (lifted g) found)) counted
      (map_goes (point_of key n) (option_map (lifted g))
      (load_result body place.offset place.size Data) found is)
      first

-- it fits with a number added that fits with the bound
pub lift_fits : (returned : Result Loaded Error) (key : List ℕ) (bound add : ℕ) (found : Option Entry)
    → bound + add < 2 ^ 64 → result_map (point_of key bound) returned ≡ Ok found
    → IfSome found (λ e. e.seqno + add < 2 ^ 64)
lift_fits returned key bound add None fits is = tt
lift_fits returned key bound add (Some e) fits is =
    let below : e.seqno < bound = match_below returned key bound e is in
    omega (arith, below, fits)

-- one that is visible fits with a number that fits with the bound
pub visible_fits : (found : Option Entry) (bound add : ℕ) → bound + add < 2 ^ 64
    → IfSome found (λ e. e.seqno < bound) → IfSome found (λ e. e.seqno + add < 2 ^ 64)
visible_fits None bound add fits below = tt
visible_fits (Some e) bound add fits below = omega (arith, below, fits)
