-- The handles left of a loaded block, and one step at an end of it.
use Rattle.std.specs.Prelude.{◌≡◌, List, [], Option, Some, None, Result, Ok, Err}
use Rattle.std.specs.Option.{option_map}
use Rattle.sst_entries.specs.declared.error.Error.{Error}
use Rattle.sst_entries.specs.declared.error.Error.TheVariants.{OutOfMemory}
use Rattle.sst_entries.specs.Span.{Span, rest_in}
pub use Rattle.lsm_iters.specs.walk.Ends.{rest_of}
use Rattle.sst_blocks.specs.Handle.{Handle}
use Rattle.sst_blocks.specs.Place.{Place, place_of}

-- A step takes the handle at the end, or returns `None` if none is left. It may fail with
-- `OutOfMemory`; then nothing is left.
abbrev pub PartGives : (List Handle → Option Handle × List Handle) → List Handle
    → Option (Result Handle Error) → List Handle → Type 0
PartGives end hs None ts = (hs ≡ []) × (ts ≡ [])
PartGives end hs (Some (Ok h)) ts = ((end hs).0 ≡ Some h) × (ts ≡ (end hs).1)
PartGives end hs (Some (Err e)) ts = (e ≡ OutOfMemory) × (hs ≡ [] → ⊥) × (ts ≡ [])

-- A step takes the handle at the end and returns its block's offset and size, or `None`.
pub record PlaceGives (end : List Handle → Option Handle × List Handle) (s : Span Handle)
    (place : Option Place) (t : Span Handle) : Type 0 where
  pub returned : place ≡ option_map place_of (end (rest_in s)).0
  pub rest : rest_in t ≡ (end (rest_in s)).1
  pub list : t.list ≡ s.list

-- A step's result with the block's offset and size in place of the handle.
abbrev pub placed : Option (Result Handle Error) → Option (Result Place Error)
placed None = None
placed (Some (Ok h)) = Some (Ok (place_of h))
placed (Some (Err e)) = Some (Err e)

-- A step that returns the offset and size of the block whose handle is taken.
pub record TakesPlace {S : Type 0} (takes : S → Option (Result Handle Error) → S → Type 0) (s : S)
    (place : Option (Result Place Error)) (t : S) : Type 0 where
  pub handle : Option (Result Handle Error)
  pub step : takes s handle t
  pub returned : place ≡ placed handle
