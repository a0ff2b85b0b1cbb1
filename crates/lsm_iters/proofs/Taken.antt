-- Taking the offset and size of the next block, by kind.
use Rattle.std.proofs.Common.{◌≡◌, ℕ, false, List, [], ◌∷◌, refl, ap, ◌∙◌, arith}
use Rattle.std.specs.Prelude.{Option, Some, None, Result, Ok, Err}
use Rattle.std.specs.Option.{option_map}
use Rattle.sst_entries.specs.declared.error.Error.{Error}
use Rattle.sst_entries.specs.declared.stream.Direction.{Direction}
use Rattle.sst_entries.specs.declared.stream.Direction.TheVariants.{Front, Back}
use Rattle.sst_entries.specs.Error.{FaultsFirst, is_memory}
use Rattle.sst_entries.specs.Span.{Span, rest_in}
use Rattle.sst_entries.specs.Stream.{ok_results}
use Rattle.sst_blocks.specs.declared.opened.Opened.{Opened}
use Rattle.sst_blocks.specs.Handle.{Handle}
use Rattle.sst_blocks.specs.Place.{Place, place_of}
use Rattle.lsm_iters.specs.block_index.Index.{block_between, block_early, full}
use Rattle.lsm_iters.specs.block_index.Left.{Left, LeftGives, OnDemand, OnDemandGives, TwoLevel}
use Rattle.lsm_iters.specs.block_index.Left.{TwoLevelGives, on_demand_left, span_left}
use Rattle.lsm_iters.specs.block_index.Left.{fault_at, needs_at, two_level_left, with_index_loads}
use Rattle.lsm_iters.specs.block_index.Seen.{PartGives, PlaceGives, TakesPlace}
use Rattle.lsm_iters.specs.Range.{none_left}
use Rattle.lsm_iters.specs.walk.Ends.{taken_at}
use Rattle.lsm_iters.proofs.AtEnds.{first_alone, none_taken, nothing_behind}
use Rattle.lsm_iters.proofs.IndexAtEnds.{Carries, at_part, carries_back, carries_front, part_ends}
use Rattle.lsm_iters.proofs.OnDemands.{demand_fault, demand_first, demand_item}

carries_at : (at : Direction) → Carries (taken_at at) (taken_at at)
carries_at Front = carries_front
carries_at Back = carries_back

-- ---- of the handles left of a block

abbrev found : Option Place → Option (Result Place Error)
found None = None
found (Some p) = Some (Ok p)

place_there : (at : Direction) (hs ts : List Handle) (o : Option Handle) (place : Option Place)
    → (taken_at at hs).0 ≡ o → place ≡ option_map place_of o → ts ≡ (taken_at at hs).1
    → TakesPlace (PartGives (taken_at at)) hs (found place) ts
place_there at hs ts None place none is rest =
    let empty = none_taken at hs none in
    record {
      handle = None;
      step = (
        empty,
        rest ∙ ap (λ (xs : List Handle). (taken_at at xs).1) empty ∙ nothing_behind at,
      );
      returned = ap (λ (p : Option Place). found p) is;
    }
place_there at hs ts (Some h) place first is rest = record {
  handle = Some (Ok h);
  step = (first, rest);
  returned = ap (λ (p : Option Place). found p) is;
}

pub place_found : (at : Direction) (s t : Span Handle) (p : Place)
    → PlaceGives (taken_at at) s (Some p) t
    → TakesPlace (PartGives (taken_at at)) (rest_in s) (Some (Ok p)) (rest_in t)
place_found at s t p step =
    place_there at (rest_in s) (rest_in t) (taken_at at (rest_in s)).0 (Some p) refl step.returned
    step.rest

pub place_none : (at : Direction) (s t : Span Handle) → PlaceGives (taken_at at) s None t
    → TakesPlace (PartGives (taken_at at)) (rest_in s) None (rest_in t)
place_none at s t step =
    place_there at (rest_in s) (rest_in t) (taken_at at (rest_in s)).0 None refl step.returned
    step.rest

pub no_place : (at : Direction) → TakesPlace (PartGives (taken_at at)) [] None []
no_place at = record { handle = None; step = (refl, refl); returned = refl }

-- ---- of a block that stays loaded

pub span_place : (at : Direction) (s t : Span Handle) (place : Option (Result Place Error))
    → TakesPlace (PartGives (taken_at at)) (rest_in s) place (rest_in t) → t.list ≡ s.list
    → TakesPlace (LeftGives (taken_at at)) (span_left s) place (span_left t)
span_place at s t place took same = record {
  handle = took.handle;
  step = record {
    answer = at_part (taken_at at) (taken_at at) (carries_at at) (span_left s) (span_left t)
        (rest_in s) (rest_in t) took.handle refl refl refl took.step;
    ends = part_ends (taken_at at) (span_left t) (rest_in s) (rest_in t) took.handle refl refl
        took.step;
    index = ap full same;
    loads = record { count = 0; counts = refl; within = omega arith };
  };
  returned = took.returned;
}

-- ---- of a block on demand

module _ (at : Direction) (s : OnDemand) where
  pub demand_place : (hs ts : List Handle) (place : Option (Result Place Error)) → s.part ≡ Some hs
      → TakesPlace (PartGives (taken_at at)) hs place ts
      → TakesPlace (OnDemandGives (taken_at at)) s place (record s { part = Some ts })
  demand_place hs ts place is took = record {
    handle = took.handle;
    step = demand_item (taken_at at) (taken_at at) (carries_at at) s hs ts took.handle is
        took.step;
    returned = took.returned;
  }

  pub demand_place_first : (hs ts : List Handle) (place : Option (Result Place Error)) (o : Opened)
      → s.part ≡ None → o ≡ with_index_loads 1 s.opened
      → ok_results hs ≡ block_between s.body s.lower s.upper s.place
      → FaultsFirst {X = List Handle} (Ok hs) (block_early s.body s.place)
      → TakesPlace (PartGives (taken_at at)) hs place ts
      → TakesPlace (OnDemandGives (taken_at at)) s place
      (record s { part = Some ts; opened = o })
  demand_place_first hs ts place o none counted returned early took = record {
    handle = took.handle;
    step = demand_first (taken_at at) (taken_at at) (carries_at at) s hs ts took.handle o none
        counted returned early took.step;
    returned = took.returned;
  }

  pub demand_place_fault : (e : Error) (o : Opened) → s.part ≡ None
      → o ≡ with_index_loads 1 s.opened
      → (is_memory e ≡ false → Err e ∷ [] ≡ block_between s.body s.lower s.upper s.place)
      → FaultsFirst {X = List Handle} (Err e) (block_early s.body s.place)
      → TakesPlace (OnDemandGives (taken_at at)) s (Some (Err e))
      (record s { part = Some []; opened = o })
  demand_place_fault e o none counted returned early = record {
    handle = Some (Err e);
    step = demand_fault (taken_at at) (λ f. first_alone at (Err f)) s e o none counted returned
        early;
    returned = refl;
  }

-- ---- of what is left

abbrev placed_at : ℕ → ℕ → Place
placed_at offset size = record { offset = offset; size = size }

module _ {S : Type 0} (takes : S → Option (Result Handle Error) → S → Type 0) (s t : S) where
  pub handle_taken : (h : Handle) (p : Place) → p.offset ≡ h.offset → p.size ≡ h.size
      → takes s (Some (Ok h)) t → TakesPlace takes s (Some (Ok p)) t
  handle_taken h p offset_is size_is step =
      let same : p ≡ place_of h = ap (λ (n : ℕ). placed_at n p.size) offset_is
      ∙ ap (λ (n : ℕ). placed_at h.offset n) size_is in
      record {
        handle = Some (Ok h);
        step = step;
        returned = ap (λ (q : Place). Some (Ok q)) same;
      }

  pub fault_taken : (e : Error) → takes s (Some (Err e)) t → TakesPlace takes s (Some (Err e)) t
  fault_taken e step = record { handle = Some (Err e); step = step; returned = refl }

  pub none_left_taken : takes s None t → TakesPlace takes s None t
  none_left_taken step = record { handle = None; step = step; returned = refl }

-- ---- the steps of the two kinds that load are steps of what is left

pub demand_left : (at : Direction) (s t : OnDemand) (place : Option (Result Place Error))
    → TakesPlace (OnDemandGives (taken_at at)) s place t
    → TakesPlace (LeftGives (taken_at at)) (on_demand_left s) place (on_demand_left t)
demand_left at s t place took =
    record { handle = took.handle; step = took.step.gives; returned = took.returned }

pub levels_left : (at : Direction) (s t : TwoLevel) (place : Option (Result Place Error))
    → TakesPlace (TwoLevelGives (taken_at at) (needs_at at) (fault_at at)) s place t
    → TakesPlace (LeftGives (taken_at at)) (two_level_left s) place (two_level_left t)
levels_left at s t place took =
    record { handle = took.handle; step = took.step.gives; returned = took.returned }

pub left_over : (at : Direction) (l : Left)
    → TakesPlace (LeftGives (taken_at at)) (none_left l) None (none_left l)
left_over at l = none_left_taken (LeftGives (taken_at at)) (none_left l) (none_left l) (record {
  answer = (refl, record { results = refl; loads = refl });
  ends = tt;
  index = refl;
  loads = record { count = 0; counts = refl; within = omega arith };
})
