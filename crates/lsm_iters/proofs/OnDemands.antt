-- One call of an iterator on demand.
use Rattle.std.proofs.Common.{◌≡◌, false, List, [], ◌∷◌, refl, sym, ap, ◌∙◌, arith}
use Rattle.std.specs.Prelude.{Option, Some, None, Ok, Err}
use Rattle.sst_entries.specs.declared.error.Error.{Error}
use Rattle.sst_entries.specs.Error.{FaultsFirst, is_memory}
use Rattle.sst_entries.specs.Stream.{ok_results}
use Rattle.sst_blocks.specs.declared.opened.Opened.{Opened}
use Rattle.sst_blocks.specs.Handle.{Handle}
use Rattle.lsm_iters.specs.block_index.Index.{block_between, block_early}
use Rattle.lsm_iters.specs.block_index.Left.{OnDemand, OnDemandGives, on_demand_left, demanded}
use Rattle.lsm_iters.specs.block_index.Left.{demand_early, demands, with_index_loads}
use Rattle.lsm_iters.specs.block_index.Seen.{PartGives}
use Rattle.lsm_iters.proofs.IndexAtEnds.{R, End, Carries, at_part, part_ends}

-- what was loaded had no fault, and a fault that is found early is the one that is told
no_fault : {X : Type 0} (x : X) (fault : Option Error) (f : Error)
    → FaultsFirst {X = X} (Ok x) fault → fault ≡ Some f → ⊥
no_fault x fault f first is = let wrong : Some f ≡ None = first f is in absurd cc

same_fault : (e f : Error) (fault : Option Error) → FaultsFirst {X = List Handle} (Err e) fault
    → fault ≡ Some f → f ≡ e
same_fault e f fault first is = let same : Some f ≡ Some e = first f is in cc

-- of a block that was loaded before
pub demand_item : (of : End) (end : List Handle → Option Handle × List Handle) → Carries end of
    → (s : OnDemand) (hs ts : List Handle) (r : Option R)
    → s.part ≡ Some hs → PartGives end hs r ts → OnDemandGives of s r (record s { part = Some ts })
demand_item of end carries s hs ts r is gives =
    let t : OnDemand = record s { part = Some ts } in
    let fits : demands s.part ≡ 0 = ap demands is in
    record {
      gives = record {
        answer = at_part of end carries (on_demand_left s) (on_demand_left t) hs ts r
            (ap (demanded s) is) refl refl gives;
        ends = part_ends end (on_demand_left t) hs ts r refl refl gives;
        index = refl;
        loads = record { count = 0; counts = refl; within = omega (arith, fits) };
      };
      once = sym fits;
      kept = refl;
      first = λ f early. let wrong : None ≡ Some f = sym (ap (demand_early s) is) ∙ early in
          absurd cc;
    }

-- of the block that this call loads
pub demand_first : (of : End) (end : List Handle → Option Handle × List Handle) → Carries end of
    → (s : OnDemand) (hs ts : List Handle) (r : Option R) (o : Opened)
    → s.part ≡ None → o ≡ with_index_loads 1 s.opened → ok_results hs
    ≡ block_between s.body s.lower s.upper s.place
    → FaultsFirst {X = List Handle} (Ok hs) (block_early s.body s.place) → PartGives end hs r ts
    → OnDemandGives of s r (record s { part = Some ts; opened = o })
demand_first of end carries s hs ts r o none counted returned early gives =
    let t : OnDemand = record s { part = Some ts; opened = o } in
    let one : demands s.part ≡ 1 = ap demands none in
    record {
      gives = record {
        answer = at_part of end carries (on_demand_left s) (on_demand_left t) hs ts r
            (ap (demanded s) none ∙ sym returned) refl refl gives;
        ends = part_ends end (on_demand_left t) hs ts r refl refl gives;
        index = refl;
        loads = record { count = 1; counts = counted; within = omega (arith, one) };
      };
      once = sym one;
      kept = refl;
      first = λ f is. absurd (no_fault hs (block_early s.body s.place) f early
          (sym (ap (demand_early s) none) ∙ is));
    }

-- and where it cannot be loaded
pub demand_fault : (of : End) → ((e : Error) → (of (Err e ∷ [])).0 ≡ Some (Err e))
    → (s : OnDemand) (e : Error) (o : Opened)
    → s.part ≡ None → o ≡ with_index_loads 1 s.opened → (is_memory e ≡ false
    → Err e ∷ [] ≡ block_between s.body s.lower s.upper s.place)
    → FaultsFirst {X = List Handle} (Err e) (block_early s.body s.place)
    → OnDemandGives of s (Some (Err e)) (record s { part = Some []; opened = o })
demand_fault of alone s e o none counted returned early =
    let one : demands s.part ≡ 1 = ap demands none in
    record {
      gives = record {
        answer = (
          λ fine. ap (λ (rs : List R). (of rs).0) (ap (demanded s) none ∙ sym (returned fine))
              ∙ alone e,
          λ over. omega (arith, over.loads, one),
        );
        ends = record { results = refl; loads = refl };
        index = refl;
        loads = record { count = 1; counts = counted; within = omega (arith, one) };
      };
      once = sym one;
      kept = refl;
      first = λ f is. ap (λ (x : Error). Some (Err x))
          (sym (same_fault e f (block_early s.body s.place) early
          (sym (ap (demand_early s) none) ∙ is)));
    }
