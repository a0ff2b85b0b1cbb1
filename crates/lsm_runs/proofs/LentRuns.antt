-- One step of a reader of a run that lends its entries.
use Rattle.std.proofs.Common.{◌≡◌, Bool, true, false, refl, sym, ap, subst, ◌∙◌, arith}
use Rattle.std.specs.Prelude.{Option, Some, None, Result, Ok, Err, is_some}
use Rattle.std.specs.Option.{option_map}
use Rattle.sst_entries.specs.declared.error.Error.{Error}
use Rattle.sst_entries.specs.declared.stream.Direction.TheVariants.{Front}
use Rattle.sst_entries.specs.Entry.{Entry}
use Rattle.sst_entries.specs.Lending.{came}
use Rattle.sst_entries.specs.Stream.{first}
use Rattle.lsm_iters.specs.declared.walk.Walk.{Walk}
use Rattle.lsm_iters.specs.walk.Ends.{IsOver, remains_in}
use Rattle.lsm_iters.specs.walk.Parts.{LoadGives}
use Rattle.lsm_iters.specs.walk.Walks.{WalkTakes}
use Rattle.lsm_iters.proofs.Reaching.{Going, Reached, entered, fault, item, kept, rest, starts}
use Rattle.lsm_iters.specs.Lending.{RangeLends}
use Rattle.lsm_iters.specs.Lift.{lifted_result}
use Rattle.lsm_iters.specs.Range.{LendsOn, Range, range_remains}
use Rattle.lsm_iters.proofs.Moved.{none_to_come, takes_moved}
use Rattle.lsm_iters.proofs.RangeLaws.{range_step}
use Rattle.lsm_iters.proofs.Ranges.{none_on}
use Rattle.lsm_runs.specs.LentRun.{ReaderLends, RunLends, Stands, lent_of_reader, over_run}
use Rattle.lsm_runs.specs.RunRange.{run_of}
use Rattle.lsm_run_parts.specs.Tables.{Unopened}
use Rattle.lsm_run_parts.specs.Tables.{KeepsTables, coming_tables, none_unopened}
use Rattle.lsm_runs.proofs.RunSteps.{R, run_gives}

abbrev given : Option Entry → Option R
given l = option_map (λ e. Ok e) l

some_there : (l : Option Entry) → is_some l ≡ true → (e : Entry) × (l ≡ Some e)
some_there None is = let wrong : false ≡ true = is in absurd cc
some_there (Some e) is = (e, refl)

pub none_there : (l : Option Entry) → is_some l ≡ false → l ≡ None
none_there None is = refl
none_there (Some e) is = let wrong : true ≡ false = is in absurd cc

-- ---- the reader of one table

module _ {A : Type 0} where
  stands_none : (x : R) → Stands {A = A} None x → ⊥
  stands_none x stands = let wrong : None ≡ Some stands.range = stands.is in absurd cc

  stands_there : (s : Range A) (r : Option R) (t : Range A) → RangeLends s r t
      → (x : R) → Stands (Some s) x → r ≡ Some x
  stands_there s r t step x stands =
      let same : s ≡ stands.range = let is : Some s ≡ Some stands.range = stands.is in cc in
      step.there (ap (λ (u : Range A). u.handles.sought) same ∙ stands.sought) stands.entry
      (ap (λ (u : Range A). first u.front) same ∙ ap first stands.front)
      ∙ ap (λ (u : Range A). Some (lifted_result u.of.global_seqno stands.entry)) same
      ∙ ap (λ (y : R). Some y) (sym stands.returned)

  pub reader_lends : (s : Range A) (r : Option R) (t : Range A) → RangeLends s r t
      → ReaderLends (Some s) r (Some t)
  reader_lends s r t step = record {
    gives = range_step Front s t r step.gives;
    there = stands_there s r t step;
  }

  pub none_lends : ReaderLends {A = A} None None None
  none_lends = record {
    gives = record {
      answer = (refl, record { results = refl; loads = refl });
      loads = omega arith;
    };
    there = λ x stands. absurd (stands_none x stands);
  }

-- ---- the walk

abbrev W : Type 0 → Type 0
W A = Walk Unopened (Range A)

module _ {A : Type 0} where
  abbrev Takes_to : W A → Option R → W A → Type 0
  Takes_to s r u = WalkTakes range_remains coming_tables KeepsTables Front s r u

  -- from s the step has come to u; what stood in a loaded block of the first table stands there yet
  pub record Comes (s u : W A) : Type 0 where
    pub going : Going range_remains coming_tables KeepsTables Front s
        u
    pub unmoved : (x : R) → Stands s.front x → Stands u.front x

  pub comes_first : (s : W A) → Comes s s
  comes_first s = record {
    going = starts range_remains coming_tables KeepsTables Front s;
    unmoved = λ x stands. stands;
  }

  abbrev with_front : W A → Option (Range A) → W A
  with_front u o = record u { front = o }

  -- what the step gives
  pub record Lends (s : W A) (r : Option R) (t : W A) : Type 0 where
    pub takes : Takes_to s r t
    pub there : (x : R) → Stands s.front x → r ≡ Some x

  module _ (s u : W A) (o : Option (Range A)) (comes : Comes s u) where
    -- an entry of the table at the front, or an error in its place
    pub lends_item : (x : R) → ReaderLends u.front (Some x) o → Lends s (Some x) (with_front u o)
    lends_item x lends = record {
      takes = item range_remains coming_tables KeepsTables Front s
          u (with_front u o) x comes.going lends.gives refl;
      there = λ y stands. lends.there y (comes.unmoved y stands);
    }

    pub lends_entry : is_some (lent_of_reader o) ≡ true
        → ReaderLends u.front (came (Ok true) (lent_of_reader o)) o
        → Lends s (came (Ok true) (lent_of_reader o)) (with_front u o)
    lends_entry some lends =
        let l = some_there (lent_of_reader o) some in
        let here : ReaderLends u.front (Some (Ok l.0)) o =
        subst (λ (k : Option Entry). ReaderLends u.front (given k) o) l.1 lends in
        subst (λ (k : Option Entry). Lends s (given k) (with_front u o)) (sym l.1)
        (lends_item (Ok l.0) here)

    -- or the table has no more
    module _ (none : lent_of_reader o ≡ None)
        (lends : ReaderLends u.front (came (Ok false) (lent_of_reader o)) o) where
      nothing : ReaderLends u.front None o
      nothing = subst (λ (k : Option Entry). ReaderLends u.front (given k) o) none lends

      none_here : (x : R) → Stands s.front x → ⊥
      none_here x stands =
          let wrong : None ≡ Some x = nothing.there x (comes.unmoved x stands) in cc

      there_kept : Reached range_remains coming_tables KeepsTables Front s
          (with_front u o)
      there_kept = kept range_remains coming_tables KeepsTables Front s
          u (with_front u o) comes.going.reached nothing.gives
          refl

      over_front : IsOver (remains_in range_remains o)
      over_front = nothing.gives.answer.1

      -- the next table was opened
      pub comes_on : (p : Unopened) (part : Range A)
          → LoadGives (range_remains {A = A}) coming_tables KeepsTables Front u.parts
          (Some (Ok part)) p → Comes s (record u { parts = p; front = Some part })
      comes_on p part loads = record {
        going = entered range_remains coming_tables KeepsTables Front s (with_front u o)
            (record u { parts = p; front = Some part }) p part there_kept over_front.results loads
            refl;
        unmoved = λ x stands. absurd (none_here x stands);
      }

      -- it could not be opened
      pub lends_fault : (p : Unopened) (e : Error)
          → LoadGives (range_remains {A = A}) coming_tables KeepsTables Front u.parts
          (Some (Err e)) p → Lends s (Some (Err e)) (record u { parts = p; front = o })
      lends_fault p e loads = record {
        takes = fault (range_remains {A = A}) coming_tables KeepsTables Front s
            (with_front u o) (record u { parts = p; front = o }) e
            there_kept over_front.results loads refl refl;
        there = λ x stands. absurd (none_here x stands);
      }

      -- none is to come, and the table at the back is left, and comes to the front
      pub lends_rest : (p : Unopened) (b : Option (Range A)) (r : Result Bool Error)
          → LoadGives (range_remains {A = A}) coming_tables KeepsTables Front u.parts None p
          → ReaderLends u.back (came r (lent_of_reader b)) b
          → Lends s (came r (lent_of_reader b)) (record { parts = p; front = b; back = o })
      lends_rest p b r loads last = record {
        takes = takes_moved (range_remains {A = A}) coming_tables KeepsTables Front s
            (record { parts = p; front = o; back = b }) over_front.results
            (none_to_come (range_remains {A = A}) coming_tables KeepsTables Front u.parts p loads)
            (came r (lent_of_reader b))
            (rest (range_remains {A = A}) coming_tables KeepsTables Front s
            (with_front u o) (record u { parts = p; front = o })
            (record { parts = p; front = o; back = b })
            (came r (lent_of_reader b)) there_kept over_front loads refl refl last.gives refl);
        there = λ x stands. absurd (none_here x stands);
      }

      -- the same, of the walk that the load left
      pub lends_last : (v n : W A) (r : Result Bool Error)
          → LoadGives (range_remains {A = A}) coming_tables KeepsTables Front u.parts None v.parts
          → v ≡ record u { parts = v.parts; front = o }
          → n ≡ record v { front = n.front; back = v.front }
          → ReaderLends v.back (came r (lent_of_reader n.front)) n.front
          → Lends s (came r (lent_of_reader n.front)) n
      lends_last v n r loads was is last =
          let back : v.back ≡ u.back = ap (λ (w : W A). w.back) was in
          let front : v.front ≡ o = ap (λ (w : W A). w.front) was in
          let from_u : ReaderLends u.back (came r (lent_of_reader n.front)) n.front =
          subst (λ (b : Option (Range A)). ReaderLends b (came r (lent_of_reader n.front))
          n.front) back last in
          let after : n ≡ record { parts = v.parts; front = n.front; back = o } =
          is ∙ ap (λ (b : Option (Range A)).
          record { parts = v.parts; front = n.front; back = b }) front in
          subst (λ (m : W A). Lends s (came r (lent_of_reader n.front)) m) (sym after)
          (lends_rest v.parts n.front r loads from_u)

  -- ---- the run

  lends_on : (s n : W A) (l : Option Entry) → Lends s (given l) n
      → LendsOn (given l) (lent_of_reader n.front) → RunLends (run_of s) (given l) (run_of n)
  lends_on s n None lends on = record {
    gives = run_gives Front s n None
        (record { taken = n; takes = lends.takes; goes = refl }) on;
    there = lends.there;
  }
  lends_on s n (Some e) lends on = record {
    gives = run_gives Front s n (Some (Ok e))
        (record { taken = n; takes = lends.takes; goes = refl }) on;
    there = lends.there;
  }

  pub lends_run : (s n : W A) → Lends s (given (lent_of_reader n.front)) n
      → RunLends (run_of s) (given (lent_of_reader n.front)) (run_of n)
  lends_run s n lends = lends_on s n (lent_of_reader n.front) lends (λ e is. ap given is)

  abbrev ended_walk : W A → W A
  ended_walk n = record { parts = none_unopened n.parts; front = None; back = None }

  pub lends_error : (s n : W A) (e : Error) → Lends s (Some (Err e)) n
      → RunLends (run_of s) (Some (Err e)) (over_run (run_of n))
  lends_error s n e lends = record {
    gives = run_gives Front s (ended_walk n) (Some (Err e)) (record {
      taken = n;
      takes = lends.takes;
      goes = record {
        front = refl;
        back = refl;
        done = record { parts = refl; loads = refl };
        kept = refl;
      };
    }) (none_on (Some (Err e)));
    there = lends.there;
  }
