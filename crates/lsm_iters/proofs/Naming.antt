-- One load of a data block, as a load of a part of a walk.
use Rattle.std.proofs.Common.{◌≡◌, false, true, [], ◌∷◌, map, refl, sym, ap, subst, ◌∙◌, arith}
use Rattle.std.specs.Prelude.{IfErr, IfOk, Option, Some, None, Result, Ok, Err}
use Rattle.sst_entries.specs.declared.error.Error.{Error}
use Rattle.sst_entries.specs.declared.stream.Direction.{Direction}
use Rattle.sst_entries.specs.Entry.{Entry}
use Rattle.sst_entries.specs.Error.{FaultsFirst, is_memory}
use Rattle.sst_entries.specs.Stream.{ok_results}
use Rattle.sst_blocks.specs.declared.block_type.BlockType.TheVariants.{Data}
use Rattle.sst_blocks.specs.Block.{place_fault}
use Rattle.sst_blocks.specs.Cursor.{Cursor}
use Rattle.sst_blocks.specs.Handle.{Handle}
use Rattle.sst_blocks.specs.Place.{Place, place_of}
use Rattle.lsm_iters.specs.block_index.Left.{Left, LeftGives}
use Rattle.lsm_iters.specs.block_index.Seen.{TakesPlace, placed}
use Rattle.lsm_iters.specs.walk.Ends.{taken_at}
use Rattle.lsm_iters.specs.walk.Parts.{Coming, LoadGives, Loading, Names, ReportsOf}
use Rattle.lsm_iters.proofs.Instances.{refused_first}
use Rattle.lsm_iters.proofs.AtEnds.{map_first, map_none, map_taken}
use Rattle.lsm_iters.specs.Blocks.{Blocks, KeepsBlocks, block_named, coming_blocks, stored_at}
use Rattle.lsm_iters.specs.Blocks.{stored_rows}
use Rattle.lsm_iters.specs.Lending.{cursor_remains}
use Rattle.lsm_iters.specs.Range.{data_loaded, left_in}
use Rattle.lsm_iters.specs.Rows.{Bounded}
use Rattle.lsm_iters.proofs.Cursors.{none_own}
use Rattle.lsm_iters.proofs.Ranges.{H}

abbrev named_in : Bounded → Option H → Option (Result (Loading Entry) Error)
named_in b None = None
named_in b (Some x) = Some (block_named b x)

abbrev coming_in : Bounded → Left → Coming Entry
coming_in b l = record { parts = map (block_named b) l.results; loads = l.loads }

names_by : (at : Direction) (b : Bounded) (s t : Left) (x : Option H)
    → LeftGives (taken_at at) s x t → Names at (coming_in b s) (named_in b x) (coming_in b t)
names_by at b s t None step = (
  ap (map (block_named b)) step.answer.0,
  record
      { parts = ap (map (block_named b)) step.answer.1.results; loads = step.answer.1.loads },
)
names_by at b s t (Some (Ok h)) step = map_taken (block_named b) at s.results t.results
    (Ok h) step.answer
names_by at b s t (Some (Err e)) step = (
  λ fine. map_first (block_named b) at s.results (Err e) (step.answer.0 fine),
  λ done. step.answer.1 (record {
    results = map_none (block_named b) s.results done.parts;
    loads =
        done.loads;
  }),
  record { parts = ap (map (block_named b)) step.ends.results; loads = step.ends.loads },
)

reports_block : (b : Bounded) (h : Handle) (r : Result Cursor Error)
    → IfOk r (λ c. ok_results c.behind ≡ stored_rows b h)
    → IfErr r (λ e. is_memory e ≡ false → Err e ∷ [] ≡ stored_rows b h)
    → ReportsOf cursor_remains (Some (block_named b (Ok h))) (Some r)
reports_block b h (Ok es) ok err = ok
reports_block b h (Err e) ok err = err

module _ {A : Type 0} (at : Direction) (s m : Blocks A) (is : m ≡ record s { handles = m.handles })
    (sought : m.handles.sought ≡ true) where
  same_of : m.of ≡ s.of
  same_of = ap (λ (x : Blocks A). x.of) is

  names : (x : Option H) → LeftGives (taken_at at) (left_in s.handles) x (left_in m.handles)
      → Names at (coming_blocks s) (named_in s.of x) (coming_blocks m)
  names x step =
      subst (λ (b : Bounded). Names at (coming_blocks s) (named_in s.of x)
      (coming_in b (left_in m.handles))) (sym same_of)
      (names_by at s.of (left_in s.handles) (left_in m.handles) x step)

  block_taken : (t : Blocks A) (h : Handle) (r : Result Cursor Error)
      → LeftGives (taken_at at) (left_in s.handles) (Some (Ok h)) (left_in m.handles)
      → IfOk r (λ c. ok_results c.behind ≡ stored_rows m.of h)
      → IfErr r (λ e. is_memory e ≡ false → Err e ∷ [] ≡ stored_rows m.of h)
      → FaultsFirst r (place_fault m.of.body h.offset h.size Data)
      → t ≡ record m { opened = data_loaded 1 m.opened }
      → LoadGives cursor_remains coming_blocks KeepsBlocks at s (Some r) t
  block_taken t h r step ok err first last =
      subst (λ (x : Blocks A). LoadGives cursor_remains coming_blocks KeepsBlocks at s (Some r) x)
      (sym last) (record {
        named = named_in s.of (Some (Ok h));
        names = names (Some (Ok h)) step;
        returned = subst (λ (b : Bounded). ReportsOf cursor_remains (Some (block_named b (Ok h))) (Some r))
            same_of (reports_block m.of h r ok err);
        loads = omega (arith, none_own r, step.loads.within);
        first = λ f early. refused_first r f (first f
            (ap (λ (b : Bounded). place_fault b.body h.offset h.size Data) same_of ∙ early));
        kept = record {
          of = same_of;
          index = step.index;
          sought = sought;
          counts =
              ap (λ (x : Blocks A). data_loaded 1 x.opened) is;
          loads = step.loads;
        };
      })

  index_failed : (e : Error) → LeftGives (taken_at at) (left_in s.handles) (Some (Err e))
      (left_in m.handles) → LoadGives cursor_remains coming_blocks KeepsBlocks at s (Some (Err e)) m
  index_failed e step = record {
    named = named_in s.of (Some (Err e));
    names = names (Some (Err e)) step;
    returned = refl;
    loads = omega (arith, step.loads.within);
    first = λ f early. let wrong : None ≡ Some f = early in absurd cc;
    kept = record {
      of = same_of;
      index = step.index;
      sought = sought;
      counts =
          ap (λ (x : Blocks A). x.opened) is;
      loads = step.loads;
    };
  }

  none_named : LeftGives (taken_at at) (left_in s.handles) None (left_in m.handles)
      → LoadGives cursor_remains coming_blocks KeepsBlocks at s None m
  none_named step = record {
    named = None;
    names = names None step;
    returned = refl;
    loads = omega (arith, step.loads.within);
    first = λ f early. let wrong : None ≡ Some f = early in absurd cc;
    kept = record {
      of = same_of;
      index = step.index;
      sought = sought;
      counts =
          ap (λ (x : Blocks A). x.opened) is;
      loads = step.loads;
    };
  }

  -- the same by the offset and size of the block

  taken_of : (t : Blocks A) (p : Place) (r : Result Cursor Error) (x : Option H)
      → Some (Ok p) ≡ placed x
      → LeftGives (taken_at at) (left_in s.handles) x (left_in m.handles)
      → IfOk r (λ c. ok_results c.behind ≡ stored_at m.of p)
      → IfErr r (λ e. is_memory e ≡ false → Err e ∷ [] ≡ stored_at m.of p)
      → FaultsFirst r (place_fault m.of.body p.offset p.size Data)
      → t ≡ record m { opened = data_loaded 1 m.opened }
      → LoadGives cursor_remains coming_blocks KeepsBlocks at s (Some r) t
  taken_of t p r None is step ok err first last =
      let wrong : ◌≡◌ {A = Option (Result Place Error)} (Some (Ok p)) None = is in absurd cc
  taken_of t p r (Some (Err e)) is step ok err first last =
      let wrong : ◌≡◌ {A = Option (Result Place Error)} (Some (Ok p)) (Some (Err e)) = is in absurd cc
  taken_of t p r (Some (Ok h)) is step ok err first last =
      let whole : ◌≡◌ {A = Option (Result Place Error)} (Some (Ok p)) (Some (Ok (place_of h))) = is in
      let same : p ≡ place_of h = cc in
      block_taken t h r step
      (subst (λ (q : Place). IfOk r (λ c. ok_results c.behind ≡ stored_at m.of q)) same ok)
      (subst (λ (q : Place). IfErr r (λ e. is_memory e ≡ false → Err e ∷ [] ≡ stored_at m.of q)) same
      err)
      (subst (λ (q : Place). FaultsFirst r (place_fault m.of.body q.offset q.size Data)) same first)
      last

  pub place_taken : (t : Blocks A) (p : Place) (r : Result Cursor Error)
      → TakesPlace (LeftGives (taken_at at)) (left_in s.handles) (Some (Ok p)) (left_in m.handles)
      → IfOk r (λ c. ok_results c.behind ≡ stored_at m.of p)
      → IfErr r (λ e. is_memory e ≡ false → Err e ∷ [] ≡ stored_at m.of p)
      → FaultsFirst r (place_fault m.of.body p.offset p.size Data)
      → t ≡ record m { opened = data_loaded 1 m.opened }
      → LoadGives cursor_remains coming_blocks KeepsBlocks at s (Some r) t
  place_taken t p r took ok err first last =
      taken_of t p r took.handle took.returned took.step ok err first last

  failed_of : (e : Error) (x : Option H) → Some (Err e) ≡ placed x
      → LeftGives (taken_at at) (left_in s.handles) x (left_in m.handles)
      → LoadGives cursor_remains coming_blocks KeepsBlocks at s (Some (Err e)) m
  failed_of e None is step = let wrong : ◌≡◌ {A = Option (Result Place Error)} (Some (Err e)) None = is in absurd cc
  failed_of e (Some (Ok h)) is step =
      let wrong : ◌≡◌ {A = Option (Result Place Error)} (Some (Err e)) (Some (Ok (place_of h))) = is in absurd cc
  failed_of e (Some (Err f)) is step =
      let whole : ◌≡◌ {A = Option (Result Place Error)} (Some (Err e)) (Some (Err f)) = is in
      let same : f ≡ e = cc in
      index_failed e (subst (λ (x : Error). LeftGives (taken_at at) (left_in s.handles)
      (Some (Err x)) (left_in m.handles)) same step)

  pub place_failed : (e : Error)
      → TakesPlace (LeftGives (taken_at at)) (left_in s.handles) (Some (Err e)) (left_in m.handles)
      → LoadGives cursor_remains coming_blocks KeepsBlocks at s (Some (Err e)) m
  place_failed e took = failed_of e took.handle took.returned took.step

  none_of_them : (x : Option H) → None ≡ placed x
      → LeftGives (taken_at at) (left_in s.handles) x (left_in m.handles)
      → LoadGives cursor_remains coming_blocks KeepsBlocks at s None m
  none_of_them None is step = none_named step
  none_of_them (Some (Ok h)) is step =
      let wrong : ◌≡◌ {A = Option (Result Place Error)} None (Some (Ok (place_of h))) = is in absurd cc
  none_of_them (Some (Err e)) is step =
      let wrong : ◌≡◌ {A = Option (Result Place Error)} None (Some (Err e)) = is in absurd cc

  pub no_place_taken : TakesPlace (LeftGives (taken_at at)) (left_in s.handles) None (left_in m.handles)
      → LoadGives cursor_remains coming_blocks KeepsBlocks at s None m
  no_place_taken took = none_of_them took.handle took.returned took.step
