-- What an entry that is lent, or shared, changes of a range.
use Rattle.std.proofs.Common.{◌≡◌, ◌∙◌, ℕ, Bool, List, true, false, refl, sym, ap, subst}
use Rattle.std.proofs.Common.{arith}
use Rattle.std.specs.Prelude.{Option, Some, None, Ok, Err, is_some}
use Rattle.std.specs.Option.{option_map}
use Rattle.sst_blocks.specs.Cursor.{Cursor}
use Rattle.sst_entries.specs.declared.error.Error.{Error}
use Rattle.sst_entries.specs.declared.error.Error.TheVariants.{OutOfMemory}
use Rattle.sst_entries.specs.declared.stream.Direction.{Direction}
use Rattle.sst_entries.specs.declared.stream.Direction.TheVariants.{Front, Back}
use Rattle.sst_entries.specs.Entry.{Entry}
use Rattle.lsm_iters.specs.block_index.Left.{Left}
use Rattle.lsm_iters.specs.walk.Ends.{taken_at}
use Rattle.lsm_iters.specs.walk.Walks.{near, with_near}
use Rattle.lsm_iters.proofs.AtEnds.{not_memory}
use Rattle.lsm_iters.specs.Blocks.{range_at, range_lending}
use Rattle.lsm_iters.specs.Lending.{RangeLendsAt, behind_in, lent_in}
use Rattle.lsm_iters.specs.Lift.{lifted}
use Rattle.lsm_iters.specs.Range.{CountsBlocks, Range, RangeGives, left_unless, next_at, range_left}
use Rattle.lsm_iters.specs.Steps.{over, without_lent}
use Rattle.lsm_iters.proofs.Cursors.{given}
use Rattle.lsm_iters.proofs.RangeEnds.{shortens_at}
use Rattle.lsm_iters.proofs.Ranges.{none_on}
use Rattle.lsm_iters.proofs.Walked.{W}

-- a lifted entry is there where the entry is
pub lifted_some : (g : ℕ) (l : Option Entry) → is_some (option_map (lifted g) l) ≡ true
    → is_some l ≡ true
lifted_some g None is = is
lifted_some g (Some e) is = refl

unless_index : (b : Bool) (l : Left) → (left_unless b l).index ≡ l.index
unless_index true l = refl
unless_index false l = refl

unless_opened : (b : Bool) (l : Left) → (left_unless b l).opened ≡ l.opened
unless_opened true l = refl
unless_opened false l = refl

module _ {A : Type 0} where
  -- ---- where the entry that came cannot be shared

  ended_counts : {needed : ℕ} (s t : Range A) → CountsBlocks needed s t
      → CountsBlocks needed s (over t)
  ended_counts s t c = record {
    blocks = c.blocks;
    counts = c.counts;
    within = omega (arith, c.within);
    most = c.most;
    index = c.index;
    index_counts = sym (unless_opened t.handles.ended _) ∙ c.index_counts;
    index_within = omega (arith, c.index_within);
  }

  pub gives_unshared : (at : Direction) (s t : Range A) (e : Error) (x : Entry)
      → RangeGives (taken_at at) (next_at at) s (Some (Ok x)) t → e ≡ OutOfMemory
      → RangeGives (taken_at at) (next_at at) s (Some (Err e)) (over t)
  unfolding ended_counts
  gives_unshared at s t e x gives memory = record {
    answer = (
      λ fine. absurd (not_memory e memory fine),
      λ ended. omega (
        arith,
        ended,
        shortens_at at (range_left s) (range_left t) (Ok x) gives.answer,
      ),
    );
    ends = refl;
    of = gives.of;
    index = sym (unless_index t.handles.ended _) ∙ gives.index;
    initialized = refl;
    loads = ended_counts s t gives.loads;
    exact = λ fine. absurd (not_memory e memory fine);
    first = λ f early all. let wrong : Some (Ok x) ≡ Some (Err f) = gives.first f early all in
        absurd cc;
    lent = none_on (Some (Err e));
  }

  -- what came, where an entry is lent
  pub came_there : (at : Direction) (s t : Range A) (l : Option Entry) (x : Entry)
      → RangeLendsAt at s (given l) t → l ≡ Some x
      → RangeGives (taken_at at) (next_at at) s (Some (Ok x)) t
  came_there at s t l x lends is =
      subst (λ (k : Option Entry). RangeGives (taken_at at) (next_at at) s (given k) t) is
      lends.gives

  pub came_none : (at : Direction) (s t : Range A) (l : Option Entry)
      → RangeLendsAt at s (given l) t → l ≡ None → RangeGives (taken_at at) (next_at at) s None t
  came_none at s t l lends is =
      subst (λ (k : Option Entry). RangeGives (taken_at at) (next_at at) s (given k) t) is
      lends.gives

  -- a walk that lends nothing at an end
  pub walk_unlent : (at : Direction) (w : W A) (part : Option Cursor) → lent_in part ≡ None
      → behind_in part ≡ behind_in (near at w)
      → range_at at (with_near at w part) ≡ without_lent (range_at at w)
  walk_unlent Front w part none left =
      ap (λ (l : Option Entry). range_lending (record w { front = part })
      (option_map (lifted w.parts.of.global_seqno) l)) none
      ∙ ap (λ (es : List Entry). record (range_lending w None) { front = es }) left
  walk_unlent Back w part none left =
      ap (λ (l : Option Entry). range_lending (record w { back = part })
      (option_map (lifted w.parts.of.global_seqno) l)) none
      ∙ ap (λ (es : List Entry). record (range_lending w None) { back = es }) left
