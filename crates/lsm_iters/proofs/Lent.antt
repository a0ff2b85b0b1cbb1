-- One step of a range that lends its entries.
use Rattle.std.proofs.Common.{◌≡◌, ℕ, ◌+◌, ◌-◌, ◌^◌, ◌<◌, Bool, true, false, List, [], refl}
use Rattle.std.proofs.Common.{sym, ap, subst, ◌∙◌, arith}
use Rattle.std.proofs.lemmas.Bool.{ltb-false}
use Rattle.std.specs.Prelude.{Option, Some, None, Result, Ok, Err, is_some, nat_lt}
use Rattle.std.specs.Prelude.{IfErr, IfOk, if◌then◌else◌}
use Rattle.sst_blocks.specs.Cursor.{Cursor}
use Rattle.sst_entries.specs.declared.error.Error.{Error}
use Rattle.sst_entries.specs.declared.error.Error.TheVariants.{OutOfMemory, SeqNoOverflow}
use Rattle.sst_entries.specs.declared.stream.Direction.{Direction}
use Rattle.sst_entries.specs.declared.stream.Direction.TheVariants.{Front, Back}
use Rattle.sst_entries.specs.Entry.{Entry}
use Rattle.sst_entries.specs.Lending.{came}
use Rattle.lsm_iters.specs.walk.Ends.{IsOver, StepGives, remains_in, taken_at}
use Rattle.lsm_iters.specs.walk.Parts.{IsDone, LoadGives}
use Rattle.lsm_iters.specs.walk.Walks.{WalkTakes, far, near, with_far, with_near}
use Rattle.lsm_iters.proofs.Reaching.{Going, Reached, entered, fault, item, kept, parts_far}
use Rattle.lsm_iters.proofs.Reaching.{parts_near, rest, starts}
use Rattle.lsm_iters.specs.Blocks.{Blocks, KeepsBlocks, coming_blocks, lent_at, range_at}
use Rattle.lsm_iters.specs.Blocks.{range_lending}
use Rattle.lsm_iters.specs.Bounds.{lower_edge, upper_edge}
use Rattle.lsm_iters.specs.Lending.{LendsAt, RangeLendsAt, behind_in, cursor_remains, lent_in}
use Rattle.lsm_iters.specs.Lift.{lifted, lifted_result, global_seqno_result}
use Rattle.lsm_iters.specs.Range.{LendsOn, Range, RangeGives, left_in, next_at}
use Rattle.lsm_iters.specs.Rows.{Bounded}
use Rattle.lsm_iters.specs.Steps.{LoadsNone, SeeksOnce, lifted_answer, over, stopped}
use Rattle.lsm_iters.proofs.Cursors.{given, lent_step, some_lent}
use Rattle.lsm_iters.proofs.Moved.{far_put, moved_walk, near_stays, none_to_come, parts_stay}
use Rattle.lsm_iters.proofs.Moved.{put_moved, takes_moved}
use Rattle.lsm_iters.proofs.Ranges.{R, none_on}
use Rattle.lsm_iters.proofs.Walked.{W, walk_refused, walk_steps}

-- ---- the blocks of a range

module _ {A : Type 0} (at : Direction) where
  abbrev Going_on : W A → W A → Type 0
  Going_on s u = Going cursor_remains coming_blocks KeepsBlocks at s u

  abbrev Takes_to : W A → Option R → W A → Type 0
  Takes_to s r u = WalkTakes cursor_remains coming_blocks KeepsBlocks at s r u

  -- what comes next of the block that is loaded at the end
  abbrev pub next_of : W A → Option Entry
  next_of w = (taken_at at (behind_in (near at w))).0

  -- from s the step has come to u; the next entry is as it was, where the first block has one
  pub record Comes (s u : W A) : Type 0 where
    pub going : Going_on s u
    pub unmoved : (e : Entry) → next_of s ≡ Some e → next_of u ≡ Some e

  pub comes_first : (s : W A) → Comes s s
  comes_first s = record {
    going = starts cursor_remains coming_blocks KeepsBlocks at s;
    unmoved = λ e is. is;
  }

  -- what the step gives
  pub record Lends (s : W A) (r : Option R) (t : W A) : Type 0 where
    pub takes : Takes_to s r t
    pub there : (e : Entry) → next_of s ≡ Some e → r ≡ Some (Ok e)

  module _ (s u v : W A) (comes : Comes s u) (is : v ≡ with_near at u (near at v))
      (moved : LendsAt at (near at u) (near at v)) where
    lent_is : lent_in (near at v) ≡ next_of u
    lent_is = ap (λ (x : Option Entry × List Entry). x.0) moved

    step_is : (l : Option Entry) → lent_in (near at v) ≡ l
        → StepGives at (remains_in cursor_remains (near at u)) (given l)
        (remains_in cursor_remains (near at v))
    step_is l lent = lent_step at (near at u) (near at v) l
        (ap (λ (k : Option Entry). (k, behind_in (near at v))) (sym lent) ∙ moved)

    -- an entry of the block at the end
    pub lends_item : is_some (lent_in (near at v)) ≡ true
        → Lends s (came (Ok true) (lent_in (near at v))) v
    lends_item some =
        let l = some_lent (lent_in (near at v)) some in
        let was : Some (Ok l.0) ≡ came (Ok true) (lent_in (near at v)) = ap given (sym l.1) in
        record {
          takes = subst (λ (r : Option R). Takes_to s r v) was
              (item cursor_remains coming_blocks KeepsBlocks at s u v (Ok l.0) comes.going
              (step_is (Some l.0) l.1) is);
          there = λ e here. sym was ∙ ap given (sym l.1 ∙ lent_is ∙ comes.unmoved e here);
        }

    -- or the block has no more
    module _ (none : lent_in (near at v) ≡ None) where
      none_here : (e : Entry) → next_of s ≡ Some e → ⊥
      none_here e here =
          let wrong : None ≡ Some e = sym none ∙ lent_is ∙ comes.unmoved e here in cc

      there_kept : Reached cursor_remains coming_blocks KeepsBlocks at s v
      there_kept = kept cursor_remains coming_blocks KeepsBlocks at s u v comes.going.reached
          (step_is None none) is

      over_near : IsOver (remains_in cursor_remains (near at v))
      over_near = (step_is None none).answer.1

      -- the next block was loaded
      pub comes_on : (p : Blocks A) (part : Cursor) (w : W A)
          → LoadGives cursor_remains coming_blocks KeepsBlocks at v.parts (Some (Ok part)) p
          → w ≡ with_near at (record v { parts = p }) (Some part) → Comes s w
      comes_on p part w loads put = record {
        going = entered cursor_remains coming_blocks KeepsBlocks at s v w p part there_kept
            over_near.results loads put;
        unmoved = λ e here. absurd (none_here e here);
      }

      -- it could not be loaded
      pub lends_fault : (p : Blocks A) (e : Error)
          → LoadGives cursor_remains coming_blocks KeepsBlocks at v.parts (Some (Err e)) p
          → Lends s (Some (Err e)) (record v { parts = p })
      lends_fault p e loads = record {
        takes = fault cursor_remains coming_blocks KeepsBlocks at s v (record v { parts = p }) e
            there_kept over_near.results loads
            (parts_near cursor_remains coming_blocks at v p)
            (parts_far cursor_remains coming_blocks at v p);
        there = λ x here. absurd (none_here x here);
      }

      -- none is to come, and the block at the other end is left, and comes to this one
      pub lends_rest : (w n : W A) (more : Bool) → w ≡ record v { parts = w.parts }
          → LoadGives cursor_remains coming_blocks KeepsBlocks at v.parts None w.parts
          → n ≡ with_near at (moved_walk w) (near at n) → LendsAt at (far at w) (near at n)
          → Lends s (came (Ok more) (lent_in (near at n))) n
      lends_rest w n more load_is loads put last =
          let o = near at n in
          let x : W A = with_far at w o in
          let near_is : near at w ≡ near at v =
          ap (near at) load_is ∙ parts_near cursor_remains coming_blocks at v w.parts in
          let far_is : far at w ≡ far at v =
          ap (far at) load_is ∙ parts_far cursor_remains coming_blocks at v w.parts in
          let step : StepGives at (remains_in cursor_remains (far at w)) (given (lent_in o))
          (remains_in cursor_remains (far at x)) =
          subst (λ (b : Option Cursor). StepGives at (remains_in cursor_remains (far at w))
          (given (lent_in o)) (remains_in cursor_remains b)) (sym (far_put at w o))
          (lent_step at (far at w) o (lent_in o) last) in
          let taken : Takes_to s (given (lent_in o)) x =
          rest cursor_remains coming_blocks KeepsBlocks at s v w x (given (lent_in o)) there_kept
          over_near loads near_is far_is step (ap (with_far at w) (sym (far_put at w o))) in
          let over : (remains_in cursor_remains (near at x)).results ≡ [] =
          ap (λ (b : Option Cursor). (remains_in cursor_remains b).results)
          (near_stays at w o ∙ near_is) ∙ over_near.results in
          let done : IsDone (coming_blocks x.parts) =
          subst (λ (p : Blocks A). IsDone (coming_blocks p)) (sym (parts_stay at w o))
          (none_to_come cursor_remains coming_blocks KeepsBlocks at v.parts w.parts loads) in
          record {
            takes = subst (λ (m : W A). Takes_to s (given (lent_in o)) m)
                (sym (put ∙ put_moved at w o))
                (takes_moved cursor_remains coming_blocks KeepsBlocks at s x over done
                (given (lent_in o)) taken);
            there = λ e here. absurd (none_here e here);
          }

-- ---- a number that is lifted

fits_by : {X : Type 0} (past : Bool) (k m : ℕ) (x : X)
    → ◌≡◌ {A = Result ℕ Error} (Ok m) (if past then Err SeqNoOverflow else Ok k)
    → (past ≡ false) × (◌≡◌ {A = Result X Error} (if past then Err SeqNoOverflow else Ok x) (Ok x))
fits_by true k m x returned = absurd cc
fits_by false k m x returned = (refl, refl)

pub number_fits : (g m : ℕ) (e : Entry) → Ok m ≡ global_seqno_result g e.seqno
    → (e.seqno + g < 2 ^ 64) × (lifted_result g e ≡ Ok (lifted g e))
number_fits g m e returned =
    let fits = fits_by (nat_lt (2 ^ 64 - 1) (e.seqno + g)) (e.seqno + g) m (lifted g e) returned in
    (omega (arith, ltb-false (2 ^ 64 - 1) (e.seqno + g) fits.0), fits.1)

-- ---- the range

stopped_entry : {A : Type 0} (l : Option Entry) (t : Range A) → stopped (given l) t ≡ t
stopped_entry None t = refl
stopped_entry (Some e) t = refl

-- what is lent, where it is what came
pub came_on : {A : Type 0} (r : Result Bool Error) (t : Range A)
    → LendsOn (came r t.lent) (stopped (came r t.lent) t).lent
came_on {A = A} (Ok more) t =
    subst (λ (u : Range A). LendsOn (given t.lent) u.lent) (sym (stopped_entry t.lent t))
    (λ e is. ap given is)
came_on {A = A} (Err e) t = none_on (Some (Err e))

stopped_of : {A : Type 0} (q : Option R) (t : Range A) → (stopped q t).of ≡ t.of
stopped_of None t = refl
stopped_of (Some (Ok e)) t = refl
stopped_of (Some (Err e)) t = refl

entries_at : {A : Type 0} (at : Direction) (w : W A) (k : Option Entry)
    → (next_at at (range_lending w k)).entries ≡ behind_in (near at w)
entries_at Front w k = refl
entries_at Back w k = refl

module _ {A : Type 0} (at : Direction) (k : Option Entry) where
  abbrev with_parts : W A → Blocks A → W A
  with_parts w p = record w { parts = p }

  -- one step, before an error ends the range
  pub record Steps_on (s : W A) (q : Option R) (n : W A) : Type 0 where
    pub gives : RangeGives (taken_at at) (next_at at) (range_lending s k) q
        (stopped q (range_at at n))
    pub there : s.parts.handles.sought ≡ true → (e : Entry)
        → (taken_at at (next_at at (range_lending s k)).entries).0 ≡ Some e
        → q ≡ Some (lifted_result s.parts.of.global_seqno e)

  module _ (s : W A) (p : Blocks A) (is : p ≡ record s.parts { handles = p.handles })
      (none : LoadsNone (left_in s.parts.handles) (left_in p.handles))
      (sought : p.handles.sought ≡ true) where
    pub steps_refused : (e : Error) → e ≡ OutOfMemory → s.parts.handles.sought ≡ false
        → RangeLendsAt at (range_lending s k) (Some (Err e))
        (over (range_at at (with_parts s p)))
    steps_refused e memory once = record {
      gives = walk_refused k at s p e is none sought memory once;
      there = λ was x here. let wrong : true ≡ false = sym was ∙ once in absurd cc;
    }

    near_parts : near at (with_parts s p) ≡ near at s
    near_parts = parts_near cursor_remains coming_blocks at s p

    pub steps_by : (n : W A) (r q : Option R)
        → SeeksOnce s.parts.handles p.handles (lower_edge s.parts.of.low)
        (upper_edge s.parts.of.high) → Lends at (with_parts s p) r n
        → q ≡ lifted_answer n.parts.of.global_seqno r → LendsOn q (stopped q (range_at at n)).lent
        → Steps_on s q n
    steps_by n r q seeks lends lifted on =
        let all = walk_steps k at s p n r q (lent_at at n) is none sought seeks
        lends.takes lifted on in
        let same : n.parts.of.global_seqno ≡ s.parts.of.global_seqno =
        ap (λ (b : Bounded). b.global_seqno) (sym (stopped_of q (range_at at n)) ∙ all.of) in
        record {
          gives = all;
          there = λ was x here.
              let next : next_of at (with_parts s p) ≡ Some x =
              ap (λ (o : Option Cursor). (taken_at at (behind_in o)).0) near_parts
              ∙ ap (λ (es : List Entry). (taken_at at es).0) (sym (entries_at at s k)) ∙ here in
              lifted ∙ ap (lifted_answer n.parts.of.global_seqno) (lends.there x next)
              ∙ ap (λ (g : ℕ). Some (lifted_result g x)) same;
        }

  pub steps_item : (s n : W A) (more : Bool)
      → Steps_on s (came (Ok more) (lent_at at n)) n
      → RangeLendsAt at (range_lending s k) (came (Ok more) (lent_at at n)) (range_at at n)
  steps_item s n more steps = record {
    gives = subst (RangeGives (taken_at at) (next_at at) (range_lending s k)
        (came (Ok more) (lent_at at n)))
        (stopped_entry (lent_at at n) (range_at at n)) steps.gives;
    there = steps.there;
  }

  pub steps_fault : (s n : W A) (e : Error) → Steps_on s (Some (Err e)) n
      → RangeLendsAt at (range_lending s k) (Some (Err e)) (over (range_at at n))
  steps_fault s n e steps = record { gives = steps.gives; there = steps.there }

  pub ends_ok : (s n : W A) (r : Result Bool Error) → Steps_on s (came r (lent_at at n)) n
      → IfOk r (λ _. RangeLendsAt at (range_lending s k) (came r (lent_at at n)) (range_at at n))
  ends_ok s n (Ok more) steps = steps_item s n more steps
  ends_ok s n (Err e) steps = tt

  pub ends_err : (s n : W A) (r : Result Bool Error) → Steps_on s (came r (lent_at at n)) n
      → IfErr r (λ e. RangeLendsAt at (range_lending s k) (Some (Err e)) (over (range_at at n)))
  ends_err s n (Ok more) steps = tt
  ends_err s n (Err e) steps = steps_fault s n e steps
