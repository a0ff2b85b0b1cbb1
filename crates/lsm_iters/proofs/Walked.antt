-- A step of the walk over data blocks, as a call of an iterator over a range.
use Rattle.std.proofs.Common.{◌≡◌, ℕ, suc, ◌+◌, false, true, List, [], ◌∷◌, ◌++◌, length, map, refl}
use Rattle.std.proofs.Common.{sym, ap, subst, ◌∙◌, arith}
use Rattle.std.proofs.lemmas.List.{length-map, map-append}
use Rattle.std.specs.Prelude.{Option, Some, None, Result, Ok, Err}
use Rattle.std.specs.Option.{option_or}
use Rattle.sst_entries.specs.declared.error.Error.{Error}
use Rattle.sst_entries.specs.declared.error.Error.TheVariants.{OutOfMemory}
use Rattle.sst_entries.specs.declared.stream.Direction.{Direction}
use Rattle.sst_entries.specs.declared.stream.Direction.TheVariants.{Front, Back}
use Rattle.sst_entries.specs.Entry.{Entry}
use Rattle.sst_entries.specs.Error.{is_memory}
use Rattle.sst_entries.specs.Stream.{answer_stops, ok_results}
use Rattle.sst_blocks.specs.declared.block_type.BlockType.TheVariants.{Data}
use Rattle.sst_blocks.specs.Block.{Loaded, load_result, place_fault}
use Rattle.sst_blocks.specs.Cursor.{Cursor}
use Rattle.sst_blocks.specs.Handle.{Handle}
use Rattle.lsm_iters.specs.block_index.Left.{CountsLoads, early_behind, with_index_loads}
use Rattle.lsm_iters.specs.block_index.Left.{none_behind}
use Rattle.lsm_iters.proofs.TwoLevels.{loaded_more}
use Rattle.lsm_iters.specs.declared.walk.Walk.{Walk}
use Rattle.lsm_iters.specs.walk.Ends.{IsOver as IsWalkOver, Remains, StepAnswers, remains_in}
use Rattle.lsm_iters.specs.walk.Ends.{seen_from}
use Rattle.lsm_iters.specs.walk.Ends.{taken_at}
use Rattle.lsm_iters.specs.walk.Parts.{Loading, Loads, all_results, early_among, loads_in, needed}
use Rattle.lsm_iters.specs.walk.Parts.{results_of}
use Rattle.lsm_iters.specs.walk.Walks.{WalkTakes, early_at, near, needed_at, walk_left}
use Rattle.lsm_iters.proofs.Instances.{loads_one}
use Rattle.lsm_iters.proofs.AtEnds.{early_map, behind_map, map_first, map_none, map_seen, map_taken}
use Rattle.lsm_iters.proofs.AtEnds.{none_at}
use Rattle.lsm_iters.proofs.Reaching.{all_over}
use Rattle.lsm_iters.specs.Blocks.{Blocks, KeepsBlocks, block_named, coming_blocks}
use Rattle.lsm_iters.specs.Blocks.{range_lending, stored_in, stored_rows}
use Rattle.lsm_iters.specs.Bounds.{lower_edge, upper_edge}
use Rattle.lsm_iters.specs.Lending.{behind_in, cursor_remains}
use Rattle.lsm_iters.specs.Lift.{lift_results, lifted_result}
use Rattle.lsm_iters.specs.Range.{LendsOn, Range, RangeGives, blocks_early, blocks_needed}
use Rattle.lsm_iters.specs.Range.{data_loaded}
use Rattle.lsm_iters.specs.Range.{left_in, next_at}
use Rattle.lsm_iters.specs.Rows.{Bounded, block_rows, handle_rows, rows, rows_in}
use Rattle.lsm_iters.specs.Steps.{LoadsNone, SeeksOnce, lifted_answer, over, stopped}
use Rattle.lsm_iters.proofs.Cursors.{no_part_loads, part_behind, part_early}
use Rattle.lsm_iters.proofs.Ranges.{From, H, IsOver, Moves, R, Reached, back_starts, coming}
use Rattle.lsm_iters.proofs.Ranges.{data_more, front_starts, gives_all, left_rows, refused}

-- ---- results with their numbers lifted

abbrev returned : ℕ → R → R
returned g (Ok e) = lifted_result g e
returned g (Err e) = Err e

reported_ok : (g : ℕ) (es : List Entry) → map (returned g) (ok_results es) ≡ lift_results g es
reported_ok g [] = refl
reported_ok g (e ∷ es) = ap (λ (rs : List R). lifted_result g e ∷ rs) (reported_ok g es)

reported_stored : (b : Bounded) (block : Result Loaded Error)
    → map (returned b.global_seqno) (stored_in b block) ≡ rows_in b block
reported_stored b (Ok block) = reported_ok b.global_seqno _
reported_stored b (Err e) = refl

reported_named : (b : Bounded) (x : H) → map (returned b.global_seqno) (results_of (block_named b x))
    ≡ handle_rows b x
reported_named b (Ok h) = reported_stored b (load_result b.body h.offset h.size Data)
reported_named b (Err e) = refl

reported_rows : (b : Bounded) (hs : List H) → map (returned b.global_seqno)
    (all_results (map (block_named b) hs)) ≡ rows b hs
reported_rows b [] = refl
reported_rows b (x ∷ hs) =
    map-append (returned b.global_seqno) (results_of (block_named b x))
    (all_results (map (block_named b) hs))
    ∙ ap (λ (rs : List R). rs ++ map (returned b.global_seqno) (all_results (map (block_named b) hs)))
    (reported_named b x)
    ∙ ap (λ (rs : List R). handle_rows b x ++ rs) (reported_rows b hs)

reported_part : (g : ℕ) (o : Option Cursor)
    → map (returned g) (remains_in cursor_remains o).results ≡ lift_results g (behind_in o)
reported_part g None = refl
reported_part g (Some c) = reported_ok g _

-- ---- how many blocks an answer needs, and the fault that is found before memory is taken

same_needs : (b : Bounded) (h : Handle) (n : ℕ)
    → none_behind (stored_rows b h) n ≡ none_behind (block_rows b h) n
same_needs b h n =
    sym (behind_map (returned b.global_seqno) (stored_rows b h) n)
    ∙ ap (λ (rs : List R). none_behind rs n) (reported_stored b (load_result b.body h.offset h.size Data))

needs_is : (b : Bounded) (hs : List H) → needed (map (block_named b) hs) ≡ blocks_needed b hs
needs_is b [] = refl
needs_is b (Ok h ∷ hs) =
    ap (λ (n : ℕ). suc (none_behind (stored_rows b h) n)) (needs_is b hs)
    ∙ ap suc (same_needs b h (blocks_needed b hs))
needs_is b (Err e ∷ hs) = refl

same_early : (b : Bounded) (h : Handle) (o : Option Error)
    → early_behind (stored_rows b h) o ≡ early_behind (block_rows b h) o
same_early b h o =
    sym (early_map (returned b.global_seqno) (stored_rows b h) o)
    ∙ ap (λ (rs : List R). early_behind rs o) (reported_stored b
    (load_result b.body h.offset h.size Data))

early_is : (b : Bounded) (hs : List H) → early_among (map (block_named b) hs) ≡ blocks_early b hs
early_is b [] = refl
early_is b (Ok h ∷ hs) =
    ap (option_or (place_fault b.body h.offset h.size Data))
    (ap (early_behind (stored_rows b h)) (early_is b hs) ∙ same_early b h (blocks_early b hs))
early_is b (Err e ∷ hs) = refl

-- ---- the loads of a step

-- what several loads keep
record Moved {A : Type 0} (blocks : ℕ) (s t : Blocks A) : Type 0 where
  pub of : t.of ≡ s.of
  pub index : (left_in t.handles).index ≡ (left_in s.handles).index
  pub sought : t.handles.sought ≡ true
  pub counts : t.opened ≡ data_loaded blocks s.opened
  pub loads : CountsLoads (left_in s.handles) (left_in t.handles)

module _ {A : Type 0} where
  not_moved : (s : Blocks A) → s.handles.sought ≡ true → Moved 0 s s
  not_moved s sought = record {
    of = refl;
    index = refl;
    sought = sought;
    counts = refl;
    loads = record { count = 0; counts = refl; within = omega arith };
  }

  moved_more : (m : ℕ) (s u t : Blocks A) (named : Option (Result (Loading Entry) Error))
      → Moved m s u → KeepsBlocks u named t → Moved (loads_in (named ∷ []) + m) s t
  moved_more m s u t named was keeps = record {
    of = keeps.of ∙ was.of;
    index = keeps.index ∙ was.index;
    sought = keeps.sought;
    counts = keeps.counts ∙ ap (data_loaded (loads_in (named ∷ []))) was.counts
        ∙ data_more (loads_in (named ∷ [])) m s.opened;
    loads = record {
      count = keeps.loads.count + was.loads.count;
      counts = keeps.loads.counts
          ∙ ap (with_index_loads keeps.loads.count) was.loads.counts
          ∙ loaded_more keeps.loads.count was.loads.count (left_in s.handles).opened;
      within = omega (arith, keeps.loads.within, was.loads.within);
    };
  }

  moved : (named : List (Option (Result (Loading Entry) Error))) (s t : Blocks A)
      → s.handles.sought ≡ true → Loads KeepsBlocks s named t → Moved (loads_in named) s t
  moved [] s t sought is = subst (λ (x : Blocks A). Moved 0 s x) (sym is) (not_moved s sought)
  moved (x ∷ named) s t sought loads =
      subst (λ (n : ℕ). Moved n s t) (loads_one x named)
      (moved_more (loads_in named) s loads.0 t x (moved named s loads.0 sought loads.1) loads.2)

-- ---- a walk and its range

abbrev pub W : Type 0 → Type 0
W A = Walk (Blocks A) Cursor

fine_before : (g : ℕ) (r : Option R) → answer_stops is_memory (lifted_answer g r) ≡ false
    → answer_stops is_memory r ≡ false
fine_before g None fine = refl
fine_before g (Some (Ok e)) fine = refl
fine_before g (Some (Err e)) fine = fine

module _ {A : Type 0} (k : Option Entry) where
  abbrev left_of_walk : W A → Remains Entry
  left_of_walk w = walk_left cursor_remains coming_blocks w

  abbrev handles_in : W A → List H
  handles_in w = (left_in w.parts.handles).results

  reported_left : (w : W A) → map (returned w.parts.of.global_seqno) (left_of_walk w).results
      ≡ left_rows (range_lending w k)
  reported_left w =
      let b : Bounded = w.parts.of in
      let f = returned b.global_seqno in
      let fs : List R = (remains_in cursor_remains w.front).results in
      let ms : List R = all_results (map (block_named b) (handles_in w)) in
      let bs : List R = (remains_in cursor_remains w.back).results in
      map-append f fs (ms ++ bs)
      ∙ ap (λ (rs : List R). map f fs ++ rs) (map-append f ms bs)
      ∙ ap (λ (rs : List R). rs ++ (map f ms ++ map f bs)) (reported_part b.global_seqno w.front)
      ∙ ap (λ (rs : List R). lift_results b.global_seqno (behind_in w.front) ++ (rs ++ map f bs))
      (reported_rows b (handles_in w))
      ∙ ap (λ (rs : List R). lift_results b.global_seqno (behind_in w.front)
      ++ (rows b (handles_in w) ++ rs)) (reported_part b.global_seqno w.back)

  near_behind : (at : Direction) (w : W A) (n : ℕ)
      → none_behind (remains_in cursor_remains (near at w)).results n
      ≡ none_behind (next_at at (range_lending w k)).entries n
  near_behind Front w n = part_behind w.front n
  near_behind Back w n = part_behind w.back n

  near_early : (at : Direction) (w : W A) (f : Option Error)
      → early_behind (remains_in cursor_remains (near at w)).results f
      ≡ early_behind (next_at at (range_lending w k)).entries f
  near_early Front w f = part_early w.front f
  near_early Back w f = part_early w.back f

  allowed : (at : Direction) (w : W A) → needed_at cursor_remains coming_blocks at w
      ≡ none_behind (next_at at (range_lending w k)).entries
      (blocks_needed w.parts.of (seen_from at (handles_in w)))
  allowed at w =
      let xs : List R = (remains_in cursor_remains (near at w)).results in
      let b : Bounded = w.parts.of in
      ap (λ (ps : List (Result (Loading Entry) Error)). none_behind xs (needed ps))
      (map_seen (block_named b) at (handles_in w))
      ∙ ap (λ (n : ℕ). none_behind xs n) (needs_is b (seen_from at (handles_in w)))
      ∙ near_behind at w (blocks_needed b (seen_from at (handles_in w)))

  early_allowed : (at : Direction) (w : W A) → early_at cursor_remains coming_blocks at w
      ≡ early_behind (next_at at (range_lending w k)).entries
      (blocks_early w.parts.of (seen_from at (handles_in w)))
  early_allowed at w =
      let xs : List R = (remains_in cursor_remains (near at w)).results in
      let b : Bounded = w.parts.of in
      ap (λ (ps : List (Result (Loading Entry) Error)). early_behind xs (early_among ps))
      (map_seen (block_named b) at (handles_in w))
      ∙ ap (λ (f : Option Error). early_behind xs f) (early_is b (seen_from at (handles_in w)))
      ∙ near_early at w (blocks_early b (seen_from at (handles_in w)))

  moves : (at : Direction) (w v : W A) (r : Option R) (l : Option Entry)
      → w.parts.handles.sought ≡ true
      → WalkTakes cursor_remains coming_blocks KeepsBlocks at w r v
      → Moves (none_behind (next_at at (range_lending w k)).entries
      (blocks_needed w.parts.of (seen_from at (handles_in w)))) (range_lending w k) (range_lending v l)
  moves at w v r l sought takes =
      let m = moved takes.named w.parts v.parts sought takes.loads in
      record {
        of = m.of;
        index = m.index;
        sought = m.sought;
        blocks = loads_in takes.named;
        counts = m.counts;
        within = omega (
          arith,
          takes.within,
          length-map (handles_in w)
              (block_named w.parts.of),
          length-map (handles_in v) (block_named v.parts.of),
        );
        most = omega (arith, takes.most, allowed at w);
        loads = m.loads;
      }

  over_range : (at : Direction) (v : W A) (l : Option Entry) → IsWalkOver (left_of_walk v)
      → IsOver (range_lending v l)
  over_range at v l over =
      let parts = (all_over cursor_remains coming_blocks at v over).done in
      record {
        rows = sym (reported_left v) ∙ ap (map (returned v.parts.of.global_seqno)) over.results;
        index = record {
          results = map_none (block_named v.parts.of)
              (handles_in v) parts.parts;
          loads = parts.loads;
        };
      }

  over_walk : (w : W A) → IsOver (range_lending w k) → IsWalkOver (left_of_walk w)
  over_walk w over = record {
    results = map_none (returned w.parts.of.global_seqno) (left_of_walk w).results
        (reported_left w ∙ over.rows);
    loads = omega (
      arith,
      no_part_loads w.front,
      no_part_loads w.back,
      over.index.loads,
      ap length over.index.results,
      length-map (handles_in w) (block_named w.parts.of),
    );
  }

  from_item : (at : Direction) (u t : Range A) (x : R)
      → taken_at at (left_rows u) ≡ (Some x, left_rows t) → From (taken_at at) u (Some x) t
  from_item at u t (Ok e) gives = gives
  from_item at u t (Err e) gives = (
    λ fine. ap (λ (p : Option R × List R). p.0) gives,
    λ over. none_at at (left_rows u) (Err e) over.rows (ap (λ (p : Option R × List R). p.0) gives),
  )

  from_walk : (at : Direction) (w v : W A) (r : Option R) (l : Option Entry)
      → StepAnswers at (left_of_walk w) r (left_of_walk v) → v.parts.of ≡ w.parts.of
      → From (taken_at at) (range_lending w k) (lifted_answer w.parts.of.global_seqno r) (range_lending v l)
  from_walk at w v None l gives same = (
    sym (reported_left w) ∙ ap (map (returned w.parts.of.global_seqno)) gives.0,
    over_range at v l gives.1,
  )
  from_walk at w v (Some (Ok e)) l gives same =
      let g : ℕ = w.parts.of.global_seqno in
      let rest : map (returned g) (left_of_walk v).results ≡ left_rows (range_lending v k) =
      ap (λ (b : Bounded). map (returned b.global_seqno) (left_of_walk v).results) (sym same)
      ∙ reported_left v in
      from_item at (range_lending w k) (range_lending v l) (lifted_result g e)
      (ap (taken_at at) (sym (reported_left w))
      ∙ map_taken (returned g) at (left_of_walk w).results (left_of_walk v).results (Ok e) gives
      ∙ ap (λ (rs : List R). (Some (lifted_result g e), rs)) rest)
  from_walk at w v (Some (Err e)) l gives same = (
    λ fine. ap (λ (rs : List R). (taken_at at rs).0) (sym (reported_left w))
        ∙ map_first (returned w.parts.of.global_seqno) at (left_of_walk w).results (Err e)
        (gives.0 fine),
    λ over. gives.1 (over_walk w over),
  )

  -- before the walk's step the edges are sought
  pub starts_at : (at : Direction) (s t : Range A) → t ≡ record s { handles = t.handles }
      → LoadsNone (left_in s.handles) (left_in t.handles) → t.handles.sought ≡ true
      → SeeksOnce s.handles t.handles (lower_edge s.of.low) (upper_edge s.of.high)
      → Reached (next_at at t).entries (seen_from at (coming t)) (next_at at s) s t
  starts_at Front s t is none sought seeks = front_starts s t is none sought seeks
  starts_at Back s t is none sought seeks = back_starts s t is none sought seeks

  pub walked : (at : Direction) (s : Range A) (w v : W A) (r : Option R) (l : Option Entry)
      → Reached (next_at at (range_lending w k)).entries (seen_from at (handles_in w)) (next_at at s)
      s
      (range_lending w k) → w.parts.handles.sought ≡ true
      → WalkTakes cursor_remains coming_blocks KeepsBlocks at w r v
      → LendsOn (lifted_answer w.parts.of.global_seqno r)
      (stopped (lifted_answer w.parts.of.global_seqno r) (range_lending v l)).lent
      → RangeGives (taken_at at) (next_at at) s (lifted_answer w.parts.of.global_seqno r)
      (stopped (lifted_answer w.parts.of.global_seqno r) (range_lending v l))
  unfolding moves
  walked at s w v r l reached sought takes on =
      let g : ℕ = w.parts.of.global_seqno in
      gives_all (taken_at at) (next_at at) (next_at at (range_lending w k)).entries
      (seen_from at (handles_in w)) s (range_lending w k) (range_lending v l) (lifted_answer g r)
      reached
      (moves at w v r l sought takes)
      (λ fine. takes.exact (fine_before g r fine) ∙ allowed at w)
      (λ f early all. ap (lifted_answer g) (takes.first f (early_allowed at w ∙ early)
      (all ∙ sym (allowed at w))))
      (from_walk at w v r l takes.answer (moved takes.named w.parts v.parts sought takes.loads).of)
      on

  -- ---- the iterator's own calls

  abbrev with_parts : W A → Blocks A → W A
  with_parts w p = record w { parts = p }

  pub walk_refused : (at : Direction) (w : W A) (p : Blocks A) (e : Error)
      → p ≡ record w.parts { handles = p.handles }
      → LoadsNone (left_in w.parts.handles) (left_in p.handles) → p.handles.sought ≡ true
      → e ≡ OutOfMemory → w.parts.handles.sought ≡ false
      → RangeGives (taken_at at) (next_at at) (range_lending w k) (Some (Err e))
      (over (range_lending (with_parts w p) k))
  walk_refused at w p e is none sought memory once =
      refused (range_lending w k) (range_lending (with_parts w p) k)
      (ap (λ (q : Blocks A). range_lending (with_parts w q) k) is) none sought (taken_at at)
      (next_at at) e memory once

  -- what is lent of the range after it is the entry that it gave, or nothing
  pub walk_steps : (at : Direction) (w : W A) (p : Blocks A) (v : W A) (r q : Option R)
      (l : Option Entry) → p ≡ record w.parts { handles = p.handles }
      → LoadsNone (left_in w.parts.handles) (left_in p.handles) → p.handles.sought ≡ true
      → SeeksOnce w.parts.handles p.handles (lower_edge w.parts.of.low) (upper_edge w.parts.of.high)
      → WalkTakes cursor_remains coming_blocks KeepsBlocks at (with_parts w p) r v
      → q ≡ lifted_answer v.parts.of.global_seqno r → LendsOn q (stopped q (range_lending v l)).lent
      → RangeGives (taken_at at) (next_at at) (range_lending w k) q (stopped q (range_lending v l))
  walk_steps at w p v r q l is none sought seeks takes lifted on =
      let u : W A = with_parts w p in
      let reached = starts_at at (range_lending w k) (range_lending u k)
      (ap (λ (b : Blocks A). range_lending (with_parts w b) k) is) none sought seeks in
      let same : q ≡ lifted_answer p.of.global_seqno r =
      lifted ∙ ap (λ (b : Bounded). lifted_answer b.global_seqno r)
      (moved takes.named p v.parts sought takes.loads).of in
      subst (λ (x : Option R). RangeGives (taken_at at) (next_at at) (range_lending w k) x
      (stopped x (range_lending v l))) (sym same)
      (walked at (range_lending w k) u v r l reached sought takes
      (subst (λ (x : Option R). LendsOn x (stopped x (range_lending v l)).lent) same on))
