-- A step of the walk over partitions, as a call of an iterator of two levels.
use Rattle.std.proofs.Common.{◌≡◌, ℕ, zero, suc, ◌+◌, ◌<◌, ◌≤◌, false, List, [], ◌∷◌, ◌++◌, length}
use Rattle.std.proofs.Common.{map, reverse, refl, sym, ap, subst, ◌∙◌, arith}
use Rattle.std.proofs.lemmas.List.{length-map}
use Rattle.std.specs.Option.{option_map, option_or}
use Rattle.std.specs.Prelude.{IfErr, IfOk, MatchOption, MatchResult, Option, Some, None, Result, Ok}
use Rattle.std.specs.Prelude.{Err}
use Rattle.sst_entries.specs.declared.error.Error.{Error}
use Rattle.sst_entries.specs.declared.stream.Direction.{Direction}
use Rattle.sst_entries.specs.declared.stream.Direction.TheVariants.{Front, Back}
use Rattle.sst_entries.specs.Error.{FaultsFirst, is_memory}
use Rattle.sst_entries.specs.Span.{Span, rest_in}
use Rattle.sst_entries.specs.Stream.{ok_results}
use Rattle.sst_blocks.specs.Sections.{body_of}
use Rattle.sst_blocks.specs.declared.opened.Opened.{Opened}
use Rattle.sst_blocks.specs.Handle.{Handle}
use Rattle.sst_blocks.specs.Place.{Place, place_of}
use Rattle.lsm_iters.specs.declared.walk.Walk.{Walk}
use Rattle.lsm_iters.specs.walk.Ends.{IsOver, remains_in, seen_from, span_remains, taken_at}
use Rattle.lsm_iters.specs.walk.Parts.{LoadGives, Loading, Loads, ReportsOf, all_results, early_among}
use Rattle.lsm_iters.specs.walk.Parts.{early_behind, loads_in, needed, none_behind}
use Rattle.lsm_iters.specs.walk.Walks.{Ended, StopsAtError, WalkGives, WalkTakes, early_at, near}
use Rattle.lsm_iters.specs.walk.Walks.{needed_at, walk_left}
use Rattle.lsm_iters.proofs.Instances.{loads_one, no_part_loads, none_own, part_behind, part_early}
use Rattle.lsm_iters.proofs.Instances.{part_results, refused_first}
use Rattle.lsm_iters.proofs.AtEnds.{map_seen, map_taken, none_taken, nothing_behind, seen_none}
use Rattle.lsm_iters.proofs.AtEnds.{shortens, whole_end}
use Rattle.lsm_iters.specs.declared.block_index.partitions.Partitions.{Partitions}
use Rattle.lsm_iters.specs.block_index.Index.{block_between, block_early, parts_between, two_level}
use Rattle.lsm_iters.specs.block_index.Left.{AtEnd, IsEnded, TwoLevel, TwoLevelGives, fault_at}
use Rattle.lsm_iters.specs.block_index.Left.{with_index_loads}
use Rattle.lsm_iters.specs.block_index.Left.{needs, needs_at, new_two_level, part_of, tops_early}
use Rattle.lsm_iters.specs.block_index.Left.{two_level_left}
use Rattle.lsm_iters.specs.block_index.Partitions.{EndsPartitions, KeepsPartitions, NamesOf}
use Rattle.lsm_iters.specs.block_index.Partitions.{coming_partitions, part_named, two_level_of}
use Rattle.lsm_iters.specs.block_index.Seen.{rest_of}
use Rattle.lsm_iters.proofs.IndexAtEnds.{R}
use Rattle.lsm_iters.proofs.Seeks.{all_of}
use Rattle.sst_blocks.specs.Opened.{none_opened}
use Rattle.sst_blocks.specs.Seeking.{whole_span}

pub loaded_more : (m n : ℕ) (o : Opened) → with_index_loads m (with_index_loads n o) ≡
    with_index_loads (m + n) o
loaded_more zero n o = ap (λ (k : ℕ). with_index_loads k o) (let e : n ≡ 0 + n = omega arith in e)
loaded_more (suc m) n o = ap (with_index_loads 1) (loaded_more m n o)
    ∙ ap (λ (k : ℕ). with_index_loads k o) (let e : suc (m + n) ≡ suc m + n = omega arith in e)

-- ---- one load

-- the handle whose place was told
record Found (o : Option Handle) (place : Place) : Type 0 where
  pub top : Handle
  pub here : o ≡ Some top
  pub at : place_of top ≡ place

found : (o : Option Handle) (place : Place) → Some place ≡ option_map place_of o → Found o place
found None place returned = absurd cc
found (Some h) place returned = record {
  top = h;
  here = refl;
  at = let same : place ≡ place_of h =
      cc in sym same;
}

not_found : (o : Option Handle) → None ≡ option_map place_of o → o ≡ None
not_found None returned = refl
not_found (Some h) returned = absurd cc

reports_part : {A : Type 0} (p : Partitions A) (top : Handle) (r : Result (Span Handle) Error)
    → IfOk r (λ hs. ok_results (rest_in hs) ≡ block_between (body_of p.source) p.edges.0 p.edges.1
    (place_of top)) → IfErr r (λ e. is_memory e ≡ false
    → Err e ∷ [] ≡ block_between (body_of p.source) p.edges.0 p.edges.1 (place_of top))
    → ReportsOf span_remains (Some (part_named p top)) (Some r)
reports_part p top (Ok hs) ok err = ok
reports_part p top (Err e) ok err = err

module _ {A : Type 0} (at : Direction) (s : Partitions A) (tops : Span Handle)
    (list : tops.list ≡ s.tops.list) (rest : rest_in tops ≡ (taken_at at (rest_in s.tops)).1) where
  pub part_taken : (opened : Opened) (place : Place) (r : Result (Span Handle) Error)
      → Some place ≡ option_map place_of (taken_at at (rest_in s.tops)).0
      → IfOk r (λ hs. ok_results (rest_in hs) ≡ block_between
      (body_of s.source) s.edges.0 s.edges.1 place)
      → IfErr r (λ e. is_memory e ≡ false → Err e ∷ []
      ≡ block_between (body_of s.source) s.edges.0 s.edges.1 place)
      → FaultsFirst r (block_early (body_of s.source) place) → opened ≡ with_index_loads 1 s.opened
      → LoadGives span_remains coming_partitions KeepsPartitions at s (Some r)
      (record s { tops = tops; opened = opened })
  part_taken opened place r returned ok err first counts =
      let x = found (taken_at at (rest_in s.tops)).0 place returned in
      let takes : taken_at at (rest_in s.tops) ≡ (Some x.top, rest_in tops) =
      whole_end at (rest_in s.tops) x.top x.here ∙ ap (λ (hs : List Handle). (Some x.top, hs))
      (sym rest) in
      record {
        named = Some (part_named s x.top);
        names = map_taken (part_named s) at (rest_in s.tops) (rest_in tops) x.top takes;
        returned = reports_part s x.top r
            (subst (λ (p : Place). IfOk r (λ hs. ok_results (rest_in hs)
            ≡ block_between (body_of s.source) s.edges.0 s.edges.1 p)) (sym x.at) ok)
            (subst (λ (p : Place). IfErr r (λ e. is_memory e ≡ false
            → Err e ∷ [] ≡ block_between (body_of s.source) s.edges.0 s.edges.1 p))
            (sym x.at) err);
        loads = omega (arith, none_own r);
        first = λ f early. refused_first r f (first f
            (ap (block_early (body_of s.source)) (sym x.at) ∙ early));
        kept = record {
          body = refl;
          list = list;
          counts = counts;
          names =
              shortens at (rest_in s.tops) (rest_in tops) x.top takes;
        };
      }

  pub no_part : None ≡ option_map place_of (taken_at at (rest_in s.tops)).0
      → LoadGives {T = Span Handle} span_remains coming_partitions KeepsPartitions at s None
      (record s { tops = tops })
  no_part returned =
      let none : rest_in s.tops ≡ [] = none_taken at (rest_in s.tops)
      (not_found (taken_at at (rest_in s.tops)).0 returned) in
      let left : rest_in tops ≡ [] = rest ∙ ap (λ (hs : List Handle). (taken_at at hs).1) none
      ∙ nothing_behind at in
      record {
        named = None;
        names = (
          ap (map (part_named s)) none,
          record
              { parts = ap (map (part_named s)) left; loads = refl },
        );
        returned = refl;
        loads = omega arith;
        first = λ f early. let wrong : None ≡ Some f = early in absurd cc;
        kept = record { body = refl; list = list; counts = refl; names = (none, left) };
      }

-- ---- what several loads keep

record Moved {A : Type 0} (count : ℕ) (s t : Partitions A) : Type 0 where
  pub body : body_of t.source ≡ body_of s.source
  pub list : t.tops.list ≡ s.tops.list
  pub counts : t.opened ≡ with_index_loads count s.opened

one_fewer : (named : Option (Result (Loading Handle) Error)) (us ts : List Handle)
    → NamesOf named us ts → length us ≡ loads_in (named ∷ []) + length ts
one_fewer None us ts names = omega (arith, ap length names.0, ap length names.1)
one_fewer (Some (Ok part)) us ts names = omega (arith, names)
one_fewer (Some (Err e)) us ts names = absurd names

-- where a load was made and there were partitions, one was loaded
last_load : (x : Option (Result (Loading Handle) Error)) (m k : ℕ) (us ts : List Handle)
    → NamesOf x us ts → k ≡ m + length us → 0 < k → 0 < loads_in (x ∷ []) + m
last_load None m k us ts names all some = omega (arith, ap length names.0, all, some)
last_load (Some (Ok part)) m k us ts names all some = omega arith
last_load (Some (Err e)) m k us ts names all some = absurd names

module _ {A : Type 0} where
  moved_more : (m : ℕ) (s u t : Partitions A) (named : Option (Result (Loading Handle) Error))
      → Moved m s u → KeepsPartitions u named t → Moved (loads_in (named ∷ []) + m) s t
  moved_more m s u t named was keeps = record {
    body = keeps.body ∙ was.body;
    list = keeps.list ∙ was.list;
    counts = keeps.counts ∙ ap (with_index_loads (loads_in (named ∷ []))) was.counts
        ∙ loaded_more (loads_in (named ∷ [])) m s.opened;
  }

  moved : (named : List (Option (Result (Loading Handle) Error))) (s t : Partitions A)
      → Loads KeepsPartitions s named t → Moved (loads_in named) s t
  moved [] s t is = subst (λ (x : Partitions A). Moved 0 s x) (sym is)
      (record { body = refl; list = refl; counts = refl })
  moved (x ∷ named) s t loads =
      subst (λ (n : ℕ). Moved n s t) (loads_one x named)
      (moved_more (loads_in named) s loads.0 t x (moved named s loads.0 loads.1) loads.2)

  fewer : (named : List (Option (Result (Loading Handle) Error))) (s t : Partitions A)
      → Loads KeepsPartitions s named t → length (rest_in s.tops)
      ≡ loads_in named + length (rest_in t.tops)
  fewer [] s t is = omega (arith, ap (λ (x : Partitions A). length (rest_in x.tops)) is)
  fewer (x ∷ named) s t loads =
      omega (
        arith,
        fewer named s loads.0 loads.1,
        one_fewer x (rest_in loads.0.tops)
            (rest_in t.tops) loads.2.names,
        loads_one x named,
      )

  some_loads : (named : List (Option (Result (Loading Handle) Error))) (s t : Partitions A)
      → Loads KeepsPartitions s named t → 0 < length named → 0 < length (rest_in s.tops)
      → 0 < loads_in named
  some_loads [] s t is made some = absurd (omega (arith, made))
  some_loads (x ∷ named) s t loads made some =
      omega (
        arith,
        last_load x (loads_in named) (length (rest_in s.tops)) (rest_in loads.0.tops)
            (rest_in t.tops) loads.2.names (fewer named s loads.0 loads.1) some,
        loads_one x named,
      )

-- ---- what is left, and how many partitions an answer needs

some_needed : (xs : List R) (n : ℕ) → 0 < none_behind xs n → 0 < n
some_needed [] n some = some
some_needed (x ∷ xs) n some = absurd (omega (arith, some))

same_index : (body other : List ℕ) (list more : List Handle) → body ≡ other → list ≡ more
    → two_level body list ≡ two_level other more
same_index body other list more e f = ap (λ (b : List ℕ). two_level b list) e
    ∙ ap (two_level other) f

module _ {A : Type 0} where
  all_parts : (p : Partitions A) (tops : List Handle)
      → all_results (map (part_named p) tops) ≡ parts_between
      (body_of p.source) p.edges.0 p.edges.1 tops
  all_parts p [] = refl
  all_parts p (top ∷ tops) =
      ap (λ (rs : List R). block_between (body_of p.source) p.edges.0 p.edges.1 (place_of top)
      ++ rs) (all_parts p tops)

  abbrev walk_results : Walk (Partitions A) (Span Handle) → List R
  walk_results w = (walk_left span_remains coming_partitions w).results

  results_are : (w : Walk (Partitions A) (Span Handle))
      → walk_results w ≡ (two_level_left (two_level_of w)).results
  results_are w =
      let ms : List R = all_results (map (part_named w.parts) (rest_in w.parts.tops)) in
      let bs : List R = (remains_in span_remains w.back).results in
      ap (λ (rs : List R). rs ++ (ms ++ bs)) (part_results w.front)
      ∙ ap (λ (rs : List R). ok_results (rest_of w.front) ++ (rs ++ bs))
      (all_parts w.parts (rest_in w.parts.tops))
      ∙ ap (λ (rs : List R). ok_results (rest_of w.front)
      ++ (parts_between (body_of w.parts.source) w.parts.edges.0 w.parts.edges.1
      (rest_in w.parts.tops) ++ rs)) (part_results w.back)

  needs_are : (w : Walk (Partitions A) (Span Handle)) (tops : List Handle)
      → needed (map (part_named w.parts) tops) ≡ needs (map (part_of (two_level_of w)) tops)
  needs_are w [] = refl
  needs_are w (top ∷ tops) =
      ap (λ (n : ℕ). suc (none_behind (part_of (two_level_of w) top) n)) (needs_are w tops)

  faults_are : (w : Walk (Partitions A) (Span Handle)) (tops : List Handle)
      → early_among (map (part_named w.parts) tops)
      ≡ tops_early (body_of w.parts.source) (part_of (two_level_of w)) tops
  faults_are w [] = refl
  faults_are w (top ∷ tops) =
      ap (λ (f : Option Error). option_or (block_early (body_of w.parts.source) (place_of top))
      (early_behind (part_of (two_level_of w) top) f)) (faults_are w tops)

  needs_is : (at : Direction) (w : Walk (Partitions A) (Span Handle))
      → needed_at span_remains coming_partitions at w ≡ needs_at at (two_level_of w)
  needs_is Front w =
      ap (λ (n : ℕ). none_behind (remains_in span_remains w.front).results n)
      (needs_are w (rest_in w.parts.tops))
      ∙ part_behind w.front (needs (map (part_of (two_level_of w)) (rest_in w.parts.tops)))
  needs_is Back w =
      let tops : List Handle = rest_in w.parts.tops in
      let xs : List R = (remains_in span_remains w.back).results in
      let s : TwoLevel = two_level_of w in
      ap (λ (ps : List (Result (Loading Handle) Error)). none_behind xs (needed ps))
      (map_seen (part_named w.parts) Back tops)
      ∙ ap (λ (n : ℕ). none_behind xs n) (needs_are w (reverse tops)
      ∙ ap needs (sym (map_seen (part_of s) Back tops)))
      ∙ part_behind w.back (needs (reverse (map (part_of s) tops)))

  fault_is : (at : Direction) (w : Walk (Partitions A) (Span Handle))
      → early_at span_remains coming_partitions at w ≡ fault_at at (two_level_of w)
  fault_is Front w =
      ap (λ (f : Option Error). early_behind (remains_in span_remains w.front).results f)
      (faults_are w (rest_in w.parts.tops))
      ∙ part_early w.front (tops_early (body_of w.parts.source) (part_of (two_level_of w))
      (rest_in w.parts.tops))
  fault_is Back w =
      let tops : List Handle = rest_in w.parts.tops in
      let xs : List R = (remains_in span_remains w.back).results in
      ap (λ (ps : List (Result (Loading Handle) Error)). early_behind xs (early_among ps))
      (map_seen (part_named w.parts) Back tops)
      ∙ ap (λ (f : Option Error). early_behind xs f) (faults_are w (reverse tops))
      ∙ part_early w.back (tops_early (body_of w.parts.source) (part_of (two_level_of w))
      (reverse tops))

  some_tops : (at : Direction) (p : Partitions A) (xs : List R) (tops : List Handle)
      → 0 < none_behind xs (needed (seen_from at (map (part_named p) tops))) → 0 < length tops
  some_tops at p xs [] some =
      absurd (omega (
        arith,
        some_needed xs _ some,
        ap needed
            (seen_none {X = Result (Loading Handle) Error} at [] refl),
      ))
  some_tops at p xs (top ∷ tops) some = omega arith

  -- ---- a step

  over_is : (w : Walk (Partitions A) (Span Handle))
      → IsOver (walk_left span_remains coming_partitions w)
      → IsEnded (two_level_left (two_level_of w))
  over_is w over = record {
    results = sym (results_are w) ∙ over.results;
    loads = omega (arith, over.loads, length-map (rest_in w.parts.tops) (part_named w.parts));
  }

  over_from : (w : Walk (Partitions A) (Span Handle)) → IsEnded (two_level_left (two_level_of w))
      → IsOver (walk_left span_remains coming_partitions w)
  over_from w over = record {
    results = results_are w ∙ over.results;
    loads = omega (
      arith,
      over.loads,
      no_part_loads w.front,
      no_part_loads w.back,
      length-map
          (rest_in w.parts.tops) (part_named w.parts),
    );
  }

  -- behind the loads, where an error ended it
  abbrev Goes : Option R → Walk (Partitions A) (Span Handle) → Walk (Partitions A) (Span Handle)
      → Type 0
  Goes r u v = StopsAtError span_remains coming_partitions EndsPartitions r u v

  ended_is : (u v : Walk (Partitions A) (Span Handle)) → Ended coming_partitions EndsPartitions u v
      → IsEnded (two_level_left (two_level_of v))
  ended_is u v ended = record {
    results = ap (λ (o : Option (Span Handle)). ok_results (rest_of o)
        ++ (parts_between (body_of v.parts.source) v.parts.edges.0 v.parts.edges.1
        (rest_in v.parts.tops) ++ ok_results (rest_of v.back))) ended.front
        ∙ ap (λ (hs : List Handle). parts_between (body_of v.parts.source) v.parts.edges.0
        v.parts.edges.1 hs ++ ok_results (rest_of v.back)) ended.kept.tops
        ∙ ap (λ (o : Option (Span Handle)). ok_results (rest_of o)) ended.back;
    loads = ap length ended.kept.tops;
  }

  -- what is the same whether an error ended it
  record Stays (u v : Walk (Partitions A) (Span Handle)) : Type 0 where
    pub index : two_level (body_of v.parts.source) v.parts.tops.list
        ≡ two_level (body_of u.parts.source) u.parts.tops.list
    pub opened : v.parts.opened ≡ u.parts.opened
    pub fewer : length (rest_in v.parts.tops) ≤ length (rest_in u.parts.tops)

  stays_same : (u v : Walk (Partitions A) (Span Handle)) → v ≡ u → Stays u v
  stays_same u v is = subst (λ (x : Walk (Partitions A) (Span Handle)). Stays u x) (sym is)
      (record { index = refl; opened = refl; fewer = omega arith })

  stays : (r : Option R) (u v : Walk (Partitions A) (Span Handle)) → Goes r u v → Stays u v
  stays None u v goes = stays_same u v goes
  stays (Some (Ok h)) u v goes = stays_same u v goes
  stays (Some (Err e)) u v goes = record {
    index = same_index _ _ _ _ goes.kept.body goes.kept.list;
    opened = goes.kept.opened;
    fewer = omega (arith, ap length goes.kept.tops);
  }

  ends_is : (r : Option R) (u v : Walk (Partitions A) (Span Handle)) → Goes r u v
      → MatchOption r (Unit {0}) (λ x. MatchResult x (λ _. Unit {0})
      (λ _. IsEnded (two_level_left (two_level_of v))))
  ends_is None u v goes = tt
  ends_is (Some (Ok h)) u v goes = tt
  ends_is (Some (Err e)) u v goes = ended_is u v goes

  answer_is : (at : Direction) (w u v : Walk (Partitions A) (Span Handle)) (r : Option R)
      → WalkTakes span_remains coming_partitions KeepsPartitions at w r u → Goes r u v
      → AtEnd (taken_at at) (two_level_left (two_level_of w)) r (two_level_left (two_level_of v))
  answer_is at w u v None takes goes = (
    sym (results_are w) ∙ takes.answer.0,
    subst
        (λ (x : Walk (Partitions A) (Span Handle)). IsEnded (two_level_left (two_level_of x)))
        (sym goes) (over_is u takes.answer.1),
  )
  answer_is at w u v (Some (Ok h)) takes goes =
      ap (taken_at at) (sym (results_are w))
      ∙ takes.answer
      ∙ ap (λ (rs : List R). (Some (Ok h), rs)) (results_are u
      ∙ ap (λ (x : Walk (Partitions A) (Span Handle)).
      (two_level_left (two_level_of x)).results) (sym goes))
  answer_is at w u v (Some (Err e)) takes goes = (
    λ fine. ap (λ (rs : List R). (taken_at at rs).0) (sym (results_are w)) ∙ takes.answer.0 fine,
    λ over. takes.answer.1 (over_from w over),
  )

  near_loads : (at : Direction) (w : Walk (Partitions A) (Span Handle))
      → (remains_in span_remains (near at w)).loads ≡ 0
  near_loads Front w = no_part_loads w.front
  near_loads Back w = no_part_loads w.back

  pub two_levels : (at : Direction) (w v : Walk (Partitions A) (Span Handle)) (r : Option R)
      → WalkGives span_remains coming_partitions KeepsPartitions EndsPartitions at w r v
      → TwoLevelGives (taken_at at) (needs_at at) (fault_at at) (two_level_of w) r (two_level_of v)
  two_levels at w v r gives =
      let takes = gives.takes in
      let u : Walk (Partitions A) (Span Handle) = gives.taken in
      let m = moved takes.named w.parts u.parts takes.loads in
      let same = stays r u v gives.goes in
      let needs_same = needs_is at w in
      record {
        gives = record {
          answer = answer_is at w u v r takes gives.goes;
          ends = ends_is r u v gives.goes;
          index = same.index ∙ same_index _ _ _ _ m.body m.list;
          loads = record {
            count = loads_in takes.named;
            counts = same.opened ∙ m.counts;
            within = omega (arith, fewer takes.named w.parts u.parts takes.loads, same.fewer);
          };
        };
        most = omega (arith, takes.most, needs_same);
        some = λ some.
            let more : 0 < needed_at span_remains coming_partitions at w =
            omega (arith, some, needs_same) in
            some_loads takes.named w.parts u.parts takes.loads (takes.some (near_loads at w) more)
            (some_tops at w.parts (remains_in span_remains (near at w)).results
            (rest_in w.parts.tops) more);
        exact = λ fine. takes.exact fine ∙ needs_same;
        first = λ f early all. takes.first f (fault_is at w ∙ early) (all ∙ sym needs_same);
      }

  -- what was left was let go
  pub walk_over : (w v : Walk (Partitions A) (Span Handle))
      → Ended coming_partitions EndsPartitions w v
      → two_level_of v ≡ record (two_level_of w) { tops = []; front = []; back = [] }
  walk_over w v ended =
      rw (
        ended.front,
        ended.back,
        ended.kept.body,
        ended.kept.tops,
        ended.kept.list,
        ended.kept.edges,
        ended.kept.opened,
      )

  -- before an edge is sought
  pub none_yielded : (w : Walk (Partitions A) (Span Handle)) (p : Partitions A) (body : List ℕ)
      (whole : List Handle) → w ≡ record { parts = p; front = None; back = None }
      → body_of p.source ≡ body → p.tops ≡ whole_span whole → p.edges ≡ (None, None)
      → p.opened ≡ none_opened → two_level_of w ≡ new_two_level body whole
  none_yielded w p body whole new same is none counted =
      let all : rest_in p.tops ≡ whole = all_of p.tops whole is in
      ap two_level_of new ∙ rw (same, all, is, none, counted)
