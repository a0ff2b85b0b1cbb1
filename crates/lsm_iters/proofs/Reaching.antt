-- How far a step of a walk has come.
use Rattle.std.proofs.Common.{◌≡◌, ℕ, suc, ◌+◌, ◌<◌, ◌≤◌, false, List, [], ◌∷◌, ◌++◌, length, refl}
use Rattle.std.proofs.Common.{sym, ap, subst, ◌∙◌, arith}
use Rattle.std.proofs.lemmas.List.{append_assoc}
use Rattle.std.specs.Prelude.{Option, Some, None, Result, Ok, Err}
use Rattle.std.specs.Option.{option_or}
use Rattle.sst_entries.specs.declared.error.Error.{Error}
use Rattle.sst_entries.specs.declared.stream.Direction.{Direction}
use Rattle.sst_entries.specs.declared.stream.Direction.TheVariants.{Front, Back}
use Rattle.sst_entries.specs.Error.{is_memory}
use Rattle.sst_entries.specs.Stream.{answer_stops}
use Rattle.lsm_iters.specs.declared.walk.Walk.{Walk}
use Rattle.lsm_iters.specs.walk.Ends.{IsOver, Remains, StepAnswers, StepGives, taken_at, laid_from}
use Rattle.lsm_iters.specs.walk.Ends.{remains_in, seen_from}
use Rattle.lsm_iters.specs.walk.Parts.{Coming, IsDone, LoadGives, Loading, Loads, Names, ReportsOf}
use Rattle.lsm_iters.specs.walk.Parts.{early_behind, early_among, early_named, loads_in, needed}
use Rattle.lsm_iters.specs.walk.Parts.{none_behind, results_of, all_results}
use Rattle.lsm_iters.specs.walk.Walks.{StopsAtError, WalkGives, WalkTakes, early_at, far, near}
use Rattle.lsm_iters.specs.walk.Walks.{needed_at, other_loads, walk_left, with_far, with_near}
use Rattle.lsm_iters.proofs.Instances.{positive}
use Rattle.lsm_iters.proofs.AtEnds.{first_alone, first_joined, nil_joined, nil_left, nil_right}
use Rattle.lsm_iters.proofs.AtEnds.{no_items, none_at, pair, joined_assoc, rows_split, seen_none}
use Rattle.lsm_iters.proofs.AtEnds.{seen_split, shortens, takes_joined, whole_end}

-- ---- how many parts an answer needs

module _ {X : Type 0} where
  some_behind : (at : Direction) (xs : List (Result X Error)) (x : Result X Error) (n : ℕ)
      → (taken_at at xs).0 ≡ Some x → none_behind xs n ≡ 0
  some_behind at [] x n e = absurd (none_at at [] x refl e)
  some_behind at (y ∷ xs) x n e = refl

  none_before : (xs : List (Result X Error)) (n : ℕ) → 0 < none_behind xs n → xs ≡ []
  none_before [] n some = refl
  none_before (x ∷ xs) n some = absurd (omega (arith, some))

  -- where a fault is met, a part is needed
  early_needs : (ps : List (Result (Loading X) Error)) (f : Error) → early_among ps ≡ Some f
      → 0 < needed ps
  early_needs [] f e = let wrong : None ≡ Some f = e in absurd cc
  early_needs (Ok p ∷ ps) f e = omega arith
  early_needs (Err x ∷ ps) f e = let wrong : None ≡ Some f = e in absurd cc

  early_behind_needs : (xs : List (Result X Error)) (ps : List (Result (Loading X) Error))
      (f : Error) → early_behind xs (early_among ps) ≡ Some f → 0 < none_behind xs (needed ps)
  early_behind_needs [] ps f e = early_needs ps f e
  early_behind_needs (x ∷ xs) ps f e = let wrong : None ≡ Some f = e in absurd cc

no_loads : {X : Type 0} (ns : List (Option (Result (Loading X) Error))) → length ns ≡ 0
    → loads_in ns ≡ 0
no_loads [] e = refl
no_loads (n ∷ ns) e = absurd (omega (arith, e))

-- what a part's own fault is, or else what comes behind it where another part is needed too
own_fault : (o others : Option Error) (n : ℕ) (e f : Error) → ((x : Error) → o ≡ Some x → e ≡ x)
    → (others ≡ Some f → 0 < n) → option_or o others ≡ Some f → suc n ≡ 1 → e ≡ f
own_fault (Some x) others n e f own more is one = own x refl
    ∙ (let same : Some x ≡ Some f = is in cc)
own_fault None others n e f own more is one = absurd (omega (arith, more is, one))

no_fault : (o : Option Error) → ((f : Error) → o ≡ Some f → ⊥) → o ≡ None
no_fault None none = refl
no_fault (Some f) none = absurd (none f refl)

module _ {P T X : Type 0} (left : T → Remains X) (coming : P → Coming X) where
  abbrev pub near_results : Direction → Walk P T → List (Result X Error)
  near_results at w = (remains_in left (near at w)).results

  abbrev pub far_results : Direction → Walk P T → List (Result X Error)
  far_results at w = (remains_in left (far at w)).results

  abbrev pub parts_in : Walk P T → List (Result (Loading X) Error)
  parts_in w = (coming w.parts).parts

  -- the loads beside those of the parts to come, as an end sees them
  abbrev pub near_loads : Direction → Walk P T → ℕ
  near_loads at w = (remains_in left (near at w)).loads

  abbrev pub far_loads : Direction → Walk P T → ℕ
  far_loads at w = (remains_in left (far at w)).loads

  pub others_are : (at : Direction) (w : Walk P T)
      → other_loads left coming w ≡ near_loads at w + (coming w.parts).loads + far_loads at w
  others_are Front w = refl
  others_are Back w = omega arith

  -- what is left, as an end sees it
  abbrev pub from_end : Direction → Walk P T → List (Result X Error)
  from_end at w = laid_from at (near_results at w)
      (laid_from at (all_results (parts_in w)) (far_results at w))

  pub from_end_is : (at : Direction) (w : Walk P T)
      → (walk_left left coming w).results ≡ from_end at w
  from_end_is Front w = refl
  from_end_is Back w = sym (append_assoc (remains_in left w.front).results
      (all_results (parts_in w)) (remains_in left w.back).results)

  -- all is over where each part is
  pub record AllOver (at : Direction) (w : Walk P T) : Type 0 where
    pub near : IsOver (remains_in left (near at w))
    pub done : IsDone (coming w.parts)
    pub far : IsOver (remains_in left (far at w))

  pub over_is : (at : Direction) (w : Walk P T) → AllOver at w → IsOver (walk_left left coming w)
  over_is Front w all = record {
    results = ap (λ (rs : List (Result X Error)). rs
        ++ (all_results (parts_in w) ++ (remains_in left w.back).results)) all.near.results
        ∙ ap (λ (ps : List (Result (Loading X) Error)). all_results ps
        ++ (remains_in left w.back).results) all.done.parts
        ∙ all.far.results;
    loads = omega (arith, all.near.loads, all.done.loads, all.far.loads, ap length all.done.parts);
  }
  over_is Back w all = record {
    results = ap (λ (rs : List (Result X Error)). rs
        ++ (all_results (parts_in w) ++ (remains_in left w.back).results)) all.far.results
        ∙ ap (λ (ps : List (Result (Loading X) Error)). all_results ps
        ++ (remains_in left w.back).results) all.done.parts
        ∙ all.near.results;
    loads = omega (arith, all.near.loads, all.done.loads, all.far.loads, ap length all.done.parts);
  }

  over_front : (w : Walk P T) → IsOver (walk_left left coming w) → IsOver (remains_in left w.front)
  over_front w over = record {
    results = nil_left _ _ over.results;
    loads =
        omega (arith, over.loads);
  }

  over_back : (w : Walk P T) → IsOver (walk_left left coming w) → IsOver (remains_in left w.back)
  over_back w over = record {
    results = nil_right _ _ (nil_right _ _ over.results);
    loads =
        omega (arith, over.loads);
  }

  over_parts : (w : Walk P T) → IsOver (walk_left left coming w) → IsDone (coming w.parts)
  over_parts w over = record {
    parts = no_items (parts_in w) (omega (arith, over.loads));
    loads =
        omega (arith, over.loads);
  }

  pub all_over : (at : Direction) (w : Walk P T) → IsOver (walk_left left coming w) → AllOver at w
  all_over Front w over = record {
    near = over_front w over;
    done = over_parts w over;
    far =
        over_back w over;
  }
  all_over Back w over = record {
    near = over_back w over;
    done = over_parts w over;
    far =
        over_front w over;
  }

  -- ---- what a step at one part leaves as it was

  pub record Keeps (u v : Walk P T) (o p : Option T) : Type 0 where
    pub parts : v.parts ≡ u.parts
    pub other : p ≡ o

  pub near_keeps : (at : Direction) (u v : Walk P T) (o : Option T) → v ≡ with_near at u o
      → Keeps u v (far at u) (far at v)
  near_keeps Front u v o is = record {
    parts = ap (λ (w : Walk P T). w.parts) is;
    other =
        ap (λ (w : Walk P T). w.back) is;
  }
  near_keeps Back u v o is = record {
    parts = ap (λ (w : Walk P T). w.parts) is;
    other =
        ap (λ (w : Walk P T). w.front) is;
  }

  pub far_keeps : (at : Direction) (u v : Walk P T) (o : Option T) → v ≡ with_far at u o
      → Keeps u v (near at u) (near at v)
  far_keeps Front u v o is = record {
    parts = ap (λ (w : Walk P T). w.parts) is;
    other =
        ap (λ (w : Walk P T). w.front) is;
  }
  far_keeps Back u v o is = record {
    parts = ap (λ (w : Walk P T). w.parts) is;
    other =
        ap (λ (w : Walk P T). w.back) is;
  }

  pub near_put : (at : Direction) (u v : Walk P T) (o : Option T) → v ≡ with_near at u o
      → near at v ≡ o
  near_put Front u v o is = ap (λ (w : Walk P T). w.front) is
  near_put Back u v o is = ap (λ (w : Walk P T). w.back) is

  pub parts_near : (at : Direction) (u : Walk P T) (p : P)
      → near at (record u { parts = p }) ≡ near at u
  parts_near Front u p = refl
  parts_near Back u p = refl

  pub parts_far : (at : Direction) (u : Walk P T) (p : P)
      → far at (record u { parts = p }) ≡ far at u
  parts_far Front u p = refl
  parts_far Back u p = refl

-- ---- the loads that a step makes

same_end : {X : Type 0} (at : Direction) (xs ys : List (Result X Error))
    (ps qs : List (Result (Loading X) Error)) (zs ws : List (Result X Error)) → xs ≡ ys → ps ≡ qs
    → zs ≡ ws → laid_from at xs (laid_from at (all_results ps) zs)
    ≡ laid_from at ys (laid_from at (all_results qs) ws)
same_end {X = X} at xs ys ps qs zs ws e f g =
    ap (λ (rs : List (Result X Error)). laid_from at rs (laid_from at (all_results ps) zs)) e
    ∙ ap (λ (rs : List (Result (Loading X) Error)). laid_from at ys
    (laid_from at (all_results rs) zs)) f
    ∙ ap (λ (rs : List (Result X Error)). laid_from at ys (laid_from at (all_results qs) rs)) g

module _ {P T X : Type 0} (left : T → Remains X) (coming : P → Coming X)
    (keeps : P → Option (Result (Loading X) Error) → P → Type 0) (at : Direction) where
  -- from s the step has come to u, of which as much is left
  pub record Reached (s u : Walk P T) : Type 0 where
    pub results : from_end left coming at u ≡ from_end left coming at s
    pub over : AllOver left coming at s → AllOver left coming at u
    pub others : other_loads left coming u ≤ other_loads left coming s
    pub named : List (Option (Result (Loading X) Error))
    pub loads : Loads keeps s.parts named u.parts
    pub within : loads_in named + length (parts_in left coming u) ≤ length (parts_in left coming s)
    pub most : loads_in named + needed_at left coming at u ≡ needed_at left coming at s
    pub early : early_at left coming at u ≡ early_at left coming at s

  -- at the head of the loop: where no load was made the part at the end is as it was
  pub record Going (s u : Walk P T) : Type 0 where
    pub reached : Reached s u
    pub fresh : length reached.named ≡ 0 → (remains_in left (near at u)).loads
        ≡ (remains_in left (near at s)).loads

  pub starts : (s : Walk P T) → Going s s
  starts s = record {
    reached = record {
      results = refl;
      over = λ all. all;
      others = omega arith;
      named = [];
      loads = refl;
      within = omega arith;
      most = omega arith;
      early = refl;
    };
    fresh = λ none. refl;
  }

  -- a step at the part at the end makes no other loads more or fewer
  others_kept : (u v : Walk P T) → Keeps left coming u v (far at u) (far at v)
      → other_loads left coming v + near_loads left coming at u
      ≡ other_loads left coming u + near_loads left coming at v
  others_kept u v same =
      omega (
        arith,
        others_are left coming at u,
        others_are left coming at v,
        ap (λ (p : P). (coming p).loads) same.parts,
        ap (λ (o : Option T). (remains_in left o).loads) same.other,
      )

  -- the part at the end has nothing more
  pub kept : (s u v : Walk P T) → Reached s u → StepGives at (remains_in left (near at u)) None
      (remains_in left (near at v)) → v ≡ with_near at u (near at v) → Reached s v
  kept s u v reached gives is =
      let same = near_keeps left coming at u v (near at v) is in
      let over : IsOver (remains_in left (near at v)) = gives.answer.1 in
      let near_same : near_results left coming at v ≡ near_results left coming at u = over.results
      ∙ sym gives.answer.0 in
      let parts_same : parts_in left coming v ≡ parts_in left coming u =
      ap (λ (p : P). (coming p).parts) same.parts in
      record {
        results = same_end at _ _ _ _ _ _ near_same parts_same
            (ap (λ (o : Option T). (remains_in left o).results) same.other) ∙ reached.results;
        over = λ all. let was = reached.over all in record {
          near = over;
          done = subst (λ (p : P). IsDone (coming p)) (sym same.parts) was.done;
          far = subst (λ (o : Option T). IsOver (remains_in left o)) (sym same.other) was.far;
        };
        others = omega (arith, reached.others, gives.loads, others_kept u v same);
        named = reached.named;
        loads = subst (λ (p : P). Loads keeps s.parts reached.named p)
            (sym same.parts) reached.loads;
        within = omega (arith, reached.within, ap length parts_same);
        most = ap (λ (n : ℕ). loads_in reached.named + n)
            (ap (λ (rs : List (Result X Error)). none_behind rs
            (needed (seen_from at (parts_in left coming v)))) near_same
            ∙ ap (λ (ps : List (Result (Loading X) Error)). none_behind
            (near_results left coming at u) (needed (seen_from at ps))) parts_same)
            ∙ reached.most;
        early = ap (λ (rs : List (Result X Error)). early_behind rs
            (early_among (seen_from at (parts_in left coming v)))) near_same
            ∙ ap (λ (ps : List (Result (Loading X) Error)). early_behind
            (near_results left coming at u) (early_among (seen_from at ps))) parts_same
            ∙ reached.early;
      }

  -- the next part was loaded
  pub record Enters (u : P) (part : T) (t : P) : Type 0 where
    pub load : Loading X
    pub takes : taken_at at (coming u).parts ≡ (Some (Ok load), (coming t).parts)
    pub returned : (left part).results ≡ load.results
    pub fine : load.early ≡ None
    pub loads : (left part).loads + (coming t).loads ≤ (coming u).loads
    pub kept : keeps u (Some (Ok load)) t

  enters_by : (u : P) (part : T) (t : P) (named : Option (Result (Loading X) Error))
      → Names at (coming u) named (coming t) → ReportsOf left named (Some (Ok part))
      → ((f : Error) → early_named named ≡ Some f
      → ◌≡◌ {A = Option (Result T Error)} (Some (Ok part)) (Some (Err f)))
      → (left part).loads + (coming t).loads ≤ (coming u).loads → keeps u named t → Enters u part t
  enters_by u part t None names returned first few keep = absurd cc
  enters_by u part t (Some (Err e)) names returned first few keep = absurd cc
  enters_by u part t (Some (Ok load)) names returned first few keep = record {
    load = load;
    takes = names;
    returned = returned;
    fine = no_fault load.early (λ f early. let wrong : ◌≡◌ {A = Option (Result T Error)}
        (Some (Ok part)) (Some (Err f)) = first f early in absurd cc);
    loads = few;
    kept = keep;
  }

  pub enters_of : (u : P) (part : T) (t : P) → LoadGives left coming keeps at u (Some (Ok part)) t
      → Enters u part t
  enters_of u part t gives = enters_by u part t gives.named gives.names gives.returned gives.first
      gives.loads gives.kept

  pub advance : (s u v : Walk P T) (part : T) → Reached s u → near_results left coming at u ≡ []
      → Enters u.parts part v.parts → near at v ≡ Some part → far at v ≡ far at u → Going s v
  advance s u v part reached none enters put other =
      let us : List (Result (Loading X) Error) = parts_in left coming u in
      let vs : List (Result (Loading X) Error) = parts_in left coming v in
      let zs : List (Result X Error) = far_results left coming at u in
      let load : Loading X = enters.load in
      let shorter : length us ≡ suc (length vs) = shortens at us vs (Ok load) enters.takes in
      let near_is : near_results left coming at v ≡ load.results =
      ap (λ (o : Option T). (remains_in left o).results) put ∙ enters.returned in
      let seen_is : seen_from at us ≡ Ok load ∷ seen_from at vs =
      seen_split at us vs (Ok load) enters.takes in
      let fewer : needed_at left coming at u ≡ suc (needed_at left coming at v) =
      ap (λ (rs : List (Result X Error)). none_behind rs (needed (seen_from at us))) none
      ∙ ap needed seen_is
      ∙ ap (λ (rs : List (Result X Error)). suc (none_behind rs (needed (seen_from at vs))))
      (sym near_is) in
      let early : early_at left coming at u ≡ early_at left coming at v =
      ap (λ (rs : List (Result X Error)). early_behind rs (early_among (seen_from at us))) none
      ∙ ap early_among seen_is
      ∙ ap (λ (o : Option Error). option_or o (early_behind load.results
      (early_among (seen_from at vs)))) enters.fine
      ∙ ap (λ (rs : List (Result X Error)). early_behind rs (early_among (seen_from at vs)))
      (sym near_is) in
      let same : from_end left coming at v ≡ from_end left coming at u =
      same_end at _ _ vs vs _ _ near_is refl (ap (λ (o : Option T). (remains_in left o).results)
      other)
      ∙ sym (joined_assoc at load.results (all_results vs) zs)
      ∙ ap (λ (rs : List (Result X Error)). laid_from at rs zs)
      (sym (rows_split at us vs (Ok load) enters.takes))
      ∙ sym (nil_joined at (laid_from at (all_results us) zs))
      ∙ ap (λ (rs : List (Result X Error)). laid_from at rs (laid_from at (all_results us) zs))
      (sym none) in
      record {
        reached = record {
          results = same ∙ reached.results;
          over = λ all. absurd (omega (arith, shorter, ap length (reached.over all).done.parts));
          others = omega (
            arith,
            reached.others,
            enters.loads,
            others_are left coming at u,
            others_are left coming at v,
            ap (λ (o : Option T). (remains_in left o).loads) put,
            ap (λ (o : Option T). (remains_in left o).loads) other,
          );
          named = Some (Ok load) ∷ reached.named;
          loads = (u.parts, reached.loads, enters.kept);
          within = omega (arith, shorter, reached.within);
          most = omega (arith, fewer, reached.most);
          early = sym early ∙ reached.early;
        };
        fresh = λ nil. absurd (omega (arith, nil));
      }

  pub entered : (s u v : Walk P T) (p : P) (part : T) → Reached s u
      → near_results left coming at u ≡ [] → LoadGives left coming keeps at u.parts
      (Some (Ok part)) p → v ≡ with_near at (record u { parts = p }) (Some part) → Going s v
  entered s u v p part reached none gives is =
      let t : Walk P T = record u { parts = p } in
      let same = near_keeps left coming at t v (Some part) is in
      advance s u v part reached none (subst (λ (q : P). Enters u.parts part q) (sym same.parts)
      (enters_of u.parts part p gives)) (near_put left coming at t v (Some part) is)
      (same.other ∙ parts_far left coming at u p)

  pub smaller : (u t : P) (part : T) → LoadGives left coming keeps at u (Some (Ok part)) t
      → length (coming t).parts < length (coming u).parts
  smaller u t part gives =
      let enters = enters_of u part t gives in
      omega (arith, shortens at (coming u).parts (coming t).parts (Ok enters.load) enters.takes)

  -- it could not be loaded
  pub record Faults (u : P) (e : Error) (t : P) : Type 0 where
    pub place : Result (Loading X) Error
    pub returned : is_memory e ≡ false → ((taken_at at (coming u).parts).0 ≡ Some place)
        × (results_of place ≡ Err e ∷ [])
    pub some : IsDone (coming u) → ⊥
    pub kept : keeps u (Some place) t
    pub blocks : ℕ
    pub is : (more : List (Option (Result (Loading X) Error)))
        → loads_in (Some place ∷ more) ≡ blocks + loads_in more
    pub within : blocks + length (coming t).parts ≤ length (coming u).parts
    pub most : blocks ≤ needed (seen_from at (coming u).parts)
    pub exact : is_memory e ≡ false → blocks ≡ needed (seen_from at (coming u).parts)
    pub first : (f : Error) → early_among (seen_from at (coming u).parts) ≡ Some f
        → blocks ≡ needed (seen_from at (coming u).parts) → e ≡ f

  faults_by : (u : P) (e : Error) (t : P) (named : Option (Result (Loading X) Error))
      → Names at (coming u) named (coming t) → ReportsOf left named (Some (Err e))
      → ((f : Error) → early_named named ≡ Some f
      → ◌≡◌ {A = Option (Result T Error)} (Some (Err e)) (Some (Err f))) → keeps u named t
      → Faults u e t
  faults_by u e t None names returned first keep = absurd cc
  faults_by u e t (Some (Err f)) names returned first keep =
      let us : List (Result (Loading X) Error) = (coming u).parts in
      let same : e ≡ f = cc in
      let here : is_memory e ≡ false → (taken_at at us).0 ≡ Some (Err f) =
      λ fine. names.0 (subst (λ (x : Error). is_memory x ≡ false) same fine) in
      record {
        place = Err f;
        returned = λ fine. (here fine, ap (λ (x : Error). Err x ∷ []) (sym same));
        some = names.1;
        kept = keep;
        blocks = 0;
        is = λ more. omega arith;
        within = omega (arith, ap length names.2.parts);
        most = omega arith;
        exact = λ fine. sym (ap needed (seen_split at us (taken_at at us).1 (Err f)
            (whole_end at us (Err f) (here fine))));
        first = λ g early all. absurd (omega (arith, all, early_needs (seen_from at us) g early));
      }
  faults_by u e t (Some (Ok load)) names returned first keep =
      let us : List (Result (Loading X) Error) = (coming u).parts in
      let ts : List (Result (Loading X) Error) = (coming t).parts in
      let shorter : length us ≡ suc (length ts) = shortens at us ts (Ok load) names in
      let seen_is : seen_from at us ≡ Ok load ∷ seen_from at ts =
      seen_split at us ts (Ok load) names in
      let needs : needed (seen_from at us) ≡ suc (none_behind load.results
      (needed (seen_from at ts))) = ap needed seen_is in
      record {
        place = Ok load;
        returned = λ fine. (
          ap (λ (p : Option (Result (Loading X) Error)
              × List (Result (Loading X) Error)). p.0) names,
          sym (returned fine),
        );
        some = λ done. absurd (omega (arith, shorter, ap length done.parts));
        kept = keep;
        blocks = 1;
        is = λ more. omega arith;
        within = omega (arith, shorter);
        most = omega (arith, needs);
        exact = λ fine. sym (needs ∙ ap (λ (rs : List (Result X Error)). suc
            (none_behind rs (needed (seen_from at ts)))) (sym (returned fine)));
        first = λ f early all.
            own_fault load.early (early_behind load.results (early_among (seen_from at ts)))
            (none_behind load.results (needed (seen_from at ts))) e f
            (λ x own. let same = first x own in cc)
            (λ more. early_behind_needs load.results (seen_from at ts) f more)
            (sym (ap early_among seen_is) ∙ early)
            (sym needs ∙ sym all);
      }

  pub faults_of : (u : P) (e : Error) (t : P) → LoadGives left coming keeps at u (Some (Err e)) t
      → Faults u e t
  faults_of u e t gives = faults_by u e t gives.named gives.names gives.returned gives.first gives.kept

  -- none is to come
  pub record Rests (u t : P) : Type 0 where
    pub none : (coming u).parts ≡ []
    pub done : IsDone (coming t)
    pub kept : keeps u None t

  rests_by : (u t : P) (named : Option (Result (Loading X) Error))
      → Names at (coming u) named (coming t) → ReportsOf {T = T} left named None → keeps u named t
      → Rests u t
  rests_by u t None names returned keep = record { none = names.0; done = names.1; kept = keep }
  rests_by u t (Some (Err e)) names returned keep = absurd cc
  rests_by u t (Some (Ok load)) names returned keep = absurd returned

  pub rests_of : (u t : P) → LoadGives left coming keeps at u None t → Rests u t
  rests_of u t gives = rests_by u t gives.named gives.names gives.returned gives.kept

  -- ---- the answers

  near_answer : (s u v : Walk P T) (x : Result X Error) → Reached s u
      → Keeps left coming u v (far at u) (far at v)
      → StepAnswers at (remains_in left (near at u)) (Some x) (remains_in left (near at v))
      → StepAnswers at (walk_left left coming s) (Some x) (walk_left left coming v)
  near_answer s u v (Ok x) reached same gives =
      ap (taken_at at) (from_end_is left coming at s ∙ sym reached.results)
      ∙ takes_joined at (near_results left coming at u) (near_results left coming at v)
      (laid_from at (all_results (parts_in left coming u)) (far_results left coming at u))
      (Ok x) gives
      ∙ pair refl (same_end at _ _ _ _ _ _ refl (ap (λ (p : P). (coming p).parts) (sym same.parts))
      (ap (λ (o : Option T). (remains_in left o).results) (sym same.other))
      ∙ sym (from_end_is left coming at v))
  near_answer s u v (Err e) reached same gives = (
    λ fine. ap (λ (rs : List (Result X Error)). (taken_at at rs).0)
        (from_end_is left coming at s ∙ sym reached.results)
        ∙ first_joined at (near_results left coming at u)
        (laid_from at (all_results (parts_in left coming u)) (far_results left coming at u))
        (Err e) (gives.0 fine),
    λ over. gives.1 (reached.over (all_over left coming at s over)).near,
  )

  near_stands : (l m : Remains X) (x : Result X Error) (n : ℕ) → StepAnswers at l (Some x) m
      → answer_stops is_memory (Some x) ≡ false → none_behind l.results n ≡ 0
  near_stands l m (Ok x) n gives fine = some_behind at l.results (Ok x) n
      (ap (λ (p : Option (Result X Error) × List (Result X Error)). p.0) gives)
  near_stands l m (Err e) n gives fine = some_behind at l.results (Err e) n (gives.0 fine)

  not_over : (l m : Remains X) (x : Result X Error) → StepAnswers at l (Some x) m → IsOver l → ⊥
  not_over l m (Ok x) gives over = none_at at l.results (Ok x) over.results
      (ap (λ (p : Option (Result X Error) × List (Result X Error)). p.0) gives)
  not_over l m (Err e) gives over = gives.1 over

  pub item : (s u v : Walk P T) (x : Result X Error) → Going s u
      → StepGives at (remains_in left (near at u)) (Some x) (remains_in left (near at v))
      → v ≡ with_near at u (near at v) → WalkTakes left coming keeps at s (Some x) v
  item s u v x going gives is =
      let reached = going.reached in
      let same = near_keeps left coming at u v (near at v) is in
      let us : List (Result (Loading X) Error) = parts_in left coming u in
      record {
        answer = near_answer s u v x reached same gives.answer;
        others = omega (arith, reached.others, gives.loads, others_kept u v same);
        named = reached.named;
        loads = subst (λ (p : P). Loads keeps s.parts reached.named p)
            (sym same.parts) reached.loads;
        within = omega (arith, reached.within, ap (λ (p : P). length (coming p).parts) same.parts);
        most = omega (arith, reached.most);
        some = λ short needs. positive (length reached.named) (λ nil.
            let none : near_results left coming at u ≡ [] =
            none_before _ (needed (seen_from at us))
            (omega (arith, needs, reached.most, no_loads reached.named nil)) in
            not_over (remains_in left (near at u)) (remains_in left (near at v)) x gives.answer
            (record { results = none; loads = going.fresh nil ∙ short }));
        exact = λ fine. omega (
          arith,
          reached.most,
          near_stands (remains_in left (near at u))
              (remains_in left (near at v)) x (needed (seen_from at us)) gives.answer fine,
        );
        first = λ f early all. absurd (omega (
          arith,
          all,
          reached.most,
          early_behind_needs
              (near_results left coming at u) (seen_from at us) f (reached.early ∙ early),
        ));
      }

  pub fault : (s u v : Walk P T) (e : Error) → Reached s u → near_results left coming at u ≡ []
      → LoadGives left coming keeps at u.parts (Some (Err e)) v.parts → near at v ≡ near at u
      → far at v ≡ far at u → WalkTakes left coming keeps at s (Some (Err e)) v
  fault s u v e reached none gives near_is far_is =
      let faults = faults_of u.parts e v.parts gives in
      let us : List (Result (Loading X) Error) = parts_in left coming u in
      let zs : List (Result X Error) = far_results left coming at u in
      let needs : needed_at left coming at u ≡ needed (seen_from at us) =
      ap (λ (rs : List (Result X Error)). none_behind rs (needed (seen_from at us))) none in
      let early_is : early_at left coming at u ≡ early_among (seen_from at us) =
      ap (λ (rs : List (Result X Error)). early_behind rs (early_among (seen_from at us)))
      none in
      let was : (walk_left left coming s).results ≡ laid_from at (all_results us) zs =
      from_end_is left coming at s
      ∙ sym reached.results
      ∙ ap (λ (rs : List (Result X Error)). laid_from at rs (laid_from at (all_results us) zs)) none
      ∙ nil_joined at (laid_from at (all_results us) zs) in
      record {
        answer = (
          λ fine.
              let returned = faults.returned fine in
              let others = (taken_at at us).1 in
              ap (λ (rs : List (Result X Error)). (taken_at at rs).0) was
              ∙ first_joined at (all_results us) zs (Err e)
              (ap (λ (rs : List (Result X Error)). (taken_at at rs).0)
              (rows_split at us others faults.place (whole_end at us faults.place returned.0)
              ∙ ap (λ (rs : List (Result X Error)). laid_from at rs (all_results others)) returned.1)
              ∙ first_joined at (Err e ∷ []) (all_results others) (Err e) (first_alone at (Err e))),
          λ over. faults.some (reached.over (all_over left coming at s over)).done,
        );
        others = omega (
          arith,
          reached.others,
          gives.loads,
          others_are left coming at u,
          others_are left coming at v,
          ap (λ (o : Option T). (remains_in left o).loads) near_is,
          ap (λ (o : Option T). (remains_in left o).loads) far_is,
        );
        named = Some faults.place ∷ reached.named;
        loads = (u.parts, reached.loads, faults.kept);
        within = omega (arith, faults.within, faults.is reached.named, reached.within);
        most = omega (arith, faults.most, faults.is reached.named, reached.most, needs);
        some = λ short some. omega arith;
        exact = λ fine. omega (
          arith,
          faults.exact fine,
          faults.is reached.named,
          reached.most,
          needs,
        );
        first = λ f early all. ap (λ (x : Error). Some (Err x))
            (faults.first f (sym early_is ∙ reached.early ∙ early)
            (omega (arith, faults.is reached.named, all, reached.most, needs)));
      }

  far_answer : (s v : Walk P T) (l : Remains X) (r : Option (Result X Error))
      → (walk_left left coming s).results ≡ l.results
      → (walk_left left coming v).results ≡ far_results left coming at v
      → (IsOver (walk_left left coming s) → IsOver l)
      → (IsOver (remains_in left (far at v)) → IsOver (walk_left left coming v))
      → StepAnswers at l r (remains_in left (far at v))
      → StepAnswers at (walk_left left coming s) r (walk_left left coming v)
  far_answer s v l None was is from to gives = (was ∙ gives.0, to gives.1)
  far_answer s v l (Some (Ok x)) was is from to gives = ap (taken_at at) was ∙ gives
      ∙ pair refl (sym is)
  far_answer s v l (Some (Err e)) was is from to gives = (
    λ fine. ap (λ (rs : List (Result X Error)). (taken_at at rs).0) was
        ∙ gives.0 fine,
    λ over. gives.1 (from over),
  )

  -- one part alone is left, at the other end
  alone : (w : Walk P T) → near_results left coming at w ≡ [] → (coming w.parts).parts ≡ []
      → (walk_left left coming w).results ≡ far_results left coming at w
  alone w none done =
      from_end_is left coming at w
      ∙ same_end at _ [] _ [] (far_results left coming at w) _ none done refl
      ∙ nil_joined at (laid_from at [] (far_results left coming at w))
      ∙ nil_joined at (far_results left coming at w)

  pub rest : (s u w v : Walk P T) (r : Option (Result X Error)) → Reached s u
      → IsOver (remains_in left (near at u)) → LoadGives left coming keeps at u.parts None w.parts
      → near at w ≡ near at u → far at w ≡ far at u
      → StepGives at (remains_in left (far at w)) r (remains_in left (far at v))
      → v ≡ with_far at w (far at v) → WalkTakes left coming keeps at s r v
  rest s u w v r reached none gives near_is far_is step is =
      let rests = rests_of u.parts w.parts gives in
      let same = far_keeps left coming at w v (far at v) is in
      let us : List (Result (Loading X) Error) = parts_in left coming u in
      let done : IsDone (coming v.parts) = subst (λ (p : P). IsDone (coming p))
      (sym same.parts) rests.done in
      let near_over : IsOver (remains_in left (near at v)) =
      subst (λ (o : Option T). IsOver (remains_in left o)) (sym (same.other ∙ near_is)) none in
      let needs : needed_at left coming at u ≡ 0 =
      ap (λ (rs : List (Result X Error)). none_behind rs (needed (seen_from at us))) none.results
      ∙ ap needed (seen_none at us rests.none) in
      let was : (walk_left left coming s).results ≡ far_results left coming at w =
      from_end_is left coming at s ∙ sym reached.results ∙ sym (from_end_is left coming at u)
      ∙ alone u none.results rests.none ∙ ap (λ (o : Option T). (remains_in left o).results)
      (sym far_is) in
      record {
        answer = far_answer s v (remains_in left (far at w)) r was
            (alone v near_over.results done.parts)
            (λ over. subst (λ (o : Option T). IsOver (remains_in left o)) (sym far_is)
            (reached.over (all_over left coming at s over)).far)
            (λ over. over_is left coming at v (record
            { near = near_over; done = done; far = over }))
            step.answer;
        others = omega (
          arith,
          reached.others,
          step.loads,
          done.loads,
          near_over.loads,
          others_are left coming at u,
          others_are left coming at v,
          ap (λ (o : Option T). (remains_in left o).loads) far_is,
        );
        named = None ∷ reached.named;
        loads = (
          u.parts,
          reached.loads,
          subst (λ (p : P). keeps u.parts None p)
              (sym same.parts) rests.kept,
        );
        within = omega (arith, reached.within, ap length done.parts);
        most = omega (arith, reached.most);
        some = λ short some. omega arith;
        exact = λ fine. omega (arith, reached.most, needs);
        first = λ f early all. absurd (omega (
          arith,
          needs,
          early_behind_needs
              (near_results left coming at u) (seen_from at us) f (reached.early ∙ early),
        ));
      }

-- ---- a step, before and behind its end

module _ {P T X : Type 0} (left : T → Remains X) (coming : P → Coming X)
    (keeps : P → Option (Result (Loading X) Error) → P → Type 0) (ends : P → P → Type 0)
    (at : Direction) where
  step_answer : (r : Option (Result X Error)) (s u v : Walk P T)
      → StepAnswers at (walk_left left coming s) r (walk_left left coming u)
      → StopsAtError left coming ends r u v → StepAnswers at (walk_left left coming s) r
      (walk_left left coming v)
  step_answer None s u v answer goes = subst (λ (w : Walk P T). StepAnswers at
      (walk_left left coming s) None (walk_left left coming w)) (sym goes) answer
  step_answer (Some (Ok x)) s u v answer goes =
      subst (λ (w : Walk P T). StepAnswers at (walk_left left coming s) (Some (Ok x))
      (walk_left left coming w)) (sym goes) answer
  step_answer (Some (Err e)) s u v answer goes = answer

  step_loads : (r : Option (Result X Error)) (u v : Walk P T) → StopsAtError left coming ends r u v
      → (walk_left left coming v).loads ≤ (walk_left left coming u).loads
  step_loads None u v goes = omega (
    arith,
    ap (λ (w : Walk P T). (walk_left left coming w).loads)
        goes,
  )
  step_loads (Some (Ok x)) u v goes = omega (
    arith,
    ap
        (λ (w : Walk P T). (walk_left left coming w).loads) goes,
  )
  step_loads (Some (Err e)) u v goes =
      omega (
        arith,
        goes.done.loads,
        ap length goes.done.parts,
        ap (λ (o : Option T). (remains_in left o).loads) goes.front,
        ap (λ (o : Option T). (remains_in left o).loads) goes.back,
      )

  -- it is one of what is left
  pub step_of : (s v : Walk P T) (r : Option (Result X Error))
      → WalkGives left coming keeps ends at s r v
      → StepGives at (walk_left left coming s) r (walk_left left coming v)
  step_of s v r gives =
      let takes = gives.takes in
      record {
        answer = step_answer r s gives.taken v takes.answer gives.goes;
        loads = omega (arith, takes.within, takes.others, step_loads r gives.taken v gives.goes);
      }
