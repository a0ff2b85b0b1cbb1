-- Point reads in which no table is asked that is older than what was found.
use Rattle.std.proofs.Common.{◌≡◌, refl, sym, ◌∙◌, ap, subst, ℕ, ◌+◌, ◌<◌, ◌≤◌, Bool, true, false}
use Rattle.std.proofs.Common.{cond}
use Rattle.std.proofs.Common.{List, [], ◌∷◌, inl, inr, arith}
use Rattle.std.specs.Prelude.{Option, Some, None, Result, Ok, if◌then◌else◌}
use Rattle.std.specs.List.{AllByRecursion}
use Rattle.std.proofs.lemmas.Bool.{cases_Bool, ltb-true}
use Rattle.sst_entries.specs.declared.error.Error.{Error}
use Rattle.sst_entries.specs.Entry.{Entry}
use Rattle.sst_entries.specs.Point.{point}
use Rattle.sst_entries.proofs.Booleans.{and_parts}
use Rattle.sst_entries.proofs.Lists.{all_more}
use Rattle.sst_blocks.specs.table.Chunks.{joined}
use Rattle.sst_blocks.specs.table.Facts.{highest_seqno}
use Rattle.lsm_iters.specs.Lift.{lift}
use Rattle.lsm_sorted.specs.version.KeyRange.{has_key, key_le}
use Rattle.lsm_sorted.specs.version.Run.{are_in_order, table_of_key}
use Rattle.lsm_sorted.proofs.RunLemmas.{parts}
use Rattle.lsm_readers.specs.point.Read.{◌>>=◌}
use Rattle.lsm_readers.specs.point.Table.{OpenTable}
use Rattle.lsm_readers.proofs.StoredParts.{bears_out}
use Rattle.lsm_runs.specs.RunLists.{HoldLists, HoldsList, RunsHoldLists}
use Rattle.lsm_run_parts.specs.RunParts.{range_of, ranges_of}
use Rattle.lsm_runs.specs.SeveralRuns.{highest_number, is_older, run_read_behind}
use Rattle.lsm_sorted.specs.Leading.{leading_of}
use Rattle.lsm_runs.specs.SeveralRuns.{runs_read_by_age, table_read, union_in, worth_asking}
use Rattle.lsm_runs.proofs.Leading.{IsOfKey, leading_assoc, leading_last, leading_of_key}
use Rattle.lsm_runs.proofs.Leading.{leading_sorted, leads_older, point_of_key}
use Rattle.lsm_runs.proofs.Rising.{ascends_of, run_strict}
use Rattle.lsm_runs.proofs.RunPoints.{behind, front_alone, held_answer, none_behind, others_outside}
use Rattle.lsm_runs.proofs.RunPoints.{past_others, union_more}
use Rattle.lsm_runs.proofs.RunWithin.{held_keys}

-- ---- which table is asked

pub not_asked : (found : Option Entry) (t : OpenTable) → is_older found t ≡ true
    → worth_asking found (Some t) ≡ None
not_asked found t older = ap (λ (b : Bool). if b then None else Some t) older

pub asked : (found : Option Entry) (t : OpenTable) → is_older found t ≡ false
    → worth_asking found (Some t) ≡ Some t
asked found t other = ap (λ (b : Bool). if b then None else Some t) other

-- ---- a table's highest number is that of its list

lift_numbers : (es : List Entry) (g m : ℕ) → highest_seqno es ≤ m
    → AllByRecursion (λ (e : Entry). e.seqno ≤ m + g) (lift es g)
unfolding highest_seqno
lift_numbers [] g m most = tt
lift_numbers (e ∷ es) g m most =
    (omega (arith, most), lift_numbers es g m (omega (arith, most)))

held_numbers : (t : OpenTable) (es : List Entry) → HoldsList t es
    → AllByRecursion (λ (e : Entry). e.seqno ≤ highest_number t) es
held_numbers t es h =
    let pins = h.opened.recovered in
    let highest : t.parts.facts.seqno_max ≡ highest_seqno h.stored =
    (bears_out t.bytes h.stored h.table t.global_seqno pins.pin_filter pins.pin_index t.parts
    pins.returned).seqno_max in
    subst (λ (xs : List Entry). AllByRecursion (λ (e : Entry). e.seqno ≤ highest_number t) xs)
    (sym h.lifted_is)
    (lift_numbers h.stored t.global_seqno t.parts.facts.seqno_max (omega (arith, highest)))

module _ (key : List ℕ) (bound : ℕ) where
  -- what an older table has of the key does not stand before what was found
  older_has : (found : Option Entry) (t : OpenTable) (es : List Entry) → HoldsList t es
      → IsOfKey key bound found → is_older found t ≡ true
      → leading_of found None ≡ leading_of found (point es key bound)
  older_has None t es h is older = absurd cc
  older_has (Some e) t es h is older =
      let less : highest_number t < e.seqno = ltb-true (highest_number t) e.seqno older in
      sym (leads_older key bound e es is (all_more
      (λ (x : Entry). x.seqno ≤ highest_number t) (λ (x : Entry). x.seqno < e.seqno)
      (λ x most. omega (arith, most, less)) es (held_numbers t es h)))

  -- ---- one run

  -- it tells an answer that is as good as the first match in its lists
  abbrev ReportsOf : Option Entry → List OpenTable → Option Entry → Type 0
  ReportsOf found ts own = (next : Option Entry)
      × ((run_read_behind key bound found ts).returned ≡ Ok next)
      × (leading_of found next ≡ leading_of found own)

  abbrev told_by : Option Entry → Option OpenTable → Result (Option Entry) Error
  told_by found o = (table_read key bound (worth_asking found o)).returned

  run_reports : (found : Option Entry) (ts : List OpenTable) (ls : List (List Entry))
      → HoldLists ts ls → are_in_order (ranges_of ts) ≡ true → IsOfKey key bound found
      → ReportsOf found ts (point (joined ls) key bound)
  unfolding point
  run_reports found [] [] h order is = (None, refl, refl)
  run_reports found [] (es ∷ ls) h order is = absurd h
  run_reports found (t ∷ ts) [] h order is = absurd h
  run_reports found (t ∷ ts) (es ∷ ls) h order is =
      let r = range_of t in
      let p = parts r (ranges_of ts) order in
      let by_first : Bool → Option OpenTable =
      λ b. cond b (Some t) (table_of_key range_of key ts) in
      elim (cases_Bool (has_key r key)) [
        | inl holds ↦
            let low = (and_parts (key_le r.min key) (key_le key r.max) holds).1 in
            let own : point (joined (es ∷ ls)) key bound ≡ point es key bound =
            front_alone key bound es (joined ls)
            (none_behind key bound r.max low ts ls h.1 p.before) in
            let there = ap (λ (b : Bool). told_by found (by_first b)) holds in
            elim (cases_Bool (is_older found t)) [
              | inl older ↦ (
                None,
                there ∙ ap (λ (o : Option OpenTable). (table_read key bound o).returned)
                    (not_asked found t older),
                older_has found t es h.0 is older ∙ ap (leading_of found) (sym own),
              )
              | inr other ↦ (
                point es key bound,
                there ∙ ap (λ (o : Option OpenTable). (table_read key bound o).returned)
                    (asked found t other) ∙ held_answer key bound t es h.0,
                ap (leading_of found) (sym own),
              )
            ]
        | inr miss ↦
            let own : point (joined (es ∷ ls)) key bound ≡ point (joined ls) key bound =
            past_others key bound es (joined ls)
            (others_outside key bound r es miss (held_keys t es h.0)) in
            let more = run_reports found ts ls h.1 p.rest is in (
              more.0,
              ap (λ (b : Bool). told_by found (by_first b)) miss ∙ more.1,
              more.2 ∙ ap (leading_of found) (sym own),
            )
      ]

  -- ---- several runs

  abbrev returned : Option Entry → List (List OpenTable) → Result (Option Entry) Error
  returned found runs = (runs_read_by_age key bound found runs).returned

  pub age_point : (found : Option Entry) (runs : List (List OpenTable))
      (lists : List (List (List Entry))) → RunsHoldLists runs lists → IsOfKey key bound found
      → returned found runs ≡ Ok (leading_of found (point (union_in lists) key bound))
  unfolding point
  age_point found [] [] h is = ap (λ (o : Option Entry). Ok o) (sym (leading_last found))
  age_point found [] (ls ∷ lists) h is = absurd h
  age_point found (ts ∷ runs) [] h is = absurd h
  age_point found (ts ∷ runs) (ls ∷ lists) h is =
      let order : are_in_order (ranges_of ts) ≡ true = h.0.0 in
      let own = point (joined ls) key bound in
      let one = run_reports found ts ls h.0.1 order is in
      let union : point (union_in (ls ∷ lists)) key bound
      ≡ leading_of own (point (union_in lists) key bound) =
      ap (λ (es : List Entry). point es key bound) (union_more key bound ls lists)
      ∙ leading_sorted key bound (joined ls) (behind key bound lists)
      (ascends_of (joined ls) (run_strict ts ls h.0.1 order)) in
      ap (λ (r : Result (Option Entry) Error). r >>= λ next. returned (leading_of found next) runs)
      one.1
      ∙ ap (λ (o : Option Entry). returned o runs) one.2
      ∙ age_point (leading_of found own) runs lists h.1
      (leading_of_key key bound found own is (point_of_key key bound (joined ls)))
      ∙ ap (λ (o : Option Entry). Ok o) (leading_assoc found own (point (union_in lists) key bound)
      ∙ ap (leading_of found) (sym union))
