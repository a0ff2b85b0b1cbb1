-- Of tables of lists in runs in order a point read is the first match in the sorted entries of all
-- lists.
use Rattle.std.proofs.Common.{◌≡◌, refl, sym, ◌∙◌, ap, subst, ℕ, Bool, true, false, cond, List, []}
use Rattle.std.proofs.Common.{◌∷◌, ◌++◌, inl, inr}
use Rattle.std.specs.Prelude.{Option, Some, None, Result, Ok, ◌&&◌, nat_lt, find, map}
use Rattle.std.specs.List.{AllByRecursion, list_all}
use Rattle.std.proofs.lemmas.Bool.{cases_Bool}
use Rattle.sst_entries.specs.declared.error.Error.{Error}
use Rattle.sst_entries.specs.Entry.{Entry}
use Rattle.sst_entries.specs.Key.{key_lt, same_key}
use Rattle.sst_entries.specs.Point.{is_hit, point}
use Rattle.sst_entries.specs.Stream.{ok_results}
use Rattle.sst_entries.proofs.Booleans.{and_parts, apart, is_false}
use Rattle.sst_entries.proofs.KeyLemmas.{lt_other, same_is}
use Rattle.sst_blocks.specs.table.Chunks.{joined}
use Rattle.lsm_sorted.specs.merge.Union.{all_entries, sort_entries}
use Rattle.lsm_sorted.specs.version.KeyRange.{Interval, has_key, key_le}
use Rattle.lsm_sorted.specs.version.Run.{IsInOrder, are_in_order, table_of_key}
use Rattle.lsm_sorted.proofs.IntervalLemmas.{le_then_lt, lt_then_le}
use Rattle.lsm_sorted.proofs.RunLemmas.{parts}
use Rattle.lsm_readers.specs.point.Answer.{table_answer}
use Rattle.lsm_readers.specs.point.Read.{◌>>=◌}
use Rattle.lsm_readers.specs.point.Table.{OpenTable}
use Rattle.lsm_readers.proofs.StoredParts.{stored_answers}
use Rattle.lsm_runs.specs.RunLists.{HoldLists, HoldsList, RunsHoldLists}
use Rattle.lsm_run_parts.specs.RunParts.{range_of, ranges_of}
use Rattle.lsm_runs.specs.SeveralRuns.{run_read, runs_result, table_read, union_in}
use Rattle.lsm_sorted.specs.Leading.{leading_of}
use Rattle.lsm_runs.proofs.Leading.{leading_assoc, leading_last, leading_sorted}
use Rattle.lsm_runs.proofs.Rising.{ascends_of, run_strict}
use Rattle.lsm_runs.proofs.RunWithin.{Keys, held_keys}
use Rattle.lsm_runs.proofs.Unions.{entries_of}

module _ (key : List ℕ) (bound : ℕ) where
  -- ---- one run

  abbrev OtherKeys : List Entry → Type 0
  OtherKeys es = AllByRecursion (λ (e : Entry). same_key e.user_key key ≡ false) es

  pub past_others : (es rest : List Entry) → OtherKeys es
      → point (es ++ rest) key bound ≡ point rest key bound
  unfolding point
  past_others [] rest others = refl
  past_others (e ∷ es) rest others =
      ap (λ (b : Bool). cond (b && nat_lt e.seqno bound) (Some e)
      (find (is_hit key bound) (es ++ rest))) others.0 ∙ past_others es rest others.1

  pub front_alone : (es rest : List Entry) → point rest key bound ≡ None
      → point (es ++ rest) key bound ≡ point es key bound
  unfolding point
  front_alone [] rest none = none
  front_alone (e ∷ es) rest none = ap (λ (o : Option Entry). cond (is_hit key bound e) (Some e) o)
      (front_alone es rest none)

  -- a range has not the key, or starts above it
  pub others_outside : (r : Interval) (es : List Entry) → has_key r key ≡ false → Keys r es
      → OtherKeys es
  others_outside r [] miss keys = tt
  others_outside r (e ∷ es) miss keys =
      let other : same_key e.user_key key ≡ false =
      is_false (same_key e.user_key key) (λ same. apart (has_key r key)
      (subst (λ (k : List ℕ). has_key r k ≡ true) (same_is e.user_key key same) keys.0) miss) in
      (other, others_outside r es miss keys.1)

  others_above : (r : Interval) (es : List Entry) → key_lt key r.min ≡ true → Keys r es
      → OtherKeys es
  others_above r [] less keys = tt
  others_above r (e ∷ es) less keys =
      let p = and_parts (key_le r.min e.user_key) (key_le e.user_key r.max) keys.0 in (
        lt_other key e.user_key (lt_then_le key r.min e.user_key less p.0),
        others_above r es less
            keys.1,
      )

  pub none_behind : (max : List ℕ) → key_le key max ≡ true
      → (ts : List OpenTable) (ls : List (List Entry)) → HoldLists ts ls
      → list_all (λ (later : Interval). key_lt max later.min) (ranges_of ts) ≡ true
      → point (joined ls) key bound ≡ None
  unfolding point
  none_behind max low [] [] h before = refl
  none_behind max low [] (es ∷ ls) h before = absurd h
  none_behind max low (t ∷ ts) [] h before = absurd h
  none_behind max low (t ∷ ts) (es ∷ ls) h before =
      let b = and_parts (key_lt max (range_of t).min)
      (list_all (λ (later : Interval). key_lt max later.min) (ranges_of ts)) before in
      past_others es (joined ls) (others_above (range_of t) es
      (le_then_lt key max (range_of t).min low b.0) (held_keys t es h.0))
      ∙ none_behind max low ts ls h.1 b.1

  -- the table answers the first match in its list
  pub held_answer : (t : OpenTable) (es : List Entry) → HoldsList t es
      → (table_answer t key bound).returned ≡ Ok (point es key bound)
  held_answer t es h =
      let pins = h.opened.recovered in
      stored_answers t.bytes h.stored h.table t.global_seqno pins.pin_filter pins.pin_index t.parts
      pins.returned key bound
      ∙ ap (λ (xs : List Entry). Ok (point xs key bound)) (sym h.lifted_is)

  abbrev by_first : OpenTable → List OpenTable → Bool → Result (Option Entry) Error
  by_first t ts b = (table_read key bound (cond b (Some t) (table_of_key range_of key ts))).returned

  run_point : (ts : List OpenTable) (ls : List (List Entry)) → HoldLists ts ls
      → are_in_order (ranges_of ts) ≡ true → (run_read key bound ts).returned
      ≡ Ok (point (joined ls) key bound)
  unfolding point
  run_point [] [] h order = refl
  run_point [] (es ∷ ls) h order = absurd h
  run_point (t ∷ ts) [] h order = absurd h
  run_point (t ∷ ts) (es ∷ ls) h order =
      let r = range_of t in
      let p = parts r (ranges_of ts) order in
      elim (cases_Bool (has_key r key)) [
        | inl holds ↦
            let low = (and_parts (key_le r.min key) (key_le key r.max) holds).1 in
            ap (by_first t ts) holds
            ∙ held_answer t es h.0
            ∙ ap (λ (o : Option Entry). Ok o) (sym (front_alone es (joined ls)
            (none_behind r.max low ts ls h.1 p.before)))
        | inr miss ↦
            ap (by_first t ts) miss
            ∙ run_point ts ls h.1 p.rest
            ∙ ap (λ (o : Option Entry). Ok o) (sym (past_others es (joined ls)
            (others_outside r es miss (held_keys t es h.0))))
      ]

  -- ---- several runs

  abbrev pub behind : List (List (List Entry)) → List Entry
  behind lists = all_entries (map (λ (run : List (List Entry)). ok_results (joined run)) lists)

  pub union_more : (ls : List (List Entry)) (lists : List (List (List Entry)))
      → union_in (ls ∷ lists) ≡ sort_entries (joined ls ++ behind lists)
  union_more ls lists = ap (λ (es : List Entry). sort_entries (es ++ behind lists))
      (entries_of (joined ls))

  pub runs_point : (found : Option Entry) (runs : List (List OpenTable))
      (lists : List (List (List Entry))) → RunsHoldLists runs lists
      → runs_result key bound found runs ≡ Ok (leading_of found (point (union_in lists) key bound))
  unfolding point
  runs_point found [] [] h = ap (λ (o : Option Entry). Ok o) (sym (leading_last found))
  runs_point found [] (ls ∷ lists) h = absurd h
  runs_point found (ts ∷ runs) [] h = absurd h
  runs_point found (ts ∷ runs) (ls ∷ lists) h =
      let order : are_in_order (ranges_of ts) ≡ true = h.0.0 in
      let own = point (joined ls) key bound in
      let union : point (union_in (ls ∷ lists)) key bound
      ≡ leading_of own (point (union_in lists) key bound) =
      ap (λ (es : List Entry). point es key bound) (union_more ls lists)
      ∙ leading_sorted key bound (joined ls) (behind lists)
      (ascends_of (joined ls) (run_strict ts ls h.0.1 order)) in
      ap (λ (r : Result (Option Entry) Error). r >>= λ next. runs_result key bound
      (leading_of found next) runs) (run_point ts ls h.0.1 order)
      ∙ runs_point (leading_of found own) runs lists h.1
      ∙ ap (λ (o : Option Entry). Ok o) (leading_assoc found own (point (union_in lists) key bound)
      ∙ ap (leading_of found) (sym union))

-- each run is in order
pub runs_in_order : (runs : List (List OpenTable)) (lists : List (List (List Entry)))
    → RunsHoldLists runs lists → AllByRecursion (IsInOrder range_of) runs
runs_in_order [] [] h = tt
runs_in_order [] (ls ∷ lists) h = absurd h
runs_in_order (ts ∷ runs) [] h = absurd h
runs_in_order (ts ∷ runs) (ls ∷ lists) h = (h.0.0, runs_in_order runs lists h.1)
