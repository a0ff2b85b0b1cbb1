-- A compaction that lends, with a filter and a callback: all its calls.
use Rattle.std.proofs.Common.{◌≡◌, inl, inr, refl, sym, ◌∙◌, ap, subst, ℕ, Bool, true, false}
use Rattle.std.proofs.Common.{List, [], ◌∷◌, ◌++◌, append_assoc}
use Rattle.std.specs.Prelude.{Option, Some, None, Result, Ok, Err}
use Rattle.std.specs.List.{AllByRecursion}
use Rattle.std.specs.Iterator.{Yields}
use Rattle.std.proofs.lemmas.List.{append-nil}
use Rattle.sst_entries.specs.Entry.{Entry}
use Rattle.sst_entries.specs.Stream.{YieldsExactly, NoneStops, answer_stops, but_first, first, nowhere}
use Rattle.sst_entries.specs.Stream.{ok_results, result_stops}
use Rattle.sst_entries.specs.declared.error.Error.{Error}
use Rattle.sst_entries.specs.declared.error.Error.TheVariants.{OutOfMemory}
use Rattle.sst_entries.proofs.StreamLemmas.{yields_front}
use Rattle.lsm_sorted.specs.merge.Ends.{R}
use Rattle.lsm_sorted.specs.Compaction.{Judged, JudgedItem, Verdict, as_they_are, by_key}
use Rattle.lsm_sorted.specs.Compaction.{items, outs}
use Rattle.lsm_sorted.specs.Compacting.{Compacted, GetsAll, SaysOf}
use Rattle.lsm_sorted.specs.declared.compaction.Rules.{Rules}
use Rattle.lsm_sorted.specs.Outlook.{results_in}
use Rattle.lsm_sorted.specs.Hears.{GaveEach}
use Rattle.lsm_sorted.specs.lending.LentFaults.{EndsIn, NoFaults}
use Rattle.lsm_sorted.specs.lending.LentFaults.{FilterSays, PassingOr}
use Rattle.lsm_sorted.specs.lending.LentCompaction.{listed_answer, past_hidden}
use Rattle.lsm_sorted.specs.lending.LentCompaction.{AdvancesCompacted, CompactedLent, CompactedPart}
use Rattle.lsm_sorted.specs.lending.LentCompaction.{CompactedTo, CompactsLent, Later, later_of}
use Rattle.lsm_sorted.specs.lending.LentCompaction.{lent_outs_by, nothing_later}
use Rattle.lsm_sorted.specs.lending.LentCompaction.{CompactsLentResults, EndsAtNone}
use Rattle.lsm_sorted.specs.lending.LentCompaction.{WillCompact, hidden_key, hidden_in, is_entry}
use Rattle.lsm_sorted.specs.lending.LentCompaction.{lent_callback, lent_filter, lender, looked_at}
use Rattle.lsm_sorted.specs.declared.compaction.lending.LendingCompaction.{LendingCompaction}
use Rattle.lsm_sorted.proofs.HearsLemmas.{each_append, none_stop_append}
use Rattle.lsm_sorted.proofs.LentOutsLemmas.{Calm, calm_before, calm_outs}
use Rattle.lsm_sorted.proofs.CompactionHeads.{looked_next, will_at, will_plain, will_whole}
use Rattle.lsm_sorted.proofs.CompactionCalls.{ends_after, ends_before, parts_join}
use Rattle.lsm_sorted.proofs.KeepsAllLemmas.{items_are, tombstones_stay}

-- ---- a source that deals a list

none_first : (xs : List R) → None ≡ first xs → xs ≡ []
none_first [] h = refl
none_first (x ∷ xs) h = absurd cc

some_first : (x : R) (xs : List R) → Some x ≡ first xs → xs ≡ x ∷ but_first xs
some_first x [] h = absurd cc
some_first x (y ∷ xs) h = cc

no_faults_calm : (stops : Error → Bool) (answers : List (Option R)) → NoFaults answers
    → NoneStops (answer_stops stops) answers
no_faults_calm stops [] h = tt
no_faults_calm stops (None ∷ rs) h = (refl, no_faults_calm stops rs h.1)
no_faults_calm stops (Some (Ok x) ∷ rs) h = (refl, no_faults_calm stops rs h.1)
no_faults_calm stops (Some (Err e) ∷ rs) h = let no : true ≡ false = h.0 in absurd cc

ends_calm : (stops : Error → Bool) (r : Option R) (answers : List (Option R)) → EndsIn r answers
    → answer_stops stops r ≡ false → NoneStops (answer_stops stops) answers
ends_calm stops r answers ends fine =
    subst (λ (rs : List (Option R)). NoneStops (answer_stops stops) rs) (sym ends.2)
    (none_stop_append (answer_stops stops) ends.0 (r ∷ []) (no_faults_calm stops ends.0 ends.1)
    (fine, tt))

-- answers that were passed on where no error stops
pub reported_calm : (Says : Error → Type 0) (stops : Error → Bool) (r : Option R)
    (answers : List (Option R)) → PassingOr Says r answers → answer_stops stops r ≡ false
    → NoneStops (answer_stops stops) answers
reported_calm Says stops None answers returned fine = elim returned [
  | inl faults ↦ no_faults_calm stops answers faults
  | inr says ↦ no_faults_calm stops answers says.none
]
reported_calm Says stops (Some (Ok x)) answers returned fine = elim returned [
  | inl faults ↦ no_faults_calm stops answers faults
  | inr says ↦ no_faults_calm stops answers says.none
]
reported_calm Says stops (Some (Err e)) answers returned fine = elim returned [
  | inl ends ↦ ends_calm stops (Some (Err e)) answers ends fine
  | inr says ↦ no_faults_calm stops answers says.none
]

-- nothing is left where nothing came last
pub ends_empty : (before : List (Option R)) (rest : List R) → EndsAtNone (before ++ None ∷ []) rest
    → rest ≡ []
ends_empty [] rest ends = ends.0
ends_empty (None ∷ rs) rest ends = ends_empty rs rest ends.1
ends_empty (Some x ∷ rs) rest ends = ends_empty rs rest ends

nothing_left : (xs ys : List R) → xs ++ ys ≡ [] → xs ++ [] ≡ []
nothing_left [] ys h = refl
nothing_left (x ∷ xs) ys h = absurd cc

-- and nothing else may be left
ends_less : (answers : List (Option R)) (rest : List R) → EndsAtNone answers rest
    → EndsAtNone answers []
ends_less [] rest ends = tt
ends_less (None ∷ rs) rest ends = (
  nothing_left (results_in rs) rest ends.0,
  ends_less rs rest ends.1,
)
ends_less (Some x ∷ rs) rest ends = ends_less rs rest ends

module _ {S : Type 0} (advances : S → Option R → S → Type 0) (stops : Error → Bool) where
  abbrev pub Yielded : S → List R → Type 0
  Yielded = YieldsExactly (answer_stops stops) advances nowhere

  -- what it answered, and what it has still to deal
  pub record Parts (xs : List R) (answers : List (Option R)) (t : S) : Type 0 where
    pub rest : List R
    pub is : xs ≡ results_in answers ++ rest
    pub has : Yielded t rest
    pub ends : EndsAtNone answers rest

  pub yielded_parts : (answers : List (Option R)) (s t : S) (xs : List R) → Yielded s xs
      → GaveEach advances s answers t → NoneStops (answer_stops stops) answers
      → Parts xs answers t
  yielded_parts [] s t xs has gave calm = record {
    rest = xs;
    is = refl;
    has = subst (λ (u : S). Yielded u xs) gave has;
    ends = tt;
  }
  yielded_parts (None ∷ rs) s t xs has gave calm =
      let one = yields_front (answer_stops stops) advances nowhere s xs None gave.0 has gave.1 refl
      in
      let none : xs ≡ [] = none_first xs one.0 in
      let more = yielded_parts rs gave.0 t (but_first xs) one.1 gave.2 calm.1 in
      let same : xs ≡ results_in rs ++ more.rest =
      none ∙ sym (ap (λ (ys : List R). but_first ys) none) ∙ more.is in
      record {
        rest = more.rest;
        is = same;
        has = more.has;
        ends = (sym same ∙ none, more.ends);
      }
  yielded_parts (Some x ∷ rs) s t xs has gave calm =
      let one = yields_front (answer_stops stops) advances nowhere s xs (Some x) gave.0 has gave.1
      calm.0 in
      let more = yielded_parts rs gave.0 t (but_first xs) one.1 gave.2 calm.1 in
      record {
        rest = more.rest;
        is = some_first x xs one.0 ∙ ap (λ (ys : List R). x ∷ ys) more.is;
        has = more.has;
        ends = more.ends;
      }

-- ---- a list without errors

pub calm_items : (js : List JudgedItem) (xs : List Entry) → items js ≡ ok_results xs
    → Calm (by_key js)
calm_items [] xs h = tt
calm_items (Err e ∷ js) [] h = absurd cc
calm_items (Err e ∷ js) (x ∷ xs) h = absurd cc
calm_items (Ok j ∷ js) [] h = absurd cc
calm_items (Ok j ∷ js) (x ∷ xs) h =
    calm_before j (by_key js) (calm_items js xs (others_same (items js) (ok_results xs) j.entry x h))
  where
    others_same : (ps qs : List R) (p q : Entry) → Ok p ∷ ps ≡ Ok q ∷ qs → ps ≡ qs
    others_same ps qs p q h = cc

-- verdicts of entries without errors: an error that follows plays no part
pub calm_judged : (rules : Rules) (js : List JudgedItem) (xs : List Entry)
    → items js ≡ ok_results xs → lent_outs_by rules js ≡ outs rules js
calm_judged rules js xs over = calm_outs rules (by_key js) (calm_items js xs over)

nothing_hidden : (k : Option (List ℕ)) → hidden_in k [] ≡ []
nothing_hidden None = refl
nothing_hidden (Some j) = refl

pub nothing_past : (k : Option (List ℕ)) → past_hidden k [] ≡ []
nothing_past None = refl
nothing_past (Some j) = refl

module _ {F C : Type 0} (gives : F → Entry → Result Verdict Error → F → Type 0)
    (gets : C → Entry → C → Type 0) where
  -- no error, no difference
  pub calm_compacted : (rules : Rules) (f g : F) (c d : C) (xs : List Entry) (gave : List R)
      → CompactedLent gives gets rules f c (ok_results xs) gave g d
      → Compacted gives gets rules f c (ok_results xs) gave g d
  calm_compacted rules f g c d xs gave does = record {
    judged = does.judged;
    over = does.over;
    tombstones = does.tombstones;
    answers = does.answers ∙ calm_judged rules does.judged xs does.over;
    says = does.says;
    reports = does.reports;
  }

  -- a compaction without a rest
  pub as_compacted : (rules : Rules) (f g : F) (c d : C) (xs gave : List R)
      → CompactedTo gives gets nothing_later rules f c [] xs gave g d
      → CompactedLent gives gets rules f c xs gave g d
  as_compacted rules f g c d xs gave h = record {
    judged = h.judged;
    over = h.over;
    tombstones = h.tombstones;
    answers = sym (append-nil gave) ∙ h.answers;
    says = subst (λ (js : List Judged). SaysOf gives f js g) (sym (append-nil h.said) ∙ h.said_are)
        h.says;
    reports = subst (λ (es : List Entry). GetsAll gets c es d)
        (sym (append-nil h.heard) ∙ h.heard_are) h.reports;
  }

module _ {F C : Type 0} (gives : F → Entry → Result Verdict Error → F → Type 0)
    (gets : C → Entry → C → Type 0) {S A : Type 0} where
  -- all that u has still to look at is the rest
  will_later : (u : LendingCompaction S F C A) (left : List R)
      → WillCompact gives gets (later_of u.rules (hidden_key u) left) u left [] u.filter u.callback
  will_later u left =
      let rs : List R = past_hidden (hidden_key u) left in
      record {
        judged = as_they_are rs;
        over = items_are rs;
        tombstones = tombstones_stay rs;
        answers = refl;
        said = [];
        said_are = refl;
        says = refl;
        heard = [];
        heard_are = refl;
        reports = refl;
        begun = [];
        begun_are = refl;
      }

  -- a compaction of nothing
  will_nothing : (u : LendingCompaction S F C A)
      → WillCompact gives gets nothing_later u [] [] u.filter u.callback
  will_nothing u = will_whole gives gets nothing_later u [] [] u.filter u.callback
      (nothing_hidden (hidden_key u)) (nothing_past (hidden_key u)) (record {
        judged = [];
        over = refl;
        tombstones = tt;
        answers = refl;
        said = [];
        said_are = refl;
        says = refl;
        heard = [];
        heard_are = refl;
        reports = refl;
        begun = [];
        begun_are = refl;
      })

  module _ (advances : S → Option R → S → Type 0) (lent : S → Option Entry) (can : S → Type 0)
      (stops : Error → Bool) (memory : stops OutOfMemory ≡ true) where
    abbrev Next : LendingCompaction S F C A → Option R → LendingCompaction S F C A → Type 0
    Next = AdvancesCompacted advances lent can gives gets

    -- calls that gave these
    record RunsPart (s : LendingCompaction S F C A) (gave : List R) (u : LendingCompaction S F C A)
        : Type 0 where
      pub answers : List (Option R)
      pub each : GaveEach advances s.source answers u.source
      pub calm : NoneStops (answer_stops stops) answers
      pub live : u.is_over ≡ false
      pub rules : u.rules ≡ s.rules
      pub does : (z : Later) (rest more : List R) (g : F) (d : C) → EndsAtNone answers rest
          → WillCompact gives gets z u (looked_at lent u rest) more g d
          → WillCompact gives gets z s (looked_at lent s (results_in answers ++ rest))
          (gave ++ more) g d

    -- the last of them answered r
    record RunsOn (s : LendingCompaction S F C A) (gave : List R) (r : Option R)
        (u : LendingCompaction S F C A) : Type 0 where
      pub part : RunsPart s gave u
      pub ended : r ≡ None → (rest : List R) → EndsAtNone part.answers rest → rest ≡ []
      pub rests : is_entry r ≡ false → u.is_pending ≡ false

    run_one : (s u : LendingCompaction S F C A) (r : Option R) → s.is_over ≡ false → Next s r u
        → answer_stops stops r ≡ false → RunsOn s (listed_answer r) r u
    run_one s u r live next fine =
        let call = next.live live in elim call.step.returned [
          | inl passing ↦ record {
            part = record {
              answers = call.step.answers;
              each = call.step.gave;
              calm = reported_calm (FilterSays gives) stops r call.step.answers passing.0 fine;
              live = passing.1;
              rules = call.step.rules;
              does = λ z rest more g d ends will.
                  call.step.does z passing.1 rest more g d ends will;
            };
            ended = λ none rest ends.
                let last = call.ended none in
                ends_empty last.0 rest
                (subst (λ (rs : List (Option R)). EndsAtNone rs rest) last.2 ends);
            rests = call.rests;
          }
          | inr wants ↦
              let no : true ≡ false = sym memory
              ∙ sym (ap (answer_stops stops) wants.0.0) ∙ fine in absurd cc
        ]

    abbrev part_then : (s m u : LendingCompaction S F C A) (xs ys : List R) → RunsPart s xs m
        → RunsPart m ys u → RunsPart s (xs ++ ys) u
    part_then s m u xs ys one more = record {
      answers = one.answers ++ more.answers;
      each = each_append advances one.answers more.answers s.source m.source u.source one.each
          more.each;
      calm = none_stop_append (answer_stops stops) one.answers more.answers one.calm more.calm;
      live = more.live;
      rules = more.rules ∙ one.rules;
      does = λ z rest after g d ends will.
          subst (λ (gave : List R). WillCompact gives gets z s
          (looked_at lent s (results_in (one.answers ++ more.answers) ++ rest)) gave g d)
          (sym (append_assoc xs ys after))
          (will_at gives gets z s
          (looked_at lent s (results_in one.answers ++ (results_in more.answers ++ rest)))
          (looked_at lent s (results_in (one.answers ++ more.answers) ++ rest))
          (xs ++ (ys ++ after)) g d
          (sym (ap (looked_at lent s) (parts_join one.answers more.answers rest)))
          (one.does z (results_in more.answers ++ rest) (ys ++ after) g d
          (ends_before one.answers more.answers rest ends)
          (more.does z rest after g d (ends_after one.answers more.answers rest ends) will)));
    }

    runs_part : (gave : List R) (s u : LendingCompaction S F C A) → s.is_over ≡ false
        → AllByRecursion (λ x. result_stops stops x ≡ false) gave → Yields Next s gave u
        → RunsPart s gave u
    runs_part [] s u live fine runs = subst (λ (v : LendingCompaction S F C A). RunsPart s [] v) runs
        (record {
          answers = [];
          each = refl;
          calm = tt;
          live = live;
          rules = refl;
          does = λ z rest more g d ends will. will;
        })
    runs_part (x ∷ gave) s u live fine runs =
        let one = (run_one s runs.0 (Some x) live runs.1 fine.0).part in
        part_then s runs.0 u (x ∷ []) gave one
        (runs_part gave runs.0 u one.live fine.1 runs.2)

    runs_on : (gave : List R) (s t u : LendingCompaction S F C A) (r : Option R)
        → s.is_over ≡ false → AllByRecursion (λ x. result_stops stops x ≡ false) gave
        → Yields Next s gave t → Next t r u → answer_stops stops r ≡ false
        → RunsOn s (gave ++ listed_answer r) r u
    runs_on gave s t u r live fine runs last goes =
        let front = runs_part gave s t live fine runs in
        let one = run_one t u r front.live last goes in
        record {
          part = part_then s t u gave (listed_answer r) front one.part;
          ended = λ none rest ends.
              one.ended none rest (ends_after front.answers one.part.answers rest ends);
          rests = one.rests;
        }

    -- of a fresh one
    module _ (s : LendingCompaction S F C A) (plain : s.hides ≡ false) (next : s.is_pending ≡ false)
        (live : s.is_over ≡ false) (xs : List R)
        (has : YieldsExactly (answer_stops stops) advances nowhere s.source xs) where
      -- what was done so far, where nothing waits to be looked at
      done : (u : LendingCompaction S F C A) (gave : List R) (r : Option R) (run : RunsOn s gave r u)
          → u.is_pending ≡ false → EndsAtNone run.part.answers []
          → CompactedLent gives gets s.rules s.filter s.callback (results_in run.part.answers) gave
          u.filter u.callback
      done u gave r run quiet ends =
          let all = results_in run.part.answers ++ [] in
          let z : Later = nothing_later in
          let will = run.part.does z [] [] u.filter u.callback ends
          (will_at gives gets z u [] (looked_at lent u []) [] u.filter u.callback
          (sym (looked_next lent u [] quiet)) (will_nothing u)) in
          subst (λ (ys : List R). CompactedLent gives gets s.rules s.filter s.callback ys gave
          u.filter u.callback) (append-nil (results_in run.part.answers))
          (subst (λ (ys : List R). CompactedLent gives gets s.rules s.filter s.callback all ys
          u.filter u.callback) (append-nil gave)
          (as_compacted gives gets s.rules s.filter u.filter s.callback u.callback all (gave ++ [])
          (will_plain gives gets z s all (gave ++ []) u.filter u.callback plain
          (will_at gives gets z s (looked_at lent s all) all (gave ++ []) u.filter u.callback
          (looked_next lent s all next) will))))

      whole_run : (gave : List R) (t u : LendingCompaction S F C A)
          → AllByRecursion (λ x. result_stops stops x ≡ false) gave → Yields Next s gave t
          → Next t None u
          → CompactedLent gives gets s.rules s.filter s.callback xs gave u.filter u.callback
      whole_run gave t u fine runs last =
          let run = runs_on gave s t u None live fine runs last refl in
          let parts = yielded_parts advances stops run.part.answers s.source u.source xs has run.part.each
          run.part.calm in
          let none : parts.rest ≡ [] = run.ended refl parts.rest parts.ends in
          let is : xs ≡ results_in run.part.answers =
          parts.is ∙ ap (λ (ys : List R). results_in run.part.answers ++ ys) none
          ∙ append-nil (results_in run.part.answers) in
          subst (λ (ys : List R). CompactedLent gives gets s.rules s.filter s.callback ys gave
          u.filter u.callback) (sym is)
          (subst (λ (ys : List R). CompactedLent gives gets s.rules s.filter s.callback
          (results_in run.part.answers) ys u.filter u.callback) (append-nil gave)
          (done u (gave ++ []) None run (run.rests refl)
          (ends_less run.part.answers parts.rest parts.ends)))

      until_run : (gave : List R) (e : Error) (t u : LendingCompaction S F C A) → stops e ≡ false
          → AllByRecursion (λ x. result_stops stops x ≡ false) gave → Yields Next s gave t
          → Next t (Some (Err e)) u
          → (front rest : List R) × (xs ≡ front ++ rest)
          × YieldsExactly (answer_stops stops) advances nowhere u.source rest
          × CompactedLent gives gets s.rules s.filter s.callback front (gave ++ Err e ∷ [])
          u.filter u.callback
      until_run gave e t u goes fine runs last =
          let run = runs_on gave s t u (Some (Err e)) live fine runs last goes in
          let parts = yielded_parts advances stops run.part.answers s.source u.source xs has run.part.each
          run.part.calm in (
            results_in run.part.answers,
            parts.rest,
            parts.is,
            parts.has,
            done u (gave ++ Err e ∷ []) (Some (Err e)) run (run.rests refl)
                (ends_less run.part.answers parts.rest parts.ends),
          )

      part_run : (gave : List R) (u : LendingCompaction S F C A)
          → AllByRecursion (λ x. result_stops stops x ≡ false) gave → Yields Next s gave u
          → CompactedPart gives gets s.rules s.filter s.callback xs gave u.filter u.callback
      part_run gave u fine runs =
          let run = runs_part gave s u live fine runs in
          let parts = yielded_parts advances stops run.answers s.source u.source xs has run.each
          run.calm in
          let all : List R = results_in run.answers ++ parts.rest in
          let left : List R = looked_at lent u parts.rest in
          let z : Later = later_of u.rules (hidden_key u) left in
          let will = run.does z parts.rest [] u.filter u.callback parts.ends (will_later u left) in
          let plainly = will_plain gives gets z s all (gave ++ []) u.filter u.callback plain
          (will_at gives gets z s (looked_at lent s all) all (gave ++ []) u.filter u.callback
          (looked_next lent s all next) will) in
          record {
            key = hidden_key u;
            left = left;
            does = subst (λ (q : Rules). CompactedTo gives gets (later_of q (hidden_key u) left)
                s.rules s.filter s.callback [] xs gave u.filter u.callback) run.rules
                (subst (λ (rs : List R). CompactedTo gives gets z s.rules s.filter s.callback [] rs
                gave u.filter u.callback) (sym parts.is)
                (subst (λ (rs : List R). CompactedTo gives gets z s.rules s.filter s.callback [] all
                rs u.filter u.callback) (append-nil gave) plainly));
          }

  module _ (advances : S → Option R → S → Type 0) (lent : S → Option Entry) (can : S → Type 0)
      (s : LendingCompaction S F C A) (plain : s.hides ≡ false) (next : s.is_pending ≡ false)
      (live : s.is_over ≡ false) where
    pub compacts_lent_results : CompactsLentResults advances s.source
        (AdvancesCompacted advances lent can gives gets) s s.rules gives gets s.filter s.callback
        lender lent_filter lent_callback
    compacts_lent_results = record {
      whole = λ stops xs gave t u memory has fine runs last.
          whole_run advances lent can stops memory s plain next live xs has gave t u fine runs last;
      until = λ stops xs gave e t u memory goes has fine runs last.
          until_run advances lent can stops memory s plain next live xs has gave e t u goes fine
          runs last;
      part = λ stops xs gave t memory has fine runs.
          part_run advances lent can stops memory s plain next live xs has gave t fine runs;
    }

    pub compacts_lent : CompactsLent advances s.source
        (AdvancesCompacted advances lent can gives gets) s s.rules gives gets s.filter s.callback
        lent_filter lent_callback
    compacts_lent = record {
      whole = λ stops xs gave t u memory has fine runs last.
          calm_compacted gives gets s.rules s.filter u.filter s.callback u.callback xs gave
          (whole_run advances lent can stops memory s plain next live (ok_results xs) has gave t u
          fine runs last);
    }
