-- A compaction that lends, where the filter keeps every entry and the callback takes any: what it
-- deals, and the errors that it passes on.
use Rattle.std.proofs.Common.{◌≡◌, inl, inr, refl, sym, ◌∙◌, ap, subst, Bool, true, false}
use Rattle.std.proofs.Common.{List, [], ◌∷◌, ◌++◌}
use Rattle.std.specs.Prelude.{IfOk, Option, Some, None, Result, Ok, Err}
use Rattle.sst_entries.specs.Entry.{Entry}
use Rattle.sst_entries.specs.Stream.{CanYield, YieldsExactly, answer_stops, but_first, first, nowhere}
use Rattle.sst_entries.specs.Stream.{ok_results}
use Rattle.sst_entries.specs.declared.error.Error.{Error}
use Rattle.sst_entries.specs.declared.error.Error.TheVariants.{OutOfMemory}
use Rattle.sst_entries.proofs.StreamLemmas.{yields_by}
use Rattle.lsm_sorted.specs.merge.Ends.{R}
use Rattle.lsm_sorted.specs.declared.compaction.Rules.{Rules}
use Rattle.std.proofs.lemmas.List.{append-nil}
use Rattle.lsm_sorted.specs.Compaction.{Judged, Verdict, asked, keep, reported}
use Rattle.lsm_sorted.specs.Compacting.{SaysOf}
use Rattle.lsm_sorted.specs.Outlook.{results_in}
use Rattle.lsm_sorted.specs.lending.LentFaults.{AlwaysReports, FilterSays, PassesAll, PassesAllOr}
use Rattle.lsm_sorted.specs.lending.LentFaults.{StaysOver, StaysOverOr}
use Rattle.lsm_sorted.specs.lending.LentCompaction.{AdvancesCompacted, CompactsLent}
use Rattle.lsm_sorted.specs.lending.LentCompaction.{CompactsLentResults}
use Rattle.lsm_sorted.specs.lending.LentCompaction.{YieldsCompactedEntries, EndsAtNone}
use Rattle.lsm_sorted.specs.lending.LentCompaction.{MayLendCompacted}
use Rattle.lsm_sorted.specs.lending.LentCompaction.{YieldsCompactedResults, WillCompact, fresh_of}
use Rattle.lsm_sorted.specs.lending.LentCompaction.{hidden_in, hidden_key, lender, lent_outs}
use Rattle.lsm_sorted.specs.lending.LentCompaction.{is_entry, lent_callback, lent_compacted}
use Rattle.lsm_sorted.specs.lending.LentCompaction.{lent_filter}
use Rattle.lsm_sorted.specs.lending.LentCompaction.{listed_answer, looked_at, past_hidden}
use Rattle.lsm_sorted.specs.lending.LentCompaction.{nothing_later}
use Rattle.lsm_sorted.specs.declared.compaction.lending.LendingCompaction.{LendingCompaction}
use Rattle.lsm_sorted.proofs.WholeLemmas.{KeepsAll}
use Rattle.lsm_sorted.proofs.LentOutsLemmas.{lent_kept}
use Rattle.lsm_sorted.proofs.CompactionHeads.{looked_next}
use Rattle.lsm_sorted.proofs.CompactionCalls.{can_compacted}
use Rattle.lsm_sorted.proofs.CompactionFaults.{compaction_passes, compaction_stays}
use Rattle.lsm_sorted.proofs.LendingCompactionRuns.{compacts_lent, compacts_lent_results}
use Rattle.lsm_sorted.proofs.LendingCompactionRuns.{yielded_parts, ends_empty, nothing_past}
use Rattle.lsm_sorted.proofs.LendingCompactionRuns.{reported_calm}
use Rattle.lsm_sorted.proofs.KeepsAllLemmas.{TakesAny, compacts_all, keeps_all, takes_all}

-- ---- what it deals

first_of : (r : Option R) (ys : List R) → (r ≡ None → ys ≡ [])
    → (r ≡ first (listed_answer r ++ ys)) × (but_first (listed_answer r ++ ys) ≡ ys)
first_of None ys h = let none : ys ≡ [] = h refl in
    (sym (ap first none), ap but_first none ∙ sym none)
first_of (Some x) ys h = (refl, refl)

module _ {S F C A : Type 0} (advances : S → Option R → S → Type 0) (can : S → Type 0)
    (lent : S → Option Entry) where
  abbrev Next : LendingCompaction S F C A → Option R → LendingCompaction S F C A → Type 0
  Next = AdvancesCompacted advances lent can (KeepsAll {F = F}) (TakesAny {C = C})

  -- what is lent of these, where the source has still to deal them
  abbrev outs_at : LendingCompaction S F C A → List R → List R
  outs_at s rest = lent_outs s.rules (past_hidden (hidden_key s) (looked_at lent s rest))

  will_all : (t : LendingCompaction S F C A) (rest : List R)
      → WillCompact (KeepsAll {F = F}) (TakesAny {C = C}) nothing_later t (looked_at lent t rest)
      (outs_at t rest) t.filter t.callback
  will_all t rest =
      let k = hidden_key t in
      let rs : List R = looked_at lent t rest in
      let all = compacts_all {F = F} {C = C} t.rules t.filter t.callback (past_hidden k rs) in
      record {
        judged = all.judged;
        over = all.over;
        tombstones = all.tombstones;
        answers = append-nil (outs_at t rest) ∙ all.answers;
        said = asked t.rules all.judged;
        said_are = append-nil (asked t.rules all.judged);
        says = all.says;
        heard = hidden_in k rs ++ reported t.rules all.judged;
        heard_are = append-nil (hidden_in k rs ++ reported t.rules all.judged);
        reports = takes_all t.callback (hidden_in k rs ++ reported t.rules all.judged);
        begun = all.judged;
        begun_are = append-nil all.judged;
      }

  nothing_lent : (t : LendingCompaction S F C A) (rest : List R) → t.is_pending ≡ false → rest ≡ []
      → outs_at t rest ≡ []
  nothing_lent t rest quiet none =
      ap (λ (ys : List R). lent_outs t.rules (past_hidden (hidden_key t) ys))
      (looked_next lent t rest quiet ∙ none)
      ∙ ap (lent_outs t.rules) (nothing_past (hidden_key t))

  module _ (stops : Error → Bool) where
    -- what it has still to deal: only an allocation failure ends it
    record Leaves (s : LendingCompaction S F C A) (ys : List R) : Type 0 where
      pub memory : stops OutOfMemory ≡ true
      pub live : s.is_over ≡ false
      pub rest : List R
      pub has : YieldsExactly (answer_stops stops) advances nowhere s.source rest
      pub is : ys ≡ outs_at s rest

    gives_first : (s : LendingCompaction S F C A) (ys : List R) (r : Option R) (t : LendingCompaction S F C A) → Leaves s ys → Next s r t
        → answer_stops stops r ≡ false → (r ≡ first ys) × Leaves t (but_first ys)
    gives_first s ys r t leaves step fine =
        let call = step.live leaves.live in elim call.step.returned [
          | inl passing ↦
              let answers = call.step.answers in
              let calm = reported_calm (FilterSays (KeepsAll {F = F})) stops r answers passing.0 fine in
              let parts = yielded_parts advances stops answers s.source t.source leaves.rest
              leaves.has call.step.gave calm in
              let more : List R = outs_at t parts.rest in
              let will = call.step.does nothing_later passing.1 parts.rest more t.filter t.callback
              parts.ends (will_all t parts.rest) in
              let whole : listed_answer r ++ more
              ≡ outs_at s (results_in answers ++ parts.rest) =
              keeps_all s.rules s.filter t.filter
              (past_hidden (hidden_key s) (looked_at lent s (results_in answers ++ parts.rest)))
              (listed_answer r ++ more) (record {
                judged = will.judged;
                over = will.over;
                tombstones = will.tombstones;
                answers = sym (append-nil (listed_answer r ++ more)) ∙ will.answers;
                says = subst (λ (js : List Judged). SaysOf (KeepsAll {F = F}) s.filter js t.filter)
                    (sym (append-nil will.said) ∙ will.said_are) will.says;
              }) in
              let is : ys ≡ listed_answer r ++ more = leaves.is
              ∙ ap (λ (rs : List R). outs_at s rs) parts.is ∙ sym whole in
              let ended : r ≡ None → more ≡ [] = λ (none : r ≡ None).
              let last = call.ended none in
              nothing_lent t parts.rest (quiet call.rests none)
              (ends_empty last.0 parts.rest (subst (λ (rs : List (Option R)).
              EndsAtNone rs parts.rest) last.2 parts.ends)) in
              let one = first_of r more ended in (
                one.0 ∙ sym (ap first is),
                record {
                  memory = leaves.memory;
                  live = passing.1;
                  rest = parts.rest;
                  has = parts.has;
                  is = ap but_first is ∙ one.1;
                },
              )
          | inr wants ↦
              let no : true ≡ false = sym leaves.memory
              ∙ sym (ap (answer_stops stops) wants.0.0) ∙ fine in absurd cc
        ]
      where
        quiet : (is_entry r ≡ false → t.is_pending ≡ false) → r ≡ None → t.is_pending ≡ false
        quiet rests none = rests (ap is_entry none)

  module _ (source : S) (rules : Rules) (f : F) (c : C) (s : LendingCompaction S F C A)
      (fresh : s ≡ fresh_of source rules f c s) where
    pub yields_results : YieldsCompactedResults advances source Next s rules
    yields_results = record {
      yields = λ stops xs memory has. yields_by (answer_stops stops) Next nowhere (Leaves stops)
          (gives_first stops) (λ t ys r u leaves step fine. absurd step) s (lent_outs rules xs)
          (subst (λ (t : LendingCompaction S F C A). Leaves stops t (lent_outs rules xs)) (sym fresh) (record {
            memory = memory;
            live = refl;
            rest = xs;
            has = has;
            is = refl;
          }));
    }

    pub yields_entries : YieldsCompactedEntries advances source Next s rules
    yields_entries = record {
      yields = λ stops xs memory has. subst (YieldsExactly (answer_stops stops) Next nowhere s)
          (lent_kept rules xs) (yields_results.yields stops (ok_results xs) memory has);
    }

-- ---- the errors that it passes on

-- such a filter says none
says_none : {F : Type 0} (e : Error) → FilterSays (KeepsAll {F = F}) e → ⊥
says_none e says = let no : Err e ≡ Ok keep = says.says in absurd cc

module _ (Says : Error → Type 0) (none : (e : Error) → Says e → ⊥) where
  pub passes_all : (rs : List (Option R)) (calls : List (List (Option R)))
      → PassesAllOr Says rs calls → PassesAll rs calls
  passes_all [] [] h = tt
  passes_all (r ∷ rs) (answers ∷ calls) h = elim h [
    | inl passes ↦ elim passes.0 [
      | inl faults ↦ inl (faults, passes_all rs calls passes.1)
      | inr says ↦ absurd (none says.error says.says)
    ]
    | inr wants ↦ inr wants
  ]
  passes_all [] (answers ∷ calls) h = absurd h
  passes_all (r ∷ rs) [] h = absurd h

  pub stays_over : (rs : List (Option R)) (calls : List (List (Option R)))
      → StaysOverOr Says rs calls → StaysOver rs calls
  stays_over [] [] h = tt
  stays_over (r ∷ rs) (answers ∷ calls) h = (
    λ wants. elim (h.0 wants) [
      | inl says ↦ absurd (none OutOfMemory says)
      | inr over ↦ over
    ],
    h.1,
    stays_over rs calls h.2,
  )
  stays_over [] (answers ∷ calls) h = absurd h
  stays_over (r ∷ rs) [] h = absurd h

-- a law that follows from another
pub always_by : {S T : Type 0} (Law Then : List (Option R) → List (List (Option R)) → Type 0)
    (advances : S → Option R → S → Type 0) (source : S) (source_of : T → S)
    (next : T → Option R → T → Type 0) (t : T)
    → ((rs : List (Option R)) (calls : List (List (Option R))) → Law rs calls → Then rs calls)
    → AlwaysReports Law advances source source_of next t
    → AlwaysReports Then advances source source_of next t
always_by Law Then advances source source_of next t follows always = record {
  of = λ rs u each. let all = always.of rs u each in (all.0, all.1, follows rs all.0 all.2);
}

-- ---- of one that was not asked yet

-- what follows of a value that was made
pub of_made : {X E : Type 0} (P Q : X → Type 0) (r : Result X E) → ((x : X) → P x → Q x)
    → IfOk r P → IfOk r Q
of_made P Q (Ok x) follows made = follows x made
of_made P Q (Err e) follows made = tt

module _ {F C : Type 0} (gives : F → Entry → Result Verdict Error → F → Type 0)
    (gets : C → Entry → C → Type 0) {S A : Type 0} (advances : S → Option R → S → Type 0)
    (lent : S → Option Entry) (can : S → Type 0) (source : S) (rules : Rules) (f : F) (c : C)
    (s : LendingCompaction S F C A) (fresh : s ≡ fresh_of source rules f c s) where
  abbrev Run : LendingCompaction S F C A → Option R → LendingCompaction S F C A → Type 0
  Run = AdvancesCompacted advances lent can gives gets

  pub fresh_none : lent_compacted lent s ≡ None
  fresh_none = subst (λ (t : LendingCompaction S F C A). lent_compacted lent t ≡ None) (sym fresh)
      refl

  pub fresh_whole : CompactsLent advances source Run s rules gives gets f c lent_filter
      lent_callback
  fresh_whole = subst (λ (t : LendingCompaction S F C A).
      CompactsLent advances source Run t rules gives gets f c lent_filter lent_callback) (sym fresh)
      (compacts_lent gives gets advances lent can (fresh_of source rules f c s) refl refl refl)

  pub fresh_results : CompactsLentResults advances source Run s rules gives gets f c lender
      lent_filter lent_callback
  fresh_results = subst (λ (t : LendingCompaction S F C A). CompactsLentResults advances source Run
      t rules gives gets f c lender lent_filter lent_callback) (sym fresh)
      (compacts_lent_results gives gets advances lent can (fresh_of source rules f c s) refl refl
      refl)

  pub fresh_passes : AlwaysReports (PassesAllOr (FilterSays gives)) advances source lender Run s
  fresh_passes = subst (λ (t : LendingCompaction S F C A).
      AlwaysReports (PassesAllOr (FilterSays gives)) advances source lender Run t) (sym fresh)
      (compaction_passes gives gets advances lent can (fresh_of source rules f c s) refl)

  pub fresh_stays : AlwaysReports (StaysOverOr (FilterSays gives)) advances source lender Run s
  fresh_stays = subst (λ (t : LendingCompaction S F C A).
      AlwaysReports (StaysOverOr (FilterSays gives)) advances source lender Run t) (sym fresh)
      (compaction_stays gives gets advances lent can (fresh_of source rules f c s) refl)

  pub fresh_may : CanYield advances nowhere can can source → MayLendCompacted advances can s
  fresh_may may = subst (λ (t : LendingCompaction S F C A). MayLendCompacted advances can t)
      (sym fresh) may

  pub fresh_can : CanYield advances nowhere can can source
      → CanYield Run nowhere (MayLendCompacted advances can) (MayLendCompacted advances can) s
  fresh_can may = can_compacted gives gets advances lent can s (fresh_may may)

module _ {S F C A : Type 0} (advances : S → Option R → S → Type 0) (lent : S → Option Entry)
    (can : S → Type 0) (source : S) (rules : Rules) (f : F) (c : C)
    (s : LendingCompaction S F C A) (fresh : s ≡ fresh_of source rules f c s) where
  abbrev Next' : LendingCompaction S F C A → Option R → LendingCompaction S F C A → Type 0
  Next' = AdvancesCompacted advances lent can (KeepsAll {F = F}) (TakesAny {C = C})

  pub fresh_faults : AlwaysReports PassesAll advances source lender Next' s
  fresh_faults = always_by (PassesAllOr (FilterSays (KeepsAll {F = F}))) PassesAll advances source
      lender Next' s (passes_all (FilterSays (KeepsAll {F = F})) says_none)
      (fresh_passes KeepsAll TakesAny advances lent can source rules f c s fresh)

  pub fresh_over : AlwaysReports StaysOver advances source lender Next' s
  fresh_over = always_by (StaysOverOr (FilterSays (KeepsAll {F = F}))) StaysOver advances source
      lender Next' s (stays_over (FilterSays (KeepsAll {F = F})) says_none)
      (fresh_stays KeepsAll TakesAny advances lent can source rules f c s fresh)
