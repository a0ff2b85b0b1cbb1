-- A compaction that lends, with a filter and a callback: what is looked at, and its calls.
use Rattle.std.proofs.Common.{◌≡◌, inl, inr, refl, sym, ◌∙◌, ap, subst, ℕ, Bool, true, false, cond}
use Rattle.std.proofs.Common.{List, [], ◌∷◌, ◌++◌}
use Rattle.std.specs.Prelude.{Option, Some, None, Result, Ok, Err, is_some, not}
use Rattle.std.specs.Option.{option_map}
use Rattle.sst_entries.specs.Entry.{Entry}
use Rattle.sst_entries.specs.Kind.{is_tombstone_kind}
use Rattle.sst_entries.specs.Stream.{CanYield, nowhere}
use Rattle.sst_entries.specs.declared.error.Error.{Error}
use Rattle.sst_entries.proofs.StreamLemmas.{can_by}
use Rattle.lsm_sorted.specs.merge.Ends.{R}
use Rattle.lsm_sorted.specs.Compaction.{Verdict, drop, keep, reports_by, told_by}
use Rattle.lsm_sorted.specs.Compacting.{Asks, AsksIf, GetsAll, of_key}
use Rattle.lsm_sorted.specs.Outlook.{results_in}
use Rattle.lsm_sorted.specs.Hears.{GaveEach}
use Rattle.lsm_sorted.specs.lending.LentFaults.{NoFaults}
use Rattle.lsm_sorted.specs.lending.LentFaults.{FilterSays, PassingOr}
use Rattle.lsm_sorted.specs.lending.LentNewest.{is_given}
use Rattle.lsm_sorted.specs.lending.LentCompaction.{listed_answer, past_hidden}
use Rattle.lsm_sorted.specs.lending.LentCompaction.{AdvancesCompacted, CallsCompacted, CompactedTo}
use Rattle.lsm_sorted.specs.lending.LentCompaction.{Later}
use Rattle.lsm_sorted.specs.lending.LentCompaction.{EndsAtNone, FetchesCompacted, MayLendCompacted}
use Rattle.lsm_sorted.specs.lending.LentCompaction.{SettlesCompacted}
use Rattle.lsm_sorted.specs.lending.LentCompaction.{StepsCompacted, WillCompact, hidden_key}
use Rattle.lsm_sorted.specs.lending.LentCompaction.{hidden_in}
use Rattle.lsm_sorted.specs.lending.LentCompaction.{lent_compacted, looked_at}
use Rattle.lsm_sorted.specs.declared.compaction.lending.Lends.TheVariants.{Nothing}
use Rattle.lsm_sorted.specs.declared.compaction.Rules.{Rules}
use Rattle.lsm_sorted.specs.declared.compaction.lending.LendingCompaction.{LendingCompaction}
use Rattle.lsm_sorted.proofs.HearsLemmas.{each_append}
use Rattle.lsm_sorted.proofs.LentFaultsLemmas.{came_after, came_before, ends_append}
use Rattle.lsm_sorted.proofs.LentFaultsLemmas.{no_faults_append}
use Rattle.lsm_sorted.proofs.LentFaultsLemmas.{live_over, nothing_wanted, passing_after}
use Rattle.lsm_sorted.proofs.LentFaultsLemmas.{wants_after}
use Rattle.lsm_sorted.proofs.LentOutsLemmas.{hidden_skips, hidden_stops}
use Rattle.lsm_sorted.proofs.LentTurnLemmas.{hears_more, lent_dropped, lent_failed}
use Rattle.lsm_sorted.proofs.CompactionHeads.{as_here, looked_next, looked_some, same_will}
use Rattle.lsm_sorted.proofs.CompactionHeads.{lends_nothing, will_at, will_plain, will_whole}

-- an error that is said is the filter's: a tombstone is kept
asked_error : {F : Type 0} (gives : F → Entry → Result Verdict Error → F → Type 0) (f g : F)
    (x : Entry) (e : Error) → Asks gives f x (Err e) g → gives f x (Err e) g
asked_error gives f g x e = elim (is_tombstone_kind x.kind) as
    (λ b. AsksIf gives (not b) f x (Err e) g → gives f x (Err e) g) [
      | true ↦ λ h. let no : Err e ≡ Ok keep = h.0 in absurd cc
      | false ↦ λ h. h
    ]

-- ---- an entry is looked at

record Hidden (k : Option (List ℕ)) (x : Entry) (rs : List R) : Type 0 where
  pub returned : hidden_in k (Ok x ∷ rs) ≡ x ∷ hidden_in k rs
  pub past : past_hidden k (Ok x ∷ rs) ≡ past_hidden k rs

record Shown (k : Option (List ℕ)) (x : Entry) (rs : List R) : Type 0 where
  pub returned : hidden_in k (Ok x ∷ rs) ≡ []
  pub past : past_hidden k (Ok x ∷ rs) ≡ Ok x ∷ rs

hides_more : (k : Option (List ℕ)) (x : Entry) (rs : List R) → is_given k x ≡ true → Hidden k x rs
hides_more None x rs given = let no : false ≡ true = given in absurd cc
hides_more (Some j) x rs given = record {
  returned = ap (λ (b : Bool). cond b (x ∷ of_key j rs) []) given;
  past = hidden_skips j x rs given;
}

hides_no_more : (k : Option (List ℕ)) (x : Entry) (rs : List R) → is_given k x ≡ false
    → Shown k x rs
hides_no_more None x rs given = record { returned = refl; past = refl }
hides_no_more (Some j) x rs given = record {
  returned = ap (λ (b : Bool). cond b (x ∷ of_key j rs) []) given;
  past = hidden_stops j x rs given;
}

module _ {F C : Type 0} (gives : F → Entry → Result Verdict Error → F → Type 0)
    (gets : C → Entry → C → Type 0) {S A : Type 0} (advances : S → Option R → S → Type 0)
    (lent : S → Option Entry) (s m t : LendingCompaction S F C A) where
  abbrev Stepped : Option R → Type 0
  Stepped r = StepsCompacted gives gets advances lent s r t

  module _ (pending : s.is_pending ≡ true) where
    awake : {P : Type 0} → s.is_pending ≡ false → P
    awake quiet = let no : true ≡ false = sym pending ∙ quiet in absurd cc

    -- there is none
    pub looks_none : lent s.source ≡ None → s.source ≡ t.source → t.rules ≡ s.rules
        → t.filter ≡ s.filter → t.callback ≡ s.callback → hidden_key t ≡ hidden_key s
        → t.is_over ≡ false → t.is_pending ≡ false → Stepped None
    looks_none none source rules filter callback hidden live next = record {
      answers = [];
      gave = source;
      returned = inl (inl tt, live);
      idle = λ q n. awake q;
      rules = rules;
      does = λ z l rest more g d ends will.
          will_at gives gets z s rest (looked_at lent s rest) more g d
          (sym (looked_some lent s rest None pending none))
          (same_will gives gets z s t rest rules filter callback hidden more g d
          (will_at gives gets z t (looked_at lent t rest) rest more g d
          (looked_next lent t rest next) will));
    }

    module _ (x : Entry) (is : lent s.source ≡ Some x) where
      -- a compaction of it and of these
      from_it : (z : Later) (rest more : List R) (g : F) (d : C)
          → WillCompact gives gets z s (Ok x ∷ rest) more g d
          → WillCompact gives gets z s (looked_at lent s rest) more g d
      from_it z rest more g d will = will_at gives gets z s (Ok x ∷ rest) (looked_at lent s rest)
          more g d (sym (looked_some lent s rest (Some x) pending is)) will

      -- it is hidden
      pub looks_hidden : is_given (hidden_key s) x ≡ true → s.source ≡ t.source
          → t.rules ≡ s.rules → gets s.callback x t.callback → t.filter ≡ s.filter
          → hidden_key t ≡ hidden_key s → t.is_over ≡ false → t.is_pending ≡ false → Stepped None
      looks_hidden given source rules got filter hidden live next = record {
        answers = [];
        gave = source;
        returned = inl (inl tt, live);
        idle = λ q n. awake q;
        rules = rules;
        does = λ z l rest more g d ends will.
            let w = will_at gives gets z t (looked_at lent t rest) rest more g d
            (looked_next lent t rest next) will in
            let skip = hides_more (hidden_key s) x rest given in
            let es : List Entry = hidden_in (hidden_key s) rest in
            let ys : List R = past_hidden (hidden_key s) rest in
            from_it z rest more g d
            (subst (λ (rs : List R). CompactedTo gives gets z s.rules s.filter s.callback
            (hidden_in (hidden_key s) (Ok x ∷ rest)) rs more g d) (sym skip.past)
            (subst (λ (is : List Entry). CompactedTo gives gets z s.rules s.filter s.callback is ys
            more g d) (sym skip.returned)
            (hears_more gives gets z s.rules s.filter g s.callback t.callback d x es ys more got
            (as_here gives gets z s t t.callback es ys more g d rules filter
            (subst (λ (k : Option (List ℕ)). CompactedTo gives gets z t.rules t.filter t.callback
            (hidden_in k rest) (past_hidden k rest) more g d) hidden w)))));
      }

      -- it is not hidden, and the filter says this of it
      module _ (fresh : is_given (hidden_key s) x ≡ false) (v : Result Verdict Error)
          (asks : Asks gives s.filter x v m.filter)
          (reports : GetsAll gets s.callback (reports_by x v) m.callback) where
        fresh_it : (z : Later) (rest more : List R) (g : F) (d : C)
            → CompactedTo gives gets z s.rules s.filter s.callback [] (Ok x ∷ rest) more g d
            → WillCompact gives gets z s (looked_at lent s rest) more g d
        fresh_it z rest more g d does =
            let stop = hides_no_more (hidden_key s) x rest fresh in
            from_it z rest more g d
            (will_whole gives gets z s (Ok x ∷ rest) more g d stop.returned stop.past does)

        -- it leaves one, which is settled from m on
        pub looks_left : (h : Entry) (r : Option R) → told_by x v ≡ Ok (Some h)
            → m.source ≡ s.source → m.rules ≡ s.rules
            → SettlesCompacted gives gets advances lent m h r t → Stepped r
        looks_left h r left source rules settles = record {
          answers = settles.answers;
          gave = subst (λ (u : S). GaveEach advances u settles.answers t.source) source
              settles.gave;
          returned = elim settles.returned [
            | inl passing ↦ inl (inl passing.0, passing.1)
            | inr wants ↦ inr wants
          ];
          idle = λ q n. awake q;
          rules = settles.rules ∙ rules;
          does = λ z l rest more g d ends will.
              let rs : List R = results_in settles.answers ++ rest in
              fresh_it z rs (listed_answer r ++ more) g d
              (subst (λ (q : Rules). CompactedTo gives gets z q s.filter s.callback [] (Ok x ∷ rs)
              (listed_answer r ++ more) g d) rules
              ((settles.does z l rest more g d ends will).at x v s.filter s.callback left asks
              reports));
        }

        module _ (source : s.source ≡ t.source) (filter : t.filter ≡ m.filter)
            (callback : t.callback ≡ m.callback) (rules : t.rules ≡ s.rules)
            (plain : t.hides ≡ false) (live : t.is_over ≡ false) (next : t.is_pending ≡ false) where
          behind : (z : Later) (rest more : List R) (g : F) (d : C)
              → WillCompact gives gets z t (looked_at lent t rest) more g d
              → CompactedTo gives gets z s.rules m.filter m.callback [] rest more g d
          behind z rest more g d will = subst (λ (c : C).
              CompactedTo gives gets z s.rules m.filter c [] rest more g d) callback
              (subst (λ (f : F). CompactedTo gives gets z s.rules f t.callback [] rest more g d)
              filter (subst (λ (q : Rules).
              CompactedTo gives gets z q t.filter t.callback [] rest more g d) rules
              (will_plain gives gets z t rest more g d plain
              (will_at gives gets z t (looked_at lent t rest) rest more g d
              (looked_next lent t rest next) will))))

          -- it leaves none
          pub looks_dropped : v ≡ Ok drop → Stepped None
          looks_dropped dropped = record {
            answers = [];
            gave = source;
            returned = inl (inl tt, live);
            idle = λ q n. awake q;
            rules = rules;
            does = λ z l rest more g d ends will.
                fresh_it z rest more g d (lent_dropped s.rules gives gets z x v s.filter m.filter g
                s.callback m.callback d asks reports dropped rest more
                (behind z rest more g d will));
          }

          -- it answers an error
          pub looks_failed : (e : Error) → v ≡ Err e → Stepped (Some (Err e))
          looks_failed e failed = record {
            answers = [];
            gave = source;
            returned = inl (
              inr (record {
                error = e;
                is = refl;
                says = record {
                  filter = s.filter;
                  entry = x;
                  then = m.filter;
                  says = asked_error gives s.filter m.filter x e
                      (subst (λ (w : Result Verdict Error). Asks gives s.filter x w m.filter) failed
                      asks);
                };
                none = tt;
              }),
              live,
            );
            idle = λ q n. awake q;
            rules = rules;
            does = λ z l rest more g d ends will.
                fresh_it z rest (Err e ∷ more) g d (lent_failed s.rules gives gets z x v s.filter
                m.filter g s.callback m.callback d asks reports e failed rest more
                (behind z rest more g d will));
          }

-- the state once an entry was judged
abbrev pub judged_by : {S F C A : Type 0} → LendingCompaction S F C A → F → C
    → LendingCompaction S F C A
judged_by s f c = record {
  source = s.source;
  rules = s.rules;
  filter = f;
  callback = c;
  key = s.key;
  value = s.value;
  lends = s.lends;
  hides = false;
  is_pending = s.is_pending;
  is_over = s.is_over;
}

-- ---- one step after another

-- the results of answers one after another
pub parts_join : (ps qs : List (Option R)) (rest : List R)
    → results_in (ps ++ qs) ++ rest ≡ results_in ps ++ (results_in qs ++ rest)
parts_join [] qs rest = refl
parts_join (None ∷ ps) qs rest = parts_join ps qs rest
parts_join (Some x ∷ ps) qs rest = ap (λ (rs : List R). x ∷ rs) (parts_join ps qs rest)

pub ends_before : (ps qs : List (Option R)) (rest : List R) → EndsAtNone (ps ++ qs) rest
    → EndsAtNone ps (results_in qs ++ rest)
ends_before [] qs rest ends = tt
ends_before (None ∷ ps) qs rest ends = (
  sym (parts_join ps qs rest) ∙ ends.0,
  ends_before ps qs rest ends.1,
)
ends_before (Some x ∷ ps) qs rest ends = ends_before ps qs rest ends

pub ends_after : (ps qs : List (Option R)) (rest : List R) → EndsAtNone (ps ++ qs) rest
    → EndsAtNone qs rest
ends_after [] qs rest ends = ends
ends_after (None ∷ ps) qs rest ends = ends_after ps qs rest ends.1
ends_after (Some x ∷ ps) qs rest ends = ends_after ps qs rest ends

not_none : {P : Type 0} (o : Option Entry) (b : Bool) → b ≡ is_some o → b ≡ true
    → option_map {U = R} (λ y. Ok y) o ≡ None → P
not_none None b more lends none = let no : true ≡ false = sym lends ∙ more in absurd cc
not_none (Some x) b more lends none = absurd cc

module _ {F : Type 0} (gives : F → Entry → Result Verdict Error → F → Type 0) where
  -- a silent step leaves no error
  clean : (r : Option R) (answers : List (Option R)) → r ≡ None → PassingOr (FilterSays gives) r answers
      → NoFaults answers
  clean None answers none passing = elim passing [
    | inl faults ↦ faults
    | inr says ↦ let no : None ≡ Some (Err says.error) = says.is in absurd cc
  ]
  clean (Some r) answers none passing = absurd cc

  after_clean : (r : Option R) (ps qs : List (Option R)) → NoFaults ps → PassingOr (FilterSays gives) r qs
      → PassingOr (FilterSays gives) r (ps ++ qs)
  after_clean r ps qs none passing = elim passing [
    | inl faults ↦ inl (passing_after r ps qs none faults)
    | inr says ↦ inr (record {
      error = says.error;
      is = says.is;
      says = says.says;
      none = no_faults_append ps qs none says.none;
    })
  ]

module _ {F C : Type 0} (gives : F → Entry → Result Verdict Error → F → Type 0)
    (gets : C → Entry → C → Type 0) {S A : Type 0} (advances : S → Option R → S → Type 0)
    (lent : S → Option Entry) where
  abbrev Steps : LendingCompaction S F C A → Option R → LendingCompaction S F C A
      → Type 0
  Steps = StepsCompacted gives gets advances lent

  abbrev Fetched : LendingCompaction S F C A → Option R → LendingCompaction S F C A
      → Type 0
  Fetched = FetchesCompacted gives gets advances lent

  pub steps_begun : (s : LendingCompaction S F C A) → s.is_over ≡ false → Steps s None s
  steps_begun s live = record {
    answers = [];
    gave = refl;
    returned = inl (inl tt, live);
    idle = λ q n. q;
    rules = refl;
    does = λ z l rest more g d ends will. will;
  }

  -- something waited to be looked at
  pub fetches_held : (s t : LendingCompaction S F C A) → s ≡ t → s.is_over ≡ false
      → s.is_pending ≡ true → Fetched s None t
  fetches_held s t same live pending =
      subst (λ (u : LendingCompaction S F C A). Fetched s None u) same (record {
        step = steps_begun s live;
        ended = λ none quiet. let no : true ≡ false = sym pending ∙ quiet in absurd cc;
        idle = λ q n. refl;
      })

  module _ (s m t : LendingCompaction S F C A) where
    abbrev Quiet : Type 0
    Quiet = Steps s None m

    -- what a silent step leaves
    quiet_clean : (before : Quiet) → NoFaults before.answers × (m.is_over ≡ false)
    quiet_clean before = elim before.returned [
      | inl passing ↦ (clean gives None before.answers refl passing.0, passing.1)
      | inr wants ↦ nothing_wanted before.answers wants.0
    ]

    pub steps_then : (r : Option R) → Quiet → Steps m r t → Steps s r t
    steps_then r before after = record {
      answers = before.answers ++ after.answers;
      gave = each_append advances before.answers after.answers s.source m.source t.source
          before.gave after.gave;
      returned = elim after.returned [
        | inl passing ↦ inl (
          after_clean gives r before.answers after.answers (quiet_clean before).0 passing.0,
          passing.1,
        )
        | inr wants ↦ inr (
          wants_after r before.answers after.answers (quiet_clean before).0 wants.0,
          wants.1,
        )
      ];
      idle = λ q none. after.idle
          (before.idle q (came_before before.answers after.answers none))
          (came_after before.answers after.answers none);
      rules = after.rules ∙ before.rules;
      does = λ z live rest more g d ends will.
          will_at gives gets z s
          (looked_at lent s (results_in before.answers ++ (results_in after.answers ++ rest)))
          (looked_at lent s (results_in (before.answers ++ after.answers) ++ rest))
          (listed_answer r ++ more) g d
          (sym (ap (looked_at lent s) (parts_join before.answers after.answers rest)))
          (before.does z (quiet_clean before).1 (results_in after.answers ++ rest)
          (listed_answer r ++ more) g d (ends_before before.answers after.answers rest ends)
          (after.does z live rest more g d (ends_after before.answers after.answers rest ends) will));
    }

    -- ---- whole calls

    abbrev Called : Option R → Type 0
    Called r = CallsCompacted gives gets advances lent s r t

    -- it answered an error in place of an entry
    pub calls_refused : (e : Error) → Quiet → Fetched m (Some (Err e)) t → t.is_pending ≡ false
        → Called (Some (Err e))
    unfolding steps_then
    calls_refused e before after quiet = record {
      step = steps_then (Some (Err e)) before after.step;
      ended = λ none. let no : Some (Err e) ≡ None = none in absurd cc;
      idle = λ q none. after.idle
          (before.idle q (came_before before.answers after.step.answers none))
          (came_after before.answers after.step.answers none);
      rests = λ n. quiet;
    }

    -- it has ended
    pub calls_ended : Quiet → Fetched m None t → t.is_pending ≡ false → Called None
    unfolding steps_then
    calls_ended before after quiet = record {
      step = steps_then None before after.step;
      ended = λ none. ends_append None before.answers after.step.answers (quiet_clean before).0
          (after.ended refl quiet);
      idle = λ q none. refl;
      rests = λ n. quiet;
    }

    module _ (pending : m.is_pending ≡ true) (before : Quiet) where
      -- there was an entry, and it was looked at
      pub calls_looked : (e : Error) → Steps m (Some (Err e)) t → t.is_pending ≡ false
          → Called (Some (Err e))
      unfolding steps_then
      calls_looked e after quiet = record {
        step = steps_then (Some (Err e)) before after;
        ended = λ none. let no : Some (Err e) ≡ None = none in absurd cc;
        idle = λ q none. awake gives gets advances lent m m m pending
            (before.idle q (came_before before.answers after.answers none));
        rests = λ n. quiet;
      }

      -- and it is what is lent
      pub calls_lent : (b : Bool) (o : Option Entry) → b ≡ is_some o → b ≡ true
          → Steps m (option_map (λ y. Ok y) o) t → Called (option_map (λ y. Ok y) o)
      unfolding steps_then
      calls_lent b None more lends after =
          let no : true ≡ false = sym lends ∙ more in absurd cc
      calls_lent b (Some x) more lends after = record {
        step = steps_then (Some (Ok x)) before after;
        ended = λ none. let no : Some (Ok x) ≡ None = none in absurd cc;
        idle = λ q none. awake gives gets advances lent m m m pending
            (before.idle q (came_before before.answers after.answers none));
        rests = λ n. let no : true ≡ false = n in absurd cc;
      }

  -- where nothing is lent
  pub steps_silent : (s t : LendingCompaction S F C A) → t.lends ≡ Nothing
      → Steps s None t → Steps s (option_map (λ y. Ok y) (lent_compacted lent t)) t
  steps_silent s t none steps =
      subst (λ (r : Option R). Steps s r t) (sym (lends_nothing lent t none)) steps

  pub steps_quiet : (s t : LendingCompaction S F C A) → t.lends ≡ Nothing
      → Steps s (option_map (λ y. Ok y) (lent_compacted lent t)) t → Steps s None t
  steps_quiet s t none steps =
      subst (λ (r : Option R). Steps s r t) (lends_nothing lent t none) steps

  module _ (can : S → Type 0) where
    abbrev Advances : LendingCompaction S F C A → Option R
        → LendingCompaction S F C A → Type 0
    Advances = AdvancesCompacted advances lent can gives gets

    -- a call of one that is not over
    pub advances_live : (s t : LendingCompaction S F C A) (r : Option R)
        → s.is_over ≡ false → MayLendCompacted advances can t
        → CallsCompacted gives gets advances lent s r t → Advances s r t
    advances_live s t r live may call = record {
      may = may;
      live = λ l. call;
      ended = λ over. absurd (live_over live over);
    }

    pub advances_silent : (s t : LendingCompaction S F C A) → t.lends ≡ Nothing
        → Advances s None t → Advances s (option_map (λ y. Ok y) (lent_compacted lent t)) t
    advances_silent s t none goes =
        subst (λ (r : Option R). Advances s r t) (sym (lends_nothing lent t none)) goes

    pub can_compacted : (s : LendingCompaction S F C A)
        → CanYield advances nowhere can can s.source
        → CanYield Advances nowhere (MayLendCompacted advances can) (MayLendCompacted advances can) s
    can_compacted s may = can_by Advances nowhere (MayLendCompacted advances can) (MayLendCompacted advances can)
        (MayLendCompacted advances can) (λ u m. (m, m)) (λ u r t m step. step.may)
        (λ u r t m step. absurd step) s may
