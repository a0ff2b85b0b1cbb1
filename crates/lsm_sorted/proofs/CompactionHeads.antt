-- A compaction that lends, with a filter and a callback: its steps.
use Rattle.std.proofs.Common.{◌≡◌, inl, inr, refl, sym, ◌∙◌, ap, subst, ℕ, Bool, true, false, cond}
use Rattle.std.proofs.Common.{nat_lt, List, [], ◌∷◌, ◌++◌}
use Rattle.std.specs.Prelude.{Option, Some, None, Result, Ok, Err, is_some, ◌&&◌}
use Rattle.std.specs.Option.{option_map}
use Rattle.sst_entries.specs.Entry.{Entry, entry}
use Rattle.sst_entries.specs.Key.{same_key}
use Rattle.sst_entries.specs.Kind.{is_tombstone_kind}
use Rattle.sst_entries.specs.Stream.{Lowers, first}
use Rattle.sst_entries.specs.declared.error.Error.{Error}
use Rattle.sst_entries.specs.declared.error.Error.TheVariants.{OutOfMemory}
use Rattle.sst_entries.specs.declared.value_type.ValueType.{ValueType}
use Rattle.sst_entries.proofs.KeyLemmas.{same_is}
use Rattle.lsm_sorted.specs.merge.Ends.{R}
use Rattle.lsm_sorted.specs.Newest.{after_key}
use Rattle.lsm_sorted.specs.Compaction.{Verdict, is_value, zeroed}
use Rattle.lsm_sorted.specs.Compacting.{head_answer, key_follows, of_key}
use Rattle.lsm_sorted.specs.CompactionState.{error_first}
use Rattle.lsm_sorted.specs.lending.LentCompaction.{entry_before, gone_of_lent, has_to_wait}
use Rattle.lsm_sorted.specs.lending.LentCompaction.{listed_answer}
use Rattle.lsm_sorted.specs.lending.LentCompaction.{past_hidden}
use Rattle.lsm_sorted.specs.lending.LentFaults.{NoFaults, Passing}
use Rattle.lsm_sorted.specs.lending.LentCompaction.{CompactedTo, FetchesCompacted, Later}
use Rattle.lsm_sorted.specs.lending.LentCompaction.{SettlesCompacted}
use Rattle.lsm_sorted.specs.lending.LentCompaction.{SettlesFirst, WillCompact, hidden_key}
use Rattle.lsm_sorted.specs.lending.LentCompaction.{hidden_in, lent_compacted, looked_at, put_into}
use Rattle.lsm_sorted.specs.lending.LentCompaction.{lent_where}
use Rattle.lsm_sorted.specs.declared.compaction.lending.Lends.{Lends}
use Rattle.lsm_sorted.specs.declared.compaction.lending.Lends.TheVariants.{Nothing}
use Rattle.lsm_sorted.specs.declared.compaction.Rules.{Rules}
use Rattle.lsm_sorted.specs.declared.compaction.lending.LendingCompaction.{LendingCompaction}
use Rattle.lsm_sorted.proofs.LentFaultsLemmas.{ends_only}
use Rattle.lsm_sorted.proofs.LentTurnLemmas.{gone_before, gone_fault, gone_high, gone_last}
use Rattle.lsm_sorted.proofs.LentTurnLemmas.{gone_low}
use Rattle.lsm_sorted.proofs.LentTurnLemmas.{hears_more, lent_closes, lent_error, lent_opens}
use Rattle.lsm_sorted.proofs.TurnLemmas.{stretch, stretch_all, stretch_ends}

-- ---- an entry by its parts

pub parts_are : (x : Entry) (k v : List ℕ) → k ≡ x.user_key → v ≡ x.value
    → entry k v x.seqno x.kind ≡ x
parts_are x k v key value = ap (λ (j : List ℕ). entry j v x.seqno x.kind) key
    ∙ ap (λ (w : List ℕ). entry x.user_key w x.seqno x.kind) value

-- what is lent from the buffers
pub held_answer : (q rules : Rules) (k v : List ℕ) (x : Entry) (b : Bool) → q ≡ rules
    → k ≡ x.user_key → v ≡ x.value → b ≡ false
    → Some (Ok (zeroed q (entry k v x.seqno x.kind))) ≡ head_answer rules b x
held_answer q rules k v x b same key value stays =
    ap (λ (p : Rules). Some (Ok (zeroed p (entry k v x.seqno x.kind)))) same
    ∙ ap (λ (j : List ℕ). Some (Ok (zeroed rules (entry j v x.seqno x.kind)))) key
    ∙ ap (λ (w : List ℕ). Some (Ok (zeroed rules (entry x.user_key w x.seqno x.kind)))) value
    ∙ sym (ap (λ (c : Bool). head_answer rules c x) stays)

-- ---- how many may come

pub ended_left : (o : Option Entry) (b : Bool) (was now : ℕ) → b ≡ is_some o → b ≡ false
    → Lowers (option_map {U = R} (λ x. Ok x) o) was now → now ≡ 0
ended_left None b was now more none h = h
ended_left (Some x) b was now more none h = let no : false ≡ true = sym none ∙ more in absurd cc

-- ---- steps

-- what is lent where nothing is
pub lends_nothing : {S F C A : Type 0} (lent : S → Option Entry)
    (t : LendingCompaction S F C A) → t.lends ≡ Nothing
    → option_map {U = R} (λ x. Ok x) (lent_compacted lent t) ≡ None
lends_nothing lent t none = ap (λ (l : Lends). option_map {U = R} (λ x. Ok x) (lent_where lent l t)) none

pub same_some : (x y : Entry) (o : Option Entry) → o ≡ Some x → o ≡ Some y → x ≡ y
same_some x y o of_x of_y = cc

-- what came is what is now lent
pub step_to : {S : Type 0} (advances : S → Option R → S → Type 0) (lent : S → Option Entry)
    (s u : S) (o : Option Entry) → lent u ≡ o → advances s (option_map (λ x. Ok x) (lent u)) u
    → advances s (option_map (λ x. Ok x) o) u
step_to advances lent s u o is step =
    subst (λ (p : Option Entry). advances s (option_map (λ x. Ok x) p) u) is step

-- what a head gives passes on answers without errors
passing_of : (rules : Rules) (b : Bool) (head : Entry) (answers : List (Option R))
    → NoFaults answers → Passing (head_answer rules b head) answers
passing_of rules true head answers none = none
passing_of rules false head answers none = none

-- an error is not hidden
hidden_error : (k : Option (List ℕ)) (e : Error) (rs : List R) → hidden_in k (Err e ∷ rs) ≡ []
hidden_error None e rs = refl
hidden_error (Some key) e rs = refl

past_error : (k : Option (List ℕ)) (e : Error) (rs : List R)
    → past_hidden k (Err e ∷ rs) ≡ Err e ∷ rs
past_error None e rs = refl
past_error (Some key) e rs = refl

-- what is looked at, by whether something waits
module _ {S F C A : Type 0} (lent : S → Option Entry) (t : LendingCompaction S F C A)
    (rs : List R) where
  pub looked_next : t.is_pending ≡ false → looked_at lent t rs ≡ rs
  looked_next next = ap (λ (b : Bool). cond b (entry_before (lent t.source) rs) rs) next

  pub looked_some : (o : Option Entry) → t.is_pending ≡ true → lent t.source ≡ o
      → looked_at lent t rs ≡ entry_before o rs
  looked_some o pending is =
      ap (λ (b : Bool). cond b (entry_before (lent t.source) rs) rs) pending
      ∙ ap (λ (p : Option Entry). entry_before p rs) is

module _ {F C : Type 0} (gives : F → Entry → Result Verdict Error → F → Type 0)
    (gets : C → Entry → C → Type 0) {S A : Type 0} where
  module _ (z : Later) where
    -- nothing is hidden
    pub will_plain : (t : LendingCompaction S F C A) (ys gave : List R) (g : F) (d : C)
        → t.hides ≡ false → WillCompact gives gets z t ys gave g d
        → CompactedTo gives gets z t.rules t.filter t.callback [] ys gave g d
    will_plain t ys gave g d plain will = subst (λ (b : Bool).
        CompactedTo gives gets z t.rules t.filter t.callback
        (hidden_in (cond b (Some t.key.items) None) ys)
        (past_hidden (cond b (Some t.key.items) None) ys) gave g d) plain will

    -- what follows this key is hidden
    pub will_hide : (t : LendingCompaction S F C A) (k : List ℕ) (ys gave : List R) (g : F)
        (d : C) → t.hides ≡ true → t.key.items ≡ k → WillCompact gives gets z t ys gave g d
        → CompactedTo gives gets z t.rules t.filter t.callback (of_key k ys) (after_key k ys) gave
        g d
    will_hide t k ys gave g d hides is will = subst (λ (j : List ℕ).
        CompactedTo gives gets z t.rules t.filter t.callback (of_key j ys) (after_key j ys) gave
        g d) is (subst (λ (b : Bool). CompactedTo gives gets z t.rules t.filter t.callback
        (hidden_in (cond b (Some t.key.items) None) ys)
        (past_hidden (cond b (Some t.key.items) None) ys) gave g d) hides will)

    -- of a list with nothing hidden in front
    pub will_whole : (t : LendingCompaction S F C A) (xs gave : List R) (g : F) (d : C)
        → hidden_in (hidden_key t) xs ≡ [] → past_hidden (hidden_key t) xs ≡ xs
        → CompactedTo gives gets z t.rules t.filter t.callback [] xs gave g d
        → WillCompact gives gets z t xs gave g d
    will_whole t xs gave g d none past does = subst (λ (ys : List R).
        CompactedTo gives gets z t.rules t.filter t.callback (hidden_in (hidden_key t) xs) ys gave
        g d) (sym past) (subst (λ (es : List Entry).
        CompactedTo gives gets z t.rules t.filter t.callback es xs gave g d) (sym none) does)

    pub will_at : (t : LendingCompaction S F C A) (xs ys gave : List R) (g : F) (d : C)
        → xs ≡ ys → WillCompact gives gets z t xs gave g d → WillCompact gives gets z t ys gave g d
    will_at t xs ys gave g d same will =
        subst (λ (zs : List R). WillCompact gives gets z t zs gave g d) same will

    -- what a compaction does from t on, by the rules and the filter of s
    pub as_here : (s t : LendingCompaction S F C A) (c : C) (hidden : List Entry)
        (rs gave : List R) (g : F) (d : C) → t.rules ≡ s.rules → t.filter ≡ s.filter
        → CompactedTo gives gets z t.rules t.filter c hidden rs gave g d
        → CompactedTo gives gets z s.rules s.filter c hidden rs gave g d
    as_here s t c hidden rs gave g d rules filter does = subst (λ (q : Rules).
        CompactedTo gives gets z q s.filter c hidden rs gave g d) rules
        (subst (λ (f : F). CompactedTo gives gets z t.rules f c hidden rs gave g d) filter does)

    -- the same is to come
    pub same_will : (s t : LendingCompaction S F C A) (xs : List R) → t.rules ≡ s.rules
        → t.filter ≡ s.filter → t.callback ≡ s.callback → hidden_key t ≡ hidden_key s
        → (gave : List R) (g : F) (d : C) → WillCompact gives gets z t xs gave g d
        → WillCompact gives gets z s xs gave g d
    same_will s t xs rules filter callback hidden gave g d will =
        as_here s t s.callback (hidden_in (hidden_key s) xs) (past_hidden (hidden_key s) xs) gave g
        d rules filter
        (subst (λ (c : C). CompactedTo gives gets z t.rules t.filter c
        (hidden_in (hidden_key s) xs) (past_hidden (hidden_key s) xs) gave g d) callback
        (subst (λ (k : Option (List ℕ)). CompactedTo gives gets z t.rules t.filter t.callback
        (hidden_in k xs) (past_hidden k xs) gave g d) hidden will))

  module _ (advances : S → Option R → S → Type 0) (lent : S → Option Entry)
      (s t : LendingCompaction S F C A) where
    abbrev Settled : Option R → Entry → Type 0
    Settled r head = SettlesCompacted gives gets advances lent s head r t

    -- ---- the source is asked
    module _ (rules : t.rules ≡ s.rules) (filter : t.filter ≡ s.filter) (live : t.is_over ≡ false)
        (callback : t.callback ≡ s.callback) (next : s.is_pending ≡ false) where
      -- it answered what it now lends
      pub fetches_entry : (b : Bool) (o : Option Entry) → o ≡ lent t.source → b ≡ is_some o
          → t.is_pending ≡ b → hidden_key t ≡ hidden_key s
          → advances s.source (option_map (λ x. Ok x) o) t.source
          → FetchesCompacted gives gets advances lent s None t
      fetches_entry b None lends more pending hidden step = record {
        step = record {
          answers = None ∷ [];
          gave = (t.source, step, refl);
          returned = inl (inl (refl, tt), live);
          idle = λ q none. pending ∙ more;
          rules = rules;
          does = λ z l rest after g d ends will.
              will_at z s rest (looked_at lent s rest) after g d (sym (looked_next lent s rest next))
              (same_will z s t rest rules filter callback hidden after g d
              (will_at z t (looked_at lent t rest) rest after g d
              (looked_next lent t rest (pending ∙ more)) will));
        };
        ended = λ none quiet. ends_only None;
        idle = λ q none. refl;
      }
      fetches_entry b (Some x) lends more pending hidden step = record {
        step = record {
          answers = Some (Ok x) ∷ [];
          gave = (t.source, step, refl);
          returned = inl (inl (refl, tt), live);
          idle = λ q none. let no : Some (Ok x) ≡ None = none.0 in absurd cc;
          rules = rules;
          does = λ z l rest after g d ends will.
              will_at z s (Ok x ∷ rest) (looked_at lent s (Ok x ∷ rest)) after g d
              (sym (looked_next lent s (Ok x ∷ rest) next))
              (same_will z s t (Ok x ∷ rest) rules filter callback hidden after g d
              (will_at z t (looked_at lent t rest) (Ok x ∷ rest) after g d
              (looked_some lent t rest (Some x) (pending ∙ more) (sym lends)) will));
        };
        ended = λ none quiet. let no : true ≡ false = sym (pending ∙ more) ∙ quiet in absurd cc;
        idle = λ q none. refl;
      }

      -- or an error
      pub fetches_fault : (e : Error) → t.is_pending ≡ false → t.hides ≡ false
          → advances s.source (Some (Err e)) t.source
          → FetchesCompacted gives gets advances lent s (Some (Err e)) t
      fetches_fault e quiet plain step = record {
        step = record {
          answers = Some (Err e) ∷ [];
          gave = (t.source, step, refl);
          returned = inl (inl (ends_only (Some (Err e))), live);
          idle = λ q none. quiet;
          rules = rules;
          does = λ z l rest after g d ends will.
              will_at z s (Err e ∷ rest) (looked_at lent s (Err e ∷ rest)) (Err e ∷ after) g d
              (sym (looked_next lent s (Err e ∷ rest) next))
              (will_whole z s (Err e ∷ rest) (Err e ∷ after) g d
              (hidden_error (hidden_key s) e rest) (past_error (hidden_key s) e rest)
              (lent_error gives gets z s.rules s.filter g s.callback d e rest after
              (subst (λ (c : C). CompactedTo gives gets z s.rules s.filter c [] rest after g d)
              callback (as_here z s t t.callback [] rest after g d rules filter
              (will_plain z t rest after g d plain
              (will_at z t (looked_at lent t rest) rest after g d (looked_next lent t rest quiet)
              will))))));
        };
        ended = λ none q. let no : Some (Err e) ≡ None = none in absurd cc;
        idle = λ q none. let no : Some (Err e) ≡ None = none.0 in absurd cc;
      }

    -- ---- a head

    -- memory is refused
    pub settled_memory : (e : Error) (head : Entry) → e ≡ OutOfMemory → s.source ≡ t.source
        → t.rules ≡ s.rules → t.is_over ≡ true → Settled (Some (Err e)) head
    settled_memory e head is source rules over = record {
      answers = [];
      gave = source;
      returned = inr ((ap (λ (f : Error). Some (Err f)) is, tt), over);
      rules = rules;
      does = λ z live. let no : true ≡ false = sym over ∙ live in absurd cc;
    }

    -- of the entry that the source lends, where that is what is lent
    pub settled_source : (head x : Entry) → lent s.source ≡ Some head → lent s.source ≡ Some x
        → Settled (Some (Ok (zeroed s.rules head))) head
        → Settled (option_map (λ y. Ok y) (option_map (zeroed s.rules) (lent s.source))) x
    settled_source head x is lends settles =
        subst (λ (y : Entry).
        Settled (option_map (λ z. Ok z) (option_map (zeroed s.rules) (lent s.source))) y)
        (same_some head x (lent s.source) is lends)
        (subst (λ (o : Option Entry).
        Settled (option_map (λ z. Ok z) (option_map (zeroed s.rules) o)) head) (sym is) settles)

    -- where it is let go
    pub settled_gone : (head x : Entry) → lent s.source ≡ Some head → lent s.source ≡ Some x
        → t.lends ≡ Nothing → Settled None head
        → Settled (option_map (λ y. Ok y) (lent_compacted lent t)) x
    settled_gone head x is lends none settles =
        subst (λ (y : Entry). Settled (option_map (λ z. Ok z) (lent_compacted lent t)) y)
        (same_some head x (lent s.source) is lends)
        (subst (λ (r : Option R). Settled r head) (sym (lends_nothing lent t none)) settles)

    -- of the entry that the source lends, as it was changed
    pub settled_put : (r : Option R) (kind : ValueType) (value : List ℕ) (head x : Entry)
        → lent s.source ≡ Some head → lent s.source ≡ Some x → Settled r (put_into head kind value)
        → Settled r (put_into x kind value)
    settled_put r kind value head x is lends settles =
        subst (λ (y : Entry). Settled r (put_into y kind value))
        (same_some head x (lent s.source) is lends) settles

    pub settled_held : (h : Entry) (k v : List ℕ) → k ≡ h.user_key → v ≡ h.value
        → Settled (Some (Ok (zeroed s.rules h))) h
        → Settled (Some (Ok (zeroed s.rules (entry k v h.seqno h.kind)))) h
    settled_held h k v key value settles =
        subst (λ (y : Entry). Settled (Some (Ok (zeroed s.rules y))) h)
        (sym (parts_are h k v key value)) settles

    pub settled_silent : (h : Entry) → t.lends ≡ Nothing → Settled None h
        → Settled (option_map (λ y. Ok y) (lent_compacted lent t)) h
    settled_silent h none settles =
        subst (λ (r : Option R). Settled r h) (sym (lends_nothing lent t none)) settles

    -- ---- a head, and what follows it
    module _ (head : Entry) (rules : t.rules ≡ s.rules) (filter : t.filter ≡ s.filter)
        (live : t.is_over ≡ false) where
      module _ (z : Later) where
        abbrev First : List R → List R → F → C → Type 0
        First rs gave g d = SettlesFirst gives gets z head s rs gave g d

        -- what t does where it hides nothing
        plainly : (rest xs gave : List R) (g : F) (d : C) → t.callback ≡ s.callback
            → t.hides ≡ false → looked_at lent t rest ≡ xs
            → WillCompact gives gets z t (looked_at lent t rest) gave g d
            → CompactedTo gives gets z s.rules s.filter s.callback [] xs gave g d
        plainly rest xs gave g d callback plain at will =
            subst (λ (c : C). CompactedTo gives gets z s.rules s.filter c [] xs gave g d) callback
            (as_here z s t t.callback [] xs gave g d rules filter (will_plain z t xs gave g d plain
            (will_at z t (looked_at lent t rest) xs gave g d at will)))

        -- a head alone in front of these
        alone_first : (b : Bool) (rs gave : List R) (g : F) (d : C)
            → key_follows head.user_key rs ≡ false
            → gone_of_lent s.rules None (error_first rs) head ≡ b
            → CompactedTo gives gets z s.rules s.filter s.callback [] rs gave g d
            → First rs (listed_answer (head_answer s.rules b head) ++ gave) g d
        alone_first b rs gave g d over goes behind = record {
          at = λ x v f c left asks reports.
              lent_closes s.rules gives gets z x v f s.filter g c s.callback d asks reports
              head left [] rs rs gave b tt refl over (inr refl) goes behind;
        }

        -- another version follows, and it stays
        opens_first : (rs gave : List R) (g : F) (d : C) → key_follows head.user_key rs ≡ true
            → nat_lt head.seqno s.rules.watermark ≡ false
            → CompactedTo gives gets z s.rules s.filter s.callback [] rs gave g d
            → First rs (Ok (zeroed s.rules head) ∷ gave) g d
        opens_first rs gave g d follows high behind = record {
          at = λ x v f c left asks reports.
              lent_opens s.rules gives gets z x v f s.filter g c s.callback d asks reports
              head left rs gave follows high behind;
        }

      -- one that need not wait
      module _ (now : has_to_wait s.rules head ≡ false) (source : t.source ≡ s.source)
          (callback : t.callback ≡ s.callback) (next : t.is_pending ≡ false) where
        high_first : (z : Later) (rs gave : List R) (g : F) (d : C)
            → nat_lt head.seqno s.rules.watermark ≡ false
            → CompactedTo gives gets z s.rules s.filter s.callback [] rs gave g d
            → First z rs (Ok (zeroed s.rules head) ∷ gave) g d
        high_first z rs gave g d high behind = elim (key_follows head.user_key rs) as
            (λ b. key_follows head.user_key rs ≡ b
            → First z rs (Ok (zeroed s.rules head) ∷ gave) g d) [
              | true ↦ λ e. opens_first z rs gave g d e high behind
              | false ↦ λ e. alone_first z false rs gave g d e
                  (gone_high s.rules head now (error_first rs) high) behind
            ] refl

        pub keeps_high : nat_lt head.seqno s.rules.watermark ≡ false → t.hides ≡ false
            → Settled (Some (Ok (zeroed s.rules head))) head
        keeps_high high plain = record {
          answers = [];
          gave = sym source;
          returned = inl (tt, live);
          rules = rules;
          does = λ z l rest gave g d ends will. high_first z rest gave g d high
              (plainly z rest rest gave g d callback plain (looked_next lent t rest next) will);
        }

        pub keeps_low : (b : Bool) → nat_lt head.seqno s.rules.watermark ≡ true
            → b ≡ s.rules.evict && is_tombstone_kind head.kind → t.hides ≡ true
            → t.key.items ≡ head.user_key → Settled (head_answer s.rules b head) head
        keeps_low b low goes hides key = record {
          answers = [];
          gave = sym source;
          returned = inl (passing_of s.rules b head [] tt, live);
          rules = rules;
          does = λ z l rest gave g d ends will.
              let then = will_hide z t head.user_key rest gave g d hides key
              (will_at z t (looked_at lent t rest) rest gave g d (looked_next lent t rest next) will)
              in
              let es : List Entry = of_key head.user_key rest in
              let qs : List R = after_key head.user_key rest in
              record {
                at = λ x v f c left asks reports.
                    lent_closes s.rules gives gets z x v f s.filter g c s.callback d asks
                    reports head left es rest qs gave b (stretch_all head.user_key rest)
                    (stretch head.user_key rest) (stretch_ends head.user_key rest) (inl low)
                    (gone_low s.rules head now (first es) (error_first qs) low ∙ sym goes)
                    (subst (λ (e : C). CompactedTo gives gets z s.rules s.filter e es qs gave g d)
                    callback (as_here z s t t.callback es qs gave g d rules filter then));
              };
        }

      -- ---- a head that waits
      module _ (waits : has_to_wait s.rules head ≡ true) where
        module _ (callback : t.callback ≡ s.callback) (plain : t.hides ≡ false) where
          pub settles_fault : (e : Error) → t.is_pending ≡ false
              → advances s.source (Some (Err e)) t.source → Settled (Some (Err e)) head
          settles_fault e next step = record {
            answers = Some (Err e) ∷ [];
            gave = (t.source, step, refl);
            returned = inl (ends_only (Some (Err e)), live);
            rules = rules;
            does = λ z l rest gave g d ends will.
                alone_first z true (Err e ∷ rest) (Err e ∷ gave) g d refl
                (gone_fault s.rules head waits e)
                (lent_error gives gets z s.rules s.filter g s.callback d e rest gave
                (plainly z rest rest gave g d callback plain (looked_next lent t rest next) will));
          }

          pub settles_none : (b : Bool) → b ≡ s.rules.evict → t.is_pending ≡ false
              → advances s.source None t.source → Settled (head_answer s.rules b head) head
          settles_none b evict next step = record {
            answers = None ∷ [];
            gave = (t.source, step, refl);
            returned = inl (passing_of s.rules b head (None ∷ []) (refl, tt), live);
            rules = rules;
            does = λ z l rest gave g d ends will.
                alone_first z b rest gave g d (ap (key_follows head.user_key) ends.0)
                (ap (λ (rs : List R). gone_of_lent s.rules None (error_first rs) head) ends.0
                ∙ gone_last s.rules head waits ∙ sym evict)
                (plainly z rest rest gave g d callback plain (looked_next lent t rest next) will);
          }

          module _ (y : Entry) (is : lent t.source ≡ Some y) (pending : t.is_pending ≡ true)
              (step : advances s.source (Some (Ok y)) t.source) where
            pub settles_other : (b : Bool) → b ≡ s.rules.evict
                → same_key y.user_key head.user_key ≡ false
                → Settled (head_answer s.rules b head) head
            settles_other b evict other = record {
              answers = Some (Ok y) ∷ [];
              gave = (t.source, step, refl);
              returned = inl (passing_of s.rules b head (Some (Ok y) ∷ []) (refl, tt), live);
              rules = rules;
              does = λ z l rest gave g d ends will.
                  alone_first z b (Ok y ∷ rest) gave g d other
                  (gone_last s.rules head waits ∙ sym evict)
                  (plainly z rest (Ok y ∷ rest) gave g d callback plain
                  (looked_some lent t rest (Some y) pending is) will);
            }

            pub settles_high : same_key y.user_key head.user_key ≡ true
                → nat_lt head.seqno s.rules.watermark ≡ false
                → Settled (head_answer s.rules false head) head
            settles_high same high = record {
              answers = Some (Ok y) ∷ [];
              gave = (t.source, step, refl);
              returned = inl ((refl, tt), live);
              rules = rules;
              does = λ z l rest gave g d ends will.
                  opens_first z (Ok y ∷ rest) gave g d same high
                  (plainly z rest (Ok y ∷ rest) gave g d callback plain
                  (looked_some lent t rest (Some y) pending is) will);
            }

        -- a version that it hides
        pub settles_low : (y : Entry) → advances s.source (Some (Ok y)) t.source
            → gets s.callback y t.callback → same_key y.user_key head.user_key ≡ true → (b : Bool)
            → b ≡ is_value y.kind → t.is_pending ≡ false → t.hides ≡ true
            → t.key.items ≡ head.user_key → nat_lt head.seqno s.rules.watermark ≡ true
            → Settled (head_answer s.rules b head) head
        settles_low y step got same b goes next hides key low = record {
          answers = Some (Ok y) ∷ [];
          gave = (t.source, step, refl);
          returned = inl (passing_of s.rules b head (Some (Ok y) ∷ []) (refl, tt), live);
          rules = rules;
          does = λ z l rest gave g d ends will.
              let then = will_hide z t head.user_key rest gave g d hides key
              (will_at z t (looked_at lent t rest) rest gave g d (looked_next lent t rest next) will)
              in
              let es : List Entry = of_key head.user_key rest in
              let qs : List R = after_key head.user_key rest in
              record {
                at = λ x v f c left asks reports.
                    lent_closes s.rules gives gets z x v f s.filter g c s.callback d asks
                    reports head left (y ∷ es) (Ok y ∷ rest) qs gave b
                    (same_is y.user_key head.user_key same, stretch_all head.user_key rest)
                    (ap (λ (rs : List R). Ok y ∷ rs) (stretch head.user_key rest))
                    (stretch_ends head.user_key rest) (inl low)
                    (gone_before s.rules head waits y (error_first qs) low ∙ sym goes)
                    (hears_more gives gets z s.rules s.filter g s.callback t.callback d y es qs
                    gave got (as_here z s t t.callback es qs gave g d rules filter then));
              };
        }
