-- The newest versions of a source that lends.
use Rattle.std.proofs.Common.{◌≡◌, refl, sym, ◌∙◌, ap, subst, ℕ, ◌≤◌, Bool, true, false, cond, List}
use Rattle.std.proofs.Common.{[], ◌∷◌, arith}
use Rattle.std.specs.Prelude.{Option, Some, None, Ok, Err, not, filter, is_some}
use Rattle.std.specs.List.{AllByRecursion}
use Rattle.std.specs.Option.{option_map}
use Rattle.sst_entries.specs.Entry.{Entry}
use Rattle.sst_entries.specs.Key.{same_key, key_lt}
use Rattle.sst_entries.specs.Lending.{came}
use Rattle.sst_entries.specs.Stream.{CanYield, YieldsExactly, YieldsFirst, Lowers, answer_stops, but_first}
use Rattle.sst_entries.specs.Stream.{first}
use Rattle.sst_entries.specs.Stream.{nowhere, ok_results}
use Rattle.sst_entries.specs.declared.error.Error.{Error}
use Rattle.sst_entries.specs.declared.error.Error.TheVariants.{OutOfMemory}
use Rattle.sst_entries.proofs.KeyLemmas.{KeyLe, same_is, lt_other, le_other, lt_le}
use Rattle.sst_entries.proofs.Lists.{all_more}
use Rattle.sst_entries.proofs.StreamLemmas.{can_by, yields_by, yields_front}
use Rattle.lsm_sorted.specs.merge.Ends.{R}
use Rattle.lsm_sorted.specs.merge.Union.{Ascends, entries_among, newest}
use Rattle.lsm_sorted.specs.Newest.{is_of}
use Rattle.lsm_sorted.specs.lending.LentNewest.{newest_results, is_given, news, given_key, is_other}
use Rattle.lsm_sorted.specs.lending.LentNewest.{lent_newest}
use Rattle.lsm_sorted.specs.lending.LentNewest.{MayNewest, LeavesNewest, AdvancesNewest}
use Rattle.lsm_sorted.specs.lending.LentNewest.{YieldsNewestResults, YieldsNewestEntries}
use Rattle.lsm_sorted.specs.declared.lending_newest.LendingNewest.{LendingNewest}
use Rattle.lsm_sorted.proofs.NewestLemmas.{keys_up}

-- ---- sorted lists

abbrev other_key : List ℕ → R → Bool
other_key k r = not (is_of k r)

kept_results : (P : R → Type 0) (p : R → Bool) (rs : List R) → AllByRecursion P rs
    → AllByRecursion P (filter p rs)
kept_results P p [] h = tt
kept_results P p (r ∷ rs) h = elim (p r) as (λ b. AllByRecursion P
    (cond b (r ∷ filter p rs) (filter p rs))) [
      | true ↦ (h.0, kept_results P p rs h.1)
      | false ↦ kept_results P p rs h.1
    ]

newest_results_keep : (P : R → Type 0) (rs : List R) → AllByRecursion P rs
    → AllByRecursion P (newest_results rs)
newest_results_keep P [] h = tt
newest_results_keep P (Ok x ∷ rs) h = (
  h.0,
  kept_results P (other_key x.user_key) (newest_results rs) (newest_results_keep P rs h.1),
)
newest_results_keep P (Err e ∷ rs) h = (h.0, newest_results_keep P rs h.1)

filter_none : (k : List ℕ) (rs : List R) → AllByRecursion (λ r. is_of k r ≡ false) rs
    → filter (other_key k) rs ≡ rs
filter_none k [] h = refl
filter_none k (r ∷ rs) h =
    ap (λ (b : Bool). cond (not b) (r ∷ filter (other_key k) rs) (filter (other_key k) rs)) h.0
    ∙ ap (λ (qs : List R). r ∷ qs) (filter_none k rs h.1)

filter_again : (p : R → Bool) (rs : List R) → filter p (filter p rs) ≡ filter p rs
filter_again p [] = refl
filter_again p (r ∷ rs) =
    elim (p r) as (λ b. p r ≡ b → filter p (cond b (r ∷ filter p rs) (filter p rs))
    ≡ cond b (r ∷ filter p rs) (filter p rs)) [
      | true ↦ λ e. ap (λ (b : Bool). cond b (r ∷ filter p (filter p rs)) (filter p (filter p rs)))
          e ∙ ap (λ (qs : List R). r ∷ qs) (filter_again p rs)
      | false ↦ λ e. filter_again p rs
    ] refl

above_results : (k : List ℕ) (rs : List R)
    → AllByRecursion (λ y. key_lt k y.user_key ≡ true) (entries_among rs)
    → AllByRecursion (λ r. is_of k r ≡ false) rs
above_results k [] h = tt
above_results k (Ok x ∷ rs) h = (lt_other k x.user_key h.0, above_results k rs h.1)
above_results k (Err e ∷ rs) h = (refl, above_results k rs h)

-- where a key was given, its entries are skipped
news_after : (k : List ℕ) (rs : List R) → Ascends (entries_among rs)
    → AllByRecursion (λ y. KeyLe k y.user_key) (entries_among rs)
    → news (Some k) rs ≡ filter (other_key k) (newest_results rs)
news_after k [] up over = refl
news_after k (Err e ∷ rs) up over = ap (λ (qs : List R). Err e ∷ qs) (news_after k rs up over)
news_after k (Ok x ∷ rs) up over =
    elim (same_key x.user_key k) as (λ b. same_key x.user_key k ≡ b
    → cond b (news (Some k) rs) (Ok x ∷ news (Some x.user_key) rs)
    ≡ cond (not b) (Ok x ∷ filter (other_key k) (filter (other_key x.user_key) (newest_results rs)))
    (filter (other_key k) (filter (other_key x.user_key) (newest_results rs)))) [
      | true ↦ λ e.
          let same : x.user_key ≡ k = same_is x.user_key k e in
          let more : news (Some k) rs ≡ filter (other_key k) (newest_results rs) =
          news_after k rs up.1 over.1 in
          more ∙ sym (subst (λ (j : List ℕ).
          filter (other_key k) (filter (other_key j) (newest_results rs))
          ≡ filter (other_key k) (newest_results rs)) (sym same)
          (filter_again (other_key k) (newest_results rs)))
      | false ↦ λ e.
          let under : key_lt k x.user_key ≡ true = le_other k x.user_key over.0 e in
          let keys : AllByRecursion (λ y. KeyLe x.user_key y.user_key) (entries_among rs) =
          (keys_up (entries_among (Ok x ∷ rs)) up).0 in
          let above : AllByRecursion (λ r. is_of k r ≡ false) rs = above_results k rs
          (all_more (λ y. KeyLe x.user_key y.user_key) (λ y. key_lt k y.user_key ≡ true)
          (λ y h. lt_le k x.user_key y.user_key under h) (entries_among rs) keys) in
          ap (λ (qs : List R). Ok x ∷ qs) (news_after x.user_key rs up.1 keys
          ∙ sym (filter_none k (filter (other_key x.user_key) (newest_results rs))
          (kept_results (λ r. is_of k r ≡ false) (other_key x.user_key) (newest_results rs)
          (newest_results_keep (λ r. is_of k r ≡ false) rs above))))
    ] refl

news_first : (rs : List R) → Ascends (entries_among rs) → news None rs ≡ newest_results rs
news_first [] up = refl
news_first (Ok x ∷ rs) up = ap (λ (qs : List R). Ok x ∷ qs) (news_after x.user_key rs up.1
    (keys_up (entries_among (Ok x ∷ rs)) up).0)
news_first (Err e ∷ rs) up = ap (λ (qs : List R). Err e ∷ qs) (news_first rs up)

-- ---- lists without errors

filter_ok : (k : List ℕ) (xs : List Entry) → filter (other_key k) (ok_results xs)
    ≡ ok_results (filter (λ y. not (same_key y.user_key k)) xs)
filter_ok k [] = refl
filter_ok k (x ∷ xs) = elim (same_key x.user_key k) as
    (λ b. cond (not b) (Ok x ∷ filter (other_key k) (ok_results xs))
    (filter (other_key k) (ok_results xs))
    ≡ ok_results (cond (not b) (x ∷ filter (λ y. not (same_key y.user_key k)) xs)
    (filter (λ y. not (same_key y.user_key k)) xs))) [
      | true ↦ filter_ok k xs
      | false ↦ ap (λ (qs : List R). Ok x ∷ qs) (filter_ok k xs)
    ]

newest_ok : (xs : List Entry) → newest_results (ok_results xs) ≡ ok_results (newest xs)
newest_ok [] = refl
newest_ok (x ∷ xs) = ap (λ (qs : List R). Ok x ∷ qs)
    (ap (filter (other_key x.user_key)) (newest_ok xs) ∙ filter_ok x.user_key (newest xs))

entries_ok : (xs : List Entry) → entries_among (ok_results xs) ≡ xs
entries_ok [] = refl
entries_ok (x ∷ xs) = ap (λ (ys : List Entry). x ∷ ys) (entries_ok xs)

-- ---- one call of the source

pub begins : (r : R) (rs : List R) → Some r ≡ first rs → rs ≡ r ∷ but_first rs
begins r [] e = cc
begins r (q ∷ rs) e = cc

pub is_nothing : (rs : List R) → None ≡ first rs → rs ≡ []
is_nothing [] e = refl
is_nothing (r ∷ rs) e = cc

no_entry : (b : Bool) (o : Option Entry) → o ≡ None → cond b o None ≡ None
no_entry true o e = e
no_entry false o e = refl

flipped : (b : Bool) → not b ≡ true → b ≡ false
flipped true h = cc
flipped false h = refl

flipped_back : (b : Bool) → not b ≡ false → b ≡ true
flipped_back true h = refl
flipped_back false h = cc

module _ {S : Type 0} (stops : Error → Bool) (advances : S → Option R → S → Type 0) where
  abbrev pub Rest : S → List R → Type 0
  Rest = YieldsExactly (answer_stops stops) advances nowhere

  -- what is still dealt of a list, where this key was given last
  abbrev pub Still : Option (List ℕ) → S → S → Type 0
  Still k s t = (xs : List R) → Rest s xs → (ys : List R) × Rest t ys × (news k xs ≡ news k ys)

  -- an entry of the key is skipped
  pub still_skips : (k : Option (List ℕ)) (s t u : S) (o : Option Entry) → Still k s t
      → is_other k o ≡ false → advances t (option_map (λ x. Ok x) o) u → Still k s u
  still_skips k s t u None still other step xs has = cc
  still_skips k s t u (Some x) still other step xs has =
      let was = still xs has in
      let one = yields_front (answer_stops stops) advances nowhere t was.0 (Some (Ok x)) u was.1 step
      refl in (
        but_first was.0,
        one.1,
        was.2 ∙ ap (news k) (begins (Ok x) was.0 one.0)
            ∙ ap (λ (b : Bool). cond b (news k (but_first was.0))
            (Ok x ∷ news (Some x.user_key) (but_first was.0)))
            (flipped_back (is_given k x) other),
      )

  module _ {A : Type 0} (lent : S → Option Entry) (s n : LendingNewest S A) (u : S)
      (still : Still (given_key s) s.source u) (live : n.is_over ≡ false) where
    -- an entry of another key is lent
    pub gives_other : (b : Bool) → n.has_key ≡ true → b ≡ is_some (lent n.source) → b ≡ true
        → is_other (given_key s) (lent n.source) ≡ true
        → ((x : Entry) → lent n.source ≡ Some x → n.key.items ≡ x.user_key)
        → advances u (came (Ok b) (lent n.source)) n.source
        → YieldsFirst stops (LeavesNewest stops advances) s
        (option_map (λ x. Ok x) (lent_newest lent n)) n
    gives_other b key same more other is step = go (lent n.source) refl
      where
        lends : lent_newest lent n ≡ lent n.source
        lends = ap (λ (b : Bool). cond b None (cond n.has_key (lent n.source) None)) live
            ∙ ap (λ (b : Bool). cond b (lent n.source) None) key

        go : (o : Option Entry) → lent n.source ≡ o → YieldsFirst stops
            (LeavesNewest stops advances) s (option_map (λ x. Ok x) (lent_newest lent n)) n
        go None e ys leaves fine = let no : true ≡ false = sym more ∙ same ∙ ap is_some e in
            absurd cc
        go (Some x) e ys leaves fine =
            let was = still leaves.rest leaves.has in
            let call : advances u (Some (Ok x)) n.source =
            subst (λ (o : Option Entry). advances u (came (Ok b) o) n.source) e step in
            let one = yields_front (answer_stops stops) advances nowhere u was.0 (Some (Ok x))
            n.source was.1 call refl in
            let fresh : is_given (given_key s) x ≡ false = flipped (is_given (given_key s) x)
            (subst (λ (o : Option Entry). is_other (given_key s) o ≡ true) e other) in
            let list : ys ≡ Ok x ∷ news (Some x.user_key) (but_first was.0) = leaves.is ∙ was.2
            ∙ ap (news (given_key s)) (begins (Ok x) was.0 one.0)
            ∙ ap (λ (b : Bool). cond b (news (given_key s) (but_first was.0))
            (Ok x ∷ news (Some x.user_key) (but_first was.0))) fresh in (
              ap (option_map (λ y. Ok y)) (lends ∙ e) ∙ sym (ap first list),
              record {
                memory = leaves.memory;
                live = live;
                rest = but_first was.0;
                has = one.1;
                is = ap but_first list
                    ∙ ap (λ (k : Option (List ℕ)). news k (but_first was.0))
                    (ap (λ (k : List ℕ). Some k) (sym (is x e))
                    ∙ sym (ap (λ (b : Bool). cond b (Some n.key.items) None) key));
              },
            )

    -- the same, where what it lends was kept
    pub gives_kept : (t : S) → n.source ≡ t → (b : Bool) → n.has_key ≡ true
        → b ≡ is_some (lent t) → b ≡ true → is_other (given_key s) (lent t) ≡ true
        → ((x : Entry) → lent t ≡ Some x → n.key.items ≡ x.user_key)
        → advances u (came (Ok b) (lent t)) t
        → YieldsFirst stops (LeavesNewest stops advances) s
        (option_map (λ x. Ok x) (lent_newest lent n)) n
    gives_kept t from b key same more other is step = gives_other b key
        (subst (λ (v : S). b ≡ is_some (lent v)) (sym from) same) more
        (subst (λ (v : S). is_other (given_key s) (lent v) ≡ true) (sym from) other)
        (subst (λ (v : S). (x : Entry) → lent v ≡ Some x → n.key.items ≡ x.user_key) (sym from) is)
        (subst (λ (v : S). advances u (came (Ok b) (lent v)) v) (sym from) step)

    module _ (kept : given_key n ≡ given_key s) where
      -- the source has ended
      pub gives_end : (b : Bool) → b ≡ is_some (lent n.source) → b ≡ false
          → advances u (came (Ok b) (lent n.source)) n.source
          → YieldsFirst stops (LeavesNewest stops advances) s
          (option_map (λ x. Ok x) (lent_newest lent n)) n
      gives_end b same none step = go (lent n.source) refl
        where
          lends_none : lent n.source ≡ None → lent_newest lent n ≡ None
          lends_none e = ap (λ (b : Bool). cond b None (cond n.has_key (lent n.source) None)) live
              ∙ no_entry n.has_key (lent n.source) e

          go : (o : Option Entry) → lent n.source ≡ o → YieldsFirst stops
              (LeavesNewest stops advances) s (option_map (λ x. Ok x) (lent_newest lent n)) n
          go (Some x) e ys leaves fine =
              let no : false ≡ true = sym none ∙ same ∙ ap is_some e in absurd cc
          go None e ys leaves fine =
              let was = still leaves.rest leaves.has in
              let call : advances u None n.source =
              subst (λ (o : Option Entry). advances u (came (Ok b) o) n.source) e step in
              let one = yields_front (answer_stops stops) advances nowhere u was.0 None n.source
              was.1 call refl in
              let empty : was.0 ≡ [] = is_nothing was.0 one.0 in
              let list : ys ≡ [] = leaves.is ∙ was.2 ∙ ap (news (given_key s)) empty in (
                ap (option_map (λ y. Ok y)) (lends_none e) ∙ sym (ap first list),
                record {
                  memory = leaves.memory;
                  live = live;
                  rest = but_first was.0;
                  has = one.1;
                  is = ap but_first list
                      ∙ sym (ap (λ (qs : List R). news (given_key n) (but_first qs)) empty);
                },
              )

      -- an error of the source
      pub gives_fault : (e : Error) → advances u (Some (Err e)) n.source
          → YieldsFirst stops (LeavesNewest stops advances) s (Some (Err e)) n
      gives_fault e step ys leaves fine =
          let was = still leaves.rest leaves.has in
          let one = yields_front (answer_stops stops) advances nowhere u was.0 (Some (Err e))
          n.source was.1 step fine in
          let list : ys ≡ Err e ∷ news (given_key s) (but_first was.0) = leaves.is ∙ was.2
          ∙ ap (news (given_key s)) (begins (Err e) was.0 one.0) in (
            sym (ap first list),
            record {
              memory = leaves.memory;
              live = live;
              rest = but_first was.0;
              has = one.1;
              is = ap but_first list
                  ∙ sym (ap (λ (k : Option (List ℕ)). news k (but_first was.0)) kept);
            },
          )

  -- want of memory
  pub gives_memory : {A : Type 0} (s n : LendingNewest S A) (e : Error) → e ≡ OutOfMemory
      → YieldsFirst stops (LeavesNewest stops advances) s (Some (Err e)) n
  gives_memory s n e is ys leaves fine =
      let no : true ≡ false = sym leaves.memory ∙ sym (ap stops is) ∙ fine in absurd cc

-- the same key was given last
pub last_same : {S A : Type 0} (n s : LendingNewest S A) → n.key ≡ s.key → n.has_key ≡ s.has_key
    → given_key n ≡ given_key s
last_same n s key has = ap (λ v. cond n.has_key (Some v.items) None) key
    ∙ ap (λ (b : Bool). cond b (Some s.key.items) None) has

-- no more may come than before
pub lowers_le : (o : Option Entry) (a b : ℕ) → Lowers (option_map {U = R} (λ x. Ok x) o) a b → b ≤ a
lowers_le None a b e = omega (arith, e)
lowers_le (Some x) a b lt = omega (arith, lt)

-- ---- whole runs

module _ {S A : Type 0} (advances : S → Option R → S → Type 0) (can : S → Type 0)
    (s : LendingNewest S A) (fresh : s.has_key ≡ false) (live : s.is_over ≡ false) where
  abbrev Adv : LendingNewest S A → Option R → LendingNewest S A → Type 0
  Adv = AdvancesNewest advances can

  pub yields_newest_results : YieldsNewestResults advances s.source Adv s
  yields_newest_results = record {
    yields = λ stops xs memory up has. yields_by (answer_stops stops) Adv nowhere
        (LeavesNewest stops advances) (λ t ys r u leaves step fine. step.gives stops ys leaves fine)
        (λ t ys r u leaves step fine. absurd step) s (newest_results xs) (record {
          memory = memory;
          live = live;
          rest = xs;
          has = has;
          is = sym (news_first xs up) ∙ sym (ap (λ (k : Option (List ℕ)). news k xs)
              (ap (λ (b : Bool). cond b (Some s.key.items) None) fresh));
        });
  }

  pub yields_newest_entries : YieldsNewestEntries advances s.source Adv s
  yields_newest_entries = record {
    yields = λ stops xs memory up has.
        let sorted : Ascends (entries_among (ok_results xs)) =
        subst Ascends (sym (entries_ok xs)) up in
        subst (YieldsExactly (answer_stops stops) Adv nowhere s) (newest_ok xs)
        (yields_newest_results.yields stops (ok_results xs) memory sorted has);
  }

pub can_newest : {S A : Type 0} (advances : S → Option R → S → Type 0) (can : S → Type 0)
    (s : LendingNewest S A) → CanYield advances nowhere can can s.source
    → CanYield (AdvancesNewest advances can) nowhere (MayNewest advances can)
    (MayNewest advances can) s
can_newest advances can s may = can_by (AdvancesNewest advances can) nowhere
    (MayNewest advances can) (MayNewest advances can) (MayNewest advances can) (λ s m. (m, m))
    (λ s r t m step. step.may) (λ s r t m step. absurd step) s may
