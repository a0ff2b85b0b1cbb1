-- The newest versions that are lent: what the source answers in a call.
use Rattle.std.proofs.Common.{◌≡◌, inl, inr, refl, sym, ◌∙◌, ap, subst, Bool, true, false, cond}
use Rattle.std.proofs.Common.{List, [], ◌∷◌, ◌++◌}
use Rattle.std.specs.Prelude.{Option, Some, None, Ok, Err, is_some}
use Rattle.std.specs.Option.{option_map}
use Rattle.sst_entries.specs.Entry.{Entry}
use Rattle.sst_entries.specs.declared.error.Error.{Error}
use Rattle.sst_entries.specs.declared.error.Error.TheVariants.{OutOfMemory}
use Rattle.lsm_sorted.specs.merge.Ends.{R}
use Rattle.lsm_sorted.specs.Hears.{GaveEach}
use Rattle.lsm_sorted.specs.lending.LentFaults.{Listens, NoFaults}
use Rattle.lsm_sorted.specs.lending.LentNewest.{lent_newest, newest_lender}
use Rattle.lsm_sorted.specs.declared.lending_newest.LendingNewest.{LendingNewest}
use Rattle.lsm_sorted.proofs.HearsLemmas.{each_append}
use Rattle.lsm_sorted.proofs.LentFaultsLemmas.{fault_comes, last_came, no_faults_append}

-- the source was asked for entries that are skipped
abbrev pub Skipped : {S : Type 0} → (S → Option R → S → Type 0) → S → S → Type 0
Skipped advances s t =
    (answers : List (Option R)) × NoFaults answers × GaveEach advances s answers t

either_none : (b : Bool) → cond {A = Option Entry} b None None ≡ None
either_none true = refl
either_none false = refl

module _ {S : Type 0} (advances : S → Option R → S → Type 0) where
  pub skips_none : (s : S) → Skipped advances s s
  skips_none s = ([], tt, refl)

  pub skips_more : (s u t : S) (o : Option Entry) → Skipped advances s u
      → advances u (option_map (λ x. Ok x) o) t → Skipped advances s t
  skips_more s u t None skipped step = (
    skipped.0 ++ None ∷ [],
    no_faults_append skipped.0 (None ∷ []) skipped.1 (refl, tt),
    each_append advances skipped.0 (None ∷ []) s u t skipped.2 (t, step, refl),
  )
  skips_more s u t (Some x) skipped step = (
    skipped.0 ++ Some (Ok x) ∷ [],
    no_faults_append skipped.0 (Some (Ok x) ∷ []) skipped.1 (refl, tt),
    each_append advances skipped.0 (Some (Ok x) ∷ []) s u t skipped.2 (t, step, refl),
  )

  module _ {A : Type 0} (s n : LendingNewest S A) (u : S)
      (skipped : Skipped advances s.source u) where
    abbrev Hears : Option R → Type 0
    Hears r = Listens advances newest_lender (λ m. m.is_over) (λ m. true) s r n

    gave : (r : Option R) → advances u r n.source
        → GaveEach advances s.source (skipped.0 ++ r ∷ []) n.source
    gave r step = each_append advances skipped.0 (r ∷ []) s.source u n.source skipped.2
        (n.source, step, refl)

    -- an error of the source
    pub hears_fault : (e : Error) → n.is_over ≡ false → advances u (Some (Err e)) n.source
        → Hears (Some (Err e))
    hears_fault e live step = record {
      answers = skipped.0 ++ Some (Err e) ∷ [];
      gave = gave (Some (Err e)) step;
      returned = inl ((skipped.0, skipped.1, refl), live);
      idle = λ q none. absurd (fault_comes e (skipped.0 ++ Some (Err e) ∷ [])
          (skipped.0, skipped.1, refl) none);
      rests = λ none. refl;
    }

    hears_none : n.is_over ≡ false → advances u None n.source → Hears None
    hears_none live step = record {
      answers = skipped.0 ++ None ∷ [];
      gave = gave None step;
      returned = inl ((skipped.0, skipped.1, refl), live);
      idle = λ q none. refl;
      rests = λ none. refl;
    }

    hears_entry : (x : Entry) → n.is_over ≡ false → advances u (Some (Ok x)) n.source
        → Hears (Some (Ok x))
    hears_entry x live step = record {
      answers = skipped.0 ++ Some (Ok x) ∷ [];
      gave = gave (Some (Ok x)) step;
      returned = inl (no_faults_append skipped.0 (Some (Ok x) ∷ []) skipped.1 (refl, tt), live);
      idle = λ q none. last_came (Some (Ok x)) skipped.0 none;
      rests = λ none. refl;
    }

    memory_for : (x : Entry) (e : Error) → e ≡ OutOfMemory → n.is_over ≡ true
        → advances u (Some (Ok x)) n.source → Hears (Some (Err e))
    memory_for x e is over step = record {
      answers = skipped.0 ++ Some (Ok x) ∷ [];
      gave = gave (Some (Ok x)) step;
      returned = inr (
        (
          ap (λ (f : Error). Some (Err f)) is,
          no_faults_append skipped.0 (Some (Ok x) ∷ []) skipped.1 (refl, tt),
        ),
        over,
      );
      idle = λ q none. let no : Some (Ok x) ≡ None = last_came (Some (Ok x)) skipped.0 none in
          absurd cc;
      rests = λ none. refl;
    }

    module _ (t : S) (from : n.source ≡ t) where
      -- an entry of another key, whose key is kept
      pub hears_lent : (lent : S → Option Entry) (b : Bool) (o : Option Entry) → o ≡ lent t
          → b ≡ is_some (lent t) → b ≡ true → n.is_over ≡ false → n.has_key ≡ true
          → advances u (option_map (λ x. Ok x) o) t
          → Hears (option_map (λ x. Ok x) (lent_newest lent n))
      hears_lent lent b None of_t more some live key step =
          let no : true ≡ false = sym some ∙ more ∙ ap is_some (sym of_t) in absurd cc
      hears_lent lent b (Some x) of_t more some live key step =
          let lends : lent_newest lent n ≡ Some x =
          ap (λ (c : Bool). cond c None (cond n.has_key (lent n.source) None)) live
          ∙ ap (λ (c : Bool). cond c (lent n.source) None) key ∙ ap lent from ∙ sym of_t in
          subst (λ (o : Option Entry). Hears (option_map (λ y. Ok y) o)) (sym lends)
          (hears_entry x live (subst (advances u (Some (Ok x))) (sym from) step))

      -- memory for the key is refused
      pub hears_memory : (b : Bool) (o : Option Entry) (e : Error) → b ≡ is_some o → b ≡ true
          → e ≡ OutOfMemory → n.is_over ≡ true → advances u (option_map (λ x. Ok x) o) t
          → Hears (Some (Err e))
      hears_memory b None e more some is over step =
          let no : true ≡ false = sym some ∙ more in absurd cc
      hears_memory b (Some x) e more some is over step = memory_for x e is over
          (subst (advances u (Some (Ok x))) (sym from) step)

    -- the source has ended
    pub hears_end : (lent : S → Option Entry) (b : Bool) (o : Option Entry) → o ≡ lent n.source
        → b ≡ is_some o → b ≡ false → n.is_over ≡ false
        → advances u (option_map (λ x. Ok x) o) n.source
        → Hears (option_map (λ x. Ok x) (lent_newest lent n))
    hears_end lent b (Some x) of_n more none live step =
        let no : false ≡ true = sym none ∙ more in absurd cc
    hears_end lent b None of_n more none live step =
        let lends : lent_newest lent n ≡ None =
        ap (λ (c : Bool). cond c None (cond n.has_key (lent n.source) None)) live
        ∙ ap (λ (o : Option Entry). cond n.has_key o None) (sym of_n)
        ∙ either_none n.has_key in
        subst (λ (o : Option Entry). Hears (option_map (λ y. Ok y) o)) (sym lends)
        (hears_none live step)
