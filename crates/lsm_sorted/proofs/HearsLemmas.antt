-- Calls by what the source gave in them, one after another.
use Rattle.std.proofs.Common.{◌≡◌, refl, sym, ◌∙◌, ap, subst, Bool, true, false, List, [], ◌∷◌}
use Rattle.std.proofs.Common.{◌++◌, reverse, append_assoc}
use Rattle.std.specs.Prelude.{Option, Some, None}
use Rattle.std.proofs.lemmas.List.{append-nil, reverse-append}
use Rattle.sst_entries.specs.declared.error.Error.{Error}
use Rattle.sst_entries.specs.declared.stream.Direction.{Direction}
use Rattle.sst_entries.specs.declared.stream.Direction.TheVariants.{Front, Back}
use Rattle.sst_entries.specs.Stream.{NoneStops, answer_stops}
use Rattle.lsm_sorted.specs.declared.heap.ends.Ends.{Ends}
use Rattle.lsm_sorted.specs.merge.Ends.{R, AskedIf, Asked}
use Rattle.lsm_sorted.specs.Outlook.{Outlook, list_of, MayGive, results_in, with_rest, is_over}
use Rattle.lsm_sorted.specs.Outlook.{StopsAtNone}
use Rattle.lsm_sorted.specs.Hears.{GaveEach, Gave, Hears}

results_append : (ps qs : List (Option R)) → results_in (ps ++ qs) ≡ results_in ps ++ results_in qs
results_append [] qs = refl
results_append (None ∷ ps) qs = results_append ps qs
results_append (Some x ∷ ps) qs = ap (λ (ys : List R). x ∷ ys) (results_append ps qs)

over_append : (done : Bool) (ps qs : List (Option R))
    → is_over done (ps ++ qs) ≡ is_over (is_over done ps) qs
over_append done [] qs = refl
over_append done (None ∷ ps) qs = over_append true ps qs
over_append done (Some x ∷ ps) qs = over_append done ps qs

pub stops_append : (done : Bool) (ps qs : List (Option R)) → StopsAtNone done ps
    → StopsAtNone (is_over done ps) qs → StopsAtNone done (ps ++ qs)
stops_append true [] qs h k = k
stops_append true (r ∷ ps) qs h k = absurd cc
stops_append false [] qs h k = k
stops_append false (None ∷ ps) qs h k = stops_append true ps qs h k
stops_append false (Some x ∷ ps) qs h k = stops_append false ps qs h k

pub none_stop_append : (stops : Option R → Bool) (ps qs : List (Option R)) → NoneStops stops ps
    → NoneStops stops qs → NoneStops stops (ps ++ qs)
none_stop_append stops [] qs h k = k
none_stop_append stops (p ∷ ps) qs h k = (h.0, none_stop_append stops ps qs h.1 k)

pub rest_append : (end : Direction) (xs ys rest : List R)
    → with_rest end (xs ++ ys) rest ≡ with_rest end xs (with_rest end ys rest)
rest_append Front xs ys rest = append_assoc xs ys rest
rest_append Back xs ys rest = ap (λ (zs : List R). rest ++ zs) (reverse-append xs ys)
    ∙ sym (append_assoc rest (reverse ys) (reverse xs))

rest_none : (end : Direction) → with_rest end [] [] ≡ []
rest_none Front = refl
rest_none Back = refl

rest_only : (end : Direction) (rest : List R) → with_rest end [] rest ≡ rest
rest_only Front rest = refl
rest_only Back rest = append-nil rest

-- what may still come after more answers, might come before them
may_give : (end : Direction) (done : Bool) (qs : List (Option R)) (rest : List R)
    → StopsAtNone done qs → MayGive (is_over done qs) rest
    → MayGive done (with_rest end (results_in qs) rest)
may_give end false qs rest h k = tt
may_give end true [] rest h k = ap (with_rest end []) k ∙ rest_none end
may_give end true (r ∷ qs) rest h k = absurd cc

-- an answer that no error stops
abbrev pub Fine : Option R → Type 0
Fine r = (stops : Error → Bool) → answer_stops stops r ≡ false

module _ {S : Type 0} (ask : S → Option R → S → Type 0) where
  pub each_append : (ps qs : List (Option R)) (s u v : S) → GaveEach ask s ps u → GaveEach ask u
      qs v → GaveEach ask s (ps ++ qs) v
  each_append [] qs s u v h k = subst (λ (w : S). GaveEach ask w qs v) (sym h) k
  each_append (r ∷ ps) qs s u v h k = (h.0, h.1, each_append ps qs h.0 u v h.2 k)

  gave_append : (s u v : Ends S) (ps qs : List (Option R)) → Gave ask s ps u → Gave ask u qs v
      → Gave ask s (ps ++ qs) v
  gave_append s u v ps qs h k = record {
    each = each_append ps qs s.iter u.iter v.iter h.each k.each;
    over = k.over ∙ ap (λ (b : Bool). is_over b qs) h.over ∙ sym (over_append s.done ps qs);
    once = stops_append s.done ps qs h.once (subst (λ (b : Bool). StopsAtNone b qs) h.over k.once);
  }

  module _ (end : Direction) where
    -- one stretch of calls, and then another
    pub hears_more : (r q : Option R) (P Q K : List R → List R → Type 0) (s u v : Outlook S)
        → Fine r → Hears ask end r P s u → Hears ask end q Q u v
        → ((xs ys zs : List R) → P xs ys → Q ys zs → K xs zs) → Hears ask end q K s v
    hears_more r q P Q K s u v easy h k both = record {
      answers = h.answers ++ k.answers;
      gave = gave_append s.source u.source v.source h.answers k.answers h.gave k.gave;
      returned = λ stops fine. none_stop_append (answer_stops stops) h.answers k.answers
          (h.returned stops (easy stops)) (k.returned stops fine);
      holds = λ rest may.
          let middle = with_rest end (results_in k.answers) rest in
          let before : MayGive u.source.done middle =
          may_give end u.source.done k.answers rest k.gave.once
          (subst (λ (b : Bool). MayGive b rest) k.gave.over may) in
          let whole : with_rest end (results_in (h.answers ++ k.answers)) rest
          ≡ with_rest end (results_in h.answers) middle =
          ap (λ (xs : List R). with_rest end xs rest) (results_append h.answers k.answers)
          ∙ rest_append end (results_in h.answers) (results_in k.answers) rest in
          subst (λ (xs : List R). K (list_of s xs) (list_of v rest)) (sym whole)
          (both _ _ _ (h.holds middle before) (k.holds rest may));
    }

    -- what is heard in this way is heard in that
    pub hears_as : (r q : Option R) (P K : List R → List R → Type 0) (s t : Outlook S)
        → ((stops : Error → Bool) → answer_stops stops q ≡ false → answer_stops stops r ≡ false)
        → Hears ask end r P s t → ((xs ys : List R) → P xs ys → K xs ys) → Hears ask end q K s t
    hears_as r q P K s t easy h weaker = record {
      answers = h.answers;
      gave = h.gave;
      returned =
          λ stops fine. h.returned stops (easy stops fine);
      holds =
          λ rest may. weaker _ _ (h.holds rest may);
    }

    -- both, where the first stretch met no error
    pub hears_then : (r q w : Option R) (P Q K : List R → List R → Type 0) (s u v : Outlook S)
        → Fine r → ((stops : Error → Bool) → answer_stops stops w ≡ false
        → answer_stops stops q ≡ false) → Hears ask end r P s u → Hears ask end q Q u v
        → ((xs ys zs : List R) → P xs ys → Q ys zs → K xs zs) → Hears ask end w K s v
    hears_then r q w P Q K s u v easy same h k both =
        hears_as q w K K s v same (hears_more r q P Q K s u v easy h k both) (λ xs ys h. h)

    -- no call of the source
    pub hears_still : (r : Option R) (P : List R → List R → Type 0) (s t : Outlook S)
        → t.source ≡ s.source → ((rest : List R) → MayGive s.source.done rest
        → P (list_of s rest) (list_of t rest)) → Hears ask end r P s t
    hears_still r P s t same h = record {
      answers = [];
      gave = record {
        each = ap (λ (e : Ends S). e.iter) (sym same);
        over =
            ap (λ (e : Ends S). e.done) same;
        once = elim s.source.done as
            (λ b. StopsAtNone b []) [ true ↦ refl | false ↦ tt ];
      };
      returned = λ stops fine. tt;
      holds = λ rest may. subst (λ (xs : List R). P (list_of s xs) (list_of t rest))
          (sym (rest_only end rest)) (h rest (subst
          (λ (e : Ends S). MayGive e.done rest) same may));
    }

    -- the source gave a result
    pub hears_result : (P : List R → List R → Type 0) (s t : Outlook S) (x : R)
        → Asked ask s.source (Some x) t.source → ((rest : List R)
        → P (list_of s (with_rest end (x ∷ []) rest)) (list_of t rest))
        → Hears ask end (Some x) P s t
    hears_result P s t x a h = by_done s.source.done refl a.call
      where
        by_done : (b : Bool) → s.source.done ≡ b → AskedIf ask b s.source (Some x) t.source
            → Hears ask end (Some x) P s t
        by_done true e c = absurd cc
        by_done false e c = record {
          answers = Some x ∷ [];
          gave = record {
            each = (t.source.iter, c.0, refl);
            over = c.1 ∙ sym e;
            once =
                subst (λ (b : Bool). StopsAtNone b (Some x ∷ [])) (sym e) tt;
          };
          returned = λ stops fine. (fine, tt);
          holds = λ rest may. h rest;
        }

    -- the source has ended
    pub hears_end : (r : Option R) (P : List R → List R → Type 0) (s t : Outlook S)
        → Asked ask s.source None t.source → P (list_of s []) (list_of t []) → Hears ask end r P s t
    hears_end r P s t a h = by_done s.source.done refl a.call
      where
        at_end : (rest : List R) → rest ≡ [] → P (list_of s (with_rest end [] rest))
            (list_of t rest)
        at_end rest none = subst (λ (xs : List R). P (list_of s (with_rest end [] xs))
            (list_of t xs)) (sym none) (subst (λ (xs : List R). P (list_of s xs) (list_of t []))
            (sym (rest_none end)) h)

        by_done : (b : Bool) → s.source.done ≡ b → AskedIf ask b s.source None t.source
            → Hears ask end r P s t
        by_done true e c = record {
          answers = [];
          gave = record {
            each = ap (λ (u : Ends S). u.iter) (sym c.1);
            over =
                ap (λ (u : Ends S). u.done) c.1;
            once =
                subst (λ (b : Bool). StopsAtNone b []) (sym e) refl;
          };
          returned = λ stops fine. tt;
          holds = λ rest may. at_end rest (subst (λ (b : Bool). MayGive b rest)
              (ap (λ (u : Ends S). u.done) c.1 ∙ e) may);
        }
        by_done false e c = record {
          answers = None ∷ [];
          gave = record {
            each = (t.source.iter, c.0, refl);
            over = c.1;
            once =
                subst (λ (b : Bool). StopsAtNone b (None ∷ [])) (sym e) refl;
          };
          returned = λ stops fine. (refl, tt);
          holds = λ rest may. at_end rest (subst (λ (b : Bool). MayGive b rest) c.1 may);
        }
