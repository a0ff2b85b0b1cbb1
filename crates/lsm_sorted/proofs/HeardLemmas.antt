-- Runs of calls by what their source gave in them.
use Rattle.std.proofs.Common.{◌≡◌, refl, sym, ◌∙◌, ap, subst, Bool, true, false, List, [], ◌∷◌}
use Rattle.std.proofs.Common.{◌++◌, reverse}
use Rattle.std.specs.Prelude.{Option, Some, None}
use Rattle.std.specs.Iterator.{Count}
use Rattle.std.proofs.lemmas.List.{append-nil, reverse-append, reverse-reverse}
use Rattle.sst_entries.specs.declared.error.Error.{Error}
use Rattle.sst_entries.specs.declared.stream.Direction.{Direction}
use Rattle.sst_entries.specs.declared.stream.Direction.TheVariants.{Front, Back}
use Rattle.sst_entries.specs.Stream.{Runs, Steps, NoneStops, YieldsExactly, CanYield, answer_stops, yield_each}
use Rattle.sst_entries.specs.Stream.{first, but_first, last, but_last, nowhere}
use Rattle.sst_entries.proofs.StreamLemmas.{head_eq, tail_eq}
use Rattle.lsm_sorted.specs.declared.heap.ends.Ends.{Ends}
use Rattle.lsm_sorted.specs.merge.Ends.{R, Goes, GoesIf}
use Rattle.lsm_sorted.proofs.EndsLemmas.{none_first, goes_ready}
use Rattle.lsm_sorted.specs.Outlook.{Outlook, list_of, MayGive, results_in, with_rest, is_over}
use Rattle.lsm_sorted.specs.Outlook.{StopsAtNone, before_any}
use Rattle.lsm_sorted.specs.Hears.{GaveEach, Gave, Hears, Heard}
use Rattle.lsm_sorted.proofs.HearsLemmas.{stops_append, none_stop_append, rest_append}
use Rattle.lsm_sorted.proofs.MvccLemmas.{before_first, before_last}

-- one end, once for each answer
abbrev pub each_at : Direction → List (Option R) → List Direction
each_at end [] = []
each_at end (r ∷ rs) = end ∷ each_at end rs

module _ {S : Type 0} (front back : S → Option R → S → Type 0) where
  gave_in_front : (rs : List (Option R)) (s t : S) → GaveEach front s rs t
      → Runs front back s (each_at Front rs) rs t
  gave_in_front [] s t h = h
  gave_in_front (r ∷ rs) s t h = (h.0, h.1, gave_in_front rs h.0 t h.2)

  gave_behind : (rs : List (Option R)) (s t : S) → GaveEach back s rs t
      → Runs front back s (each_at Back rs) rs t
  gave_behind [] s t h = h
  gave_behind (r ∷ rs) s t h = (h.0, h.1, gave_behind rs h.0 t h.2)

  -- calls at one end are a run
  pub gave_runs : (end : Direction) (rs : List (Option R)) (s t : S)
      → GaveEach (Steps front back end) s rs t → Runs front back s (each_at end rs) rs t
  gave_runs Front rs s t h = gave_in_front rs s t h
  gave_runs Back rs s t h = gave_behind rs s t h

  pub runs_append : (ds es : List Direction) (rs qs : List (Option R)) (s t u : S)
      → Runs front back s ds rs t → Runs front back t es qs u
      → Runs front back s (ds ++ es) (rs ++ qs) u
  runs_append [] es [] qs s t u h k = subst (λ (v : S). Runs front back v es qs u) (sym h) k
  runs_append [] es (r ∷ rs) qs s t u h k = absurd h
  runs_append (d ∷ ds) es [] qs s t u h k = absurd h
  runs_append (d ∷ ds) es (r ∷ rs) qs s t u h k = (h.0, h.1, runs_append ds es rs qs h.0 t u h.2 k)

-- a list deals some answers at one end, and then others
pub record Parts (end : Direction) (rs : List (Option R)) (es : List Direction)
    (qs : List (Option R)) (ys : List R) : Type 0 where
  pub left : List R
  pub whole : ys ≡ with_rest end (results_in rs) left
  pub more : qs ≡ yield_each left es
  pub over : (done : Bool) → StopsAtNone done rs → MayGive done ys → MayGive (is_over done rs) left

module _ (es : List Direction) (qs : List (Option R)) where
  nothing_first : (ys : List R) → None ≡ first ys → but_first ys ≡ []
  nothing_first ys e = ap but_first (none_first ys e)

  nothing_last : (ys : List R) → None ≡ last ys → (ys ≡ []) × (but_last ys ≡ [])
  nothing_last ys e = let none = none_first (reverse ys) e in (
    sym (reverse-reverse ys) ∙ ap reverse none,
    ap
        (λ (zs : List R). reverse (but_first zs)) none,
  )

  none_over : (rs : List (Option R)) (zs left : List R) → zs ≡ []
      → ((done : Bool) → StopsAtNone done rs → MayGive done zs → MayGive (is_over done rs) left)
      → (done : Bool) (ys : List R) → StopsAtNone done (None ∷ rs) → MayGive done ys
      → MayGive (is_over done (None ∷ rs)) left
  none_over rs zs left none over true ys once may = absurd cc
  none_over rs zs left none over false ys once may = over true once none

  some_over : (x : R) (rs : List (Option R)) (zs left : List R)
      → ((done : Bool) → StopsAtNone done rs → MayGive done zs → MayGive (is_over done rs) left)
      → (done : Bool) (ys : List R) → StopsAtNone done (Some x ∷ rs) → MayGive done ys
      → MayGive (is_over done (Some x ∷ rs)) left
  some_over x rs zs left over true ys once may = absurd cc
  some_over x rs zs left over false ys once may = over false once tt

  parts_front : (rs : List (Option R)) (ys : List R) → rs ++ qs ≡ yield_each ys (each_at Front rs ++ es)
      → Parts Front rs es qs ys
  parts_front [] ys e = record { left = ys; whole = refl; more = e; over = λ done once may. may }
  parts_front (None ∷ rs) ys e =
      let h : None ≡ first ys = head_eq e in
      let p = parts_front rs (but_first ys) (tail_eq e) in
      record {
        left = p.left;
        whole = none_first ys h ∙ sym (nothing_first ys h) ∙ p.whole;
        more = p.more;
        over = λ done once may. none_over rs (but_first ys) p.left
            (nothing_first ys h) p.over done ys once may;
      }
  parts_front (Some x ∷ rs) ys e =
      let h : Some x ≡ first ys = head_eq e in
      let p = parts_front rs (but_first ys) (tail_eq e) in
      record {
        left = p.left;
        whole = before_first x ys (but_first ys) (h, refl) ∙ ap (λ (zs : List R). x ∷ zs) p.whole;
        more = p.more;
        over = λ done once may. some_over x rs (but_first ys) p.left p.over done ys once may;
      }

  parts_back : (rs : List (Option R)) (ys : List R) → rs ++ qs ≡ yield_each ys (each_at Back rs ++ es)
      → Parts Back rs es qs ys
  parts_back [] ys e = record {
    left = ys;
    whole = sym (append-nil ys);
    more = e;
    over =
        λ done once may. may;
  }
  parts_back (None ∷ rs) ys e =
      let h : None ≡ last ys = head_eq e in
      let none = nothing_last ys h in
      let p = parts_back rs (but_last ys) (tail_eq e) in
      record {
        left = p.left;
        whole = none.0 ∙ sym none.1 ∙ p.whole;
        more = p.more;
        over = λ done once may. none_over rs (but_last ys) p.left none.1 p.over done ys once may;
      }
  parts_back (Some x ∷ rs) ys e =
      let h : Some x ≡ last ys = head_eq e in
      let p = parts_back rs (but_last ys) (tail_eq e) in
      let one : ys ≡ with_rest Back (x ∷ []) (but_last ys) =
      sym (reverse-reverse ys) ∙ ap reverse (before_last x ys (but_last ys) (h, refl))
      ∙ reverse-append (x ∷ []) (reverse (but_last ys))
      ∙ ap (λ (zs : List R). zs ++ x ∷ []) (reverse-reverse (but_last ys)) in
      record {
        left = p.left;
        whole = one ∙ ap (with_rest Back (x ∷ [])) p.whole
            ∙ sym (rest_append Back (x ∷ []) (results_in rs) p.left);
        more = p.more;
        over = λ done once may. some_over x rs (but_last ys) p.left p.over done ys once may;
      }

  pub parts_at : (end : Direction) (rs : List (Option R)) (ys : List R)
      → rs ++ qs ≡ yield_each ys (each_at end rs ++ es) → Parts end rs es qs ys
  parts_at Front rs ys e = parts_front rs ys e
  parts_at Back rs ys e = parts_back rs ys e

-- ---- a run of calls

module _ {S : Type 0} (front back : S → Option R → S → Type 0) where
  -- from an outlook on, calls that gave these answers asked the source, told its errors, and P
  -- holds of what was to come
  pub record HeardFrom (o : Outlook S) (rs : List (Option R)) (P : List R → Type 0) : Type 0 where
    pub ends : List Direction
    pub answers : List (Option R)
    pub led : S
    pub runs : Runs front back o.source.iter ends answers led
    pub once : StopsAtNone o.source.done answers
    pub returned : (stops : Error → Bool) → NoneStops (answer_stops stops) rs
        → NoneStops (answer_stops stops) answers
    pub holds : (ys : List R) → MayGive o.source.done ys → answers ≡ yield_each ys ends → P (list_of o ys)

  pub heard_none : (o : Outlook S) (P : List R → Type 0) → ((xs : List R) → P xs) → HeardFrom o [] P
  heard_none o P all = record {
    ends = [];
    answers = [];
    led = o.source.iter;
    runs = refl;
    once = elim o.source.done as (λ b. StopsAtNone b []) [ true ↦ refl | false ↦ tt ];
    returned = λ stops fine. tt;
    holds = λ ys may e. all (list_of o ys);
  }

  -- a call, and the calls after it
  pub heard_call : (end : Direction) (o u : Outlook S) (r : Option R) (rs : List (Option R))
      (Q : List R → List R → Type 0) (P K : List R → Type 0)
      → Hears (Steps front back end) end r Q o u → HeardFrom u rs P
      → ((xs ys : List R) → Q xs ys → P ys → K xs) → HeardFrom o (r ∷ rs) K
  heard_call end o u r rs Q P K h k both = record {
    ends = each_at end h.answers ++ k.ends;
    answers = h.answers ++ k.answers;
    led = k.led;
    runs = runs_append front back (each_at end h.answers) k.ends h.answers k.answers o.source.iter
        u.source.iter k.led (gave_runs front back end h.answers o.source.iter u.source.iter
        h.gave.each) k.runs;
    once = stops_append o.source.done h.answers k.answers h.gave.once
        (subst (λ (b : Bool). StopsAtNone b k.answers) h.gave.over k.once);
    returned = λ stops fine. none_stop_append (answer_stops stops) h.answers k.answers
        (h.returned stops fine.0) (k.returned stops fine.1);
    holds = λ ys may e.
        let p = parts_at k.ends k.answers end h.answers ys e in
        let still : MayGive u.source.done p.left =
        subst (λ (b : Bool). MayGive b p.left) (sym h.gave.over)
        (p.over o.source.done h.gave.once may) in
        subst (λ (xs : List R). K (list_of o xs)) (sym p.whole)
        (both _ _ (h.holds p.left still) (k.holds p.left still p.more));
  }

  -- from the start on
  module _ (source : S) (o : Outlook S) (starts : o ≡ before_any source) (rs : List (Option R))
      (P : List R → Type 0) where
    from_start : HeardFrom o rs P → HeardFrom (before_any source) rs P
    from_start h = subst (λ (v : Outlook S). HeardFrom v rs P) starts h

    pub heard_all : HeardFrom o rs P → Heard front back source P
    heard_all g =
        let h = from_start g in
        record {
          ends = h.ends;
          answers = h.answers;
          led = h.led;
          runs = h.runs;
          once =
              h.once;
          holds = λ xs e. subst P (append-nil xs) (h.holds xs tt e);
        }

    -- where the source deals a list, P holds of it
    pub heard_yielded : (stops : Error → Bool) (xs : List R) → HeardFrom o rs P
        → YieldsExactly (answer_stops stops) front back source xs → NoneStops (answer_stops stops) rs → P xs
    heard_yielded stops xs g d fine =
        let h = from_start g in
        subst P (append-nil xs) (h.holds xs tt (d.answers h.ends h.answers h.led h.runs
        (h.returned stops fine)))

-- ---- where the source may be asked at both ends, calls at the front keep it so

module _ {S : Type 0} (front back : S → Option R → S → Type 0) (can can_back : S → Type 0)
    (left : S → Count) where
  can_after_each : (rs : List (Option R)) (s t : S) → CanYield front back can can_back s
      → GaveEach front s rs t → CanYield front back can can_back t
  can_after_each rs s t d h = record {
    at = λ ends qs u runs. d.at (each_at Front rs ++ ends)
        (rs ++ qs) u (runs_append front back (each_at Front rs) ends rs qs s t u
        (gave_runs front back Front rs s t h) runs);
  }

  not_over : (done : Bool) (rs : List (Option R)) → is_over done rs ≡ false → done ≡ false
  not_over false rs e = refl
  not_over true [] e = e
  not_over true (None ∷ rs) e = not_over true rs e
  not_over true (Some x ∷ rs) e = not_over true rs e

  pub goes_on : (s t : Ends S) (rs : List (Option R)) → Goes front back can can_back left s
      → Gave front s rs t → Goes front nowhere can can left t → Goes front back can can_back left t
  goes_on s t rs g h more = by_done t.done refl
    where
      by_done : (b : Bool) → t.done ≡ b → Goes front back can can_back left t
      by_done true e = record {
        ready = subst (λ (b : Bool). GoesIf front back can can_back left b
            t.iter) (sym e) tt;
      }
      by_done false e = record {
        ready = subst (λ (b : Bool). GoesIf front back can can_back left b t.iter) (sym e) (
          can_after_each rs s.iter t.iter (goes_ready front back can can_back left s
              (not_over s.done rs (sym h.over ∙ e)) g).0 h.each,
          (goes_ready front nowhere can can left t e more).1,
        );
      }
