-- Tables that are yielded one by one: what one call of the source, the writer or the stream makes.
use Rattle.std.proofs.Common.{◌≡◌, refl, sym, ◌∙◌, ap, subst, ℕ, ◌+◌, ◌-◌, ◌<◌, Bool}
use Rattle.std.proofs.Common.{false, List, [], ◌∷◌, ◌++◌, length}
use Rattle.std.proofs.Common.{IsTrue, inl}
use Rattle.std.specs.Prelude.{Option, Some, None, Result, Ok, Err, take}
use Rattle.std.specs.Prelude.{IsErrAnd, MatchOption}
use Rattle.std.specs.Option.{option_to_list}
use Rattle.sst_entries.specs.declared.error.Error.{Error}
use Rattle.sst_entries.specs.Entry.{Entry}
use Rattle.sst_entries.specs.Error.{is_memory}
use Rattle.sst_entries.specs.Lending.{came}
use Rattle.sst_entries.specs.Stream.{Lowers, YieldsExactly, answer_stops, nowhere, ok_results}
use Rattle.sst_entries.proofs.StreamLemmas.{can_front, can_now, map_append}
use Rattle.lsm_writers.specs.declared.writer.FinishedTable.{FinishedTable}
use Rattle.lsm_writers.specs.declared.table_stream.TableStream.{TableStream}
use Rattle.lsm_writers.specs.declared.table_stream.TableStreamError.{TableStreamError}
use Rattle.lsm_writers.specs.declared.table_stream.TableStreamError.TheVariants.{Failed, OutOfOrder}
use Rattle.lsm_writers.specs.Streamed.{AreAll, CanPoll, CanTake, EndsAll, EndsAfter, EndsInError}
use Rattle.lsm_writers.specs.Streamed.{EndsWithError, FinishesLast, IsAfter, IsExhausted, LeavesError}
use Rattle.lsm_writers.specs.Streamed.{Stops, StopsAfter, Took, TookSource, TookFrom}
use Rattle.lsm_writers.specs.Streamed.{WritesUntil, YieldsAfter, YieldsNextTable, calls_writer}
use Rattle.lsm_writers.specs.Streamed.{may_replace, next_fault, next_ids, next_left, took_each}
use Rattle.lsm_writers.specs.Taken.{IsLeft, taken}
use Rattle.lsm_writers.specs.Tables.{AreFinished}
use Rattle.lsm_writers.specs.Tables.{TablesWriting, all_written, first_label, ids_after}
use Rattle.lsm_writers.specs.Tables.{run_fault, tables_of, took, took_fault}
use Rattle.lsm_writers.specs.Writing.{may_be_written}
use Rattle.lsm_writers.proofs.Streaming.{Grown, count_is, ends_now, few_took, finished_some}
use Rattle.lsm_writers.proofs.Streaming.{follows_is, grown, grown_none, grown_some, ids_now}
use Rattle.lsm_writers.proofs.Streaming.{none_stops, results_assoc, results_nil, took_all}
use Rattle.lsm_writers.proofs.Streaming.{took_disorder, took_ends, took_failed, yields_fault}
use Rattle.lsm_writers.proofs.Streaming.{yields_none, yields_one}

-- ---- one call of the source

module _ {S A : Type 0} (stops : Error → Bool) (next : S → Option (Result Entry Error) → S → Type 0)
    (w : TablesWriting) (rs : List (Result Entry Error)) (gs : List (FinishedTable A)) (s t : S)
    (n : TablesWriting) (h : TookFrom stops next w rs gs s n) where
  -- an entry comes
  module _ (e : Entry) (step : next s (Some (Ok e)) t) where
    abbrev one : (more : List (Result Entry Error)) × (h.rest ≡ Ok e ∷ more)
        × YieldsExactly (answer_stops stops) next nowhere t more
    one = yields_one stops next h.rest s t e h.yields step

    whole_one : rs ≡ ok_results h.front ++ Ok e ∷ one.0
    whole_one = h.whole
        ∙ ap (λ (xs : List (Result Entry Error)). ok_results h.front ++ xs) one.1

    whole_more : rs ≡ ok_results (h.front ++ e ∷ []) ++ one.0
    whole_more = whole_one
        ∙ sym (ap (λ (xs : List (Result Entry Error)). xs ++ one.0) (map_append h.front (e ∷ []))
        ∙ results_assoc (ok_results h.front) (Ok e ∷ []) one.0)

    -- it may not follow
    pub from_disorder : may_be_written (all_written n) e.user_key e.seqno ≡ false
        → EndsWithError stops w rs gs OutOfOrder n
    from_disorder after = took_disorder w h.front gs n h.took stops rs one.0 e whole_one
        (sym (follows_is w h.front gs n h.took e) ∙ after)

    front_follows : IsTrue (may_be_written (all_written n) e.user_key e.seqno)
        → IsTrue (may_be_written h.front e.user_key e.seqno)
    front_follows follows = sym (follows_is w h.front gs n h.took e) ∙ follows

    pub from_failed : IsTrue (may_be_written (all_written n) e.user_key e.seqno)
        → (f : Error) (v : TablesWriting) → (is_memory f ≡ false → took_fault n e ≡ Some f)
        → IsLeft n e f v → v.ids ≡ ids_after n e → EndsWithError stops w rs gs (Failed f) v
    from_failed follows f v refused left ids =
        took_failed w h.front gs n h.took stops rs one.0 e whole_one (front_follows follows) f v refused
        left ids

    module _ (follows : IsTrue (may_be_written (all_written n) e.user_key e.seqno))
        (v u : TablesWriting) (is : v ≡ took n e) (fine : took_fault n e ≡ None)
        (rest : u ≡ taken 1 v) where
      grown_now : Grown w (h.front ++ e ∷ []) gs v
      grown_now = grown w h.front gs n v e h.took (front_follows follows) fine is

      from_next : (fs : List (FinishedTable A)) → Took w (h.front ++ e ∷ []) fs u
          → TookFrom stops next w rs fs t u
      from_next fs took = record {
        front = h.front ++ e ∷ [];
        rest = one.0;
        whole = whole_more;
        took = took;
        yields = one.2;
      }

      pub from_some : (f : FinishedTable A)
          → AreFinished v.present.options (first_label v) (take 1 v.tables) (f ∷ [])
          → TookFrom stops next w rs (gs ++ f ∷ []) t u
      from_some f table = from_next (gs ++ f ∷ [])
          (grown_some w (h.front ++ e ∷ []) gs v u grown_now rest f table)

      pub from_none : AreFinished {A = A} v.present.options (first_label v) (take 1 v.tables) []
          → TookFrom stops next w rs gs t u
      from_none none = from_next gs
          (grown_none w (h.front ++ e ∷ []) gs v u grown_now rest none)

  -- nothing comes
  pub from_over : next s None t → TookSource w rs gs n
  from_over step =
      let none : h.rest ≡ [] = yields_none stops next h.rest s t h.yields step in
      let all : rs ≡ ok_results h.front = h.whole
      ∙ (ap (λ (xs : List (Result Entry Error)). ok_results h.front ++ xs) none
      ∙ results_nil (ok_results h.front)) in
      record {
        list = h.front;
        whole = all;
        took = h.took;
      }

  -- an error comes
  module _ (e : Error) (step : next s (Some (Err e)) t) where
    rest_is : may_replace stops (calls_writer h.front h.rest) (Failed e) ≡ false
        → (more : List (Result Entry Error)) × (h.rest ≡ Err e ∷ more)
    rest_is fine = yields_fault stops next h.rest s t e h.yields step
        (none_stops (stops e) (calls_writer h.front h.rest) (is_memory e) fine)

    pub from_fails : EndsWithError stops w rs gs (Failed e) n
    from_fails = record {
      none = λ none. ends_now w h.front gs n h.took stops rs h.rest h.whole (Failed e) n.ids
          (λ fine. ap (next_fault h.front (took_each w h.front)) (rest_is fine).1)
          (λ fine. sym (ap length (ap (next_left h.front (took_each w h.front)) (rest_is fine).1)
          ∙ count_is w h.front gs n h.took))
          (inl (ids_now w h.front gs n h.took))
          (λ fine. ids_now w h.front gs n h.took
          ∙ sym (ap (next_ids h.front (took_each w h.front)) (rest_is fine).1));
      some = λ f one. absurd (finished_some n.present.options (first_label n) n.tables f one
          h.took.left);
    }

-- ---- the end

module _ {A : Type 0} (w n : TablesWriting) (rs : List (Result Entry Error))
    (gs : List (FinishedTable A)) (h : TookSource w rs gs n) where
  pub all_some : (f : FinishedTable A)
      → AreFinished n.present.options (first_label n) (tables_of n) (f ∷ [])
      → AreAll w rs (gs ++ f ∷ []) n.ids
  all_some f last = took_all w h.list gs n h.took rs h.whole (f ∷ []) last

  pub all_none : AreFinished {A = A} n.present.options (first_label n) (tables_of n) []
      → AreAll w rs gs n.ids
  all_none none = subst (λ (fs : List (FinishedTable A)). AreAll w rs fs n.ids) (tables_nil gs)
      (took_all w h.list gs n h.took rs h.whole [] none)
    where
      tables_nil : (fs : List (FinishedTable A)) → fs ++ [] ≡ fs
      tables_nil [] = refl
      tables_nil (f ∷ fs) = ap (λ (xs : List (FinishedTable A)). f ∷ xs) (tables_nil fs)

  pub all_fails : (stops : Error → Bool) (e : Error)
      → (is_memory e ≡ false → run_fault n ≡ Some e) → EndsInError stops w rs gs n.ids (Failed e)
  all_fails stops e refused = took_ends w h.list gs n h.took rs h.whole stops e refused

some_is : (writer : Option TablesWriting) (m n : TablesWriting) → Some m ≡ writer → writer ≡ Some n
    → m ≡ n
some_is writer m n value is = let both : Some m ≡ Some n = value ∙ is in cc

-- the results of finishing
module _ {A : Type 0} (writer : Option TablesWriting) (m : TablesWriting)
    (value : Some m ≡ writer) where
  pub ends_some : (o : Option (FinishedTable A)) (f : FinishedTable A) → o ≡ Some f
      → AreFinished m.present.options (first_label m) (tables_of m) (option_to_list o)
      → EndsAll writer (Some (Ok f))
  ends_some o f some last = λ w n rs gs is h. all_some w n rs gs h f
      (subst (λ (x : TablesWriting). AreFinished x.present.options (first_label x) (tables_of x)
      (f ∷ [])) (some_is writer m n value is)
      (subst (λ (p : Option (FinishedTable A)). AreFinished m.present.options (first_label m)
      (tables_of m) (option_to_list p)) some last))

  pub ends_none : AreFinished {A = A} m.present.options (first_label m) (tables_of m) []
      → EndsAll {A = A} writer None
  ends_none none = λ w n rs gs is h. all_none w n rs gs h
      (subst (λ (x : TablesWriting). AreFinished {A = A} x.present.options (first_label x)
      (tables_of x) []) (some_is writer m n value is) none)

  pub ends_fails : (e : Error) → (is_memory e ≡ false → run_fault m ≡ Some e)
      → EndsAll {A = A} writer (Some (Err (Failed e)))
  ends_fails e refused = λ w n rs gs is h stops. all_fails w n rs gs h stops e
      (subst (λ (x : TablesWriting). is_memory e ≡ false → run_fault x ≡ Some e)
      (some_is writer m n value is) refused)

-- ---- writing until a table is finished

-- the next state may be polled
module _ {S : Type 0} (next : S → Option (Result Entry Error) → S → Type 0) (can : S → Type 0)
    (s t : S) (n : TablesWriting) (h : CanTake next can s n) where
  pub can_advance : can s
  can_advance = can_now next nowhere can can s h.asks

  pub can_next : (e : Entry) → next s (Some (Ok e)) t → (v u : TablesWriting) → v ≡ took n e
      → u ≡ taken 1 v → CanTake next can t u
  can_next e step v u is rest = record {
    asks = can_front next nowhere can can s (Some (Ok e)) t h.asks step;
    taken = few_took n v u e h.taken is rest;
  }

pub lowers_came : (lent : Option Entry) (more : Bool) (e : Entry) (old new : ℕ) → Some e ≡ lent
    → Lowers (came (Ok more) lent) old new → new < old
lowers_came None more e old new is less = absurd cc
lowers_came (Some x) more e old new is less = less

-- an error that is passed on
pub until_fails : {S A : Type 0} (next : S → Option (Result Entry Error) → S → Type 0) (s t : S)
    (n v : TablesWriting) (r : Result (Option (FinishedTable A)) TableStreamError)
    (e : TableStreamError) → IsErrAnd r (λ y. y ≡ e)
    → ((stops : Error → Bool) (w : TablesWriting) (rs : List (Result Entry Error))
    (gs : List (FinishedTable A)) → TookFrom stops next w rs gs s n → EndsWithError stops w rs gs e v)
    → WritesUntil next s n r t v
until_fails next s t n v (Ok x) e is h = absurd is
until_fails next s t n v (Err y) e is h = λ stops w rs gs took.
    subst (λ (f : TableStreamError). EndsWithError stops w rs gs f v) (sym is) (h stops w rs gs took)

-- ---- one call of the stream

pub no_error : {S A : Type 0} (next : S → Option (Result Entry Error) → S → Type 0)
    (can : S → Type 0) (old : TableStream S A) (n : TablesWriting) → old.writer ≡ Some n
    → CanPoll next can old → old.error ≡ None
no_error next can old n is ready =
    let both : CanTake next can old.source n × (old.error ≡ None) =
    subst (λ (o : Option TablesWriting). MatchOption o (Unit {0})
    (λ x. CanTake next can old.source x × (old.error ≡ None))) is ready in
    both.1

module _ {S A : Type 0} (next : S → Option (Result Entry Error) → S → Type 0)
    (old new : TableStream S A) (n v : TablesWriting) (is : old.writer ≡ Some n)
    (spent : new.writer ≡ None) where
  from_old : (stops : Error → Bool) (w : TablesWriting) (rs : List (Result Entry Error))
      (gs : List (FinishedTable A)) → IsAfter stops next w rs gs old
      → TookFrom stops next w rs gs old.source n
  from_old stops w rs gs at = subst (λ (o : Option TablesWriting). MatchOption o
      (MatchOption old.error (AreAll w rs gs old.ids) (EndsInError stops w rs gs old.ids))
      (TookFrom stops next w rs gs old.source)) is at

  not_over : (r : Option (Result (FinishedTable A) TableStreamError)) → IsExhausted old
      → (r ≡ None) × IsExhausted new
  not_over r over = let no : Some n ≡ None = sym is ∙ over.0 in absurd cc

  no_writer : MatchOption new.writer (Unit {0}) (λ x. new.ids ≡ x.ids)
  no_writer = rw spent tt

  -- at the end of the source
  module _ (error : new.error ≡ None) (ids : new.ids ≡ v.ids) where
    end_after : (stops : Error → Bool) (w : TablesWriting) (rs : List (Result Entry Error))
        (gs : List (FinishedTable A)) (r : Option (Result (FinishedTable A) TableStreamError))
        → FinishesLast w rs gs v.ids r → YieldsAfter stops next w rs gs r new
    end_after stops w rs gs None h =
        subst (λ (left : Option ℕ). AreAll w rs gs left) (sym ids) h
    end_after stops w rs gs (Some (Ok f)) h = rw (spent, error, ids) h
    end_after stops w rs gs (Some (Err e)) h =
        subst (λ (left : Option ℕ). EndsInError stops w rs gs left e) (sym ids) (h stops)

    end_in : (r : Option (Result (FinishedTable A) TableStreamError)) → EndsAfter r new
    end_in None = (spent, error)
    end_in (Some (Ok f)) = tt
    end_in (Some (Err e)) = (spent, error)

    pub yields_end : (r : Option (Result (FinishedTable A) TableStreamError))
        → WritesUntil {A = A} next old.source n (Ok None) new.source v → EndsAll (Some v) r
        → YieldsNextTable next old r new
    yields_end r until ends = record {
      steps = λ stops w rs gs at. end_after stops w rs gs r
          (ends w v rs gs refl (until stops w rs gs (from_old stops w rs gs at)));
      over = not_over r;
      ends = end_in r;
      ids = no_writer;
    }

  -- after an error
  module _ (e : TableStreamError) (none : old.error ≡ None) (ids : new.ids ≡ v.ids) where
    stop_after : (stops : Error → Bool) (w : TablesWriting) (rs : List (Result Entry Error))
        (gs : List (FinishedTable A)) (r : Option (Result (FinishedTable A) TableStreamError))
        → Stops stops w rs gs v.ids e r → LeavesError r e old.error new.error
        → YieldsAfter stops next w rs gs r new
    stop_after stops w rs gs None h left = absurd h
    stop_after stops w rs gs (Some (Ok f)) h left = rw (spent, left, ids) h
    stop_after stops w rs gs (Some (Err x)) h left = rw (ids, left.0) h

    stop_in : (r : Option (Result (FinishedTable A) TableStreamError)) → LeavesError r e old.error new.error
        → EndsAfter r new
    stop_in None left = (spent, left ∙ none)
    stop_in (Some (Ok f)) left = tt
    stop_in (Some (Err x)) left = (spent, left.1 ∙ none)

    pub yields_stop : (r : Option (Result (FinishedTable A) TableStreamError))
        → WritesUntil {A = A} next old.source n (Err e) new.source v → StopsAfter (Some v) e r
        → LeavesError r e old.error new.error → YieldsNextTable next old r new
    yields_stop r until stops left = record {
      steps = λ some w rs gs at. stop_after some w rs gs r
          (stops some w v rs gs refl (until some w rs gs (from_old some w rs gs at))) left;
      over = not_over r;
      ends = stop_in r left;
      ids = no_writer;
    }
