-- The loop of a call of a compaction.
use Rattle.std.proofs.Common.{◌≡◌, refl, sym, ◌∙◌, ap, subst, Bool, true, false, List, [], ◌∷◌}
use Rattle.std.specs.Prelude.{Option, Some, None, Result, Ok, Err}
use Rattle.sst_entries.specs.Entry.{Entry}
use Rattle.sst_entries.specs.Stream.{but_first, answer_stops, YieldsFirst}
use Rattle.sst_entries.specs.declared.error.Error.{Error}
use Rattle.lsm_sorted.specs.merge.Ends.{R}
use Rattle.lsm_sorted.specs.declared.compaction.Rules.{Rules}
use Rattle.lsm_sorted.specs.Compaction.{Verdict, told_by, reports_by, zeroed}
use Rattle.lsm_sorted.specs.Compacting.{Turn, settled, turned, GetsAll, Turns, Calls, ended, failed}
use Rattle.lsm_sorted.specs.Compacting.{answered, again}
use Rattle.lsm_sorted.specs.CompactionState.{Filters, Settles}
use Rattle.lsm_sorted.proofs.EndsLemmas.{none_first}
use Rattle.lsm_sorted.proofs.MvccLemmas.{from_first}
use Rattle.lsm_sorted.proofs.CallLemmas.{gets_append}

module _ {T F C : Type 0} (stops : Error → Bool) (Has : T → List R → Type 0)
    (gives : F → Entry → Result Verdict Error → F → Type 0) (gets : C → Entry → C → Type 0)
    (rules : Rules) where
  -- turns so far gave nothing: a call from where they led is a call from where they began
  pub record Going (s : T) (f : F) (c : C) (u : T) (h : F) (b : C) : Type 0 where
    pub at : (xs : List R) → Has s xs → (zs : List R) × Has u zs
        × ((r : Option R) (g : F) (d : C) (ys : List R) → Calls gives gets rules h b zs r g d ys
        → Calls gives gets rules f c xs r g d ys)

  -- what a call owes
  abbrev pub Called : T → F → C → Option R → T → F → C → Type 0
  Called s f c r t g d = (xs : List R) → Has s xs → answer_stops stops r ≡ false
      → (ys : List R) × Has t ys × Calls gives gets rules f c xs r g d ys

  -- the same with equal parts
  pub settles_along : (q p : Rules) (y : Entry) (s t u : T) (c d : C) (result : Result Bool Error)
      → q ≡ p → s ≡ t → Settles stops Has gets q y s c result u d
      → Settles stops Has gets p y t c result u d
  settles_along q p y s t u c d result e k h = subst
      (λ (v : T). Settles stops Has gets p y v c result u d) k
      (subst (λ (o : Rules). Settles stops Has gets o y s c result u d) e h)

  pub going_along : (s u : T) (f k h : F) (c b : C) → k ≡ h → Going s f c u k b → Going s f c u h b
  going_along s u f k h c b e was = subst (λ (i : F). Going s f c u i b) e was

  pub called_along : (s t : T) (f k h : F) (c d : C) (r q : Option R) → r ≡ q → k ≡ h
      → Called s f c r t k d → Called s f c q t h d
  called_along s t f k h c d r q e i was = subst (λ (o : Option R). Called s f c o t h d) e
      (subst (λ (j : F). Called s f c r t j d) i was)

  pub going_first : (s : T) (f : F) (c : C) → Going s f c s f c
  going_first s f c = record { at = λ xs h. (xs, h, λ r g d ys k. k) }

  module _ (s u v : T) (f h k : F) (c b a : C) (x : Entry) (result : Result (Option Entry) Error)
      (was : Going s f c u h b) (yields : YieldsFirst stops Has u (Some (Ok x)) v)
      (filters : Filters gives gets x h b result k a) where
    -- a turn, from what it is where the filter has told
    turn_of : (rs : List R) (answer : Option R) (turn : Turn) (d : C)
        → turned rules result rs ≡ turn → answer ≡ turn.answer → GetsAll gets a turn.reports d
        → Turns gives gets rules h b x rs answer k d turn.rest
    turn_of rs answer turn d is e got =
        let known : turned rules (told_by x filters.verdict) rs ≡ turn =
        ap (λ (o : Result (Option Entry) Error). turned rules o rs) (sym filters.states) ∙ is in
        record {
          verdict = filters.verdict;
          asks = filters.asks;
          answers = e ∙ sym (ap (λ (t : Turn). t.answer) known);
          leaves = sym (ap (λ (t : Turn). t.rest) known);
          reports = gets_append gets (reports_by x filters.verdict)
              (turned rules (told_by x filters.verdict) rs).reports b a d filters.reports
              (subst (λ (t : Turn). GetsAll gets a t.reports d) (sym known) got);
        }

    -- a turn that gives nothing
    more : (t : T) (d : C)
        → ((rs : List R) → Has v rs → (turn : Turn) × (turned rules result rs ≡ turn)
        × (None ≡ turn.answer) × Has t turn.rest × GetsAll gets a turn.reports d)
        → Going s f c t k d
    more t d settles = record {
      at = λ xs has.
          let w = was.at xs has in
          let one = yields w.0 w.1 refl in
          let rs = but_first w.0 in
          let whole : w.0 ≡ Ok x ∷ rs = from_first w.0 (Ok x) one.0 in
          let m = settles rs one.1 in
          let turn : Turns gives gets rules h b x rs None k d m.0.rest =
          turn_of rs None m.0 d m.1 m.2 m.4 in (
            m.0.rest,
            m.3,
            λ r g e ys rest. w.2 r g e ys
                (subst (λ (zs : List R). Calls gives gets rules h b zs r g e ys) (sym whole)
                (again turn rest)),
          );
    }

    -- a turn that answers
    ends : (r : R) (t : T) (d : C)
        → ((rs : List R) → Has v rs → answer_stops stops (Some r) ≡ false → (turn : Turn)
        × (turned rules result rs ≡ turn) × (Some r ≡ turn.answer) × Has t turn.rest
        × GetsAll gets a turn.reports d) → Called s f c (Some r) t k d
    ends r t d settles xs has fine =
        let w = was.at xs has in
        let one = yields w.0 w.1 refl in
        let rs = but_first w.0 in
        let whole : w.0 ≡ Ok x ∷ rs = from_first w.0 (Ok x) one.0 in
        let m = settles rs one.1 fine in
        let turn : Turns gives gets rules h b x rs (Some r) k d m.0.rest =
        turn_of rs (Some r) m.0 d m.1 m.2 m.4 in (
          m.0.rest,
          m.3,
          w.2 (Some r) k d m.0.rest (subst
              (λ (zs : List R). Calls gives gets rules h b zs (Some r) k d m.0.rest) (sym whole)
              (answered turn)),
        )

  module _ (s u v : T) (f h k : F) (c b a : C) (x : Entry) (was : Going s f c u h b)
      (yields : YieldsFirst stops Has u (Some (Ok x)) v) where
    pub going_dropped : Filters gives gets x h b (Ok None) k a → Going s f c v k a
    going_dropped filters = more s u v f h k c b a x (Ok None) was yields filters v a
        (λ rs has. (turned rules (Ok None) rs, refl, refl, has, refl))

    pub called_filter_err : (e : Error) → Filters gives gets x h b (Err e) k a
        → Called s f c (Some (Err e)) v k a
    called_filter_err e filters = ends s u v f h k c b a x (Err e) was yields filters (Err e) v a
        (λ rs has fine. (turned rules (Err e) rs, refl, refl, has, refl))

    module _ (y : Entry) (filters : Filters gives gets x h b (Ok (Some y)) k a) (t : T)
        (d : C) where
      pub going_on : Settles stops Has gets rules y v a (Ok true) t d → Going s f c t k d
      going_on settles = more s u v f h k c b a x (Ok (Some y)) was yields filters t d
          (λ rs has. let m = settles.at rs has refl in (settled rules y rs, refl, m.0, m.1, m.2))

      pub called_kept : Settles stops Has gets rules y v a (Ok false) t d
          → Called s f c (Some (Ok (zeroed rules y))) t k d
      called_kept settles = ends s u v f h k c b a x (Ok (Some y)) was yields filters
          (Ok (zeroed rules y)) t d (λ rs has fine. let m = settles.at rs has refl in
          (settled rules y rs, refl, m.0, m.1, m.2))

      pub called_err : (e : Error) → Settles stops Has gets rules y v a (Err e) t d
          → Called s f c (Some (Err e)) t k d
      called_err e settles = ends s u v f h k c b a x (Ok (Some y)) was yields filters (Err e) t d
          (λ rs has fine. let m = settles.at rs has fine in
          (settled rules y rs, refl, m.0, m.1, m.2))

  module _ (s u v : T) (f h : F) (c b : C) (was : Going s f c u h b) where
    pub called_source_err : (e : Error) → YieldsFirst stops Has u (Some (Err e)) v
        → Called s f c (Some (Err e)) v h b
    called_source_err e yields xs has fine =
        let w = was.at xs has in
        let one = yields w.0 w.1 fine in
        let whole : w.0 ≡ Err e ∷ but_first w.0 = from_first w.0 (Err e) one.0 in (
          but_first w.0,
          one.1,
          w.2 (Some (Err e)) h b (but_first w.0)
              (subst (λ (zs : List R). Calls gives gets rules h b zs (Some (Err e)) h b
              (but_first w.0)) (sym whole) failed),
        )

    pub called_none : YieldsFirst stops Has u None v → Called s f c None v h b
    called_none yields xs has fine =
        let w = was.at xs has in
        let one = yields w.0 w.1 refl in
        let none : w.0 ≡ [] = none_first w.0 one.0 in (
          [],
          subst (Has v) (ap but_first none) one.1,
          w.2 None h b []
              (subst (λ (zs : List R). Calls gives gets rules h b zs None h b []) (sym none) ended),
        )
