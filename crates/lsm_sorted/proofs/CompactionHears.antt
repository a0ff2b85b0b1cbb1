-- A compaction, by what its source gave.
use Rattle.std.proofs.Common.{◌≡◌, refl, sym, ap, subst, ℕ, Bool, true, false, nat_lt, List, []}
use Rattle.std.proofs.Common.{◌∷◌, ◌++◌}
use Rattle.std.specs.Prelude.{Option, Some, None, Result, Ok, Err, IfOk}
use Rattle.sst_entries.specs.Entry.{Entry}
use Rattle.sst_entries.specs.Key.{same_key}
use Rattle.sst_entries.specs.declared.error.Error.{Error}
use Rattle.sst_entries.specs.declared.stream.Direction.TheVariants.{Front}
use Rattle.sst_entries.specs.Stream.{front_of, answer_stops, result_stops}
use Rattle.lsm_sorted.specs.declared.heap.ends.Ends.{Ends}
use Rattle.lsm_sorted.specs.declared.ahead.Ahead.{Ahead}
use Rattle.lsm_sorted.specs.merge.Ends.{R, Asked}
use Rattle.lsm_sorted.specs.Peeked.{content}
use Rattle.lsm_sorted.specs.Ahead.{ahead_outlook}
use Rattle.lsm_sorted.specs.Outlook.{IsStep, nothing_stops, IsSame}
use Rattle.lsm_sorted.specs.Hears.{Hears}
use Rattle.lsm_sorted.specs.declared.compaction.Rules.{Rules}
use Rattle.lsm_sorted.specs.Compaction.{Verdict, goes, zeroed}
use Rattle.lsm_sorted.specs.Compacting.{Calls}
use Rattle.lsm_sorted.specs.CompactionState.{refusal, failure, Filters, DrainsIn, SettlesIn}
use Rattle.lsm_sorted.specs.CompactionState.{CallsIn}
use Rattle.lsm_sorted.proofs.HearsLemmas.{hears_as, hears_then, hears_still, hears_result}
use Rattle.lsm_sorted.proofs.HearsLemmas.{hears_end}
use Rattle.lsm_sorted.proofs.OutlookLemmas.{never_stops, same_first}
use Rattle.lsm_sorted.proofs.SettleLemmas.{Draining, draining_first, draining_more, drains_as}
use Rattle.lsm_sorted.proofs.SettleLemmas.{drained_stop, drained_err, drained_end, settles_end}
use Rattle.lsm_sorted.proofs.SettleLemmas.{settles_err, settles_other, settles_open, settles_closed}
use Rattle.lsm_sorted.proofs.GoingLemmas.{Going, Called, going_first, going_dropped}
use Rattle.lsm_sorted.proofs.GoingLemmas.{called_filter_err, going_on, called_kept, called_err}
use Rattle.lsm_sorted.proofs.GoingLemmas.{called_source_err, called_none}

-- an answer stops a source only where its error does
fails_alike : {X Y : Type 0} (r : Result X Error) (q : Result Y Error)
    → result_stops nothing_stops q ≡ result_stops nothing_stops r → refusal q ≡ refusal r
    → (stops : Error → Bool) → answer_stops stops (failure q) ≡ false
    → answer_stops stops (failure r) ≡ false
fails_alike (Ok x) q same e stops fine = refl
fails_alike (Err e) (Ok y) same h stops fine = absurd cc
fails_alike (Err e) (Err d) same h stops fine = let one : d ≡ e = cc h in
    subst (λ (a : Error). stops a ≡ false) one fine

module _ {S : Type 0} (front : S → Option R → S → Type 0) where
  abbrev pub Hearing : Option R → (List R → List R → Type 0) → Ahead S R → Ahead S R → Type 0
  Hearing r P s t = Hears front Front r P (ahead_outlook s) (ahead_outlook t)

  -- ---- one call of an iterator with a place before it

  module _ (s : Ahead S R) (free : Option R) (empty : free ≡ None) where
    pub hears_ahead : (x : R) → Some x ≡ s.front → Hearing (Some x) (IsStep front_of (Some x)) s
        (record { source = s.source; front = free })
    hears_ahead x is = hears_still front Front _ _ _ _ refl (λ rest may.
        subst (λ (o : Option R). IsStep front_of (Some x) (content o ++ (rest ++ []))
        (content free ++ (rest ++ []))) is
        (subst (λ (o : Option R). IsStep front_of (Some x) (x ∷ (rest ++ []))
        (content o ++ (rest ++ []))) (sym empty) (refl, refl)))

    pub hears_source : (t : Ends S) (r : Option R) → s.front ≡ None → Asked front s.source r t
        → Hearing r (IsStep front_of r) s (record { source = t; front = free })
    hears_source t None none a = hears_end front Front _ _ _ _ a
        (subst (λ (o : Option R). IsStep front_of None (content o ++ []) (content free ++ []))
        (sym none)
        (subst (λ (o : Option R). IsStep front_of None [] (content o ++ [])) (sym empty)
        (refl, refl)))
    hears_source t (Some x) none a = hears_result front Front _ _ _ x a (λ rest.
        subst (λ (o : Option R). IsStep front_of (Some x) (content o ++ ((x ∷ rest) ++ []))
        (content free ++ (rest ++ []))) (sym none)
        (subst (λ (o : Option R). IsStep front_of (Some x) ((x ∷ rest) ++ [])
        (content o ++ (rest ++ []))) (sym empty) (refl, refl)))

  pub hears_put_ahead : (s : Ahead S R) (x : R) → s.front ≡ None
      → Hearing None (λ xs ys. ys ≡ x ∷ xs) s (record { source = s.source; front = Some x })
  hears_put_ahead s x none = hears_still front Front _ _ _ _ refl
      (λ rest may. ap (λ (o : Option R). x ∷ (content o ++ (rest ++ []))) (sym none))

  -- ---- one stretch of calls without an error, and another

  then : (r q w : Option R) (P Q K : List R → List R → Type 0) (s u v : Ahead S R)
      → ((stops : Error → Bool) → answer_stops stops r ≡ false)
      → ((stops : Error → Bool) → answer_stops stops w ≡ false → answer_stops stops q ≡ false)
      → Hearing r P s u → Hearing q Q u v → ((xs ys zs : List R) → P xs ys → Q ys zs → K xs zs)
      → Hearing w K s v
  then r q w P Q K s u v easy same h k both = hears_then front Front r q w P Q K (ahead_outlook s)
      (ahead_outlook u) (ahead_outlook v) easy same h k both

  -- ---- draining a key, and settling a head

  module _ {C : Type 0} (gets : C → Entry → C → Type 0) where
    module _ (key : List ℕ) where
      abbrev pub DrawsIn : C → C → List R → List R → Type 0
      DrawsIn c b xs ys = Draining nothing_stops IsSame gets key xs c ys b

      pub hears_undrained : (s : Ahead S R) (c : C) → Hearing None (DrawsIn c c) s s
      hears_undrained s c = hears_still front Front _ _ _ _ refl
          (λ rest may. draining_first nothing_stops IsSame gets key _ c)

      pub hears_version : (s u v : Ahead S R) (c b a : C) (x : Entry)
          → Hearing None (DrawsIn c b) s u → Hearing (Some (Ok x)) (IsStep front_of (Some (Ok x))) u
          v → same_key x.user_key key ≡ true → gets b x a → Hearing None (DrawsIn c a) s v
      hears_version s u v c b a x was h same got =
          then None (Some (Ok x)) None (DrawsIn c b) (IsStep front_of (Some (Ok x)))
          (DrawsIn c a) s u v (λ stops. refl) (λ stops fine. refl) was h
          (λ xs ys zs d k. draining_more nothing_stops IsSame gets key xs ys zs c b a x d
          (same_first (Some (Ok x)) ys zs k) same got)

      pub hears_stop : {X : Type 0} (s u v t : Ahead S R) (c b : C) (x : Entry) (y : X)
          → Hearing None (DrawsIn c b) s u → Hearing (Some (Ok x)) (IsStep front_of (Some (Ok x))) u
          v → same_key x.user_key key ≡ false → Hearing None (λ xs ys. ys ≡ Ok x ∷ xs) v t
          → Hearing None (DrainsIn gets key c (Ok y) b) s t
      hears_stop {X} s u v t c b x y was h other puts =
          let D : List R → List R → Type 0 = DrainsIn gets {X = X} key c (Ok y) b in
          let K : List R → List R → Type 0 = λ xs zs. D xs (Ok x ∷ zs) in
          then None None None K (λ xs ys. ys ≡ Ok x ∷ xs) D s v t (λ stops. refl)
          (λ stops fine. refl)
          (then None (Some (Ok x)) None (DrawsIn c b) (IsStep front_of (Some (Ok x))) K s u v
          (λ stops. refl) (λ stops fine. refl) was h
          (λ xs ys zs d k. drained_stop nothing_stops IsSame gets key xs ys zs (Ok x ∷ zs) c b x y d
          (same_first (Some (Ok x)) ys zs k) other (λ ws e. ap (λ (vs : List R). Ok x ∷ vs) e)))
          puts (λ xs zs ws k e. subst (D xs) (sym e) k)

      pub hears_stop_err : {X : Type 0} (s u t : Ahead S R) (c b : C) (e : Error)
          → Hearing None (DrawsIn c b) s u → Hearing (Some (Err e)) (IsStep front_of (Some (Err e)))
          u t → Hearing (Some (Err e)) (DrainsIn gets {X = X} key c (Err e) b) s t
      hears_stop_err {X} s u t c b e was h = then None (Some (Err e)) (Some (Err e)) (DrawsIn c b)
          (IsStep front_of (Some (Err e))) (DrainsIn gets {X = X} key c (Err e) b) s u t
          (λ stops. refl) (λ stops fine. fine) was h
          (λ xs ys zs d k. drained_err nothing_stops IsSame gets key xs ys zs c b e d
          (same_first (Some (Err e)) ys zs k))

      pub hears_stop_end : {X : Type 0} (s u t : Ahead S R) (c b : C) (y : X)
          → Hearing None (DrawsIn c b) s u → Hearing None (IsStep front_of None) u t
          → Hearing None (DrainsIn gets key c (Ok y) b) s t
      hears_stop_end {X} s u t c b y was h = then None None None (DrawsIn c b)
          (IsStep front_of None) (DrainsIn gets {X = X} key c (Ok y) b) s u t (λ stops. refl)
          (λ stops fine. refl) was h
          (λ xs ys zs d k. drained_end nothing_stops IsSame gets key xs ys zs c b y d
          (same_first None ys zs k))

      pub hears_drained_as : {X Y : Type 0} (s t : Ahead S R) (c d : C) (r : Result X Error)
          (q : Result Y Error) → refusal q ≡ refusal r
          → result_stops nothing_stops q ≡ result_stops nothing_stops r
          → Hearing (failure r) (DrainsIn gets key c r d) s t
          → Hearing (failure q) (DrainsIn gets key c q d) s t
      hears_drained_as s t c d r q e fine h = hears_as front Front (failure r) (failure q)
          (DrainsIn gets key c r d) (DrainsIn gets key c q d) _ _ (fails_alike r q fine e) h
          (λ xs ys k. drains_as nothing_stops IsSame gets key xs ys c d r q e fine k)

    module _ (rules : Rules) (head : Entry) where
      pub hears_settled_end : (s t : Ahead S R) (c : C) (gone : Bool)
          → Hearing None (IsStep front_of None) s t → gone ≡ goes rules.evict head.kind None
          → Hearing None (SettlesIn gets rules head c (Ok gone) c) s t
      hears_settled_end s t c gone h e = hears_as front Front None None (IsStep front_of None)
          (SettlesIn gets rules head c (Ok gone) c) _ _ (λ stops fine. refl) h
          (λ xs ys k. settles_end nothing_stops IsSame gets rules head xs ys c gone
          (same_first None xs ys k) e)

      pub hears_settled_err : (s t : Ahead S R) (c : C) (e : Error)
          → Hearing (Some (Err e)) (IsStep front_of (Some (Err e))) s t
          → Hearing (Some (Err e)) (SettlesIn gets rules head c (Err e) c) s t
      hears_settled_err s t c e h = hears_as front Front (Some (Err e)) (Some (Err e))
          (IsStep front_of (Some (Err e))) (SettlesIn gets rules head c (Err e) c) _ _
          (λ stops fine. fine) h (λ xs ys k. settles_err nothing_stops IsSame gets rules head xs ys
          c e (same_first (Some (Err e)) xs ys k))

      module _ (s v t : Ahead S R) (c : C) (x : Entry)
          (h : Hearing (Some (Ok x)) (IsStep front_of (Some (Ok x))) s v) where
        put_again : (gone : Bool) → Hearing None (λ xs ys. ys ≡ Ok x ∷ xs) v t
            → ((xs zs : List R) → IsStep front_of (Some (Ok x)) xs zs → SettlesIn gets rules head c
            (Ok gone) c xs (Ok x ∷ zs)) → Hearing None (SettlesIn gets rules head c (Ok gone) c) s t
        put_again gone puts settles = then (Some (Ok x)) None None (IsStep front_of (Some (Ok x)))
            (λ xs ys. ys ≡ Ok x ∷ xs) (SettlesIn gets rules head c (Ok gone) c) s v t
            (λ stops. refl) (λ stops fine. refl) h puts
            (λ xs zs ws k e. subst (SettlesIn gets rules head c (Ok gone) c xs) (sym e)
            (settles xs zs k))

        pub hears_settled_other : (gone : Bool) → same_key x.user_key head.user_key ≡ false
            → Hearing None (λ xs ys. ys ≡ Ok x ∷ xs) v t → gone ≡ goes rules.evict head.kind None
            → Hearing None (SettlesIn gets rules head c (Ok gone) c) s t
        hears_settled_other gone other puts e = put_again gone puts
            (λ xs zs k. settles_other nothing_stops IsSame gets rules head xs zs
            (Ok x ∷ zs) c x gone (same_first (Some (Ok x)) xs zs k) other
            (λ ws i. ap (λ (vs : List R). Ok x ∷ vs) i) e)

        pub hears_settled_open : same_key x.user_key head.user_key ≡ true
            → nat_lt head.seqno rules.watermark ≡ false → Hearing None (λ xs ys. ys ≡ Ok x ∷ xs) v t
            → Hearing None (SettlesIn gets rules head c (Ok false) c) s t
        hears_settled_open same high puts = put_again false puts
            (λ xs zs k. settles_open nothing_stops IsSame gets rules head xs zs (Ok x ∷ zs) c x
            (same_first (Some (Ok x)) xs zs k) same high
            (λ ws i. ap (λ (vs : List R). Ok x ∷ vs) i))

        pub hears_settled_closed : (b d : C) (result : Result Bool Error)
            → same_key x.user_key head.user_key ≡ true → nat_lt head.seqno rules.watermark ≡ true
            → gets c x b → Hearing (failure result) (DrainsIn gets head.user_key b result d) v t
            → IfOk result (λ gone. gone ≡ goes rules.evict head.kind (Some x))
            → Hearing (failure result) (SettlesIn gets rules head c result d) s t
        hears_settled_closed b d result same low got drains e =
            then (Some (Ok x)) (failure result) (failure result) (IsStep front_of (Some (Ok x)))
            (DrainsIn gets head.user_key b result d) (SettlesIn gets rules head c result d) s v t
            (λ stops. refl) (λ stops fine. fine) h drains
            (λ xs zs ws k i. settles_closed nothing_stops IsSame gets rules head xs zs ws c b d x
            (same_first (Some (Ok x)) xs zs k) same low got result i e)

  -- ---- the loop of a call

  module _ {F C : Type 0} (gives : F → Entry → Result Verdict Error → F → Type 0)
      (gets : C → Entry → C → Type 0) (rules : Rules) where
    abbrev pub GoesIn : F → C → F → C → List R → List R → Type 0
    GoesIn f c h b xs ys = Going nothing_stops IsSame gives gets rules xs f c ys h b

    call_is : (f g : F) (c d : C) (r : Option R) (xs ys : List R)
        → Called nothing_stops IsSame gives gets rules xs f c r ys g d
        → CallsIn gives gets rules f c r g d xs ys
    call_is f g c d r xs ys h = let k = h xs refl (never_stops r) in
        subst (Calls gives gets rules f c xs r g d) (sym k.1) k.2

    pub hears_start : (s : Ahead S R) (f : F) (c : C) → Hearing None (GoesIn f c f c) s s
    hears_start s f c = hears_still front Front _ _ _ _ refl
        (λ rest may. going_first nothing_stops IsSame gives gets rules _ f c)

    module _ (s u v : Ahead S R) (f h : F) (c b : C) (was : Hearing None (GoesIn f c h b) s u) where
      pub hears_source_err : (e : Error) → Hearing (Some (Err e)) (IsStep front_of (Some (Err e))) u
          v → Hearing (Some (Err e)) (CallsIn gives gets rules f c (Some (Err e)) h b) s v
      hears_source_err e d = then None (Some (Err e)) (Some (Err e)) (GoesIn f c h b)
          (IsStep front_of (Some (Err e))) (CallsIn gives gets rules f c (Some (Err e)) h b) s u v
          (λ stops. refl) (λ stops fine. fine) was d
          (λ xs ys zs g k. call_is f h c b (Some (Err e)) xs zs
          (called_source_err nothing_stops IsSame gives gets rules xs ys zs f h c b g e
          (same_first (Some (Err e)) ys zs k)))

      pub hears_none : Hearing None (IsStep front_of None) u v
          → Hearing None (CallsIn gives gets rules f c None h b) s v
      hears_none d = then None None None (GoesIn f c h b) (IsStep front_of None)
          (CallsIn gives gets rules f c None h b) s u v (λ stops. refl) (λ stops fine. refl) was d
          (λ xs ys zs g k. call_is f h c b None xs zs
          (called_none nothing_stops IsSame gives gets rules xs ys zs f h c b g
          (same_first None ys zs k)))

      module _ (k : F) (a : C) (x : Entry)
          (d : Hearing (Some (Ok x)) (IsStep front_of (Some (Ok x))) u v) where
        -- an entry was taken, whatever comes of it
        taken : (q : Option R) (K : List R → List R → Type 0)
            → ((xs ys zs : List R) → GoesIn f c h b xs ys → IsStep front_of (Some (Ok x)) ys zs
            → K xs zs) → Hearing q K s v
        taken q K all = then None (Some (Ok x)) q (GoesIn f c h b)
            (IsStep front_of (Some (Ok x))) K s u v (λ stops. refl) (λ stops fine. refl) was d all

        pub hears_dropped : Filters gives gets x h b (Ok None) k a
            → Hearing None (GoesIn f c k a) s v
        hears_dropped filters = taken None (GoesIn f c k a)
            (λ xs ys zs g i. going_dropped nothing_stops IsSame gives gets rules xs ys zs f h k c b
            a x g (same_first (Some (Ok x)) ys zs i) filters)

        pub hears_filter_err : (e : Error) → Filters gives gets x h b (Err e) k a
            → Hearing (Some (Err e)) (CallsIn gives gets rules f c (Some (Err e)) k a) s v
        hears_filter_err e filters = taken (Some (Err e))
            (CallsIn gives gets rules f c (Some (Err e)) k a)
            (λ xs ys zs g i. call_is f k c a (Some (Err e)) xs zs
            (called_filter_err nothing_stops IsSame gives gets rules xs ys zs f h k c b a x g
            (same_first (Some (Ok x)) ys zs i) e filters))

        module _ (y : Entry) (filters : Filters gives gets x h b (Ok (Some y)) k a) (p : Rules)
            (w t : Ahead S R) (z : C) (same : w ≡ v) (set : p ≡ rules) where
          -- up to the head that was taken, then what settles it
          settled : (result : Result Bool Error) (q : Option R) (K : List R → List R → Type 0)
              → ((stops : Error → Bool) → answer_stops stops q ≡ false
              → answer_stops stops (failure result) ≡ false)
              → Hearing (failure result) (SettlesIn gets p y a result z) w t
              → ((xs ys zs ws : List R) → GoesIn f c h b xs ys → IsStep front_of (Some (Ok x)) ys zs
              → SettlesIn gets rules y a result z zs ws → K xs ws) → Hearing q K s t
          settled result q K alike settles all =
              let Both : List R → List R → Type 0 = λ xs zs. (ys : List R) × GoesIn f c h b xs ys
              × IsStep front_of (Some (Ok x)) ys zs in
              let moved : Hearing (failure result) (SettlesIn gets rules y a result z) v t =
              subst (λ (o : Rules). Hearing (failure result) (SettlesIn gets o y a result z) v t)
              set (subst (λ (i : Ahead S R). Hearing (failure result)
              (SettlesIn gets p y a result z) i t) same settles) in
              then None (failure result) q Both (SettlesIn gets rules y a result z) K s v t
              (λ stops. refl) alike
              (taken None Both (λ xs ys zs g i. (ys, g, i)))
              moved (λ xs zs ws i j. all xs i.0 zs ws i.1 i.2 j)

          pub hears_on : Hearing None (SettlesIn gets p y a (Ok true) z) w t
              → Hearing None (GoesIn f c k z) s t
          hears_on settles = settled (Ok true) None (GoesIn f c k z) (λ stops fine. refl) settles
              (λ xs ys zs ws g i j. going_on nothing_stops IsSame gives gets rules xs ys zs f h k c
              b a x g (same_first (Some (Ok x)) ys zs i) y filters ws z j)

          pub hears_kept : (given : Entry) → given ≡ zeroed rules y
              → Hearing None (SettlesIn gets p y a (Ok false) z) w t
              → Hearing (Some (Ok given)) (CallsIn gives gets rules f c (Some (Ok given)) k z) s t
          hears_kept given is settles = settled (Ok false) (Some (Ok given))
              (CallsIn gives gets rules f c (Some (Ok given)) k z) (λ stops fine. refl) settles
              (λ xs ys zs ws g i j. subst (λ (q : Entry). CallsIn gives gets rules f c
              (Some (Ok q)) k z xs ws) (sym is)
              (call_is f k c z (Some (Ok (zeroed rules y))) xs ws
              (called_kept nothing_stops IsSame gives gets rules xs ys zs f h k c b a x g
              (same_first (Some (Ok x)) ys zs i) y filters ws z j)))

          pub hears_settle_err : (e : Error)
              → Hearing (Some (Err e)) (SettlesIn gets p y a (Err e) z) w t
              → Hearing (Some (Err e)) (CallsIn gives gets rules f c (Some (Err e)) k z) s t
          hears_settle_err e settles = settled (Err e) (Some (Err e))
              (CallsIn gives gets rules f c (Some (Err e)) k z) (λ stops fine. fine) settles
              (λ xs ys zs ws g i j. call_is f k c z (Some (Err e)) xs ws
              (called_err nothing_stops IsSame gives gets rules xs ys zs f h k c b a x g
              (same_first (Some (Ok x)) ys zs i) y filters ws z e j))
