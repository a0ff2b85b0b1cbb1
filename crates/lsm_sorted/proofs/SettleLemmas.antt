-- Draining a key, and settling a head.
use Rattle.std.proofs.Common.{◌≡◌, refl, sym, ◌∙◌, ap, subst, ℕ, Bool, true, false, cond, not, ◌&&◌}
use Rattle.std.proofs.Common.{nat_lt, List, [], ◌∷◌}
use Rattle.std.specs.Prelude.{Some, None, Result, Ok, Err, IfOk}
use Rattle.sst_entries.specs.Entry.{Entry}
use Rattle.sst_entries.specs.Key.{same_key}
use Rattle.sst_entries.specs.Stream.{first, but_first, result_stops, YieldsFirst}
use Rattle.sst_entries.specs.declared.error.Error.{Error}
use Rattle.lsm_sorted.specs.merge.Ends.{R}
use Rattle.lsm_sorted.specs.Newest.{after_key}
use Rattle.lsm_sorted.specs.declared.compaction.Rules.{Rules}
use Rattle.lsm_sorted.specs.Compaction.{goes, zeroed}
use Rattle.lsm_sorted.specs.Compacting.{of_key, Turn, head_answer, close, settled, GetsAll}
use Rattle.lsm_sorted.specs.CompactionState.{refusal, error_first, past_error, DrainsKey, answer_of}
use Rattle.lsm_sorted.specs.CompactionState.{Settles}
use Rattle.lsm_sorted.proofs.EndsLemmas.{none_first}
use Rattle.lsm_sorted.proofs.MvccLemmas.{from_first}

module _ {T C : Type 0} (stops : Error → Bool) (Has : T → List R → Type 0)
    (gets : C → Entry → C → Type 0) where
  module _ (key : List ℕ) where
    -- entries of the key were taken and reported, and the rest is still to do
    pub record Draining (s : T) (c : C) (u : T) (b : C) : Type 0 where
      pub at : (xs : List R) → Has s xs → (zs : List R) × Has u zs
          × (after_key key xs ≡ after_key key zs)
          × ((d : C) → GetsAll gets b (of_key key zs) d → GetsAll gets c (of_key key xs) d)

    pub draining_first : (s : T) (c : C) → Draining s c s c
    draining_first s c = record { at = λ xs h. (xs, h, refl, λ d k. k) }

    pub draining_more : (s u v : T) (c b a : C) (x : Entry) → Draining s c u b
        → YieldsFirst stops Has u (Some (Ok x)) v → same_key x.user_key key ≡ true → gets b x a
        → Draining s c v a
    draining_more s u v c b a x was d same got = record {
      at = λ xs h.
          let w = was.at xs h in
          let one = d w.0 w.1 refl in
          let whole : w.0 ≡ Ok x ∷ but_first w.0 = from_first w.0 (Ok x) one.0 in
          let after : after_key key w.0 ≡ after_key key (but_first w.0) = ap (after_key key) whole
          ∙ ap (λ (t : Bool). cond t (after_key key (but_first w.0)) (Ok x ∷ but_first w.0))
          same in
          let stretch : of_key key w.0 ≡ x ∷ of_key key (but_first w.0) = ap (of_key key) whole
          ∙ ap (λ (t : Bool). cond t (x ∷ of_key key (but_first w.0)) []) same in (
            but_first w.0,
            one.1,
            w.2 ∙ after,
            λ e k. w.3 e
                (subst (λ (ys : List Entry). GetsAll gets b ys e) (sym stretch) (a, got, k)),
          );
    }

    -- what else is answered does not matter
    pub drains_as : {X Y : Type 0} (s t : T) (c d : C) (r : Result X Error) (q : Result Y Error)
        → refusal q ≡ refusal r → result_stops stops q ≡ result_stops stops r
        → DrainsKey stops Has gets key s c r t d → DrainsKey stops Has gets key s c q t d
    drains_as s t c d r q e fine drains = record {
      at = λ xs h goes_on. let k = drains.at xs h (sym fine ∙ goes_on) in (e ∙ k.0, k.1, k.2);
    }

    -- what is left to drain, where it is known
    drained_at : {X : Type 0} (s u t : T) (c b : C) (result : Result X Error) → Draining s c u b
        → ((zs : List R) → Has u zs → result_stops stops result ≡ false
        → (refusal result ≡ error_first (after_key key zs))
        × Has t (past_error (after_key key zs)) × (of_key key zs ≡ []))
        → DrainsKey stops Has gets key s c result t b
    drained_at s u t c b result was ends = record {
      at = λ xs h fine.
          let w = was.at xs h in
          let e = ends w.0 w.1 fine in (
            e.0 ∙ sym (ap error_first w.2),
            subst (λ (zs : List R). Has t (past_error zs)) (sym w.2) e.1,
            w.3 b (subst (λ (ys : List Entry). GetsAll gets b ys b) (sym e.2) refl),
          );
    }

    pub drained_stop : {X : Type 0} (s u v t : T) (c b : C) (x : Entry) (y : X) → Draining s c u b
        → YieldsFirst stops Has u (Some (Ok x)) v → same_key x.user_key key ≡ false
        → ((zs : List R) → Has v zs → Has t (Ok x ∷ zs)) → DrainsKey stops Has gets key s c
        (Ok y) t b
    drained_stop s u v t c b x y was d other put = drained_at s u t c b (Ok y) was (λ zs h fine.
        let one = d zs h refl in
        let whole : zs ≡ Ok x ∷ but_first zs = from_first zs (Ok x) one.0 in
        let after : after_key key zs ≡ Ok x ∷ but_first zs = ap (after_key key) whole
        ∙ ap (λ (t : Bool). cond t (after_key key (but_first zs)) (Ok x ∷ but_first zs))
        other in
        let stretch : of_key key zs ≡ [] = ap (of_key key) whole
        ∙ ap (λ (t : Bool). cond t (x ∷ of_key key (but_first zs)) []) other in (
          sym (ap error_first after),
          subst (λ (ys : List R). Has t (past_error ys)) (sym after)
              (put (but_first zs) one.1),
          stretch,
        ))

    pub drained_err : {X : Type 0} (s u t : T) (c b : C) (e : Error) → Draining s c u b
        → YieldsFirst stops Has u (Some (Err e)) t → DrainsKey {X = X} stops Has gets key s c
        (Err e) t b
    drained_err s u t c b e was d = drained_at s u t c b (Err e) was (λ zs h fine.
        let one = d zs h fine in
        let whole : zs ≡ Err e ∷ but_first zs = from_first zs (Err e) one.0 in (
          sym (ap (λ (ys : List R). error_first (after_key key ys)) whole),
          subst
              (λ (ys : List R). Has t (past_error (after_key key ys))) (sym whole) one.1,
          ap
              (of_key key) whole,
        ))

    pub drained_end : {X : Type 0} (s u t : T) (c b : C) (y : X) → Draining s c u b
        → YieldsFirst stops Has u None t → DrainsKey stops Has gets key s c (Ok y) t b
    drained_end s u t c b y was d = drained_at s u t c b (Ok y) was (λ zs h fine.
        let one = d zs h refl in
        let none : zs ≡ [] = none_first zs one.0 in (
          sym (ap (λ (ys : List R). error_first (after_key key ys)) none),
          subst (Has t)
              (ap but_first none ∙ sym (ap (λ (ys : List R). past_error (after_key key ys)) none))
              one.1,
          ap (of_key key) none,
        ))

  module _ (rules : Rules) (head : Entry) where
    close_well : (es : List Entry) (rs : List R) → None ≡ error_first rs → close rules head es rs
        ≡ record {
          answer = head_answer rules (goes rules.evict head.kind (first es)) head;
          rest =
              past_error rs;
          reports = es;
        }
    close_well es [] h = refl
    close_well es (Ok x ∷ rs) h = refl
    close_well es (Err e ∷ rs) h = absurd cc

    close_ill : (es : List Entry) (rs : List R) (e : Error) → Some e ≡ error_first rs
        → close rules head es rs ≡ record {
          answer = Some (Err e);
          rest = past_error rs;
          reports =
              es;
        }
    close_ill es [] e h = absurd cc
    close_ill es (Ok x ∷ rs) e h = absurd cc
    close_ill es (Err f ∷ rs) e h = let same : f ≡ e = cc in
        ap (λ (g : Error). record { answer = Some (Err g); rest = rs; reports = es }) same

    -- a turn, where what is in front is known
    settles_as : (s t : T) (c d : C) (result : Result Bool Error)
        → ((xs : List R) → Has s xs → result_stops stops result ≡ false → (turn : Turn)
        × (settled rules head xs ≡ turn) × (answer_of rules head result ≡ turn.answer)
        × Has t turn.rest × GetsAll gets c turn.reports d)
        → Settles stops Has gets rules head s c result t d
    settles_as s t c d result f = record {
      at = λ xs h fine.
          let k = f xs h fine in (
            k.2 ∙ sym (ap (λ (u : Turn). u.answer) k.1),
            subst (λ (u : Turn). Has t u.rest)
                (sym k.1) k.3,
            subst (λ (u : Turn). GetsAll gets c u.reports d) (sym k.1) k.4,
          );
    }

    -- nothing of the head's key follows
    answer_alone : (gone : Bool) → gone ≡ goes rules.evict head.kind None
        → head_answer rules gone head ≡ head_answer rules (goes rules.evict head.kind None) head
    answer_alone gone e = ap (λ (b : Bool). head_answer rules b head) e

    pub settles_end : (s t : T) (c : C) (gone : Bool) → YieldsFirst stops Has s None t
        → gone ≡ goes rules.evict head.kind None
        → Settles stops Has gets rules head s c (Ok gone) t c
    settles_end s t c gone d e = settles_as s t c c (Ok gone) (λ xs h fine.
        let one = d xs h refl in
        let none : xs ≡ [] = none_first xs one.0 in (
          settled rules head [],
          ap (settled rules head) none,
          answer_alone gone e,
          subst (Has t)
              (ap but_first none) one.1,
          refl,
        ))

    pub settles_err : (s t : T) (c : C) (e : Error) → YieldsFirst stops Has s (Some (Err e)) t
        → Settles stops Has gets rules head s c (Err e) t c
    settles_err s t c e d = settles_as s t c c (Err e) (λ xs h fine.
        let one = d xs h fine in
        let whole : xs ≡ Err e ∷ but_first xs = from_first xs (Err e) one.0 in (
          settled rules head (Err e ∷ but_first xs),
          ap
              (settled rules head) whole,
          refl,
          one.1,
          refl,
        ))

    abbrev settled_if : Bool → Bool → Entry → List R → Turn
    settled_if same low x rs = cond (same && not low)
        (record { answer = Some (Ok (zeroed rules head)); rest = Ok x ∷ rs; reports = [] })
        (close rules head (cond same (x ∷ of_key head.user_key rs) [])
        (cond same (after_key head.user_key rs) (Ok x ∷ rs)))

    pub settles_other : (s v t : T) (c : C) (x : Entry) (gone : Bool)
        → YieldsFirst stops Has s (Some (Ok x)) v → same_key x.user_key head.user_key ≡ false
        → ((zs : List R) → Has v zs → Has t (Ok x ∷ zs)) → gone ≡ goes rules.evict head.kind None
        → Settles stops Has gets rules head s c (Ok gone) t c
    settles_other s v t c x gone d other put e = settles_as s t c c (Ok gone) (λ xs h fine.
        let one = d xs h refl in
        let whole : xs ≡ Ok x ∷ but_first xs = from_first xs (Ok x) one.0 in (
          settled_if false (nat_lt head.seqno rules.watermark) x (but_first xs),
          ap (settled rules head) whole ∙ ap (λ (b : Bool). settled_if b
              (nat_lt head.seqno rules.watermark) x (but_first xs)) other,
          answer_alone gone e,
          put (but_first xs) one.1,
          refl,
        ))

    pub settles_open : (s v t : T) (c : C) (x : Entry) → YieldsFirst stops Has s (Some (Ok x)) v
        → same_key x.user_key head.user_key ≡ true → nat_lt head.seqno rules.watermark ≡ false
        → ((zs : List R) → Has v zs → Has t (Ok x ∷ zs)) → Settles stops Has gets rules head s c
        (Ok false) t c
    settles_open s v t c x d same high put = settles_as s t c c (Ok false) (λ xs h fine.
        let one = d xs h refl in
        let whole : xs ≡ Ok x ∷ but_first xs = from_first xs (Ok x) one.0 in (
          settled_if true false x (but_first xs),
          ap (settled rules head) whole ∙ ap (λ (b : Bool). settled_if b
              (nat_lt head.seqno rules.watermark) x (but_first xs)) same
              ∙ ap (λ (b : Bool). settled_if true b x (but_first xs)) high,
          refl,
          put (but_first xs) one.1,
          refl,
        ))

    -- the next version is taken, and the others are drained
    module _ (s v t : T) (c b d : C) (x : Entry) (yields : YieldsFirst stops Has s (Some (Ok x)) v)
        (same : same_key x.user_key head.user_key ≡ true)
        (low : nat_lt head.seqno rules.watermark ≡ true) (got : gets c x b) where
      closing : (xs : List R) → Some (Ok x) ≡ first xs
          → settled rules head xs ≡ close rules head (x ∷ of_key head.user_key (but_first xs))
          (after_key head.user_key (but_first xs))
      closing xs e =
          ap (settled rules head) (from_first xs (Ok x) e)
          ∙ ap (λ (b : Bool). settled_if b (nat_lt head.seqno rules.watermark) x (but_first xs))
          same ∙ ap (λ (b : Bool). settled_if true b x (but_first xs)) low

      pub settles_close : {X : Type 0} (y : X) (gone : Bool)
          → DrainsKey stops Has gets head.user_key v b (Ok y) t d
          → gone ≡ goes rules.evict head.kind (Some x)
          → Settles stops Has gets rules head s c (Ok gone) t d
      settles_close y gone drains e = settles_as s t c d (Ok gone) (λ xs h fine.
          let one = yields xs h refl in
          let k = drains.at (but_first xs) one.1 refl in
          let rest = after_key head.user_key (but_first xs) in (
            record {
              answer = head_answer rules (goes rules.evict head.kind (Some x)) head;
              rest =
                  past_error rest;
              reports = x ∷ of_key head.user_key (but_first xs);
            },
            closing xs one.0 ∙ close_well (x ∷ of_key head.user_key (but_first xs)) rest k.0,
            ap (λ (g : Bool). head_answer rules g head) e,
            k.1,
            (b, got, k.2),
          ))

      pub settles_close_err : {X : Type 0} (e : Error)
          → DrainsKey {X = X} stops Has gets head.user_key v b (Err e) t d
          → Settles stops Has gets rules head s c (Err e) t d
      settles_close_err e drains = settles_as s t c d (Err e) (λ xs h fine.
          let one = yields xs h refl in
          let k = drains.at (but_first xs) one.1 fine in
          let rest = after_key head.user_key (but_first xs) in (
            record {
              answer = Some (Err e);
              rest = past_error rest;
              reports =
                  x ∷ of_key head.user_key (but_first xs);
            },
            closing xs one.0 ∙ close_ill (x ∷ of_key head.user_key (but_first xs)) rest e k.0,
            refl,
            k.1,
            (b, got, k.2),
          ))

      pub settles_closed : (result : Result Bool Error)
          → DrainsKey stops Has gets head.user_key v b result t d
          → IfOk result (λ gone. gone ≡ goes rules.evict head.kind (Some x))
          → Settles stops Has gets rules head s c result t d
      settles_closed (Ok gone) drains e = settles_close gone gone drains e
      settles_closed (Err e) drains h = settles_close_err e drains
