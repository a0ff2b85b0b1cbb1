-- A head that a filter left, before what a compaction that lends does of the others.
use Rattle.std.proofs.Common.{◌≡◌, ◌⊎◌, refl, sym, ◌∙◌, ap, subst, ℕ, Bool, true, false}
use Rattle.std.proofs.Common.{cond, ◌&&◌, nat_lt, List, [], ◌∷◌, ◌++◌, append_assoc}
use Rattle.std.specs.Prelude.{◌||◌, Option, Some, None, Result, Ok, Err}
use Rattle.sst_entries.specs.Entry.{Entry}
use Rattle.sst_entries.specs.Key.{same_key}
use Rattle.sst_entries.specs.Kind.{is_tombstone_kind, is_weak_kind}
use Rattle.sst_entries.specs.Stream.{first, ok_results}
use Rattle.sst_entries.specs.declared.error.Error.{Error}
use Rattle.lsm_sorted.specs.merge.Ends.{R}
use Rattle.lsm_sorted.specs.declared.compaction.Rules.{Rules}
use Rattle.lsm_sorted.specs.Compaction.{Verdict, keep, replace, drop, Judged, JudgedItem, told_by}
use Rattle.lsm_sorted.specs.Compaction.{asked, goes, head_given, is_value, reported, reports_by}
use Rattle.lsm_sorted.specs.Compaction.{error_of, items, unfiltered, zeroed}
use Rattle.lsm_sorted.specs.Compacting.{Asks, GetsAll, KeepsTombstones, head_answer, key_follows}
use Rattle.lsm_sorted.specs.CompactionState.{error_first}
use Rattle.lsm_sorted.specs.lending.LentCompaction.{gone_of_lent, has_to_wait, lent_outs_by}
use Rattle.lsm_sorted.specs.lending.LentCompaction.{listed_answer}
use Rattle.lsm_sorted.specs.lending.LentCompaction.{CompactedTo, Later}
use Rattle.lsm_sorted.proofs.CallLemmas.{StaysIfTombstone, gets_append, of_tombstones, says_head}
use Rattle.lsm_sorted.proofs.CallLemmas.{stays, to_tombstones}
use Rattle.lsm_sorted.proofs.LentOutsLemmas.{goes_alone, goes_strong, goes_weak, last_goes}
use Rattle.lsm_sorted.proofs.OutsLemmas.{AllOf, asked_head, behind_error, close_asked, close_given}
use Rattle.lsm_sorted.proofs.OutsLemmas.{close_reported, dropped_asked, dropped_given}
use Rattle.lsm_sorted.proofs.OutsLemmas.{dropped_reported, error_in, failed_asked, failed_given}
use Rattle.lsm_sorted.proofs.OutsLemmas.{failed_reported, follows_in, judged, open_asked, open_given}
use Rattle.lsm_sorted.proofs.OutsLemmas.{open_reported}
use Rattle.lsm_sorted.proofs.TurnLemmas.{each_unfiltered, follows_items, items_append}

-- ---- the judged list

error_items : (js : List JudgedItem) → error_in js ≡ error_first (items js)
error_items [] = refl
error_items (Ok j ∷ js) = refl
error_items (Err e ∷ js) = refl

-- what the filter leaves of an entry has its key and its number
record SameHead (x y : Entry) : Type 0 where
  pub key : x.user_key ≡ y.user_key
  pub number : x.seqno ≡ y.seqno

same_left : (x y : Entry) (o : Result (Option Entry) Error) → o ≡ Ok (Some x) → o ≡ Ok (Some y)
    → x ≡ y
same_left x y o of_x of_y = cc

same_head : (x y : Entry) → x ≡ y → SameHead x y
same_head x y is = record {
  key = ap (λ (z : Entry). z.user_key) is;
  number = ap (λ (z : Entry). z.seqno) is;
}

left_same : (x y : Entry) (v : Result Verdict Error) → told_by x v ≡ Ok (Some y) → SameHead x y
left_same x y (Ok keep) left = same_head x y (same_left x y (Ok (Some x)) refl left)
left_same x y (Ok (replace kind value)) left =
    let put : Entry = record {
      user_key = x.user_key;
      seqno = x.seqno;
      kind = kind;
      value = value;
    } in
    let same = same_head put y (same_left put y (Ok (Some put)) refl left) in
    record { key = same.key; number = same.number }
left_same x y (Ok drop) left = absurd cc
left_same x y (Err e) left = absurd cc

module _ (rules : Rules) where
  -- an error in front, and what is lent behind it
  error_apart : (js : List JudgedItem)
      → error_of (error_in js) ++ lent_outs_by rules (behind_error js) ≡ lent_outs_by rules js
  error_apart [] = refl
  error_apart (Ok j ∷ js) = refl
  error_apart (Err e ∷ js) = refl

  given_by : (b : Bool) (y : Entry) (gone : Entry → Bool) (ys : List R) → gone y ≡ b
      → head_given rules gone (Ok (Some y)) ++ ys ≡ listed_answer (head_answer rules b y) ++ ys
  given_by true y gone ys h = ap (λ (b : Bool). cond b [] (Ok (zeroed rules y) ∷ []) ++ ys) h
  given_by false y gone ys h = ap (λ (b : Bool). cond b [] (Ok (zeroed rules y) ∷ []) ++ ys) h

  -- an entry of which the filter said v, before the judged list of the rest
  module _ {F C : Type 0} (gives : F → Entry → Result Verdict Error → F → Type 0)
      (gets : C → Entry → C → Type 0) (z : Later) (x : Entry) (v : Result Verdict Error)
      (f h g : F) (c b d : C) (asks : Asks gives f x v h)
      (reports : GetsAll gets c (reports_by x v) b) where
    abbrev Behind : List Entry → List R → List R → Type 0
    Behind hidden xs gave = CompactedTo gives gets z rules h b hidden xs gave g d

    abbrev Whole : List R → List R → Type 0
    Whole xs gave = CompactedTo gives gets z rules f c [] xs gave g d

    abbrev j : Judged
    j = judged x v

    -- before the rest, by what they give together
    head_then : (hidden : List Entry) (rs ps gave more : List R) (front : List JudgedItem)
        (behind : Behind hidden rs gave)
        → items (Ok j ∷ front ++ behind.judged) ≡ Ok x ∷ ps
        → KeepsTombstones (Ok j ∷ front ++ behind.judged)
        → more ++ z.gives ≡ lent_outs_by rules (Ok j ∷ front ++ behind.judged)
        → asked rules (Ok j ∷ front ++ behind.judged) ≡ asked_head j ++ asked rules behind.judged
        → reported rules (Ok j ∷ front ++ behind.judged)
        ≡ reports_by x v ++ (hidden ++ reported rules behind.judged)
        → Whole (Ok x ∷ ps) more
    head_then hidden rs ps gave more front behind over tombstones answers ask report = record {
      judged = Ok j ∷ front ++ behind.judged;
      over = over;
      tombstones = tombstones;
      answers = answers;
      said = asked_head j ++ behind.said;
      said_are = append_assoc (asked_head j) behind.said z.asks
          ∙ ap (λ (ks : List Judged). asked_head j ++ ks) behind.said_are ∙ sym ask;
      says = says_head gives gets rules x v f h g behind.said asks behind.says;
      heard = reports_by x v ++ behind.heard;
      heard_are = append_assoc (reports_by x v) behind.heard z.reports
          ∙ ap (λ (es : List Entry). reports_by x v ++ es) behind.heard_are ∙ sym report;
      reports = gets_append gets (reports_by x v) behind.heard c b d reports behind.reports;
      begun = Ok j ∷ front ++ behind.begun;
      begun_are = ap (λ (ks : List JudgedItem). Ok j ∷ ks)
          (append_assoc front behind.begun z.rest
          ∙ ap (λ (ks : List JudgedItem). front ++ ks) behind.begun_are);
    }

    -- it leaves none: dropped
    pub lent_dropped : v ≡ Ok drop → (rs gave : List R) → Behind [] rs gave
        → Whole (Ok x ∷ rs) gave
    lent_dropped is rs gave behind =
        let js : List JudgedItem = behind.judged in
        head_then [] rs rs gave gave [] behind
        (ap (λ (ys : List R). Ok x ∷ ys) behind.over)
        (to_tombstones (Ok j ∷ js)
        (stays gives gets rules x v f h asks, of_tombstones js behind.tombstones))
        (behind.answers ∙ sym (subst (λ (w : Result Verdict Error).
        lent_outs_by rules (Ok (judged x w) ∷ js) ≡ lent_outs_by rules js) (sym is)
        (dropped_given rules x (gone_of_lent rules) js)))
        (subst (λ (w : Result Verdict Error). asked rules (Ok (judged x w) ∷ js)
        ≡ asked_head (judged x w) ++ asked rules js) (sym is) (dropped_asked rules x js))
        (subst (λ (w : Result Verdict Error). reported rules (Ok (judged x w) ∷ js)
        ≡ reports_by x w ++ reported rules js) (sym is) (dropped_reported rules x js))

    -- it answers an error
    pub lent_failed : (e : Error) → v ≡ Err e → (rs gave : List R) → Behind [] rs gave
        → Whole (Ok x ∷ rs) (Err e ∷ gave)
    lent_failed e is rs gave behind =
        let js : List JudgedItem = behind.judged in
        head_then [] rs rs gave (Err e ∷ gave) [] behind
        (ap (λ (ys : List R). Ok x ∷ ys) behind.over)
        (to_tombstones (Ok j ∷ js)
        (stays gives gets rules x v f h asks, of_tombstones js behind.tombstones))
        (ap (λ (ys : List R). Err e ∷ ys) behind.answers
        ∙ sym (subst (λ (w : Result Verdict Error).
        lent_outs_by rules (Ok (judged x w) ∷ js) ≡ Err e ∷ lent_outs_by rules js) (sym is)
        (failed_given rules x e (gone_of_lent rules) js)))
        (subst (λ (w : Result Verdict Error). asked rules (Ok (judged x w) ∷ js)
        ≡ asked_head (judged x w) ++ asked rules js) (sym is) (failed_asked rules x e js))
        (subst (λ (w : Result Verdict Error). reported rules (Ok (judged x w) ∷ js)
        ≡ reports_by x w ++ reported rules js) (sym is) (failed_reported rules x e js))

    -- it leaves y
    module _ (y : Entry) (left : told_by x v ≡ Ok (Some y)) where
      same : SameHead x y
      same = left_same x y v left

      -- another version follows, and it stays
      opens_judged : (js : List JudgedItem) (rs gave : List R)
          → (behind : Behind [] rs gave) → behind.judged ≡ js
          → key_follows y.user_key rs ≡ true → nat_lt y.seqno rules.watermark ≡ false
          → Whole (Ok x ∷ rs) (Ok (zeroed rules y) ∷ gave)
      opens_judged [] rs gave behind at follows high =
          let no : true ≡ false = sym follows ∙ ap (key_follows y.user_key) (sym behind.over)
          ∙ ap (λ (ks : List JudgedItem). key_follows y.user_key (items ks)) at in absurd cc
      opens_judged (Err e ∷ js) rs gave behind at follows high =
          let no : true ≡ false = sym follows ∙ ap (key_follows y.user_key) (sym behind.over)
          ∙ ap (λ (ks : List JudgedItem). key_follows y.user_key (items ks)) at in absurd cc
      opens_judged (Ok k ∷ js) rs gave behind at follows high =
          let next : same_key k.entry.user_key y.user_key ≡ true =
          sym (ap (λ (ks : List JudgedItem). key_follows y.user_key (items ks)) at)
          ∙ ap (key_follows y.user_key) behind.over ∙ follows in
          let same' : same_key k.entry.user_key j.entry.user_key ≡ true =
          subst (λ (q : List ℕ). same_key k.entry.user_key q ≡ true) (sym same.key) next in
          let high' : nat_lt j.entry.seqno rules.watermark ≡ false =
          subst (λ (n : ℕ). nat_lt n rules.watermark ≡ false) (sym same.number) high in
          let ks : List JudgedItem = behind.judged in
          head_then [] rs rs gave (Ok (zeroed rules y) ∷ gave) [] behind
          (ap (λ (ys : List R). Ok x ∷ ys) behind.over)
          (to_tombstones (Ok j ∷ ks)
          (stays gives gets rules x v f h asks, of_tombstones ks behind.tombstones))
          (ap (λ (ys : List R). Ok (zeroed rules y) ∷ ys) behind.answers
          ∙ sym (subst (λ (is : List JudgedItem). lent_outs_by rules (Ok j ∷ is)
          ≡ Ok (zeroed rules y) ∷ lent_outs_by rules is) (sym at)
          (open_given rules j y left k same' high' js (gone_of_lent rules))))
          (subst (λ (is : List JudgedItem). asked rules (Ok j ∷ is)
          ≡ asked_head j ++ asked rules is) (sym at)
          (open_asked rules j y left k same' high' js))
          (subst (λ (is : List JudgedItem). reported rules (Ok j ∷ is)
          ≡ reports_by x v ++ reported rules is) (sym at)
          (open_reported rules j y left k same' high' js))

      pub lent_opens : (rs gave : List R) → key_follows y.user_key rs ≡ true
          → nat_lt y.seqno rules.watermark ≡ false → Behind [] rs gave
          → Whole (Ok x ∷ rs) (Ok (zeroed rules y) ∷ gave)
      lent_opens rs gave follows high behind =
          opens_judged behind.judged rs gave behind refl follows high

      -- it is the last head of its key, and hides these versions
      pub lent_closes : (es : List Entry) (rs qs gave : List R) (gone : Bool)
          → AllOf y.user_key es → rs ≡ ok_results es ++ qs → key_follows y.user_key qs ≡ false
          → (nat_lt y.seqno rules.watermark ≡ true) ⊎ (es ≡ [])
          → gone_of_lent rules (first es) (error_first qs) y ≡ gone → Behind es qs gave
          → Whole (Ok x ∷ rs) (listed_answer (head_answer rules gone y) ++ gave)
      lent_closes es rs qs gave gone all parts over last goes behind =
          let js : List JudgedItem = behind.judged in
          let last' : (nat_lt j.entry.seqno rules.watermark ≡ true) ⊎ (es ≡ []) =
          subst (λ (n : ℕ). (nat_lt n rules.watermark ≡ true) ⊎ (es ≡ [])) (sym same.number) last in
          let over' : follows_in y.user_key js ≡ false =
          sym (follows_items y.user_key js) ∙ ap (key_follows y.user_key) behind.over ∙ over in
          let goes' : gone_of_lent rules (first es) (error_in js) y ≡ gone =
          ap (λ (o : Option Error). gone_of_lent rules (first es) o y)
          (error_items js ∙ ap error_first behind.over) ∙ goes in
          let gives' : List R = listed_answer (head_answer rules gone y) in
          let ks : List JudgedItem = ok_results (unfiltered es) ++ js in
          head_then es qs rs gave (gives' ++ gave) (ok_results (unfiltered es)) behind
          (ap (λ (ys : List R). Ok x ∷ ys)
          (items_append es js ∙ ap (λ (ys : List R). ok_results es ++ ys) behind.over
          ∙ sym parts))
          (to_tombstones (Ok j ∷ ks) (
            stays gives gets rules x v f h asks,
            each_unfiltered StaysIfTombstone (λ z _. refl) rules es js
                (of_tombstones js behind.tombstones),
          ))
          (append_assoc gives' gave z.gives
          ∙ ap (λ (ys : List R). gives' ++ ys) behind.answers
          ∙ sym (given_by gone y (gone_of_lent rules (first es) (error_in js))
          (lent_outs_by rules js) goes')
          ∙ sym (ap (λ (ys : List R). head_given rules
          (gone_of_lent rules (first es) (error_in js)) (Ok (Some y)) ++ ys)
          (error_apart js))
          ∙ sym (close_given y.user_key js over' rules j y left es same.key all last'
          (gone_of_lent rules)))
          (close_asked y.user_key js over' rules j y left es same.key all last'
          ∙ ap (λ (is : List Judged). asked_head j ++ is) (asked_behind js))
          (close_reported y.user_key js over' rules j y left es same.key all last'
          ∙ ap (λ (zs : List Entry). (reports_by x v ++ es) ++ zs) (reported_behind js)
          ∙ append_assoc (reports_by x v) es (reported rules js))
        where
          asked_behind : (ks : List JudgedItem) → asked rules (behind_error ks) ≡ asked rules ks
          asked_behind [] = refl
          asked_behind (Ok k ∷ ks) = refl
          asked_behind (Err e ∷ ks) = refl

          reported_behind : (ks : List JudgedItem)
              → reported rules (behind_error ks) ≡ reported rules ks
          reported_behind [] = refl
          reported_behind (Ok k ∷ ks) = refl
          reported_behind (Err e ∷ ks) = refl

module _ {F C : Type 0} (gives : F → Entry → Result Verdict Error → F → Type 0)
    (gets : C → Entry → C → Type 0) (z : Later) (rules : Rules) where
  -- an error in front
  pub lent_error : (f g : F) (c d : C) (e : Error) (rs gave : List R)
      → CompactedTo gives gets z rules f c [] rs gave g d
      → CompactedTo gives gets z rules f c [] (Err e ∷ rs) (Err e ∷ gave) g d
  lent_error f g c d e rs gave behind = record {
    judged = Err e ∷ behind.judged;
    over = ap (λ (ys : List R). Err e ∷ ys) behind.over;
    tombstones = behind.tombstones;
    answers = ap (λ (ys : List R). Err e ∷ ys) behind.answers;
    said = behind.said;
    said_are = behind.said_are;
    says = behind.says;
    heard = behind.heard;
    heard_are = behind.heard_are;
    reports = behind.reports;
    begun = Err e ∷ behind.begun;
    begun_are = ap (λ (ks : List JudgedItem). Err e ∷ ks) behind.begun_are;
  }

  -- one more that is hidden in front
  pub hears_more : (f g : F) (c b d : C) (y : Entry) (hidden : List Entry) (xs gave : List R)
      → gets c y b → CompactedTo gives gets z rules f b hidden xs gave g d
      → CompactedTo gives gets z rules f c (y ∷ hidden) xs gave g d
  hears_more f g c b d y hidden xs gave got behind = record {
    judged = behind.judged;
    over = behind.over;
    tombstones = behind.tombstones;
    answers = behind.answers;
    said = behind.said;
    said_are = behind.said_are;
    says = behind.says;
    heard = y ∷ behind.heard;
    heard_are = ap (λ (es : List Entry). y ∷ es) behind.heard_are;
    reports = (b, got, behind.reports);
    begun = behind.begun;
    begun_are = behind.begun_are;
  }

-- ---- when a head goes

module _ (rules : Rules) (y : Entry) where
  -- one that need not wait
  module _ (now : has_to_wait rules y ≡ false) where
    strong_now : nat_lt y.seqno rules.watermark ≡ true → is_weak_kind y.kind ≡ false
    strong_now low = sym (ap (λ (b : Bool). cond b (is_weak_kind y.kind)
        (rules.evict && is_tombstone_kind y.kind)) low) ∙ now

    pub gone_low : (next : Option Entry) (e : Option Error)
        → nat_lt y.seqno rules.watermark ≡ true
        → gone_of_lent rules next e y ≡ rules.evict && is_tombstone_kind y.kind
    gone_low (Some next) e low = goes_strong rules.evict y.kind (Some next) (strong_now low)
    gone_low None None low = goes_strong rules.evict y.kind None (strong_now low)
    gone_low None (Some e) low = ap (λ (b : Bool). b || goes rules.evict y.kind None) now
        ∙ goes_strong rules.evict y.kind None (strong_now low)

    high_now : nat_lt y.seqno rules.watermark ≡ false
        → rules.evict && is_tombstone_kind y.kind ≡ false
    high_now high = sym (ap (λ (b : Bool). cond b (is_weak_kind y.kind)
        (rules.evict && is_tombstone_kind y.kind)) high) ∙ now

    pub gone_high : (e : Option Error) → nat_lt y.seqno rules.watermark ≡ false
        → gone_of_lent rules None e y ≡ false
    gone_high None high = goes_alone rules.evict y.kind ∙ high_now high
    gone_high (Some e) high = ap (λ (b : Bool). b || goes rules.evict y.kind None) now
        ∙ goes_alone rules.evict y.kind ∙ high_now high

  -- one that has to wait
  module _ (waits : has_to_wait rules y ≡ true) where
    pub gone_fault : (e : Error) → gone_of_lent rules None (Some e) y ≡ true
    gone_fault e = ap (λ (b : Bool). b || goes rules.evict y.kind None) waits

    pub gone_last : gone_of_lent rules None None y ≡ rules.evict
    gone_last = last_goes rules y waits

    pub gone_before : (next : Entry) (e : Option Error) → nat_lt y.seqno rules.watermark ≡ true
        → gone_of_lent rules (Some next) e y ≡ is_value next.kind
    gone_before next e low = goes_weak rules.evict y.kind next (sym (ap (λ (b : Bool).
        cond b (is_weak_kind y.kind) (rules.evict && is_tombstone_kind y.kind)) low) ∙ waits)
