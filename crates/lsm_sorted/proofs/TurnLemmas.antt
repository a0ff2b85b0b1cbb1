-- What a turn of a compaction answers and reports is what its head gives.
use Rattle.std.proofs.Common.{◌≡◌, refl, sym, ◌∙◌, ap, subst, ℕ, Bool, true, false, cond, not, ◌&&◌}
use Rattle.std.proofs.Common.{nat_lt, List, [], ◌∷◌, ◌++◌, ◌⊎◌, inl, inr}
use Rattle.std.specs.Prelude.{Option, Some, None, Result, Ok, Err}
use Rattle.std.proofs.lemmas.List.{append-nil}
use Rattle.sst_entries.specs.Entry.{Entry}
use Rattle.sst_entries.specs.Key.{same_key}
use Rattle.sst_entries.specs.Stream.{first, ok_results}
use Rattle.sst_entries.specs.declared.error.Error.{Error}
use Rattle.lsm_sorted.specs.merge.Ends.{R}
use Rattle.lsm_sorted.specs.Newest.{after_key}
use Rattle.lsm_sorted.specs.declared.compaction.Rules.{Rules}
use Rattle.lsm_sorted.specs.Compaction.{Verdict, keep, replace, drop, Judged, JudgedItem, items}
use Rattle.lsm_sorted.specs.Compaction.{told_by, returned, reports_by, goes, zeroed, head_given, gone}
use Rattle.lsm_sorted.specs.Compaction.{error_of, outs, reported, asked, as_is, unfiltered}
use Rattle.lsm_sorted.specs.Compacting.{of_key, key_follows, Turn, head_answer, close, settled}
use Rattle.lsm_sorted.specs.Compacting.{turned}
use Rattle.sst_entries.proofs.KeyLemmas.{same_is}
use Rattle.lsm_sorted.proofs.OutsLemmas.{listed, asked_head, judged, follows_in, error_in}
use Rattle.lsm_sorted.proofs.OutsLemmas.{behind_error, AllOf, dropped_outs, dropped_reported}
use Rattle.lsm_sorted.proofs.OutsLemmas.{dropped_asked, failed_outs, failed_reported, failed_asked}
use Rattle.lsm_sorted.proofs.OutsLemmas.{open_outs, open_reported, open_asked, close_outs}
use Rattle.lsm_sorted.proofs.OutsLemmas.{close_reported, close_asked}

-- P holds of each judged entry
abbrev pub EachJudged : (Judged → Type 0) → List JudgedItem → Type 0
EachJudged P [] = Unit {0}
EachJudged P (Ok j ∷ js) = P j × EachJudged P js
EachJudged P (Err e ∷ js) = EachJudged P js

-- a head before rs, with what it answered and reported, and what was left, js': the judged list of
-- the whole
pub record Explained (P : Judged → Type 0) (rules : Rules) (j : Judged) (rs : List R) (t : Turn)
    (js' : List JudgedItem) : Type 0 where
  pub js : List JudgedItem
  pub over : items js ≡ Ok j.entry ∷ rs
  pub gives : outs rules js ≡ listed t.answer ++ outs rules js'
  pub reports : reported rules js ≡ (reports_by j.entry j.verdict ++ t.reports)
      ++ reported rules js'
  pub asks : asked rules js ≡ asked_head j ++ asked rules js'
  pub each : P j → EachJudged P js' → EachJudged P js

pub follows_items : (key : List ℕ) (js : List JudgedItem)
    → key_follows key (items js) ≡ follows_in key js
follows_items key [] = refl
follows_items key (Ok k ∷ js) = refl
follows_items key (Err e ∷ js) = refl

pub items_append : (es : List Entry) (js : List JudgedItem)
    → items (ok_results (unfiltered es) ++ js) ≡ ok_results es ++ items js
items_append [] js = refl
items_append (e ∷ es) js = ap (λ (rs : List R). Ok e ∷ rs) (items_append es js)

-- a stretch of a key and what is after it
pub stretch : (key : List ℕ) (rs : List R) → rs ≡ ok_results (of_key key rs) ++ after_key key rs
stretch key [] = refl
stretch key (Err e ∷ rs) = refl
stretch key (Ok x ∷ rs) = elim (same_key x.user_key key) as
    (λ b. Ok x ∷ rs ≡ ok_results (cond b (x ∷ of_key key rs) [])
    ++ cond b (after_key key rs) (Ok x ∷ rs)) [
      | true ↦ ap (λ (ys : List R). Ok x ∷ ys) (stretch key rs)
      | false ↦ refl
    ]

pub stretch_all : (key : List ℕ) (rs : List R) → AllOf key (of_key key rs)
stretch_all key [] = tt
stretch_all key (Err e ∷ rs) = tt
stretch_all key (Ok x ∷ rs) = elim (same_key x.user_key key) as
    (λ b. same_key x.user_key key ≡ b → AllOf key (cond b (x ∷ of_key key rs) [])) [
      | true ↦ λ e. (same_is x.user_key key e, stretch_all key rs)
      | false ↦ λ e. tt
    ] refl

pub stretch_ends : (key : List ℕ) (rs : List R) → key_follows key (after_key key rs) ≡ false
stretch_ends key [] = refl
stretch_ends key (Err e ∷ rs) = refl
stretch_ends key (Ok x ∷ rs) = elim (same_key x.user_key key) as
    (λ b. same_key x.user_key key ≡ b → key_follows key (cond b (after_key key rs) (Ok x ∷ rs))
    ≡ false) [
      | true ↦ λ e. stretch_ends key rs
      | false ↦ λ e. e
    ] refl

pub no_stretch : (key : List ℕ) (rs : List R) → key_follows key rs ≡ false → of_key key rs ≡ []
no_stretch key [] h = refl
no_stretch key (Err e ∷ rs) h = refl
no_stretch key (Ok x ∷ rs) h = ap (λ (b : Bool). cond b (x ∷ of_key key rs) []) h

-- where a head is answered at once
and_true : (a b : Bool) → a && not b ≡ true → (a ≡ true) × (b ≡ false)
and_true true false e = (refl, refl)
and_true true true e = absurd cc
and_true false b e = absurd cc

-- where it closes its key
and_false : (a b : Bool) → a && not b ≡ false → (b ≡ true) ⊎ (a ≡ false)
and_false true true e = inl refl
and_false true false e = absurd cc
and_false false b e = inr refl

module _ (P : Judged → Type 0) (plain : (x : Entry) → P (as_is x)) (rules : Rules) where
  pub each_unfiltered : (es : List Entry) (js : List JudgedItem) → EachJudged P js
      → EachJudged P (ok_results (unfiltered es) ++ js)
  each_unfiltered [] js h = h
  each_unfiltered (e ∷ es) js h = (plain e, each_unfiltered es js h)

  module _ (j : Judged) (y : Entry) (left : returned j ≡ Ok (Some y))
      (its : j.entry.user_key ≡ y.user_key) (number : j.entry.seqno ≡ y.seqno) where
    -- the head is answered, and an older version is in front
    open_explained : (rs : List R) (js : List JudgedItem) → follows_in y.user_key js ≡ true
        → nat_lt y.seqno rules.watermark ≡ false → items js ≡ rs
        → Explained P rules j rs
        (record { answer = Some (Ok (zeroed rules y)); rest = rs; reports = [] }) js
    open_explained rs [] h high fits = absurd cc
    open_explained rs (Err e ∷ js) h high fits = absurd cc
    open_explained rs (Ok k ∷ js) h high fits =
        let same : same_key k.entry.user_key j.entry.user_key ≡ true =
        subst (λ (q : List ℕ). same_key k.entry.user_key q ≡ true) (sym its) h in
        let high' : nat_lt j.entry.seqno rules.watermark ≡ false =
        subst (λ (n : ℕ). nat_lt n rules.watermark ≡ false) (sym number) high in
        record {
          js = Ok j ∷ Ok k ∷ js;
          over = ap (λ (ys : List R). Ok j.entry ∷ ys) fits;
          gives = open_outs rules j y left k same high' js;
          reports = open_reported rules j y left k same high' js
              ∙ ap (λ (ys : List Entry). ys ++ reported rules (Ok k ∷ js))
              (sym (append-nil (reports_by j.entry j.verdict)));
          asks = open_asked rules j y left k same high' js;
          each = λ p h. (p, h);
        }

    -- no error is in front of what is left
    module _ (es : List Entry) (all : AllOf y.user_key es)
        (last : (nat_lt y.seqno rules.watermark ≡ true) ⊎ (es ≡ [])) where
      last' : (nat_lt j.entry.seqno rules.watermark ≡ true) ⊎ (es ≡ [])
      last' = subst (λ (n : ℕ). (nat_lt n rules.watermark ≡ true) ⊎ (es ≡ [])) (sym number) last

      answer_listed : (rest : List R) → head_given rules (gone rules (first es) None) (Ok (Some y))
          ++ rest ≡ listed (head_answer rules (goes rules.evict y.kind (first es)) y) ++ rest
      answer_listed rest = elim (goes rules.evict y.kind (first es)) as
          (λ b. cond b [] (Ok (zeroed rules y) ∷ []) ++ rest
          ≡ listed (cond b None (Some (Ok (zeroed rules y)))) ++ rest)
          [ true ↦ refl | false ↦ refl ]

      calm : (js : List JudgedItem) (rs D : List R) → follows_in y.user_key js ≡ false → error_in js
          ≡ None → behind_error js ≡ js → rs ≡ ok_results es ++ D → items js ≡ D
          → Explained P rules j rs (record {
            answer =
                head_answer rules (goes rules.evict y.kind (first es)) y;
            rest = D;
            reports = es;
          }) js
      calm js rs D over none same parts fits =
          record {
            js = Ok j ∷ (ok_results (unfiltered es) ++ js);
            over = ap (λ (ys : List R). Ok j.entry ∷ ys)
                (items_append es js ∙ ap (λ (ys : List R). ok_results es ++ ys) fits ∙ sym parts);
            gives = close_outs y.user_key js over rules j y left es its all last'
                ∙ ap (λ (o : Option Error). head_given rules (gone rules (first es) o) (Ok (Some y))
                ++ (error_of o ++ outs rules (behind_error js))) none
                ∙ ap (λ (ks : List JudgedItem). head_given rules (gone rules (first es) None)
                (Ok (Some y)) ++ outs rules ks) same
                ∙ answer_listed (outs rules js);
            reports = close_reported y.user_key js over rules j y left es its all last'
                ∙ ap (λ (ks : List JudgedItem). (reports_by j.entry j.verdict ++ es)
                ++ reported rules ks) same;
            asks = close_asked y.user_key js over rules j y left es its all last'
                ∙ ap (λ (ks : List JudgedItem). asked_head j ++ asked rules ks) same;
            each = λ p h. (p, each_unfiltered es js h);
          }

      failing : (js : List JudgedItem) (rs D : List R) (e : Error) → rs ≡ ok_results es ++ Err e ∷ D
          → items js ≡ D
          → Explained P rules j rs (record { answer = Some (Err e); rest = D; reports = es }) js
      failing js rs D e parts fits =
          record {
            js = Ok j ∷ (ok_results (unfiltered es) ++ Err e ∷ js);
            over = ap (λ (ys : List R). Ok j.entry ∷ ys)
                (items_append es (Err e ∷ js) ∙ ap (λ (ys : List R). ok_results es ++ Err e ∷ ys)
                fits ∙ sym parts);
            gives = close_outs y.user_key (Err e ∷ js) refl rules j y left es its all last';
            reports = close_reported y.user_key (Err e ∷ js) refl rules j y left es its all last';
            asks = close_asked y.user_key (Err e ∷ js) refl rules j y left es its all last';
            each = λ p h. (p, each_unfiltered es (Err e ∷ js) h);
          }

      close_explained : (rs D : List R) (js : List JudgedItem) → key_follows y.user_key D ≡ false
          → rs ≡ ok_results es ++ D → items js ≡ (close rules y es D).rest
          → Explained P rules j rs (close rules y es D) js
      close_explained rs [] [] over parts fits = calm [] rs [] refl refl refl parts fits
      close_explained rs [] (Ok k ∷ js) over parts fits = absurd cc
      close_explained rs [] (Err e ∷ js) over parts fits = absurd cc
      close_explained rs (Err e ∷ D) js over parts fits = failing js rs D e parts fits
      close_explained rs (Ok x ∷ D) [] over parts fits = absurd cc
      close_explained rs (Ok x ∷ D) (Err e ∷ js) over parts fits = absurd cc
      close_explained rs (Ok x ∷ D) (Ok k ∷ js) over parts fits =
          calm (Ok k ∷ js) rs (Ok x ∷ D) (sym (follows_items y.user_key (Ok k ∷ js))
          ∙ ap (key_follows y.user_key) fits ∙ over) refl refl parts fits

    settled_explained : (rs : List R) (js : List JudgedItem) → items js ≡ (settled rules y rs).rest
        → Explained P rules j rs (settled rules y rs) js
    settled_explained rs js =
        let low = nat_lt y.seqno rules.watermark in
        let key = y.user_key in
        let at_once : Turn = record {
          answer = Some (Ok (zeroed rules y));
          rest = rs;
          reports =
              [];
        } in
        let closing : Turn = close rules y (of_key key rs) (after_key key rs) in
        elim (key_follows key rs && not low) as (λ b. (key_follows key rs && not low) ≡ b
        → items js ≡ (cond b at_once closing).rest
        → Explained P rules j rs (cond b at_once closing) js) [
          | true ↦ λ e fits. let two = and_true (key_follows key rs) low e in
              open_explained rs js (sym (follows_items key js) ∙ ap (key_follows key) fits ∙ two.0)
              two.1 fits
          | false ↦ λ e fits.
              let last : (low ≡ true) ⊎ (of_key key rs ≡ []) =
              elim (and_false (key_follows key rs) low e)
              [ inl is_low ↦ inl is_low | inr none ↦ inr (no_stretch key rs none) ] in
              close_explained (of_key key rs) (stretch_all key rs) last rs (after_key key rs) js
              (stretch_ends key rs) (stretch key rs) fits
        ] refl

  -- a head x of which the filter says v, before rs
  pub turn_explained : (x : Entry) (v : Result Verdict Error) (rs : List R) (js : List JudgedItem)
      → items js ≡ (turned rules (told_by x v) rs).rest → Explained P rules (judged x v) rs
      (turned rules (told_by x v) rs) js
  turn_explained x (Ok keep) rs js fits = settled_explained
      (judged x (Ok keep)) x refl refl refl rs js fits
  turn_explained x (Ok (replace kind value)) rs js fits =
      settled_explained (judged x (Ok (replace kind value)))
      (record { user_key = x.user_key; seqno = x.seqno; kind = kind; value = value }) refl refl
      refl rs js fits
  turn_explained x (Ok drop) rs js fits = record {
    js = Ok (judged x (Ok drop)) ∷ js;
    over = ap (λ (ys : List R). Ok x ∷ ys) fits;
    gives = dropped_outs rules x js;
    reports = dropped_reported rules x js;
    asks = dropped_asked rules x js;
    each = λ p h. (p, h);
  }
  turn_explained x (Err e) rs js fits = record {
    js = Ok (judged x (Err e)) ∷ js;
    over = ap (λ (ys : List R). Ok x ∷ ys) fits;
    gives = failed_outs rules x e js;
    reports = failed_reported rules x e js;
    asks = failed_asked rules x e js;
    each = λ p h. (p, h);
  }
