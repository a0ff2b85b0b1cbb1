-- What a compaction gives, reports and asks, head by head.
use Rattle.std.proofs.Common.{◌≡◌, refl, sym, ◌∙◌, ap, subst, ℕ, Bool, true, false, cond, not, ◌&&◌}
use Rattle.std.proofs.Common.{nat_lt, List, [], ◌∷◌, ◌++◌, append_assoc, ◌⊎◌, inl, inr}
use Rattle.std.specs.Prelude.{Option, Some, None, Result, Ok, Err, filter}
use Rattle.std.specs.List.{AllByRecursion}
use Rattle.sst_entries.specs.Entry.{Entry}
use Rattle.sst_entries.specs.Kind.{is_tombstone_kind}
use Rattle.sst_entries.specs.Key.{same_key}
use Rattle.sst_entries.specs.Stream.{first, ok_results}
use Rattle.sst_entries.specs.declared.error.Error.{Error}
use Rattle.lsm_sorted.specs.merge.Ends.{R}
use Rattle.lsm_sorted.specs.declared.compaction.Rules.{Rules}
use Rattle.lsm_sorted.specs.Compaction.{Verdict, drop, Judged, JudgedItem, returned, is_left}
use Rattle.lsm_sorted.specs.Compaction.{reports_by, is_cut, heads, expired, zeroed, head_given}
use Rattle.lsm_sorted.specs.Compaction.{given, Versions, is_version_of, before, by_key, gone}
use Rattle.lsm_sorted.specs.Compaction.{error_of, entries, reported_heads, reported_of}
use Rattle.lsm_sorted.specs.Compaction.{asked_of, concat_by, outs, reported, asked, as_is}
use Rattle.lsm_sorted.specs.Compaction.{unfiltered}
use Rattle.std.proofs.lemmas.List.{append-nil}
use Rattle.sst_entries.proofs.KeyLemmas.{same_itself}

-- the answer as a list
abbrev pub listed : {A : Type 0} → Option A → List A
listed None = []
listed (Some x) = x ∷ []

abbrev pub is_asked : Judged → Bool
is_asked j = not (is_tombstone_kind j.entry.kind)

abbrev pub asked_head : Judged → List Judged
asked_head j = filter is_asked (j ∷ [])

asked_more : (j : Judged) (hs : List Judged) → filter is_asked (j ∷ hs) ≡ asked_head j
    ++ filter is_asked hs
asked_more j hs = elim (is_asked j) as (λ b. cond b (j ∷ filter is_asked hs) (filter is_asked hs)
    ≡ cond b (j ∷ []) [] ++ filter is_asked hs) [ true ↦ refl | false ↦ refl ]

abbrev pub judged : Entry → Result Verdict Error → Judged
judged x v = record { entry = x; verdict = v }

abbrev alone : Judged → Versions
alone j = record { versions = j ∷ []; error = None }

abbrev with_first : Judged → Versions → Versions
with_first j v = record { versions = j ∷ v.versions; error = v.error }

-- by when the last head goes, what the versions of a key give, and all do
abbrev pub Going : Type 0
Going = Option Entry → Option Error → Entry → Bool

abbrev pub given_of : Going → Rules → Versions → List R
given_of go rules v = given rules (go (first (entries (expired rules.watermark v.versions))) v.error)
    (heads rules.watermark v.versions) ++ error_of v.error

abbrev pub all_given : Going → Rules → List JudgedItem → List R
all_given go rules js = concat_by (given_of go rules) (by_key js)

-- joined lists, where a version stands before others or alone
module _ {A : Type 0} (f : Versions → List A) (j : Judged) where
  before_joined : (front : List A) → f (alone j) ≡ front
      → ((v : Versions) → is_version_of v.versions j ≡ true → f (with_first j v) ≡ front ++ f v)
      → (vs : List Versions) → concat_by f (before j vs) ≡ front ++ concat_by f vs
  before_joined front one more [] = ap (λ (ys : List A). ys ++ []) one
  before_joined front one more (v ∷ vs) =
      elim (is_version_of v.versions j) as (λ b. is_version_of v.versions j ≡ b
      → concat_by f (cond b (with_first j v ∷ vs) (alone j ∷ v ∷ vs)) ≡ front
      ++ (f v ++ concat_by f vs)) [
        | true ↦ λ e. ap (λ (ys : List A). ys ++ concat_by f vs) (more v e)
            ∙ append_assoc front (f v) (concat_by f vs)
        | false ↦ λ e. ap (λ (ys : List A). ys ++ (f v ++ concat_by f vs)) one
      ] refl

-- a version that the filter drops
module _ (rules : Rules) (x : Entry) where
  dropped_of : (go : Going) (V : List Judged) (e : Option Error)
      → given_of go rules (record { versions = judged x (Ok drop) ∷ V; error = e })
      ≡ given_of go rules (record { versions = V; error = e })
  dropped_of go [] e = refl
  dropped_of go (k ∷ ks) e = refl

  pub dropped_given : (go : Going) (js : List JudgedItem)
      → all_given go rules (Ok (judged x (Ok drop)) ∷ js) ≡ all_given go rules js
  dropped_given go js = before_joined (given_of go rules) (judged x (Ok drop)) [] refl
      (λ v h. dropped_of go v.versions v.error) (by_key js)

  pub dropped_outs : (js : List JudgedItem)
      → outs rules (Ok (judged x (Ok drop)) ∷ js) ≡ outs rules js
  dropped_outs js = dropped_given (gone rules) js

  pub dropped_reported : (js : List JudgedItem)
      → reported rules (Ok (judged x (Ok drop)) ∷ js) ≡ x ∷ reported rules js
  dropped_reported js = before_joined (reported_of rules) (judged x (Ok drop)) (x ∷ []) refl
      (λ v h. refl) (by_key js)

  pub dropped_asked : (js : List JudgedItem)
      → asked rules (Ok (judged x (Ok drop)) ∷ js) ≡ asked_head
      (judged x (Ok drop)) ++ asked rules js
  dropped_asked js = before_joined (asked_of rules) (judged x (Ok drop))
      (asked_head (judged x (Ok drop))) refl (λ v h. asked_more (judged x (Ok drop))
      (heads rules.watermark v.versions)) (by_key js)

-- a version for which the filter answers an error
module _ (rules : Rules) (x : Entry) (e : Error) where
  failed_of : (go : Going) (V : List Judged) (o : Option Error)
      → given_of go rules (record { versions = judged x (Err e) ∷ V; error = o })
      ≡ Err e ∷ given_of go rules (record { versions = V; error = o })
  failed_of go [] o = refl
  failed_of go (k ∷ ks) o = refl

  pub failed_given : (go : Going) (js : List JudgedItem)
      → all_given go rules (Ok (judged x (Err e)) ∷ js) ≡ Err e ∷ all_given go rules js
  failed_given go js = before_joined (given_of go rules) (judged x (Err e)) (Err e ∷ []) refl
      (λ v h. failed_of go v.versions v.error) (by_key js)

  pub failed_outs : (js : List JudgedItem)
      → outs rules (Ok (judged x (Err e)) ∷ js) ≡ Err e ∷ outs rules js
  failed_outs js = failed_given (gone rules) js

  pub failed_reported : (js : List JudgedItem)
      → reported rules (Ok (judged x (Err e)) ∷ js) ≡ reported rules js
  failed_reported js = before_joined (reported_of rules) (judged x (Err e)) [] refl (λ v h. refl)
      (by_key js)

  pub failed_asked : (js : List JudgedItem)
      → asked rules (Ok (judged x (Err e)) ∷ js) ≡ asked_head (judged x (Err e)) ++ asked rules js
  failed_asked js = before_joined (asked_of rules) (judged x (Err e))
      (asked_head (judged x (Err e))) refl (λ v h. asked_more (judged x (Err e))
      (heads rules.watermark v.versions)) (by_key js)

-- a list that begins with an entry has the versions of its key first
pub record Begins (k : Judged) (vs : List Versions) : Type 0 where
  pub more : List Judged
  pub error : Option Error
  pub others : List Versions
  pub is : vs ≡ record { versions = k ∷ more; error = error } ∷ others

begins_before : (k : Judged) (vs : List Versions) → Begins k (before k vs)
begins_before k [] = record { more = []; error = None; others = []; is = refl }
begins_before k (v ∷ vs) = elim (is_version_of v.versions k) as
    (λ b. Begins k (cond b (with_first k v ∷ vs) (alone k ∷ v ∷ vs))) [
      | true ↦ record { more = v.versions; error = v.error; others = vs; is = refl }
      | false ↦ record { more = []; error = None; others = v ∷ vs; is = refl }
    ]

pub begins : (k : Judged) (js : List JudgedItem) → Begins k (by_key (Ok k ∷ js))
begins k js = begins_before k (by_key js)

-- a version that the filter leaves as y, above the watermark or before nothing
module _ (rules : Rules) (j : Judged) (y : Entry) (left : returned j ≡ Ok (Some y)) where
  -- it is no cut where it stands at the watermark or above
  high_is_no_cut : nat_lt j.entry.seqno rules.watermark ≡ false → is_cut rules.watermark j ≡ false
  high_is_no_cut high = ap (λ (o : Result (Option Entry) Error). is_left o
      && nat_lt j.entry.seqno rules.watermark) left ∙ high

  low_is_cut : nat_lt j.entry.seqno rules.watermark ≡ true → is_cut rules.watermark j ≡ true
  low_is_cut low = ap (λ (o : Result (Option Entry) Error). is_left o
      && nat_lt j.entry.seqno rules.watermark) left ∙ low

  -- by whether it is a cut, what its key gives, reports and asks
  abbrev given_if : Going → Bool → List Judged → Option Error → List R
  given_if go b V e = given rules (go (first (entries (cond b V (expired rules.watermark V))))
      e) (j ∷ cond b [] (heads rules.watermark V)) ++ error_of e

  abbrev reported_if : Bool → List Judged → List Entry
  reported_if b V = (reports_by j.entry j.verdict
      ++ reported_heads (cond b [] (heads rules.watermark V)))
      ++ entries (cond b V (expired rules.watermark V))

  abbrev asked_if : Bool → List Judged → List Judged
  asked_if b V = filter is_asked (j ∷ cond b [] (heads rules.watermark V))

  module _ (k : Judged) (same : same_key k.entry.user_key j.entry.user_key ≡ true)
      (high : nat_lt j.entry.seqno rules.watermark ≡ false) (js : List JudgedItem) where
    starts : Begins k (by_key (Ok k ∷ js))
    starts = begins k js

    -- what any joined list says of the two, from what it says of the first versions
    first_joined : {A : Type 0} (f : Versions → List A) (front : List A)
        → ((V : List Judged) (e : Option Error) → f (record { versions = j ∷ k ∷ V; error = e })
        ≡ front ++ f (record { versions = k ∷ V; error = e }))
        → concat_by f (by_key (Ok j ∷ Ok k ∷ js)) ≡ front ++ concat_by f (by_key (Ok k ∷ js))
    first_joined {A} f front one =
        let b = starts in
        let v : Versions = record { versions = k ∷ b.more; error = b.error } in
        subst (λ (vs : List Versions). concat_by f (before j vs) ≡ front ++ concat_by f vs)
        (sym b.is)
        (ap (λ (t : Bool). concat_by f (cond t (with_first j v ∷ b.others)
        (alone j ∷ v ∷ b.others))) same ∙ ap (λ (ys : List A). ys ++ concat_by f b.others)
        (one b.more b.error) ∙ append_assoc front (f v) (concat_by f b.others))

    pub open_given : (go : Going) → all_given go rules (Ok j ∷ Ok k ∷ js)
        ≡ Ok (zeroed rules y) ∷ all_given go rules (Ok k ∷ js)
    open_given go = first_joined (given_of go rules) (Ok (zeroed rules y) ∷ [])
        (λ V e. ap (λ (b : Bool). given_if go b (k ∷ V) e) (high_is_no_cut high)
        ∙ ap (λ (o : Result (Option Entry) Error).
        (head_given rules (λ x. false) o ++ given rules
        (go (first (entries (expired rules.watermark (k ∷ V)))) e)
        (heads rules.watermark (k ∷ V))) ++ error_of e) left)

    pub open_outs : outs rules (Ok j ∷ Ok k ∷ js) ≡ Ok (zeroed rules y) ∷ outs rules (Ok k ∷ js)
    open_outs = open_given (gone rules)

    pub open_reported : reported rules (Ok j ∷ Ok k ∷ js) ≡ reports_by j.entry j.verdict
        ++ reported rules (Ok k ∷ js)
    open_reported = first_joined (reported_of rules) (reports_by j.entry j.verdict)
        (λ V e. ap (λ (b : Bool). reported_if b (k ∷ V)) (high_is_no_cut high)
        ∙ append_assoc (reports_by j.entry j.verdict)
        (reported_heads (heads rules.watermark (k ∷ V)))
        (entries (expired rules.watermark (k ∷ V))))

    pub open_asked : asked rules (Ok j ∷ Ok k ∷ js) ≡ asked_head j ++ asked rules (Ok k ∷ js)
    open_asked = first_joined (asked_of rules) (asked_head j)
        (λ V e. ap (λ (b : Bool). asked_if b (k ∷ V)) (high_is_no_cut high)
        ∙ asked_more j (heads rules.watermark (k ∷ V)))

-- whether an entry of the key is in front
abbrev pub follows_in : List ℕ → List JudgedItem → Bool
follows_in key [] = false
follows_in key (Ok k ∷ js) = same_key k.entry.user_key key
follows_in key (Err e ∷ js) = false

-- the error in front, and what is behind it
abbrev pub error_in : List JudgedItem → Option Error
error_in [] = None
error_in (Ok k ∷ js) = None
error_in (Err e ∷ js) = Some e

abbrev pub behind_error : List JudgedItem → List JudgedItem
behind_error [] = []
behind_error (Ok k ∷ js) = Ok k ∷ js
behind_error (Err e ∷ js) = js

abbrev pub AllOf : List ℕ → List Entry → Type 0
AllOf key es = AllByRecursion (λ y. y.user_key ≡ key) es

-- versions up to where no other version of their key is in front
module _ (key : List ℕ) (js : List JudgedItem) (over : follows_in key js ≡ false) where
  abbrev closed : Judged → List Entry → List Versions
  closed j es = record { versions = j ∷ unfiltered es; error = error_in js }
      ∷ by_key (behind_error js)

  closes_at : (j : Judged) → j.entry.user_key ≡ key → (ks : List JudgedItem) → follows_in key ks
      ≡ false → by_key (Ok j ∷ ks) ≡ record { versions = j ∷ []; error = error_in ks } ∷ by_key
      (behind_error ks)
  closes_at j its [] h = refl
  closes_at j its (Err e ∷ ks) h = refl
  closes_at j its (Ok k ∷ ks) h =
      let b = begins k ks in
      let v : Versions = record { versions = k ∷ b.more; error = b.error } in
      let other : same_key k.entry.user_key j.entry.user_key ≡ false =
      subst (λ (q : List ℕ). same_key k.entry.user_key q ≡ false) (sym its) h in
      subst (λ (vs : List Versions). before j vs ≡ alone j ∷ vs) (sym b.is)
      (ap (λ (t : Bool). cond t (with_first j v ∷ b.others) (alone j ∷ v ∷ b.others)) other)

  pub closes : (j : Judged) (es : List Entry) → j.entry.user_key ≡ key → AllOf key es
      → by_key (Ok j ∷ (ok_results (unfiltered es) ++ js)) ≡ closed j es
  closes j [] its all = closes_at j its js over
  closes j (e ∷ es) its all =
      let more : by_key (Ok (as_is e) ∷ (ok_results (unfiltered es) ++ js)) ≡ closed (as_is e) es =
      closes (as_is e) es all.0 all.1 in
      let same : same_key e.user_key j.entry.user_key ≡ true =
      subst (λ (q : List ℕ). same_key e.user_key q ≡ true) (all.0 ∙ sym its)
      (same_itself e.user_key) in
      let v : Versions = record { versions = as_is e ∷ unfiltered es; error = error_in js } in
      ap (before j) more ∙ ap (λ (t : Bool). cond t (with_first j v ∷ by_key (behind_error js))
      (alone j ∷ closed (as_is e) es)) same

  entries_as_is : (es : List Entry) → entries (unfiltered es) ≡ es
  entries_as_is [] = refl
  entries_as_is (e ∷ es) = ap (λ (ys : List Entry). e ∷ ys) (entries_as_is es)

  -- the last head of a key, which the filter leaves as y
  module _ (rules : Rules) (j : Judged) (y : Entry) (left : returned j ≡ Ok (Some y)) (es : List Entry)
      (its : j.entry.user_key ≡ key) (all : AllOf key es)
      (last : (nat_lt j.entry.seqno rules.watermark ≡ true) ⊎ (es ≡ [])) where
    -- either it is a cut, or nothing follows
    cut_or : (is_cut rules.watermark j ≡ true) ⊎ (es ≡ [])
    cut_or = elim last [ inl low ↦ inl (low_is_cut rules j y left low) | inr none ↦ inr none ]

    by_cut : {B : Type 0} (f : Bool → List Judged → B) → f true [] ≡ f false []
        → f (is_cut rules.watermark j) (unfiltered es) ≡ f true (unfiltered es)
    by_cut {B} f same = elim cut_or [
      | inl cut ↦ ap (λ (b : Bool). f b (unfiltered es)) cut
      | inr none ↦ ap (λ (zs : List Entry). f (is_cut rules.watermark j) (unfiltered zs)) none
          ∙ elim (is_cut rules.watermark j) as (λ b. f b [] ≡ f true [])
          [ true ↦ refl | false ↦ sym same ]
          ∙ sym (ap (λ (zs : List Entry). f true (unfiltered zs)) none)
    ]

    pub close_given : (go : Going) → all_given go rules (Ok j ∷ (ok_results (unfiltered es) ++ js))
        ≡ head_given rules (go (first es) (error_in js)) (Ok (Some y))
        ++ (error_of (error_in js) ++ all_given go rules (behind_error js))
    close_given go =
        let rest = concat_by (given_of go rules) (by_key (behind_error js)) in
        ap (concat_by (given_of go rules)) (closes j es its all)
        ∙ ap (λ (ys : List R). ys ++ rest) (by_cut
        (λ b V. given_if rules j y left go b V (error_in js)) refl)
        ∙ ap (λ (zs : List Entry). (head_given rules (go (first zs) (error_in js)) (returned j)
        ++ error_of (error_in js)) ++ rest) (entries_as_is es)
        ∙ ap (λ (o : Result (Option Entry) Error).
        (head_given rules (go (first es) (error_in js)) o ++ error_of (error_in js))
        ++ rest) left
        ∙ append_assoc (head_given rules (go (first es) (error_in js)) (Ok (Some y)))
        (error_of (error_in js)) rest

    pub close_outs : outs rules (Ok j ∷ (ok_results (unfiltered es) ++ js)) ≡ head_given rules
        (gone rules (first es) (error_in js))
        (Ok (Some y)) ++ (error_of (error_in js) ++ outs rules (behind_error js))
    close_outs = close_given (gone rules)

    pub close_reported : reported rules (Ok j ∷ (ok_results (unfiltered es) ++ js))
        ≡ (reports_by j.entry j.verdict ++ es) ++ reported rules (behind_error js)
    close_reported =
        let rest = concat_by (reported_of rules) (by_key (behind_error js)) in
        ap (concat_by (reported_of rules)) (closes j es its all)
        ∙ ap (λ (ys : List Entry). ys ++ rest) (by_cut (λ b V. reported_if rules j y left b V) refl)
        ∙ ap (λ (zs : List Entry). ((reports_by j.entry j.verdict ++ []) ++ zs) ++ rest)
        (entries_as_is es)
        ∙ ap (λ (ys : List Entry). (ys ++ es) ++ rest) (append-nil (reports_by j.entry j.verdict))

    pub close_asked : asked rules (Ok j ∷ (ok_results (unfiltered es) ++ js)) ≡ asked_head j
        ++ asked rules (behind_error js)
    close_asked =
        let rest = concat_by (asked_of rules) (by_key (behind_error js)) in
        ap (concat_by (asked_of rules)) (closes j es its all)
        ∙ ap (λ (ys : List Judged). ys ++ rest) (by_cut (λ b V. asked_if rules j y left b V) refl)
