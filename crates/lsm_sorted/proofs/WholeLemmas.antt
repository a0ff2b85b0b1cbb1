-- Whole compactions, from their calls.
use Rattle.std.proofs.Common.{◌≡◌, refl, sym, ◌∙◌, ap, subst, ℕ, Bool, true, false, cond, not, List}
use Rattle.std.proofs.Common.{[], ◌∷◌, ◌++◌}
use Rattle.std.specs.Prelude.{Option, Some, None, Result, Ok, Err, is_ok}
use Rattle.std.specs.List.{AllByRecursion}
use Rattle.std.specs.Iterator.{Count, Yields}
use Rattle.sst_entries.specs.Entry.{Entry}
use Rattle.sst_entries.specs.Kind.{is_tombstone_kind}
use Rattle.sst_entries.specs.Stream.{YieldsExactly, CanYield, nowhere, answer_stops, result_stops, first}
use Rattle.sst_entries.specs.Stream.{but_first, ok_results}
use Rattle.sst_entries.specs.declared.error.Error.{Error}
use Rattle.lsm_sorted.specs.declared.compaction.stream.CompactionStream.{CompactionStream}
use Rattle.sst_entries.proofs.StreamLemmas.{yields_by, can_by, tail_eq}
use Rattle.lsm_sorted.specs.merge.Union.{entries_among}
use Rattle.lsm_sorted.specs.merge.Ends.{R}
use Rattle.lsm_sorted.specs.declared.compaction.Rules.{Rules}
use Rattle.lsm_sorted.specs.Compaction.{Verdict, keep, replace, drop, Judged, JudgedItem, items}
use Rattle.lsm_sorted.specs.Compaction.{told_by, returned, is_cut, heads, expired, zeroed, head_given}
use Rattle.lsm_sorted.specs.Compaction.{given, Versions, is_version_of, before, by_key, gone}
use Rattle.lsm_sorted.specs.Compaction.{error_of, entries, outs_of, concat_by, outs, kept, as_is}
use Rattle.lsm_sorted.specs.Compaction.{as_they_are, unfiltered}
use Rattle.lsm_sorted.specs.Compacting.{AsksIf, Asks, Turns, Calls, ended, failed, answered, again}
use Rattle.lsm_sorted.specs.Compacting.{Compacted}
use Rattle.lsm_sorted.specs.CompactionState.{rules_of, filter_of, callback_of, Compacts, MayCompact}
use Rattle.lsm_sorted.specs.CompactionState.{CompactsNext}
use Rattle.lsm_sorted.proofs.OutsLemmas.{listed, judged}
use Rattle.lsm_sorted.proofs.TurnLemmas.{EachJudged, turn_explained}
use Rattle.lsm_sorted.proofs.CallLemmas.{call_more, call_none}

module _ {F C : Type 0} (gives : F → Entry → Result Verdict Error → F → Type 0)
    (gets : C → Entry → C → Type 0) (rules : Rules) where
  -- the last call, which finds nothing left
  pub call_last : (f g : F) (c d : C) (xs ys : List R) → Calls gives gets rules f c xs None g d ys
      → Compacted gives gets rules f c xs [] g d
  call_last f g c d xs ys call =
      let none : ys ≡ [] = call_none gives gets rules f g c d xs ys None call refl in
      call_more gives gets rules g d [] f g c d xs ys None call
      (subst (λ (zs : List R). Compacted gives gets rules g d zs [] g d) (sym none)
      (record {
        judged = [];
        over = refl;
        tombstones = tt;
        answers = refl;
        says =
            refl;
        reports = refl;
      }))

module _ {S F C : Type 0} (front : S → Option R → S → Type 0) (can : S → Type 0) (left : S → Count)
    (gives : F → Entry → Result Verdict Error → F → Type 0) (gets : C → Entry → C → Type 0)
    (stops : Error → Bool) where
  -- all calls up to the one that answers none
  pub whole : (gave : List R) (s t u : CompactionStream S F C R) (xs : List R)
      → Compacts stops front s xs → AllByRecursion (λ r. result_stops stops r ≡ false) gave
      → Yields (CompactsNext front can left gives gets) s gave t
      → CompactsNext front can left gives gets t None u
      → Compacted gives gets (rules_of s) (filter_of s) (callback_of s) xs gave (filter_of u)
      (callback_of u)
  whole [] s t u xs has fine runs last =
      let call = (subst (λ (v : CompactionStream S F C R). CompactsNext front can left gives gets v
      None u) (sym runs) last).calls stops xs has refl in
      call_last gives gets (rules_of s) (filter_of s) (filter_of u) (callback_of s)
      (callback_of u) xs call.0 call.2
  whole (r ∷ gave) s t u xs has fine runs last =
      let v = runs.0 in
      let one = runs.1 in
      let call = one.calls stops xs has fine.0 in
      let rest = whole gave v t u call.0 call.1 fine.1 runs.2 last in
      call_more gives gets (rules_of s) (filter_of u) (callback_of u) gave (filter_of s)
      (filter_of v) (callback_of s) (callback_of v) xs call.0 (Some r) call.2
      (subst (λ (o : Rules). Compacted gives gets o (filter_of v) (callback_of v) call.0 gave
      (filter_of u) (callback_of u)) one.rules rest)

-- a filter that keeps all
abbrev pub KeepsAll : {F : Type 0} → F → Entry → Result Verdict Error → F → Type 0
KeepsAll f x v g = v ≡ Ok keep

abbrev IsKept : Judged → Type 0
IsKept j = j.verdict ≡ Ok keep

items_as_they_are : (rs : List R) → items (as_they_are rs) ≡ rs
items_as_they_are [] = refl
items_as_they_are (Ok x ∷ rs) = ap (λ (ys : List R). Ok x ∷ ys) (items_as_they_are rs)
items_as_they_are (Err e ∷ rs) = ap (λ (ys : List R). Err e ∷ ys) (items_as_they_are rs)

each_as_it_is : (rs : List R) → EachJudged IsKept (as_they_are rs)
each_as_it_is [] = tt
each_as_it_is (Ok x ∷ rs) = (refl, each_as_it_is rs)
each_as_it_is (Err e ∷ rs) = each_as_it_is rs

of_kept : (js : List JudgedItem) → EachJudged IsKept js → js ≡ as_they_are (items js)
of_kept [] h = refl
of_kept (Ok j ∷ js) h =
    ap (λ (v : Result Verdict Error). Ok (judged j.entry v) ∷ js) h.0
    ∙ ap (λ (ks : List JudgedItem). Ok (as_is j.entry) ∷ ks) (of_kept js h.1)
of_kept (Err e ∷ js) h = ap (λ (ks : List JudgedItem). Err e ∷ ks) (of_kept js h)

module _ {F C : Type 0} (gets : C → Entry → C → Type 0) (rules : Rules) where
  asks_keep : (x : Entry) (v : Result Verdict Error) (f g : F) → Asks KeepsAll f x v g → v ≡ Ok keep
  asks_keep x v f g asks = elim (is_tombstone_kind x.kind) as
      (λ b. AsksIf {F = F} KeepsAll (not b) f x v g → v ≡ Ok keep)
      [ true ↦ λ a. a.0 | false ↦ λ a. a ] asks

  turn_keeps : (f g : F) (c d : C) (x : Entry) (rs zs : List R) (r : Option R)
      → Turns KeepsAll gets rules f c x rs r g d zs
      → outs rules (as_they_are (Ok x ∷ rs)) ≡ listed r ++ outs rules (as_they_are zs)
  turn_keeps f g c d x rs zs r t =
      let v = t.verdict in
      let e = turn_explained IsKept (λ y. refl) rules x v rs (as_they_are zs)
      (items_as_they_are zs ∙ t.leaves) in
      let same : e.js ≡ as_they_are (Ok x ∷ rs) =
      of_kept e.js (e.each (asks_keep x v f g t.asks) (each_as_it_is zs))
      ∙ ap as_they_are e.over in
      ap (outs rules) (sym same) ∙ e.gives ∙ ap (λ (o : Option R). listed o
      ++ outs rules (as_they_are zs)) (sym t.answers)

  -- a call takes the first of what is given
  pub call_keeps : (f g : F) (c d : C) (xs ys : List R) (r : Option R)
      → Calls KeepsAll gets rules f c xs r g d ys → outs rules (as_they_are xs) ≡ listed r
      ++ outs rules (as_they_are ys)
  call_keeps f g c d xs ys r (ended) = refl
  call_keeps f g c d xs ys r (failed) = refl
  call_keeps f g c d xs ys r (answered t) = turn_keeps f g c d _ _ ys r t
  call_keeps f g c d xs ys r (again {h = h} {b = b} {zs = zs} t more) =
      turn_keeps f h c b _ _ zs None t ∙ call_keeps h g b d zs ys r more

listed_first : (r : Option R) (zs : List R) → (r ≡ None → zs ≡ []) → (r ≡ first (listed r ++ zs))
    × (zs ≡ but_first (listed r ++ zs))
listed_first None zs h = let none : zs ≡ [] = h refl in
    (sym (ap first none), none ∙ sym (ap but_first none))
listed_first (Some x) zs h = (refl, refl)

module _ {S F C : Type 0} (front : S → Option R → S → Type 0) (can : S → Type 0) (left : S → Count)
    (gets : C → Entry → C → Type 0) (stops : Error → Bool) where
  -- the results that are still to be given
  record Still (rules : Rules) (s : CompactionStream S F C R) (gives : List R) : Type 0 where
    pub list : List R
    pub has : Compacts stops front s list
    pub set : rules_of s ≡ rules
    pub is : gives ≡ outs rules (as_they_are list)

  still_first : (rules : Rules) (s : CompactionStream S F C R) (gives : List R) (r : Option R)
      (t : CompactionStream S F C R) → Still rules s gives
      → CompactsNext front can left KeepsAll gets s r t → answer_stops stops r ≡ false
      → (r ≡ first gives) × Still rules t (but_first gives)
  still_first rules s gives r t was step fine =
      let call = step.calls stops was.list was.has fine in
      let same : outs (rules_of s) (as_they_are was.list) ≡ listed r
      ++ outs (rules_of s) (as_they_are call.0) =
      call_keeps gets (rules_of s) (filter_of s) (filter_of t) (callback_of s)
      (callback_of t) was.list call.0 r call.2 in
      let whole : gives ≡ listed r ++ outs rules (as_they_are call.0) = was.is
      ∙ subst (λ (o : Rules). outs o (as_they_are was.list) ≡ listed r
      ++ outs o (as_they_are call.0)) was.set same in
      let at_end : r ≡ None → outs rules (as_they_are call.0) ≡ [] =
      λ e. ap (λ (ys : List R). outs rules (as_they_are ys))
      (call_none KeepsAll gets (rules_of s) (filter_of s) (filter_of t) (callback_of s)
      (callback_of t) was.list call.0 r call.2 e) in
      let two = listed_first r (outs rules (as_they_are call.0)) at_end in (
        two.0 ∙ sym (ap first whole),
        record {
          list = call.0;
          has = call.1;
          set = step.rules ∙ was.set;
          is = ap but_first whole
              ∙ sym two.1;
        },
      )

  -- a compaction that keeps all but what no reader needs deals what is given
  pub yields_outs : (s : CompactionStream S F C R) (xs : List R) → Compacts stops front s xs
      → YieldsExactly (answer_stops stops) (CompactsNext front can left KeepsAll gets) nowhere s
      (outs (rules_of s) (as_they_are xs))
  yields_outs s xs has = yields_by (answer_stops stops)
      (CompactsNext front can left KeepsAll gets) nowhere (Still (rules_of s))
      (λ u ys r t was step fine. still_first (rules_of s) u ys r t was step fine)
      (λ u ys r t was step fine. absurd step)
      s (outs (rules_of s) (as_they_are xs)) (record
      { list = xs; has = has; set = refl; is = refl })

module _ {S F C : Type 0} (front : S → Option R → S → Type 0) (can : S → Type 0) (left : S → Count)
    (gives : F → Entry → Result Verdict Error → F → Type 0) (gets : C → Entry → C → Type 0) where
  -- it may be called at every state that calls lead to
  pub can_compact : (s : CompactionStream S F C R) → MayCompact front can left s
      → CanYield (CompactsNext front can left gives gets) nowhere (MayCompact front can left)
      (MayCompact front can left) s
  can_compact s may = can_by (CompactsNext front can left gives gets) nowhere
      (MayCompact front can left) (MayCompact front can left) (MayCompact front can left)
      (λ u m. (m, m)) (λ u r t m step. step.may) (λ u r t m step. absurd step) s may

-- where no filter answers an error, a list without errors gives none
not_ok : (e : Error) (rs : List R) (es : List Entry) → Err e ∷ rs ≡ ok_results es → ⊥
not_ok e rs [] h = absurd cc
not_ok e rs (x ∷ es) h = absurd cc

abbrev pub IsCalm : Judged → Type 0
IsCalm j = is_ok j.verdict ≡ true

record CalmVersions (v : Versions) : Type 0 where
  pub calm : v.error ≡ None
  pub all : AllByRecursion IsCalm v.versions

calm_before : (j : Judged) (vs : List Versions) → IsCalm j → AllByRecursion CalmVersions vs
    → AllByRecursion CalmVersions (before j vs)
calm_before j [] h all = (record { calm = refl; all = (h, tt) }, tt)
calm_before j (v ∷ vs) h all =
    let w = all.0 in
    elim (is_version_of v.versions j) as (λ b. AllByRecursion CalmVersions
    (cond b (record { versions = j ∷ v.versions; error = v.error } ∷ vs)
    (record { versions = j ∷ []; error = None } ∷ v ∷ vs))) [
      | true ↦ (record { calm = w.calm; all = (h, w.all) }, all.1)
      | false ↦ (record { calm = refl; all = (h, tt) }, all)
    ]

calm_by_key : (js : List Judged) → AllByRecursion IsCalm js
    → AllByRecursion CalmVersions (by_key (ok_results js))
calm_by_key [] h = tt
calm_by_key (j ∷ js) h = calm_before j (by_key (ok_results js)) h.0 (calm_by_key js h.1)

calm_heads : (watermark : ℕ) (js : List Judged) → AllByRecursion IsCalm js
    → AllByRecursion IsCalm (heads watermark js)
calm_heads watermark [] h = tt
calm_heads watermark (j ∷ js) h = (
  h.0,
  elim (is_cut watermark j) as
      (λ b. AllByRecursion IsCalm (cond b [] (heads watermark js)))
      [ true ↦ tt | false ↦ calm_heads watermark js h.1 ],
)

-- results without errors
abbrev Errorless : List R → Type 0
Errorless rs = rs ≡ ok_results (entries_among rs)

errorless_append : (rs qs : List R) → Errorless rs → Errorless qs → Errorless (rs ++ qs)
errorless_append [] qs h k = k
errorless_append (Ok x ∷ rs) qs h k = let t : rs ≡ ok_results (entries_among rs) = tail_eq h in
    ap (λ (ys : List R). Ok x ∷ ys) (errorless_append rs qs t k)
errorless_append (Err e ∷ rs) qs h k = absurd (not_ok e rs (entries_among rs) h)

errorless_given_by : (rules : Rules) (gone : Entry → Bool) (x : Entry) (v : Result Verdict Error)
    → is_ok v ≡ true → Errorless (head_given rules gone (told_by x v))
errorless_given_by rules gone x (Ok keep) h =
    elim (gone x) as (λ b. Errorless (cond b [] (Ok (zeroed rules x) ∷ [])))
    [ true ↦ refl | false ↦ refl ]
errorless_given_by rules gone x (Ok (replace kind value)) h =
    let y : Entry = record { user_key = x.user_key; seqno = x.seqno; kind = kind; value = value } in
    elim (gone y) as (λ b. Errorless (cond b [] (Ok (zeroed rules y) ∷ [])))
    [ true ↦ refl | false ↦ refl ]
errorless_given_by rules gone x (Ok drop) h = refl
errorless_given_by rules gone x (Err e) h = absurd cc

errorless_given : (rules : Rules) (gone : Entry → Bool) (js : List Judged)
    → AllByRecursion IsCalm js → Errorless (given rules gone js)
errorless_given rules gone [] h = refl
errorless_given rules gone (j ∷ []) h = errorless_given_by rules gone j.entry j.verdict h.0
errorless_given rules gone (j ∷ k ∷ ks) h = errorless_append
    (head_given rules (λ x. false) (returned j)) (given rules gone (k ∷ ks))
    (errorless_given_by rules (λ x. false) j.entry j.verdict h.0)
    (errorless_given rules gone (k ∷ ks) h.1)

errorless_joined : (rules : Rules) (vs : List Versions) → AllByRecursion CalmVersions vs
    → Errorless (concat_by (outs_of rules) vs)
errorless_joined rules [] h = refl
errorless_joined rules (v ∷ vs) h =
    let w = h.0 in
    let hs = given rules (gone rules (first (entries (expired rules.watermark v.versions))) v.error)
    (heads rules.watermark v.versions) in
    errorless_append (outs_of rules v) (concat_by (outs_of rules) vs)
    (errorless_append hs (error_of v.error) (errorless_given rules
    (gone rules (first (entries (expired rules.watermark v.versions))) v.error)
    (heads rules.watermark v.versions) (calm_heads rules.watermark v.versions w.all))
    (subst (λ (o : Option Error). Errorless (error_of o)) (sym w.calm) refl))
    (errorless_joined rules vs h.1)

pub outs_kept : (rules : Rules) (js : List Judged) → AllByRecursion IsCalm js
    → outs rules (ok_results js) ≡ ok_results (kept rules js)
outs_kept rules js h = errorless_joined rules (by_key (ok_results js)) (calm_by_key js h)

calm_unfiltered : (es : List Entry) → AllByRecursion IsCalm (unfiltered es)
calm_unfiltered [] = tt
calm_unfiltered (e ∷ es) = (refl, calm_unfiltered es)

all_as_they_are : (es : List Entry) → as_they_are (ok_results es) ≡ ok_results (unfiltered es)
all_as_they_are [] = refl
all_as_they_are (e ∷ es) = ap (λ (js : List JudgedItem). Ok (as_is e) ∷ js) (all_as_they_are es)

-- entries without errors, of which a filter keeps all, give what is kept
pub outs_unfiltered : (rules : Rules) (es : List Entry)
    → outs rules (as_they_are (ok_results es)) ≡ ok_results (kept rules (unfiltered es))
outs_unfiltered rules es = ap (outs rules) (all_as_they_are es)
    ∙ outs_kept rules (unfiltered es) (calm_unfiltered es)
