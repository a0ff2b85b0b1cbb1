-- A compaction that lends, where the filter keeps every entry.
use Rattle.std.proofs.Common.{◌≡◌, refl, sym, ◌∙◌, ap, subst, ℕ, Bool, true, false, cond, not}
use Rattle.std.proofs.Common.{List, [], ◌∷◌, ◌++◌}
use Rattle.std.specs.Prelude.{Option, Some, None, Result, Ok, Err, filter, map}
use Rattle.std.specs.List.{AllByRecursion}
use Rattle.sst_entries.specs.Entry.{Entry}
use Rattle.sst_entries.specs.Kind.{is_tombstone_kind}
use Rattle.sst_entries.specs.Stream.{first}
use Rattle.sst_entries.specs.declared.error.Error.{Error}
use Rattle.sst_entries.specs.declared.error.Error.TheVariants.{OutOfMemory}
use Rattle.sst_entries.proofs.Lists.{all_append, all_behind, all_front, all_more}
use Rattle.lsm_sorted.specs.merge.Ends.{R}
use Rattle.lsm_sorted.specs.declared.compaction.Rules.{Rules}
use Rattle.lsm_sorted.specs.Compaction.{Judged, JudgedItem, Verdict, Versions, as_is, as_they_are}
use Rattle.lsm_sorted.specs.Compaction.{asked, asked_of, before, by_key, concat_by, entries}
use Rattle.lsm_sorted.specs.Compaction.{error_of, expired, given, heads, is_cut, is_version_of}
use Rattle.lsm_sorted.specs.Compaction.{drop, head_given, items, keep, replace, reported, returned}
use Rattle.lsm_sorted.specs.Compaction.{told_by, zeroed}
use Rattle.lsm_sorted.specs.Compacting.{GetsAll, KeepsTombstones, SaysOf}
use Rattle.lsm_sorted.specs.lending.LentCompaction.{CompactedLent, gone_of_lent, lent_outs}
use Rattle.lsm_sorted.specs.lending.LentCompaction.{lent_outs_by}
use Rattle.lsm_sorted.specs.lending.LentCompaction.{lent_outs_of}
use Rattle.lsm_sorted.proofs.WholeLemmas.{KeepsAll}
use Rattle.lsm_sorted.proofs.LentOutsLemmas.{Calm}

-- a callback that takes anything
abbrev pub TakesAny : {C : Type 0} → C → Entry → C → Type 0
TakesAny c x d = Unit {0}

-- an entry stays as it is
abbrev Stays : Judged → Type 0
Stays j = j.verdict ≡ Ok keep

abbrev EachIn : (Judged → Type 0) → List Versions → Type 0
EachIn P vs = AllByRecursion (λ v. AllByRecursion P v.versions) vs

each_before : (P : Judged → Type 0) (j : Judged) (vs : List Versions) → P j → EachIn P vs
    → EachIn P (before j vs)
each_before P j [] h all = ((h, tt), tt)
each_before P j (v ∷ vs) h all = elim (is_version_of v.versions j) as (λ b. EachIn P
    (cond b (record { versions = j ∷ v.versions; error = v.error } ∷ vs)
    (record { versions = j ∷ []; error = None } ∷ v ∷ vs)))
    [ true ↦ ((h, all.0), all.1) | false ↦ ((h, tt), all) ]

each_head : (P : Judged → Type 0) (watermark : ℕ) (js : List Judged) → AllByRecursion P js
    → AllByRecursion P (heads watermark js)
each_head P watermark [] h = tt
each_head P watermark (j ∷ js) h = (
  h.0,
  elim (is_cut watermark j) as (λ b. AllByRecursion P (cond b [] (heads watermark js)))
      [ true ↦ tt | false ↦ each_head P watermark js h.1 ],
)

-- ---- every entry stays: a whole compaction does so

all_stay : (rs : List R) → EachIn Stays (by_key (as_they_are rs))
all_stay [] = tt
all_stay (Ok x ∷ rs) = each_before Stays (as_is x) (by_key (as_they_are rs)) refl (all_stay rs)
all_stay (Err e ∷ rs) = (tt, all_stay rs)

asked_alone : (js : List Judged) → AllByRecursion Stays js
    → AllByRecursion Stays (filter (λ j. not (is_tombstone_kind j.entry.kind)) js)
asked_alone [] h = tt
asked_alone (j ∷ js) h = elim (not (is_tombstone_kind j.entry.kind)) as
    (λ b. AllByRecursion Stays
    (cond b (j ∷ filter (λ k. not (is_tombstone_kind k.entry.kind)) js)
    (filter (λ k. not (is_tombstone_kind k.entry.kind)) js)))
    [ true ↦ (h.0, asked_alone js h.1) | false ↦ asked_alone js h.1 ]

asked_stay : (rules : Rules) (vs : List Versions) → EachIn Stays vs
    → AllByRecursion Stays (concat_by (asked_of rules) vs)
asked_stay rules [] h = tt
asked_stay rules (v ∷ vs) h = all_append Stays (asked_of rules v) (concat_by (asked_of rules) vs)
    (asked_alone (heads rules.watermark v.versions)
    (each_head Stays rules.watermark v.versions h.0)) (asked_stay rules vs h.1)

says_all : {F : Type 0} (f : F) (js : List Judged) → AllByRecursion Stays js
    → SaysOf {F = F} KeepsAll f js f
says_all f [] h = refl
says_all f (j ∷ js) h = (f, h.0, says_all f js h.1)

pub takes_all : {C : Type 0} (c : C) (xs : List Entry) → GetsAll {C = C} TakesAny c xs c
takes_all c [] = refl
takes_all c (x ∷ xs) = (c, tt, takes_all c xs)

pub tombstones_stay : (rs : List R) → KeepsTombstones (as_they_are rs)
tombstones_stay [] = tt
tombstones_stay (Ok x ∷ rs) = (λ h. refl, tombstones_stay rs)
tombstones_stay (Err e ∷ rs) = tombstones_stay rs

pub items_are : (rs : List R) → items (as_they_are rs) ≡ rs
items_are [] = refl
items_are (Ok x ∷ rs) = ap (λ (qs : List R). Ok x ∷ qs) (items_are rs)
items_are (Err e ∷ rs) = ap (λ (qs : List R). Err e ∷ qs) (items_are rs)

pub compacts_all : {F C : Type 0} (rules : Rules) (f : F) (c : C) (rs : List R)
    → CompactedLent {F = F} {C = C} KeepsAll TakesAny rules f c rs (lent_outs rules rs) f c
compacts_all rules f c rs = record {
  judged = as_they_are rs;
  over = items_are rs;
  tombstones = tombstones_stay rs;
  answers = refl;
  says = says_all f (asked rules (as_they_are rs))
      (asked_stay rules (by_key (as_they_are rs)) (all_stay rs));
  reports = takes_all c (reported rules (as_they_are rs));
}

-- ---- and no whole compaction does otherwise

-- versions as they are
abbrev plain_ones : List Judged → List Judged
plain_ones js = map (λ j. as_is j.entry) js

abbrev plain : Versions → Versions
plain v = record { versions = plain_ones v.versions; error = v.error }

plain_version : (js : List Judged) (j : Judged)
    → is_version_of (plain_ones js) (as_is j.entry) ≡ is_version_of js j
plain_version [] j = refl
plain_version (k ∷ js) j = refl

plain_before : (j : Judged) (vs : List Versions)
    → before (as_is j.entry) (map plain vs) ≡ map plain (before j vs)
plain_before j [] = refl
plain_before j (v ∷ vs) =
    let joined : Versions =
    record { versions = as_is j.entry ∷ plain_ones v.versions; error = v.error } in
    let alone : Versions = record { versions = as_is j.entry ∷ []; error = None } in
    ap (λ (b : Bool). cond b (joined ∷ map plain vs) (alone ∷ plain v ∷ map plain vs))
    (plain_version v.versions j)
    ∙ elim (is_version_of v.versions j) as
    (λ b. cond b (joined ∷ map plain vs) (alone ∷ plain v ∷ map plain vs)
    ≡ map plain (cond b (record { versions = j ∷ v.versions; error = v.error } ∷ vs)
    (record { versions = j ∷ []; error = None } ∷ v ∷ vs))) [ true ↦ refl | false ↦ refl ]

plain_keys : (js : List JudgedItem) → by_key (as_they_are (items js)) ≡ map plain (by_key js)
plain_keys [] = refl
plain_keys (Ok j ∷ js) = ap (before (as_is j.entry)) (plain_keys js) ∙ plain_before j (by_key js)
plain_keys (Err e ∷ js) =
    ap (λ (vs : List Versions). record { versions = []; error = Some e } ∷ vs) (plain_keys js)

plain_is : (j : Judged) → Stays j → as_is j.entry ≡ j
plain_is j h = ap (λ (v : Result Verdict Error). record { entry = j.entry; verdict = v }) (sym h)

plain_entries : (js : List Judged) → entries (plain_ones js) ≡ entries js
plain_entries [] = refl
plain_entries (j ∷ js) = ap (λ (xs : List Entry). j.entry ∷ xs) (plain_entries js)

-- the heads of versions, and those that they hide
record AsPlain (watermark : ℕ) (js : List Judged) : Type 0 where
  pub heads_are : heads watermark (plain_ones js) ≡ heads watermark js
  pub hidden_are : entries (expired watermark (plain_ones js)) ≡ entries (expired watermark js)

as_plain : (watermark : ℕ) (js : List Judged) → AllByRecursion Stays (heads watermark js)
    → AsPlain watermark js
as_plain watermark [] h = record { heads_are = refl; hidden_are = refl }
as_plain watermark (j ∷ js) h =
    let is : as_is j.entry ≡ j = plain_is j h.0 in
    let cuts : is_cut watermark (as_is j.entry) ≡ is_cut watermark j = ap (is_cut watermark) is in
    elim (is_cut watermark j) as (λ b. is_cut watermark j ≡ b
    → AllByRecursion Stays (cond b [] (heads watermark js)) → AsPlain watermark (j ∷ js)) [
      | true ↦ λ e g. record {
        heads_are = ap (λ (b : Bool). as_is j.entry ∷ cond b [] (heads watermark (plain_ones js)))
            (cuts ∙ e)
            ∙ ap (λ (k : Judged). k ∷ []) is
            ∙ sym (ap (λ (b : Bool). j ∷ cond b [] (heads watermark js)) e);
        hidden_are = ap (λ (b : Bool).
            entries (cond b (plain_ones js) (expired watermark (plain_ones js)))) (cuts ∙ e)
            ∙ plain_entries js
            ∙ sym (ap (λ (b : Bool). entries (cond b js (expired watermark js))) e);
      }
      | false ↦ λ e g.
          let more = as_plain watermark js g in
          record {
            heads_are = ap (λ (b : Bool).
                as_is j.entry ∷ cond b [] (heads watermark (plain_ones js))) (cuts ∙ e)
                ∙ ap (λ (k : Judged). k ∷ heads watermark (plain_ones js)) is
                ∙ ap (λ (ks : List Judged). j ∷ ks) more.heads_are
                ∙ sym (ap (λ (b : Bool). j ∷ cond b [] (heads watermark js)) e);
            hidden_are = ap (λ (b : Bool).
                entries (cond b (plain_ones js) (expired watermark (plain_ones js)))) (cuts ∙ e)
                ∙ more.hidden_are
                ∙ sym (ap (λ (b : Bool). entries (cond b js (expired watermark js))) e);
          }
    ] refl h.1

plain_outs : (rules : Rules) (v : Versions)
    → AllByRecursion Stays (heads rules.watermark v.versions)
    → lent_outs_of rules (plain v) ≡ lent_outs_of rules v
plain_outs rules v h =
    let same = as_plain rules.watermark v.versions h in
    ap (λ (hs : List Judged). given rules (gone_of_lent rules
    (first (entries (expired rules.watermark (plain_ones v.versions)))) v.error) hs
    ++ error_of v.error) same.heads_are
    ∙ ap (λ (es : List Entry). given rules (gone_of_lent rules (first es) v.error)
    (heads rules.watermark v.versions) ++ error_of v.error) same.hidden_are

plain_all : (rules : Rules) (vs : List Versions)
    → AllByRecursion (λ v. AllByRecursion Stays (heads rules.watermark v.versions)) vs
    → concat_by (lent_outs_of rules) (map plain vs) ≡ concat_by (lent_outs_of rules) vs
plain_all rules [] h = refl
plain_all rules (v ∷ vs) h =
    ap (λ (ys : List R). ys ++ concat_by (lent_outs_of rules) (map plain vs))
    (plain_outs rules v h.0)
    ∙ ap (λ (ys : List R). lent_outs_of rules v ++ ys) (plain_all rules vs h.1)

-- a tombstone stays
abbrev StaysDead : Judged → Type 0
StaysDead j = is_tombstone_kind j.entry.kind ≡ true → Stays j

dead_stay : (js : List JudgedItem) → KeepsTombstones js → EachIn StaysDead (by_key js)
dead_stay [] h = tt
dead_stay (Ok j ∷ js) h = each_before StaysDead j (by_key js) h.0 (dead_stay js h.1)
dead_stay (Err e ∷ js) h = (tt, dead_stay js h)

said_stay : {F : Type 0} (f g : F) (js : List Judged) → SaysOf {F = F} KeepsAll f js g
    → AllByRecursion Stays js
said_stay f g [] h = tt
said_stay f g (j ∷ js) h = (h.1, said_stay h.0 g js h.2)

-- what holds of all of which the filter was asked, and of what stays as it is, holds of all heads
module _ (P : Judged → Type 0) (of_stays : (j : Judged) → Stays j → P j) where
  heads_so : (js : List Judged) → AllByRecursion StaysDead js
      → AllByRecursion P (filter (λ j. not (is_tombstone_kind j.entry.kind)) js)
      → AllByRecursion P js
  heads_so [] dead returned = tt
  heads_so (j ∷ js) dead returned = elim (is_tombstone_kind j.entry.kind) as
      (λ b. is_tombstone_kind j.entry.kind ≡ b → AllByRecursion P
      (cond (not b) (j ∷ filter (λ k. not (is_tombstone_kind k.entry.kind)) js)
      (filter (λ k. not (is_tombstone_kind k.entry.kind)) js)) → AllByRecursion P (j ∷ js)) [
        | true ↦ λ e h. (of_stays j (dead.0 e), heads_so js dead.1 h)
        | false ↦ λ e h. (h.0, heads_so js dead.1 h.1)
      ] refl returned

  keys_so : (rules : Rules) (vs : List Versions) → EachIn StaysDead vs
      → AllByRecursion P (concat_by (asked_of rules) vs)
      → AllByRecursion (λ v. AllByRecursion P (heads rules.watermark v.versions)) vs
  keys_so rules [] dead returned = tt
  keys_so rules (v ∷ vs) dead returned = (
    heads_so (heads rules.watermark v.versions)
        (each_head StaysDead rules.watermark v.versions dead.0)
        (all_front P (asked_of rules v) (concat_by (asked_of rules) vs) returned),
    keys_so rules vs dead.1
        (all_behind P (asked_of rules v) (concat_by (asked_of rules) vs) returned),
  )

-- what a filter that keeps every entry lets through, whatever is reported
pub record KeepsThem {F : Type 0} (rules : Rules) (f g : F) (rs gave : List R) : Type 0 where
  pub judged : List JudgedItem
  pub over : items judged ≡ rs
  pub tombstones : KeepsTombstones judged
  pub answers : gave ≡ lent_outs_by rules judged
  pub says : SaysOf {F = F} KeepsAll f (asked rules judged) g

pub keeps_all : {F : Type 0} (rules : Rules) (f g : F) (rs gave : List R)
    → KeepsThem rules f g rs gave → gave ≡ lent_outs rules rs
keeps_all rules f g rs gave does =
    let js : List JudgedItem = does.judged in
    does.answers
    ∙ sym (ap (concat_by (lent_outs_of rules)) (plain_keys js)
    ∙ plain_all rules (by_key js)
    (keys_so Stays (λ j h. h) rules (by_key js) (dead_stay js does.tombstones)
    (said_stay f g (asked rules js) does.says)))
    ∙ ap (lent_outs rules) does.over

-- ---- errors of the filter

-- no error but an allocation failure
abbrev pub SaysMemory : Judged → Type 0
SaysMemory j = (e : Error) → j.verdict ≡ Err e → e ≡ OutOfMemory

abbrev pub IsMemoryAtMost : R → Type 0
IsMemoryAtMost (Ok x) = Unit {0}
IsMemoryAtMost (Err e) = e ≡ OutOfMemory

stays_so : (j : Judged) → Stays j → SaysMemory j
stays_so j stays e fails = let no : Ok keep ≡ Err e = sym stays ∙ fails in absurd cc

head_so : (rules : Rules) (gone : Entry → Bool) (x : Entry) (v : Result Verdict Error)
    → SaysMemory (record { entry = x; verdict = v })
    → AllByRecursion IsMemoryAtMost (head_given rules gone (told_by x v))
head_so rules gone x (Ok keep) says = elim (gone x) as
    (λ b. AllByRecursion IsMemoryAtMost (cond b [] (Ok (zeroed rules x) ∷ [])))
    [ true ↦ tt | false ↦ (tt, tt) ]
head_so rules gone x (Ok (replace kind value)) says =
    let y : Entry = record { user_key = x.user_key; seqno = x.seqno; kind = kind; value = value } in
    elim (gone y) as
    (λ b. AllByRecursion IsMemoryAtMost (cond b [] (Ok (zeroed rules y) ∷ [])))
    [ true ↦ tt | false ↦ (tt, tt) ]
head_so rules gone x (Ok drop) says = tt
head_so rules gone x (Err e) says = (says e refl, tt)

given_so : (rules : Rules) (gone : Entry → Bool) (js : List Judged)
    → AllByRecursion SaysMemory js → AllByRecursion IsMemoryAtMost (given rules gone js)
given_so rules gone [] says = tt
given_so rules gone (j ∷ []) says = head_so rules gone j.entry j.verdict says.0
given_so rules gone (j ∷ k ∷ ks) says =
    all_append IsMemoryAtMost (head_given rules (λ x. false) (returned j)) (given rules gone (k ∷ ks))
    (head_so rules (λ x. false) j.entry j.verdict says.0) (given_so rules gone (k ∷ ks) says.1)

outs_so : (rules : Rules) (vs : List Versions) → Calm vs
    → AllByRecursion (λ v. AllByRecursion SaysMemory (heads rules.watermark v.versions)) vs
    → AllByRecursion IsMemoryAtMost (concat_by (lent_outs_of rules) vs)
outs_so rules [] calm says = tt
outs_so rules (v ∷ vs) calm says =
    let gone = gone_of_lent rules (first (entries (expired rules.watermark v.versions))) v.error in
    let hs : List Judged = heads rules.watermark v.versions in
    all_append IsMemoryAtMost (lent_outs_of rules v) (concat_by (lent_outs_of rules) vs)
    (all_append IsMemoryAtMost (given rules gone hs) (error_of v.error)
    (given_so rules gone hs says.0)
    (subst (λ (o : Option Error). AllByRecursion IsMemoryAtMost (error_of o)) (sym calm.0) tt))
    (outs_so rules vs calm.1 says.1)

-- of entries without errors, where all of which it was asked it failed at most so
pub memory_at_most : (rules : Rules) (js : List JudgedItem) → Calm (by_key js)
    → KeepsTombstones js → AllByRecursion SaysMemory (asked rules js)
    → AllByRecursion IsMemoryAtMost (lent_outs_by rules js)
memory_at_most rules js calm tombstones says = outs_so rules (by_key js) calm
    (keys_so SaysMemory stays_so rules (by_key js) (dead_stay js tombstones) says)

-- what stays as it is fails not at all
pub as_they_are_so : (rules : Rules) (rs : List R)
    → AllByRecursion SaysMemory (asked rules (as_they_are rs))
as_they_are_so rules rs = all_more Stays SaysMemory stays_so (asked rules (as_they_are rs))
    (asked_stay rules (by_key (as_they_are rs)) (all_stay rs))
