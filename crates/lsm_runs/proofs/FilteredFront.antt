-- What a compaction gave of a list without errors is a front of what some verdicts keep of it, and
-- comes in order where the list does.
use Rattle.std.proofs.Common.{◌≡◌, refl, sym, ◌∙◌, ap, subst, List, [], ◌∷◌, ◌++◌}
use Rattle.std.specs.Prelude.{Result, Ok, Err}
use Rattle.sst_entries.specs.Entry.{Entry}
use Rattle.sst_entries.specs.Stream.{ok_results}
use Rattle.sst_entries.specs.declared.error.Error.{Error}
use Rattle.lsm_sorted.specs.merge.Ends.{R}
use Rattle.lsm_sorted.specs.merge.Union.{entries_among}
use Rattle.lsm_sorted.proofs.Pairs.{as_pairs, from_pairs}
use Rattle.lsm_sorted.specs.declared.compaction.Rules.{Rules}
use Rattle.lsm_sorted.specs.Compaction.{Judged, JudgedItem, Verdict, entries, items, kept, outs}
use Rattle.lsm_sorted.specs.lending.LentCompaction.{CompactedPart, lent_outs_by}
use Rattle.lsm_sorted.proofs.LendingCompactionRuns.{calm_judged}
use Rattle.lsm_sorted.proofs.KeptOrder.{Ordered, kept_in_order}
use Rattle.lsm_writers.specs.Writing.{IsWritable}

pub ordered_of : (es : List Entry) → IsWritable es → Ordered es
ordered_of es h = record { pairs = as_pairs es h.strict; low = h.numbered }

pub writable_of : (es : List Entry) → Ordered es → IsWritable es
writable_of es h = record { strict = from_pairs es h.pairs; numbered = h.low }

-- results without errors are those of judged entries
pub record JudgedOf (es : List Entry) (items_are : List JudgedItem) : Type 0 where
  pub js : List Judged
  pub over : entries js ≡ es
  pub are : items_are ≡ ok_results js

pub judged_of : (items_are : List JudgedItem) (es : List Entry) → items items_are ≡ ok_results es
    → JudgedOf es items_are
judged_of [] [] h = record { js = []; over = refl; are = refl }
judged_of [] (e ∷ es) h = absurd cc
judged_of (Ok j ∷ js) [] h = absurd cc
judged_of (Err f ∷ js) [] h = absurd cc
judged_of (Ok j ∷ js) (e ∷ es) h =
    let same : j.entry ≡ e = cc in
    let rest : items js ≡ ok_results es = cc in
    let m = judged_of js es rest in
    record {
      js = j ∷ m.js;
      over = ap (λ (x : Entry). x ∷ entries m.js) same ∙ ap (λ (xs : List Entry). e ∷ xs) m.over;
      are = ap (λ (xs : List JudgedItem). Ok j ∷ xs) m.are;
    }
judged_of (Err f ∷ js) (e ∷ es) h = absurd cc

pub among_front : (es : List Entry) (rs : List R)
    → entries_among (ok_results es ++ rs) ≡ es ++ entries_among rs
among_front [] rs = refl
among_front (e ∷ es) rs = ap (λ (xs : List Entry). e ∷ xs) (among_front es rs)

-- verdicts that keep these of a list in front
pub record KeptFront (rules : Rules) (es list : List Entry) : Type 0 where
  pub judged : List Judged
  pub over : entries judged ≡ es
  pub more : List Entry
  pub front : kept rules judged ≡ list ++ more

pub in_order : (rules : Rules) (es list : List Entry) → IsWritable es → (k : KeptFront rules es list)
    → IsWritable (list ++ k.more)
in_order rules es list writable k = writable_of (list ++ k.more) (subst Ordered k.front
    (kept_in_order rules k.judged (subst Ordered (sym k.over) (ordered_of es writable))))

abbrev front_by : (rules : Rules) (es list : List Entry) (js : List JudgedItem) (rest : List R)
    → items js ≡ ok_results es → ok_results list ++ rest ≡ lent_outs_by rules js
    → KeptFront rules es list
front_by rules es list js rest over answers =
    let j = judged_of js es over in
    record {
      judged = j.js;
      over = j.over;
      more = entries_among rest;
      front = ap (λ (is : List JudgedItem). entries_among (outs rules is)) (sym j.are)
          ∙ ap entries_among (sym (calm_judged rules js es over) ∙ sym answers)
          ∙ among_front list rest;
    }

module _ {F C : Type 0} (gives : F → Entry → Result Verdict Error → F → Type 0)
    (gets : C → Entry → C → Type 0) (rules : Rules) (f g : F) (c d : C) (es list : List Entry) where
  abbrev pub front_of : CompactedPart gives gets rules f c (ok_results es) (ok_results list) g d
      → KeptFront rules es list
  front_of p = front_by rules es list p.does.judged _ p.does.over p.does.answers
