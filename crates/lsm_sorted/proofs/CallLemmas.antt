-- Calls of a compaction, and what the rest of them gives.
use Rattle.std.proofs.Common.{◌≡◌, refl, sym, ◌∙◌, ap, subst, true, false, cond, not, List, [], ◌∷◌}
use Rattle.std.proofs.Common.{◌++◌}
use Rattle.std.specs.Prelude.{Option, None, Result, Ok, Err}
use Rattle.sst_entries.specs.Entry.{Entry}
use Rattle.sst_entries.specs.Kind.{is_tombstone_kind}
use Rattle.sst_entries.specs.declared.error.Error.{Error}
use Rattle.lsm_sorted.specs.merge.Ends.{R}
use Rattle.lsm_sorted.specs.declared.compaction.Rules.{Rules}
use Rattle.lsm_sorted.specs.Compaction.{Verdict, keep, Judged, JudgedItem, told_by, reports_by}
use Rattle.lsm_sorted.specs.Compaction.{reported, asked}
use Rattle.lsm_sorted.specs.Compacting.{turned, AsksIf, Asks, SaysOf, GetsAll, Turns, Calls, ended}
use Rattle.lsm_sorted.specs.Compacting.{failed, answered, again, KeepsTombstones, Compacted}
use Rattle.lsm_sorted.proofs.OutsLemmas.{listed, asked_head, judged}
use Rattle.lsm_sorted.proofs.TurnLemmas.{EachJudged, turn_explained}

abbrev pub StaysIfTombstone : Judged → Type 0
StaysIfTombstone j = is_tombstone_kind j.entry.kind ≡ true → j.verdict ≡ Ok keep

pub to_tombstones : (js : List JudgedItem) → EachJudged StaysIfTombstone js → KeepsTombstones js
to_tombstones [] h = tt
to_tombstones (Ok j ∷ js) h = (h.0, to_tombstones js h.1)
to_tombstones (Err e ∷ js) h = to_tombstones js h

pub of_tombstones : (js : List JudgedItem) → KeepsTombstones js → EachJudged StaysIfTombstone js
of_tombstones [] h = tt
of_tombstones (Ok j ∷ js) h = (h.0, of_tombstones js h.1)
of_tombstones (Err e ∷ js) h = of_tombstones js h

pub gets_append : {C : Type 0} (gets : C → Entry → C → Type 0) (xs ys : List Entry) (b c d : C)
    → GetsAll gets b xs c → GetsAll gets c ys d → GetsAll gets b (xs ++ ys) d
gets_append gets [] ys b c d h k = subst (λ e. GetsAll gets e ys d) h k
gets_append gets (x ∷ xs) ys b c d h k = (h.0, h.1, gets_append gets xs ys h.0 c d h.2 k)

module _ {F C : Type 0} (gives : F → Entry → Result Verdict Error → F → Type 0)
    (gets : C → Entry → C → Type 0) (rules : Rules) where
  -- asked of a head, a filter says what its turn had it say
  pub says_head : (x : Entry) (v : Result Verdict Error) (f g h : F) (js : List Judged)
      → Asks gives f x v g → SaysOf gives g js h → SaysOf gives f (asked_head (judged x v) ++ js) h
  says_head x v f g h js asks says =
      elim (not (is_tombstone_kind x.kind)) as (λ b. AsksIf gives b f x v g
      → SaysOf gives f (cond b (judged x v ∷ []) [] ++ js) h) [
        | true ↦ λ a. (g, a, says)
        | false ↦ λ a. subst (λ u. SaysOf gives u js h) a.1 says
      ] asks

  pub stays : (x : Entry) (v : Result Verdict Error) (f g : F) → Asks gives f x v g
      → StaysIfTombstone (judged x v)
  stays x v f g asks =
      elim (is_tombstone_kind x.kind) as (λ b. AsksIf gives (not b) f x v g → b ≡ true
      → v ≡ Ok keep) [
        | true ↦ λ a e. a.0
        | false ↦ λ a e. absurd cc
      ] asks

  -- a turn before the rest of a compaction
  pub turn_more : (f h g : F) (c b d : C) (x : Entry) (rs zs : List R) (r : Option R) (gave : List
      R) → Turns gives gets rules f c x rs r h b zs → Compacted gives gets rules h b zs gave g d
      → Compacted gives gets rules f c (Ok x ∷ rs) (listed r ++ gave) g d
  turn_more f h g c b d x rs zs r gave t rest =
      let v = t.verdict in
      let e = turn_explained StaysIfTombstone (λ y _. refl) rules x v rs rest.judged
      (rest.over ∙ t.leaves) in
      record {
        judged = e.js;
        over = e.over;
        tombstones = to_tombstones e.js (e.each (stays x v f h t.asks)
            (of_tombstones rest.judged rest.tombstones));
        answers = ap (λ (o : Option R). listed o ++ gave) t.answers
            ∙ ap (λ (ys : List R). listed (turned rules (told_by x v) rs).answer ++ ys) rest.answers
            ∙ sym e.gives;
        says = subst (λ (js : List Judged). SaysOf gives f js g) (sym e.asks)
            (says_head x v f h g (asked rules rest.judged) t.asks rest.says);
        reports = subst (λ (ys : List Entry). GetsAll gets c ys d) (sym e.reports)
            (gets_append gets (reports_by x v ++ (turned rules (told_by x v) rs).reports)
            (reported rules rest.judged) c b d t.reports rest.reports);
      }

  -- a call before the rest of a compaction
  pub call_more : (g : F) (d : C) (gave : List R) (f h : F) (c b : C) (xs ys : List R)
      (r : Option R) → Calls gives gets rules f c xs r h b ys
      → Compacted gives gets rules h b ys gave g d → Compacted gives gets rules f c xs
      (listed r ++ gave) g d
  call_more g d gave f h c b xs ys r (ended) rest = rest
  call_more g d gave f h c b xs ys r (failed {e = e}) rest = record {
    judged = Err e ∷ rest.judged;
    over = ap (λ (rs : List R). Err e ∷ rs) rest.over;
    tombstones = rest.tombstones;
    answers = ap (λ (rs : List R). Err e ∷ rs) rest.answers;
    says = rest.says;
    reports = rest.reports;
  }
  call_more g d gave f h c b xs ys r (answered t) rest = turn_more f h g c b d _ _ ys r gave t rest
  call_more g d gave f h c b xs ys r (again t more) rest =
      turn_more f _ g c _ d _ _ _ None (listed r ++ gave) t
      (call_more g d gave _ h _ b _ ys r more rest)

  -- a call answers none only where nothing is left
  pub call_none : (f h : F) (c b : C) (xs ys : List R) (r : Option R)
      → Calls gives gets rules f c xs r h b ys → r ≡ None → ys ≡ []
  call_none f h c b xs ys r (ended) e = refl
  call_none f h c b xs ys r (failed) e = absurd cc
  call_none f h c b xs ys r (answered t) e = absurd cc
  call_none f h c b xs ys r (again t more) e = call_none _ h _ b _ ys r more e
