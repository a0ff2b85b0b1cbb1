-- Runs side by side of which a part is compacted, and what is read of them.
use Rattle.std.proofs.Common.{◌≡◌, sym, ◌∙◌, ap, subst, ℕ, ◌+◌, ◌<◌, ◌≤◌, List, [], ◌∷◌, ◌++◌}
use Rattle.std.proofs.Common.{get_or, length, take, append_assoc, append-nil}
use Rattle.std.specs.Prelude.{Option, Some, None, Result, Ok, Err, IfOk, MatchOption, map, ◌⊎◌}
use Rattle.std.specs.List.{AllZip}
use Rattle.std.specs.declared.ops.Bound.{Bound}
use Rattle.std.proofs.lemmas.List.{map-append, take_all, take_more}
use Rattle.sst_entries.specs.declared.error.Error.{Error}
use Rattle.sst_entries.specs.Entry.{Entry}
use Rattle.sst_entries.specs.Strict.{IsStrict}
use Rattle.sst_blocks.specs.table.Chunks.{joined}
use Rattle.lsm_sorted.specs.version.Run.{IsInOrder}
use Rattle.lsm_readers.specs.point.Table.{OpenTable}
use Rattle.lsm_sorted.specs.declared.compaction.Rules.{Rules}
use Rattle.lsm_sorted.specs.Point.{shown}
use Rattle.lsm_sorted.specs.ReadLaw.{AllNewer, IsPlain}
use Rattle.lsm_runs.specs.compaction.Chain.{IsRunOfList}
use Rattle.lsm_runs.specs.compaction.PartReads.{HoldSides, ReadsKept, ReadsOf, ShowAlike}
use Rattle.lsm_runs.specs.compaction.ReadsCompacted.{PointsStay, RangesStay, SideBySide, joined_in}
use Rattle.lsm_runs.specs.RunLists.{HoldLists, RunsHoldLists}
use Rattle.lsm_run_parts.specs.RunParts.{range_of}
use Rattle.lsm_runs.specs.SeveralRuns.{union_in}
use Rattle.lsm_runs.proofs.CompactedBack.{lift_zero}
use Rattle.lsm_runs.proofs.RunBack.{run_held}

-- ---- what runs side by side hold

zip_join : {A B : Type 0} (Q : A → B → Type 0) (xs us : List A) (ys vs : List B) → AllZip Q xs ys
    → AllZip Q us vs → AllZip Q (xs ++ us) (ys ++ vs)
zip_join Q [] us [] vs front back = back
zip_join Q [] us (y ∷ ys) vs front back = absurd front
zip_join Q (x ∷ xs) us [] vs front back = absurd front
zip_join Q (x ∷ xs) us (y ∷ ys) vs front back = (front.0, zip_join Q xs us ys vs front.1 back)

abbrev Held : List OpenTable → List (List Entry) → Type 0
Held tables ls = IsInOrder range_of tables × HoldLists tables ls

pub sides_held : (front part behind runs : List (List OpenTable))
    (fs ps bs : List (List (List Entry))) → runs ≡ front ++ (part ++ behind)
    → HoldSides front part behind fs ps bs → RunsHoldLists runs (fs ++ (ps ++ bs))
sides_held front part behind runs fs ps bs is h =
    subst (λ (rs : List (List OpenTable)). RunsHoldLists rs (fs ++ (ps ++ bs))) (sym is)
    (zip_join Held front (part ++ behind) fs (ps ++ bs) h.in_front
    (zip_join Held part behind ps bs h.in_part h.in_behind))

-- ---- the run that a part is compacted to

abbrev pub Made : List Entry → List (List OpenTable) → Type 0
Made es runs = (made : List (List (List Entry))) × (joined_in made ≡ es) × RunsHoldLists runs made

pub made_of : {X : Type 0} (f : X → List OpenTable) (es : List Entry)
    (run : Option (List OpenTable)) (runs : List X)
    → MatchOption run (es ≡ []) (λ r. IsRunOfList es 0 r) → MatchOption run (runs ≡ [])
    (λ r. map f runs ≡ r ∷ []) → Made es (map f runs)
made_of {X} f es None runs none alone = (
  [],
  sym none,
  subst
      (λ (rs : List X). RunsHoldLists (map f rs) []) (sym alone) tt,
)
made_of f es (Some run) runs is alone = (
  is.lists ∷ [],
  append-nil (joined is.lists) ∙ is.whole ∙ lift_zero es,
  run_held es 0 run is (map f runs) alone,
)

pub made_result : {X V E : Type 0} (f : X → List OpenTable) (items : V → List X) (es : List Entry)
    (run : Option (List OpenTable)) (r : Result V E)
    → MatchOption run (es ≡ []) (λ x. IsRunOfList es 0 x)
    → IfOk r (λ v. MatchOption run (items v ≡ []) (λ x. map f (items v) ≡ x ∷ []))
    → IfOk r (λ v. Made es (map f (items v)))
made_result f items es run (Ok v) is alone = made_of f es run (items v) is alone
made_result f items es run (Err e) is alone = tt

-- ---- reads before and after

pub same_bounds : {S : Type 0} (front back : S → Option (Result Entry Error) → S → Type 0)
    (key : List ℕ) (bound : ℕ) (low low' high high' : Bound (List ℕ)) (es : List Entry)
    (found : Option Entry × S) → low ≡ low' → high ≡ high'
    → ReadsOf front back key bound low high es found
    → ReadsOf front back key bound low' high' es found
same_bounds front back key bound low low' high high' es found l h r =
    subst (λ (b : Bound (List ℕ)). ReadsOf front back key bound low' b es found) h
    (subst (λ (b : Bound (List ℕ)). ReadsOf front back key bound b high es found) l r)

module _ {S : Type 0} (front back : S → Option (Result Entry Error) → S → Type 0) (key : List ℕ)
    (bound : ℕ) (low high : Bound (List ℕ)) (rules : Rules) (fs ps bs : List (List (List Entry)))
  where
    pub alike : (points : PointsStay) (ranges : RangesStay) (sides : SideBySide)
        (before after : Option Entry × S)
        → ReadsOf front back key bound low high (union_in (fs ++ (ps ++ bs))) before
        → ReadsKept front back key bound low high rules fs ps bs after
        → IsStrict (union_in (fs ++ (ps ++ bs))) → IsPlain rules (union_in ps)
        ⊎ AllNewer (union_in ps) (union_in (fs ++ bs))
        → ShowAlike front back key bound low high rules.watermark before after
    alike points ranges sides before after b a strict safe =
        let all = fs ++ (ps ++ bs) in
        let left = fs ++ (a.made ++ bs) in
        let replaced = sides rules fs ps a.made bs a.kept_are strict safe in
        record {
          had = union_in all;
          has = union_in left;
          had_read = b;
          has_read = a.reads;
          same_point = λ served. ap shown a.reads.point_is
              ∙ points rules ps (fs ++ bs) all left replaced key bound served
              ∙ sym (ap shown b.point_is);
          same_range = ranges rules ps (fs ++ bs) all left replaced low high;
        }
