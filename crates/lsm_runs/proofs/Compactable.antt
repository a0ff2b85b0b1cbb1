-- A run that was written of a list may be compacted.
use Rattle.std.proofs.Common.{◌≡◌, ◌∙◌, refl, sym, ap, subst, ℕ, ◌<◌, List, [], ◌∷◌, length, arith}
use Rattle.std.specs.Prelude.{IfSome, MatchOption, None, Option, Some}
use Rattle.std.specs.List.{AllByRecursion}
use Rattle.std.proofs.lemmas.List.{length-map}
use Rattle.sst_entries.specs.Entry.{Entry}
use Rattle.sst_blocks.specs.declared.table.label.Label.{Label}
use Rattle.sst_blocks.specs.table.Chunks.{joined}
use Rattle.lsm_iters.specs.Lift.{lift, lifted}
use Rattle.lsm_readers.specs.point.Table.{OpenTable}
use Rattle.lsm_writers.specs.Writing.{IsWritable}
use Rattle.lsm_writers.proofs.CutTables.{some_length}
use Rattle.lsm_runs.specs.compaction.Chain.{AreCutOf, IsRunOfList}
use Rattle.lsm_runs.specs.compaction.Compacted.{AreCompactable, HaveEntries}
use Rattle.lsm_runs.specs.RunLists.{HoldLists, HoldsList}
use Rattle.lsm_runs.proofs.OneList.{one_list}
use Rattle.lsm_runs.proofs.HeldRuns.{AreHeld, IsHeld}
use Rattle.lsm_runs.proofs.RunWriting.{all_held}
use Rattle.lsm_runs.proofs.RunBack.{run_held, union_is}

one_some : (g : ℕ) (us : List Entry) (t : OpenTable) (es : List Entry) → IsHeld g us t
    → HoldsList t es → 0 < length es
one_some g us t es o h =
    let own : HoldsList t (lift us t.global_seqno) =
    record { stored = us; opened = o.opened; table = o.stores; lifted_is = refl } in
    let same = one_list t es (lift us t.global_seqno) h own in
    let some = some_length us o.some in
    omega (arith, ap length same, length-map us (lifted t.global_seqno), some)

each_some : (g : ℕ) (us : List (List Entry)) (ts : List OpenTable) (ls : List (List Entry))
    → AreHeld g us ts → HoldLists ts ls → AllByRecursion (λ (es : List Entry). 0 < length es) ls
each_some g us [] [] o h = tt
each_some g us [] (es ∷ ls) o h = absurd h
each_some g us (t ∷ ts) [] o h = absurd h
each_some g [] (t ∷ ts) (es ∷ ls) o h = absurd o
each_some g (u ∷ us) (t ∷ ts) (es ∷ ls) o h =
    (one_some g u t es o.0 h.0, each_some g us ts ls o.1 h.1)

some_lists : (ts : List OpenTable) (ls : List (List Entry)) → HoldLists ts ls → (ts ≡ [] → ⊥)
    → 0 < length ls
some_lists [] ls h some = absurd (some refl)
some_lists (t ∷ ts) [] h some = absurd h
some_lists (t ∷ ts) (es ∷ ls) h some = omega arith

-- its tables have entries
pub held_entries : (us : List (List Entry)) (es : List Entry) (g : ℕ) (run : List OpenTable)
    (h : IsRunOfList es g run) → AreHeld g us run → HaveEntries h.lists
held_entries us es g run h held =
    (some_lists run h.lists h.hold h.some, each_some g us run h.lists held h.hold)

pub run_entries : (label : Label) (target : ℕ) (es : List Entry) (g : ℕ) (run : List OpenTable)
    (h : IsRunOfList es g run) → AreCutOf label target es g run → HaveEntries h.lists
run_entries label target es g run h cut =
    held_entries cut.lists es g run h (all_held label cut.lists g run cut.opened)

joined_some : (ls : List (List Entry)) → HaveEntries ls → joined ls ≡ [] → ⊥
joined_some [] have none = absurd (omega (arith, have.0))
joined_some ([] ∷ ls) have none = absurd (omega (arith, have.1.0))
joined_some ((x ∷ xs) ∷ ls) have none = absurd cc

-- so the list has one
pub some_listed : (label : Label) (target : ℕ) (es : List Entry) (g : ℕ) (run : List OpenTable)
    → IsRunOfList es g run → AreCutOf label target es g run → es ≡ [] → ⊥
some_listed label target es g run h cut none =
    joined_some h.lists (run_entries label target es g run h cut)
    (h.whole ∙ ap (λ (xs : List Entry). lift xs g) none)

-- where there is a run
pub run_listed : (label : Label) (target : ℕ) (es : List Entry) (g : ℕ)
    (o : Option (List OpenTable)) → MatchOption o (es ≡ []) (λ run. IsRunOfList es g run)
    → IfSome o (λ run. AreCutOf label target es g run) → IfSome o (λ _. es ≡ [] → ⊥)
run_listed label target es g None h cut = tt
run_listed label target es g (Some run) h cut = some_listed label target es g run h cut

-- so it may be compacted alone, where its list, lifted, can be written
pub held_compactable : (us : List (List Entry)) (es : List Entry) (g : ℕ) (run : List OpenTable)
    → IsRunOfList es g run → AreHeld g us run → IsWritable (lift es g) → AreCompactable (run ∷ [])
held_compactable us es g run h held writable = record {
  lists = h.lists ∷ [];
  hold = run_held es g run h (run ∷ []) refl;
  some = (held_entries us es g run h held, tt);
  writable = subst IsWritable (sym (union_is es g run h)) writable;
}

pub run_compactable : (label : Label) (target : ℕ) (es : List Entry) (g : ℕ) (run : List OpenTable)
    → IsRunOfList es g run → AreCutOf label target es g run → IsWritable (lift es g)
    → AreCompactable (run ∷ [])
run_compactable label target es g run h cut writable =
    held_compactable cut.lists es g run h (all_held label cut.lists g run cut.opened) writable
