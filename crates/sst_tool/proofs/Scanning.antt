-- Entries that are read one after another.
use Rattle.std.proofs.Common.{◌≡◌, refl, sym, ◌∙◌, ap, subst, ℕ, ◌+◌, Bool, true, false, List, []}
use Rattle.std.proofs.Common.{◌∷◌, ◌<◌, inl, inr, arith, length, true≢false}
use Rattle.std.specs.Prelude.{◌≢◌, ◌&&◌, IfOk, IfSome, IsOk, OnOk, Option, Some, None, Result, Ok}
use Rattle.std.specs.Prelude.{Err, is_ok, is_some}
use Rattle.std.specs.List.{AllByRecursion}
use Rattle.std.specs.Option.{option_map}
use Rattle.std.proofs.lemmas.Bool.{cases_Bool}
use Rattle.sst_blocks.specs.Sections.{body_of}
use Rattle.sst_entries.specs.Entry.{Entry}
use Rattle.sst_entries.specs.Error.{is_memory}
use Rattle.sst_entries.specs.Lending.{came}
use Rattle.sst_entries.specs.Point.{read_place}
use Rattle.sst_entries.specs.declared.error.Error.{Error}
use Rattle.sst_entries.specs.declared.error.Error.TheVariants.{OutOfMemory}
use Rattle.sst_entries.specs.Stream.{answer_stops, first, nowhere, ok_results, up_to_error}
use Rattle.sst_entries.specs.Strict.{IsStrict, is_strict_after, may_follow}
use Rattle.sst_entries.proofs.Refusals.{memory_is}
use Rattle.sst_entries.proofs.StreamLemmas.{yields_front}
use Rattle.sst_entries.proofs.Strictness.{test_from_strict}
use Rattle.lsm_sorted.specs.merge.Ends.{R}
use Rattle.lsm_sorted.specs.merge.Union.{entries_among, errors_among}
use Rattle.lsm_sorted.proofs.Pairs.{Precedes, Strict, as_pairs, from_pairs}
use Rattle.lsm_readers.specs.point.Answer.{lift}
use Rattle.lsm_readers.specs.Stored.{StoresList}
use Rattle.lsm_readers.specs.point.Table.{OpenTable}
use Rattle.lsm_readers.proofs.Scans.{fault_left}
use Rattle.lsm_readers.proofs.VerifyEarly.{position_want}
use Rattle.lsm_runs.specs.RunScan.{early_scan_fault, scan_fault, table_scan}
use Rattle.lsm_runs.specs.compaction.AnyRuns.{YieldsResults}
use Rattle.sst_tool.specs.make.Scanned.{IsFirstRefusal, StoresNoEntries, StoresNone, come_in_order}

-- ---- what a source gives

none_some : {X : Type 0} {x : X} → Some x ≡ None → ⊥
none_some e = cc

same_some : {X : Type 0} (x y : X) → Some x ≡ Some y → x ≡ y
same_some x y e = cc

ok_err : (x : Entry) (e : Error) (r s : Option R) → r ≡ Some (Ok x) → s ≡ Some (Err e) → r ≡ s → ⊥
ok_err x e r s p q h = cc

same_err : (e f : Error) (r s : Option R) → r ≡ Some (Err e) → s ≡ Some (Err f) → r ≡ s → e ≡ f
same_err e f r s p q h = cc

-- an entry is the next of the results that are left, and the others are left then
pub record IsNext {S : Type 0} (gives : S → Option R → S → Type 0) (x : Entry) (rest : List R)
    (t : S) : Type 0 where
  pub others : List R
  pub are : rest ≡ Ok x ∷ others
  pub yields : YieldsResults gives others t

module _ {S : Type 0} (gives : S → Option R → S → Type 0) where
  pub came_ok : (s t : S) (x : Entry) (rest : List R) → YieldsResults gives rest s
      → gives s (Some (Ok x)) t → IsNext gives x rest t
  came_ok s t x [] d step =
      absurd (none_some (yields_front (answer_stops (λ e. true)) gives nowhere s [] (Some (Ok x)) t
      (d (λ e. true) refl) step refl).0)
  came_ok s t x (r ∷ rs) d step =
      let one = yields_front (answer_stops (λ e. true)) gives nowhere s (r ∷ rs) (Some (Ok x)) t
      (d (λ e. true) refl) step refl in
      record {
        others = rs;
        are = ap (λ (z : R). z ∷ rs) (sym (same_some (Ok x) r one.0));
        yields = λ stops wants. (yields_front (answer_stops stops) gives nowhere s (r ∷ rs)
            (Some (Ok x)) t (d stops wants) step refl).1;
      }

  pub came_err : (s t : S) (e : Error) (rest : List R) → YieldsResults gives rest s
      → gives s (Some (Err e)) t → is_memory e ≡ false → first rest ≡ Some (Err e)
  came_err s t e rest d step other =
      sym (yields_front (answer_stops is_memory) gives nowhere s rest (Some (Err e)) t
      (d is_memory refl) step other).0

  pub came_none : (s t : S) (rest : List R) → YieldsResults gives rest s → gives s None t
      → rest ≡ []
  came_none s t [] d step = refl
  came_none s t (r ∷ rs) d step =
      absurd (none_some (sym (yields_front (answer_stops (λ e. true)) gives nowhere s (r ∷ rs) None t
      (d (λ e. true) refl) step refl).0))

-- ---- what is lent

module _ {S : Type 0} (gives : S → Option R → S → Type 0) where
  -- an entry came, which is lent
  pub came_entry : (s t : S) (lent : Option Entry) (more : Bool) → more ≡ is_some lent → more ≡ true
      → gives s (came (Ok more) lent) t → (x : Entry) × gives s (Some (Ok x)) t
  came_entry s t (Some x) more is so step = (x, step)
  came_entry s t None more is so step = absurd (true≢false (sym so ∙ is))

  -- none came
  pub came_nothing : (s t : S) (lent : Option Entry) (more : Bool) → more ≡ is_some lent
      → more ≡ false → gives s (came (Ok more) lent) t → gives s None t
  came_nothing s t (Some x) more is not step = absurd (true≢false (sym is ∙ not))
  came_nothing s t None more is not step = step

  -- what is lent came
  pub came_lent : (s t : S) (lent returned : Option Entry) → returned ≡ lent
      → gives s (option_map (λ e. Ok e) lent) t → gives s (option_map (λ e. Ok e) returned) t
  came_lent s t lent returned is step =
      subst (λ (o : Option Entry). gives s (option_map (λ e. Ok e) o) t) (sym is) step

-- ---- refusals among results

-- the first result is the first refusal
pub refused_first : (rs : List R) (e : Error) → first rs ≡ Some (Err e)
    → first (errors_among rs) ≡ Some e
refused_first [] e h = absurd (none_some (sym h))
refused_first (Ok x ∷ rs) e h = absurd (ok_err x e _ _ refl refl h)
refused_first (Err f ∷ rs) e h = ap (λ (g : Error). Some g) (same_err f e _ _ refl refl h)

-- so it is of all, where those before it are entries
pub refused_last : (rs rest : List R) (e : Error) → errors_among rs ≡ errors_among rest
    → (is_memory e ≡ false → first rest ≡ Some (Err e)) → IsFirstRefusal rs (Some e)
refused_last rs rest e same here =
    λ other. ap first same ∙ refused_first rest e (here other)

-- and none is, where all are
pub refused_none : (rs rest : List R) → errors_among rs ≡ errors_among rest → rest ≡ []
    → IsFirstRefusal rs None
refused_none rs rest same none = same ∙ ap errors_among none

-- one more entry
pub refused_behind : (rs rest others : List R) (x : Entry) → errors_among rs ≡ errors_among rest
    → rest ≡ Ok x ∷ others → errors_among rs ≡ errors_among others
refused_behind rs rest others x same are = same ∙ ap errors_among are

errors_none : (es : List Entry) → errors_among (ok_results es) ≡ []
errors_none [] = refl
errors_none (e ∷ es) = errors_none es

memory_only : (e : Error) → (is_memory e ≡ false → None ≡ Some e) → e ≡ OutOfMemory
memory_only e h = elim (cases_Bool (is_memory e)) [
  | inl memory ↦ memory_is e memory
  | inr other ↦ absurd (none_some (sym (h other)))
]

-- of a list nothing but want of memory is refused
pub only_memory : (es : List Entry) (returned : Option Error) → IsFirstRefusal (ok_results es) returned
    → IfSome returned (λ e. e ≡ OutOfMemory)
only_memory es None h = tt
only_memory es (Some e) h =
    memory_only e (λ other. sym (ap first (errors_none es)) ∙ h other)

-- ---- the order of results

-- no entry stands before the first refusal
pub order_refused : (last : Option Entry) (rs : List R) (e : Error) → first rs ≡ Some (Err e)
    → is_strict_after last (entries_among (up_to_error rs)) ≡ true
unfolding is_strict_after
order_refused last [] e h = absurd (none_some (sym h))
order_refused last (Ok x ∷ rs) e h = absurd (ok_err x e _ _ refl refl h)
order_refused last (Err f ∷ rs) e h = refl

pub order_none : (last : Option Entry) (rs : List R) → rs ≡ []
    → is_strict_after last (entries_among (up_to_error rs)) ≡ true
unfolding is_strict_after
order_none last rs none =
    ap (λ (l : List R). is_strict_after last (entries_among (up_to_error l))) none

order_step : (last : Option Entry) (x : Entry) (rest others : List R) → rest ≡ Ok x ∷ others
    → is_strict_after last (entries_among (up_to_error rest))
    ≡ (may_follow last x && is_strict_after (Some x) (entries_among (up_to_error others)))
unfolding is_strict_after
order_step last x rest others are =
    ap (λ (l : List R). is_strict_after last (entries_among (up_to_error l))) are

-- the key and the number of the entry before are all that counts
order_seen : (x : Entry) (es : List Entry)
    → is_strict_after (Some x) es ≡ is_strict_after (Some (read_place x.user_key x.seqno)) es
unfolding is_strict_after
order_seen x [] = refl
order_seen x (e ∷ es) = refl

-- what the test of an entry told, by the key that was kept
pub test_told : (key given : List ℕ) (last : Option ℕ) (x : Entry) (returned so : Bool) → given ≡ key
    → returned ≡ may_follow (option_map (read_place given) last) x → returned ≡ so
    → may_follow (option_map (read_place key) last) x ≡ so
test_told key given last x returned so same says is =
    ap (λ (k : List ℕ). may_follow (option_map (read_place k) last) x) (sym same) ∙ sym says ∙ is

-- one more entry may follow
pub order_more : (last : Option Entry) (x : Entry) (key : List ℕ) (n : ℕ) (rest others : List R)
    → may_follow last x ≡ true → rest ≡ Ok x ∷ others → key ≡ x.user_key → n ≡ x.seqno
    → is_strict_after last (entries_among (up_to_error rest))
    ≡ is_strict_after (Some (read_place key n)) (entries_among (up_to_error others))
order_more last x key n rest others may are same_key same_number =
    let es = entries_among (up_to_error others) in
    order_step last x rest others are
    ∙ ap (λ (b : Bool). b && is_strict_after (Some x) es) may
    ∙ order_seen x es
    ∙ sym (ap (λ (k : List ℕ). is_strict_after (Some (read_place k n)) es) same_key
    ∙ ap (λ (m : ℕ). is_strict_after (Some (read_place x.user_key m)) es) same_number)

-- one may not
pub order_broken : (last : Option Entry) (x : Entry) (rest others : List R)
    → may_follow last x ≡ false → rest ≡ Ok x ∷ others
    → is_strict_after last (entries_among (up_to_error rest)) ≡ false
order_broken last x rest others not are =
    order_step last x rest others are
    ∙ ap (λ (b : Bool). b && is_strict_after (Some x) (entries_among (up_to_error others))) not

entries_back : (es : List Entry) → entries_among (up_to_error (ok_results es)) ≡ es
entries_back [] = refl
entries_back (e ∷ es) = ap (λ (l : List Entry). e ∷ l) (entries_back es)

-- a strict list comes in order
pub order_told : (returned : Result Bool Error) (es : List Entry) → IsStrict es
    → IfOk returned (λ b. b ≡ come_in_order (ok_results es)) → IfOk returned (λ b. b ≡ true)
order_told (Err e) es strict h = tt
order_told (Ok b) es strict h =
    h ∙ ap (is_strict_after None) (entries_back es) ∙ test_from_strict None es strict

-- ---- a table that is not scanned

-- its first block is what the scan tells
pub scan_refused : (t : OpenTable) (e : Error)
    → scan_fault t ≡ Some e
    → first (table_scan t) ≡ Some (Err e)
scan_refused t e fault =
    ap first (fault_left (body_of t.bytes) t.global_seqno t.parts.facts.data_block_count e fault)

-- entries that came in order up to an error, which is no want of memory
pub ended_so : (returned : Result Bool Error) (e : Error) (x : Bool) → OnOk returned (is_memory e ≡ false)
    → IfOk returned (λ b. b ≡ true) → (is_memory e ≡ false → x ≡ true) → IfOk returned (λ b. b ≡ x)
ended_so (Err f) e x fault order same = tt
ended_so (Ok b) e x fault order same = order ∙ sym (same fault)

-- so are those of a table that is not scanned
pub refused_order : (t : OpenTable) (e : Error) (returned : Result Bool Error)
    → OnOk returned (is_memory e ≡ false) → IfOk returned (λ b. b ≡ true)
    → (is_memory e ≡ false → scan_fault t ≡ Some e)
    → IfOk returned (λ b. b ≡ come_in_order (table_scan t))
refused_order t e returned fault order refused =
    ended_so returned e (come_in_order (table_scan t)) fault order
    (λ other. order_refused None (table_scan t) e (scan_refused t e (refused other)))

-- ---- a stored list

lift_after : (x : Entry) (es : List Entry) (g : ℕ) → AllByRecursion (Precedes x) es
    → AllByRecursion (Precedes (record x { seqno = x.seqno + g })) (lift es g)
lift_after x [] g h = tt
lift_after x (e ∷ es) g h = (
  elim h.0 [
    | inl lower ↦ inl lower
    | inr newer ↦ inr (newer.0, omega (arith, newer.1))
  ],
  lift_after x es g h.1,
)

lift_strict : (es : List Entry) (g : ℕ) → Strict es → Strict (lift es g)
lift_strict [] g h = tt
lift_strict (e ∷ es) g h = (lift_after e es g h.0, lift_strict es g h.1)

-- it is in order, its numbers lifted too
pub stored_strict : (bytes : List ℕ) (es : List Entry) (g : ℕ) → StoresList bytes es
    → IsStrict (lift es g)
stored_strict bytes es g h =
    from_pairs (lift es g) (lift_strict es g (as_pairs es h.strict))

-- ---- what is found before memory is taken

-- a first block that is refused then is no want of memory
early_want : (t : OpenTable) (e : Error) → early_scan_fault t ≡ Some e → is_memory e ≡ false
early_want t e h = position_want (body_of t.bytes) 0 _ e h

-- nor is the refusal that is told for it
pub early_fine : (t : OpenTable) (e f : Error) → early_scan_fault t ≡ Some e → Some e ≡ Some f
    → is_memory f ≡ false
early_fine t e f h returned = ap is_memory (sym (same_some e f returned)) ∙ early_want t e h

none_early : (o : Option Error) → ((e : Error) → o ≡ Some e → ⊥) → o ≡ None
none_early None h = refl
none_early (Some e) h = absurd (h e refl)

-- so where memory is wanted no fault was found before
pub unread_early : (t : OpenTable) (returned : Option Error)
    → ((e : Error) → early_scan_fault t ≡ Some e → returned ≡ Some e) → returned ≡ Some OutOfMemory
    → early_scan_fault t ≡ None
unread_early t returned early is = none_early (early_scan_fault t) (λ e h.
    let memory : OutOfMemory ≡ e = same_some OutOfMemory e (sym is ∙ early e h) in
    true≢false (ap is_memory memory ∙ early_want t e h))

pub unordered_early : (t : OpenTable) (returned : Result Bool Error) (f : Error)
    → ((e : Error) → early_scan_fault t ≡ Some e → IsOk returned) → returned ≡ Err f
    → early_scan_fault t ≡ None
unordered_early t returned f early is = none_early (early_scan_fault t) (λ e h.
    let ok : is_ok returned ≡ true = early e h in
    true≢false (sym ok ∙ ap is_ok is))

-- ---- what stores no list

-- a table that is told to be out of order
pub stores_none : (t : OpenTable) (returned : Bool)
    → ((es : List Entry) → StoresList t.bytes es → returned ≡ true) → returned ≡ false → StoresNone t
stores_none t returned says not = λ es stored. true≢false (sym (says es stored) ∙ not)

-- one that is refused, and not for want of memory
pub stores_no_entries : (t : OpenTable) (returned : Option Error) (e : Error)
    → ((es : List Entry) → StoresList t.bytes es → 0 < length es
    → IfSome returned (λ y. y ≡ OutOfMemory))
    → returned ≡ Some e → e ≢ OutOfMemory → StoresNoEntries t
stores_no_entries t returned e says is other = λ es stored some.
    other (subst (λ (o : Option Error). IfSome o (λ y. y ≡ OutOfMemory)) is (says es stored some))
