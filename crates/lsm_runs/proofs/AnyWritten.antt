-- A stream that is written for as long as its entries come in order.
use Rattle.std.proofs.Common.{◌≡◌, refl, sym, ◌∙◌, subst, false, true, List, [], ◌∷◌, ◌++◌, ◌<◌}
use Rattle.std.proofs.Common.{◌-◌, ◌^◌, Bool, ap, inl, inr, ltb-true}
use Rattle.std.specs.Prelude.{IfErr, IfOk, IsErrAnd, None, Option, Result, Some, Ok, Err, nat_lt}
use Rattle.std.specs.Option.{option_or}
use Rattle.sst_entries.specs.Entry.{Entry}
use Rattle.sst_entries.specs.Error.{Faults, is_memory}
use Rattle.sst_entries.specs.Stream.{ok_results}
use Rattle.sst_entries.specs.Strict.{IsStrictAfter}
use Rattle.sst_entries.proofs.Booleans.{and_parts}
use Rattle.sst_entries.proofs.Lists.{all_append}
use Rattle.sst_entries.specs.declared.error.Error.{Error}
use Rattle.lsm_sorted.specs.merge.Ends.{R}
use Rattle.lsm_writers.specs.Tables.{TablesWriting, took, took_fault}
use Rattle.lsm_writers.specs.Writing.{IsWritable, may_be_written}
use Rattle.lsm_writers.proofs.ListWriting.{listed_follows}
use Rattle.lsm_writers.proofs.Taking.{strict_gained}
use Rattle.lsm_runs.specs.compaction.AnyRuns.{AreTablesBy, CameInOrder, CameOf, LeavesOrder}
use Rattle.lsm_runs.specs.compaction.AnyRuns.{RefusesOf, results_fault}
use Rattle.lsm_runs.specs.compaction.Chain.{writes_fault}
use Rattle.lsm_runs.specs.compaction.Compacted.{AreWrittenBy}
use Rattle.lsm_runs.specs.declared.compaction.any_runs.CompactionOutcome.{CompactionOutcome}
use Rattle.lsm_runs.specs.declared.compaction.any_runs.CompactionOutcome.TheVariants.{OutOfOrder}
use Rattle.lsm_runs.specs.declared.compaction.any_runs.CompactionOutcome.TheVariants.{Stopped}
use Rattle.lsm_runs.specs.declared.compaction.any_runs.CompactionOutcome.TheVariants.{Tables}

-- nothing can be written
pub none_writable : IsWritable []
unfolding IsStrictAfter
none_writable = record { strict = tt; numbered = tt }

-- and so can a list with an entry more that may follow
pub writable_more : (es xs : List Entry) (e : Entry) → IsWritable es
    → may_be_written es e.user_key e.seqno ≡ true → xs ≡ es ++ e ∷ [] → IsWritable xs
writable_more es xs e h may is =
    let low : nat_lt e.seqno (2 ^ 64 - 1) ≡ true = (and_parts _ _ may).0 in
    subst IsWritable (sym is) (record {
      strict = strict_gained es e h.strict may;
      numbered = all_append (λ (x : Entry). x.seqno < 2 ^ 64 - 1) es (e ∷ []) h.numbered
          (ltb-true _ _ low, tt);
    })

-- an entry that may not be written does not follow
pub may_not : (b : Bool) → b ≡ false → b ≡ true → ⊥
may_not b fails holds = let wrong : true ≡ false = sym holds ∙ fails in absurd cc

-- where results are entries without errors
pub ok_split : (es front : List Entry) (x : Entry) (behind : List R)
    → ok_results es ≡ ok_results front ++ Ok x ∷ behind
    → (rest : List Entry) × (es ≡ front ++ x ∷ rest)
ok_split [] [] x behind h = absurd cc
ok_split [] (f ∷ front) x behind h = absurd cc
ok_split (e ∷ es) [] x behind h =
    let same : e ≡ x = cc in (es, ap (λ (y : Entry). y ∷ es) same)
ok_split (e ∷ es) (f ∷ front) x behind h =
    let same : e ≡ f = cc in
    let rest : ok_results es ≡ ok_results front ++ Ok x ∷ behind = cc in
    let r = ok_split es front x behind rest in (
      r.0,
      ap (λ (y : Entry). y ∷ es) same ∙ ap (λ (ys : List Entry). f ∷ ys) r.1,
    )

ok_errorless : (es front : List Entry) (e : Error) (behind : List R)
    → ok_results es ≡ ok_results front ++ Err e ∷ behind → ⊥
ok_errorless [] [] e behind h = absurd cc
ok_errorless [] (f ∷ front) e behind h = absurd cc
ok_errorless (x ∷ es) [] e behind h = absurd cc
ok_errorless (x ∷ es) (f ∷ front) e behind h =
    let rest : ok_results es ≡ ok_results front ++ Err e ∷ behind = cc in
    ok_errorless es front e behind rest

ok_same : (es xs : List Entry) → ok_results es ≡ ok_results xs → es ≡ xs
ok_same [] [] h = refl
ok_same [] (x ∷ xs) h = absurd cc
ok_same (e ∷ es) [] h = absurd cc
ok_same (e ∷ es) (x ∷ xs) h =
    let same : e ≡ x = cc in
    let rest : ok_results es ≡ ok_results xs = cc in
    ap (λ (y : Entry). y ∷ es) same ∙ ap (λ (ys : List Entry). x ∷ ys) (ok_same es xs rest)

-- a list that can be written keeps its order
pub keeps_order : (w : TablesWriting) (es : List Entry) → IsWritable es
    → LeavesOrder w (ok_results es) → ⊥
keeps_order w es writable h =
    let split = ok_split es h.front h.entry h.behind h.whole in
    may_not _ h.follows
    (listed_follows h.front h.entry split.0 (subst IsWritable split.1 writable))

-- ---- an error that is passed on

pub came_refused : {A : Type 0} (w : TablesWriting) (rs : List R)
    (r : Result (CompactionOutcome A) Error) (f : Error) → IsErrAnd r (λ y. y ≡ f)
    → (is_memory f ≡ false → RefusesOf w rs f) → CameOf w rs r
came_refused w rs (Ok x) f is h = absurd is
came_refused w rs (Err y) f is h =
    subst (λ (e : Error). is_memory e ≡ false → RefusesOf w rs e) (sym is) h

pub refused_of : {A : Type 0} (w : TablesWriting) (rs : List R)
    (r : Result (CompactionOutcome A) Error) → CameOf w rs r
    → IfErr r (λ e. is_memory e ≡ false → RefusesOf w rs e)
refused_of w rs (Ok x) h = tt
refused_of w rs (Err e) h = h

-- ---- what comes of writing a list

pub in_order_of : {A : Type 0} (r : Result (CompactionOutcome A) Error) (w : TablesWriting)
    (es : List Entry) → CameOf w (ok_results es) r → IfOk r (CameInOrder w es)
in_order_of (Ok (Tables tables left)) w es h =
    subst (λ (xs : List Entry). AreWrittenBy w xs tables.items left)
    (sym (ok_same es h.list h.whole)) h.written
in_order_of (Ok OutOfOrder) w es h = h
in_order_of (Ok Stopped) w es h = h
in_order_of (Err e) w es h = tt

or_later : (a b c : Option Error) (e : Error) → (b ≡ Some e → c ≡ Some e)
    → option_or a b ≡ Some e → option_or a c ≡ Some e
or_later None b c e on h = on h
or_later (Some f) b c e on h = h

front_fault : (m : TablesWriting) (front : List Entry) (x : Entry) (rest : List Entry) (e : Error)
    → results_fault m (ok_results front ++ Ok x ∷ []) ≡ Some e
    → writes_fault m (front ++ x ∷ rest) ≡ Some e
front_fault m [] x rest e =
    or_later (took_fault m x) None (writes_fault (took m x) rest) e (λ no. absurd cc)
front_fault m (y ∷ front) x rest e =
    or_later (took_fault m y) (results_fault (took m y) (ok_results front ++ Ok x ∷ []))
    (writes_fault (took m y) (front ++ x ∷ rest)) e (front_fault (took m y) front x rest e)

met_fault : (w : TablesWriting) (es front : List Entry) (last : R) (behind : List R) (e : Error)
    → ok_results es ≡ ok_results front ++ last ∷ behind
    → results_fault w (ok_results front ++ last ∷ []) ≡ Some e → writes_fault w es ≡ Some e
met_fault w es front (Err f) behind e whole fault = absurd (ok_errorless es front f behind whole)
met_fault w es front (Ok x) behind e whole fault =
    let split = ok_split es front x behind whole in
    ap (writes_fault w) split.1 ∙ front_fault w front x split.0 e fault

-- of a list that can be written it is refused exactly with the writer's first fault
pub faults_of : {A : Type 0} (r : Result (CompactionOutcome A) Error) (w : TablesWriting)
    (es : List Entry) → IsWritable es → CameOf w (ok_results es) r → Faults r (writes_fault w es)
faults_of (Ok (Tables tables left)) w es writable h =
    ap (writes_fault w) (ok_same es h.list h.whole) ∙ h.none
faults_of (Ok OutOfOrder) w es writable h = absurd (keeps_order w es writable h)
faults_of (Ok Stopped) w es writable h = absurd h
faults_of (Err e) w es writable h = λ fine. elim (h fine) [
  | inl met ↦ met_fault w es met.front met.last met.behind e met.whole met.fault
  | inr late ↦ ap (writes_fault w) (ok_same es late.list late.whole) ∙ late.fault
]

-- a list that can be written came to its tables
pub in_order_whole : {A : Type 0} (r : Result (CompactionOutcome A) Error) (w : TablesWriting)
    (es : List Entry) → IsWritable es → IfOk r (CameInOrder w es) → IfOk r (AreTablesBy w es)
in_order_whole (Ok (Tables tables left)) w es writable came = came
in_order_whole (Ok OutOfOrder) w es writable came = keeps_order w es writable came
in_order_whole (Ok Stopped) w es writable came = came
in_order_whole (Err e) w es writable came = tt
