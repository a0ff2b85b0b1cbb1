-- Lists that a table can be written from.
use Rattle.std.proofs.Common.{◌≡◌, refl, sym, ◌∙◌, ap, subst, ℕ, ◌+◌, ◌-◌, ◌^◌, ◌<◌, Bool, true}
use Rattle.std.proofs.Common.{false, IsTrue, List, [], ◌∷◌, ◌++◌, arith, ltb, ltb-true, le-ltb}
use Rattle.std.specs.Prelude.{Option, Some, None, IfOk, IfSome, MatchOption, Result, nat_lt}
use Rattle.std.specs.Option.{option_or}
use Rattle.sst_entries.specs.declared.error.Error.{Error}
use Rattle.sst_entries.specs.declared.value_type.ValueType.TheVariants.{Value}
use Rattle.sst_entries.specs.Entry.{Entry, entry}
use Rattle.sst_entries.specs.Error.{Faults}
use Rattle.sst_entries.specs.Strict.{last_of, may_follow, IsStrictAfter}
use Rattle.sst_blocks.specs.table.Facts.{highest_seqno}
use Rattle.lsm_writers.specs.Writing.{may_be_written, IsWritable}
use Rattle.lsm_readers.specs.point.Table.{OpenTable}
use Rattle.lsm_runs.specs.compaction.Chain.{AreCutOf, IsRunOfList, chain_fault, run_label}
use Rattle.lsm_runs.specs.compaction.Chain.{tables_fault}
use Rattle.lsm_runs.specs.compaction.Written.{number_fault}
use Rattle.sst_entries.proofs.Booleans.{and_parts}
use Rattle.sst_entries.proofs.Lists.{all_append}
use Rattle.sst_entries.proofs.Strictness.{strict_push}
use Rattle.lsm_runs.proofs.CompactedBack.{small_numbers}

pub nothing_pending : IsWritable []
unfolding IsStrictAfter
nothing_pending = record { strict = tt; numbered = tt }

-- an entry may follow if another of its key and seqno may
same_place : (last : Option Entry) (e : Entry)
    → may_follow last (entry e.user_key [] e.seqno Value) ≡ may_follow last e
same_place None e = refl
same_place (Some last) e = refl

true_is : (b : Bool) → IsTrue b → b ≡ true
true_is true h = refl
true_is false h = absurd cc

-- one more entry that follows
pub pending_more : (es : List Entry) (e : Entry) → IsWritable es
    → IsTrue (may_be_written es e.user_key e.seqno) → IsWritable (es ++ e ∷ [])
pending_more es e p f =
    let both = and_parts (nat_lt e.seqno (2 ^ 64 - 1))
    (may_follow (last_of None es) (entry e.user_key [] e.seqno Value)) (true_is _ f) in
    record {
      strict = strict_push None es e p.strict (sym (same_place (last_of None es) e) ∙ both.1);
      numbered = all_append (λ (x : Entry). x.seqno < 2 ^ 64 - 1) es (e ∷ []) p.numbered
          (ltb-true _ _ both.0, tt);
    }

number_fits : (es : List Entry) → IsWritable es → number_fault es 0 ≡ None
number_fits es p =
    let low : ltb (2 ^ 64 - 1) (highest_seqno es + 0) ≡ false =
    le-ltb _ _ (omega (arith, small_numbers es p.numbered)) in
    rw low refl

or_none : (a : Option Error) → option_or a None ≡ a
or_none None = refl
or_none (Some e) = refl

-- without a global seqno, a run fails with the error of writing its tables
refusal_is : (ids : Option ℕ) (target moment : ℕ) (es : List Entry) → IsWritable es
    → chain_fault ids target moment es 0 ≡ tables_fault ids target moment es
refusal_is ids target moment es p = ap (option_or (tables_fault ids target moment es))
    (number_fits es p) ∙ or_none (tables_fault ids target moment es)

-- the error of writing the pending list at a timestamp
pub run_faults : {X : Type 0} (r : Result X Error) (ids : Option ℕ) (target moment now : ℕ)
    (es pending : List Entry) → moment ≡ now → es ≡ pending → IsWritable es
    → Faults r (chain_fault ids target moment es 0) → Faults r (tables_fault ids target now pending)
run_faults {X} r ids target moment now es pending time is p h =
    subst (λ (n : ℕ). Faults r (tables_fault ids target n pending)) time
    (subst (λ (xs : List Entry). Faults r (tables_fault ids target moment xs)) is
    (subst (λ (o : Option Error). Faults r o) (refusal_is ids target moment es p) h))

-- a run of the list that was pending
abbrev pub IsWrittenOf : List Entry → Option (List OpenTable) → Type 0
IsWrittenOf es r = MatchOption r (es ≡ []) (λ run. IsRunOfList es 0 run)

-- its tables are cut by a target, with consecutive ids
abbrev pub IsCutOf : Option ℕ → ℕ → ℕ → List Entry → Option (List OpenTable) → Type 0
IsCutOf ids target moment es r =
    IfSome r (λ run. AreCutOf (run_label ids target moment) target es 0 run)

pub run_cut : (r : Result (Option (List OpenTable) × Option ℕ) Error) (ids : Option ℕ)
    (target moment now : ℕ) (es pending : List Entry) → moment ≡ now → es ≡ pending
    → IfOk r (λ x. IsCutOf ids target moment es x.0)
    → IfOk r (λ x. IsCutOf ids target now pending x.0)
run_cut r ids target moment now es pending time is h =
    subst (λ (n : ℕ). IfOk r (λ x. IsCutOf ids target n pending x.0)) time
    (subst (λ (xs : List Entry). IfOk r (λ x. IsCutOf ids target moment xs x.0)) is h)
