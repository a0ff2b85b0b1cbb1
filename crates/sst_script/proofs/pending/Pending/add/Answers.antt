use Rattle.std.proofs.Common.{◌≡◌, ◌∙◌, sym, ap, refl, Bool, true, IsTrue, ℕ, List, [], ◌∷◌, ◌++◌}
use Rattle.std.specs.Prelude.{if◌then◌else◌}
use Rattle.sst_entries.specs.declared.error.Error.{Error}
use Rattle.sst_entries.specs.declared.error.Error.TheVariants.{OutOfMemory}
use Rattle.sst_entries.specs.declared.value_type.ValueType.{ValueType}
use Rattle.sst_entries.specs.Entry.{Entry, entry}
use Rattle.lsm_writers.specs.Writing.{may_be_written}
use Rattle.sst_script.specs.declared.stop.Failure.{Failure}
use Rattle.sst_script.specs.declared.stop.Failure.TheVariants.{BadLine, Refused}
use Rattle.sst_script.proofs.PendingLemmas.{pending_more}
use Rattle.sst_script.proofs.RefusalLemmas.{passes}
use Rattle.sst_script.proofs.pending.Pending.add.Goals as goal

same_entry : (k l v w : List ℕ) (n : ℕ) (kind : ValueType) → k ≡ l → v ≡ w → entry k v n kind ≡ entry l w n kind
same_entry k l v w n kind p q = rw (p, q)

-- if an entry may follow, the only error is `OutOfMemory`
memory_only : (follow : Bool) (e : Error) → follow ≡ true → e ≡ OutOfMemory → Refused e ≡ (if follow then Refused OutOfMemory else BadLine)
memory_only follow e p q = rw (p, q)

-- why an entry is not added
abbrev Refuses : List Entry → List ℕ → ℕ → Failure → Type 0
Refuses es key n failure = failure ≡ (if may_be_written es key n then Refused OutOfMemory else BadLine)

pub invariant_of-self-2 : goal.invariant_of-self-2
invariant_of-self-2 g c =
    let e = c.from_components.result in
    let added : c.push.new.self.items ≡ c.self.inside.items.items ++ e ∷ [] = c.in_ok-push.ensures.items in
    let may : IsTrue (may_be_written c.args.self.now c.args.key.now c.args.seqno) = sym c.can_follow.ensures ∙ c.if-not-can_follow.false in
    let key : e.user_key ≡ c.args.key.now = ap (λ (x : Entry). x.user_key) c.from_components.ensures ∙ c.in_ok-key.ensures.ok in
    let seqno : e.seqno ≡ c.args.seqno = ap (λ (x : Entry). x.seqno) c.from_components.ensures in
    rw added (pending_more c.self.inside.items.items e c.self.invariant (rw (key, seqno, c.self.view_is) may))

pub returns-in_err-clone-clause-refused : goal.returns-in_err-clone-clause-refused
returns-in_err-clone-clause-refused g c =
    let es = c.args.self.now in
    passes c.from_residual.result (Refused OutOfMemory) (Refuses es c.args.key.now c.args.seqno) c.from_residual.ensures.1 (memory_only (may_be_written es c.args.key.now c.args.seqno) OutOfMemory (sym c.can_follow.ensures ∙ c.if-not-can_follow.false) refl)

pub returns-in_err-key-clause-refused : goal.returns-in_err-key-clause-refused
returns-in_err-key-clause-refused g c =
    let es = c.args.self.now in
    let e = c.in_err-key.field-0.0 in
    passes c.from_residual-in_err-key.result (Refused e) (Refuses es c.args.key.now c.args.seqno) c.from_residual-in_err-key.ensures.1 (memory_only (may_be_written es c.args.key.now c.args.seqno) e (sym c.can_follow.ensures ∙ c.if-not-can_follow.false) c.in_err-key.ensures.err)

pub returns-in_err-clone-2-clause-refused : goal.returns-in_err-clone-2-clause-refused
returns-in_err-clone-2-clause-refused g c =
    let es = c.args.self.now in
    passes c.from_residual-in_err-clone-2.result (Refused OutOfMemory) (Refuses es c.args.key.now c.args.seqno) c.from_residual-in_err-clone-2.ensures.1 (memory_only (may_be_written es c.args.key.now c.args.seqno) OutOfMemory (sym c.can_follow.ensures ∙ c.if-not-can_follow.false) refl)

pub returns-in_err-value-clause-refused : goal.returns-in_err-value-clause-refused
returns-in_err-value-clause-refused g c =
    let es = c.args.self.now in
    let e = c.in_err-value.field-0.0 in
    passes c.from_residual-in_err-value.result (Refused e) (Refuses es c.args.key.now c.args.seqno) c.from_residual-in_err-value.ensures.1 (memory_only (may_be_written es c.args.key.now c.args.seqno) e (sym c.can_follow.ensures ∙ c.if-not-can_follow.false) c.in_err-value.ensures.err)

pub returns-in_err-push-clause-refused : goal.returns-in_err-push-clause-refused
returns-in_err-push-clause-refused g c =
    let es = c.args.self.now in
    passes c.from_residual-in_err-push.result (Refused OutOfMemory) (Refuses es c.args.key.now c.args.seqno) c.from_residual-in_err-push.ensures.1 (memory_only (may_be_written es c.args.key.now c.args.seqno) OutOfMemory (sym c.can_follow.ensures ∙ c.if-not-can_follow.false) refl)

pub returns-clause-ok : goal.returns-clause-ok
returns-clause-ok g c =
    let e = c.from_components.result in
    let es = c.args.self.now in
    let same : e ≡ entry c.args.key.now c.args.value.now c.args.seqno c.args.kind = c.from_components.ensures ∙ same_entry c.in_ok-key.key c.args.key.now c.in_ok-value.value c.args.value.now c.args.seqno c.args.kind c.in_ok-key.ensures.ok c.in_ok-value.ensures.ok in
    c.in_ok-push.ensures.items ∙ ap (λ (xs : List Entry). xs ++ e ∷ []) c.self.view_is ∙ ap (λ (x : Entry). es ++ x ∷ []) same
