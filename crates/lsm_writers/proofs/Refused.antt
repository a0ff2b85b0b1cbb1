-- Calls that nothing but want of memory refuses.
use Rattle.std.proofs.Common.{◌≡◌, refl, sym, subst, ◌∙◌, Bool, true, false}
use Rattle.std.specs.Prelude.{Option, Some, None, Result, Ok, Err, IfErr, IsErrAnd, OnErr}
use Rattle.sst_entries.specs.Error.{Faults, is_memory}
use Rattle.sst_entries.specs.declared.error.Error.{Error}
use Rattle.sst_entries.specs.declared.error.Error.TheVariants.{OutOfMemory}
use Rattle.sst_entries.proofs.Refusals.{memory_is}

memory_or : (e : Error) (returned : Option Error) (b : Bool) → is_memory e ≡ b → returned ≡ None
    → (is_memory e ≡ false → returned ≡ Some e) → e ≡ OutOfMemory
memory_or e returned true m none h = memory_is e m
memory_or e returned false m none h = let no : None ≡ Some e = sym none ∙ h m in cc

-- where no fault is told, a refusal is want of memory
pub memory_alone : {X : Type 0} (r : Result X Error) (returned : Option Error) → returned ≡ None
    → Faults r returned → IfErr r (λ e. e ≡ OutOfMemory)
memory_alone (Ok x) returned none h = tt
memory_alone (Err e) returned none h = memory_or e returned (is_memory e) refl none h

-- so of the refusal itself
pub refused_alone : {X : Type 0} (r : Result X Error) (e : Error) → r ≡ Err e
    → IfErr r (λ x. x ≡ OutOfMemory) → e ≡ OutOfMemory
refused_alone {X} r e is returned = subst (λ (t : Result X Error). IfErr t (λ x. x ≡ OutOfMemory)) is
    returned

-- what follows from a call's refusal
pub err_then : {X E P Q R : Type 0} (r : Result X E) → OnErr r P → OnErr r Q → (P → Q → R)
    → OnErr r R
err_then (Ok x) p q f = tt
err_then (Err e) p q f = f p q

-- what holds of an error that is passed on
pub if_err : {X E : Type 0} (r : Result X E) (e : E) (P : E → Type 0) → IsErrAnd r (λ y. y ≡ e)
    → P e → IfErr r P
if_err (Ok x) e P is p = tt
if_err (Err y) e P is p = subst P (sym is) p

-- no fault is another
pub none_some : (x : Error) → ◌≡◌ {A = Option Error} None (Some x) → ⊥
none_some x h = absurd cc
