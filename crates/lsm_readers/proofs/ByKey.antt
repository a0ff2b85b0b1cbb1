-- What a point read answers where what it tells is a value.
use Rattle.std.proofs.Common.{◌≡◌, ℕ, ◌+◌, Bool, true, false, List, [], ◌∷◌, refl, ap, ◌∙◌}
use Rattle.std.proofs.Common.{subst, arith}
use Rattle.std.specs.Prelude.{Option, Result, Ok, Err, IfOk, IfErr}
use Rattle.sst_entries.specs.declared.error.Error.{Error}
use Rattle.sst_entries.specs.declared.error.Error.TheVariants.{OutOfMemory}
use Rattle.sst_entries.specs.Entry.{Entry}
use Rattle.sst_entries.specs.Error.{Gives, is_memory}
use Rattle.sst_entries.specs.Point.{point}
use Rattle.sst_entries.proofs.Refusals.{memory_is}
use Rattle.lsm_readers.specs.point.Answer.{lift}

pub value_is : (returned : Option Entry) (r : Result (Option Entry) Error)
    → Gives (λ (x : Option Entry). x) r (Ok returned) → IfOk r (λ x. x ≡ returned)
value_is returned (Ok x) h = cc
value_is returned (Err e) h = tt

only_memory : (b : Bool) (returned : Option Entry) (e : Error)
    → (b ≡ false → Ok returned ≡ Err e) → b ≡ true
only_memory true returned e h = refl
only_memory false returned e h = absurd (let wrong : Ok returned ≡ Err e = h refl in cc)

pub memory_alone : (returned : Option Entry) (r : Result (Option Entry) Error)
    → Gives (λ (x : Option Entry). x) r (Ok returned) → IfErr r (λ e. e ≡ OutOfMemory)
memory_alone returned (Ok x) h = tt
memory_alone returned (Err e) h = memory_is e (only_memory (is_memory e) returned e h)

-- with no number added a list stays as it is
pub lift_zero : (es : List Entry) → lift es 0 ≡ es
lift_zero [] = refl
lift_zero (e ∷ es) =
    let same : e.seqno + 0 ≡ e.seqno = omega arith in
    rw (same, lift_zero es) refl

pub plain_is : (es : List Entry) (g : ℕ) (key : List ℕ) (bound : ℕ)
    (r : Result (Option Entry) Error) → g ≡ 0
    → Gives (λ (x : Option Entry). x) r (Ok (point (lift es g) key bound))
    → IfOk r (λ x. x ≡ point es key bound)
plain_is es g key bound r zero h =
    value_is (point es key bound) r
    (subst (λ (xs : List Entry). Gives (λ (x : Option Entry). x) r (Ok (point xs key bound)))
    (ap (lift es) zero ∙ lift_zero es) h)
