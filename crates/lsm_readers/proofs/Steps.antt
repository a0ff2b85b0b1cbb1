-- What a chain of steps tells: the fault of the step that refuses, or what the last step told.
use Rattle.std.proofs.Common.{◌≡◌, true, false, ap, subst, sym, ◌∙◌}
use Rattle.std.proofs.lemmas.Result.{err_from_is_err_and}
use Rattle.std.specs.Prelude.{IfErr, IfOk, MatchResult, Option, None, Some, Result, Ok, Err}
use Rattle.std.specs.Result.{IsErrAnd, result_and}
use Rattle.sst_entries.specs.declared.error.Error.{Error}
use Rattle.sst_entries.specs.declared.error.Error.TheVariants.{OutOfMemory}
use Rattle.sst_entries.specs.Error.{Fails, FaultsFirst, Gives, is_memory}
use Rattle.lsm_readers.specs.point.Read.{◌>>=◌}

-- a step that told a value
pub goes_on : {A B : Type 0} (r : Result A Error) (f : A → Result B Error) (x : A)
    (returned : Result B Error) → r ≡ Ok x → f x ≡ returned → (r >>= f) ≡ returned
goes_on {A = A} r f x returned step rest = ap (λ (q : Result A Error). q >>= f) step ∙ rest

-- the step that refused, and one before it
pub fails_here : {A B : Type 0} (r : Result A Error) (f : A → Result B Error) (e : Error)
    → Fails e r → Fails e (r >>= f)
fails_here {A = A} r f e fails memory = ap (λ (q : Result A Error). q >>= f) (fails memory)

pub fails_later : {A B : Type 0} (r : Result A Error) (f : A → Result B Error) (x : A) (e : Error)
    → r ≡ Ok x → Fails e (f x) → Fails e (r >>= f)
fails_later {A = A} r f x e step fails memory = ap (λ (q : Result A Error). q >>= f) step
    ∙ fails memory

-- a call that passed a fault on
pub passes_fault : {X Y : Type 0} (view : X → Y) (r : Result X Error) (returned : Result Y Error)
    (e : Error) → IsErrAnd r (λ y. y ≡ e) → Fails e returned → Gives view r returned
passes_fault view r returned e is fails =
    let p = err_from_is_err_and r is in
    rw (p.1, p.2) fails

-- two steps that one call took
pub both_on : {A B C : Type 0} (r : Result A Error) (f : A → Result C Error)
    (h : C → Result B Error) (x : C) (returned : Result B Error) → (r >>= f) ≡ Ok x → h x ≡ returned
    → (r >>= λ a. f a >>= h) ≡ returned
both_on (Ok a) f h x returned step rest = goes_on (f a) h x returned step rest
both_on (Err e) f h x returned step rest = absurd cc

abbrev pub refused : (A : Type 0) → Error → Result A Error
refused A e = Err e

pub same_fault : {B C : Type 0} (d e : Error) → refused C d ≡ Err e → refused B d ≡ Err e
same_fault d e same = cc

pub both_fail : {A B C : Type 0} (r : Result A Error) (f : A → Result C Error)
    (h : C → Result B Error) (e : Error) → Fails e (r >>= f) → Fails e (r >>= λ a. f a >>= h)
both_fail (Ok a) f h e fails = fails_here (f a) h e fails
both_fail (Err d) f h e fails = λ memory. same_fault d e (fails memory)

pub both_later : {A B C : Type 0} (r : Result A Error) (f : A → Result C Error)
    (h : C → Result B Error) (x : C) (e : Error) → (r >>= f) ≡ Ok x → Fails e (h x)
    → Fails e (r >>= λ a. f a >>= h)
both_later (Ok a) f h x e step fails = fails_later (f a) h x e step fails
both_later (Err d) f h x e step fails = absurd cc

-- ---- a value beside the answer of a call

abbrev paired : {X Y E : Type 0} → X → Y → Result (X × Y) E
paired x y = Ok (x, y)

abbrev unpaired : {X Y E : Type 0} → E → Result (X × Y) E
unpaired e = Err e

abbrev answered : {Y E : Type 0} → Y → Result Y E
answered y = Ok y

same_pair : {X Y E : Type 0} (x v : X) (y z : Y) → paired {E = E} x y ≡ paired v z
    → ◌≡◌ {A = X × Y} (x, y) (v, z)
same_pair x v y z is = cc

-- the value is the one that was put there
pub beside_first : {X Y E : Type 0} (first : X) (second : Result Y E) (x : X) (y : Y)
    → MatchResult second (λ z. paired {E = E} x y ≡ paired first z) (λ d. paired x y ≡ unpaired d)
    → x ≡ first
beside_first {X = X} {Y = Y} first (Ok z) x y is =
    ap (λ (p : X × Y). p.0) (same_pair x first y z is)
beside_first first (Err d) x y is = absurd cc

-- and the answer the call's
pub beside_second : {X Y E : Type 0} (first : X) (second : Result Y E) (x : X) (y : Y)
    → MatchResult second (λ z. paired {E = E} x y ≡ paired first z) (λ d. paired x y ≡ unpaired d)
    → second ≡ Ok y
beside_second {X = X} {Y = Y} {E = E} first (Ok z) x y is =
    ap (λ (p : X × Y). answered {E = E} p.1) (sym (same_pair x first y z is))
beside_second first (Err d) x y is = absurd cc

pub beside_fault : {X Y E : Type 0} (first : X) (second : Result Y E) (e : E)
    → MatchResult second (λ z. unpaired e ≡ paired first z)
    (λ d. unpaired {X = X} {Y = Y} e ≡ unpaired d) → second ≡ Err e
beside_fault first (Ok z) e is = absurd cc
beside_fault first (Err d) e is = cc

-- what the call gave, and the fault that it passed on
pub beside_gives : {X Y Z : Type 0} (view : Y → Z) (first : X) (second : Result Y Error)
    (returned : Result Z Error) (x : X) (y : Y) → Gives view second returned
    → MatchResult second (λ z. paired {E = Error} x y ≡ paired first z)
    (λ d. paired x y ≡ unpaired d) → returned ≡ Ok (view y)
beside_gives {Y = Y} view first second returned x y gives is =
    subst (λ (r : Result Y Error). Gives view r returned) (beside_second first second x y is) gives

pub beside_fails : {X Y Z : Type 0} (view : Y → Z) (first : X) (second : Result Y Error)
    (returned : Result Z Error) (e : Error) → Gives view second returned
    → MatchResult second (λ z. unpaired e ≡ paired first z)
    (λ d. unpaired {X = X} {Y = Y} e ≡ unpaired d) → Fails e returned
beside_fails {Y = Y} view first second returned e gives is =
    subst (λ (r : Result Y Error). Gives view r returned) (beside_fault first second e is) gives

-- what it refuses first
pub beside_early : {X Y : Type 0} (first : X) (second : Result Y Error) (returned : Option Error)
    (e : Error) → FaultsFirst second returned
    → MatchResult second (λ z. unpaired e ≡ paired first z)
    (λ d. unpaired {X = X} {Y = Y} e ≡ unpaired d) → (f : Error) → returned ≡ Some f
    → Some f ≡ Some e
beside_early {Y = Y} first second returned e early is =
    subst (λ (r : Result Y Error). FaultsFirst r returned) (beside_fault first second e is) early

pub beside_none : {X Y : Type 0} (first : X) (second : Result Y Error) (returned : Option Error) (x : X)
    (y : Y) → FaultsFirst second returned
    → MatchResult second (λ z. paired {E = Error} x y ≡ paired first z)
    (λ d. paired x y ≡ unpaired d) → (f : Error) → returned ≡ Some f → Some f ≡ None
beside_none {Y = Y} first second returned x y early is =
    subst (λ (r : Result Y Error). FaultsFirst r returned) (beside_second first second x y is) early

-- what the call says of its answer
pub beside_is : {X Y E : Type 0} (P : Y → Type 0) (Q : E → Type 0) (first : X) (second : Result Y E)
    (x : X) (y : Y) → MatchResult second P Q
    → MatchResult second (λ z. paired {E = E} x y ≡ paired first z) (λ d. paired x y ≡ unpaired d)
    → P y
beside_is {Y = Y} {E = E} P Q first second x y made is =
    subst (λ (r : Result Y E). MatchResult r P Q) (beside_second first second x y is) made

-- a value that is handed on unless a test was refused, which was the last step
pub tested : {T X Y Z : Type 0} (view : X → Y) (seen : T → Z) (test : Result T Error)
    (step : Result Z Error) (x : X) (r : Result X Error) → r ≡ result_and test (Ok x)
    → Gives seen test step → Gives view r (step >>= λ _. Ok (view x))
tested {Y = Y} {Z = Z} view seen (Ok t) step x r is gives =
    rw is (ap (λ (q : Result Z Error). q >>= λ _. answered {E = Error} (view x)) gives)
tested view seen (Err e) step x r is gives = rw is (fails_here step _ e gives)

-- ---- a value that was put behind a shared handle, where it was made

same_value : {X E : Type 0} (x y : X) → answered {E = E} x ≡ answered y → x ≡ y
same_value x y is = cc

module _ {X Y : Type 0} (at : Y → X) where
  pub shared_gives : {Z : Type 0} (view : X → Z) (value : Result X Error) (r : Result Y Error)
      (returned : Result Z Error) → IfOk r (λ y. value ≡ Ok (at y))
      → IfErr r (λ e. MatchResult value (λ _. e ≡ OutOfMemory) (λ f. e ≡ f)) → Gives view value returned
      → Gives (λ y. view (at y)) r returned
  shared_gives view (Ok x) (Ok y) returned ok err gives = gives
      ∙ ap (λ (z : X). answered {E = Error} (view z)) (same_value x (at y) ok)
  shared_gives view (Err f) (Ok y) returned ok err gives = absurd cc
  shared_gives view (Ok x) (Err e) returned ok err gives = λ memory. let wrong : true ≡ false =
      ap is_memory (sym err) ∙ memory in absurd cc
  shared_gives view (Err f) (Err e) returned ok err gives = rw err gives

  pub shared_early : (value : Result X Error) (r : Result Y Error) (returned : Option Error)
      → IfOk r (λ y. value ≡ Ok (at y)) → IfErr r
      (λ e. MatchResult value (λ _. e ≡ OutOfMemory) (λ f. e ≡ f)) → FaultsFirst value returned
      → FaultsFirst r returned
  shared_early (Ok x) (Ok y) returned ok err first = first
  shared_early (Err f) (Ok y) returned ok err first = absurd cc
  shared_early (Ok x) (Err e) returned ok err first =
      λ f h. absurd (let no : Some f ≡ None = first f h in cc)
  shared_early (Err f) (Err e) returned ok err first = rw err first

  pub shared_has : (P : X → Type 0) (value : Result X Error) (r : Result Y Error)
      → IfOk r (λ y. value ≡ Ok (at y)) → IfOk value P → IfOk r (λ y. P (at y))
  shared_has P (Ok x) (Ok y) ok has = subst P (same_value x (at y) ok) has
  shared_has P (Err f) (Ok y) ok has = absurd cc
  shared_has P (Ok x) (Err e) ok has = tt
  shared_has P (Err f) (Err e) ok has = tt
