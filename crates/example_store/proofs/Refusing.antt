-- Errors that calls pass on.
use Rattle.std.proofs.Common.{◌≡◌, refl, sym, ◌∙◌, ap, subst, ℕ, ◌+◌, ◌-◌, ◌^◌}
use Rattle.std.proofs.Common.{false, List, [], arith, ltb, le-ltb}
use Rattle.std.specs.Prelude.{Option, Some, None, Result, Ok, Err, IfErr, IfOk, IfSome}
use Rattle.std.specs.Prelude.{IsErrAnd, IsOk, MatchOption}
use Rattle.std.specs.Option.{option_map, option_or}
use Rattle.lsm_tables.specs.Words.{AreCutOf, Entry, Error, HasList, IsRunOfList, IsWritable}
use Rattle.lsm_tables.specs.Words.{Label, OpenTable, chain_fault, highest_seqno, is_memory}
use Rattle.lsm_tables.specs.Words.{number_fault, tables_fault}
use Rattle.lsm_tables.proofs.TableLaws.{of_cut_unlifted, small_numbers}

-- an error that is passed on, except for `OutOfMemory`
pub passed_on : {X : Type 0} (r : Result X Error) (e : Error) (returned : Option Error)
    → IsErrAnd r (λ y. y ≡ e) → (is_memory e ≡ false → returned ≡ Some e)
    → IfErr r (λ y. is_memory y ≡ false → returned ≡ Some y)
passed_on (Ok x) e returned is fault = tt
passed_on (Err y) e returned is fault =
    subst (λ (z : Error). is_memory z ≡ false → returned ≡ Some z) (sym is) fault

number_fits : (es : List Entry) → IsWritable es → number_fault es 0 ≡ None
number_fits es p =
    let low : ltb (2 ^ 64 - 1) (highest_seqno es + 0) ≡ false =
    le-ltb _ _ (omega (arith, small_numbers es p.numbered)) in
    rw low refl

or_none : (a : Option Error) → option_or a None ≡ a
or_none None = refl
or_none (Some e) = refl

-- without a global seqno, a run fails with the error of writing its tables
pub run_fault : (ids : Option ℕ) (target moment : ℕ) (es : List Entry) → moment ≡ 0
    → IsWritable es → chain_fault ids target moment es 0 ≡ tables_fault ids target 0 es
run_fault ids target moment es now p =
    ap (option_or (tables_fault ids target moment es)) (number_fits es p)
    ∙ or_none (tables_fault ids target moment es)
    ∙ ap (λ (n : ℕ). tables_fault ids target n es) now

-- a run that was written from a list
pub run_list : (label : Label) (target : ℕ) (es : List Entry) (r : Option (List OpenTable))
    → MatchOption r (es ≡ []) (λ run. IsRunOfList es 0 run)
    → IfSome r (λ run. AreCutOf label target es 0 run)
    → MatchOption r (es ≡ []) (λ run. HasList es run)
run_list label target es None run cut = run
run_list label target es (Some x) run cut = of_cut_unlifted label target es x run cut

pub shared_list : {X : Type 0} (f : X → List OpenTable) (es : List Entry) (o : Option X)
    (r : Option (List OpenTable)) → option_map f o ≡ r
    → MatchOption r (es ≡ []) (λ run. HasList es run)
    → MatchOption o (es ≡ []) (λ x. HasList es (f x))
shared_list {X} f es o r same returned =
    own o (subst (λ (p : Option (List OpenTable)). MatchOption p (es ≡ []) (λ run. HasList es run))
    (sym same) returned)
  where
    own : (o : Option X) → MatchOption (option_map f o) (es ≡ []) (λ run. HasList es run)
        → MatchOption o (es ≡ []) (λ x. HasList es (f x))
    own None h = h
    own (Some x) h = h

pub shared_own : {X : Type 0} (f : X → List OpenTable) (P : List OpenTable → Type 0) (o : Option X)
    (r : Option (List OpenTable)) → option_map f o ≡ r → IfSome r P → IfSome o (λ x. P (f x))
shared_own {X} f P o r same returned = own o (subst (λ (p : Option (List OpenTable)). IfSome p P)
    (sym same) returned)
  where
    own : (o : Option X) → IfSome (option_map f o) P → IfSome o (λ x. P (f x))
    own None h = h
    own (Some x) h = h

-- a fact about the view of a result, if the view is this
pub ok_is : {S X E : Type 0} (f : S → X) (P : X → Type 0) (r : Result S E) (x : X)
    → IfOk r (λ s. f s ≡ x) → P x → IfOk r (λ s. P (f s))
ok_is f P (Ok s) x same holds = subst P (sym same) holds
ok_is f P (Err e) x same holds = tt

-- the same about the result
pub ok_more : {S E : Type 0} {P Q : S → Type 0} (r : Result S E) → IfOk r P
    → ((s : S) → P s → Q s) → IfOk r Q
ok_more (Ok s) h more = more s h
ok_more (Err e) h more = tt

-- an error that is passed on is `OutOfMemory` if it was
pub wanted : {X E : Type 0} (m : E) (r : Result X E) (e : E) → IsErrAnd r (λ y. y ≡ e) → e ≡ m
    → IfErr r (λ y. y ≡ m)
wanted m (Ok x) e is memory = tt
wanted m (Err y) e is memory = is ∙ memory

-- a value is no error
pub refuses_none : {X E : Type 0} (P : E → Type 0) (r : Result X E) → IsOk r → IfErr r P
refuses_none P (Ok x) fine = tt
refuses_none P (Err e) fine = absurd cc
