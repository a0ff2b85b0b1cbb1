-- A value beside the answer of a call, which may be refused.
use Rattle.std.proofs.Common.{◌≡◌}
use Rattle.std.specs.Prelude.{IfErr, IfOk, MatchResult, Option, Result, Ok, Err}
use Rattle.sst_entries.specs.declared.error.Error.{Error}
use Rattle.sst_entries.specs.Error.{Faults}

module _ {T U : Type 0} (x : T) where
  -- what holds of the value,
  pub beside_former : (P : T → Type 0) (second : Result U Error) (r : Result (T × U) Error)
      → MatchResult second (λ y. r ≡ Ok (x, y)) (λ e. r ≡ Err e) → P x → IfOk r (λ both. P both.0)
  beside_former P (Ok y) r returned p = rw returned p
  beside_former P (Err e) r returned p = rw returned tt

  -- of the answer,
  pub beside_later : (Q : U → Type 0) (second : Result U Error) (r : Result (T × U) Error)
      → MatchResult second (λ y. r ≡ Ok (x, y)) (λ e. r ≡ Err e) → IfOk second Q
      → IfOk r (λ both. Q both.1)
  beside_later Q (Ok y) r returned q = rw returned q
  beside_later Q (Err e) r returned q = rw returned tt

  -- and of both
  pub beside_tied : (R : T → U → Type 0) (Q : U → Type 0) (second : Result U Error)
      (r : Result (T × U) Error) → MatchResult second (λ y. r ≡ Ok (x, y)) (λ e. r ≡ Err e)
      → ((y : U) → Q y → R x y) → IfOk second Q → IfOk r (λ both. R both.0 both.1)
  beside_tied R Q (Ok y) r returned tied q = rw returned (tied y q)
  beside_tied R Q (Err e) r returned tied q = rw returned tt

  -- what is refused
  pub beside_faults : (fault : Option Error) (second : Result U Error) (r : Result (T × U) Error)
      → MatchResult second (λ y. r ≡ Ok (x, y)) (λ e. r ≡ Err e) → Faults second fault
      → Faults r fault
  beside_faults fault (Ok y) r returned refused = rw returned refused
  beside_faults fault (Err e) r returned refused = rw returned refused

  pub beside_errs : (P : Error → Type 0) (second : Result U Error) (r : Result (T × U) Error)
      → MatchResult second (λ y. r ≡ Ok (x, y)) (λ e. r ≡ Err e) → IfErr second P → IfErr r P
  beside_errs P (Ok y) r returned p = rw returned tt
  beside_errs P (Err e) r returned p = rw returned p
