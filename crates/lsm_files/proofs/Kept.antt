-- The result of a read whose failure the source keeps.
use Rattle.std.proofs.Common.{◌≡◌, List, ℕ, sym, subst}
use Rattle.std.specs.Prelude.{Bool, Result, Ok, Err, IfOk}
use Rattle.sst_entries.specs.declared.error.Error.{Error}
use Rattle.sst_blocks.specs.declared.opened.Opened.{Opened}
use Rattle.lsm_files.specs.declared.error.FileError.{FileError}
use Rattle.lsm_files.specs.declared.error.FileError.TheVariants.{Io, Table}
use Rattle.lsm_files.specs.Results.{kept_failure}

abbrev State : Type 0
State = List ℕ × Opened × Bool

module _ {X : Type 0} (s : State) where
  ok_by : (P : X → Type 0) (read : Result X FileError) → IfOk read P
      → IfOk (kept_failure read s).0 P
  ok_by P (Ok x) is = is
  ok_by P (Err (Table e)) is = tt
  ok_by P (Err (Io e)) is = tt

  -- a property of what was read
  pub kept_ok : (P : X → Type 0) (read : Result X FileError) (r : Result X Error) (t : State)
      → (r, t) ≡ kept_failure read s → IfOk read P → IfOk r P
  kept_ok P read r t is holds =
      subst (λ (p : Result X Error × State). IfOk p.0 P) (sym is) (ok_by P read holds)

pub both_ok : {X E : Type 0} (P Q W : X → Type 0) (r : Result X E) → IfOk r P → IfOk r Q
    → ((x : X) → P x → Q x → W x) → IfOk r W
both_ok P Q W (Ok x) p q both = both x p q
both_ok P Q W (Err e) p q both = tt
