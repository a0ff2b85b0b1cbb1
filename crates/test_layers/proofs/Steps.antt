-- One load of rows.
use Rattle.std.proofs.Common.{◌≡◌, [], ◌∷◌, refl, ap, ◌∙◌, arith}
use Rattle.std.specs.Prelude.{Some, None, Result, Ok, Err}
use Rattle.sst_entries.specs.declared.error.Error.{Error}
use Rattle.sst_entries.specs.declared.stream.Direction.{Direction}
use Rattle.lsm_iters.specs.walk.Ends.{laid_from, taken_at}
use Rattle.lsm_iters.specs.walk.Parts.{LoadGives}
use Rattle.lsm_iters.proofs.Instances.{sum_taken}
use Rattle.lsm_iters.proofs.AtEnds.{at_end, map_taken}
use Rattle.test_layers.specs.declared.rows.Row.{Row}
use Rattle.test_layers.specs.declared.rows.Rows.{Rows}
use Rattle.test_layers.specs.Rows.{coming_rows, loads_named, row_named, row_remains}

taken : (at : Direction) (s t : Rows) (x : Result Row Error) → s.rows ≡ laid_from at (x ∷ []) t.rows
    → taken_at at s.rows ≡ (Some x, t.rows)
taken at s t x e = ap (taken_at at) e ∙ at_end at x t.rows

pub row_loaded : (at : Direction) (s t : Rows) (x : Result Row Error)
    → s.rows ≡ laid_from at (x ∷ []) t.rows → LoadGives row_remains coming_rows
    (λ _ _ _. Unit {0}) at s (Some x) t
row_loaded at s t (Ok row) e = record {
  named = Some (row_named (Ok row));
  names = map_taken row_named at s.rows t.rows (Ok row) (taken at s t (Ok row) e);
  returned = refl;
  loads = omega (arith, sum_taken loads_named at s.rows t.rows (Ok row) (taken at s t (Ok row) e));
  first = λ f early. let wrong : None ≡ Some f = early in absurd cc;
  kept = tt;
}
row_loaded at s t (Err x) e = record {
  named = Some (row_named (Err x));
  names = map_taken row_named at s.rows t.rows (Err x) (taken at s t (Err x) e);
  returned = λ fine. refl;
  loads = omega (arith, sum_taken loads_named at s.rows t.rows (Err x) (taken at s t (Err x) e));
  first = λ f early. let same : Some x ≡ Some f = early in cc;
  kept = tt;
}
