use Rattle.std.proofs.Common.{◌≡◌, ◌<◌, ℕ}
use Rattle.std.specs.Prelude.{IfSome, true}
use Rattle.sst_tool.specs.files.Files.{beside_name}
use Rattle.sst_tool.proofs.files.write.write_under.Given as goal

abbrev pub invariant-loop-number : goal.invariant-loop-number
invariant-loop-number g l = record {
  done : g.P.Place.done l.place ≡ g.P.Place.done l.fn.place;
  same : g.P.Place.there l.place ≡ g.P.Place.there l.fn.place;
  modes : g.P.Place.modes l.place ≡ g.P.Place.modes l.fn.place;
  taken : (n : ℕ) → n < l.number-counter → 0 < n
      → IfSome (g.P.Place.there l.fn.place (beside_name l.path n)) (λ b. b ≡ true);
}
