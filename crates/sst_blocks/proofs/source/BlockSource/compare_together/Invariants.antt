use Rattle.std.specs.Prelude.{IfSome}
use Rattle.sst_blocks.specs.Placed.{IsHeaded}
use Rattle.sst_blocks.proofs.source.BlockSource.compare_together.Given as goal

abbrev pub invariant-loop-handle : goal.invariant-loop-handle
invariant-loop-handle g l = record {
  first_headed : IfSome l.first (λ p. IsHeaded l.self p);
  second_headed : IfSome l.second (λ p. IsHeaded l.self p);
  third_headed : IfSome l.third (λ p. IsHeaded l.self p);
}
