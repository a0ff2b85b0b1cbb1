use Rattle.std.proofs.Common.{◌≡◌, ℕ, suc, ap, arith}
use Rattle.std.specs.Arc.{arc_value}
use Rattle.lsm_run_parts.specs.RunParts.{span_of}
use Rattle.lsm_run_parts.proofs.Opens.{held}
use Rattle.lsm_run_parts.proofs.unopened.Unopened.new.Goals as goal

pub returns : goal.returns
returns g c =
    let last = c.args.ends.1 in
    ap (λ (n : ℕ). held (span_of c.args.ends c.args.range.0 c.args.range.1) (arc_value c.args.run) c.args.ends.0 n 0) (let e : c.place_behind-hi.result ≡ suc last = omega (arith, c.place_behind-hi.ensures) in e)
