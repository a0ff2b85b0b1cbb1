use Rattle.std.proofs.Common.{◌∙◌, ◌+◌, ◌^◌, ◌<◌, refl, subst, Bool}
use Rattle.std.specs.Bool.{FalseIff}
use Rattle.sst_blocks.proofs.Probes.{place_least}
use Rattle.sst_blocks.proofs.filter.bit_array.next_probe.Goals as goal

pub returns-clause-place : goal.returns-clause-place
returns-clause-place c =
    let fits : c.args.probe + c.args.stride < 2 ^ 64 = subst (λ (b : Bool). FalseIff b (c.args.probe + c.args.stride < 2 ^ 64)) c.if-wraps.false c.overflowing_add-next.ensures.overflow in
    c.min.ensures ∙ place_least c.args.probe c.args.stride c.args.len c.args.place c.args.step c.overflowing_add-next.result.0 c.requires.some c.requires.place c.requires.step c.overflowing_add-next.ensures.value fits _ c.requires.short refl
