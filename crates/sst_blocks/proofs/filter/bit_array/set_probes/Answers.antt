use Rattle.std.proofs.Common.{◌≡◌, refl, ◌∙◌, subst, ◌*◌, ◌||◌, length, ℕ, arith}
use Rattle.sst_blocks.specs.filter.Filter.{is_in, is_set, probes, stride}
use Rattle.sst_blocks.proofs.Probes.{set_none, set_more, next_probe, probe_is}
use Rattle.sst_blocks.proofs.filter.bit_array.set_probes.Goals as goal

pub loop-init : goal.loop-init
loop-init c = (omega (arith, c.ranges.hash), refl, λ p _. set_none c.args.bits.now (8 * length c.args.bits.now) c.args.hash p)

pub loop-preserved : goal.loop-preserved
loop-preserved c =
    let m : ℕ = 8 * length c.args.bits.now in
    let same : length c.loop.bits ≡ length c.args.bits.now = c.loop.auto.bits in (
      c.next_probe.ensures.probe ∙ next_probe c.args.hash c.loop.counter c.stride-stride.result (stride c.args.hash) c.loop.probe c.stride-stride.ensures c.loop.invariant.0,
      c.next_probe.ensures.place,
      λ p h. set_more c.args.bits.now c.loop.bits c.set_bit.new.bits m c.loop.place c.args.hash c.loop.counter p
          (c.loop.invariant.1 ∙ probe_is c.args.hash c.loop.counter c.loop.probe (length c.args.bits.now) c.loop.invariant.0) (c.set_bit.ensures.bits p (omega (arith, same, h))) (c.loop.invariant.2 p h),
    )

pub returns-clause-bits : goal.returns-clause-bits
returns-clause-bits c = λ p h.
    let all : c.loop.counter ≡ c.args.count = omega (arith, c.loop-test.false, c.loop.auto.counter-end) in
    subst (λ (i : ℕ). is_set c.loop.bits p ≡ (is_set c.args.bits.now p || is_in p (probes (8 * length c.args.bits.now) c.args.hash i))) all (c.loop.invariant.2 p h)
