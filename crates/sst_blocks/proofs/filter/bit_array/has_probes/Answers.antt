use Rattle.std.proofs.Common.{◌≡◌, refl, sym, ap, ◌∙◌, ◌*◌, ◌≤◌, length, ℕ, ◌+◌, false, List, arith}
use Rattle.std.specs.List.{list_all}
use Rattle.sst_blocks.specs.filter.Filter.{is_set, probe, probes, stride}
use Rattle.sst_blocks.proofs.Probes.{asked_none, asked_more, asked_in_vain, next_probe, probe_is}
use Rattle.sst_blocks.proofs.filter.bit_array.has_probes.Goals as goal

pub loop-init : goal.loop-init
loop-init c = (omega (arith, c.ranges.hash), refl, asked_none c.args.bits.now (8 * length c.args.bits.now) c.args.hash)

pub returns-then-not-has_bit : goal.returns-then-not-has_bit
returns-then-not-has_bit c =
    let bits : List ℕ = c.args.bits.now in
    let m : ℕ = 8 * length bits in
    let q : ℕ = c.loop.place in
    let is : q ≡ probe m c.args.hash c.loop.counter = c.loop.invariant.1 ∙ probe_is c.args.hash c.loop.counter c.loop.probe (length bits) c.loop.invariant.0 in
    let no : list_all (is_set bits) (probes m c.args.hash (c.loop.counter + 1)) ≡ false =
    asked_more bits m c.args.hash c.loop.counter q is c.loop.invariant.2 ∙ sym c.has_bit.ensures ∙ c.if-not-has_bit.true in
    let le : c.loop.counter + 1 ≤ c.args.count = omega (arith, c.loop-test.true) in
    sym (asked_in_vain bits m c.args.hash (c.loop.counter + 1) c.args.count le no)

pub loop-preserved : goal.loop-preserved
loop-preserved c =
    let bits : List ℕ = c.args.bits.now in
    let m : ℕ = 8 * length bits in
    let q : ℕ = c.loop.place in
    let is : q ≡ probe m c.args.hash c.loop.counter = c.loop.invariant.1 ∙ probe_is c.args.hash c.loop.counter c.loop.probe (length bits) c.loop.invariant.0 in (
      c.next_probe.ensures.probe ∙ next_probe c.args.hash c.loop.counter c.stride-stride.result (stride c.args.hash) c.loop.probe c.stride-stride.ensures c.loop.invariant.0,
      c.next_probe.ensures.place,
      asked_more bits m c.args.hash c.loop.counter q is c.loop.invariant.2 ∙ sym c.has_bit.ensures ∙ c.if-not-has_bit.false,
    )

pub returns : goal.returns
returns c =
    let all : c.loop.counter ≡ c.args.count = omega (arith, c.loop-test.false, c.loop.auto.counter-end) in
    sym (ap (λ (i : ℕ). list_all (is_set c.args.bits.now) (probes (8 * length c.args.bits.now) c.args.hash i)) (sym all) ∙ c.loop.invariant.2)
