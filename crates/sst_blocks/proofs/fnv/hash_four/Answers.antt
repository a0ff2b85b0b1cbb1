use Rattle.std.proofs.Common.{◌≡◌, arith, sym}
use Rattle.std.proofs.lemmas.List.{take_rest}
use Rattle.sst_blocks.specs.Fnv.{fnv_basis}
use Rattle.sst_blocks.proofs.FnvLemmas.{fnv_from-more, fnv_from-none, fnv_from-split}
use Rattle.sst_blocks.proofs.fnv.hash_four.Goals as goal

pub loop-i-init : goal.loop-i-init
loop-i-init c = record { first = sym (fnv_from-none fnv_basis); second = sym (fnv_from-none fnv_basis); third = sym (fnv_from-none fnv_basis); fourth = sym (fnv_from-none fnv_basis) }

pub loop-i-preserved : goal.loop-i-preserved
loop-i-preserved c = record {
  first = let more = fnv_from-more fnv_basis c.args.first.now c.loop-i.i (omega arith) in cc;
  second = let more = fnv_from-more fnv_basis c.args.second.now c.loop-i.i (omega arith) in cc;
  third = let more = fnv_from-more fnv_basis c.args.third.now c.loop-i.i (omega arith) in cc;
  fourth = let more = fnv_from-more fnv_basis c.args.fourth.now c.loop-i.i (omega arith) in cc;
}

pub returns-clause-first : goal.returns-clause-first
returns-clause-first c =
    let ended : c.loop-i.i ≡ c.min-all.result = omega arith in
    let rest = take_rest c.args.first.now c.min-all.result in
    let whole = fnv_from-split fnv_basis c.min-all.result c.args.first.now in
    cc (c.hash_on.ensures, c.loop-i.invariant.first)

pub returns-clause-second : goal.returns-clause-second
returns-clause-second c =
    let ended : c.loop-i.i ≡ c.min-all.result = omega arith in
    let rest = take_rest c.args.second.now c.min-all.result in
    let whole = fnv_from-split fnv_basis c.min-all.result c.args.second.now in
    cc (c.hash_on-2.ensures, c.loop-i.invariant.second)

pub returns-clause-third : goal.returns-clause-third
returns-clause-third c =
    let ended : c.loop-i.i ≡ c.min-all.result = omega arith in
    let rest = take_rest c.args.third.now c.min-all.result in
    let whole = fnv_from-split fnv_basis c.min-all.result c.args.third.now in
    cc (c.hash_on-3.ensures, c.loop-i.invariant.third)

pub returns-clause-fourth : goal.returns-clause-fourth
returns-clause-fourth c =
    let ended : c.loop-i.i ≡ c.min-all.result = omega arith in
    let rest = take_rest c.args.fourth.now c.min-all.result in
    let whole = fnv_from-split fnv_basis c.min-all.result c.args.fourth.now in
    cc (c.hash_on-4.ensures, c.loop-i.invariant.fourth)
