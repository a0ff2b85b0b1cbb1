use Rattle.std.proofs.Common.{◌≡◌, arith, sym}
use Rattle.std.proofs.lemmas.List.{take_rest}
use Rattle.sst_blocks.proofs.FnvLemmas.{fnv_from-more, fnv_from-none, fnv_from-split}
use Rattle.sst_blocks.proofs.fnv.update_both.Goals as goal

pub loop-i-init : goal.loop-i-init
loop-i-init c = record { one = sym (fnv_from-none c.args.first.now.0); other = sym (fnv_from-none c.args.second.now.0) }

pub loop-i-preserved : goal.loop-i-preserved
loop-i-preserved c = record {
  one = let more = fnv_from-more c.args.first.now.0 c.args.first_bytes.now c.loop-i.i (omega arith) in cc;
  other = let more = fnv_from-more c.args.second.now.0 c.args.second_bytes.now c.loop-i.i (omega arith) in cc;
}

pub returns-clause-first : goal.returns-clause-first
returns-clause-first c =
    let ended : c.loop-i.i ≡ c.min-both.result = omega arith in
    let rest = take_rest c.args.first_bytes.now c.min-both.result in
    let whole = fnv_from-split c.args.first.now.0 c.min-both.result c.args.first_bytes.now in
    cc (c.update.ensures, c.loop-i.invariant.one)

pub returns-clause-second : goal.returns-clause-second
returns-clause-second c =
    let ended : c.loop-i.i ≡ c.min-both.result = omega arith in
    let rest = take_rest c.args.second_bytes.now c.min-both.result in
    let whole = fnv_from-split c.args.second.now.0 c.min-both.result c.args.second_bytes.now in
    cc (c.update-2.ensures, c.loop-i.invariant.other)
