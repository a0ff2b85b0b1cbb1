use Rattle.std.proofs.Common.{◌≡◌, ◌-◌, ◌*◌, ◌/◌, arith, drop, length, sym, take}
use Rattle.sst_blocks.specs.Fnv.{fnv_basis, fnv_from}
use Rattle.sst_blocks.proofs.FnvLemmas.{fnv_back-none, fnv_back-two, fnv_from-meets, fnv_from-two}
use Rattle.sst_blocks.proofs.FnvLemmas.{fnv_from-none}
use Rattle.sst_blocks.proofs.fnv.have_hashes.Goals as goal

pub loop-i-init : goal.loop-i-init
loop-i-init c = record {
  front = sym (fnv_from-none fnv_basis);
  back = fnv_back-none c.args.first_sum c.args.first.now;
  fits = omega arith;
  other_front = sym (fnv_from-none fnv_basis);
  other_back = fnv_back-none c.args.second_sum c.args.second.now;
  other_fits = omega arith;
}

pub loop-i-preserved : goal.loop-i-preserved
loop-i-preserved c =
    let xs = c.args.first.now in
    let ys = c.args.second.now in
    let l = c.loop-i in
    let more = fnv_from-two fnv_basis xs l.i (omega arith) in
    let taken = fnv_back-two l.back xs l.i l.invariant.fits (omega (arith, c.step_back-back.ensures)) (omega arith) in
    let other_more = fnv_from-two fnv_basis ys l.i (omega arith) in
    let other_taken = fnv_back-two l.other_back ys l.i l.invariant.other_fits (omega (arith, c.step_back-other_back.ensures)) (omega arith) in record {
      front = cc;
      back = cc (l.invariant.back);
      fits = omega arith;
      other_front = cc;
      other_back = cc (l.invariant.other_back);
      other_fits = omega arith;
    }

pub returns-clause-first : goal.returns-clause-first
returns-clause-first c =
    let xs = c.args.first.now in
    let l = c.loop-i in
    let twos = c.min-twos.result / 4 in
    let ended : l.i ≡ twos = omega arith in
    let hashed : l.front ≡ fnv_from fnv_basis (take (2 * twos) xs) = cc (l.invariant.front) in
    let taken : fnv_from l.back (drop (length xs - 2 * twos) xs) ≡ c.args.first_sum = cc (l.invariant.back) in
    let met = fnv_from-meets fnv_basis c.args.first_sum l.front l.back (2 * twos) xs (omega arith) l.invariant.fits (omega arith) hashed taken in
    (λ e. met.0 (c.leads.ensures.0 e), λ e. c.leads.ensures.1 (met.1 e))

pub returns-clause-second : goal.returns-clause-second
returns-clause-second c =
    let ys = c.args.second.now in
    let l = c.loop-i in
    let twos = c.min-twos.result / 4 in
    let ended : l.i ≡ twos = omega arith in
    let hashed : l.other_front ≡ fnv_from fnv_basis (take (2 * twos) ys) = cc (l.invariant.other_front) in
    let taken : fnv_from l.other_back (drop (length ys - 2 * twos) ys) ≡ c.args.second_sum = cc (l.invariant.other_back) in
    let met = fnv_from-meets fnv_basis c.args.second_sum l.other_front l.other_back (2 * twos) ys (omega arith) l.invariant.other_fits (omega arith) hashed taken in
    (λ e. met.0 (c.leads-2.ensures.0 e), λ e. c.leads-2.ensures.1 (met.1 e))
