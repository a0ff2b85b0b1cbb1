use Rattle.std.proofs.Common.{◌≡◌, ◌-◌, ◌/◌, ◌∙◌, arith, length, sym}
use Rattle.std.proofs.lemmas.Bool.{eq-eqb, eqb-true}
use Rattle.std.specs.List.{slice_range}
use Rattle.sst_blocks.specs.Fnv.{fnv_from}
use Rattle.sst_blocks.proofs.FnvLemmas.{fnv_back-more, fnv_back-none, fnv_from-meets, fnv_from-more}
use Rattle.sst_blocks.proofs.FnvLemmas.{fnv_from-none}
use Rattle.sst_blocks.proofs.fnv.leads.Goals as goal

pub loop-i-init : goal.loop-i-init
loop-i-init c = record {
  front = sym (fnv_from-none c.args.from);
  back = fnv_back-none c.args.to c.args.bytes.now;
  fits = omega arith;
}

pub loop-i-preserved : goal.loop-i-preserved
loop-i-preserved c =
    let more = fnv_from-more c.args.from c.args.bytes.now c.loop-i.i (omega arith) in
    let taken = fnv_back-more c.loop-i.back c.args.bytes.now c.loop-i.i c.loop-i.invariant.fits (omega arith) in record {
      front = cc;
      back = cc (c.loop-i.invariant.back);
      fits = omega arith;
    }

pub returns : goal.returns
returns c =
    let i = c.loop-i.i in
    let ended : i ≡ length c.args.bytes.now / 2 = omega arith in
    let met = fnv_from-meets c.args.from c.args.to c.loop-i.front c.loop-i.back i c.args.bytes.now (omega arith) c.loop-i.invariant.fits (omega arith)
    c.loop-i.invariant.front c.loop-i.invariant.back in
    let hashed : c.hash_on.result ≡ fnv_from c.loop-i.front (slice_range c.args.bytes.now i (length c.args.bytes.now - i)) = cc (c.hash_on.ensures) in
    (λ e. met.0 (sym hashed ∙ eqb-true _ _ e), λ e. eq-eqb _ _ (hashed ∙ met.1 e))
