-- On to the next entry of another key.
use Rattle.std.proofs.Common.{◌≡◌, ℕ, List, true, false, refl, sym, ◌∙◌, subst, arith}
use Rattle.std.specs.Prelude.{Option}
use Rattle.std.proofs.lemmas.Result.{err_from_is_err_and}
use Rattle.sst_entries.specs.Stream.{CanYield, nowhere}
use Rattle.sst_entries.proofs.StreamLemmas.{can_front, can_now}
use Rattle.lsm_sorted.specs.lending.LentNewest.{is_other, given_key}
use Rattle.lsm_sorted.proofs.LentNewestLemmas.{still_skips, gives_kept, gives_end, gives_fault}
use Rattle.lsm_sorted.proofs.LentNewestLemmas.{gives_memory}
use Rattle.lsm_sorted.proofs.LentNewestLemmas.{last_same, lowers_le}
use Rattle.lsm_sorted.proofs.LentNewestListens.{hears_end, hears_fault, hears_lent, hears_memory}
use Rattle.lsm_sorted.proofs.LentNewestListens.{skips_more}
use Rattle.lsm_sorted.proofs.lending_newest.LendingNewest.go_on.Goals as goal

pub advance-requires : goal.advance-requires
advance-requires g c =
    can_now g.L.Lending.advances nowhere g.L.Lending.can_advance g.L.Lending.can_advance c.loop-self.self.source c.loop-self.invariant.may

pub returns-in_err-advance-clause-goes : goal.returns-in_err-advance-clause-goes
returns-in_err-advance-clause-goes g c =
    let p = err_from_is_err_and c.from_residual.result c.from_residual.ensures.1 in
    let before = c.loop-self.invariant in
    let m = c.loop-self.self in
    let can = g.L.Lending.can_advance in
    rw (p.1, p.2) (record {
      may = can_front g.L.Lending.advances nowhere can can m.source _ c.advance.new.self before.may c.in_err-advance.ensures.goes;
      gives = λ stops. gives_fault stops g.L.Lending.advances g.L.Lending.lent c.args.self.now _ m.source (before.still stops) (before.live ∙ c.requires.live)
          (last_same m c.args.self.now before.key before.has) c.in_err-advance.field-0.0 c.in_err-advance.ensures.goes;
      states = record {
        live = λ o. hears_fault g.L.Lending.advances c.args.self.now _ m.source before.skipped c.in_err-advance.field-0.0 (before.live ∙ c.requires.live) c.in_err-advance.ensures.goes;
        ended = λ o. let no : false ≡ true = sym c.requires.live ∙ o in absurd cc;
      };
    })

pub returns-in-Err-clause-goes : goal.returns-in-Err-clause-goes
returns-in-Err-clause-goes g c =
    let before = c.loop-self.invariant in
    let can = g.L.Lending.can_advance in
    record {
      may = subst (CanYield g.L.Lending.advances nowhere can can) (sym c.in-Err.ensures.source)
          (can_front g.L.Lending.advances nowhere can can c.loop-self.self.source _ c.advance.new.self before.may c.in_ok-advance.ensures.goes);
      gives = λ stops. gives_memory stops g.L.Lending.advances c.args.self.now _ c.in-Err.error c.in-Err.ensures.err;
      states = record {
        live = λ o. hears_memory g.L.Lending.advances c.args.self.now _ c.loop-self.self.source before.skipped c.advance.new.self c.in-Err.ensures.source c.in_ok-advance.field-0 (g.L.Lending.lent c.advance.new.self) c.in-Err.error c.in_ok-advance.ensures.more c.if-branch.true c.in-Err.ensures.err refl c.in_ok-advance.ensures.goes;
        ended = λ o. let no : false ≡ true = sym c.requires.live ∙ o in absurd cc;
      };
    }

pub returns-then-is_other-clause-goes : goal.returns-then-is_other-clause-goes
returns-then-is_other-clause-goes g c =
    let before = c.loop-self.invariant in
    let m = c.loop-self.self in
    let t = c.advance.new.self in
    let can = g.L.Lending.can_advance in
    let lent = g.L.Lending.lent in
    let kept = last_same m c.args.self.now before.key before.has in
    let other : is_other (given_key c.args.self.now) (lent t) ≡ true =
    subst (λ (k : Option (List ℕ)). is_other k (lent t) ≡ true) kept (sym c.is_other.ensures ∙ c.if-is_other.true) in
    record {
      may = subst (CanYield g.L.Lending.advances nowhere can can) (sym c.in_default.ensures.source)
          (can_front g.L.Lending.advances nowhere can can m.source _ t before.may c.in_ok-advance.ensures.goes);
      gives = λ stops. gives_kept stops g.L.Lending.advances lent c.args.self.now c.remember.new.self m.source (before.still stops) (c.in_default.ensures.over ∙ before.live ∙ c.requires.live)
          t c.in_default.ensures.source c.in_ok-advance.field-0 c.in_default.ensures.has c.in_ok-advance.ensures.more c.if-branch.true other c.in_default.ensures.key c.in_ok-advance.ensures.goes;
      states = record {
        live = λ o. hears_lent g.L.Lending.advances c.args.self.now c.remember.new.self m.source before.skipped t c.in_default.ensures.source lent c.in_ok-advance.field-0 (lent t) refl c.in_ok-advance.ensures.more c.if-branch.true (c.in_default.ensures.over ∙ before.live ∙ c.requires.live) c.in_default.ensures.has c.in_ok-advance.ensures.goes;
        ended = λ o. let no : false ≡ true = sym c.requires.live ∙ o in absurd cc;
      };
    }

pub loop-self-preserved : goal.loop-self-preserved
loop-self-preserved g c =
    let before = c.loop-self.invariant in
    let m = c.loop-self.self in
    let t = c.advance.new.self in
    let can = g.L.Lending.can_advance in
    let lent = g.L.Lending.lent in
    let kept = last_same m c.args.self.now before.key before.has in
    let same : is_other (given_key c.args.self.now) (lent t) ≡ false =
    subst (λ (k : Option (List ℕ)). is_other k (lent t) ≡ false) kept (sym c.is_other.ensures ∙ c.if-is_other.false) in
    record {
      may = can_front g.L.Lending.advances nowhere can can m.source _ t before.may c.in_ok-advance.ensures.goes;
      key = before.key;
      has = before.has;
      live = before.live;
      lowers = let less = lowers_le (lent t) (g.L.Lending.left m.source) (g.L.Lending.left t) c.in_ok-advance.ensures.lowers in omega (arith, less, before.lowers);
      still = λ stops. still_skips stops g.L.Lending.advances (given_key c.args.self.now) c.args.self.now.source m.source t (lent t) (before.still stops) same c.in_ok-advance.ensures.goes;
      skipped = skips_more g.L.Lending.advances c.args.self.now.source m.source t (lent t) before.skipped c.in_ok-advance.ensures.goes;
    }

pub returns-clause-goes : goal.returns-clause-goes
returns-clause-goes g c =
    let before = c.loop-self.invariant in
    let m = c.loop-self.self in
    let can = g.L.Lending.can_advance in
    record {
      may = can_front g.L.Lending.advances nowhere can can m.source _ c.advance.new.self before.may c.in_ok-advance.ensures.goes;
      gives = λ stops. gives_end stops g.L.Lending.advances g.L.Lending.lent c.args.self.now _ m.source (before.still stops) (before.live ∙ c.requires.live)
          (last_same m c.args.self.now before.key before.has) c.in_ok-advance.field-0 c.in_ok-advance.ensures.more c.if-branch.false c.in_ok-advance.ensures.goes;
      states = record {
        live = λ o. hears_end g.L.Lending.advances c.args.self.now _ m.source before.skipped g.L.Lending.lent c.in_ok-advance.field-0 (g.L.Lending.lent c.advance.new.self) refl c.in_ok-advance.ensures.more c.if-branch.false (before.live ∙ c.requires.live) c.in_ok-advance.ensures.goes;
        ended = λ o. let no : false ≡ true = sym c.requires.live ∙ o in absurd cc;
      };
    }
