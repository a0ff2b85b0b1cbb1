use Rattle.std.proofs.Common.{◌≡◌, ◌∙◌, refl, sym, subst, false, true}
use Rattle.lsm_tables.specs.Words.{entry_of_ref, may_follow}
use Rattle.lsm_tables.proofs.TableLaws.{apart, can_front, can_now, nowhere}
use Rattle.example_store.proofs.Order.{ComesOn, comes_by_place, comes_fine, comes_first, comes_last, comes_next, comes_out, lent_step, none_step, only_memory}
use Rattle.example_store.proofs.store.order.comes_in_order.Goals as goal

pub loop-last-init : goal.loop-last-init
loop-last-init g c = (c.requires.can, λ es yields. comes_first g.L.Lending.advances es _ _ c.requires.first yields)

pub advance-requires : goal.advance-requires
advance-requires g c = can_now g.L.Lending.advances nowhere g.L.Lending.can_advance g.L.Lending.can_advance c.loop-last.items c.loop-last.invariant.0

pub returns-in_err-advance-clause-memory : goal.returns-in_err-advance-clause-memory
returns-in_err-advance-clause-memory g c es yields =
    only_memory c.from_residual.result c.in_err-advance.field-0.0 c.from_residual.ensures.1
    (comes_fine g.L.Lending.advances es c.loop-last.last c.loop-last.items c.advance.new.self c.in_err-advance.field-0.0 (c.loop-last.invariant.1 es yields) c.in_err-advance.ensures.goes)

pub returns-then-not-branch-clause-exact : goal.returns-then-not-branch-clause-exact
returns-then-not-branch-clause-exact g c es yields =
    let next = g.L.Lending.advances in
    let e = entry_of_ref c.in-Some.entry in
    let step = lent_step next c.loop-last.items c.advance.new.self e _ c.in-Some.ensures c.in_ok-advance.ensures.goes in
    let given = c.in_ok-comes_next.ensures.follows in
    let answer = c.if-not-branch.true in
    let other : may_follow c.loop-last.last e ≡ false = cc in (
      λ wrong. absurd (apart false wrong refl),
      λ strict. absurd (comes_out next es c.loop-last.last c.loop-last.items c.advance.new.self e (c.loop-last.invariant.1 es yields) step other strict),
    )

pub loop-last-preserved-else-not-branch : goal.loop-last-preserved-else-not-branch
loop-last-preserved-else-not-branch g c =
    let next = g.L.Lending.advances in
    let e = entry_of_ref c.in-Some.entry in
    let step = lent_step next c.loop-last.items c.advance.new.self e _ c.in-Some.ensures c.in_ok-advance.ensures.goes in
    let given = c.in_ok-comes_next.ensures.follows in
    let answer = c.if-not-branch.false in
    let follows : may_follow c.loop-last.last e ≡ true = cc in (
      can_front next nowhere g.L.Lending.can_advance g.L.Lending.can_advance c.loop-last.items _ c.advance.new.self c.loop-last.invariant.0 c.advance.ensures.goes,
      λ es yields. subst (λ l. ComesOn next es l c.advance.new.self) (sym c.in_ok-comes_next.ensures.last)
          (comes_by_place next es c.advance.new.self e (comes_next next es c.loop-last.last c.loop-last.items c.advance.new.self e (c.loop-last.invariant.1 es yields) step follows)),
    )

pub returns-clause-exact : goal.returns-clause-exact
returns-clause-exact g c es yields =
    let next = g.L.Lending.advances in
    let none = none_step next c.loop-last.items c.advance.new.self (g.L.Lending.lent c.advance.new.self) (sym c.in_ok-advance.ensures.more ∙ c.if-branch.false) c.in_ok-advance.ensures.goes in (
      λ _. comes_last next es c.loop-last.last c.loop-last.items c.advance.new.self (c.loop-last.invariant.1 es yields) none,
      λ _. refl,
    )
