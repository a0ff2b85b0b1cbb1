use Rattle.std.proofs.Common.{◌<◌, refl, sym, ◌∙◌, subst, List, length, inl, inr, arith}
use Rattle.lsm_tables.specs.Words.{IsInOrder, OpenTable, range_of}
use Rattle.lsm_tables.proofs.TableLaws.{apart}
use Rattle.example_store.proofs.Opening.{some_there}
use Rattle.example_store.proofs.store.open.run_of_tables.Goals as goal

pub returns-in_default-clause-taken : goal.returns-in_default-clause-taken
returns-in_default-clause-taken g c some order =
    let less = subst (λ (ts : List OpenTable). 0 < length ts) c.in_default.ensures some in
    absurd (omega (arith, less))

pub returns-in_default-clause-named : goal.returns-in_default-clause-named
returns-in_default-clause-named g c = inl (refl, c.in_default.ensures)

pub returns-then-not-is_in_order-clause-taken : goal.returns-then-not-is_in_order-clause-taken
returns-then-not-is_in_order-clause-taken g c some order =
    absurd (apart c.is_in_order.result (c.is_in_order.ensures ∙ subst (IsInOrder range_of) (sym c.in-Some.ensures.0) order) c.if-not-is_in_order.true)

pub returns-then-not-is_in_order-clause-named : goal.returns-then-not-is_in_order-clause-named
returns-then-not-is_in_order-clause-named g c = inr (
  refl,
  λ order. absurd (apart c.is_in_order.result (c.is_in_order.ensures ∙ subst (IsInOrder range_of) (sym c.in-Some.ensures.0) order) c.if-not-is_in_order.true),
)

pub returns-clause-some : goal.returns-clause-some
returns-clause-some g c = some_there c.args.tables.items c.in-Some.ensures.1

pub returns-clause-order : goal.returns-clause-order
returns-clause-order g c =
    subst (IsInOrder range_of) c.in-Some.ensures.0 (sym c.is_in_order.ensures ∙ c.if-not-is_in_order.false)
