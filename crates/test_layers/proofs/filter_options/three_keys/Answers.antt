-- Each key is greater than those before it.
use Rattle.std.proofs.Common.{[], ◌∷◌}
use Rattle.test_layers.proofs.KeyLemmas.{given_none, rises_above, rises_above_none, second_rises}
use Rattle.test_layers.proofs.KeyLemmas.{third_rises}
use Rattle.lsm_writers.specs.section.Held.{HoldsParts}
use Rattle.test_layers.proofs.filter_options.three_keys.Goals as goal

pub add-requires : goal.add-requires
add-requires c = rises_above_none (HoldsParts c.in_ok-none.none) c.from_static-a.result c.in_ok-none.ensures.holds

pub add-requires-2 : goal.add-requires-2
add-requires-2 c =
    let none = given_none c.in_ok-none.none c.in_ok-none.ensures.holds in
    let one = c.in_ok-one.ensures [] none in
    rises_above c.in_ok-one.one (c.from_static-a.result ∷ []) c.from_static-b.result one (second_rises c.from_static-a.result c.from_static-b.result c.from_static-a.ensures c.from_static-b.ensures)

pub add-requires-3 : goal.add-requires-3
add-requires-3 c =
    let none = given_none c.in_ok-none.none c.in_ok-none.ensures.holds in
    let one = c.in_ok-one.ensures [] none in
    let two = c.in_ok-two.ensures (c.from_static-a.result ∷ []) one in
    rises_above c.in_ok-two.two (c.from_static-a.result ∷ c.from_static-b.result ∷ []) c.from_static-c.result two
    (third_rises c.from_static-a.result c.from_static-b.result c.from_static-c.result c.from_static-a.ensures c.from_static-b.ensures c.from_static-c.ensures)
