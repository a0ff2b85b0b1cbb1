use Rattle.std.proofs.Common.{sym, ◌∙◌}
use Rattle.lsm_writers.proofs.ListWriting.{numbered_from_test, test_from_numbered}
use Rattle.lsm_writers.proofs.list.is_writable.Goals as goal

pub returns-then-are_strict : goal.returns-then-are_strict
returns-then-are_strict g c = (
  λ h. record { strict = c.are_strict.ensures.means.0 c.if-are_strict.true; numbered = numbered_from_test _ (sym c.are_numbered.ensures ∙ h) },
  λ w. c.are_numbered.ensures ∙ test_from_numbered _ w.numbered,
)
