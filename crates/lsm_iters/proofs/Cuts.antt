-- A block without bounds.
use Rattle.std.proofs.Common.{◌≡◌, List, [], ◌∷◌, ◌-◌, arith, length, refl, sym, ap, ◌∙◌}
use Rattle.std.specs.declared.ops.Bound.TheVariants.{Unbounded}
use Rattle.sst_entries.specs.Entry.{Entry}
use Rattle.sst_entries.specs.Point.{within}
use Rattle.sst_entries.specs.Span.{rest_in}
use Rattle.sst_blocks.specs.Seeking.{whole_span}
use Rattle.std.proofs.lemmas.List.{take_all}

-- all entries lie within no bounds
pub all_within : (es : List Entry) → within Unbounded Unbounded es ≡ es
all_within [] = refl
all_within (e ∷ es) = ap (λ (xs : List Entry). e ∷ xs) (all_within es)

pub whole_within : (es : List Entry) → rest_in (whole_span es) ≡ within Unbounded Unbounded es
whole_within es = take_all (length es - 0) es (omega arith) ∙ sym (all_within es)
