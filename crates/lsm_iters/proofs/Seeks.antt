-- What a seek leaves of a block.
use Rattle.std.proofs.Common.{◌≡◌, refl, sym, ap, ◌∙◌, ℕ, List, [], ◌∷◌}
use Rattle.std.specs.Prelude.{Some, None, Bool, false, true, IsTrue, ◌↔◌}
use Rattle.sst_entries.specs.Span.{Span, rest_in}
use Rattle.sst_blocks.specs.Handle.{Handle}
use Rattle.sst_blocks.specs.Handles.{window}
use Rattle.sst_blocks.specs.Seeking.{whole_span, KeepsUpperEdge}
use Rattle.sst_blocks.proofs.Reaching.{left_whole}

-- no edge was sought
pub all_of : (s : Span Handle) (hs : List Handle) → s ≡ whole_span hs
    → rest_in s ≡ window hs None None
all_of s hs is = ap (λ (x : Span Handle). rest_in x) is ∙ left_whole hs

-- the lower edge was sought
pub lower_of : (s t : Span Handle) (hs : List Handle) (edge : List ℕ × ℕ) → s ≡ whole_span hs
    → KeepsUpperEdge edge s t → rest_in t ≡ window hs (Some edge) None
lower_of s t hs edge is keeps = keeps None hs (all_of s hs is)

-- a seek answers false where nothing is left
pub none_left : {X : Type 0} (xs : List X) (b : Bool) → IsTrue b ↔ (xs ≡ [] → ⊥) → b ≡ false
    → xs ≡ []
none_left [] b left false_now = refl
none_left (x ∷ xs) b left false_now =
    let some : b ≡ true = left.1 (λ e. cc) in
    let wrong : true ≡ false = sym some ∙ false_now in absurd cc
