use Rattle.std.proofs.Common.{◌≡◌, ℕ, List, [], ◌∷◌, ap, ◌∙◌}
use Rattle.std.proofs.lemmas.List.{take_rest}
use Rattle.sst_blocks.specs.Sections.{section_at}
use Rattle.sst_blocks.proofs.toc.Toc.read.Goals as goal

seven : {X : Type 0} {a b c d e f g a' b' c' d' e' f' g' : X} → a ≡ a' → b ≡ b' → c ≡ c' → d ≡ d' → e ≡ e' → f ≡ f' → g ≡ g' → a ∷ b ∷ c ∷ d ∷ e ∷ f ∷ g ∷ [] ≡ a' ∷ b' ∷ c' ∷ d' ∷ e' ∷ f' ∷ g' ∷ []
seven p q r s t u v = cc

pub returns : goal.returns
returns c =
    let cells = c.args.trailer.now in
    seven
    c.section_at.ensures
    (c.section_at-2.ensures ∙ ap (λ (xs : List ℕ). section_at xs) (take_rest cells 16))
    (c.section_at-3.ensures ∙ ap (λ (xs : List ℕ). section_at xs) (take_rest cells 32))
    (c.section_at-4.ensures ∙ ap (λ (xs : List ℕ). section_at xs) (take_rest cells 48))
    (c.section_at-5.ensures ∙ ap (λ (xs : List ℕ). section_at xs) (take_rest cells 64))
    (c.section_at-6.ensures ∙ ap (λ (xs : List ℕ). section_at xs) (take_rest cells 80))
    (c.section_at-7.ensures ∙ ap (λ (xs : List ℕ). section_at xs) (take_rest cells 96))
