-- Sections laid one after another.
use Rattle.std.proofs.Common.{◌≡◌, refl, ◌∙◌, ap, ℕ, ◌+◌, List, [], ◌∷◌, ◌++◌, length}
use Rattle.std.proofs.Common.{length-append, arith}
use Rattle.std.proofs.lemmas.List.Concat.{flat_map-append}
use Rattle.sst_blocks.specs.declared.section.SectionName.{SectionName}
use Rattle.sst_blocks.specs.table.Layout.{Sections, starts_from, bytes_in, laid, appended}

starts_more : (at : ℕ) (ss ts : Sections) → starts_from at (ss ++ ts) ≡ starts_from at ss
    ++ starts_from (at + length (bytes_in ss)) ts
starts_more at [] ts = ap (λ (n : ℕ). starts_from n ts) (omega arith)
starts_more at (s ∷ ss) ts =
    let e : (at + length s.1) + length (bytes_in ss) ≡ at + length (bytes_in (s ∷ ss)) =
    omega (arith, length-append s.1 (bytes_in ss)) in
    ap (λ (x : List (SectionName × ℕ)). (s.0, at) ∷ x)
    (starts_more (at + length s.1) ss ts ∙ ap (λ (n : ℕ). starts_from (at + length s.1) ss
    ++ starts_from n ts) e)

-- sections behind sections are all of them
pub laid_more : (ss ts : Sections) → appended (laid ss) ts ≡ laid (ss ++ ts)
laid_more ss ts =
    let b : bytes_in (ss ++ ts) ≡ bytes_in ss ++ bytes_in ts =
    flat_map-append (λ (s : SectionName × List ℕ). s.1) ss ts in
    let s : starts_from 0 (ss ++ ts) ≡ starts_from 0 ss ++ starts_from (length (bytes_in ss)) ts =
    starts_more 0 ss ts ∙ ap (λ (n : ℕ). starts_from 0 ss ++ starts_from n ts) (omega arith) in
    rw (b, s) refl
