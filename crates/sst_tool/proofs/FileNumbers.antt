-- The numbers in the names of files.
use Rattle.std.proofs.Common.{◌≡◌, ◌∙◌, ◌-◌, ◌^◌, ◌++◌, ℕ, List, [], ap, append-nil, arith, false, length}
use Rattle.std.specs.Prelude.{replicate}
use Rattle.std.specs.Fmt.{char_count, format_spec, padded_integral}

-- a number that is filled up with zeros to six digits
pub six_digits : (ds : List ℕ)
    → padded_integral (format_spec 32 0 4 6 (2 ^ 64 - 1)) false [] ds
    ≡ replicate (6 - length ds) 48 ++ ds
unfolding padded_integral char_count
six_digits ds =
    let short : 6 - length ds - 0 - 0 ≡ 6 - length ds = omega arith in
    ap (λ (n : ℕ). replicate n 48 ++ (ds ++ [])) short
    ∙ ap (λ (digits : List ℕ). replicate (6 - length ds) 48 ++ digits) (append-nil ds)
