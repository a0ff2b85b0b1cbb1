-- Where a bound does not cut a block.
use Rattle.std.proofs.Common.{◌≡◌, ℕ, suc, true, false, not, List, length, sym, ap, ◌∙◌, arith}
use Rattle.std.specs.Prelude.{Some}
use Rattle.std.specs.List.{slice_get}
use Rattle.std.specs.Option.{option_map}
use Rattle.std.specs.declared.ops.Bound.{Bound}
use Rattle.std.proofs.lemmas.Option.{none-some, same_Some, slice_get_past}
use Rattle.sst_entries.specs.Entry.{Entry}
use Rattle.sst_entries.specs.Point.{is_from, is_to, lower_place, upper_place}
use Rattle.sst_entries.specs.Strict.{IsStrict}
use Rattle.sst_blocks.specs.Reading.{key_and_number}
use Rattle.sst_blocks.proofs.Fronts.{front_found, passes_below, probed}
use Rattle.sst_blocks.proofs.Within.{before, lower_is, upper_is, upper_parted}

-- where the first entry stands within a lower bound, none stands before it
pub none_before : (low : Bound (List ℕ)) (es : List Entry) (key : List ℕ) (n : ℕ)
    → option_map key_and_number (slice_get es 0) ≡ Some (key, n) → is_from low key ≡ true
    → lower_place low es ≡ 0
none_before low es key n read from =
    let x = probed key_and_number es 0 key n read in
    let fails : before low x.item ≡ false = ap (λ (y : List ℕ × ℕ). not (is_from low y.0)) x.read
    ∙ ap not from in
    lower_is low es ∙ sym (front_found (before low) es 0 (omega arith)
    (λ i y lt. absurd (omega (arith, lt))) (λ y there. ap (before low)
    (same_Some y x.item (sym there ∙ x.here)) ∙ fails))

-- where the last entry stands within an upper bound, none stands past it
pub none_past : (high : Bound (List ℕ)) (es : List Entry) (i : ℕ) (key : List ℕ) (n : ℕ)
    → IsStrict es → length es ≡ suc i → option_map key_and_number (slice_get es i) ≡ Some (key, n)
    → is_to high key ≡ true → upper_place high es ≡ length es
none_past high es i key n strict last read to =
    let p = λ (e : Entry). is_to high e.user_key in
    let x = probed key_and_number es i key n read in
    let passes : p x.item ≡ true = ap (λ (y : List ℕ × ℕ). is_to high y.0) x.read ∙ to in
    upper_is high es ∙ sym (front_found p es (length es) (omega arith)
    (λ j y lt there. passes_below p es i x.item (upper_parted high es strict) x.here passes j y
    (omega (arith, lt, last)) there)
    (λ y there. absurd (none-some y (sym (slice_get_past es (length es) (omega arith)) ∙ there))))
