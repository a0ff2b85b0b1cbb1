-- What the getters of matches say, in words of rows.
use Rattle.std.proofs.Common.{◌≡◌, ◌∙◌, ℕ, List, [], ap, refl}
use Rattle.std.specs.Prelude.{Option, Some, None, Result, Ok, Err, codes, option_map, unwrap_or}
use Rattle.std.specs.Str.Parse.{ParsesUnsigned}
use Rattle.clap.specs.Words.{ReadsOne, Text, matched_of, one_of, one_text, raw_values, rows_of}
use Rattle.clap.specs.declared.parser.matches.Found.{Found}
use Rattle.clap.proofs.WalkLemmas.{one_text-rows, raw_values-rows}
use Rattle.tool_options.specs.Tasks.{Spells, named_files}

-- a number that is read as its type reads a text
spells : {E : Type 0} (bits : ℕ) (gives : Text → Result ℕ E → Type 0)
    → ((t : Text) (r : Result ℕ E) → gives t r → ParsesUnsigned bits 10 t r)
    → (o : Option Text) (r : Option ℕ)
    → (o ≡ None → r ≡ None) → ((t : Text) → o ≡ Some t → ReadsOne gives t r) → Spells bits o r
spells bits gives exact None r none value = none refl
spells bits gives exact (Some t) None none value = let read = value t refl in exact t (Err read.0) read.1
spells bits gives exact (Some t) (Some n) none value = exact t (Ok n) (value t refl)

pub spells_one : {E : Type 0} (bits : ℕ) (gives : Text → Result ℕ E → Type 0)
    → ((t : Text) (r : Result ℕ E) → gives t r → ParsesUnsigned bits 10 t r)
    → (f : Found) (id : Text) (r : Option ℕ)
    → (one_text f id ≡ None → r ≡ None) → ((t : Text) → one_text f id ≡ Some t → ReadsOne gives t r)
    → Spells bits (one_of id (rows_of f)) r
spells_one bits gives exact f id r none value = spells bits gives exact (one_of id (rows_of f)) r
    (λ e. none (one_text-rows f id ∙ e)) (λ t e. value t (one_text-rows f id ∙ e))

pub placed_of : (f : Found) (shown : Option (List Text)) → shown ≡ option_map raw_values (matched_of f (codes "files"))
    → unwrap_or shown [] ≡ named_files (rows_of f)
placed_of f shown e = ap (λ (o : Option (List Text)). unwrap_or o []) (e ∙ raw_values-rows f (codes "files"))
