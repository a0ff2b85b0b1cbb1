-- Items of any format: their encoding and decoding, and the strictly sorted list in a payload.
use Rattle.std.specs.Prelude.{◌≡◌, ℕ, zero, suc, ◌<◌, ◌≤◌, Bool, List, [], ◌∷◌, ◌++◌, length, drop}
use Rattle.std.specs.Prelude.{map, slice_index, nat_lt, Option, Some, None, option_and_then}
use Rattle.std.specs.Prelude.{find, unwrap_or, if◌then◌else◌}
use Rattle.std.specs.Option.{option_map}
use Rattle.sst_entries.specs.Entry.{Entry}
use Rattle.sst_entries.specs.Point.{read_place}
use Rattle.sst_entries.specs.Strict.{is_before, is_strict_after}
use Rattle.sst_blocks.specs.Number.{num4}

-- the encoding and decoding of an item, and the entry that determines its sort position
pub record Format (X : Type 0) : Type 0 where
  pub spell : X → List ℕ
  pub read : List ℕ → Option (X × List ℕ)
  pub key : X → Entry

-- decoding and encoding are inverse to each other
pub record IsFormat {X : Type 0} (f : Format X) (Fits : X → Type 0) : Type 0 where
  pub takes : (bytes : List ℕ) (x : X) (rest : List ℕ) → ((i : ℕ) → slice_index bytes i < 256)
      → f.read bytes ≡ Some (x, rest) → (bytes ≡ f.spell x ++ rest) × Fits x
  pub again : (x : X) (rest : List ℕ) → Fits x → f.read (f.spell x ++ rest) ≡ Some (x, rest)

-- decoding an item consumes as many bytes as its encoding has
abbrev pub Advances : {X : Type 0} → Format X → Type 0
Advances {X} f =
    (bytes : List ℕ) (x : X) (rest : List ℕ) → f.read bytes ≡ Some (x, rest)
    → (rest ≡ drop (length (f.spell x)) bytes) × (length (f.spell x) ≤ length bytes)

-- n items that use up all the bytes
abbrev pub items_at : {X : Type 0} → (List ℕ → Option (X × List ℕ)) → ℕ → List ℕ → Option (List X)
items_at read zero [] = Some []
items_at read zero (b ∷ bytes) = None
items_at {X} read (suc n) bytes =
    option_and_then (λ (x : X × List ℕ). option_map (λ xs. x.0 ∷ xs) (items_at read n x.1))
    (read bytes)

abbrev pub in_order : {X : Type 0} → Format X → List X → Bool
in_order f xs = is_strict_after None (map f.key xs)

-- the strictly sorted list of items in a payload, if it is valid
abbrev pub items_in : {X : Type 0} → Format X → List ℕ → Option (List X)
items_in f bytes =
    if nat_lt (length bytes) 4 then None
    else option_and_then (λ xs. if in_order f xs then Some xs else None)
    (items_at f.read (num4 bytes) (drop 4 bytes))

-- the same, else the empty list
abbrev pub items_of : {X : Type 0} → Format X → List ℕ → List X
items_of f bytes = unwrap_or (items_in f bytes) []

-- the first item in a payload that follows a read of a key at a seqno
abbrev pub first_after : {X : Type 0} → Format X → List ℕ → List ℕ → ℕ → Option X
first_after f bytes key seqno =
    find (λ x. is_before (read_place key seqno) (f.key x)) (unwrap_or (items_in f bytes) [])
