-- Entries as JSON objects.
use Rattle.std.specs.Prelude.{◌≡◌, ◌⊎◌, ℕ, List, codes, length, Some, Ok}
use Rattle.std.specs.Str.{IsUtf8}
use Rattle.hex.specs.Hex.{decode_of}
use Rattle.json.specs.Find.{get_member}
use Rattle.json.specs.Json.{Json, Members, document, number, object, string}
use Rattle.json.specs.Strict.{HasUniqueKeys, keys}
use Rattle.sst_entries.specs.Entry.{Entry}
use Rattle.sst_entries.specs.declared.value_type.ValueType.{ValueType}
use Rattle.sst_entries.specs.declared.value_type.ValueType.TheVariants.{Value, Tombstone}
use Rattle.sst_entries.specs.declared.value_type.ValueType.TheVariants.{WeakTombstone, Indirection}
use Rattle.sst_tool.specs.lines.WordLine.{SpellsNumber}

-- The name of a kind.
abbrev pub kind_name : ValueType → List ℕ
kind_name Value = codes "value"
kind_name Tombstone = codes "tombstone"
kind_name WeakTombstone = codes "weak_tombstone"
kind_name Indirection = codes "indirection"

-- The value is a string with two hex digits for each byte.
abbrev pub StandsInDigits : Json → List ℕ → Type 0
StandsInDigits json bytes =
    (digits : List ℕ) × (json ≡ string digits) × (decode_of digits ≡ Ok bytes)

-- The object has one member, hex, with the digits of the bytes.
pub record AreDigits (members : Members) (bytes : List ℕ) : Type 0 where
  pub one : length (keys members) ≡ 1
  pub digits : Json
  pub are : get_member (codes "hex") members ≡ Some digits
  pub stand : StandsInDigits digits bytes

-- The value means these bytes: a string its text, and that object its bytes.
abbrev pub MeansBytes : Json → List ℕ → Type 0
MeansBytes json bytes =
    (json ≡ string bytes)
    ⊎ ((members : Members) × (json ≡ object members) × AreDigits members bytes)

-- The value is this number, without a point or an exponent.
abbrev pub MeansNumber : Json → ℕ → Type 0
MeansNumber json n = (word : List ℕ) × (json ≡ number word) × SpellsNumber word n

-- The line is a JSON document, no object of which has a member twice.
pub record IsStrictLine (line : List ℕ) (json : Json) : Type 0 where
  pub utf8 : IsUtf8 line
  pub is_document : document line ≡ Some json
  pub unique : HasUniqueKeys json

-- The object has the four members of an entry, with these values.
pub record AreMembers (members : Members) (key seqno kind value : Json) : Type 0 where
  pub four : length (keys members) ≡ 4
  pub key_is : get_member (codes "key") members ≡ Some key
  pub seqno_is : get_member (codes "seqno") members ≡ Some seqno
  pub kind_is : get_member (codes "kind") members ≡ Some kind
  pub value_is : get_member (codes "value") members ≡ Some value

-- The value is an object of exactly these four members.
abbrev pub IsEntryObject : Json → Json → Json → Json → Json → Type 0
IsEntryObject json key seqno kind value =
    (members : Members) × (json ≡ object members) × AreMembers members key seqno kind value

-- If the value is an object of four members, these are they.
abbrev pub AreMembersOf : Json → Json → Json → Json → Json → Type 0
AreMembersOf json key seqno kind value = (members : Members) → json ≡ object members
    → length (keys members) ≡ 4 → AreMembers members key seqno kind value

-- The four members of the line's object.
pub record FourMembers (line : List ℕ) : Type 0 where
  pub members : Members
  pub strict : IsStrictLine line (object members)
  pub key : Json
  pub seqno : Json
  pub kind : Json
  pub value : Json
  pub are : AreMembers members key seqno kind value

-- The line is an object whose members spell the entry.
pub record SpellsObject (line : List ℕ) (e : Entry) : Type 0 where
  pub members : FourMembers line
  pub key_is : MeansBytes members.key e.user_key
  pub seqno_is : MeansNumber members.seqno e.seqno
  pub kind_is : members.kind ≡ string (kind_name e.kind)
  pub value_is : MeansBytes members.value e.value
