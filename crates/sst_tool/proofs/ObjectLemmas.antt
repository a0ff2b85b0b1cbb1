-- Objects of JSON, and their members.
use Rattle.std.proofs.Common.{◌≡◌, refl, sym, ◌∙◌, ap, inl, inr, ℕ, suc, List, [], ◌∷◌, length}
use Rattle.std.proofs.Common.{Option, Some, Result, Ok, Err, IfOk, IfErr, codes, Vec, rules, subst}
use Rattle.std.proofs.Common.{false}
use Rattle.std.specs.Borrow.{Bor}
use Rattle.json.specs.Find.{get, get_member}
use Rattle.json.specs.Json.{Json, Members, object, string}
use Rattle.json.specs.Strict.{keys}
use Rattle.json.specs.Value.{members_view, value_view}
use Rattle.json.specs.declared.value.Value.{Object, Value, the_lemmas}
use Rattle.sst_entries.specs.Entry.{Entry}
use Rattle.sst_tool.specs.lines.Faults.{lacks_memory}
use Rattle.sst_tool.specs.lines.ObjectLine.{FourMembers, IsEntryObject, IsStrictLine, MeansBytes}
use Rattle.sst_tool.specs.lines.ObjectLine.{MeansNumber, SpellsObject, StandsInDigits, kind_name}
use Rattle.sst_tool.specs.declared.lines.entry_line.LineError.{LineError}

-- an object's members
pub view_object : {A : Type 0} (v : Vec (Bor (List ℕ) × Value A) A)
    → value_view (Object v) ≡ object (members_view v.items)
view_object {A} v = search (rules, the_lemmas)

-- as many keys as members
pub keys_long : {A : Type 0} (ms : List (Bor (List ℕ) × Value A))
    → length (keys (members_view ms)) ≡ length ms
keys_long [] = refl
keys_long {A} (m ∷ ms) = ap (λ (n : ℕ). suc n) (keys_long ms)

-- an object that is told to have so many members
pub has_members : {A : Type 0} (value : Value A) (ms : List (Bor (List ℕ) × Value A)) (n : ℕ)
    → value_view value ≡ object (members_view ms) → length ms ≡ n
    → (x : Members) × (value_view value ≡ object x) × (length (keys x) ≡ n)
has_members {A} value ms n is long = (members_view ms, is, keys_long ms ∙ long)

-- ---- bytes

-- an object that has another number of members than one stands for no bytes
pub many_mean_none : {A : Type 0} (value : Value A) (ms : List (Bor (List ℕ) × Value A))
    → value_view value ≡ object (members_view ms) → (length ms ≡ 1 → ⊥) → (bytes : List ℕ)
    → MeansBytes (value_view value) bytes → ⊥
many_mean_none {A} value ms is other bytes (inl h) =
    let same : object (members_view ms) ≡ string bytes = sym is ∙ h in absurd cc
many_mean_none {A} value ms is other bytes (inr h) =
    let same : object (members_view ms) ≡ object h.0 = sym is ∙ h.1 in
    let inner : members_view ms ≡ h.0 = cc in
    other (sym (keys_long ms) ∙ ap (λ (x : Members). length (keys x)) inner ∙ h.2.one)

-- nor does what is neither a string nor an object
pub other_mean_none : (json : Json) → ((bytes : List ℕ) → json ≡ string bytes → ⊥)
    → ((x : Members) → json ≡ object x → ⊥) → (bytes : List ℕ) → MeansBytes json bytes → ⊥
other_mean_none json text members bytes (inl h) = text bytes h
other_mean_none json text members bytes (inr h) = members h.0 h.1

digits_mean : (json digits : Json) (x : Members) (bytes : List ℕ) → json ≡ object x
    → length (keys x) ≡ 1 → get (codes "hex") json ≡ Some digits → StandsInDigits digits bytes
    → MeansBytes json bytes
digits_mean json digits x bytes is one found stand =
    inr (
      x,
      is,
      record {
        one = one;
        digits = digits;
        are = sym (ap (get (codes "hex")) is) ∙ found;
        stand = stand;
      },
    )

-- the bytes of the digits in an object of one member
pub means_digits : {E : Type 0} (json digits : Json) (returned : Result (List ℕ) E)
    → (x : Members) × (json ≡ object x) × (length (keys x) ≡ 1)
    → get (codes "hex") json ≡ Some digits
    → IfOk returned (λ bytes. StandsInDigits digits bytes) → IfOk returned (λ bytes. MeansBytes json bytes)
means_digits json digits (Ok bytes) one found h =
    digits_mean json digits one.0 bytes one.1 one.2 found h
means_digits json digits (Err e) one found h = tt

means_its_digits : (json digits : Json) (x : Members) (bytes : List ℕ) → json ≡ object x
    → get (codes "hex") json ≡ Some digits → MeansBytes json bytes → StandsInDigits digits bytes
means_its_digits json digits x bytes is found (inl h) =
    let same : object x ≡ string bytes = sym is ∙ h in absurd cc
means_its_digits json digits x bytes is found (inr h) =
    let same : Some h.2.digits ≡ Some digits =
    sym h.2.are ∙ sym (ap (get (codes "hex")) h.1) ∙ found in
    let inner : h.2.digits ≡ digits = cc in
    subst (λ (j : Json). StandsInDigits j bytes) inner h.2.stand

-- digits that stand for no bytes
pub digits_mean_none : {X : Type 0} (json digits : Json) (returned : Result X LineError) → (x : Members) × (json ≡ object x) × (length (keys x) ≡ 1)
    → get (codes "hex") json ≡ Some digits
    → IfErr returned (λ e. lacks_memory e ≡ false →
    (bytes : List ℕ) → ¬ StandsInDigits digits bytes)
    → IfErr returned (λ e. lacks_memory e ≡ false → (bytes : List ℕ) → ¬ MeansBytes json bytes)
digits_mean_none json digits (Ok bytes) one found h = tt
digits_mean_none json digits (Err e) one found h = λ fine bytes means.
    h fine bytes (means_its_digits json digits one.0 bytes one.1 found means)

-- ---- members

same_object : (x y : Members) → object x ≡ object y → x ≡ y
same_object x y e = cc

-- a line is one document
document_once : (line : List ℕ) (a b : Json) → IsStrictLine line a → IsStrictLine line b → a ≡ b
document_once line a b h k = let e : Some a ≡ Some b = sym h.is_document ∙ k.is_document in cc

-- the members of a line that is an entry's object
abbrev pub four_members : (line : List ℕ) (json key seqno kind value : Json)
    → IsStrictLine line json → IsEntryObject json key seqno kind value → FourMembers line
four_members line json key seqno kind value strict h = record {
  members = h.0;
  strict = subst (λ (j : Json). IsStrictLine line j) h.1 strict;
  key = key;
  seqno = seqno;
  kind = kind;
  value = value;
  are = h.2;
}

same_some : (o : Option Json) (a b : Json) → o ≡ Some a → o ≡ Some b → a ≡ b
same_some o a b h k = let e : Some a ≡ Some b = sym h ∙ k in cc

-- a line has one choice of four members
pub four_once : (line : List ℕ) (v w : FourMembers line)
    → (v.key ≡ w.key) × (v.seqno ≡ w.seqno) × (v.kind ≡ w.kind) × (v.value ≡ w.value)
four_once line v w =
    let same : v.members ≡ w.members = same_object v.members w.members
    (document_once line (object v.members) (object w.members) v.strict w.strict) in
    let found : (name : List ℕ) (a b : Json) → get_member name v.members ≡ Some a
    → get_member name w.members ≡ Some b → a ≡ b =
    λ name a b h k. same_some (get_member name w.members) a b
    (sym (ap (get_member name) same) ∙ h) k in (
      found (codes "key") v.key w.key v.are.key_is w.are.key_is,
      found (codes "seqno") v.seqno w.seqno v.are.seqno_is w.are.seqno_is,
      found (codes "kind") v.kind w.kind v.are.kind_is w.are.kind_is,
      found (codes "value") v.value w.value v.are.value_is w.are.value_is,
    )

-- what the members mean of an object whose line spells an entry
pub object_by : (line : List ℕ) (json key seqno kind value : Json) → IsStrictLine line json
    → IsEntryObject json key seqno kind value → (e : Entry) → SpellsObject line e
    → MeansBytes key e.user_key × MeansNumber seqno e.seqno × (kind ≡ string (kind_name e.kind))
    × MeansBytes value e.value
object_by line json key seqno kind value strict is e s =
    let same = four_once line s.members
    (four_members line json key seqno kind value strict is) in (
      subst (λ (j : Json). MeansBytes j e.user_key) same.0 s.key_is,
      subst (λ (j : Json). MeansNumber j e.seqno) same.1 s.seqno_is,
      sym same.2 ∙ s.kind_is,
      subst (λ (j : Json). MeansBytes j e.value) same.3 s.value_is,
    )

-- a line that spells an entry is an entry's object
pub no_object : (line : List ℕ) (json : Json) → IsStrictLine line json
    → ((key seqno kind value : Json) → ¬ IsEntryObject json key seqno kind value)
    → (e : Entry) → ¬ SpellsObject line e
no_object line json strict none e s =
    let m = s.members in
    none m.key m.seqno m.kind m.value
    (m.members, document_once line json (object m.members) strict m.strict, m.are)

-- an object that has another number of members
pub other_many : {A : Type 0} (value : Value A) (ms : List (Bor (List ℕ) × Value A))
    → value_view value ≡ object (members_view ms) → (length ms ≡ 4 → ⊥)
    → (key seqno kind rest : Json) → ¬ IsEntryObject (value_view value) key seqno kind rest
other_many {A} value ms is other key seqno kind rest h =
    let same : object (members_view ms) ≡ object h.0 = sym is ∙ h.1 in
    let inner : members_view ms ≡ h.0 = cc in
    other (sym (keys_long ms) ∙ ap (λ (x : Members). length (keys x)) inner ∙ h.2.four)

-- a fault of a line that spells no entry
abbrev pub SpellsNone : List ℕ → LineError → Type 0
SpellsNone line e = lacks_memory e ≡ false → (item : Entry) → ¬ SpellsObject line item
