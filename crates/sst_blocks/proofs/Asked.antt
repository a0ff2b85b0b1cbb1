-- What is asked of a payload: what is told of one in the grammar and of one out of it, and where an
-- entry lies that was found.
use Rattle.std.proofs.Common.{◌≡◌, ℕ, ◌+◌, ◌-◌, ◌≤◌, Bool, true, false, List, length, drop, Option}
use Rattle.std.proofs.Common.{Some, None, get_or, refl, sym, ap, subst, ◌∙◌, arith, inl, inr}
use Rattle.std.specs.Prelude.{find, not, is_some, slice_range, unwrap_or, [], Result, Ok, Err, IfOk}
use Rattle.std.specs.Prelude.{IfSome, ◌<◌}
use Rattle.std.specs.List.{slice_get}
use Rattle.std.specs.Option.{option_map}
use Rattle.std.proofs.lemmas.Bool.{cases_lt}
use Rattle.std.proofs.lemmas.List.{length-drop, length-take, map-id}
use Rattle.std.proofs.lemmas.Option.{none-some, same_Some, slice_get-get_or}
use Rattle.bytes.proofs.Ranges.{slice_range-slice_range}
use Rattle.sst_blocks.specs.declared.version.TableVersion.{TableVersion}
use Rattle.sst_blocks.specs.declared.block_type.BlockType.{BlockType}
use Rattle.sst_entries.specs.declared.error.Error.{Error}
use Rattle.sst_entries.specs.declared.error.Error.TheVariants.{InvalidBlock}
use Rattle.sst_entries.specs.declared.value_type.ValueType.TheVariants.{Value}
use Rattle.sst_entries.specs.Entry.{Entry, entry}
use Rattle.sst_entries.specs.Point.{point, read_place}
use Rattle.sst_entries.specs.Span.{front_length}
use Rattle.sst_entries.specs.Strict.{IsStrict, IsStrictAfter, is_before}
use Rattle.sst_blocks.specs.Fnv.{fnv1a}
use Rattle.sst_blocks.specs.Sections.{body_of}
use Rattle.sst_blocks.specs.Version.{key_width}
use Rattle.sst_blocks.specs.declared.block_type.BlockType.TheVariants.{Data, Index}
use Rattle.sst_blocks.specs.Asked.{IsSure, place_for, point_of, result_map}
use Rattle.sst_blocks.specs.Block.{Loaded, checked_payload, entries_of, in_grammar, loaded}
use Rattle.sst_blocks.specs.Handle.{Handle}
use Rattle.sst_blocks.specs.Handles.{handles_in, reaches}
use Rattle.sst_blocks.specs.Place.{place_of}
use Rattle.sst_blocks.specs.Reading.{entries_in, entry_at}
use Rattle.sst_blocks.proofs.Entries.{Stands, entries_advance, entries_in_same, entry_format}
use Rattle.sst_blocks.proofs.Entries.{entry_lies, length-spelled, stands}
use Rattle.sst_blocks.proofs.Items.{items_strict}
use Rattle.sst_blocks.proofs.LoadLemmas.{checksum_right}
use Rattle.sst_blocks.proofs.MarkLemmas.{body_part}
use Rattle.sst_blocks.proofs.Points.{point_below, read_hit, read_other, read_past}
use Rattle.sst_entries.specs.Error.{Gives}
use Rattle.sst_blocks.proofs.SpanLemmas.{find_at_front, front_length-le}

-- ---- what is told of a payload with the right checksum

module _ {X : Type 0} (view : Loaded → X) (v : TableVersion) (checksum : ℕ) (kind : BlockType)
    (payload : List ℕ) where
  pub asked_right : fnv1a payload ≡ checksum → in_grammar v kind payload ≡ true
      → result_map view (checked_payload v checksum kind payload) ≡ Ok (view (loaded v kind payload))
  asked_right sum fine = ap (result_map view) (checksum_right v checksum kind payload sum)
      ∙ rw fine refl

  pub asked_wrong : fnv1a payload ≡ checksum → in_grammar v kind payload ≡ false
      → result_map view (checked_payload v checksum kind payload) ≡ Err InvalidBlock
  asked_wrong sum wrong = ap (result_map view) (checksum_right v checksum kind payload sum)
      ∙ rw wrong refl

-- ---- the first entry behind a read is the one that it finds, where it has the key

abbrev blank : Entry
blank = entry [] [] 0 Value

found_past : (p : Entry → Bool) (es : List Entry) → find p es ≡ None
    → front_length (λ e. not (p e)) es ≡ length es
found_past p es none =
    let n = front_length (λ (e : Entry). not (p e)) es in
    let here : slice_get es n ≡ None = sym (find_at_front p es) ∙ none in
    over es n (front_length-le (λ (e : Entry). not (p e)) es) here
  where
    over : (es : List Entry) (n : ℕ) → n ≤ length es → slice_get es n ≡ None → n ≡ length es
    over es n le none =
        elim (cases_lt n (length es)) [
          | inl lt ↦ absurd (none-some (get_or es n blank)
              (sym none ∙ slice_get-get_or es n blank lt))
          | inr past ↦ omega arith
        ]

pub found_none : (es : List Entry) (key : List ℕ) (bound : ℕ)
    → find (is_before (read_place key bound)) es ≡ None → point es key bound ≡ None
found_none es key bound none =
    let p = is_before (read_place key bound) in
    sym (read_past es key bound (front_length (λ (e : Entry). not (p e)) es) refl
    (found_past p es none))

pub found_other : (es : List Entry) (key : List ℕ) (bound : ℕ) (e : Entry) → IsStrict es
    → find (is_before (read_place key bound)) es ≡ Some e → (e.user_key ≡ key → ⊥)
    → point es key bound ≡ None
found_other es key bound e strict some other =
    let p = is_before (read_place key bound) in
    sym (read_other es key bound (front_length (λ (e : Entry). not (p e)) es) e strict refl
    (sym (find_at_front p es) ∙ some) other)

pub found_hit : (es : List Entry) (key : List ℕ) (bound : ℕ) (e : Entry)
    → find (is_before (read_place key bound)) es ≡ Some e → e.user_key ≡ key
    → point es key bound ≡ Some e
found_hit es key bound e some same =
    let p = is_before (read_place key bound) in
    sym (read_hit es key bound (front_length (λ (e : Entry). not (p e)) es) e refl
    (sym (find_at_front p es) ∙ some) same)

-- what a payload spells is strict
pub spelled_strict : (v : TableVersion) (bytes : List ℕ) → is_some (entries_in v bytes) ≡ true
    → IsStrict (unwrap_or (entries_in v bytes) [])
spelled_strict v bytes some = under (entries_in v bytes) refl some
  where
    under : (o : Option (List Entry)) → entries_in v bytes ≡ o → is_some o ≡ true
        → IsStrict (unwrap_or o [])
    under None returned some = absurd cc
    under (Some es) returned some = subst (IsStrictAfter None) (map-id es)
        (items_strict (entry_format v) (entries_advance v) bytes es
        (sym (entries_in_same v bytes) ∙ returned))

-- ---- an answer over a copy of the payload

module _ (v : TableVersion) (checksum : ℕ) (payload part : List ℕ) (same : part ≡ payload)
    (sum : fnv1a payload ≡ checksum) where
  pub entries_results : (key : List ℕ) (bound : ℕ) (answer : Option Entry)
      → is_some (entries_in v part) ≡ true → point (unwrap_or (entries_in v part) []) key bound
      ≡ answer
      → result_map (point_of key bound) (checked_payload v checksum Data payload) ≡ Ok answer
  entries_results key bound answer whole is =
      asked_right (point_of key bound) v checksum Data payload sum
      (ap (λ (b : List ℕ). is_some (entries_in v b)) (sym same) ∙ whole)
      ∙ ap (λ x. Ok x) (ap (λ (b : List ℕ). point (unwrap_or (entries_in v b) []) key bound)
      (sym same) ∙ is)

  pub entries_wrong : (key : List ℕ) (bound : ℕ) → entries_in v part ≡ None
      → result_map (point_of key bound) (checked_payload v checksum Data payload) ≡ Err InvalidBlock
  entries_wrong key bound none = asked_wrong (point_of key bound) v checksum Data payload sum
      (ap (λ (b : List ℕ). is_some (entries_in v b)) (sym same) ∙ ap is_some none)

  pub handles_result : (key : List ℕ) (bound : ℕ) (answer : Option Handle)
      → is_some (handles_in v part) ≡ true → answer
      ≡ find (reaches key bound) (unwrap_or (handles_in v part) [])
      → Ok (option_map place_of answer) ≡ result_map (place_for key bound)
      (checked_payload v checksum Index payload)
  handles_result key bound answer whole is =
      ap (λ (o : Option Handle). Ok (option_map place_of o))
      (is ∙ ap (λ (b : List ℕ). find (reaches key bound) (unwrap_or (handles_in v b) [])) same)
      ∙ sym (asked_right (place_for key bound) v checksum Index payload sum
      (ap (λ (b : List ℕ). is_some (handles_in v b)) (sym same) ∙ whole))

  pub handles_wrong : (key : List ℕ) (bound : ℕ) → handles_in v part ≡ None
      → result_map (place_for key bound) (checked_payload v checksum Index payload) ≡ Err InvalidBlock
  handles_wrong key bound none = asked_wrong (place_for key bound) v checksum Index payload sum
      (ap (λ (b : List ℕ). is_some (handles_in v b)) (sym same) ∙ ap is_some none)

-- ---- what memory cannot change

module _ {X : Type 0} where
  pub sure_none : (returned : Result (Option X) Error) → returned ≡ Ok None → IsSure (Ok None) returned
  sure_none returned is = subst (λ (t : Result (Option X) Error). IsSure (Ok None) t) (sym is) refl

  pub sure_some : (r returned : Result (Option X) Error) (x : X) → returned ≡ Ok (Some x) → IsSure r returned
  sure_some r returned x is = subst (λ (t : Result (Option X) Error). IsSure r t) (sym is) tt

  pub sure_fault : (returned : Result (Option X) Error) (e : Error) → returned ≡ Err e → IsSure (Err e) returned
  sure_fault returned e is = subst (λ (t : Result (Option X) Error). IsSure (Err e) t) (sym is) refl

-- ---- what a point read finds is visible

pub visible_given : (returned : Result Loaded Error) (key : List ℕ) (bound : ℕ)
    (r : Result (Option Entry) Error)
    → Gives (λ (x : Option Entry). x) r (result_map (point_of key bound) returned)
    → IfOk r (λ found. IfSome found (λ e. e.seqno < bound))
visible_given (Ok b) key bound (Ok None) given = tt
visible_given (Ok b) key bound (Ok (Some e)) given =
    let found : point (entries_of b) key bound ≡ Some e = cc in
    point_below (entries_of b) key bound e found
visible_given (Err f) key bound (Ok found) given = absurd cc
visible_given returned key bound (Err e) given = tt

pub point_visible : (es : List Entry) (key : List ℕ) (bound : ℕ) (r : Result (Option Entry) Error)
    → IfOk r (λ found. found ≡ point es key bound)
    → IfOk r (λ found. IfSome found (λ e. e.seqno < bound))
point_visible es key bound (Ok None) is = tt
point_visible es key bound (Ok (Some e)) is = point_below es key bound e (sym is)
point_visible es key bound (Err e) is = tt

-- ---- where an entry lies in a table's bytes

pub body_within : (bytes : List ℕ) → length (body_of bytes) ≤ length bytes
body_within bytes = omega (arith, length-take (length bytes - 120) bytes)

-- its key and its value are parts of the bytes
pub record Shares (bytes : List ℕ) (key_at end : ℕ) (e : Entry) : Type 0 where
  pub within : key_at + length e.user_key + length e.value ≤ end
  pub key : slice_range bytes key_at (key_at + length e.user_key) ≡ e.user_key
  pub value : slice_range bytes (key_at + length e.user_key)
      (key_at + length e.user_key + length e.value) ≡ e.value

read_there : (v : TableVersion) (bytes : List ℕ) (at : ℕ) (e : Entry) (o : Option (Entry × List ℕ))
    → entry_at v (drop at bytes) ≡ o → option_map (λ y. y.0) o ≡ Some e → Stands v bytes at e
read_there v bytes at e None returned some = absurd (none-some e some)
read_there v bytes at e (Some (x, rest)) returned some =
    let is : x ≡ e = same_Some x e some in
    let l = entry_lies v (drop at bytes) x rest returned in
    subst (Stands v bytes at) is (stands v bytes at x
    (record {
      rest = rest;
      found = returned;
      within =
          omega (arith, l.within, length-spelled v x, length-drop at bytes);
    }))

pub shares_there : (v : TableVersion) (bytes : List ℕ) (start end at key_at : ℕ) (e : Entry)
    → start ≤ end → end ≤ length (body_of bytes) → key_at ≡ start + at + (13 + key_width v)
    → option_map (λ y. y.0) (entry_at v (drop at (slice_range (body_of bytes) start end))) ≡ Some e
    → Shares bytes key_at end e
shares_there v bytes start end at key_at e ordered within is some =
    let payload = slice_range (body_of bytes) start end in
    let w = at + (13 + key_width v) in
    let k = length e.user_key in
    let m = length e.value in
    let s = read_there v payload at e (entry_at v (drop at payload)) refl some in
    let part : payload ≡ slice_range bytes start end = body_part bytes start end within in
    let size : length payload ≤ end - start = omega
    (arith, length-take (end - start) (drop start (body_of bytes))) in
    let fits : start + (w + k + m) ≤ end = omega (arith, s.within, size) in
    let e0 : start + w ≡ key_at = omega (arith, is) in
    let e1 : start + (w + k) ≡ key_at + k = omega (arith, is) in
    let e2 : start + (w + k + m) ≡ key_at + k + m = omega (arith, is) in
    let key = slice_range-slice_range bytes start end w (w + k) (omega arith)
    (omega (arith, fits)) in
    let value = slice_range-slice_range bytes start end (w + k) (w + k + m) (omega arith) fits in
    record {
      within = omega (arith, fits, e2);
      key = sym (ap (λ (b : List ℕ). slice_range b w (w + k)) part ∙ key
          ∙ ap (λ (i : ℕ). slice_range bytes i (start + (w + k))) e0
          ∙ ap (slice_range bytes key_at) e1) ∙ s.key;
      value = sym (ap (λ (b : List ℕ). slice_range b (w + k) (w + k + m)) part ∙ value
          ∙ ap (λ (i : ℕ). slice_range bytes i (start + (w + k + m))) e1
          ∙ ap (slice_range bytes (key_at + k)) e2) ∙ s.value;
    }
