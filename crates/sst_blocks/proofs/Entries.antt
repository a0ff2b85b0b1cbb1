-- Entries as a format of items: what is read is spelled so, and what is spelled so is read.
use Rattle.std.proofs.Common.{◌≡◌, ℕ, ◌+◌, ◌-◌, ◌^◌, ◌<◌, ◌≤◌, Bool, true, false, cond, ltb, List}
use Rattle.std.proofs.Common.{[], ◌∷◌, ◌++◌, length, take, drop, Option, Some, None, refl, sym, ap}
use Rattle.std.proofs.Common.{subst, ◌∙◌, append_assoc, arith, inl, inr, eqb, ◌⊎◌}
use Rattle.std.specs.Prelude.{option_and_then, unwrap_or, slice_index, slice_range}
use Rattle.std.specs.List.{flat_map, slice_get}
use Rattle.std.specs.Option.{option_map}
use Rattle.std.proofs.lemmas.Bool.{eqb-true, ltb-false, le-ltb}
use Rattle.std.proofs.lemmas.List.{take_at, drop_at, drop-drop, take-append-drop, length-append}
use Rattle.std.proofs.lemmas.List.{length-take, length-drop, drop_more, map-id, take_rest}
use Rattle.std.proofs.lemmas.Option.{option_and_then_some, some_pair_parts, slice_get_within}
use Rattle.std.proofs.lemmas.Option.{get_or_from_slice_get}
use Rattle.sst_blocks.specs.declared.version.TableVersion.{TableVersion}
use Rattle.sst_entries.specs.declared.value_type.ValueType.{ValueType}
use Rattle.sst_entries.specs.declared.value_type.ValueType.TheVariants.{Value, Tombstone}
use Rattle.sst_entries.specs.declared.value_type.ValueType.TheVariants.{WeakTombstone, Indirection}
use Rattle.sst_entries.specs.Entry.{Entry, entry}
use Rattle.sst_entries.specs.Kind.{tag_of, kind_of}
use Rattle.sst_blocks.specs.Number.{le4, le8, num4, num8}
use Rattle.sst_blocks.specs.Payload.{entry_head, spelled, payload, IsSpellable, AreSpellable}
use Rattle.sst_blocks.specs.Format.{Advances, IsFormat, items_in}
use Rattle.sst_blocks.specs.Reading.{parts_at, entry_at, entries_in, key_and_number}
pub use Rattle.sst_blocks.specs.Reading.{entry_format}
use Rattle.sst_blocks.specs.Starts.{starts_of, EntriesAt}
use Rattle.sst_entries.specs.Strict.{IsStrict, IsStrictAfter}
use Rattle.sst_entries.proofs.Bytes.{IsBytes, IsBytes-drop}
use Rattle.sst_blocks.specs.Version.{key_width, key_limit, key_len_bytes, key_len_at}
use Rattle.sst_blocks.proofs.Numbers.{wide4, wide8, key_wide}
use Rattle.sst_blocks.proofs.Items.{Here, guard_some, items_in_take, items_in_again, items_strict}
use Rattle.sst_blocks.proofs.Items.{item_holds, length-starts}

-- ---- kinds and their tags

-- which way a test went
pick : {A : Type 0} (b : Bool) (x : A) (o : Option A) (y : A) → cond b (Some x) o ≡ Some y
    → ((b ≡ true) × (x ≡ y)) ⊎ ((b ≡ false) × (o ≡ Some y))
pick true x o y e = inl (refl, cc)
pick false x o y e = inr (refl, e)

abbrev kind_above2 : ℕ → Option ValueType
kind_above2 n = cond (eqb n 4) (Some Indirection) None

abbrev kind_above1 : ℕ → Option ValueType
kind_above1 n = cond (eqb n 2) (Some WeakTombstone) (kind_above2 n)

abbrev kind_above0 : ℕ → Option ValueType
kind_above0 n = cond (eqb n 1) (Some Tombstone) (kind_above1 n)

pub tag_of_kind : (n : ℕ) (t : ValueType) → kind_of n ≡ Some t → tag_of t ≡ n
tag_of_kind n t e =
    elim (pick (eqb n 0) Value (kind_above0 n) t e) [
      | inl p ↦ ap tag_of (sym p.1) ∙ sym (eqb-true _ _ p.0)
      | inr p ↦ elim (pick (eqb n 1) Tombstone (kind_above1 n) t p.1) [
        | inl p ↦ ap tag_of (sym p.1) ∙ sym (eqb-true _ _ p.0)
        | inr p ↦ elim (pick (eqb n 2) WeakTombstone (kind_above2 n) t p.1) [
          | inl p ↦ ap tag_of (sym p.1) ∙ sym (eqb-true _ _ p.0)
          | inr p ↦ elim (pick (eqb n 4) Indirection None t p.1) [
            | inl p ↦ ap tag_of (sym p.1) ∙ sym (eqb-true _ _ p.0)
            | inr p ↦ absurd cc
          ]
        ]
      ]
    ]

pub kind_of_tag : (t : ValueType) → kind_of (tag_of t) ≡ Some t
kind_of_tag Value = refl
kind_of_tag Tombstone = refl
kind_of_tag WeakTombstone = refl
kind_of_tag Indirection = refl

-- ---- one entry

-- the lengths, the key and the value
abbrev tail_of : TableVersion → Entry → List ℕ
tail_of v e = key_len_bytes v (length e.user_key)
    ++ (le4 (length e.value) ++ (e.user_key ++ e.value))

flattened : (v : TableVersion) (e : Entry) (rest : List ℕ)
    → spelled v e ++ rest ≡ tag_of e.kind ∷ (le8 e.seqno ++ (tail_of v e ++ rest))
unfolding spelled
flattened v e rest = simp append_assoc

record Took (v : TableVersion) (bytes : List ℕ) (t : ValueType) (n : ℕ) (e : Entry)
    (rest : List ℕ) : Type 0 where
  pub parts : bytes ≡ tail_of v e ++ rest
  pub kind : e.kind ≡ t
  pub number : e.seqno ≡ n
  pub key_len : length e.user_key < key_limit v
  pub value_len : length e.value < 2 ^ 32

joined : (v : TableVersion) (k m : ℕ) (K V R : List ℕ) → length K ≡ k → length V ≡ m
    → key_len_bytes v k ++ (le4 m ++ (K ++ (V ++ R)))
    ≡ (key_len_bytes v (length K) ++ (le4 (length V) ++ (K ++ V))) ++ R
joined v k m K V R lk lv = rw (lk, lv) (simp append_assoc)

parts_take : (v : TableVersion) (t : ValueType) (n : ℕ) (bytes : List ℕ) (e : Entry) (rest : List ℕ)
    → IsBytes bytes → key_width v + 4 ≤ length bytes → parts_at v t n bytes ≡ Some (e, rest)
    → Took v bytes t n e rest
unfolding parts_at
parts_take v t n bytes e rest fits long h =
    let w = key_width v in
    let k = key_len_at v bytes in
    let b = drop w bytes in
    let m = num4 b in
    let r = drop 4 b in
    let K = take k r in
    let V = take m (drop k r) in
    let R = drop m (drop k r) in
    let g = guard_some (ltb (length r) (k + m)) (Some (entry K V n t, R)) (e, rest) h in
    let room : k + m ≤ length r = ltb-false _ _ g.0 in
    let p = some_pair_parts (entry K V n t) e R rest g.1 in
    let lk : length K ≡ k = omega (arith, length-take k r) in
    let lv : length V ≡ m = omega (arith, length-take m (drop k r), length-drop k r) in
    let e0 : bytes ≡ key_len_bytes v k ++ b = (key_wide v).front bytes (omega arith) fits in
    let e1 : b ≡ le4 m ++ r = wide4.front b (omega (arith, length-drop w bytes))
    (IsBytes-drop w bytes fits) in
    let e2 : r ≡ K ++ (V ++ R) = sym (take-append-drop k r)
    ∙ ap (λ (x : List ℕ). K ++ x) (sym (take-append-drop m (drop k r))) in
    let flat : bytes ≡ key_len_bytes v k ++ (le4 m ++ (K ++ (V ++ R))) = e0
    ∙ ap (λ (x : List ℕ). key_len_bytes v k ++ x) (e1 ∙ ap (λ (x : List ℕ). le4 m ++ x) e2) in
    let whole : bytes ≡ tail_of v (entry K V n t) ++ R = flat ∙ joined v k m K V R lk lv in
    let below_k : length K < key_limit v = rw lk ((key_wide v).below bytes fits) in
    let below_v : length V < 2 ^ 32 = rw lv (wide4.below b (IsBytes-drop w bytes fits)) in
    let made : Took v bytes t n (entry K V n t) R =
    record {
      parts = whole;
      kind = refl;
      number = refl;
      key_len = below_k;
      value_len =
          below_v;
    } in
    subst (λ (x : Entry). Took v bytes t n x rest) p.0
    (subst (λ (x : List ℕ). Took v bytes t n (entry K V n t) x) p.1 made)

parts_again : (v : TableVersion) (e : Entry) (rest : List ℕ) → IsSpellable v e
    → parts_at v e.kind e.seqno (tail_of v e ++ rest) ≡ Some (e, rest)
unfolding parts_at
parts_again v e rest fits =
    let w = key_width v in
    let K = e.user_key in
    let V = e.value in
    let k = length K in
    let m = length V in
    let X = K ++ (V ++ rest) in
    let flat : tail_of v e ++ rest ≡ key_len_bytes v k ++ (le4 m ++ X) = simp append_assoc in
    let room : ltb (length X) (k + m) ≡ false = le-ltb _ _
    (omega (arith, length-append K (V ++ rest), length-append V rest)) in
    ap (parts_at v e.kind e.seqno) flat
    ∙ rw (
      (key_wide v).again k (le4 m ++ X) fits.key_len,
      drop_at (key_len_bytes v k) (le4 m ++ X) w
          ((key_wide v).len k),
      wide4.again m X fits.value_len,
      drop_at (le4 m) X 4
          (wide4.len m),
      room,
      take_at K (V ++ rest) k refl,
      drop_at K
          (V ++ rest) k refl,
      take_at V rest m refl,
      drop_at V rest m refl,
    ) refl

pub entry_takes : (v : TableVersion) (bytes : List ℕ) (e : Entry) (rest : List ℕ) → IsBytes bytes
    → entry_at v bytes ≡ Some (e, rest) → (bytes ≡ spelled v e ++ rest) × IsSpellable v e
unfolding entry_at
entry_takes v bytes e rest fits h =
    let b = drop 1 bytes in
    let f = λ (t : ValueType). parts_at v t (num8 b) (drop 8 b) in
    let g = guard_some (ltb (length bytes) (13 + key_width v))
    (option_and_then f (kind_of (slice_index bytes 0))) (e, rest) h in
    let long : 13 + key_width v ≤ length bytes = ltb-false _ _ g.0 in
    let fb : IsBytes b = IsBytes-drop 1 bytes fits in
    option_and_then_some f (kind_of (slice_index bytes 0)) (e, rest) g.1
    (λ t kind parts.
    let m = parts_take v t (num8 b) (drop 8 b) e rest (IsBytes-drop 8 b fb)
    (omega (arith, length-drop 8 b, length-drop 1 bytes)) parts in
    let e0 : bytes ≡ slice_index bytes 0 ∷ b = drop_more bytes 0 0 (omega arith) in
    let e1 : b ≡ le8 (num8 b) ++ drop 8 b = wide8.front b (omega (arith, length-drop 1 bytes)) fb in
    let tag : tag_of e.kind ≡ slice_index bytes 0 = ap tag_of m.kind
    ∙ tag_of_kind (slice_index bytes 0) t kind in
    let flat : bytes ≡ tag_of e.kind ∷ (le8 e.seqno ++ (tail_of v e ++ rest)) =
    rw (tag, m.number) (e0 ∙ ap (λ (x : List ℕ). slice_index bytes 0 ∷ x)
    (e1 ∙ ap (λ (x : List ℕ). le8 (num8 b) ++ x) m.parts)) in
    let number : e.seqno < 2 ^ 64 = rw m.number (wide8.below b fb) in (
      flat ∙ sym (flattened v e rest),
      record {
        number = number;
        key_len = m.key_len;
        value_len =
            m.value_len;
      },
    ))

pub entry_again : (v : TableVersion) (e : Entry) (rest : List ℕ) → IsSpellable v e
    → entry_at v (spelled v e ++ rest) ≡ Some (e, rest)
unfolding entry_at
entry_again v e rest fits =
    let n = e.seqno in
    let k = length e.user_key in
    let X = tail_of v e ++ rest in
    let all = tag_of e.kind ∷ (le8 n ++ X) in
    let long : ltb (length all) (13 + key_width v) ≡ false =
    le-ltb _ _ (omega (
      arith,
      length-append (le8 n) X,
      wide8.len n,
      length-append
          (tail_of v e) rest,
      length-append (key_len_bytes v k)
          (le4 (length e.value) ++ (e.user_key ++ e.value)),
      (key_wide v).len k,
      length-append
          (le4 (length e.value)) (e.user_key ++ e.value),
      wide4.len (length e.value),
    )) in
    ap (entry_at v) (flattened v e rest)
    ∙ rw (
      long,
      kind_of_tag e.kind,
      wide8.again n X fits.number,
      drop_at (le8 n) X 8
          (wide8.len n),
      parts_again v e rest fits,
    ) refl

-- ---- payloads of entries

pub entries_format : (v : TableVersion) → IsFormat (entry_format v) (IsSpellable v)
entries_format v = record { takes = entry_takes v; again = entry_again v }

pub entries_in_same : (v : TableVersion) (bytes : List ℕ)
    → entries_in v bytes ≡ items_in (entry_format v) bytes
unfolding entries_in
entries_in_same v bytes = refl

-- what a payload spells is its list
pub entries_spelled : (v : TableVersion) (bytes : List ℕ) (es : List Entry) → IsBytes bytes
    → entries_in v bytes ≡ Some es → (bytes ≡ payload v es) × AreSpellable v es × IsStrict es
unfolding payload
entries_spelled v bytes es fits h =
    let t = items_in_take (entry_format v) (IsSpellable v) (entries_format v) bytes es fits
    (sym (entries_in_same v bytes) ∙ h) in
    (t.0, (t.1, t.2), subst (IsStrictAfter None) (map-id es) t.3)

-- a strict list is what its payload spells
pub entries_read : (v : TableVersion) (es : List Entry) → AreSpellable v es → IsStrict es
    → entries_in v (payload v es) ≡ Some es
unfolding payload
entries_read v es fit strict =
    entries_in_same v (le4 (length es) ++ flat_map (spelled v) es)
    ∙ items_in_again (entry_format v) (IsSpellable v) (entries_format v) es fit.0 fit.1
    (subst (IsStrictAfter None) (sym (map-id es)) strict)

-- ---- the parts of an entry

length-head : (v : TableVersion) (e : Entry) → length (entry_head v e) ≡ 13 + key_width v
length-head v e =
    omega (
      arith,
      length-append (le8 e.seqno) (key_len_bytes v (length e.user_key)),
      length-append
          (le8 e.seqno ++ key_len_bytes v (length e.user_key))
          (le4 (length e.value)),
      wide8.len e.seqno,
      (key_wide v).len (length e.user_key),
      wide4.len
          (length e.value),
    )

pub length-spelled : (v : TableVersion) (e : Entry)
    → length (spelled v e) ≡ 13 + key_width v + length e.user_key + length e.value
unfolding spelled
length-spelled v e = omega (
  arith,
  length-head v e,
  length-append
      (entry_head v e ++ e.user_key) e.value,
  length-append (entry_head v e) e.user_key,
)

-- the key and the value are parts of the bytes that an entry is read from, and nothing but the
-- entry is read
pub record Lies (v : TableVersion) (bytes : List ℕ) (e : Entry) (rest : List ℕ) : Type 0 where
  pub number : num8 (drop 1 bytes) ≡ e.seqno
  pub key_len : key_len_at v (drop 9 bytes) ≡ length e.user_key
  pub key : take (length e.user_key) (drop (13 + key_width v) bytes) ≡ e.user_key
  pub value : take (length e.value) (drop (13 + key_width v + length e.user_key) bytes) ≡ e.value
  pub rest_is : rest ≡ drop (13 + key_width v + length e.user_key + length e.value) bytes
  pub within : 13 + key_width v + length e.user_key + length e.value ≤ length bytes

pub entry_lies : (v : TableVersion) (bytes : List ℕ) (e : Entry) (rest : List ℕ)
    → entry_at v bytes ≡ Some (e, rest) → Lies v bytes e rest
unfolding entry_at parts_at
entry_lies v bytes e rest h =
    let w = key_width v in
    let b1 = drop 1 bytes in
    let b = drop 8 b1 in
    let f = λ (t : ValueType). parts_at v t (num8 b1) b in
    let g = guard_some (ltb (length bytes) (13 + w))
    (option_and_then f (kind_of (slice_index bytes 0))) (e, rest) h in
    option_and_then_some f (kind_of (slice_index bytes 0)) (e, rest) g.1
    (λ t kind parts.
    let k = key_len_at v b in
    let m = num4 (drop w b) in
    let r = drop 4 (drop w b) in
    let K = take k r in
    let V = take m (drop k r) in
    let R = drop m (drop k r) in
    let made = guard_some (ltb (length r) (k + m)) (Some (entry K V (num8 b1) t, R))
    (e, rest) parts in
    let p = some_pair_parts (entry K V (num8 b1) t) e R rest made.1 in
    let room : k + m ≤ length r = ltb-false _ _ made.0 in
    let long : 13 + w ≤ length bytes = ltb-false _ _ g.0 in
    let lk : length K ≡ k = omega (arith, length-take k r) in
    let lv : length V ≡ m = omega (arith, length-take m (drop k r), length-drop k r) in
    let at : r ≡ drop (13 + w) bytes = drop-drop 4 w b ∙ drop-drop (w + 4) 8 b1
    ∙ drop-drop (8 + (w + 4)) 1 bytes ∙ ap (λ (n : ℕ). drop n bytes) (omega arith) in
    let lies : Lies v bytes (entry K V (num8 b1) t) R = record {
      number = refl;
      key_len = ap (key_len_at v) (sym (drop-drop 8 1 bytes)) ∙ sym lk;
      key = ap (λ (n : ℕ). take n (drop (13 + w) bytes)) lk ∙ ap (take k) (sym at);
      value =
          let tail : drop (13 + w + length K) bytes ≡ drop k r =
          ap (λ (n : ℕ). drop (13 + w + n) bytes) lk ∙ sym (drop-drop k (13 + w) bytes)
          ∙ ap (drop k) (sym at) in
          ap (λ (n : ℕ). take n (drop (13 + w + length K) bytes)) lv ∙ ap (take m) tail;
      rest_is =
          let n : k + m ≡ length K + length V = omega (arith, lk, lv) in
          drop-drop m k r ∙ ap (drop (k + m)) at ∙ drop-drop (k + m) (13 + w) bytes
          ∙ ap (λ (n : ℕ). drop n bytes) (omega (arith, n));
      within = omega (arith, lk, lv, ap length at, length-drop (13 + w) bytes);
    } in
    subst (λ (x : Entry). Lies v bytes x rest) p.0
    (subst (λ (x : List ℕ). Lies v bytes (entry K V (num8 b1) t) x) p.1 lies))

pub entries_advance : (v : TableVersion) → Advances (entry_format v)
entries_advance v bytes e rest h =
    let l = entry_lies v bytes e rest h in (
      l.rest_is ∙ ap (λ (n : ℕ). drop n bytes) (sym (length-spelled v e)),
      omega
          (arith, l.within, length-spelled v e),
    )

-- ---- the entry at the front of some bytes

pub record AtFront (v : TableVersion) (bytes : List ℕ) : Type 0 where
  pub item : Entry
  pub rest : List ℕ
  pub found : entry_at v bytes ≡ Some (item, rest)
  pub lies : Lies v bytes item rest

front_there : (v : TableVersion) (bytes : List ℕ) (o : Option (Entry × List ℕ))
    → entry_at v bytes ≡ o → (o ≡ None → ⊥) → AtFront v bytes
front_there v bytes None returned some = absurd (some refl)
front_there v bytes (Some (e, rest)) returned some =
    record { item = e; rest = rest; found = returned; lies = entry_lies v bytes e rest returned }

pub front_of_bytes : (v : TableVersion) (bytes : List ℕ) → (entry_at v bytes ≡ None → ⊥)
    → AtFront v bytes
front_of_bytes v bytes some = front_there v bytes (entry_at v bytes) refl some

-- its key length and its number, each read from the bytes behind a place
pub front_key_len : (v : TableVersion) (bytes : List ℕ) (f : AtFront v bytes) (k : ℕ)
    → k ≡ key_len_at v (take (length bytes - 9) (drop 9 bytes)) → k ≡ length f.item.user_key
front_key_len v bytes f k is = is ∙ ap (key_len_at v) (take_rest bytes 9) ∙ f.lies.key_len

pub front_number : (v : TableVersion) (bytes : List ℕ) (f : AtFront v bytes) (n : ℕ)
    → n ≡ num8 (take (length bytes - 1) (drop 1 bytes)) → n ≡ f.item.seqno
front_number v bytes f n is = is ∙ ap num8 (take_rest bytes 1) ∙ f.lies.number

-- its key stands behind its head
pub front_key : (v : TableVersion) (bytes : List ℕ) (f : AtFront v bytes) (h k n : ℕ)
    → h ≡ 13 + key_width v → k ≡ length f.item.user_key → n ≡ f.item.seqno
    → option_map (λ (x : Entry × List ℕ). key_and_number x.0) (entry_at v bytes)
    ≡ Some (take (h + k - h) (drop h bytes), n)
front_key v bytes f h k n head len number =
    let size : h + k - h ≡ length f.item.user_key = omega (arith, len) in
    let key : take (h + k - h) (drop h bytes) ≡ f.item.user_key =
    ap (λ (m : ℕ). take m (drop h bytes)) size
    ∙ ap (λ (m : ℕ). take (length f.item.user_key) (drop m bytes)) head ∙ f.lies.key in
    ap (option_map (λ (x : Entry × List ℕ). key_and_number x.0)) f.found ∙ rw (key, number) refl

-- ---- an entry of a block

-- the entry is read at a place, and its key and its value lie behind its head
pub record Stands (v : TableVersion) (bytes : List ℕ) (at : ℕ) (e : Entry) : Type 0 where
  pub rest : List ℕ
  pub found : entry_at v (drop at bytes) ≡ Some (e, rest)
  pub within : at + (13 + key_width v) + length e.user_key + length e.value ≤ length bytes
  pub key : slice_range bytes (at + (13 + key_width v))
      (at + (13 + key_width v) + length e.user_key) ≡ e.user_key
  pub value : slice_range bytes (at + (13 + key_width v) + length e.user_key)
      (at + (13 + key_width v) + length e.user_key + length e.value) ≡ e.value

pub stands : (v : TableVersion) (bytes : List ℕ) (at : ℕ) (e : Entry)
    → Here (entry_format v) bytes at e → Stands v bytes at e
stands v bytes at e h =
    let w = 13 + key_width v in
    let k = length e.user_key in
    let m = length e.value in
    let l = entry_lies v (drop at bytes) e h.rest h.found in
    let nk : at + w + k - (at + w) ≡ k = omega arith in
    let nm : at + w + k + m - (at + w + k) ≡ m = omega arith in
    record {
      rest = h.rest;
      found = h.found;
      within = omega (arith, h.within, length-spelled v e);
      key = ap (λ (n : ℕ). take n (drop (at + w) bytes)) nk
          ∙ ap (take k) (sym (drop-drop w at bytes)) ∙ l.key;
      value = ap (λ (n : ℕ). take n (drop (at + w + k) bytes)) nm
          ∙ ap (take m) (ap (λ (n : ℕ). drop n bytes) (omega arith)
          ∙ sym (drop-drop (w + k) at bytes)) ∙ l.value;
    }

-- what a block's fields say of its list
pub block_spells : (v : TableVersion) (bytes starts : List ℕ) (es : List Entry)
    → EntriesAt v bytes starts → unwrap_or (entries_in v bytes) [] ≡ es
    → (entries_in v bytes ≡ Some es) × (starts ≡ starts_of (spelled v) 4 es)
block_spells v bytes starts es block view =
    let same : block.items ≡ es = sym (ap (λ (o : Option (List Entry)). unwrap_or o []) block.are)
    ∙ view in
    (block.are ∙ ap (λ xs. Some xs) same, block.places ∙ ap (starts_of (spelled v) 4) same)

pub block_len : (v : TableVersion) (bytes starts : List ℕ) (es : List Entry)
    → EntriesAt v bytes starts → unwrap_or (entries_in v bytes) [] ≡ es → length starts ≡ length es
block_len v bytes starts es block view = let b = block_spells v bytes starts es block view in
    ap length b.1 ∙ length-starts (spelled v) 4 es

pub block_strict : (v : TableVersion) (bytes starts : List ℕ) (es : List Entry)
    → EntriesAt v bytes starts → unwrap_or (entries_in v bytes) [] ≡ es → IsStrict es
block_strict v bytes starts es block view =
    let b = block_spells v bytes starts es block view in
    subst (IsStrictAfter None) (map-id es) (items_strict (entry_format v)
    (entries_advance v) bytes es (sym (entries_in_same v bytes) ∙ b.0))

-- at a start stands the entry of its place
pub block_holds : (v : TableVersion) (bytes starts : List ℕ) (es : List Entry) (i at : ℕ)
    (e : Entry) → EntriesAt v bytes starts → unwrap_or (entries_in v bytes) [] ≡ es
    → slice_get es i ≡ Some e → slice_get starts i ≡ Some at → Stands v bytes at e
block_holds v bytes starts es i at e block view some is_at =
    let b = block_spells v bytes starts es block view in
    let h = item_holds (entry_format v) (entries_advance v) bytes starts es i at e
    (sym (entries_in_same v bytes) ∙ b.0) b.1 (slice_get_within es i e some)
    (sym (get_or_from_slice_get starts i at at is_at)) in
    stands v bytes at e (subst (Here (entry_format v) bytes at)
    (get_or_from_slice_get es i e e some) h)
