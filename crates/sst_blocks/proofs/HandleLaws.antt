-- What is read as a handle is spelled so, and what is spelled so is read.
use Rattle.std.proofs.Common.{◌≡◌, ℕ, ◌+◌, ◌-◌, ◌<◌, ◌≤◌, false, cond, ltb, List, [], ◌++◌, length}
use Rattle.std.proofs.Common.{take, drop, Option, Some, None, refl, sym, ap, subst, ◌∙◌}
use Rattle.std.proofs.Common.{append_assoc, arith}
use Rattle.std.proofs.lemmas.Bool.{ltb-false, le-ltb}
use Rattle.std.specs.Prelude.{unwrap_or}
use Rattle.std.specs.List.{flat_map, slice_range, slice_get}
use Rattle.std.specs.Option.{option_map}
use Rattle.std.proofs.lemmas.List.{take_at, drop_at, take-append-drop, length-append, length-take}
use Rattle.std.proofs.lemmas.List.{length-drop, drop-drop, take_rest}
use Rattle.std.proofs.lemmas.Option.{some_pair_parts, slice_get_within, get_or_from_slice_get}
use Rattle.sst_blocks.specs.declared.version.TableVersion.{TableVersion}
use Rattle.sst_blocks.specs.Handle.{Handle}
use Rattle.sst_blocks.specs.Handles.{handle_head, handle_spelled, handles_payload, handle_at}
use Rattle.sst_blocks.specs.Handles.{handle_format, handles_in, IsSpellableHandle}
use Rattle.sst_blocks.specs.Handles.{AreSpellableHandles, AreStrictHandles, end_of}
use Rattle.sst_blocks.specs.Number.{le4, le8, num4, num8}
use Rattle.sst_blocks.specs.Reading.{key_and_number}
use Rattle.sst_blocks.specs.Starts.{starts_of, HandlesAt}
use Rattle.sst_blocks.specs.Version.{key_width, key_limit, key_len_bytes, key_len_at}
use Rattle.sst_blocks.specs.Format.{Advances, IsFormat, items_in}
use Rattle.sst_blocks.proofs.Items.{items_in_take, items_in_again, guard_some, Here, length-starts}
use Rattle.sst_blocks.proofs.Items.{item_holds, items_strict}
use Rattle.sst_blocks.proofs.Numbers.{wide4, wide8, key_wide}
use Rattle.sst_entries.proofs.Bytes.{IsBytes, IsBytes-drop}

-- the parts of a handle one after another, and then other bytes
pub handle_parts : (v : TableVersion) (h : Handle) (rest : List ℕ)
    → handle_spelled v h ++ rest ≡ le8 h.seqno ++ (le8 h.offset
    ++ (le4 h.size ++ (key_len_bytes v (length h.end_key) ++ (h.end_key ++ rest))))
unfolding handle_spelled
handle_parts v h rest = simp append_assoc

pub length-handle_head : (v : TableVersion) (h : Handle)
    → length (handle_head v h) ≡ 20 + key_width v
length-handle_head v h =
    omega (
      arith,
      length-append (le8 h.seqno ++ le8 h.offset ++ le4 h.size)
          (key_len_bytes v (length h.end_key)),
      length-append (le8 h.seqno ++ le8 h.offset)
          (le4 h.size),
      length-append (le8 h.seqno) (le8 h.offset),
      wide8.len h.seqno,
      wide8.len
          h.offset,
      wide4.len h.size,
      (key_wide v).len (length h.end_key),
    )

pub length-handle_spelled : (v : TableVersion) (h : Handle)
    → length (handle_spelled v h) ≡ 20 + key_width v + length h.end_key
unfolding handle_spelled
length-handle_spelled v h = omega (
  arith,
  length-append
      (handle_head v h) h.end_key,
  length-handle_head v h,
)

joined : (v : TableVersion) (s o z k : ℕ) (K R : List ℕ) → length K ≡ k
    → le8 s ++ (le8 o ++ (le4 z ++ (key_len_bytes v k ++ (K ++ R))))
    ≡ handle_spelled v (record { end_key = K; seqno = s; offset = o; size = z }) ++ R
joined v s o z k K R len = rw (← len) (sym (handle_parts v
    (record { end_key = K; seqno = s; offset = o; size = z }) R))

pub handle_takes : (v : TableVersion) (bytes : List ℕ) (h : Handle) (rest : List ℕ) → IsBytes bytes
    → handle_at v bytes ≡ Some (h, rest) → (bytes ≡ handle_spelled v h ++ rest)
    × IsSpellableHandle v h
unfolding handle_at
handle_takes v bytes h rest fits returned =
    let w = key_width v in
    let b8 = drop 8 bytes in
    let b16 = drop 16 bytes in
    let b20 = drop 20 bytes in
    let r = drop (20 + w) bytes in
    let k = key_len_at v b20 in
    let K = take k r in
    let R = drop k r in
    let made : Handle = record {
      end_key = K;
      seqno = num8 bytes;
      offset = num8 b8;
      size =
          num4 b16;
    } in
    let g = guard_some (ltb (length bytes) (20 + w)) (cond (ltb (length r) k) None (Some (made, R)))
    (h, rest) returned in
    let long : 20 + w ≤ length bytes = ltb-false _ _ g.0 in
    let g2 = guard_some (ltb (length r) k) (Some (made, R)) (h, rest) g.1 in
    let room : k ≤ length r = ltb-false _ _ g2.0 in
    let p = some_pair_parts made h R rest g2.1 in
    let lk : length K ≡ k = omega (arith, length-take k r) in
    let f8 : IsBytes b8 = IsBytes-drop 8 bytes fits in
    let f16 : IsBytes b16 = IsBytes-drop 16 bytes fits in
    let f20 : IsBytes b20 = IsBytes-drop 20 bytes fits in
    let e0 : bytes ≡ le8 (num8 bytes) ++ b8 = wide8.front bytes (omega arith) fits in
    let e1 : b8 ≡ le8 (num8 b8) ++ b16 = wide8.front b8 (omega (arith, length-drop 8 bytes)) f8
    ∙ ap (λ (x : List ℕ). le8 (num8 b8) ++ x) (drop-drop 8 8 bytes) in
    let e2 : b16 ≡ le4 (num4 b16) ++ b20 = wide4.front b16 (omega (arith, length-drop 16 bytes)) f16
    ∙ ap (λ (x : List ℕ). le4 (num4 b16) ++ x) (drop-drop 4 16 bytes) in
    let e3 : b20 ≡ key_len_bytes v k ++ r = (key_wide v).front b20
    (omega (arith, length-drop 20 bytes)) f20 ∙ ap (λ (x : List ℕ). key_len_bytes v k ++ x)
    (drop-drop w 20 bytes) in
    let e4 : r ≡ K ++ R = sym (take-append-drop k r) in
    let flat : bytes ≡ le8 (num8 bytes) ++ (le8 (num8 b8)
    ++ (le4 (num4 b16) ++ (key_len_bytes v k ++ (K ++ R)))) =
    e0 ∙ ap (λ (x : List ℕ). le8 (num8 bytes) ++ x)
    (e1 ∙ ap (λ (x : List ℕ). le8 (num8 b8) ++ x)
    (e2 ∙ ap (λ (x : List ℕ). le4 (num4 b16) ++ x)
    (e3 ∙ ap (λ (x : List ℕ). key_len_bytes v k ++ x) e4))) in
    let whole : bytes ≡ handle_spelled v made ++ R = flat
    ∙ joined v (num8 bytes) (num8 b8) (num4 b16) k K R lk in
    let below_k : length K < key_limit v = rw lk ((key_wide v).below b20 f20) in
    let fit : IsSpellableHandle v made = record {
      number = wide8.below bytes fits;
      offset =
          wide8.below b8 f8;
      size = wide4.below b16 f16;
      key_len = below_k;
    } in (
      whole ∙ ap (λ (x : Handle). handle_spelled v x ++ R) p.0
          ∙ ap (λ (x : List ℕ). handle_spelled v h ++ x) p.1,
      subst (IsSpellableHandle v) p.0 fit,
    )

-- the bytes after a part of w bytes
after : (w n : ℕ) (part rest bytes : List ℕ) → drop n bytes ≡ part ++ rest → length part ≡ w
    → drop (n + w) bytes ≡ rest
after w n part rest bytes e len = sym (drop-drop w n bytes) ∙ ap (drop w) e
    ∙ drop_at part rest w len

pub handle_again : (v : TableVersion) (h : Handle) (rest : List ℕ) → IsSpellableHandle v h
    → handle_at v (handle_spelled v h ++ rest) ≡ Some (h, rest)
unfolding handle_at
handle_again v h rest fits =
    let w = key_width v in
    let K = h.end_key in
    let k = length K in
    let x3 = key_len_bytes v k ++ (K ++ rest) in
    let x2 = le4 h.size ++ x3 in
    let x1 = le8 h.offset ++ x2 in
    let all = le8 h.seqno ++ x1 in
    let d8 : drop 8 all ≡ x1 = drop_at (le8 h.seqno) x1 8 (wide8.len h.seqno) in
    let d16 : drop 16 all ≡ x2 = after 8 8 (le8 h.offset) x2 all d8 (wide8.len h.offset) in
    let d20 : drop 20 all ≡ x3 = after 4 16 (le4 h.size) x3 all d16 (wide4.len h.size) in
    let dw : drop (20 + w) all ≡ K ++ rest = after w 20 (key_len_bytes v k) (K ++ rest) all d20
    ((key_wide v).len k) in
    let long : ltb (length all) (20 + w) ≡ false =
    le-ltb _ _ (omega (
      arith,
      length-append (le8 h.seqno) x1,
      wide8.len h.seqno,
      length-append
          (le8 h.offset) x2,
      wide8.len h.offset,
      length-append
          (le4 h.size) x3,
      wide4.len h.size,
      length-append (key_len_bytes v k) (K ++ rest),
      (key_wide v).len k,
    )) in
    let room : ltb (length (K ++ rest)) k ≡ false =
    le-ltb _ _ (omega (arith, length-append K rest)) in
    let len : key_len_at v x3 ≡ k = (key_wide v).again k (K ++ rest) fits.key_len in
    ap (handle_at v) (handle_parts v h rest)
    ∙ rw (
      long,
      dw,
      d20,
      d16,
      d8,
      len,
      room,
      wide8.again h.seqno x1 fits.number,
      wide8.again
          h.offset x2 fits.offset,
      wide4.again h.size x3 fits.size,
      take_at K rest k refl,
      drop_at K
          rest k refl,
    ) refl

-- ---- lists of handles

pub handles_format : (v : TableVersion) → IsFormat (handle_format v) (IsSpellableHandle v)
handles_format v = record { takes = handle_takes v; again = handle_again v }

pub handles_in_same : (v : TableVersion) (bytes : List ℕ)
    → handles_in v bytes ≡ items_in (handle_format v) bytes
unfolding handles_in
handles_in_same v bytes = refl

-- what a payload spells is its list
pub handles_spelled : (v : TableVersion) (bytes : List ℕ) (hs : List Handle) → IsBytes bytes
    → handles_in v bytes ≡ Some hs → (bytes ≡ handles_payload v hs) × AreSpellableHandles v hs
    × AreStrictHandles hs
unfolding handles_payload
handles_spelled v bytes hs fits h =
    let t = items_in_take (handle_format v) (IsSpellableHandle v) (handles_format v) bytes hs fits
    (sym (handles_in_same v bytes) ∙ h) in
    (t.0, (t.1, t.2), t.3)

-- a strict list is what its payload spells
pub handles_read : (v : TableVersion) (hs : List Handle) → AreSpellableHandles v hs
    → AreStrictHandles hs → handles_in v (handles_payload v hs) ≡ Some hs
unfolding handles_payload
handles_read v hs fit strict =
    handles_in_same v (le4 (length hs) ++ flat_map (handle_spelled v) hs)
    ∙ items_in_again (handle_format v) (IsSpellableHandle v)
    (handles_format v) hs fit.0 fit.1 strict

-- ---- where a handle lies

-- the end key is a part of the bytes that a handle is read from, and nothing but the handle is read
pub record Lies (v : TableVersion) (bytes : List ℕ) (h : Handle) (rest : List ℕ) : Type 0 where
  pub number : num8 bytes ≡ h.seqno
  pub key_len : key_len_at v (drop 20 bytes) ≡ length h.end_key
  pub key : take (length h.end_key) (drop (20 + key_width v) bytes) ≡ h.end_key
  pub rest_is : rest ≡ drop (20 + key_width v + length h.end_key) bytes
  pub within : 20 + key_width v + length h.end_key ≤ length bytes

handle_lies : (v : TableVersion) (bytes : List ℕ) (h : Handle) (rest : List ℕ)
    → handle_at v bytes ≡ Some (h, rest) → Lies v bytes h rest
unfolding handle_at
handle_lies v bytes h rest returned =
    let w = 20 + key_width v in
    let r = drop w bytes in
    let k = key_len_at v (drop 20 bytes) in
    let K = take k r in
    let R = drop k r in
    let made : Handle = record {
      end_key = K;
      seqno = num8 bytes;
      offset =
          num8 (drop 8 bytes);
      size = num4 (drop 16 bytes);
    } in
    let g = guard_some (ltb (length bytes) w) (cond (ltb (length r) k) None (Some (made, R)))
    (h, rest) returned in
    let g2 = guard_some (ltb (length r) k) (Some (made, R)) (h, rest) g.1 in
    let p = some_pair_parts made h R rest g2.1 in
    let long : w ≤ length bytes = ltb-false _ _ g.0 in
    let room : k ≤ length r = ltb-false _ _ g2.0 in
    let len : length K ≡ k = omega (arith, length-take k r) in
    let lies : Lies v bytes made R = record {
      number = refl;
      key_len = sym len;
      key = ap (λ (n : ℕ). take n r) len;
      rest_is = drop-drop k w bytes ∙ ap (λ (n : ℕ). drop (w + n) bytes) (sym len);
      within = omega (arith, len, length-drop w bytes);
    } in
    subst (λ (x : Handle). Lies v bytes x rest) p.0
    (subst (λ (x : List ℕ). Lies v bytes made x) p.1 lies)

pub handles_advance : (v : TableVersion) → Advances (handle_format v)
handles_advance v bytes h rest returned =
    let l = handle_lies v bytes h rest returned in (
      l.rest_is ∙ ap (λ (n : ℕ). drop n bytes) (sym (length-handle_spelled v h)),
      omega
          (arith, l.within, length-handle_spelled v h),
    )

-- ---- the handle at the front of some bytes

pub record AtFront (v : TableVersion) (bytes : List ℕ) : Type 0 where
  pub item : Handle
  pub rest : List ℕ
  pub found : handle_at v bytes ≡ Some (item, rest)
  pub lies : Lies v bytes item rest

front_there : (v : TableVersion) (bytes : List ℕ) (o : Option (Handle × List ℕ))
    → handle_at v bytes ≡ o → (o ≡ None → ⊥) → AtFront v bytes
front_there v bytes None returned some = absurd (some refl)
front_there v bytes (Some (h, rest)) returned some =
    record { item = h; rest = rest; found = returned; lies = handle_lies v bytes h rest returned }

pub front_of_bytes : (v : TableVersion) (bytes : List ℕ) → (handle_at v bytes ≡ None → ⊥)
    → AtFront v bytes
front_of_bytes v bytes some = front_there v bytes (handle_at v bytes) refl some

-- its key length, read from the bytes behind a place
pub front_key_len : (v : TableVersion) (bytes : List ℕ) (f : AtFront v bytes) (k : ℕ)
    → k ≡ key_len_at v (take (length bytes - 20) (drop 20 bytes)) → k ≡ length f.item.end_key
front_key_len v bytes f k is = is ∙ ap (key_len_at v) (take_rest bytes 20) ∙ f.lies.key_len

-- its end key stands behind its head
pub front_key : (v : TableVersion) (bytes : List ℕ) (f : AtFront v bytes) (h k n : ℕ)
    → h ≡ 20 + key_width v → k ≡ length f.item.end_key → n ≡ num8 bytes
    → option_map (λ (x : Handle × List ℕ). key_and_number (end_of x.0)) (handle_at v bytes)
    ≡ Some (take (h + k - h) (drop h bytes), n)
front_key v bytes f h k n head len number =
    let size : h + k - h ≡ length f.item.end_key = omega (arith, len) in
    let key : take (h + k - h) (drop h bytes) ≡ f.item.end_key =
    ap (λ (m : ℕ). take m (drop h bytes)) size
    ∙ ap (λ (m : ℕ). take (length f.item.end_key) (drop m bytes)) head ∙ f.lies.key in
    let returned : n ≡ f.item.seqno = number ∙ f.lies.number in
    ap (option_map (λ (x : Handle × List ℕ). key_and_number (end_of x.0))) f.found
    ∙ rw (key, returned) refl

-- ---- a handle of a block

-- the handle stands at the place, with its end key behind its head
pub record Stands (v : TableVersion) (bytes : List ℕ) (at : ℕ) (h : Handle) : Type 0 where
  pub rest : List ℕ
  pub found : handle_at v (drop at bytes) ≡ Some (h, rest)
  pub within : at + (20 + key_width v) + length h.end_key ≤ length bytes
  pub key : slice_range bytes (at + (20 + key_width v)) (at + (20 + key_width v) + length h.end_key)
      ≡ h.end_key

stands : (v : TableVersion) (bytes : List ℕ) (at : ℕ) (h : Handle)
    → Here (handle_format v) bytes at h → Stands v bytes at h
stands v bytes at h here =
    let w = 20 + key_width v in
    let l = handle_lies v (drop at bytes) h here.rest here.found in
    let k : at + w + length h.end_key - (at + w) ≡ length h.end_key = omega arith in
    record {
      rest = here.rest;
      found = here.found;
      within = omega (arith, here.within, length-handle_spelled v h);
      key = ap (λ (n : ℕ). take n (drop (at + w) bytes)) k
          ∙ ap (take (length h.end_key)) (sym (drop-drop w at bytes)) ∙ l.key;
    }

-- what a block's fields say of its list
pub block_spells : (v : TableVersion) (bytes starts : List ℕ) (hs : List Handle)
    → HandlesAt v bytes starts → unwrap_or (handles_in v bytes) [] ≡ hs
    → (handles_in v bytes ≡ Some hs) × (starts ≡ starts_of (handle_spelled v) 4 hs)
block_spells v bytes starts hs block view =
    let same : block.items ≡ hs = sym (ap (λ (o : Option (List Handle)). unwrap_or o []) block.are)
    ∙ view in
    (block.are ∙ ap (λ xs. Some xs) same, block.places ∙ ap (starts_of (handle_spelled v) 4) same)

pub block_len : (v : TableVersion) (bytes starts : List ℕ) (hs : List Handle)
    → HandlesAt v bytes starts → unwrap_or (handles_in v bytes) [] ≡ hs → length starts ≡ length hs
block_len v bytes starts hs block view = let b = block_spells v bytes starts hs block view in
    ap length b.1 ∙ length-starts (handle_spelled v) 4 hs

-- what a payload spells is strict
pub handles_strict : (v : TableVersion) (bytes : List ℕ) (hs : List Handle)
    → handles_in v bytes ≡ Some hs → AreStrictHandles hs
handles_strict v bytes hs returned = items_strict (handle_format v) (handles_advance v) bytes hs
    (sym (handles_in_same v bytes) ∙ returned)

pub block_strict : (v : TableVersion) (bytes starts : List ℕ) (hs : List Handle)
    → HandlesAt v bytes starts → unwrap_or (handles_in v bytes) [] ≡ hs → AreStrictHandles hs
block_strict v bytes starts hs block view = handles_strict v bytes hs
    (block_spells v bytes starts hs block view).0

-- at a start stands the handle of its place
pub block_holds : (v : TableVersion) (bytes starts : List ℕ) (hs : List Handle) (i at : ℕ)
    (h : Handle) → HandlesAt v bytes starts → unwrap_or (handles_in v bytes) [] ≡ hs
    → slice_get hs i ≡ Some h → slice_get starts i ≡ Some at → Stands v bytes at h
block_holds v bytes starts hs i at h block view some is_at =
    let b = block_spells v bytes starts hs block view in
    let here = item_holds (handle_format v) (handles_advance v) bytes starts hs i at h
    (sym (handles_in_same v bytes) ∙ b.0) b.1 (slice_get_within hs i h some)
    (sym (get_or_from_slice_get starts i at at is_at)) in
    stands v bytes at h (subst (Here (handle_format v) bytes at)
    (get_or_from_slice_get hs i h h some) here)
