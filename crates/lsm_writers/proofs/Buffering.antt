-- The entries of a block that is being filled, in the bytes of its payload.
use Rattle.std.proofs.Common.{◌≡◌, refl, sym, ◌∙◌, ap, subst, ℕ, ◌+◌, ◌-◌, ◌*◌, ◌^◌, ◌<◌, ◌≤◌}
use Rattle.std.proofs.Common.{List, [], ◌∷◌, ◌++◌, length, take, drop, append_assoc, arith}
use Rattle.std.proofs.Common.{length-append, length-drop, length-take, leb-false}
use Rattle.std.specs.Prelude.{Option, Some, None, nat_le, slice_range, slice_set, sum_by}
use Rattle.std.specs.Prelude.{unwrap_or}
use Rattle.std.specs.List.{AllByRecursion}
use Rattle.std.specs.Option.{option_map, option_or}
use Rattle.std.proofs.lemmas.List.{append-nil, drop-append-le, drop-take, drop_all, drop_at}
use Rattle.std.proofs.lemmas.List.{take_at}
use Rattle.std.proofs.lemmas.List.Concat.{flat_map-append}
use Rattle.std.proofs.lemmas.List.Sums.{sum_by-cons}
use Rattle.sst_blocks.specs.declared.version.TableVersion.TheVariants.{V4}
use Rattle.sst_blocks.specs.Number.{le4}
use Rattle.sst_blocks.proofs.Numbers.{wide4}
use Rattle.sst_entries.specs.declared.error.Error.{Error}
use Rattle.sst_entries.specs.declared.error.Error.TheVariants.{BlockTooLarge}
use Rattle.sst_entries.specs.Entry.{Entry}
use Rattle.sst_entries.specs.Strict.{IsStrict, last_of}
use Rattle.sst_entries.proofs.Lists.{all_append, all_front}
use Rattle.sst_blocks.specs.Bounds.{data_block_bound_of, entry_bound}
use Rattle.sst_blocks.specs.Encoding.{entries_fault, entry_fault_or, first_fault, large_fault}
use Rattle.sst_blocks.specs.Format.{items_at}
use Rattle.sst_blocks.specs.Payload.{IsSpellable, entry_head, payload, spelled}
use Rattle.sst_blocks.specs.Reading.{entry_at, entry_format}
use Rattle.sst_blocks.proofs.Entries.{entries_format, entries_read, length-spelled}
use Rattle.sst_blocks.proofs.Items.{items_again}
use Rattle.lsm_writers.specs.declared.writer.block_buffer.Mark.{Mark}
use Rattle.lsm_writers.specs.declared.writer.block_buffer.Place.{Place}
use Rattle.lsm_writers.specs.Buffered.{AreBuffered, IsMark, MarksFront, body}
use Rattle.lsm_writers.specs.Buffered.{buffered_entry, entries_behind}
use Rattle.lsm_writers.specs.Cut.{IsReadable}
use Rattle.lsm_writers.proofs.Cutting.{readable_of}
use Rattle.lsm_writers.proofs.Orders.{last_of-append, nothing_last}
use Rattle.lsm_writers.proofs.Taking.{fault_none}

-- what the bytes hold is read back
pub read_again : (bytes : List ℕ) (m : Mark) (es : List Entry) → AreBuffered bytes m es
    → entries_behind m.len bytes ≡ es
unfolding entries_behind
read_again bytes m es h =
    let read = λ (n : ℕ) (b : List ℕ). unwrap_or (items_at (entry_at V4) n b) [] in
    ap (λ (n : ℕ). read n (drop 4 bytes)) h.mark.count
    ∙ ap (read (length es)) h.bytes_are
    ∙ ap (λ (o : Option (List Entry)). unwrap_or o [])
    (items_again (entry_format V4) (IsSpellable V4) (entries_format V4) es h.fit)

pub held_as_read : (bytes : List ℕ) (m : Mark) (es : List Entry) → AreBuffered bytes m es
    → AreBuffered bytes m (entries_behind m.len bytes)
held_as_read bytes m es h = subst (λ (x : List Entry). AreBuffered bytes m x)
    (sym (read_again bytes m es h)) h

-- no entries
pub none_buffered : (bytes : List ℕ) (m : Mark) → length bytes ≡ 4 → m.len ≡ 0 → m.end ≡ 4
    → m.last ≡ None → AreBuffered bytes m []
none_buffered bytes m four none at last = record {
  room = omega (arith, four);
  bytes_are = drop_all 4 bytes (omega (arith, four));
  fit = tt;
  mark = record {
    count = none;
    ends = at;
    within = rw last tt;
    last_is = rw last nothing_last;
  };
}

-- room for a count, made or left
pub count_len : (bytes none : List ℕ) → bytes ≡ none ++ le4 0 → none ≡ [] → length bytes ≡ 4
count_len bytes none is empty = ap length (is ∙ ap (λ (x : List ℕ). x ++ le4 0) empty)
    ∙ wide4.len 0

pub room_left : (bytes left : List ℕ) (m : Mark) (es : List Entry) → AreBuffered bytes m es
    → left ≡ take 4 bytes → length left ≡ 4
room_left bytes left m es h is = omega (arith, ap length is, length-take 4 bytes, h.room)

-- the bytes end where the mark says
pub whole_len : (bytes : List ℕ) (m : Mark) (es : List Entry) → AreBuffered bytes m es
    → m.end ≡ length bytes
whole_len bytes m es h = omega
    (arith, h.mark.ends, h.room, length-drop 4 bytes, ap length h.bytes_are)

-- ---- one entry more

pub body_more : (es : List Entry) (e : Entry) → body (es ++ e ∷ []) ≡ body es ++ spelled V4 e
body_more es e = flat_map-append (spelled V4) es (e ∷ [])
    ∙ ap (λ (x : List ℕ). body es ++ x) (append-nil (spelled V4 e))

head_len : (e : Entry) → length (entry_head V4 e) ≡ 17
unfolding spelled
head_len e = omega (
  arith,
  length-spelled V4 e,
  length-append (entry_head V4 e ++ e.user_key) e.value,
  length-append (entry_head V4 e) e.user_key,
)

-- the last entry lies behind its head
pub last_placed : (es : List Entry) (e : Entry) (p : Place) → p.key ≡ length (body es) + 17
    → p.value ≡ p.key + length e.user_key → p.seqno ≡ e.seqno → p.value_type ≡ e.kind
    → buffered_entry (body (es ++ e ∷ [])) p ≡ e
unfolding spelled
last_placed es e p k v n t =
    let B = body es in
    let H = entry_head V4 e in
    let K = e.user_key in
    let V = e.value in
    let all : body (es ++ e ∷ []) ≡ B ++ ((H ++ K) ++ V) = body_more es e in
    let by_key : B ++ ((H ++ K) ++ V) ≡ (B ++ H) ++ (K ++ V) = simp append_assoc in
    let by_value : B ++ ((H ++ K) ++ V) ≡ (B ++ (H ++ K)) ++ V = simp append_assoc in
    let key_at : length (B ++ H) ≡ p.key = omega (arith, length-append B H, head_len e, k) in
    let value_at : length (B ++ (H ++ K)) ≡ p.value =
    omega (arith, length-append B (H ++ K), length-append H K, head_len e, k, v) in
    let size : p.value - p.key ≡ length K = omega (arith, v) in
    let key : slice_range (body (es ++ e ∷ [])) p.key p.value ≡ K =
    ap (λ (b : List ℕ). slice_range b p.key p.value) (all ∙ by_key)
    ∙ ap (take (p.value - p.key)) (drop_at (B ++ H) (K ++ V) p.key key_at)
    ∙ take_at K V (p.value - p.key) (sym size) in
    let value : drop p.value (body (es ++ e ∷ [])) ≡ V =
    ap (drop p.value) (all ∙ by_value) ∙ drop_at (B ++ (H ++ K)) V p.value value_at in
    rw (key, value, n, t) refl

last_more : (es : List Entry) (e : Entry) → last_of None (es ++ e ∷ []) ≡ Some e
unfolding last_of
last_more es e = last_of-append None es (e ∷ [])

pub pushed_buffered : (bytes longer : List ℕ) (m o : Mark) (es : List Entry) (e : Entry) (p : Place)
    → AreBuffered bytes m es → IsSpellable V4 e → longer ≡ bytes ++ spelled V4 e
    → p.key ≡ m.end - 4 + 17 → p.value ≡ p.key + length e.user_key → p.seqno ≡ e.seqno
    → p.value_type ≡ e.kind → o.len ≡ m.len + 1 → o.end ≡ length longer → o.last ≡ Some p
    → AreBuffered longer o (es ++ e ∷ [])
pushed_buffered bytes longer m o es e p h ok is k v n t count at last =
    let B = body es in
    let more = body_more es e in
    let longer_len : length longer ≡ length bytes + length (spelled V4 e) =
    ap length is ∙ length-append bytes (spelled V4 e) in
    let behind : drop 4 longer ≡ body (es ++ e ∷ []) =
    ap (drop 4) is ∙ drop-append-le 4 bytes (spelled V4 e) h.room
    ∙ ap (λ (x : List ℕ). x ++ spelled V4 e) h.bytes_are ∙ sym more in
    let key : p.key ≡ length B + 17 = omega (arith, k, h.mark.ends) in
    let size : length (body (es ++ e ∷ [])) ≡ length B + length (spelled V4 e) =
    ap length more ∙ length-append B (spelled V4 e) in
    let whole = whole_len bytes m es h in
    record {
      room = omega (arith, longer_len, h.room);
      bytes_are = behind;
      fit = all_append (IsSpellable V4) es (e ∷ []) h.fit (ok, tt);
      mark = record {
        count = omega (arith, count, h.mark.count, length-append es (e ∷ []));
        ends = omega (arith, at, longer_len, whole, size, h.mark.ends);
        within = rw last (
          omega (arith, v),
          omega (arith, size, length-spelled V4 e, key, v),
        );
        last_is = last_more es e ∙ ap (λ (x : Entry). Some x) (sym (last_placed es e p key v n t))
            ∙ ap (option_map (buffered_entry (body (es ++ e ∷ [])))) (sym last);
      };
    }

-- ---- entries given up

pub front_buffered : (bytes : List ℕ) (m o : Mark) (es front rest : List Entry)
    → AreBuffered bytes m es → es ≡ front ++ rest → IsMark o front
    → AreBuffered (take o.end bytes) o front
front_buffered bytes m o es front rest h is mark =
    let n = length (body front) in
    let split : body es ≡ body front ++ body rest = ap body is
    ∙ flat_map-append (spelled V4) front rest in
    let behind : drop 4 (take o.end bytes) ≡ body front =
    ap (λ (k : ℕ). drop 4 (take k bytes)) mark.ends ∙ drop-take 4 n bytes
    ∙ ap (take n) (h.bytes_are ∙ split) ∙ take_at (body front) (body rest) n refl in
    record {
      room = omega (arith, length-take o.end bytes, mark.ends, h.room);
      bytes_are = behind;
      fit = all_front (IsSpellable V4) front rest
          (subst (AllByRecursion (IsSpellable V4)) is h.fit);
      mark = mark;
    }

pub front_taken : (bytes : List ℕ) (m o : Mark) (es : List Entry) → AreBuffered bytes m es
    → MarksFront o es → (AreBuffered (take o.end bytes) o (take o.len es))
front_taken bytes m o es h f =
    let same : take o.len es ≡ f.front = ap (take o.len) f.are
    ∙ take_at f.front f.rest o.len (sym f.mark.count) in
    subst (λ (x : List Entry). AreBuffered (take o.end bytes) o x) (sym same)
    (front_buffered bytes m o es f.front f.rest h f.are f.mark)

-- ---- the block

pub body_len : (es : List Entry) → length (body es) ≡ sum_by entry_bound es
body_len [] = refl
body_len (e ∷ es) = omega (
  arith,
  body_len es,
  length-append (spelled V4 e) (body es),
  length-spelled V4 e,
  sum_by-cons entry_bound e es,
)

pub payload_len : (es : List Entry) → length (payload V4 es) ≡ 4 + length (body es)
unfolding payload
payload_len es = omega (
  arith,
  length-append (le4 (length es)) (body es),
  wide4.len (length es),
)

pub many_bytes : (es : List Entry) → 17 * length es ≤ length (body es)
many_bytes [] = omega arith
many_bytes (e ∷ es) = omega (
  arith,
  many_bytes es,
  length-append (spelled V4 e) (body es),
  length-spelled V4 e,
)

pub buffer_len : (bytes : List ℕ) (m : Mark) (es : List Entry) → AreBuffered bytes m es
    → length bytes ≡ length (payload V4 es)
buffer_len bytes m es h = omega
    (arith, payload_len es, h.room, length-drop 4 bytes, ap length h.bytes_are)

-- the count is written in front
pub set_four : (bytes : List ℕ) (a b c d : ℕ) → 4 ≤ length bytes
    → slice_set (slice_set (slice_set (slice_set bytes 0 a) 1 b) 2 c) 3 d
    ≡ a ∷ b ∷ c ∷ d ∷ drop 4 bytes
set_four [] a b c d h = absurd (omega (arith, h))
set_four (x ∷ []) a b c d h = absurd (omega (arith, h))
set_four (x ∷ y ∷ []) a b c d h = absurd (omega (arith, h))
set_four (x ∷ y ∷ z ∷ []) a b c d h = absurd (omega (arith, h))
set_four (x ∷ y ∷ z ∷ w ∷ rest) a b c d h = refl

pub counted_buffered : (bytes counted : List ℕ) (m : Mark) (es : List Entry)
    → AreBuffered bytes m es → counted ≡ le4 m.len ++ drop 4 bytes
    → AreBuffered counted m es × (counted ≡ payload V4 es)
unfolding payload
counted_buffered bytes counted m es h is = (
  record {
    room = omega (
      arith,
      ap length is,
      length-append (le4 m.len) (drop 4 bytes),
      wide4.len m.len,
    );
    bytes_are = ap (drop 4) is ∙ drop_at (le4 m.len) (drop 4 bytes) 4 (wide4.len m.len)
        ∙ h.bytes_are;
    fit = h.fit;
    mark = h.mark;
  },
  is ∙ ap (λ (b : List ℕ). le4 m.len ++ b) h.bytes_are
      ∙ ap (λ (n : ℕ). le4 n ++ body es) h.mark.count,
)

no_large : (o : Option Error) (n : ℕ) → option_or o (large_fault n) ≡ None → n < 2 ^ 32
no_large None n h = leb-false _ _ (fault_none (nat_le (2 ^ 32) n) BlockTooLarge None h).0
no_large (Some x) n h = absurd cc

-- the block of entries without a fault is short
pub block_short : (es : List Entry) → entries_fault es ≡ None
    → (24 + length (payload V4 es) ≡ data_block_bound_of es)
    × (24 + length (payload V4 es) < 2 ^ 32)
block_short es none =
    let short : data_block_bound_of es < 2 ^ 32 =
    no_large (first_fault entry_fault_or es) (data_block_bound_of es) none in
    let n = payload_len es in
    let m = body_len es in
    (omega (arith, short, n, m), omega (arith, short, n, m))

pub few_entries : (es : List Entry) → entries_fault es ≡ None → length es < 2 ^ 32
few_entries es none = omega (arith, (block_short es none).1, payload_len es, many_bytes es)

pub reads_back : (bytes : List ℕ) (m : Mark) (held es : List Entry) → AreBuffered bytes m held
    → held ≡ es → IsStrict es → 0 < length es → entries_fault es ≡ None → IsReadable V4 es
reads_back bytes m held es h is strict some none =
    let size = block_short es none in
    let fit = subst (AllByRecursion (IsSpellable V4)) is h.fit in
    readable_of es es refl some (entries_read V4 es (few_entries es none, fit) strict) size.1
    size.0
