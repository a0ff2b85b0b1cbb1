-- Where an entry lies: the entry that a place stands for.
use Rattle.std.proofs.Common.{◌≡◌, ◌∙◌, ℕ, ◌+◌, ◌≤◌, List, length, slice_range, ap, arith}
use Rattle.sst_entries.specs.Entry.{Entry, entry}
use Rattle.sst_entries.specs.declared.value_type.ValueType.{ValueType}
use Rattle.sst_blocks.specs.declared.entry_place.EntryPlace.{EntryPlace}
use Rattle.sst_blocks.specs.EntryPlace.{IsPlacedIn, entry_placed}

-- of a key that begins at a place, with a value of some length behind it
abbrev pub place_from : ℕ → Entry → EntryPlace
place_from at e = record {
  key_at = at;
  value_at = at + length e.user_key;
  end = at + length e.user_key + length e.value;
  seqno = e.seqno;
  value_type = e.kind;
}

pub placed_is : (bytes : List ℕ) (at : ℕ) (e : Entry) (p : EntryPlace) → p ≡ place_from at e
    → slice_range bytes at (at + length e.user_key) ≡ e.user_key
    → slice_range bytes (at + length e.user_key) (at + length e.user_key + length e.value) ≡ e.value
    → entry_placed bytes p ≡ e
placed_is bytes at e p is key value =
    ap (λ (q : EntryPlace). entry_placed bytes q) is
    ∙ ap (λ (k : List ℕ). entry k (slice_range bytes (at + length e.user_key)
    (at + length e.user_key + length e.value)) e.seqno e.kind) key
    ∙ ap (λ (v : List ℕ). entry e.user_key v e.seqno e.kind) value

pub lies_within : (bytes : List ℕ) (at : ℕ) (e : Entry) (p : EntryPlace) → p ≡ place_from at e
    → at + length e.user_key + length e.value ≤ length bytes → IsPlacedIn bytes p
lies_within bytes at e p is within =
    let k = ap (λ (q : EntryPlace). q.key_at) is in
    let v = ap (λ (q : EntryPlace). q.value_at) is in
    let n = ap (λ (q : EntryPlace). q.end) is in
    (omega (arith, k, v), omega (arith, v, n), omega (arith, n, within))
