-- The handles of the top level.
use Rattle.std.proofs.Common.{◌≡◌, refl, ◌∙◌, ap, sym, subst, ℕ, zero, suc, ◌+◌, Bool, List, []}
use Rattle.std.proofs.Common.{◌∷◌, ◌++◌, length, get_or, length-append, arith}
use Rattle.std.specs.Prelude.{map, sum_by, Option, Some, None, unwrap_or, if◌then◌else◌}
use Rattle.std.specs.List.{flat_map}
use Rattle.std.proofs.lemmas.List.Sums.{sum_by-cons}
use Rattle.sst_entries.specs.Entry.{Entry, entry}
use Rattle.sst_entries.specs.Strict.{IsStrict, last_of}
use Rattle.sst_entries.specs.declared.error.Error.{Error}
use Rattle.sst_entries.specs.declared.error.Error.TheVariants.{KeyTooLong}
use Rattle.sst_entries.specs.declared.value_type.ValueType.TheVariants.{Value}
use Rattle.sst_blocks.specs.declared.version.TableVersion.TheVariants.{V4}
use Rattle.sst_blocks.specs.declared.block_type.BlockType.TheVariants.{Index}
use Rattle.sst_blocks.specs.Block.{header_len}
use Rattle.sst_blocks.specs.Bounds.{handle_bound}
use Rattle.sst_blocks.specs.Encoding.{handles_fault, is_long_key, key_fault}
use Rattle.sst_blocks.specs.Handle.{Handle}
use Rattle.sst_blocks.specs.Handles.{AreStrictHandles, end_of, handles_payload}
use Rattle.sst_blocks.specs.Place.{Place}
use Rattle.sst_blocks.specs.table.Parts.{parts_by}
use Rattle.sst_blocks.specs.table.Partitions.{handles_block, index_tops, last_end}
use Rattle.sst_blocks.proofs.BlockLengths.{length-block}
use Rattle.lsm_writers.proofs.Strict.{part_ends_strict}

-- the last handle of a part tells its end
last_of_at : (before : Option Entry) (hs : List Handle) (n : ℕ) (h : Handle) → n + 1 ≡ length hs
    → h ≡ get_or hs n h → last_of before (map end_of hs) ≡ Some (end_of h)
unfolding last_of
last_of_at before [] n h len is = absurd (omega (arith, len))
last_of_at before (x ∷ []) zero h len is = ap (λ (y : Handle). Some (end_of y)) (sym is)
last_of_at before (x ∷ y ∷ hs) zero h len is = absurd (omega (arith, len))
last_of_at before (x ∷ hs) (suc n) h len is =
    last_of_at (Some (end_of x)) hs n h (omega (arith, len)) is

last_end_at : (hs : List Handle) (n : ℕ) (h : Handle) → n + 1 ≡ length hs → h ≡ get_or hs n h
    → last_end hs ≡ end_of h
last_end_at hs n h len is = ap (λ (o : Option Entry). unwrap_or o (entry [] [] 0 Value))
    (last_of_at None hs n h len is)

pub top_is : (at : ℕ) (part : List Handle) (n : ℕ) (last top : Handle) (key : List ℕ) (seqno : ℕ)
    (place : Place) → n + 1 ≡ length part → last ≡ get_or part n last →
    key ≡ last.end_key → seqno ≡ last.seqno → place
    ≡ record { offset = at; size = header_len + length (handles_payload V4 part) } →
    top ≡ record { end_key = key; seqno = seqno; offset = place.offset; size = place.size }
    → top ∷ [] ≡ index_tops V4 at (part ∷ [])
top_is at part n last top key seqno place len is named numbered lies e =
    let end : end_of last ≡ last_end part = sym (last_end_at part n last len is) in
    ap (λ (h : Handle). h ∷ [])
    (e ∙ ap (λ (k : List ℕ). record {
      end_key = k;
      seqno = seqno;
      offset = place.offset;
      size =
          place.size;
    }) (named ∙ ap (λ (x : Entry). x.user_key) end)
    ∙ ap (λ (s : ℕ). record {
      end_key = (last_end part).user_key;
      seqno = s;
      offset =
          place.offset;
      size = place.size;
    }) (numbered ∙ ap (λ (x : Entry). x.seqno) end)
    ∙ ap (λ (p : Place). record {
      end_key = (last_end part).user_key;
      seqno =
          (last_end part).seqno;
      offset = p.offset;
      size = p.size;
    }) lies)

-- one part more
pub tops_push : (at : ℕ) (done : List (List Handle)) (part : List Handle) →
    index_tops V4 at (done ++ part ∷ []) ≡ index_tops V4 at done
    ++ index_tops V4 (at + length (flat_map (handles_block V4) done)) (part ∷ [])
tops_push at [] part = let here : at ≡ at + 0 = omega arith in
    ap (λ (n : ℕ). index_tops V4 n (part ∷ [])) here
tops_push at (p ∷ done) part =
    let next : ℕ = at + (24 + length (handles_payload V4 p)) in
    let here : next + length (flat_map (handles_block V4) done)
    ≡ at + length (flat_map (handles_block V4) (p ∷ done)) =
    omega (
      arith,
      length-append (handles_block V4 p)
          (flat_map (handles_block V4) done),
      length-block V4 Index (handles_payload V4 p),
    ) in
    let first : Handle = record {
      end_key = (last_end p).user_key;
      seqno =
          (last_end p).seqno;
      offset = at;
      size = 24 + length (handles_payload V4 p);
    } in
    ap (λ (hs : List Handle). first ∷ hs) (tops_push next done part
    ∙ ap (λ (n : ℕ). index_tops V4 next done ++ index_tops V4 n (part ∷ [])) here)

-- the end of a part has no value
abbrev end_in : Option Entry → Entry
end_in last = unwrap_or last (entry [] [] 0 Value)

end_of_some : (before : Option Entry) (h : Handle) (hs : List Handle) → let e =
    end_in (last_of before (map end_of (h ∷ hs))) in entry e.user_key [] e.seqno Value ≡ e
unfolding last_of
end_of_some before h [] = refl
end_of_some before h (x ∷ hs) = end_of_some (Some (end_of h)) x hs

end_again : (part : List Handle) → entry (last_end part).user_key [] (last_end part).seqno Value
    ≡ last_end part
unfolding last_of
end_again [] = refl
end_again (h ∷ hs) = end_of_some None h hs

-- they are strict
ends_of_tops : (at : ℕ) (parts : List (List Handle))
    → map end_of (index_tops V4 at parts) ≡ map last_end parts
ends_of_tops at [] = refl
ends_of_tops at (p ∷ ps) =
    let next : ℕ = at + (24 + length (handles_payload V4 p)) in
    ap (λ (e : Entry). e ∷ map end_of (index_tops V4 next ps)) (end_again p)
    ∙ ap (λ (es : List Entry). last_end p ∷ es) (ends_of_tops next ps)

pub tops_strict : (full : List Handle → Bool) (at : ℕ) (hs tops : List Handle) → AreStrictHandles hs
    → tops ≡ index_tops V4 at (parts_by full hs) → AreStrictHandles tops
tops_strict full at hs tops h e =
    subst (λ es. IsStrict es) (sym (ap (λ xs. map end_of xs) e
    ∙ ends_of_tops at (parts_by full hs))) (part_ends_strict full hs h)

-- only their keys' lengths count in what their block refuses
key_fault_of_tops : (at to : ℕ) (parts : List (List Handle))
    → key_fault (index_tops V4 at parts) ≡ key_fault (index_tops V4 to parts)
key_fault_of_tops at to [] = refl
key_fault_of_tops at to (p ∷ ps) =
    ap (λ (f : Option Error). if is_long_key (last_end p).user_key then Some KeyTooLong else f)
    (key_fault_of_tops (at + (24 + length (handles_payload V4 p)))
    (to + (24 + length (handles_payload V4 p))) ps)

bound_of_tops : (at to : ℕ) (parts : List (List Handle))
    → sum_by handle_bound (index_tops V4 at parts) ≡ sum_by handle_bound (index_tops V4 to parts)
bound_of_tops at to [] = refl
bound_of_tops at to (p ∷ ps) =
    let size : ℕ = 24 + length (handles_payload V4 p) in
    let first : Handle = record {
      end_key = (last_end p).user_key;
      seqno =
          (last_end p).seqno;
      offset = at;
      size = size;
    } in
    let other : Handle = record {
      end_key = (last_end p).user_key;
      seqno =
          (last_end p).seqno;
      offset = to;
      size = size;
    } in
    sum_by-cons handle_bound first (index_tops V4 (at + size) ps)
    ∙ ap (λ (n : ℕ). handle_bound first + n) (bound_of_tops (at + size) (to + size) ps)
    ∙ sym (sum_by-cons handle_bound other (index_tops V4 (to + size) ps))

pub tops_fault : (at to : ℕ) (parts : List (List Handle))
    → handles_fault (index_tops V4 at parts) ≡ handles_fault (index_tops V4 to parts)
tops_fault at to parts = rw (key_fault_of_tops at to parts, bound_of_tops at to parts) refl

pub length_tops : (at : ℕ) (parts : List (List Handle))
    → length (index_tops V4 at parts) ≡ length parts
length_tops at [] = refl
length_tops at (p ∷ ps) = omega (arith, length_tops (at + (24 + length (handles_payload V4 p))) ps)
