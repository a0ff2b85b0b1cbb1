-- Parts of some bytes.
use Rattle.std.proofs.Common.{◌≡◌, ℕ, ◌+◌, ◌-◌, ◌≤◌, List, length, drop, slice_range, ap, sym}
use Rattle.std.proofs.Common.{◌∙◌, arith}
use Rattle.std.proofs.lemmas.List.{length-drop, length-take, take_all}
use Rattle.sst_blocks.specs.Sections.{body_of, trailer_of}
use Rattle.sst_blocks.proofs.MarkLemmas.{body_part}
use Rattle.lsm_files.specs.Reads.{IsPartAt}

-- a range within the bytes has its length
pub range_length : (bytes : List ℕ) (from len : ℕ) → from + len ≤ length bytes
    → length (slice_range bytes from (from + len)) ≡ len
range_length bytes from len within =
    omega (arith, within, length-take (from + len - from) (drop from bytes), length-drop from bytes)

pub range_part : (bytes : List ℕ) (from len : ℕ) → from + len ≤ length bytes
    → IsPartAt bytes from (slice_range bytes from (from + len))
range_part bytes from len within =
    let size = range_length bytes from len within in
    record {
      within = omega (arith, within, size);
      is = ap (λ (n : ℕ). slice_range bytes from (from + n)) (sym size);
    }

-- a part of a file that ends before the trailer is one of the body
pub part_of_body : (bytes : List ℕ) (from : ℕ) (part : List ℕ) → IsPartAt bytes from part
    → from + length part ≤ length (body_of bytes) → IsPartAt (body_of bytes) from part
part_of_body bytes from part at within = record {
  within = within;
  is = at.is ∙ sym (body_part bytes from (from + length part) within);
}

-- the last bytes of a file, from where its trailer starts, are its trailer
pub tail_trailer : (bytes part : List ℕ) (start : ℕ) → start + length part ≡ length bytes
    → start ≡ length bytes - 120 → IsPartAt bytes start part → trailer_of bytes ≡ part
tail_trailer bytes part start whole from at =
    let rest : slice_range bytes start (start + length part) ≡ drop start bytes =
    take_all (start + length part - start) (drop start bytes)
    (omega (arith, whole, length-drop start bytes)) in
    ap (λ (n : ℕ). drop n bytes) (sym from) ∙ sym rest ∙ sym at.is
