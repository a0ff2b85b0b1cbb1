-- A payload that has its checksum may be marked.
use Rattle.std.specs.Prelude.{None, Bool, IsTrue}
use Rattle.std.proofs.Common.{◌≡◌, ◌≤◌, ◌<◌, ◌^◌, ℕ, zero, suc, ◌+◌, ◌-◌, true, List, [], ◌∷◌, ◌++◌, length}
use Rattle.std.proofs.Common.{replicate, take, slice_index, slice_set, slice_range, refl, subst}
use Rattle.std.proofs.Common.{sym, ap, ◌∙◌, arith}
use Rattle.std.specs.List.{All}
use Rattle.std.proofs.lemmas.List.{length-take}
use Rattle.bytes.proofs.Ranges.{slice_range_front}
use Rattle.sst_blocks.specs.declared.version.TableVersion.{TableVersion}
use Rattle.sst_blocks.specs.declared.block_type.BlockType.{BlockType}
use Rattle.sst_blocks.specs.declared.block_type.BlockType.TheVariants.{Data, Index, Filter, Meta}
use Rattle.sst_blocks.specs.Block.{data_len, header_fault, in_grammar, kind_tag, stored_checksum}
use Rattle.sst_blocks.specs.Block.{version_in}
use Rattle.sst_blocks.specs.Marks.{HasItems, HasSum, Holds, Says, head_before}
use Rattle.sst_blocks.specs.Placed.{IsHeaded, IsPlaced, IsRangeAt, payload_in}
use Rattle.sst_blocks.specs.declared.block.range.PayloadRange.{PayloadRange}
use Rattle.sst_blocks.specs.declared.block.header.Header.{Header}
use Rattle.sst_blocks.specs.declared.marks.Verified.TheVariants.{Grammar}
use Rattle.sst_blocks.specs.declared.source.payload.Payload.{Payload}
use Rattle.sst_blocks.specs.Fnv.{fnv1a}
use Rattle.sst_blocks.specs.Sections.{body_of}

pub marked : (bytes : List ℕ) (v : ℕ) → Says bytes v → (words : List ℕ) (i : ℕ)
    → ((j : ℕ) → Says bytes (slice_index words j)) → (j : ℕ)
    → Says bytes (slice_index (slice_set words i v) j)
marked bytes v says [] i h j = h j
marked bytes v says (w ∷ ws) zero h zero = says
marked bytes v says (w ∷ ws) zero h (suc j) = h (suc j)
marked bytes v says (w ∷ ws) (suc i) h zero = h zero
marked bytes v says (w ∷ ws) (suc i) h (suc j) = marked bytes v says ws i (λ k. h (suc k)) j

-- kinds of one tag are the same
tag_only : (a b : BlockType) → kind_tag a ≡ kind_tag b → a ≡ b
tag_only Data Data same = refl
tag_only Data Index same = absurd cc
tag_only Data Filter same = absurd cc
tag_only Data Meta same = absurd cc
tag_only Index Data same = absurd cc
tag_only Index Index same = refl
tag_only Index Filter same = absurd cc
tag_only Index Meta same = absurd cc
tag_only Filter Data same = absurd cc
tag_only Filter Index same = absurd cc
tag_only Filter Filter same = refl
tag_only Filter Meta same = absurd cc
tag_only Meta Data same = absurd cc
tag_only Meta Index same = absurd cc
tag_only Meta Filter same = absurd cc
tag_only Meta Meta same = refl

-- a part of the body is one of the bytes
pub body_part : (bytes : List ℕ) (start end : ℕ) → end ≤ length (body_of bytes)
    → slice_range (body_of bytes) start end ≡ slice_range bytes start end
body_part bytes start end within =
    slice_range_front (body_of bytes) bytes start end (length bytes - 120) refl
    (omega (arith, within, length-take (length bytes - 120) bytes))

-- the header before a payload of the body, and what it says
pub head_part : (bytes : List ℕ) (at : ℕ) → at + 24 ≤ length (body_of bytes)
    → head_before bytes (at + 24) ≡ slice_range (body_of bytes) at (at + 24)
head_part bytes at within =
    let from : at + 24 - 24 ≡ at = omega arith in
    ap (λ (n : ℕ). slice_range bytes n (at + 24)) from ∙ sym (body_part bytes at (at + 24) within)

-- a header without a fault is of the kind
decode_kind : (kind : BlockType) (head : List ℕ) → header_fault kind head ≡ None
    → slice_index head 4 ≡ kind_tag kind
decode_kind kind head none = grind arith

-- a payload behind a header has the checksum that the header stores where the cache says so, and the
-- other way round
module _ (bytes : List ℕ) (p : Payload) (headed : IsHeaded bytes p) where
  part : payload_in (body_of bytes) p ≡ slice_range bytes p.start p.end
  part = body_part bytes p.start p.end headed.within

  pub sum_there : HasSum bytes p.start → fnv1a (payload_in (body_of bytes) p) ≡ p.header.checksum
  unfolding HasSum
  sum_there has = ap fnv1a part
      ∙ subst (λ (e : ℕ). fnv1a (slice_range bytes p.start e) ≡ p.header.checksum) headed.len
      (has ∙ headed.sum)

  pub there_sum : fnv1a (payload_in (body_of bytes) p) ≡ p.header.checksum → HasSum bytes p.start
  unfolding HasSum
  there_sum is =
      subst (λ (e : ℕ). fnv1a (slice_range bytes p.start e) ≡ p.header.checksum) (sym headed.len)
      (ap fnv1a (sym part) ∙ is)
      ∙ sym headed.sum

-- so with the grammar, of its version and kind
module _ (bytes : List ℕ) (kind : BlockType) (p : Payload) (placed : IsPlaced bytes kind p) where
  part_is : payload_in (body_of bytes) p ≡ slice_range bytes p.start p.end
  part_is = part bytes p placed.headed

  pub items_there : HasItems bytes p.start
      → in_grammar p.header.version kind (payload_in (body_of bytes) p) ≡ true
  unfolding HasItems
  items_there has =
      let returned = subst (λ (w : TableVersion). in_grammar w kind
      (slice_range bytes p.start (p.start + data_len (head_before bytes p.start))) ≡ true)
      placed.version (has kind placed.kind_is) in
      subst (λ (b : List ℕ). in_grammar p.header.version kind b ≡ true) (sym part_is)
      (subst (λ (e : ℕ). in_grammar p.header.version kind (slice_range bytes p.start e) ≡ true)
      placed.headed.len returned)

  pub there_items : in_grammar p.header.version kind (payload_in (body_of bytes) p) ≡ true
      → HasItems bytes p.start
  unfolding HasItems
  there_items is = λ other tag.
      let head = head_before bytes p.start in
      let here = subst (λ (b : List ℕ). in_grammar p.header.version kind b ≡ true) part_is is in
      let whole = subst (λ (e : ℕ). in_grammar p.header.version kind (slice_range bytes p.start e)
      ≡ true) (sym placed.headed.len) here in
      let of_head = subst (λ (w : TableVersion). in_grammar w kind
      (slice_range bytes p.start (p.start + data_len head)) ≡ true) (sym placed.version) whole in
      subst (λ (k : BlockType). in_grammar (version_in head) k
      (slice_range bytes p.start (p.start + data_len head)) ≡ true)
      (tag_only kind other (sym placed.kind_is ∙ tag)) of_head

-- what is read from a header without a fault
pub placed_there : (bytes : List ℕ) (at end : ℕ) (kind : BlockType) (h : Header) (verified : Bool)
    → at + 24 + h.data_len ≡ end → end ≤ length (body_of bytes) → h.data_len < 2 ^ 32
    → header_fault kind (slice_range (body_of bytes) at (at + 24)) ≡ None
    → h.version ≡ version_in (slice_range (body_of bytes) at (at + 24))
    → h.checksum ≡ stored_checksum (slice_range (body_of bytes) at (at + 24))
    → h.data_len ≡ data_len (slice_range (body_of bytes) at (at + 24))
    → (IsTrue verified → Holds Grammar bytes (at + 24))
    → IsPlaced bytes kind
    (record { header = h; start = at + 24; end = end; is_verified = verified })
placed_there bytes at end kind h verified len within short none version sum size cached =
    let head = head_part bytes at (omega (arith, within, len)) in
    record {
      headed = record {
        ordered = omega (arith, len);
        within = within;
        short = omega (arith, short, len);
        sum = ap stored_checksum head ∙ sym sum;
        len = ap (λ (n : ℕ). at + 24 + n) (ap data_len head ∙ sym size) ∙ len;
      };
      version = ap version_in head ∙ sym version;
      kind_is = ap (λ (b : List ℕ). slice_index b 4) head
          ∙ decode_kind kind (slice_range (body_of bytes) at (at + 24)) none;
      verified = cached;
    }

-- so is a payload whose range was found by its header
pub range_there : (bytes : List ℕ) (offset : ℕ) (kind : BlockType) (p : PayloadRange)
    (verified : Bool) → IsRangeAt (body_of bytes) offset kind p
    → (IsTrue verified → Holds Grammar bytes p.start)
    → IsPlaced bytes kind
    (record { header = p.header; start = p.start; end = p.end; is_verified = verified })
range_there bytes offset kind p verified at cached =
    let start : offset + 24 ≡ p.start = sym at.start in
    let there = placed_there bytes offset p.end kind p.header verified
    (omega (arith, at.start, at.end)) at.within at.short at.fault at.version at.checksum at.len
    (λ is. subst (λ (s : ℕ). Holds Grammar bytes s) at.start (cached is)) in
    subst (λ (s : ℕ). IsPlaced bytes kind
    (record { header = p.header; start = s; end = p.end; is_verified = verified })) start there

-- a word that is 0 says nothing
none_says : (bytes : List ℕ) → Says bytes 0
none_says bytes = record {
  sum = λ start e. absurd (omega (arith, e));
  tested = λ start e. absurd (omega (arith, e));
}

-- nor does any of some that all are
pub unmarked_say : (bytes : List ℕ) (n m i : ℕ)
    → Says bytes (slice_index (take n (replicate m 0)) i)
unmarked_say bytes zero m i = none_says bytes
unmarked_say bytes (suc n) zero i = none_says bytes
unmarked_say bytes (suc n) (suc m) zero = none_says bytes
unmarked_say bytes (suc n) (suc m) (suc i) = unmarked_say bytes n m i

-- what holds of all and of one more holds of all with it
pub all_more : {X : Type 0} (P : X → Type 0) (xs : List X) (x : X) → P x → All P xs
    → All P (xs ++ x ∷ [])
all_more P [] x holds all zero d lt = holds
all_more P [] x holds all (suc k) d lt = absurd (omega (arith, lt))
all_more P (y ∷ ys) x holds all zero d lt = all zero d (omega arith)
all_more P (y ∷ ys) x holds all (suc k) d lt =
    all_more P ys x holds (λ j e le. all (suc j) e (omega (arith, le))) k d (omega (arith, lt))
