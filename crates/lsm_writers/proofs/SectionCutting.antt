-- Cutting the handles into partitions, one handle after another.
use Rattle.std.proofs.Common.{◌≡◌, refl, ◌∙◌, ap, sym, subst, ℕ, ◌+◌, ◌-◌, ◌^◌, ◌<◌, ◌≤◌, nat_le}
use Rattle.std.proofs.Common.{Bool, true, false, List, [], ◌∷◌, ◌++◌, length, get_or, take, drop}
use Rattle.std.proofs.Common.{append_assoc, length-append, arith}
use Rattle.std.specs.Prelude.{sum_by, slice_range, Option, Some, None, if◌then◌else◌}
use Rattle.std.specs.List.{flat_map}
use Rattle.std.specs.Option.{option_or}
use Rattle.std.proofs.Math.Seq.{take-append_seam}
use Rattle.std.proofs.lemmas.Bool.Decides.{nat_tests}
use Rattle.std.proofs.lemmas.List.{append-nil, drop_all, drop_more, length-drop, take-take}
use Rattle.std.proofs.lemmas.List.Concat.{flat_map-append}
use Rattle.std.proofs.lemmas.List.Edits.{between_more, between_none}
use Rattle.std.proofs.lemmas.List.Sums.{sum_by_push}
use Rattle.std.proofs.lemmas.Slice.{between_to_end}
use Rattle.sst_entries.specs.declared.error.Error.{Error}
use Rattle.sst_blocks.specs.Sections.{Written}
use Rattle.sst_blocks.specs.declared.version.TableVersion.TheVariants.{V4}
use Rattle.sst_blocks.specs.Bounds.{capped, index_block_bound_of}
use Rattle.sst_blocks.specs.Handle.{Handle}
use Rattle.sst_blocks.specs.table.Parts.{parts_after, parts_by, rest_part}
use Rattle.sst_blocks.specs.table.Partitions.{handle_size, handles_block, index_tops, is_full_index}
use Rattle.lsm_writers.specs.section.IndexRefusing.{part_fault, parts_fault}
use Rattle.lsm_writers.proofs.Tops.{tops_push}

-- what parts refuse, one by one
fault_none : (before : ℕ) → parts_fault before [] ≡ None
unfolding parts_fault
fault_none before = refl

fault_more : (before : ℕ) (p : List Handle) (ps : List (List Handle))
    → parts_fault before (p ∷ ps) ≡ option_or (part_fault before p)
    (parts_fault (before + index_block_bound_of p) ps)
unfolding parts_fault
fault_more before p ps = refl

abbrev blocks : List (List Handle) → List ℕ
blocks parts = flat_map (handles_block V4) parts

-- of all parts some were written and told, and the rest comes
pub record Done (all rest : List (List Handle)) (before now : Written)
    (tops : List Handle) : Type 0 where
  pub done : List (List Handle)
  pub parts : all ≡ done ++ rest
  pub written : now ≡ record before { bytes = before.bytes ++ blocks done }
  pub returned : tops ≡ index_tops V4 (length before.bytes) done
  pub short : length (blocks done) < 2 ^ 32
  pub fault : parts_fault 0 all ≡ parts_fault (length (blocks done)) rest

done_none : (all : List (List Handle)) (w : Written) (tops : List Handle) → tops ≡ []
    → Done all all w w tops
done_none all w tops none = record {
  done = [];
  parts = refl;
  written = ap (λ (bs : List ℕ). record w { bytes = bs }) (sym (append-nil w.bytes));
  returned = none;
  short = omega arith;
  fault = refl;
}

module _ (all rest : List (List Handle)) (before now : Written) (tops : List Handle)
    (d : Done all rest before now tops) where
  -- how far the writer is
  pub done_length : length now.bytes ≡ length before.bytes + length (blocks d.done)
  done_length = ap (λ (w : Written). length w.bytes) d.written
      ∙ length-append before.bytes (blocks d.done)

  -- what was written before stays at the front
  pub done_front : take (length before.bytes) now.bytes ≡ before.bytes
  done_front = ap (λ (w : Written). take (length before.bytes) w.bytes) d.written
      ∙ take-append_seam before.bytes (blocks d.done)

  pub front_stays : (next : Written) → take (length now.bytes) next.bytes ≡ now.bytes
      → take (length before.bytes) next.bytes ≡ before.bytes
  front_stays next stays =
      sym (take-take (length before.bytes) (length now.bytes) next.bytes
      (omega (arith, done_length))) ∙ ap (λ (bs : List ℕ). take (length before.bytes) bs) stays
      ∙ done_front

-- one part more: what it refuses is the first that the parts refuse
module _ (all rest : List (List Handle)) (before now : Written) (tops : List Handle)
    (part : List Handle) (d : Done all (part ∷ rest) before now tops)
    (base : ℕ) (at : base ≡ length before.bytes) where
  abbrev later : Option Error
  later = parts_fault (length (blocks d.done) + index_block_bound_of part) rest

  part_refuses : parts_fault 0 all ≡ option_or (part_fault (length now.bytes - base) part) later
  part_refuses =
      let behind : length (blocks d.done) ≡ length now.bytes - base =
      omega (arith, at, done_length all (part ∷ rest) before now tops d) in
      d.fault ∙ fault_more (length (blocks d.done)) part rest
      ∙ ap (λ (n : ℕ). option_or (part_fault n part) later) behind

  pub part_fails : (e : Error) → part_fault (length now.bytes - base) part ≡ Some e
      → parts_fault 0 all ≡ Some e
  part_fails e fault = part_refuses ∙ ap (λ (f : Option Error). option_or f later) fault

  pub part_done : (next : Written) (tops' : List Handle)
      → next ≡ record now { bytes = now.bytes ++ handles_block V4 part }
      → tops' ≡ tops ++ index_tops V4 (length now.bytes) (part ∷ []) →
      length (handles_block V4 part) ≡ index_block_bound_of part → length next.bytes - base < 2 ^ 32
      → part_fault (length now.bytes - base) part ≡ None → Done all rest before next tops'
  part_done next tops' wrote states bound short none =
      let block = handles_block V4 part in
      let len = done_length all (part ∷ rest) before now tops d in
      let more : blocks (d.done ++ part ∷ []) ≡ blocks d.done ++ block =
      flat_map-append (handles_block V4) d.done (part ∷ [])
      ∙ ap (λ (b : List ℕ). blocks d.done ++ b) (append-nil block) in
      let long : length (blocks (d.done ++ part ∷ []))
      ≡ length (blocks d.done) + index_block_bound_of part =
      ap length more ∙ length-append (blocks d.done) block
      ∙ ap (λ (n : ℕ). length (blocks d.done) + n) bound in
      let after : length next.bytes ≡ length now.bytes + length block =
      ap (λ (w : Written). length w.bytes) wrote ∙ length-append now.bytes block in
      record {
        done = d.done ++ part ∷ [];
        parts = d.parts ∙ sym (append_assoc d.done (part ∷ []) rest);
        written = wrote ∙ ap (λ (w : Written). record w { bytes = w.bytes ++ block }) d.written
            ∙ ap (λ (bs : List ℕ). record before { bytes = bs })
            (append_assoc before.bytes (blocks d.done) block
            ∙ ap (λ (b : List ℕ). before.bytes ++ b) (sym more));
        returned = states ∙ ap (λ (ts : List Handle). ts ++ index_tops V4 (length now.bytes) (part ∷ []))
            d.returned
            ∙ ap (λ (n : ℕ). index_tops V4 (length before.bytes) d.done
            ++ index_tops V4 n (part ∷ [])) len
            ∙ sym (tops_push (length before.bytes) d.done part);
        short = omega (arith, short, at, long, len, after, bound);
        fault = part_refuses ∙ ap (λ (f : Option Error). option_or f later) none
            ∙ ap (λ (n : ℕ). parts_fault n rest) (sym long);
      }

-- all parts
module _ (all : List (List Handle)) (before now : Written) (tops : List Handle)
    (d : Done all [] before now tops) where
  whole : d.done ≡ all
  whole = sym (d.parts ∙ append-nil d.done)

  pub all_written : now ≡ record before { bytes = before.bytes ++ blocks all }
  all_written = d.written ∙ ap (λ ps. record before { bytes = before.bytes ++ blocks ps }) whole

  pub all_result : tops ≡ index_tops V4 (length before.bytes) all
  all_result = d.returned ∙ ap (λ ps. index_tops V4 (length before.bytes) ps) whole

  pub all_short : length (blocks all) < 2 ^ 32
  all_short = subst (λ ps. length (blocks ps) < 2 ^ 32) whole d.short

  pub all_fit : parts_fault 0 all ≡ None
  all_fit = d.fault ∙ fault_none (length (blocks d.done))

-- of the handles before `i` those before `start` are in parts that were written, and the others
-- wait and have this size
pub record Cut (limit : ℕ) (hs : List Handle) (before now : Written) (tops : List Handle)
    (start i size : ℕ) : Type 0 where
  pub upto : Done (parts_by (is_full_index limit) hs)
      (parts_after (is_full_index limit) (slice_range hs start i) (drop i hs)) before now tops
  pub ordered : start ≤ i
  pub waits : size ≡ capped (sum_by handle_size (slice_range hs start i))

pub cut_none : (limit : ℕ) (hs : List Handle) (w : Written) (tops : List Handle) → tops ≡ []
    → Cut limit hs w w tops 0 0 0
cut_none limit hs w tops none = record {
  upto = done_none (parts_by (is_full_index limit) hs) w tops none;
  ordered = omega arith;
  waits = refl;
}

-- whether a part is full is told by its size
size_more : (limit : ℕ) (hs : List Handle) (start i size more : ℕ) (h : Handle) → start ≤ i
    → i < length hs → h ≡ get_or hs i h →
    size ≡ capped (sum_by handle_size (slice_range hs start i))
    → more ≡ capped (size + handle_size h) → more
    ≡ capped (sum_by handle_size (slice_range hs start i ++ h ∷ []))
size_more limit hs start i size more h le lt is waits e =
    e ∙ ap (λ (n : ℕ). capped (n + handle_size h)) waits
    ∙ caps (sum_by handle_size (slice_range hs start i)) (handle_size h)
    ∙ ap capped (sym (sum_by_push handle_size (slice_range hs start i) h))
  where
    caps : (a b : ℕ) → capped (capped a + b) ≡ capped (a + b)
    caps a b = omega arith

reaches : (limit more sum : ℕ) → limit < 2 ^ 32 → more ≡ capped sum → limit ≤ more
    → nat_le limit sum ≡ true
reaches limit more sum small e le = let far : limit ≤ sum = omega (arith, small, e, le) in
    grind (arith, nat_tests, far)

stays_below : (limit more sum : ℕ) → limit < 2 ^ 32 → more ≡ capped sum → more < limit
    → nat_le limit sum ≡ false
stays_below limit more sum small e lt = let near : sum < limit = omega (arith, small, e, lt) in
    grind (arith, nat_tests, near)

module _ (limit : ℕ) (hs : List Handle) (before now : Written) (tops : List Handle)
    (start i size : ℕ) (cut : Cut limit hs before now tops start i size)
    (h : Handle) (lt : i < length hs) (is : h ≡ get_or hs i h) (small : limit < 2 ^ 32) (more : ℕ)
    (grows : more ≡ capped (size + handle_size h)) where
  abbrev full : List Handle → Bool
  full = is_full_index limit

  abbrev waiting : List Handle
  waiting = slice_range hs start i

  one_more : slice_range hs start (i + 1) ≡ waiting ++ h ∷ []
  one_more = between_more hs start i h cut.ordered lt
      ∙ ap (λ (x : Handle). waiting ++ x ∷ []) (sym is)

  next_comes : drop i hs ≡ h ∷ drop (i + 1) hs
  next_comes = drop_more hs i h lt ∙ ap (λ (x : Handle). x ∷ drop (i + 1) hs) (sym is)

  now_waits : more ≡ capped (sum_by handle_size (waiting ++ h ∷ []))
  now_waits = size_more limit hs start i size more h cut.ordered lt is cut.waits grows

  -- the handle waits
  waits_too : more < limit → parts_after full waiting (drop i hs)
      ≡ parts_after full (slice_range hs start (i + 1)) (drop (i + 1) hs)
  unfolding parts_after
  waits_too below =
      ap (λ xs. parts_after full waiting xs) next_comes
      ∙ ap (λ (b : Bool). if b then (waiting ++ h ∷ []) ∷ parts_after full [] (drop (i + 1) hs)
      else parts_after full (waiting ++ h ∷ []) (drop (i + 1) hs))
      (stays_below limit more (sum_by handle_size (waiting ++ h ∷ [])) small now_waits below)
      ∙ ap (λ ws. parts_after full ws (drop (i + 1) hs)) (sym one_more)

  pub cut_waits : more < limit → Cut limit hs before now tops start (i + 1) more
  cut_waits below = record {
    upto = subst (λ ps. Done (parts_by full hs) ps before now tops) (waits_too below) cut.upto;
    ordered = omega (arith, cut.ordered);
    waits = now_waits ∙ ap (λ ws. capped (sum_by handle_size ws)) (sym one_more);
  }

  -- the handle fills a part
  abbrev after : List (List Handle)
  after = parts_after full (slice_range hs (i + 1) (i + 1)) (drop (i + 1) hs)

  fills : limit ≤ more → parts_after full waiting (drop i hs) ≡ slice_range hs start (i + 1) ∷ after
  unfolding parts_after
  fills over =
      ap (λ xs. parts_after full waiting xs) next_comes
      ∙ ap (λ (b : Bool). if b then (waiting ++ h ∷ []) ∷ parts_after full [] (drop (i + 1) hs)
      else parts_after full (waiting ++ h ∷ []) (drop (i + 1) hs))
      (reaches limit more (sum_by handle_size (waiting ++ h ∷ [])) small now_waits over)
      ∙ ap (λ ws. ws ∷ parts_after full [] (drop (i + 1) hs)) (sym one_more)
      ∙ ap (λ ws. slice_range hs start (i + 1) ∷ parts_after full ws (drop (i + 1) hs))
      (sym (between_none hs (i + 1)))

  pub part_next : limit ≤ more → Done (parts_by full hs)
      (slice_range hs start (i + 1) ∷ after) before now tops
  part_next over = subst (λ ps. Done (parts_by full hs) ps before now tops) (fills over) cut.upto

  pub cut_filled : (next : Written) (tops' : List Handle)
      → Done (parts_by full hs) after before next tops'
      → Cut limit hs before next tops' (i + 1) (i + 1) 0
  cut_filled next tops' d = record {
    upto = d;
    ordered = omega arith;
    waits = ap (λ ws. capped (sum_by handle_size ws)) (sym (between_none hs (i + 1)));
  }

-- at the end there is a rest, or none
module _ (limit : ℕ) (hs : List Handle) (before now : Written) (tops : List Handle)
    (start i size : ℕ) (cut : Cut limit hs before now tops start i size)
    (over : length hs ≤ i) where
  abbrev cuts : List Handle → Bool
  cuts = is_full_index limit

  left : parts_after cuts (slice_range hs start i) (drop i hs) ≡ rest_part (drop start hs)
  unfolding parts_after
  left =
      ap (λ xs. parts_after cuts (slice_range hs start i) xs) (drop_all i hs over)
      ∙ ap (λ (ws : List Handle). rest_part ws) (between_to_end hs start i over)

  some_left : (ws : List Handle) → 0 < length ws → rest_part ws ≡ ws ∷ []
  some_left [] some = absurd (omega (arith, some))
  some_left (w ∷ ws) some = refl

  pub rest_next : start < length hs → Done (parts_by cuts hs)
      (slice_range hs start (length hs) ∷ []) before now tops
  rest_next lt =
      let all : slice_range hs start (length hs) ≡ drop start hs =
      between_to_end hs start (length hs) (omega arith) in
      let is : parts_after cuts (slice_range hs start i) (drop i hs)
      ≡ slice_range hs start (length hs) ∷ [] =
      left ∙ some_left (drop start hs) (omega (arith, lt, length-drop start hs))
      ∙ ap (λ ws. ws ∷ []) (sym all) in
      subst (λ ps. Done (parts_by cuts hs) ps before now tops) is cut.upto

  pub no_rest : length hs ≤ start → Done (parts_by cuts hs) [] before now tops
  no_rest le =
      let is : parts_after cuts (slice_range hs start i) (drop i hs) ≡ [] = left
      ∙ ap (λ (ws : List Handle). rest_part ws) (drop_all start hs le) in
      subst (λ ps. Done (parts_by cuts hs) ps before now tops) is cut.upto
