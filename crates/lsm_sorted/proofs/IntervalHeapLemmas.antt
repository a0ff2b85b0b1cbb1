-- What an exchange of two items leaves of the order of an interval heap.
use Rattle.std.proofs.Common.{◌≡◌, ◌≢◌, ◌⊎◌, ℕ, zero, suc, ◌+◌, ◌-◌, ◌*◌, ◌/◌, ◌%◌, ◌<◌, ◌≤◌, true}
use Rattle.std.proofs.Common.{false, Ordering, List, length, ◌++◌, get_or, take, drop, inl, inr}
use Rattle.std.proofs.Common.{⊎_elim, sym, ◌∙◌, ap, refl, arith}
use Rattle.std.specs.Ordering.{is_gt}
use Rattle.std.specs.List.{swap}
use Rattle.std.specs.Cmp.{IsTotalOrder}
use Rattle.std.proofs.lemmas.Cmp.{upto, tied_itself}
use Rattle.std.proofs.lemmas.Bool.{cases_eq, cases_lt}
use Rattle.std.proofs.lemmas.List.{length-take-le, get_or-take, drop_all, take_all, append-nil}
use Rattle.std.proofs.lemmas.List.Edits.{Swapped, swapped_from_swap, length-swap}
use Rattle.sst_entries.specs.declared.stream.Direction.{Direction}
use Rattle.sst_entries.specs.declared.stream.Direction.TheVariants.{Front, Back}
use Rattle.lsm_sorted.specs.merge.Order.{toward}
use Rattle.lsm_sorted.specs.merge.Intervals.{Precedes, IsIntervalHeap, PrecedesOn, IsEnd, above_of}
use Rattle.lsm_sorted.specs.merge.Intervals.{IsOtherAbove, InOrder, IsRisingAt, IsSinkingAt}
use Rattle.lsm_sorted.specs.merge.Intervals.{SinksFrom}
use Rattle.lsm_sorted.specs.merge.Intervals.{IsChildEnd, IsRoot}
use Rattle.lsm_sorted.proofs.OrderLemmas.{toward_total, not_both}
use Rattle.lsm_sorted.proofs.MergePlaceLemmas.{on_apart, on_one_way, on_within, none_above_root}
use Rattle.lsm_sorted.proofs.MergePlaceLemmas.{one_above, above_precedes, above_is_end, above_below}
use Rattle.lsm_sorted.proofs.MergePlaceLemmas.{IsOther, other_precedes, other_is, one_other}
use Rattle.lsm_sorted.proofs.MergePlaceLemmas.{after_other}
use Rattle.lsm_sorted.proofs.MergePlaceLemmas.{other_above_after, no_other_above_root, after_end}
use Rattle.lsm_sorted.proofs.MergePlaceLemmas.{child_is_end, child_within, one_end, child_nodes}
use Rattle.lsm_sorted.proofs.MergePlaceLemmas.{full_above_child, no_other_above_full}
use Rattle.lsm_sorted.proofs.MergePlaceLemmas.{precedes_shorter}
use Rattle.lsm_sorted.proofs.MergePlaceLemmas.{after_single, above_single, before_pair}
use Rattle.lsm_sorted.proofs.MergePlaceLemmas.{after_low_pair}
use Rattle.lsm_sorted.proofs.MergePlaceLemmas.{after_pair, none_among_one, precedes_longer}
use Rattle.lsm_sorted.proofs.MoveLemmas.{ordered_now, rest_rest, v_rest, u_rest, rest_v}
use Rattle.lsm_sorted.proofs.MoveLemmas.{rise_others}
use Rattle.lsm_sorted.proofs.MoveLemmas.{rise_around, sink_others, sink_around, node_others}
use Rattle.lsm_sorted.proofs.MoveLemmas.{node_around}

-- from one side to both
pub heap_from : {T : Type 0} (side : Direction) (cmp : T → T → Ordering) (xs : List T)
    → ((a b : ℕ) → PrecedesOn side (length xs) a b → InOrder side cmp xs a b)
    → IsIntervalHeap cmp xs
heap_from Front cmp xs h = λ d a b p. h a b p d
heap_from Back cmp xs h = λ d a b p. h b a p d

pub heap_to : {T : Type 0} (side : Direction) (cmp : T → T → Ordering) (xs : List T)
    → IsIntervalHeap cmp xs → (a b : ℕ) → PrecedesOn side (length xs) a b → InOrder side cmp xs a b
heap_to Front cmp xs h = λ a b p d. h d a b p
heap_to Back cmp xs h = λ a b p d. h d b a p

module _ {T : Type 0} (side : Direction) (cmp : T → T → Ordering) (o : IsTotalOrder cmp)
    (xs : List T) where
  -- the item at b comes strictly before the one at a
  abbrev pub Strict : ℕ → ℕ → Type 0
  Strict a b = (d : T) → is_gt (toward side cmp (get_or xs a d) (get_or xs b d)) ≡ true

  pub risen : (at : ℕ) → IsRisingAt side cmp xs at
      → ((a : ℕ) → PrecedesOn side (length xs) a at → InOrder side cmp xs a at)
      → IsIntervalHeap cmp xs
  risen at r last = heap_from side cmp xs (λ a b p. ⊎_elim
      (λ (e : b ≡ at). rw e (last a (rw (← e) p)))
      (λ (ne : b ≢ at). r.others a b p ne)
      (cases_eq b at))

  pub risen_to_root : (at : ℕ) → at ≤ 1 → IsRisingAt side cmp xs at → IsIntervalHeap cmp xs
  risen_to_root at low r = risen at r (λ a p. absurd
      (none_above_root side (length xs) a at r.end low p))

  pub risen_below : (at : ℕ) → IsRisingAt side cmp xs at → InOrder side cmp xs (above_of side at) at
      → IsIntervalHeap cmp xs
  risen_below at r h = risen at r (λ a p. let e = one_above side (length xs) a at r.end p in rw e h)

  pub in_order_itself : (a : ℕ) → InOrder side cmp xs a a
  in_order_itself a d = ap is_gt (tied_itself (toward_total side o) (get_or xs a d))

  -- of the two nodes below, the first alone has places
  pub first_alone : (u left : ℕ) → left < length xs → IsEnd side (length xs) left
      → left / 2 ≡ u / 2 * 2 + 1 → length xs ≤ 2 * (u / 2 * 2 + 1 + 1) → (b : ℕ)
      → IsChildEnd side (length xs) u b → InOrder side cmp xs left b
  first_alone u left low ends node past b child = ⊎_elim
      (λ (e : b / 2 ≡ u / 2 * 2 + 1).
      let same = one_end side (length xs) b left (child_is_end side (length xs) u b child) ends
      (child_within side (length xs) u b child) low (e ∙ sym node) in
      rw same (in_order_itself left))
      (λ (e : b / 2 ≡ u / 2 * 2 + 1 + 1). let inside = child_within side (length xs) u b child in
      absurd (omega arith))
      (child_nodes side (length xs) u b child)

  -- of both, the first in order
  pub first_of_two : (u left right k : ℕ) → left < length xs → IsEnd side (length xs) left
      → left / 2 ≡ u / 2 * 2 + 1 → right < length xs → IsEnd side (length xs) right
      → right / 2 ≡ u / 2 * 2 + 1 + 1
      → InOrder side cmp xs k left → InOrder side cmp xs k right → (b : ℕ)
      → IsChildEnd side (length xs) u b → InOrder side cmp xs k b
  first_of_two u left right k low ends node low' ends' node' h h' b child =
      let end_b = child_is_end side (length xs) u b child in
      let low_b = child_within side (length xs) u b child in
      ⊎_elim
      (λ (e : b / 2 ≡ u / 2 * 2 + 1). let same = one_end side
      (length xs) b left end_b ends low_b low (e ∙ sym node) in rw same h)
      (λ (e : b / 2 ≡ u / 2 * 2 + 1 + 1). let same =
      one_end side (length xs) b right end_b ends' low_b low' (e ∙ sym node') in rw same h')
      (child_nodes side (length xs) u b child)

  -- no second place, or the item there does not come before
  pub node_alone : (u v : ℕ) → IsOther u v → length xs ≤ v → (b : ℕ)
      → PrecedesOn side (length xs) u b → b / 2 ≡ u / 2 → InOrder side cmp xs u b
  node_alone u v other past b p same =
      let e = one_other u v b other (other_is side (length xs) u b p same) in
      let low = on_within side (length xs) u b p in
      absurd (omega (arith, low.1))

  pub node_kept : (u v : ℕ) → IsOther u v → InOrder side cmp xs u v → (b : ℕ)
      → PrecedesOn side (length xs) u b → b / 2 ≡ u / 2 → InOrder side cmp xs u b
  node_kept u v other h b p same = let e = one_other u v b other
      (other_is side (length xs) u b p same) in rw e h

  module _ (u : ℕ) (r : IsSinkingAt side cmp xs u)
      (ordered : (b : ℕ) → PrecedesOn side (length xs) u b → b / 2 ≡ u / 2
      → InOrder side cmp xs u b) where
    -- it comes after none below
    pub sunk : ((b : ℕ) → IsChildEnd side (length xs) u b → InOrder side cmp xs u b)
        → IsIntervalHeap cmp xs
    sunk children = heap_from side cmp xs (λ a b p. ⊎_elim
        (λ (e : a ≡ u).
        let p' : PrecedesOn side (length xs) u b = rw (← e) p in
        rw e (⊎_elim (λ same. ordered b p' same) (λ rest. ⊎_elim (λ child. children b child)
        (λ other. r.below_other b other) rest) (after_end side (length xs) u b p')))
        (λ (ne : a ≢ u). r.others a b p ne)
        (cases_eq a u))

    pub sunk_last : ((b : ℕ) → IsChildEnd side (length xs) u b → ⊥) → IsIntervalHeap cmp xs
    sunk_last none = sunk (λ b child. absurd (none b child))

    pub sunk_first : (v : ℕ) → InOrder side cmp xs u v
        → ((b : ℕ) → IsChildEnd side (length xs) u b → InOrder side cmp xs v b)
        → IsIntervalHeap cmp xs
    sunk_first v h first = sunk (λ b child d. upto (toward_total side o) _ _ _ (h d)
        (first b child d))

  module _ (ys : List T) (u v : ℕ) (is : ys ≡ swap xs u v) (low_u : u < length xs)
      (low_v : v < length xs) (strict : Strict u v) where
    size : length ys ≡ length xs
    size = ap length is ∙ length-swap xs u v

    swapped : (d : T) → Swapped (λ k. get_or xs k d) (λ k. get_or ys k d) u v
    swapped d = swapped_from_swap xs ys u v d low_u low_v is

    pub rising_more : u ≡ above_of side v → 2 ≤ v → IsRisingAt side cmp xs v
        → IsRisingAt side cmp ys u
    rising_more e some r =
        let n : ℕ = length xs in
        let uv : PrecedesOn side (length xs) u v =
        rw e (above_precedes side (length xs) v r.end some low_v) in
        let only = λ (a : ℕ) (p : PrecedesOn side (length xs) a v). one_above side
        (length xs) a v r.end p ∙ sym e in
        record {
          within = rw size low_u;
          end = rw (size, e) (above_is_end side (length xs) v);
          others = λ a b p ne d. rise_others (toward side cmp) (toward_total side o)
              (λ k. get_or xs k d) (λ k. get_or ys k d) u v (swapped d) (strict d)
              (PrecedesOn side (length xs)) (on_apart side (length xs))
              (on_one_way side (length xs)) uv only (λ a b p ne. r.others a b p ne d)
              (λ a b p q. r.around a b p q d)
              a b (rw size at p) ne;
          around = λ a b p q d. rise_around (toward side cmp) (toward_total side o)
              (λ k. get_or xs k d) (λ k. get_or ys k d) u v (swapped d) (strict d)
              (PrecedesOn side (length xs)) (on_apart side (length xs))
              (on_one_way side (length xs)) uv only (λ a b p ne. r.others a b p ne d)
              (λ a b p q. r.around a b p q d)
              a b (rw size at p) (rw size at q);
        }

    -- the ends of one node
    pub sinking_still : IsOther u v → IsSinkingAt side cmp xs u → IsSinkingAt side cmp ys u
    sinking_still other r =
        let uv : PrecedesOn side (length xs) u v =
        other_precedes side (length xs) u v r.end other low_u low_v in
        let below = λ (d : T) (b : ℕ) (p : PrecedesOn side (length xs) v b). r.below_other b
        (after_other side (length xs) u v b r.end low_u other p) d in
        record {
          within = rw size low_u;
          end = rw size r.end;
          others = λ a b p ne d. node_others (toward side cmp) (toward_total side o)
              (λ k. get_or xs k d) (λ k. get_or ys k d) u v (swapped d) (strict d)
              (PrecedesOn side (length xs)) (on_apart side (length xs))
              (on_one_way side (length xs)) uv (λ a b p ne. r.others a b p ne d)
              (λ a b p q. r.around a b p q d) (below d)
              a b (rw size at p) ne;
          around = λ a b p q d. node_around (toward side cmp) (toward_total side o)
              (λ k. get_or xs k d) (λ k. get_or ys k d) u v (swapped d) (strict d)
              (PrecedesOn side (length xs)) (on_apart side (length xs))
              (on_one_way side (length xs)) uv (λ a b p ne. r.others a b p ne d)
              (λ a b p q. r.around a b p q d) (below d)
              a b (rw size at p) (rw size at q);
          below_other = λ b p d.
              let vb = other_above_after side (length xs) u v b r.end low_u low_v other p in
              let b_u : b ≢ u = λ x. on_one_way side (length xs) u v uv (rw (← x) vb) in
              u_rest (toward side cmp) (toward_total side o) (λ k. get_or xs k d)
              (λ k. get_or ys k d) u v (swapped d) (strict d) b b_u
              (λ x. on_apart side (length xs) v b vb (sym x))
              (r.others v b vb (λ x. on_apart side (length xs) u v uv (sym x)) d);
        }

    pub node_ordered : IsOther u v → (b : ℕ) → PrecedesOn side (length ys) u b → b / 2 ≡ u / 2
        → InOrder side cmp ys u b
    node_ordered other b p same d =
        let e : b ≡ v = one_other u v b other (other_is side (length ys) u b p same) in
        rw e (ordered_now (toward side cmp) (toward_total side o) (λ k. get_or xs k d)
        (λ k. get_or ys k d) u v (swapped d) (strict d))

    -- the first of the ends below
    pub sinking_more : IsChildEnd side (length xs) u v
        → ((b : ℕ) → PrecedesOn side (length xs) u b → b / 2 ≡ u / 2 → InOrder side cmp xs u b)
        → ((b : ℕ) → IsChildEnd side (length xs) u b → InOrder side cmp xs v b)
        → IsSinkingAt side cmp xs u → IsSinkingAt side cmp ys v
    sinking_more child ordered first r =
        let uv = child.precedes in
        let ends = child_is_end side (length xs) u v child in
        let only = λ (a : ℕ) (p : PrecedesOn side (length xs) a v). one_above side
        (length xs) a v ends p ∙ sym (one_above side (length xs) u v ends uv) in
        let back = λ (d : T). not_both (toward side cmp) (toward_total side o) (get_or xs u d)
        (get_or xs v d) (strict d) in
        let before = λ (d : T) (b : ℕ) (p : PrecedesOn side (length xs) u b) (ne : b ≢ v). ⊎_elim
        (λ (same : b / 2 ≡ u / 2). upto (toward_total side o) _ _ _ (back d) (ordered b p same d))
        (λ (rest : IsChildEnd side (length xs) u b ⊎ IsOtherAbove side u b). ⊎_elim
        (λ (k : IsChildEnd side (length xs) u b). first b k d)
        (λ (other : IsOtherAbove side u b). absurd
        (no_other_above_full side (length xs) u v b child p other))
        rest)
        (after_end side (length xs) u b p) in
        record {
          within = rw size low_v;
          end = rw size ends;
          others = λ a b p ne d. sink_others (toward side cmp) (toward_total side o)
              (λ k. get_or xs k d) (λ k. get_or ys k d) u v (swapped d) (strict d)
              (PrecedesOn side (length xs)) (on_apart side (length xs))
              (on_one_way side (length xs)) uv (λ a b p ne. r.others a b p ne d)
              (λ a b p q. r.around a b p q d) only (before d)
              a b (rw size at p) ne;
          around = λ a b p q d. sink_around (toward side cmp) (toward_total side o)
              (λ k. get_or xs k d) (λ k. get_or ys k d) u v (swapped d) (strict d)
              (PrecedesOn side (length xs)) (on_apart side (length xs))
              (on_one_way side (length xs)) uv (λ a b p ne. r.others a b p ne d)
              (λ a b p q. r.around a b p q d) only (before d)
              a b (rw size at p) (rw size at q);
          below_other = λ b p d.
              let full = full_above_child side (length xs) u v b r.end child p in
              let b_v : b ≢ v = λ x. let low = child.below in
              omega (arith, full.1, ap (λ (k : ℕ). k / 2) x) in
              v_rest (toward side cmp) (toward_total side o) (λ k. get_or xs k d)
              (λ k. get_or ys k d) u v (swapped d) (strict d) b
              (λ x. on_apart side (length xs) u b full.0 (sym x)) b_v (ordered b full.0 full.1 d);
        }

from_at : (n a k b : ℕ) → a ≡ k → Precedes n a b → Precedes n k b
from_at n a k b e p = rw (← e) p

to_at : (n a b k : ℕ) → b ≡ k → Precedes n a b → Precedes n a k
to_at n a b k e p = rw (← e) p

-- the high end does not come before the low one
after_pair_first : (last first a : ℕ) → last % 2 ≡ 1 → first ≡ last - 1 → a ≡ last
    → Precedes (last + 1) a first → ⊥
after_pair_first last first a odd is e p =
    let q : Precedes (last + 1) last first = from_at (last + 1) a last first e p in
    let r : Precedes last (last - 1) first = after_pair last first odd q in
    on_apart Front last (last - 1) first r (sym is)

-- one item after an interval heap
module _ {T : Type 0} (cmp : T → T → Ordering) (o : IsTotalOrder cmp) (xs : List T) (last : ℕ)
    (size : length xs ≡ last + 1) (heap : IsIntervalHeap cmp (take last xs)) where
  old_order : (a b : ℕ) → Precedes last a b → a < last → b < last → (d : T)
      → is_gt (cmp (get_or xs a d) (get_or xs b d)) ≡ false
  old_order a b p low low' d =
      let short = length-take-le last xs (omega arith) in
      let h = heap d a b (rw short p) in
      rw (← get_or-take last xs a d low, ← get_or-take last xs b d low') h

  old : (a b : ℕ) → Precedes (last + 1) a b → a < last → b < last → (d : T)
      → is_gt (cmp (get_or xs a d) (get_or xs b d)) ≡ false
  old a b p low low' = old_order a b (precedes_shorter last a b p low low') low low'

  below_last : (a : ℕ) → a < last + 1 → a ≢ last → a < last
  below_last a low ne = omega arith

  module _ (even : last % 2 ≡ 0) (some : 0 < last) (low : ℕ)
      (is_low : low ≡ 2 * ((last - 2) / 4)) where
    -- the interval above the last item
    above_order : (d : T) → is_gt (cmp (get_or xs low d) (get_or xs (low + 1) d)) ≡ false
    above_order d = old low (low + 1) (rw is_low (above_single last even some)) (omega arith)
        (omega arith) d

    after_is : (b : ℕ) → Precedes (last + 1) last b → b ≡ low + 1
    after_is b p = rw is_low (after_single last b even p)

    before_is : (a : ℕ) → Precedes (last + 1) a last → a ≡ low
    before_is a p = one_above Front (last + 1) a last even p ∙ sym is_low

    pub rising_low_single : ((d : T) → is_gt (cmp (get_or xs low d) (get_or xs last d)) ≡ true)
        → IsRisingAt Front cmp xs last
    rising_low_single strict =
        let within : last < length xs = omega arith in
        record {
          within = within;
          end = even;
          others = λ a b p ne d.
              let q : Precedes (last + 1) a b = rw (← size) p in
              let inside = on_within Front (last + 1) a b q in
              let low_b : b < last = below_last b inside.1 ne in
              ⊎_elim
              (λ (e : a ≡ last).
              let there : b ≡ low + 1 = after_is b (from_at (last + 1) a last b e q) in
              rw (e, there) (upto o _ _ _ (not_both cmp o (get_or xs low d) (get_or xs last d)
              (strict d)) (above_order d)))
              (λ (ne' : a ≢ last). old a b q (below_last a inside.0 ne') low_b d)
              (cases_eq a last);
          around = λ a b p q d.
              let at_a : a ≡ low = before_is a (rw (← size) p) in
              let at_b : b ≡ low + 1 = after_is b (rw (← size) q) in
              rw (at_a, at_b) (above_order d);
        }

    pub rising_high_single : ((d : T) → is_gt (cmp (get_or xs low d) (get_or xs last d)) ≡ false)
        → IsRisingAt Back cmp xs last
    rising_high_single upto_last =
        record {
          within = omega arith;
          end = λ e. sym size;
          others = λ a b p ne d.
              let q : Precedes (last + 1) b a = rw (← size) p in
              let inside = on_within Front (last + 1) b a q in
              let low_b : b < last = below_last b inside.0 ne in
              ⊎_elim
              (λ (e : a ≡ last). let there : b ≡ low =
              before_is b (to_at (last + 1) b a last e q) in rw (e, there) (upto_last d))
              (λ (ne' : a ≢ last). old b a q low_b (below_last a inside.1 ne') d)
              (cases_eq a last);
          around = λ a b p q d.
              let at_a : a ≡ low + 1 = after_is a (rw (← size) p) in
              let at_b : b ≡ low = before_is b (rw (← size) q) in
              rw (at_a, at_b) (above_order d);
        }

  module _ (odd : last % 2 ≡ 1) (first : ℕ) (is_first : first ≡ last - 1) where
    -- the single item that was last before
    single_order : (b : ℕ) → Precedes (last + 1) last b → (d : T)
        → is_gt (cmp (get_or xs first d) (get_or xs b d)) ≡ false
    single_order b p d =
        let q : Precedes last first b = rw is_first (after_pair last b odd p) in
        let inside = on_within Front last first b q in
        old_order first b q inside.0 inside.1 d

    pub rising_high_pair : ((d : T) → is_gt (cmp (get_or xs first d) (get_or xs last d)) ≡ false)
        → IsRisingAt Back cmp xs last
    rising_high_pair upto_last =
        record {
          within = omega arith;
          end = λ e. sym size;
          others = λ a b p ne d.
              let q : Precedes (last + 1) b a = rw (← size) p in
              let inside = on_within Front (last + 1) b a q in
              let low_b : b < last = below_last b inside.0 ne in
              ⊎_elim
              (λ (e : a ≡ last). let there = before_pair last b odd
              (to_at (last + 1) b a last e q) in let same : b ≡ first = omega arith in
              rw (e, same) (upto_last d))
              (λ (ne' : a ≢ last). old b a q low_b (below_last a inside.1 ne') d)
              (cases_eq a last);
          around = λ a b p q d.
              let at_b = before_pair last b odd (rw (← size) q) in
              let same : b ≡ first = omega arith in
              rw same (single_order a (rw (← size) p) d);
        }

    pub rising_low_pair : (ys : List T) → ys ≡ swap xs first last
        → ((d : T) → is_gt (cmp (get_or xs first d) (get_or xs last d)) ≡ true)
        → IsRisingAt Front cmp ys first
    rising_low_pair ys is strict =
        let low_first : first < length xs = omega arith in
        let low_last : last < length xs = omega arith in
        let size_y : length ys ≡ last + 1 = ap length is ∙ length-swap xs first last ∙ size in
        let s = λ (d : T). swapped_from_swap xs ys first last d low_first low_last is in
        record {
          within = omega arith;
          end = omega arith;
          others = λ a b p ne d.
              let q : Precedes (last + 1) a b = rw (← size_y) p in
              let inside = on_within Front (last + 1) a b q in
              ⊎_elim
              (λ (e : b ≡ last).
              let there = before_pair last a odd (to_at (last + 1) a b last e q) in
              let same : a ≡ first = omega arith in
              rw (e, same) (ordered_now cmp o (λ k. get_or xs k d) (λ k. get_or ys k d) first last
              (s d) (strict d)))
              (λ (b_last : b ≢ last). ⊎_elim
              (λ (e : a ≡ last). rw e (v_rest cmp o (λ k. get_or xs k d)
              (λ k. get_or ys k d) first last (s d) (strict d) b ne b_last
              (single_order b (from_at (last + 1) a last b e q) d)))
              (λ (a_last : a ≢ last). ⊎_elim
              (λ (e : a ≡ first). absurd (b_last (after_low_pair last b odd
              (from_at (last + 1) a (last - 1) b (e ∙ is_first) q))))
              (λ (a_first : a ≢ first). rest_rest cmp o (λ k. get_or xs k d)
              (λ k. get_or ys k d) first last (s d) (strict d) a b a_first a_last ne b_last
              (old a b q (below_last a inside.0 a_last) (below_last b inside.1 b_last) d))
              (cases_eq a first))
              (cases_eq a last))
              (cases_eq b last);
          around = λ a b p q d.
              let pa : Precedes (last + 1) a first = rw (← size_y) p in
              let qb : Precedes (last + 1) first b = rw (← size_y) q in
              let at_b : b ≡ last = after_low_pair last b odd
              (from_at (last + 1) first (last - 1) b is_first qb) in
              let inside = on_within Front (last + 1) a first pa in
              let a_first = on_apart Front (last + 1) a first pa in
              let a_last : a ≢ last = λ e. let there =
              after_pair_first last first a odd is_first e pa in absurd there in
              rw at_b (rest_v cmp o (λ k. get_or xs k d) (λ k. get_or ys k d) first last (s d)
              (strict d) a a_first a_last
              (old a first pa (below_last a inside.0 a_last) (omega arith) d));
        }

-- what a slice of a vector leaves there
pub as_written : {T : Type 0} (new before : List T) (n : ℕ) → length new ≡ length before
    → n ≡ length before → take n (new ++ drop (length new) before) ≡ new
as_written new before n same e =
    let past = drop_all (length new) before (omega arith) in
    let whole : new ++ drop (length new) before ≡ new = ap (λ l. new ++ l) past ∙ append-nil new in
    ap (λ l. take n l) whole ∙ take_all n new (omega arith)

root_is_low : (side : Direction) (n k : ℕ) → IsRoot side n k → k ≤ 1
root_is_low Front n k e = omega arith
root_is_low Back n k e = omega arith

root_is_end : (side : Direction) (m k : ℕ) → IsRoot side (m + 1) k → k < m → IsEnd side m k
root_is_end Front m k e low = omega arith
root_is_end Back m k e low = λ even. absurd (omega arith)

root_past : (side : Direction) (m k : ℕ) → IsRoot side (m + 1) k → m ≤ k → m ≤ 1
root_past Front m k e past = omega arith
root_past Back m k e past = omega arith

end_is_root : (side : Direction) (n k root : ℕ) → IsRoot side n root → IsEnd side n k → k < n
    → k ≤ 1 → k ≡ root
end_is_root Front n k root e h low one = omega arith
end_is_root Back n k root e h low one = ⊎_elim
    (λ (z : k ≡ 0). let last = h (ap (λ (j : ℕ). j % 2) z) in omega arith)
    (λ (nz : k ≢ 0). omega arith) (cases_eq k 0)

-- each place is an end, or right after the end of its node
end_or_after : (side : Direction) (n k : ℕ) → k < n
    → IsEnd side n k ⊎ ((j : ℕ) × (j < n) × IsEnd side n j × PrecedesOn side n j k)
end_or_after Front n k low = ⊎_elim
    (λ (even : k % 2 ≡ 0). inl even)
    (λ (odd : k % 2 ≢ 0). inr (
      k - 1,
      omega arith,
      omega arith,
      inr
          (inl (record { low = omega arith; high = omega arith; within = low })),
    ))
    (cases_eq (k % 2) 0)
end_or_after Back n k low = ⊎_elim
    (λ (even : k % 2 ≡ 0). ⊎_elim
    (λ (last : k + 1 ≡ n). inl (λ e. last))
    (λ (full : k + 1 ≢ n). inr (
      k + 1,
      omega arith,
      (λ e. absurd (omega arith)),
      inr
          (inl (record { low = even; high = refl; within = omega arith })),
    ))
    (cases_eq (k + 1) n))
    (λ (odd : k % 2 ≢ 0). inl (λ e. absurd (odd e)))
    (cases_eq (k % 2) 0)

module _ {T : Type 0} (side : Direction) (cmp : T → T → Ordering) (o : IsTotalOrder cmp)
    (xs : List T) (heap : IsIntervalHeap cmp xs) (root : ℕ) where
  ends_after_root : IsRoot side (length xs) root → (f k : ℕ) → k ≤ f → k < length xs
      → IsEnd side (length xs) k → InOrder side cmp xs root k
  ends_after_root is zero k enough low ends = rw
      (end_is_root side (length xs) k root is ends low (omega arith))
      (in_order_itself side cmp o xs root)
  ends_after_root is (suc f) k enough low ends = ⊎_elim
      (λ (near : k < 2). rw (end_is_root side (length xs) k root is ends low (omega arith))
      (in_order_itself side cmp o xs root))
      (λ (far : 2 ≤ k).
      let above : ℕ = above_of side k in
      let below = above_below side k far in
      let p = above_precedes side (length xs) k ends far low in
      let up = ends_after_root is f (above_of side k) (omega arith) (omega arith)
      (above_is_end side (length xs) k) in
      λ d. upto (toward_total side o) _ _ _ (up d)
      (heap_to side cmp xs heap (above_of side k) k p d))
      (cases_lt k 2)

  pub root_first : IsRoot side (length xs) root → (k : ℕ) → k < length xs
      → InOrder side cmp xs root k
  root_first is k low = ⊎_elim
      (λ (ends : IsEnd side (length xs) k). ends_after_root is k k (omega arith) low ends)
      (λ after. λ d. upto (toward_total side o) _ _ _
      (ends_after_root is after.0 after.0 (omega arith) after.1 after.2 d)
      (heap_to side cmp xs heap after.0 k after.3 d))
      (end_or_after side (length xs) k low)

  -- the last item has taken the root's place
  module _ (ys : List T) (size : length ys + 1 ≡ length xs)
      (kept : (k : ℕ) (d : T) → k ≢ root → k + 1 < length xs → get_or ys k d ≡ get_or xs k d) where
    longer : (a b : ℕ) → Precedes (length ys) a b → (d : T)
        → is_gt (cmp (get_or xs a d) (get_or xs b d)) ≡ false
    longer a b p d = ⊎_elim
        (λ (q : Precedes (length ys + 1) a b). heap d a b (rw (← size) q))
        (λ (q : Precedes (length ys + 1) a (length ys) × Precedes (length ys + 1) (length ys) b).
        upto o _ _ _ (heap d a (length ys) (rw (← size) q.0))
        (heap d (length ys) b (rw (← size) q.1)))
        (precedes_longer (length ys) a b p)

    longer_on : (side' : Direction) (a b : ℕ) → PrecedesOn side' (length ys) a b
        → InOrder side' cmp xs a b
    longer_on Front a b p d = longer a b p d
    longer_on Back a b p d = longer b a p d

    pub sinks_from_root : IsRoot side (length xs) root → SinksFrom side cmp ys root
    sinks_from_root is =
        let is' : IsRoot side (length ys + 1) root = rw size is in
        let one = root_is_low side (length xs) root is in
        record {
          inside = λ low.
              let ends = root_is_end side (length ys) root is' low in
              record {
                within = low;
                end = ends;
                others = λ a b p ne d.
                    let inside = on_within side (length ys) a b p in
                    let b_root : b ≢ root = λ e. none_above_root side (length ys) a root ends one
                    (rw (← e) p) in
                    let at_a = kept a d ne (omega (arith, inside.0)) in
                    let at_b = kept b d b_root (omega (arith, inside.1)) in
                    rw (at_a, at_b) (longer_on side a b p d);
                around = λ a b p q. absurd (none_above_root side (length ys) a root ends one p);
                below_other = λ b p. absurd (no_other_above_root side root b one p);
              };
          past = λ past. let few = root_past side (length ys) root is' past in
              λ d a b p. absurd (none_among_one (length ys) a b few p);
        }
