-- What the winners of the brackets say of the items, and what a change of one slot leaves.
use Rattle.std.proofs.Common.{◌≡◌, ℕ, suc, ◌+◌, ◌*◌, ◌<◌, false, List, [], ◌∷◌, ◌++◌, reverse}
use Rattle.std.proofs.Common.{Option, Some, None, Ordering, length, get_or, set, replicate, refl}
use Rattle.std.proofs.Common.{sym, ◌∙◌, ap, subst, inl, arith}
use Rattle.std.specs.Ordering.{is_gt}
use Rattle.std.specs.Option.{IfNone}
use Rattle.std.specs.List.{All}
use Rattle.std.proofs.lemmas.List.{length-set, length-replicate, get_or-replicate, reverse-append}
use Rattle.std.proofs.lemmas.List.{set-set, set-get_or}
use Rattle.std.proofs.lemmas.List.Elements.{All-nil, All-cons}
use Rattle.lsm_sorted.specs.declared.heap.lazy_tournament.brackets.Bracket.{Bracket}
use Rattle.lsm_sorted.specs.declared.heap.lazy_tournament.brackets.Brackets.{Brackets}
use Rattle.lsm_sorted.specs.merge.Slots.{Places, occupants, slot_at}
use Rattle.lsm_sorted.specs.merge.Brackets.{is_beaten, IsUnplayed, IsWon, WasWon, IsWonBut, IsKept}
use Rattle.lsm_sorted.specs.merge.Brackets.{AreKept, IsNextIf}

pub IfNone-from : {X : Type 0} (r : Option X) (P : Type 0) → P → IfNone r P
IfNone-from None P p = p
IfNone-from (Some x) P p = tt

-- an item that no place beats comes before all items, or is as good
pub all_behind : {T : Type 0} (cmp : T → T → Ordering) (x : T) (places : List (Option T))
    → ((k : ℕ) → k < length places → is_beaten cmp (Some x) (slot_at places k) ≡ false)
    → All (λ y. is_gt (cmp x y) ≡ false) (occupants places)
all_behind cmp x [] h = All-nil (λ y. is_gt (cmp x y) ≡ false)
all_behind cmp x (None ∷ places) h = all_behind cmp x places (λ k low. h (suc k) (omega arith))
all_behind cmp x (Some y ∷ places) h = All-cons (λ y. is_gt (cmp x y) ≡ false) y (occupants places)
    (h 0 (omega arith)) (all_behind cmp x places (λ k low. h (suc k) (omega arith)))

-- where an empty place is not beaten, all are empty
all_empty : {T : Type 0} (cmp : T → T → Ordering) (places : List (Option T))
    → ((k : ℕ) → k < length places → is_beaten cmp None (slot_at places k) ≡ false)
    → occupants places ≡ []
all_empty cmp [] h = refl
all_empty cmp (None ∷ places) h = all_empty cmp places (λ k low. h (suc k) (omega arith))
all_empty cmp (Some y ∷ places) h = let wrong = h 0 (omega arith) in cc

pub none_left : {T : Type 0} (cmp : T → T → Ordering) (places : List (Option T)) (o : Option T)
    → None ≡ o → ((k : ℕ) → k < length places → is_beaten cmp o (slot_at places k) ≡ false)
    → occupants places ≡ []
none_left {T} cmp places o e h = all_empty cmp places
    (λ k low. subst (λ (x : Option T). is_beaten cmp x (slot_at places k) ≡ false) (sym e)
    (h k low))

last_same : (xs ys : List ℕ) (x y : ℕ) → xs ++ x ∷ [] ≡ ys ++ y ∷ [] → x ≡ y
last_same xs ys x y e =
    let turned : x ∷ reverse xs ≡ y ∷ reverse ys = sym (reverse-append xs (x ∷ [])) ∙ ap reverse e
    ∙ reverse-append ys (y ∷ []) in
    cc

-- a slot that may have changed is this one
abbrev pub Agrees : Option ℕ → ℕ → Type 0
Agrees None s = Unit {0}
Agrees (Some k) s = k ≡ s

-- the slot that was emptied last is the next to be taken
pub agrees_next : {T : Type 0} (o : Option ℕ) (slots : Places T) (free : List ℕ) (s : ℕ)
    → IsNextIf slots o → slots.free ≡ free ++ s ∷ [] → Agrees o s
agrees_next None slots free s next top = tt
agrees_next (Some k) slots free s next top = last_same next.others free k s (sym next.last ∙ top)

module _ {T Z : Type 0} (cmp : T → T → Ordering) where
  -- over empty slots it does not matter who wins
  won_unplayed : (slots : List (Option T)) (n : ℕ) (b : Bracket Z) → slots ≡ replicate n None
      → IsUnplayed n b → IsWon cmp slots b
  won_unplayed slots n b e un =
      let size : length slots ≡ n = ap length e ∙ length-replicate n None in
      record {
        nodes = rw size un.nodes;
        decided = λ m inside low.
            let empty : (k : ℕ) → k < n → slot_at slots k ≡ None = λ k h. ap (λ l. slot_at l k) e
            ∙ get_or-replicate n k None None h in
            let left = empty (get_or b.nodes.items (2 * m) 0)
            (un.nodes.within (2 * m) (omega (arith, un.nodes.size))) in
            let right = empty (get_or b.nodes.items (2 * m + 1) 0)
            (un.nodes.within (2 * m + 1) (omega (arith, un.nodes.size))) in
            record {
              from = inl (un.first m inside (omega arith));
              first = rw left refl;
              second =
                  rw right refl;
            };
      }

  pub kept_unplayed : (slots : List (Option T)) (n : ℕ) (b : Bracket Z) → slots ≡ replicate n None
      → IsUnplayed n b → IsKept None cmp slots b
  kept_unplayed slots n b e un = let won = won_unplayed slots n b e un in
      record { nodes = won.nodes; won = λ _. won }

  pub kept_won : (slots : List (Option T)) (b : Bracket Z) → IsWon cmp slots b
      → IsKept None cmp slots b
  kept_won slots b won = record { nodes = won.nodes; won = λ _. won }

  module _ (slots : List (Option T)) (s : ℕ) (x : Option T) (low : s < length slots) where
    -- a slot changes
    won_set : (o : Option ℕ) (b : Bracket Z) → Agrees o s → IsWonBut o cmp slots b
        → WasWon cmp (set slots s x) s b
    won_set None b a won = record {
      within = rw length-set low;
      was = slot_at slots s;
      won = subst (λ (ps : List (Option T)). IsWon cmp ps b)
          (sym (set-set slots s x (slot_at slots s) ∙ set-get_or slots s None)) won;
    }
    won_set (Some k) b same w = record {
      within = rw length-set low;
      was = w.was;
      won = subst (λ (ps : List (Option T)). IsWon cmp ps b)
          (sym (set-set slots s x w.was ∙ ap (λ j. set slots j w.was) (sym same))) w.won;
    }

    kept_set : (o : Option ℕ) (b : Bracket Z) → Agrees o s → IsKept o cmp slots b
        → IsKept (Some s) cmp (set slots s x) b
    kept_set o b a k = record { nodes = rw length-set k.nodes; won = λ p. won_set o b a (k.won p) }

    pub are_kept_set : (o : Option ℕ) (b : Brackets Z) → Agrees o s → AreKept o cmp slots b
        → AreKept (Some s) cmp (set slots s x) b
    are_kept_set o b a k = record {
      front_end = k.front_end;
      back_end = k.back_end;
      front = kept_set o b.front a k.front;
      back = kept_set o b.back a k.back;
    }

  -- which slot was emptied last does not matter to what is won
  pub are_kept_open : (changed o : Option ℕ) (slots : List (Option T)) (b : Brackets Z)
      → AreKept changed cmp slots b → AreKept changed cmp slots (record b { emptied = o })
  are_kept_open changed o slots b k = record {
    front_end = k.front_end;
    back_end =
        k.back_end;
    front = k.front;
    back = k.back;
  }
