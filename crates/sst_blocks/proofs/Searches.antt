-- One walk from the left that looks for the first item which passes a test: what it has found, and
-- where it may stop.
use Rattle.std.proofs.Common.{◌≡◌, ℕ, ◌+◌, ◌-◌, ◌≤◌, Bool, true, false, List, [], ◌∷◌, ◌++◌, length}
use Rattle.std.proofs.Common.{drop, Option, Some, None, refl, sym, ap, subst, ◌∙◌, arith}
use Rattle.std.specs.Prelude.{find, is_some, unwrap_or, IfSome, if◌then◌else◌}
use Rattle.std.specs.Option.{option_map, option_or}
use Rattle.std.proofs.lemmas.List.{drop-drop, length-drop}
use Rattle.std.proofs.lemmas.List.Folds.{find-append}
use Rattle.sst_entries.specs.Entry.{Entry}
use Rattle.sst_entries.specs.Strict.{may_follow}
use Rattle.sst_entries.proofs.Bytes.{IsBytes}
use Rattle.sst_blocks.specs.Number.{num4}
use Rattle.sst_blocks.specs.Format.{Advances, Format, IsFormat, items_at, items_in}
use Rattle.sst_blocks.proofs.Items.{Walk, items_read, option_map_some, walk_all, walk_begins}
use Rattle.sst_blocks.proofs.Items.{walk_on, walk_over}

-- after n items, rest is left, and the first of them that passes the test is found
pub record Search {X : Type 0} (f : Format X) (p : X → Bool) (bytes rest : List ℕ)
    (last : Option Entry) (n : ℕ) (found : Option X) : Type 0 where
  pub starts : List ℕ
  pub walk : Walk f bytes rest starts last n
  pub first : found ≡ find p walk.items
  pub tail : rest ≡ drop (length bytes - length rest) bytes

-- ---- what may be found first

-- the next item is looked at where none was found
pub map_next : {X Y : Type 0} (h : X → Y) (found next : Option X) (b : Bool) (x : X)
    → next ≡ option_or found (if b then Some x else None)
    → option_map h next ≡ option_or (option_map h found) (if b then Some (h x) else None)
map_next h (Some y) next b x is = ap (option_map h) is
map_next h None next true x is = ap (option_map h) is
map_next h None next false x is = ap (option_map h) is

-- what holds of what was found and of the next item holds of what is found then
pub keeps_next : {X : Type 0} (P : X → Type 0) (found next : Option X) (b : Bool) (x : X)
    → next ≡ option_or found (if b then Some x else None) → IfSome found P → P x → IfSome next P
keeps_next P (Some y) next b x is held here = subst (λ o. IfSome o P) (sym is) held
keeps_next P None next true x is held here = subst (λ o. IfSome o P) (sym is) here
keeps_next P None next false x is held here = subst (λ o. IfSome o P) (sym is) tt

or_found : {X : Type 0} (found next : Option X) → is_some found ≡ true
    → option_or found next ≡ found
or_found (Some x) next some = refl
or_found None next some = absurd cc

-- there is one, and what follows of it holds
pub there : {A : Type 0} (o : Option A) (P : Type 0) → is_some o ≡ true
    → ((x : A) → o ≡ Some x → P) → P
there None P some k = absurd cc
there (Some x) P some k = k x refl

pub is_none_and_some : {A : Type 0} (o : Option A) → o ≡ None → is_some o ≡ true → ⊥
is_none_and_some None none some = absurd cc
is_none_and_some (Some x) none some = absurd cc

-- what is found in a front of a list is found in the list
found_in_front : {X : Type 0} (p : X → Bool) (front more : List X) → is_some (find p front) ≡ true
    → find p front ≡ find p (front ++ more)
found_in_front p front more some = sym (find-append p front more
    ∙ or_found (find p front) (find p more) some)

-- ---- the walk

module _ {X : Type 0} (f : Format X) (p : X → Bool) where
  pub search_begins : (bytes : List ℕ) → 4 ≤ length bytes → IsBytes bytes
      → Search f p bytes (drop 4 bytes) None 0 None
  unfolding walk_begins
  search_begins bytes long fits =
      let k : 4 ≡ length bytes - length (drop 4 bytes) = omega (arith, length-drop 4 bytes) in
      record {
        starts = [];
        walk = walk_begins f bytes long fits;
        first = refl;
        tail = ap (λ (n : ℕ). drop n bytes) k;
      }

  pub search_on : (Fits : X → Type 0) → IsFormat f Fits → Advances f
      → (bytes rest : List ℕ) (last : Option Entry) (n : ℕ) (found next : Option X) (x : X)
      (after : List ℕ) → Search f p bytes rest last n found
      → f.read rest ≡ Some (x, after) → may_follow last (f.key x) ≡ true
      → next ≡ option_or found (if p x then Some x else None)
      → Search f p bytes after (Some (f.key x)) (n + 1) next
  unfolding walk_on
  search_on Fits law advances bytes rest last n found next x after s read follows is =
      let one = advances rest x after read in
      let k = length bytes - length rest in
      let left : length after ≡ length rest - length (f.spell x) = ap length one.0
      ∙ length-drop (length (f.spell x)) rest in
      let to : k + length (f.spell x) ≡ length bytes - length after =
      omega (arith, left, one.1, s.walk.place) in
      record {
        starts = s.starts ++ k ∷ [];
        walk = walk_on f Fits law bytes rest s.starts last n x after s.walk read follows;
        first = is ∙ ap (λ (o : Option X). option_or o (find p (x ∷ []))) s.first
            ∙ sym (find-append p s.walk.items (x ∷ []));
        tail = one.0 ∙ ap (drop (length (f.spell x))) s.tail
            ∙ drop-drop (length (f.spell x)) k bytes ∙ ap (λ (m : ℕ). drop m bytes) to;
      }

  -- the item that is read stands at the place that the walk has come to
  pub search_place : (bytes rest : List ℕ) (last : Option Entry) (n : ℕ) (found : Option X) (x : X)
      (after : List ℕ) → Search f p bytes rest last n found → f.read rest ≡ Some (x, after)
      → option_map (λ y. y.0) (f.read (drop (length bytes - length rest) bytes)) ≡ Some x
  search_place bytes rest last n found x after s read =
      ap (λ (b : List ℕ). option_map (λ (y : X × List ℕ). y.0) (f.read b)) (sym s.tail)
      ∙ ap (option_map (λ (y : X × List ℕ). y.0)) read

  -- the walk has used the bytes up
  pub search_ends : (bytes rest : List ℕ) (last : Option Entry) (n : ℕ) (found : Option X)
      → Search f p bytes rest last n found → n ≡ num4 bytes → length rest ≡ 0
      → (is_some (items_in f bytes) ≡ true) × (found ≡ find p (unwrap_or (items_in f bytes) []))
  search_ends bytes rest last n found s all none =
      let are = walk_all f bytes rest s.starts last n s.walk all none in
      (ap is_some are, s.first ∙ ap (λ (o : Option (List X)). find p (unwrap_or o [])) (sym are))

  -- where the whole is known to be a list, the walk may stop at the first that passes
  pub search_stops : Advances f → (bytes rest : List ℕ) (last : Option Entry) (n : ℕ)
      (found : Option X) → Search f p bytes rest last n found → n ≤ num4 bytes
      → is_some (items_in f bytes) ≡ true
      → is_some found ≡ true → found ≡ find p (unwrap_or (items_in f bytes) [])
  search_stops advances bytes rest last n found s le returned some =
      there (items_in f bytes) (found ≡ find p (unwrap_or (items_in f bytes) [])) returned (λ xs are.
      let m = num4 bytes - n in
      let whole = items_read f advances bytes xs are in
      option_map_some (λ (more : List X). s.walk.items ++ more) (items_at f.read m rest) xs
      (sym (s.walk.reads m (omega arith)) ∙ whole.1)
      (λ more others is.
      let here : is_some (find p s.walk.items) ≡ true = ap is_some (sym s.first) ∙ some in
      s.first ∙ found_in_front p s.walk.items more here ∙ ap (find p) is
      ∙ ap (λ (o : Option (List X)). find p (unwrap_or o [])) (sym are)))

  -- where the whole is known to be a list, nothing is behind its last item
  pub search_whole : (bytes rest : List ℕ) (last : Option Entry) (n : ℕ) (found : Option X)
      → Search f p bytes rest last n found → n ≡ num4 bytes → is_some (items_in f bytes) ≡ true
      → found ≡ find p (unwrap_or (items_in f bytes) [])
  search_whole bytes [] last n found s all returned = (search_ends bytes [] last n found s all refl).1
  search_whole bytes (b ∷ rest) last n found s all returned = absurd (is_none_and_some _
      (walk_over f bytes (b ∷ rest) s.starts last n s.walk all (omega arith)) returned)

-- ---- what a test of the next item answers

pub is_next : {X : Type 0} (found : Option X) (b r : Bool) (x : X) → found ≡ None → r ≡ b → r ≡ true
    → Some x ≡ option_or found (if b then Some x else None)
is_next (Some y) b r x none is hit = absurd cc
is_next None true r x none is hit = refl
is_next None false r x none is hit = absurd cc

pub is_not_next : {X : Type 0} (found : Option X) (b r : Bool) (x : X) → found ≡ None → r ≡ b
    → r ≡ false → None ≡ option_or found (if b then Some x else None)
is_not_next (Some y) b r x none is miss = absurd cc
is_not_next None true r x none is miss = absurd cc
is_not_next None false r x none is miss = refl

pub some_map : {X Y : Type 0} (h : X → Y) (o : Option X) → is_some o ≡ true
    → is_some (option_map h o) ≡ true
some_map h (Some x) some = refl
some_map h None some = absurd cc
