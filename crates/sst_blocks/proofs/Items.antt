-- Payloads of items, whatever an item's format: one walk from the left, the two laws of reading,
-- and what stands at each start.
use Rattle.std.proofs.Common.{◌≡◌, ℕ, zero, suc, ◌+◌, ◌*◌, ◌-◌, ◌^◌, ◌<◌, ◌≤◌, Bool, true, false}
use Rattle.std.proofs.Common.{cond, ltb, List, [], ◌∷◌, ◌++◌, length, get_or, drop, map, Option}
use Rattle.std.proofs.Common.{Some, None, refl, sym, ap, subst, ◌∙◌, append_assoc, arith}
use Rattle.std.specs.Prelude.{option_and_then, unwrap_or, is_some, nat_lt, if◌then◌else◌}
use Rattle.std.specs.List.{flat_map, slice_get, AllByRecursion}
use Rattle.std.specs.Option.{option_map}
use Rattle.std.proofs.lemmas.Bool.{ltb-false, le-ltb}
use Rattle.std.proofs.lemmas.List.{drop_at, drop-drop, length-append, length-drop, map_push}
use Rattle.std.proofs.lemmas.List.{map-append, append-nil, nil_from_length}
use Rattle.std.proofs.lemmas.List.Concat.{flat_map-append}
use Rattle.std.proofs.lemmas.Option.{none-some, same_Some, cond_some, option_and_then_some}
use Rattle.std.proofs.lemmas.Option.{slice_get-get_or, get_or_from_slice_get}
use Rattle.std.proofs.Math.Nat.{mul-suc}
use Rattle.sst_entries.specs.Entry.{Entry}
use Rattle.sst_blocks.specs.Number.{le4, num4}
use Rattle.sst_blocks.specs.Format.{Advances, Format, IsFormat, in_order, items_at, items_in}
use Rattle.sst_blocks.specs.Format.{items_of}
use Rattle.sst_blocks.specs.Starts.{starts_of, ItemsAt, SpellsAt}
use Rattle.sst_entries.specs.Strict.{may_follow, IsStrictAfter, is_strict_after, last_of}
use Rattle.sst_blocks.proofs.Numbers.{wide4}
use Rattle.sst_entries.proofs.Strictness.{strict_from_test, test_from_strict, test_push, test_fails}
use Rattle.sst_entries.proofs.Strictness.{last_push}
use Rattle.sst_entries.proofs.Bytes.{IsBytes, IsBytes-drop}

-- ---- starts

pub starts_push : {X : Type 0} (spell : X → List ℕ) (at : ℕ) (xs : List X) (x : X)
    → starts_of spell at (xs ++ x ∷ []) ≡ starts_of spell at xs ++ (at + length (flat_map spell xs))
    ∷ []
unfolding starts_of
starts_push spell at [] x =
    let k : at ≡ at + 0 = omega arith in
    ap (λ (n : ℕ). n ∷ []) k
starts_push spell at (y ∷ xs) x =
    let k : (at + length (spell y)) + length (flat_map spell xs)
    ≡ at + length (spell y ++ flat_map spell xs) =
    omega (arith, length-append (spell y) (flat_map spell xs)) in
    ap (λ (s : List ℕ). at ∷ s) (starts_push spell (at + length (spell y)) xs x
    ∙ ap (λ (n : ℕ). starts_of spell (at + length (spell y)) xs ++ n ∷ []) k)

pub length-starts : {X : Type 0} (spell : X → List ℕ) (at : ℕ) (xs : List X)
    → length (starts_of spell at xs) ≡ length xs
unfolding starts_of
length-starts spell at [] = refl
length-starts spell at (x ∷ xs) = ap suc (length-starts spell (at + length (spell x)) xs)

-- ---- the two laws

none_in_some : {A : Type 0} (o : Option A) → o ≡ None → (x : A) → o ≡ Some x → ⊥
none_in_some o none x some = none-some x (sym none ∙ some)

pub option_map_some : {A B P : Type 0} (f : A → B) (o : Option A) (y : B) → option_map f o ≡ Some y
    → ((x : A) → o ≡ Some x → f x ≡ y → P) → P
option_map_some f None y h k = absurd (none-some y h)
option_map_some f (Some x) y h k = k x refl (same_Some (f x) y h)

-- a test that did not fail
pub guard_some : {A : Type 0} (b : Bool) (o : Option A) (y : A) → cond b None o ≡ Some y
    → (b ≡ false) × (o ≡ Some y)
guard_some true o y e = absurd cc
guard_some false o y e = (refl, e)

pub tail_bytes : (bytes front rest : List ℕ) → IsBytes bytes → bytes ≡ front ++ rest → IsBytes rest
tail_bytes bytes front rest fits e = subst IsBytes
    (ap (drop (length front)) e ∙ drop_at front rest (length front) refl)
    (IsBytes-drop (length front) bytes fits)

module _ {X : Type 0} (f : Format X) (Fits : X → Type 0) (law : IsFormat f Fits) where
  pub items_take : (n : ℕ) (bytes : List ℕ) (xs : List X) → IsBytes bytes
      → items_at f.read n bytes ≡ Some xs → (bytes ≡ flat_map f.spell xs) × (length xs ≡ n)
      × AllByRecursion Fits xs
  items_take zero [] [] fits h = (refl, refl, tt)
  items_take zero [] (x ∷ xs) fits h = absurd cc
  items_take zero (b ∷ bytes) xs fits h = absurd (none-some xs h)
  items_take (suc n) bytes xs fits h =
      option_and_then_some (λ (x : X × List ℕ). option_map (λ ys. x.0 ∷ ys) (items_at f.read n x.1))
      (f.read bytes) xs h
      (λ x read more.
      option_map_some (λ (ys : List X). x.0 ∷ ys) (items_at f.read n x.1) xs more
      (λ ys others whole.
      let one = law.takes bytes x.0 x.1 fits read in
      let rest = items_take n x.1 ys (tail_bytes bytes (f.spell x.0) x.1 fits one.0) others in
      subst (λ (zs : List X). (bytes ≡ flat_map f.spell zs) × (length zs ≡ suc n)
      × AllByRecursion Fits zs) whole
      (one.0 ∙ ap (λ (b : List ℕ). f.spell x.0 ++ b) rest.0, ap suc rest.1, (one.1, rest.2))))

  pub items_again : (xs : List X) → AllByRecursion Fits xs
      → items_at f.read (length xs) (flat_map f.spell xs) ≡ Some xs
  items_again [] fit = refl
  items_again (x ∷ xs) fit = rw (law.again x (flat_map f.spell xs) fit.0, items_again xs fit.1) refl

  -- what a payload spells is a strict list, and the payload is its spelling
  pub items_in_take : (bytes : List ℕ) (xs : List X) → IsBytes bytes → items_in f bytes ≡ Some xs
      → (bytes ≡ le4 (length xs) ++ flat_map f.spell xs) × (length xs < 2 ^ 32)
      × AllByRecursion Fits xs × IsStrictAfter None (map f.key xs)
  items_in_take bytes xs fits h =
      let body : Option (List X) = option_and_then
      (λ (ys : List X). if in_order f ys then Some ys else None)
      (items_at f.read (num4 bytes) (drop 4 bytes)) in
      let g = guard_some (ltb (length bytes) 4) body xs h in
      let long : 4 ≤ length bytes = ltb-false _ _ g.0 in
      option_and_then_some (λ (ys : List X). if in_order f ys then Some ys else None)
      (items_at f.read (num4 bytes) (drop 4 bytes)) xs g.1
      (λ ys read tested.
      let t = cond_some (in_order f ys) ys xs tested in
      let k = items_take (num4 bytes) (drop 4 bytes) ys (IsBytes-drop 4 bytes fits) read in
      let whole : bytes ≡ le4 (length ys) ++ flat_map f.spell ys = wide4.front bytes long fits
      ∙ ap (λ (b : List ℕ). le4 (num4 bytes) ++ b) k.0
      ∙ ap (λ (n : ℕ). le4 n ++ flat_map f.spell ys) (sym k.1) in
      let few : length ys < 2 ^ 32 = rw k.1 (wide4.below bytes fits) in
      subst (λ (zs : List X). (bytes ≡ le4 (length zs) ++ flat_map f.spell zs)
      × (length zs < 2 ^ 32) × AllByRecursion Fits zs × IsStrictAfter None (map f.key zs)) t.1
      (whole, few, k.2, strict_from_test None (map f.key ys) t.0))

  -- a strict list is what its spelling spells
  pub items_in_again : (xs : List X) → length xs < 2 ^ 32 → AllByRecursion Fits xs
      → IsStrictAfter None (map f.key xs) → items_in f (le4 (length xs) ++ flat_map f.spell xs)
      ≡ Some xs
  items_in_again xs few fit strict =
      let B = flat_map f.spell xs in
      let long : ltb (length (le4 (length xs) ++ B)) 4 ≡ false =
      le-ltb _ _ (omega (arith, length-append (le4 (length xs)) B, wide4.len (length xs))) in
      let ordered : in_order f xs ≡ true = test_from_strict None (map f.key xs) strict in
      rw (
        long,
        wide4.again (length xs) B few,
        drop_at (le4 (length xs)) B 4
            (wide4.len (length xs)),
        items_again xs fit,
        ordered,
      ) refl

-- a test whose failure would leave nothing holds where something is left
in_order_if : {A : Type 0} (b : Bool) (o : Option A) → (b ≡ false → o ≡ None) → is_some o ≡ true
    → b ≡ true
in_order_if true o none some = refl
in_order_if false None none some = some
in_order_if false (Some x) none some = absurd (none-some x (sym (none refl)))

-- ---- one walk from the left

-- after n items, rest is left: what is read from here on is read of the whole
pub record Walk {X : Type 0} (f : Format X) (bytes rest starts : List ℕ) (last : Option Entry)
    (n : ℕ) : Type 0 where
  pub items : List X
  pub many : length items ≡ n
  pub long : 4 ≤ length bytes
  pub fits : IsBytes rest
  pub reads : (m : ℕ) → n + m ≡ num4 bytes → items_at f.read (num4 bytes) (drop 4 bytes)
      ≡ option_map (λ more. items ++ more) (items_at f.read m rest)
  pub ordered : in_order f items ≡ true
  pub last_is : last ≡ last_of None (map f.key items)
  pub places : starts ≡ starts_of f.spell 4 items
  pub place : length bytes ≡ 4 + length (flat_map f.spell items) + length rest

pub map_nothing : {X : Type 0} (o : Option (List X)) → o ≡ option_map (λ more. [] ++ more) o
map_nothing None = refl
map_nothing (Some xs) = refl

pub map_one : {X : Type 0} (xs : List X) (x : X) (o : Option (List X))
    → option_map (λ more. xs ++ more) (option_map (λ more. x ∷ more) o)
    ≡ option_map (λ more. (xs ++ x ∷ []) ++ more) o
map_one xs x None = refl
map_one xs x (Some more) = ap (λ ys. Some ys) (sym (append_assoc xs (x ∷ []) more))

module _ {X : Type 0} (f : Format X) where
  unfoldable pub walk_begins : (bytes : List ℕ) → 4 ≤ length bytes → IsBytes bytes
      → Walk f bytes (drop 4 bytes) [] None 0
  unfolding is_strict_after last_of starts_of
  walk_begins bytes long fits = record {
    items = [];
    many = refl;
    long = long;
    fits = IsBytes-drop 4 bytes fits;
    reads = λ m count.
        let same : m ≡ num4 bytes = omega arith in
        map_nothing (items_at f.read (num4 bytes) (drop 4 bytes))
        ∙ ap (λ (k : ℕ). option_map (λ more. [] ++ more) (items_at f.read k (drop 4 bytes)))
        (sym same);
    ordered = refl;
    last_is = refl;
    places = refl;
    place = omega (arith, length-drop 4 bytes);
  }

  unfoldable pub walk_on : (Fits : X → Type 0) → IsFormat f Fits
      → (bytes rest starts : List ℕ) (last : Option Entry) (n : ℕ) (x : X) (after : List ℕ)
      → Walk f bytes rest starts last n
      → f.read rest ≡ Some (x, after) → may_follow last (f.key x) ≡ true
      → Walk f bytes after (starts ++ (length bytes - length rest) ∷ []) (Some (f.key x))
      (n + 1)
  walk_on Fits law bytes rest starts last n x after w read follows =
      let one = law.takes rest x after w.fits read in
      let es = map f.key w.items in
      let keys : map f.key (w.items ++ x ∷ []) ≡ es ++ f.key x ∷ [] = map_push f.key w.items x in
      let step : (m : ℕ) → items_at f.read (suc m) rest
      ≡ option_map (λ more. x ∷ more) (items_at f.read m after) = λ m. rw read refl in
      let flat : flat_map f.spell (w.items ++ x ∷ []) ≡ flat_map f.spell w.items ++ f.spell x =
      flat_map-append f.spell w.items (x ∷ []) ∙ ap
      (λ (b : List ℕ). flat_map f.spell w.items ++ b) (append-nil (f.spell x)) in
      let at : length bytes - length rest ≡ 4 + length (flat_map f.spell w.items) =
      omega (arith, w.place) in
      record {
        items = w.items ++ x ∷ [];
        many = omega (arith, w.many, length-append w.items (x ∷ []));
        long = w.long;
        fits = tail_bytes rest (f.spell x) after w.fits one.0;
        reads = λ m count.
            let more : n + suc m ≡ num4 bytes = omega arith in
            w.reads (suc m) more ∙ ap (option_map (λ more. w.items ++ more)) (step m)
            ∙ map_one w.items x (items_at f.read m after);
        ordered = ap (is_strict_after None) keys ∙ test_push None es (f.key x) w.ordered
            (subst (λ (o : Option Entry). may_follow o (f.key x) ≡ true) w.last_is follows);
        last_is = sym (ap (last_of None) keys ∙ last_push None es (f.key x));
        places = ap (λ (s : List ℕ). s ++ (length bytes - length rest) ∷ []) w.places
            ∙ ap (λ (k : ℕ). starts_of f.spell 4 w.items ++ k ∷ []) at
            ∙ sym (starts_push f.spell 4 w.items x);
        place = omega (
          arith,
          w.place,
          ap length one.0,
          length-append
              (f.spell x) after,
          ap length flat,
          length-append (flat_map f.spell w.items)
              (f.spell x),
        );
      }

  -- a payload of which no items are read spells nothing
  nothing_in : (bytes : List ℕ) → ((xs : List X)
      → items_at f.read (num4 bytes) (drop 4 bytes) ≡ Some xs → in_order f xs ≡ false)
      → items_in f bytes ≡ None
  nothing_in bytes h = under (nat_lt (length bytes) 4)
      (items_at f.read (num4 bytes) (drop 4 bytes)) h
    where
      tested : (xs : List X) → in_order f xs ≡ false
          → (if in_order f xs then Some xs else None) ≡ None
      tested xs wrong = rw wrong refl

      under : (b : Bool) (o : Option (List X)) → ((xs : List X) → o ≡ Some xs
          → in_order f xs ≡ false) → (if b then None
          else option_and_then (λ xs. if in_order f xs then Some xs else None) o) ≡ None
      under true o h = refl
      under false None h = refl
      under false (Some xs) h = tested xs (h xs refl)

  -- an item is not there
  pub walk_missing : (bytes rest starts : List ℕ) (last : Option Entry) (n : ℕ)
      → Walk f bytes rest starts last n → n < num4 bytes → f.read rest ≡ None
      → items_in f bytes ≡ None
  walk_missing bytes rest starts last n w lt none =
      let m = num4 bytes - n - 1 in
      let nothing : items_at f.read (suc m) rest ≡ None = rw none refl in
      let whole : items_at f.read (num4 bytes) (drop 4 bytes) ≡ None = w.reads (suc m) (omega arith)
      ∙ ap (option_map (λ more. w.items ++ more)) nothing in
      nothing_in bytes (λ xs some. absurd (none_in_some _ whole xs some))

  -- an item is out of order
  pub walk_unordered : (bytes rest starts : List ℕ) (last : Option Entry) (n : ℕ) (x : X)
      (after : List ℕ) → Walk f bytes rest starts last n → n < num4 bytes
      → f.read rest ≡ Some (x, after) → may_follow last (f.key x) ≡ false → items_in f bytes ≡ None
  walk_unordered bytes rest starts last n x after w lt read early =
      let m = num4 bytes - n - 1 in
      let es = map f.key w.items in
      let step : items_at f.read (suc m) rest ≡ option_map (λ more. x ∷ more)
      (items_at f.read m after) = rw read refl in
      let whole : items_at f.read (num4 bytes) (drop 4 bytes)
      ≡ option_map (λ more. (w.items ++ x ∷ []) ++ more) (items_at f.read m after) =
      w.reads (suc m) (omega arith) ∙ ap (option_map (λ more. w.items ++ more)) step
      ∙ map_one w.items x (items_at f.read m after) in
      nothing_in bytes (λ xs some.
      option_map_some (λ (more : List X). (w.items ++ x ∷ []) ++ more) (items_at f.read m after) xs
      (sym whole ∙ some)
      (λ more there is.
      let keys : map f.key ((w.items ++ x ∷ []) ++ more) ≡ es ++ f.key x ∷ map f.key more =
      ap (map f.key) (append_assoc w.items (x ∷ []) more)
      ∙ map-append f.key w.items (x ∷ more) in
      ap (in_order f) (sym is) ∙ ap (is_strict_after None) keys
      ∙ test_fails None es (f.key x) (map f.key more)
      (subst (λ (o : Option Entry). may_follow o (f.key x) ≡ false) w.last_is early)))

  -- where the whole is known to be in order, so is each item
  pub walk_tested : (bytes rest starts : List ℕ) (last : Option Entry) (n : ℕ) (x : X)
      (after : List ℕ) → Walk f bytes rest starts last n → n < num4 bytes
      → f.read rest ≡ Some (x, after) → is_some (items_in f bytes) ≡ true
      → may_follow last (f.key x) ≡ true
  walk_tested bytes rest starts last n x after w lt read some =
      in_order_if (may_follow last (f.key x)) (items_in f bytes)
      (λ early. walk_unordered bytes rest starts last n x after w lt read early) some

  none_after_last : (rest : List ℕ) → 0 < length rest → items_at f.read 0 rest ≡ None
  none_after_last [] lt = absurd (omega arith)
  none_after_last (b ∷ rest) lt = refl

  -- bytes stand after the last item
  pub walk_over : (bytes rest starts : List ℕ) (last : Option Entry) (n : ℕ)
      → Walk f bytes rest starts last n → n ≡ num4 bytes → 0 < length rest → items_in f bytes ≡ None
  walk_over bytes rest starts last n w all more =
      let whole : items_at f.read (num4 bytes) (drop 4 bytes) ≡ None = w.reads 0 (omega arith)
      ∙ ap (option_map (λ more. w.items ++ more)) (none_after_last rest more) in
      nothing_in bytes (λ xs some. absurd (none_in_some _ whole xs some))

  -- the walk has used the bytes up: its items are the list
  pub walk_all : (bytes rest starts : List ℕ) (last : Option Entry) (n : ℕ)
      (w : Walk f bytes rest starts last n) → n ≡ num4 bytes → length rest ≡ 0
      → items_in f bytes ≡ Some w.items
  walk_all bytes rest starts last n w all none =
      let empty : rest ≡ [] = nil_from_length rest none in
      let whole : items_at f.read (num4 bytes) (drop 4 bytes) ≡ Some w.items =
      w.reads 0 (omega arith) ∙ ap (λ (b : List ℕ). option_map (λ more. w.items ++ more)
      (items_at f.read 0 b)) empty ∙ ap (λ xs. Some xs) (append-nil w.items) in
      let long : ltb (length bytes) 4 ≡ false = le-ltb _ _ w.long in
      rw (long, whole, w.ordered) refl

  pub walk_ends : (bytes rest starts : List ℕ) (last : Option Entry) (n : ℕ) → length bytes < 2 ^ 32
      → Walk f bytes rest starts last n → n ≡ num4 bytes → length rest ≡ 0
      → SpellsAt X f.spell (items_in f bytes) bytes starts
  walk_ends bytes rest starts last n short w all none = record {
    items = w.items;
    are = walk_all bytes rest starts last n w all none;
    places = w.places;
    short = short;
  }

-- ---- what stands at a start

-- the item is read from the place on
pub record Here {X : Type 0} (f : Format X) (bytes : List ℕ) (at : ℕ) (x : X) : Type 0 where
  pub rest : List ℕ
  pub found : f.read (drop at bytes) ≡ Some (x, rest)
  pub within : at + length (f.spell x) ≤ length bytes

-- the list is as long as its starts
pub many : {X : Type 0} (f : Format X) (bytes starts : List ℕ) → ItemsAt f bytes starts
    → length (items_of f bytes) ≡ length starts
many {X} f bytes starts block = ap (λ (o : Option (List X)). length (unwrap_or o [])) block.are
    ∙ sym (ap length block.places ∙ length-starts f.spell 4 block.items)

-- of the list that is spelled the item of a place, which is read from a start
pub record Holds {X : Type 0} (f : Format X) (bytes : List ℕ) (i at : ℕ) : Type 0 where
  pub item : X
  pub there : slice_get (items_of f bytes) i ≡ Some item
  pub here : Here f bytes at item

some_at : {X : Type 0} (xs : List X) (i : ℕ) → i < length xs → (x : X) × (slice_get xs i ≡ Some x)
some_at [] i lt = absurd (omega (arith, lt))
some_at (x ∷ xs) i lt = (get_or (x ∷ xs) i x, slice_get-get_or (x ∷ xs) i x lt)

module _ {X : Type 0} (f : Format X) (advances : Advances f) where
  no_items : (bytes : List ℕ) (x : X) (xs : List X) → items_at f.read 0 bytes ≡ Some (x ∷ xs) → ⊥
  no_items [] x xs h = cc
  no_items (b ∷ bytes) x xs h = cc

  start_holds : (n : ℕ) (bytes : List ℕ) (at : ℕ) (xs : List X) (i d : ℕ) (b : X)
      → at ≤ length bytes → items_at f.read n (drop at bytes) ≡ Some xs → i < length xs
      → Here f bytes (get_or (starts_of f.spell at xs) i d) (get_or xs i b)
  unfolding starts_of
  start_holds n bytes at [] i d b le h lt = absurd (omega (arith, lt))
  start_holds zero bytes at (x ∷ xs) i d b le h lt = absurd (no_items (drop at bytes) x xs h)
  start_holds (suc n) bytes at (x ∷ xs) zero d b le h lt =
      option_and_then_some (λ (y : X × List ℕ). option_map (λ ys. y.0 ∷ ys) (items_at f.read n y.1))
      (f.read (drop at bytes)) (x ∷ xs) h
      (λ y read more.
      option_map_some (λ (ys : List X). y.0 ∷ ys) (items_at f.read n y.1) (x ∷ xs) more
      (λ ys others whole.
      let is : y.0 ≡ x = cc in
      let far = (advances (drop at bytes) y.0 y.1 read).1 in
      subst (Here f bytes at) is (record {
        rest = y.1;
        found = read;
        within =
            omega (arith, far, length-drop at bytes);
      })))
  start_holds (suc n) bytes at (x ∷ xs) (suc i) d b le h lt =
      option_and_then_some (λ (y : X × List ℕ). option_map (λ ys. y.0 ∷ ys) (items_at f.read n y.1))
      (f.read (drop at bytes)) (x ∷ xs) h
      (λ y read more.
      option_map_some (λ (ys : List X). y.0 ∷ ys) (items_at f.read n y.1) (x ∷ xs) more
      (λ ys others whole.
      let is : y.0 ≡ x = cc in
      let are : ys ≡ xs = cc in
      let step = advances (drop at bytes) y.0 y.1 read in
      let next = at + length (f.spell x) in
      let left : y.1 ≡ drop next bytes = step.0 ∙ ap
      (λ (z : X). drop (length (f.spell z)) (drop at bytes)) is
      ∙ drop-drop (length (f.spell x)) at bytes in
      let long : next ≤ length bytes = omega (
        arith,
        step.1,
        ap
            (λ (z : X). length (f.spell z)) is,
        length-drop at bytes,
      ) in
      let reads : items_at f.read n (drop next bytes) ≡ Some xs = ap (items_at f.read n) (sym left)
      ∙ others ∙ ap (λ zs. Some zs) are in
      start_holds n bytes next xs i d b long reads (omega (arith, lt))))

  -- what a payload spells is read from its fourth byte on
  pub items_read : (bytes : List ℕ) (xs : List X) → items_in f bytes ≡ Some xs
      → (4 ≤ length bytes) × (items_at f.read (num4 bytes) (drop 4 bytes) ≡ Some xs)
      × (in_order f xs ≡ true)
  items_read bytes xs h =
      let body : Option (List X) = option_and_then
      (λ (ys : List X). if in_order f ys then Some ys else None)
      (items_at f.read (num4 bytes) (drop 4 bytes)) in
      let g = guard_some (ltb (length bytes) 4) body xs h in
      option_and_then_some (λ (ys : List X). if in_order f ys then Some ys else None)
      (items_at f.read (num4 bytes) (drop 4 bytes)) xs g.1
      (λ ys read tested.
      let t = cond_some (in_order f ys) ys xs tested in
      (ltb-false _ _ g.0, read ∙ ap (λ zs. Some zs) t.1, ap (in_order f) (sym t.1) ∙ t.0))

  -- items of so many bytes each fill as much
  items_fill : (least : ℕ) → ((x : X) → least ≤ length (f.spell x))
      → (n : ℕ) (bytes : List ℕ) (xs : List X) → items_at f.read n bytes ≡ Some xs
      → least * n ≤ length bytes
  items_fill least long zero bytes xs h = omega arith
  items_fill least long (suc n) bytes xs h =
      option_and_then_some (λ (y : X × List ℕ). option_map (λ ys. y.0 ∷ ys) (items_at f.read n y.1))
      (f.read bytes) xs h
      (λ y read more.
      option_map_some (λ (ys : List X). y.0 ∷ ys) (items_at f.read n y.1) xs more
      (λ ys others whole.
      let rest = items_fill least long n y.1 ys others in
      let step = advances bytes y.0 y.1 read in
      let left : length y.1 ≡ length bytes - length (f.spell y.0) = ap length step.0
      ∙ length-drop (length (f.spell y.0)) bytes in
      let one : least * suc n ≡ least * n + least = mul-suc least n in
      omega (arith, one, rest, step.1, left, long y.0)))

  -- what a payload spells fills what is behind its count
  pub items_room : (least : ℕ) → ((x : X) → least ≤ length (f.spell x))
      → (bytes : List ℕ) (xs : List X) → items_in f bytes ≡ Some xs
      → 4 + least * num4 bytes ≤ length bytes
  items_room least long bytes xs h =
      let t = items_read bytes xs h in
      omega (
        arith,
        t.0,
        length-drop 4 bytes,
        items_fill least long (num4 bytes)
            (drop 4 bytes) xs t.1,
      )

  -- at the start of a place stands the item of the place
  pub item_holds : (bytes starts : List ℕ) (xs : List X) (i at : ℕ) (b : X)
      → items_in f bytes ≡ Some xs → starts ≡ starts_of f.spell 4 xs → i < length xs
      → at ≡ get_or starts i at → Here f bytes at (get_or xs i b)
  item_holds bytes starts xs i at b are places lt is_at =
      let t = items_read bytes xs are in
      let h = start_holds (num4 bytes) bytes 4 xs i at b t.0 t.1 lt in
      subst (λ (n : ℕ). Here f bytes n (get_or xs i b))
      (sym (is_at ∙ ap (λ (s : List ℕ). get_or s i at) places)) h

  -- at each start stands the item of its place
  pub holds : (bytes starts : List ℕ) (i at : ℕ) → ItemsAt f bytes starts → i < length starts
      → slice_get starts i ≡ Some at → Holds f bytes i at
  holds bytes starts i at block lt is_at =
      let many : i < length block.items = omega (
        arith,
        lt,
        ap length block.places,
        length-starts
            f.spell 4 block.items,
      ) in
      let x = some_at block.items i many in
      record {
        item = x.0;
        there = ap (λ (o : Option (List X)). slice_get (unwrap_or o []) i) block.are ∙ x.1;
        here = subst (Here f bytes at) (get_or_from_slice_get block.items i x.0 x.0 x.1)
            (item_holds bytes starts block.items i at x.0 block.are block.places many
            (sym (get_or_from_slice_get starts i at at is_at)));
      }

  -- what a payload spells is strict
  pub items_strict : (bytes : List ℕ) (xs : List X) → items_in f bytes ≡ Some xs
      → IsStrictAfter None (map f.key xs)
  items_strict bytes xs are = strict_from_test None (map f.key xs) (items_read bytes xs are).2
