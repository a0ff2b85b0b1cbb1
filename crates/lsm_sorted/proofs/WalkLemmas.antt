-- The walk down packed runs, from the last one, that gives a chain.
use Rattle.std.proofs.Common.{◌≡◌, refl, sym, ◌∙◌, ap, subst, ℕ, ◌<◌, ◌≤◌, ◌+◌, ◌-◌, true, List, []}
use Rattle.std.proofs.Common.{◌∷◌, ◌++◌, length, length-append, get_or, zero, suc, arith, Some}
use Rattle.std.proofs.Common.{None, Option}
use Rattle.std.specs.Prelude.{◌≢◌, map, reverse, Contains, slice_get, MatchOption}
use Rattle.std.proofs.lemmas.List.{reverse-append}
use Rattle.std.proofs.lemmas.Option.{slice_get_read}
use Rattle.lsm_sorted.specs.version.KeyRange.{Interval, overlaps}
use Rattle.lsm_sorted.specs.version.Run.{are_in_order}
use Rattle.lsm_sorted.specs.version.Packing.{tables_in, table_at, touches, AreInOrder, AreNotEmpty}
use Rattle.lsm_sorted.specs.version.Packing.{IsChain}
use Rattle.lsm_sorted.specs.version.Links.{IsElement, KeepRunOrder, EachCarriesNext, CarriesNext}
use Rattle.lsm_sorted.specs.version.Links.{IsStack}
use Rattle.lsm_sorted.specs.version.LinkedRuns.{AreAtPlaces, IsBelow}
use Rattle.lsm_sorted.specs.declared.version.optimize.Link.{Link}
use Rattle.lsm_sorted.proofs.PackLemmas.{mem-append_left, mem-append_right, any_from, all_of}
use Rattle.lsm_sorted.proofs.LinkLemmas.{contains_mem}

module _ {X : Type 0} where
  mem_at : (ls : List (List X)) (n : ℕ) (l : List X) (x : X) → slice_get ls n ≡ Some l
      → IsElement x l → IsElement x (tables_in ls)
  mem_at [] n l x h m = absurd cc
  mem_at (k ∷ ks) zero l x h m = let e : l ≡ k = cc in
      mem-append_left k (tables_in ks) x (subst (λ (v : List X). IsElement x v) e m)
  mem_at (k ∷ ks) (suc n) l x h m = mem-append_right k (tables_in ks) x (mem_at ks n l x h m)

  some_at : (ls : List (List X)) (n : ℕ) (l : List X) → slice_get ls n ≡ Some l → AreNotEmpty ls
      → l ≢ []
  some_at [] n l h some = absurd cc
  some_at (k ∷ ks) zero l h some = let e : k ≡ l = cc in subst (λ (v : List X). v ≢ []) e some.0
  some_at (k ∷ ks) (suc n) l h some = some_at ks n l h some.1

module _ {X : Type 0} (f : X → Interval) (at : X → ℕ) where
  order_of : (ls : List (List X)) (n : ℕ) (l : List X) → slice_get ls n ≡ Some l → AreInOrder f ls
      → are_in_order (map f l) ≡ true
  order_of [] n l h o = absurd cc
  order_of (k ∷ ks) zero l h o = let e : k ≡ l = cc in
      subst (λ (v : List X). are_in_order (map f v) ≡ true) e o.0
  order_of (k ∷ ks) (suc n) l h o = order_of ks n l h o.1

  apart_at : (ls : List (List X)) (n : ℕ) (l m : List X) → slice_get ls n ≡ Some l
      → slice_get ls (suc n) ≡ Some m → KeepRunOrder f at ls → (x y : X) → IsElement x l
      → IsElement y m → overlaps (f x) (f y) ≡ true → at x < at y
  apart_at [] n l m a b h x y p q o = absurd cc
  apart_at (k ∷ ks) zero l m a b h x y p q o = let e : l ≡ k = cc in
      h.0 x y (subst (λ (v : List X). IsElement x v) e p) (mem_at ks 0 m y b q) o
  apart_at (k ∷ ks) (suc n) l m a b h x y p q o = apart_at ks n l m a b h.1 x y p q o

  steps_here : (l : List X) (ls : List (List X)) (m : List X) → slice_get ls 0 ≡ Some m
      → CarriesNext f at l ls → (y : X) → IsElement y m → touches f (f y) l ≡ true
  steps_here l [] m b h y q = absurd cc
  steps_here l (k ∷ ks) m b h y q =
      let e : m ≡ k = cc in
      let s = h y (subst (λ (v : List X). IsElement y v) e q) in
      any_from (λ t. overlaps (f t) (f y)) l s.0 s.1 s.2

  steps_at : (ls : List (List X)) (n : ℕ) (l m : List X) → slice_get ls n ≡ Some l
      → slice_get ls (suc n) ≡ Some m → EachCarriesNext f at ls → (y : X) → IsElement y m
      → touches f (f y) l ≡ true
  steps_at [] n l m a b h y q = absurd cc
  steps_at (k ∷ ks) zero l m a b h y q = let e : k ≡ l = cc in
      subst (λ (v : List X). touches f (f y) v ≡ true) e (steps_here k ks m b h.0 y q)
  steps_at (k ∷ ks) (suc n) l m a b h y q = steps_at ks n l m a b h.1 y q

module _ {T : Type 0} (range : T → Interval) where
  abbrev range_of : Link T → Interval
  range_of link = range link.table.now

  abbrev run_of : Link T → ℕ
  run_of link = link.run

  -- what holds on the walk, with `level` runs left
  pub record Walk (packed : List (List (Link T))) (above : Option (Link T)) (chain : List (ℕ × ℕ))
      (level : ℕ) : Type 0 where
    pub linked : (runs : List (List T)) → AreAtPlaces runs (tables_in packed)
        → IsChain range runs (reverse chain)
    pub top : (a : Link T) → above ≡ Some a
        → IsElement a (tables_in packed)
        × ((rest : List (ℕ × ℕ)) × (reverse chain ≡ (a.run, a.index) ∷ rest))
    pub none : above ≡ None → (chain ≡ []) × (level ≡ length packed)
    pub counted : IsStack range_of run_of packed → length chain + level ≡ length packed
    pub last_run : (a : Link T) → above ≡ Some a
        → (run : List (Link T)) × (slice_get packed level ≡ Some run) × IsElement a run

  pub walk_start : (packed : List (List (Link T))) (chain : List (ℕ × ℕ)) → chain ≡ []
      → Walk packed None chain (length packed)
  walk_start packed chain is = record {
    linked = λ runs h. subst (λ (ps : List (ℕ × ℕ)). IsChain range runs (reverse ps)) (sym is) tt;
    top = λ a e. absurd cc;
    none = λ e. (is, refl);
    counted = λ s. let z = ap length is in omega (arith, z);
    last_run = λ a e. absurd cc;
  }

  -- one more place, in front of the chain so far
  chain_more : (runs : List (List T)) (packed : List (List (Link T))) (above : Option (Link T))
      (chain : List (ℕ × ℕ)) (level : ℕ) (link : Link T) → Walk packed above chain level
      → AreAtPlaces runs (tables_in packed) → IsElement link (tables_in packed)
      → MatchOption above (Unit {0}) (λ a. IsBelow range link a)
      → IsChain range runs ((link.run, link.index) ∷ reverse chain)
  chain_more runs packed None chain level link w places m below =
      subst (λ (ps : List (ℕ × ℕ)). IsChain range runs ((link.run, link.index) ∷ reverse ps))
      (sym (w.none refl).0) (
        link.table.now,
        all_of (λ (l : Link T). table_at runs l.run l.index ≡ Some l.table.now)
            (tables_in packed) places link m,
      )
  chain_more runs packed (Some a) chain level link w places m below =
      let t = w.top a refl in
      let rest = t.1.0 in
      subst (λ (ps : List (ℕ × ℕ)). IsChain range runs ((link.run, link.index) ∷ ps)) (sym t.1.1) (
        record {
          first = link.table.now;
          second = a.table.now;
          first_at = all_of (λ (l : Link T). table_at runs l.run l.index ≡ Some l.table.now)
              (tables_in packed) places link m;
          second_at = all_of (λ (l : Link T). table_at runs l.run l.index ≡ Some l.table.now)
              (tables_in packed) places a t.0;
          later = below.0;
          overlap = below.1;
        },
        subst (λ (ps : List (ℕ × ℕ)). IsChain range runs ps) t.1.1 (w.linked runs places),
      )

  pub walk_on : (packed : List (List (Link T))) (above : Option (Link T))
      (chain next : List (ℕ × ℕ)) (level : ℕ) (run : List (Link T)) (link : Link T)
      → Walk packed above chain level → 0 < level → level ≤ length packed
      → run ≡ get_or packed (level - 1) run → Contains run link
      → MatchOption above (Unit {0}) (λ a. IsBelow range link a)
      → next ≡ chain ++ (link.run, link.index) ∷ [] → Walk packed (Some link) next (level - 1)
  walk_on packed above chain next level run link w some le at within below is =
      let here : slice_get packed (level - 1) ≡ Some run =
      slice_get_read packed (length packed) (level - 1) run refl (omega arith) at in
      let member = contains_mem run link within in
      let among = mem_at packed (level - 1) run link here member in
      let turned : reverse next ≡ (link.run, link.index) ∷ reverse chain = ap reverse is
      ∙ reverse-append chain ((link.run, link.index) ∷ []) in
      record {
        linked = λ runs places. subst (λ (ps : List (ℕ × ℕ)). IsChain range runs ps) (sym turned)
            (chain_more runs packed above chain level link w places among below);
        top = λ a e. let g : link ≡ a = cc in (
          subst (λ (v : Link T). IsElement v (tables_in packed)) g among,
          (reverse chain, turned ∙ ap (λ (v : Link T). (v.run, v.index) ∷ reverse chain) g),
        );
        none = λ e. absurd cc;
        counted = λ s. let k = w.counted s in let long = ap length is
            ∙ length-append chain ((link.run, link.index) ∷ []) in omega (arith, k, long);
        last_run = λ a e. let g : link ≡ a = cc in
            (run, here, subst (λ (v : Link T). IsElement v run) g member);
      }

  -- at a run below, there is a table to go on to
  goes_on_at : (packed : List (List (Link T))) (above : Option (Link T)) (chain : List (ℕ × ℕ))
      (level : ℕ) (run : List (Link T)) → Walk packed above chain level → 0 < level
      → level ≤ length packed → run ≡ get_or packed (level - 1) run → (above ≡ None → run ≢ [] → ⊥)
      → ((a : Link T) → above ≡ Some a → are_in_order (map range_of run) ≡ true
      → ((x : Link T) → Contains run x → overlaps (range_of x) (range_of a) ≡ true
      → x.run < a.run) → touches range_of (range_of a) run ≡ true → ⊥)
      → IsStack range_of run_of packed → ⊥
  goes_on_at packed above chain level run w some le at first next stack =
      let here : slice_get packed (level - 1) ≡ Some run =
      slice_get_read packed (length packed) (level - 1) run refl (omega arith) at in
      let place : suc (level - 1) ≡ level = omega arith in
      by above refl here place
    where
      by : (o : Option (Link T)) → above ≡ o → slice_get packed (level - 1) ≡ Some run
          → suc (level - 1) ≡ level → ⊥
      by None e here place = first e (some_at packed (level - 1) run here stack.some)
      by (Some a) e here place =
          let l = w.last_run a e in
          let there : slice_get packed (suc (level - 1)) ≡ Some l.0 =
          ap (λ n. slice_get packed n) place ∙ l.1 in
          next a e (order_of range_of run_of packed (level - 1) run here stack.order)
          (λ x c o. apart_at range_of run_of packed
          (level - 1) run l.0 here there stack.keeps_order x a (contains_mem run x c) l.2 o)
          (steps_at range_of run_of packed (level - 1) run l.0 here there stack.carries a l.2)

  -- no place yet means no step yet
  not_started : (packed : List (List (Link T))) (above : Option (Link T)) (chain : List (ℕ × ℕ))
      (level : ℕ) → Walk packed above chain level → chain ≡ [] → above ≡ None
  not_started packed None chain level w e = refl
  not_started packed (Some a) chain level w e =
      let t = w.top a refl in
      let z : [] ≡ (a.run, a.index) ∷ t.1.0 = sym (ap reverse e) ∙ t.1.1 in
      absurd cc

  pub stopped_some : (packed : List (List (Link T))) (above : Option (Link T))
      (chain : List (ℕ × ℕ)) (level : ℕ) (run : List (Link T)) → Walk packed above chain level
      → 0 < level → level ≤ length packed → run ≡ get_or packed (level - 1) run
      → (above ≡ None → run ≢ [] → ⊥) → AreNotEmpty packed → chain ≡ [] → packed ≡ []
  stopped_some packed above chain level run w some le at first filled e =
      let here : slice_get packed (level - 1) ≡ Some run =
      slice_get_read packed (length packed) (level - 1) run refl (omega arith) at in
      absurd (first (not_started packed above chain level w e)
      (some_at packed (level - 1) run here filled))

  pub stopped_whole : (packed : List (List (Link T))) (above : Option (Link T))
      (chain : List (ℕ × ℕ)) (level : ℕ) (run : List (Link T)) → Walk packed above chain level
      → 0 < level → level ≤ length packed → run ≡ get_or packed (level - 1) run
      → (above ≡ None → run ≢ [] → ⊥)
      → ((a : Link T) → above ≡ Some a → are_in_order (map range_of run) ≡ true
      → ((x : Link T) → Contains run x → overlaps (range_of x) (range_of a) ≡ true
      → x.run < a.run) → touches range_of (range_of a) run ≡ true → ⊥)
      → IsStack range_of run_of packed → length chain ≡ length packed
  stopped_whole packed above chain level run w some le at first next stack =
      absurd (goes_on_at packed above chain level run w some le at first next stack)
