-- Opened tables that store lists, each of which has entries: the run of them.
use Rattle.std.proofs.Common.{◌≡◌, refl, sym, ◌∙◌, ap, subst, ℕ, true, List, [], ◌∷◌, ◌++◌}
use Rattle.std.proofs.Common.{length, suc, arith}
use Rattle.std.specs.Prelude.{None, Option, map, unwrap_or}
use Rattle.std.specs.List.{AllByRecursion, AllZip, list_all}
use Rattle.std.specs.Option.{option_map}
use Rattle.std.proofs.lemmas.List.{map-append, nil_from_length}
use Rattle.sst_entries.specs.Entry.{Entry}
use Rattle.sst_entries.specs.Key.{key_lt}
use Rattle.sst_entries.specs.Strict.{IsStrict}
use Rattle.sst_entries.proofs.Booleans.{and_both, and_parts}
use Rattle.sst_entries.proofs.OrderLemmas.{lt_trans}
use Rattle.sst_blocks.specs.table.Chunks.{joined}
use Rattle.sst_blocks.specs.table.Index.{last_entry}
use Rattle.sst_blocks.specs.table.Table.{IsTable}
use Rattle.lsm_sorted.specs.version.KeyRange.{Interval, is_well_formed, key_le}
use Rattle.lsm_sorted.specs.version.Run.{are_in_order}
use Rattle.lsm_sorted.proofs.IntervalLemmas.{lt_then_le}
use Rattle.lsm_sorted.proofs.RunLemmas.{in_order_from}
use Rattle.lsm_writers.specs.Tables.{AreInKeyOrder, EndsBelow}
use Rattle.lsm_writers.proofs.Cutting.{last_is_some}
use Rattle.lsm_readers.specs.point.Answer.{lift, lifted}
use Rattle.lsm_readers.specs.OfList.{ends_of}
use Rattle.lsm_readers.specs.Stored.{StoresList}
use Rattle.lsm_readers.specs.point.Table.{IsOpen, OpenTable}
use Rattle.lsm_readers.proofs.Ends.{keys_within}
use Rattle.lsm_readers.proofs.FileStored.{open_stores}
use Rattle.lsm_readers.proofs.Recovered.{range_is}
use Rattle.lsm_readers.proofs.StoredParts.{bears_out}
use Rattle.lsm_runs.specs.compaction.Chain.{IsRunOfList}
use Rattle.lsm_runs.specs.RunLists.{HoldLists}
use Rattle.lsm_run_parts.specs.RunParts.{range_of, ranges_of}

-- an opened table of a list that has entries, with a global number
pub record IsHeld (g : ℕ) (es : List Entry) (t : OpenTable) : Type 0 where
  pub some : es ≡ [] → ⊥
  pub opened : IsOpen t
  pub stores : StoresList t.bytes es
  pub range : range_of t ≡ ends_of es
  pub number_is : t.global_seqno ≡ g

-- tables of some lists
abbrev pub AreHeld : ℕ → List (List Entry) → List OpenTable → Type 0
AreHeld g lists ts = AllZip (IsHeld g) lists ts

-- what was written of a list stores it once it is open
pub held_table : (g : ℕ) (es : List Entry) (t : OpenTable) → (es ≡ [] → ⊥) → IsOpen t
    → IsTable t.bytes es → t.global_seqno ≡ g → IsHeld g es t
held_table g es t some opened table number =
    let stores = (open_stores t opened es table).0 in
    let pins = opened.recovered in
    record {
      some = some;
      opened = opened;
      stores = stores;
      range = range_is t pins ∙ (bears_out t.bytes es stores t.global_seqno pins.pin_filter
          pins.pin_index t.parts pins.returned).key_range;
      number_is = number;
    }

many_held : (g : ℕ) (lists : List (List Entry)) (ts : List OpenTable) → AreHeld g lists ts
    → length lists ≡ length ts
many_held g [] [] h = refl
many_held g [] (t ∷ ts) h = absurd h
many_held g (es ∷ ls) [] h = absurd h
many_held g (es ∷ ls) (t ∷ ts) h = ap suc (many_held g ls ts h.1)

abbrev lifted_lists : List (List Entry) → ℕ → List (List Entry)
lifted_lists ls g = map (λ (es : List Entry). lift es g) ls

lift_joined : (ls : List (List Entry)) (g : ℕ) → joined (lifted_lists ls g) ≡ lift (joined ls) g
lift_joined [] g = refl
lift_joined (es ∷ ls) g = ap (λ (xs : List Entry). lift es g ++ xs) (lift_joined ls g)
    ∙ sym (map-append (lifted g) es (joined ls))

hold_lists : (g : ℕ) (lists : List (List Entry)) (ts : List OpenTable) → AreHeld g lists ts
    → HoldLists ts (lifted_lists lists g)
hold_lists g [] [] h = tt
hold_lists g [] (t ∷ ts) h = absurd h
hold_lists g (es ∷ ls) [] h = absurd h
hold_lists g (es ∷ ls) (t ∷ ts) h = (
  record {
    stored = es;
    opened = h.0.opened;
    table = h.0.stores;
    lifted_is = ap (lift es) (sym h.0.number_is);
  },
  hold_lists g ls ts h.1,
)

ranges_are : (g : ℕ) (lists : List (List Entry)) (ts : List OpenTable) → AreHeld g lists ts
    → ranges_of ts ≡ map ends_of lists
ranges_are g [] [] h = refl
ranges_are g [] (t ∷ ts) h = absurd h
ranges_are g (es ∷ ls) [] h = absurd h
ranges_are g (es ∷ ls) (t ∷ ts) h =
    ap (λ (r : Interval). r ∷ ranges_of ts) h.0.range
    ∙ ap (λ (rs : List Interval). ends_of es ∷ rs) (ranges_are g ls ts h.1)

-- a list with entries, which are strict
abbrev IsKept : List Entry → Type 0
IsKept es = (es ≡ [] → ⊥) × IsStrict es

all_kept : (g : ℕ) (lists : List (List Entry)) (ts : List OpenTable) → AreHeld g lists ts
    → AllByRecursion IsKept lists
all_kept g [] [] h = tt
all_kept g [] (t ∷ ts) h = absurd h
all_kept g (es ∷ ls) [] h = absurd h
all_kept g (es ∷ ls) (t ∷ ts) h = ((h.0.some, h.0.stores.strict), all_kept g ls ts h.1)

last_max : (e : Entry) (es : List Entry) → (ends_of (e ∷ es)).max ≡ (last_entry (e ∷ es)).user_key
last_max e es = ap (λ (o : Option Entry). unwrap_or (option_map (λ (x : Entry). x.user_key) o) [])
    (last_is_some None (e ∷ es) (omega arith))

formed : (e : Entry) (es : List Entry) → IsStrict (e ∷ es)
    → is_well_formed (ends_of (e ∷ es)) ≡ true
formed e es strict =
    let r = ends_of (e ∷ es) in
    (and_parts (key_le r.min e.user_key) (key_le e.user_key r.max)
    (keys_within (e ∷ es) strict).0).1

-- what is below the first key of the next list is below all later ones
all_later : (key : List ℕ) (ls : List (List Entry)) → AllByRecursion IsKept ls → AreInKeyOrder ls
    → ((e : Entry) (es : List Entry) (rest : List (List Entry)) → ls ≡ (e ∷ es) ∷ rest
    → key_lt key e.user_key ≡ true) → list_all (λ (later : Interval). key_lt key later.min)
    (map ends_of ls) ≡ true
all_later key [] kept order low = refl
all_later key ([] ∷ ls) kept order low = absurd (kept.0.0 refl)
all_later key ((e ∷ es) ∷ ls) kept order low =
    let here : key_lt key e.user_key ≡ true = low e es ls refl in
    let last = (last_entry (e ∷ es)).user_key in
    let up : key_le e.user_key last ≡ true = subst (λ (k : List ℕ). key_le e.user_key k ≡ true)
    (last_max e es) (formed e es kept.0.1) in
    let to : key_lt key last ≡ true = lt_then_le key e.user_key last here up in
    and_both _ _ here (all_later key ls kept.1 order.1
    (λ x xs rest is. lt_trans key last x.user_key to
    (subst (λ (us : List (List Entry)). EndsBelow (e ∷ es) us) is order.0)))

lists_in_order : (ls : List (List Entry)) → AllByRecursion IsKept ls → AreInKeyOrder ls
    → are_in_order (map ends_of ls) ≡ true
lists_in_order [] kept order = refl
lists_in_order ([] ∷ ls) kept order = absurd (kept.0.0 refl)
lists_in_order ((e ∷ es) ∷ ls) kept order =
    let r = ends_of (e ∷ es) in
    let before : list_all (λ (later : Interval). key_lt r.max later.min) (map ends_of ls) ≡ true =
    all_later r.max ls kept.1 order.1 (λ x xs rest is. subst
    (λ (k : List ℕ). key_lt k x.user_key ≡ true) (sym (last_max e es))
    (subst (λ (us : List (List Entry)). EndsBelow (e ∷ es) us) is order.0)) in
    in_order_from r (map ends_of ls) (record {
      formed = formed e es kept.0.1;
      before =
          before;
      rest = lists_in_order ls kept.1 order.1;
    })

-- ---- the run

module _ (es : List Entry) (g : ℕ) (lists : List (List Entry)) (ts : List OpenTable)
    (whole : joined lists ≡ es) (h : AreHeld g lists ts) where
  pub run_held : AreInKeyOrder lists → (ts ≡ [] → ⊥) → IsRunOfList es g ts
  run_held order some = record {
    lists = lifted_lists lists g;
    whole = lift_joined lists g ∙ ap (λ (xs : List Entry). lift xs g) whole;
    hold = hold_lists g lists ts h;
    order = ap are_in_order (ranges_are g lists ts h)
        ∙ lists_in_order lists (all_kept g lists ts h) order;
    some = some;
  }

  pub none_held : ts ≡ [] → es ≡ []
  none_held none =
      let no : lists ≡ [] = nil_from_length lists (many_held g lists ts h ∙ ap length none) in
      sym whole ∙ ap joined no
