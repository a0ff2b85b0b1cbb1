-- A batch of point reads: what is kept, where one more is known, and what a read comes to whose
-- handle was found before.
use Rattle.std.proofs.Common.{◌≡◌, ℕ, ◌+◌, ◌-◌, ◌<◌, Bool, true, false, List, [], ◌∷◌, length}
use Rattle.std.proofs.Common.{get_or, map, set, take, refl, sym, ap, subst, ◌∙◌, arith, inl, inr}
use Rattle.std.proofs.Math.ListN.{length-set}
use Rattle.std.proofs.lemmas.Bool.{cases_eq}
use Rattle.std.proofs.lemmas.List.{get_or_default, get_or-set_other, get_or-set_same, map-append}
use Rattle.std.proofs.lemmas.List.{map_more, take_more_set}
use Rattle.std.proofs.lemmas.List.Elements.{All-set}
use Rattle.std.specs.Option.{option_map}
use Rattle.std.specs.Prelude.{IfSome, Option, Some, None, Result, Ok, Err}
use Rattle.sst_entries.specs.Entry.{Entry}
use Rattle.sst_entries.specs.declared.error.Error.{Error}
use Rattle.sst_entries.specs.Error.{FaultsFirst, Gives}
use Rattle.sst_blocks.specs.declared.block_type.BlockType.{BlockType}
use Rattle.sst_blocks.specs.Block.{Loaded, load_result, place_fault}
use Rattle.sst_blocks.specs.Place.{Place}
use Rattle.sst_blocks.proofs.LoadLemmas.{load_kind}
use Rattle.lsm_readers.specs.point.Answer.{admitted_handle, answer, match_in}
use Rattle.lsm_readers.specs.point.Batch.{AreFound, entries_by}
use Rattle.lsm_readers.specs.point.Keeping.{IsLoaded}
use Rattle.lsm_readers.specs.point.Many.{answers_to}
use Rattle.lsm_readers.specs.point.Parts.{Parts}
use Rattle.lsm_readers.specs.point.Read.{◌>>=◌}
use Rattle.lsm_readers.proofs.ManyReads.{one_more}
use Rattle.lsm_readers.proofs.ReadLaws.{result}

-- ---- a block that was loaded

no_fault : (b : Loaded) (returned : Option Error) → FaultsFirst (result b) returned → returned ≡ None
no_fault b None first = refl
no_fault b (Some e) first = absurd (let wrong : Some e ≡ None = first e refl in cc)

pub is_loaded : (body : List ℕ) (place : Place) (kind : BlockType) (b : Loaded)
    → load_result body place.offset place.size kind ≡ Ok b
    → FaultsFirst (result b) (place_fault body place.offset place.size kind)
    → IsLoaded body place kind b
is_loaded body place kind b returned first = record
    { returned = returned; early = no_fault b (place_fault body place.offset place.size kind) first }

-- it says its kind itself
pub kept_as : (body : List ℕ) (place : Place) (kind : BlockType) (b : Loaded)
    → IsLoaded body place kind b → IsLoaded body place b.kind b
kept_as body place kind b is =
    subst (λ (k : BlockType). IsLoaded body place k b)
    (sym (load_kind body place.offset place.size kind b is.returned)) is

-- ---- what is known

abbrev answered : {Y : Type 0} → Y → Result Y Error
answered y = Ok y

same_element : {X : Type 0} (xs : List X) (i k : ℕ) (x y : X) → i < length xs → k ≡ i
    → x ≡ get_or xs i x → y ≡ get_or xs k y → y ≡ x
same_element xs i k x y less same x_is y_is =
    let there : y ≡ get_or xs i y = subst (λ (n : ℕ). y ≡ get_or xs n y) same y_is in
    there ∙ get_or_default xs i y x less ∙ sym x_is

module _ {X Y : Type 0} (entry : Y → Entry) (is_within : Y → Type 0)
    (f : X → Result (Option Entry) Error) (queries : List X) (found : List (Option Y))
    (done : List Bool) (are : AreFound entry is_within f queries found done)
    (i : ℕ) (x : X) (less : i < length queries) (at : x ≡ get_or queries i x) where
  abbrev seen : Option Y → Option Entry
  seen = option_map entry

  inside : i < length found
  inside = omega (arith, less, are.found_len)

  -- the answers so far, with one that was known
  pub one_known : get_or done i false ≡ true
      → answers_to f (take i queries) ≡ Ok (entries_by entry (take i found))
      → answers_to f (take (i + 1) queries) ≡ Ok (entries_by entry (take (i + 1) found))
  one_known marked before =
      one_more f queries i x (entries_by entry (take i found)) (seen (get_or found i None)) less
      at before (are.returned i x marked at)
      ∙ ap answered (sym (map_more seen found i None inside))

  module _ (p : Option Y) (is : f x ≡ Ok (seen p)) where
    -- and with one that was read now
    pub one_read : answers_to f (take i queries) ≡ Ok (entries_by entry (take i found))
        → answers_to f (take (i + 1) queries)
        ≡ Ok (entries_by entry (take (i + 1) (set found i p)))
    one_read before =
        one_more f queries i x (entries_by entry (take i found)) (seen p) less at before is
        ∙ ap answered (sym (ap (map seen) (take_more_set found i p inside)
        ∙ map-append seen (take i found) (p ∷ [])))

    -- what was found for one is put in its place, where no other becomes known
    put_at : IfSome p is_within → (flags : List Bool) → length flags ≡ length queries
        → ((k : ℕ) → (k ≡ i → ⊥) → get_or flags k false ≡ true → get_or done k false ≡ true)
        → AreFound entry is_within f queries (set found i p) flags
    put_at there flags len others = record {
      found_len = length-set found i p ∙ are.found_len;
      done_len = len;
      returned = λ k q marked here. elim (cases_eq k i) [
        | inl same ↦
            let put : get_or (set found i p) k None ≡ p =
            ap (λ (n : ℕ). get_or (set found i p) n None) same
            ∙ get_or-set_same found i p None inside in
            ap f (same_element queries i k x q less same at here) ∙ is
            ∙ ap answered (ap seen (sym put))
        | inr other ↦ are.returned k q (others k other marked) here
            ∙ ap answered (ap seen (sym (get_or-set_other found i k p None other)))
      ];
      within = All-set (λ (one : Option Y). IfSome one is_within) found i p
          there are.within;
    }

    pub found_at : IfSome p is_within → AreFound entry is_within f queries (set found i p) done
    found_at there = put_at there done are.done_len (λ k other marked. marked)

    pub found_done : IfSome p is_within
        → AreFound entry is_within f queries (set found i p) (set done i true)
    found_done there = put_at there (set done i true) (length-set done i true ∙ are.done_len)
        (λ k other marked. sym (get_or-set_other done i k true false other) ∙ marked)

-- ---- what is found is the entry itself

option_same : (o : Option Entry) → option_map (λ (e : Entry). e) o ≡ o
option_same None = refl
option_same (Some e) = refl

entries_same : (found : List (Option Entry)) → entries_by (λ (e : Entry). e) found ≡ found
entries_same [] = refl
entries_same (o ∷ os) = ap (λ (x : Option Entry). x ∷ entries_by (λ (e : Entry). e) os) (option_same o)
    ∙ ap (λ (xs : List (Option Entry)). o ∷ xs) (entries_same os)

pub gives_same : {V : Type 0} (items : V → List (Option Entry)) (r : Result V Error)
    (returned : Result (List (Option Entry)) Error)
    → Gives (λ (v : V). entries_by (λ (e : Entry). e) (items v)) r returned → Gives items r returned
gives_same items (Ok v) returned is = is ∙ ap answered (entries_same (items v))
gives_same items (Err e) returned is = is

-- ---- a read whose handle was found before

pub lookup_result : (body : List ℕ) (g : ℕ) (parts : Parts) (key : List ℕ) (bound low : ℕ)
    (handle : Option Place) → low ≡ bound - g
    → (admitted_handle body parts key (bound - g)).returned ≡ Ok handle
    → (answer body g parts key bound).returned ≡ (match_in body g key low handle).returned
unfolding answer
lookup_result body g parts key bound low handle lowered is =
    ap (λ (r : Result (Option Place) Error). r >>= λ x. (match_in body g key (bound - g) x).returned) is
    ∙ ap (λ (n : ℕ). (match_in body g key n handle).returned) (sym lowered)

-- and where none was found
pub lookup_fails : (body : List ℕ) (g : ℕ) (parts : Parts) (key : List ℕ) (bound low : ℕ) (e : Error)
    → low ≡ bound - g → (admitted_handle body parts key low).returned ≡ Err e
    → (answer body g parts key bound).returned ≡ Err e
unfolding answer
lookup_fails body g parts key bound low e lowered is =
    ap (λ (r : Result (Option Place) Error). r >>= λ x. (match_in body g key (bound - g) x).returned)
    (ap (λ (n : ℕ). (admitted_handle body parts key n).returned) (sym lowered) ∙ is)
