-- The window of some handles, by a top level and the parts that it names.
use Rattle.std.proofs.Common.{◌≡◌, ℕ, Bool, true, false, List, [], ◌∷◌, ◌++◌, map, refl, sym, ap}
use Rattle.std.proofs.Common.{subst, ◌∙◌, arith}
use Rattle.std.specs.Prelude.{Option, Some, None, Result, Ok, Err}
use Rattle.std.specs.List.{AllByRecursion, AllZip, flat_map}
use Rattle.std.proofs.lemmas.List.{map-append}
use Rattle.sst_entries.specs.declared.error.Error.{Error}
use Rattle.sst_entries.specs.declared.value_type.ValueType.TheVariants.{Value}
use Rattle.sst_entries.specs.Entry.{Entry, entry}
use Rattle.sst_entries.specs.Stream.{ok_results}
use Rattle.sst_entries.specs.Strict.{IsStrictAfter, is_before, last_of}
use Rattle.sst_entries.proofs.Booleans.{apart, is_false}
use Rattle.sst_entries.proofs.OrderLemmas.{before_trans}
use Rattle.sst_entries.proofs.Strictness.{strict_back, strict_front}
use Rattle.sst_blocks.specs.declared.block_type.BlockType.TheVariants.{Index}
use Rattle.sst_blocks.specs.Handle.{Handle}
use Rattle.sst_blocks.specs.Handles.{AreStrictHandles, end_of, from_edge, from_first, is_above}
use Rattle.sst_blocks.specs.Handles.{reaches, to_edge, up_to_first, window}
use Rattle.sst_blocks.specs.Place.{Place, place_of}
use Rattle.sst_blocks.specs.Block.{Loaded, handles_of, load_result}
use Rattle.sst_blocks.proofs.Reaching.{above_reaches, reaches_after}
use Rattle.sst_blocks.specs.table.Parts.{joined_parts}
use Rattle.sst_blocks.specs.table.Partitions.{last_end}
use Rattle.lsm_iters.specs.block_index.Index.{between, block_between, parts_between}
use Rattle.lsm_readers.specs.point.IndexKinds.{handles_result}
use Rattle.lsm_readers.specs.point.Read.{◌>>=◌}
use Rattle.lsm_readers.specs.Stored.{NamesPart}
use Rattle.lsm_readers.proofs.Windows.{AllCut, AllReport, Rises, ReportsOf, parts_cut, to_here, to_later}

-- ---- the tests at the edges

-- a test by the end alone, which each handle behind one that passes it passes too
pub record IsEdge (p : Handle → Bool) : Type 0 where
  pub upward : (a b : Handle) → is_before (end_of a) (end_of b) ≡ true → p a ≡ true → p b ≡ true
  pub by_end : (a b : Handle) → end_of a ≡ end_of b → p a ≡ p b

reach_edge : (key : List ℕ) (bound : ℕ) → IsEdge (reaches key bound)
reach_edge key bound =
    let read = entry key [] bound Value in
    record {
      upward = λ a b lt hit. reaches_after key bound b
          ∙ before_trans read (end_of a) (end_of b) (sym (reaches_after key bound a) ∙ hit) lt;
      by_end = λ a b same. reaches_after key bound a ∙ ap (is_before read) same
          ∙ sym (reaches_after key bound b);
    }

above_edge : (key : List ℕ) → IsEdge (is_above key)
above_edge key = record {
  upward = λ a b lt hit. above_reaches key b ∙ (reach_edge key 0).upward a b lt
      (sym (above_reaches key a) ∙ hit);
  by_end = λ a b same. above_reaches key a ∙ (reach_edge key 0).by_end a b same
      ∙ sym (above_reaches key b);
}

abbrev pub from_test : Option (List ℕ × ℕ) → Handle → Bool
from_test None = λ h. true
from_test (Some edge) = reaches edge.0 edge.1

abbrev pub to_test : Option (List ℕ) → Handle → Bool
to_test None = λ h. false
to_test (Some key) = is_above key

from_is_edge : (lo : Option (List ℕ × ℕ)) → IsEdge (from_test lo)
from_is_edge None = record { upward = λ a b lt hit. refl; by_end = λ a b same. refl }
from_is_edge (Some edge) = reach_edge edge.0 edge.1

to_is_edge : (hi : Option (List ℕ)) → IsEdge (to_test hi)
to_is_edge None = record { upward = λ a b lt hit. hit; by_end = λ a b same. refl }
to_is_edge (Some key) = above_edge key

from_is : (lo : Option (List ℕ × ℕ)) (hs : List Handle)
    → from_edge lo hs ≡ from_first (from_test lo) hs
from_is None [] = refl
from_is None (h ∷ hs) = refl
from_is (Some edge) hs = refl

to_is : (hi : Option (List ℕ)) (hs : List Handle) → to_edge hi hs ≡ up_to_first (to_test hi) hs
to_is None [] = refl
to_is None (h ∷ hs) = ap (λ (xs : List Handle). h ∷ xs) (to_is None hs)
to_is (Some key) hs = refl

-- a window is cut by the two tests
pub window_is : (hs : List Handle) (lo : Option (List ℕ × ℕ)) (hi : Option (List ℕ))
    → window hs lo hi ≡ from_first (from_test lo) (up_to_first (to_test hi) hs)
window_is hs lo hi = from_is lo (to_edge hi hs) ∙ ap (from_first (from_test lo)) (to_is hi hs)

-- ---- strict handles

end_is : (x : Handle) (xs : List Handle) → entry (last_end (x ∷ xs)).user_key []
    (last_end (x ∷ xs)).seqno Value ≡ last_end (x ∷ xs)
unfolding last_of
end_is x [] = refl
end_is x (y ∷ ys) = end_is y ys

pub split : (last : Option Entry) (part : List Handle) (parts : List (List Handle))
    → IsStrictAfter last (map end_of (joined_parts (part ∷ parts)))
    → IsStrictAfter last (map end_of part ++ map end_of (joined_parts parts))
split last part parts h = subst (λ (es : List Entry). IsStrictAfter last es)
    (map-append end_of part (joined_parts parts)) h

-- a handle of a top level ends as its part does
part_end : (body : List ℕ) (top x : Handle) (xs : List Handle) → NamesPart body top (x ∷ xs)
    → end_of top ≡ last_end (x ∷ xs)
part_end body top x xs n = ap (λ (k : List ℕ). entry k [] top.seqno Value) n.end_key
    ∙ ap (λ (m : ℕ). entry (last_end (x ∷ xs)).user_key [] m Value) n.seqno
    ∙ end_is x xs

module _ (p : Handle → Bool) (edge : IsEdge p) where
  behind : (x : Handle) (xs : List Handle) → IsStrictAfter (Some (end_of x)) (map end_of xs)
      → p x ≡ true → AllByRecursion (λ y. p y ≡ true) xs
  unfolding IsStrictAfter
  behind x [] strict hit = tt
  behind x (y ∷ ys) strict hit = let here = edge.upward x y strict.0 hit in
      (here, behind y ys strict.1 here)

  rises : (last : Option Entry) (hs : List Handle) → IsStrictAfter last (map end_of hs) → Rises p hs
  unfolding IsStrictAfter
  rises last [] strict = tt
  rises last (x ∷ xs) strict = (behind x xs strict.1, rises (Some (end_of x)) xs strict.1)

  none_pass : (last : Option Entry) (top x : Handle) (xs : List Handle)
      → end_of top ≡ last_end (x ∷ xs) → IsStrictAfter last (map end_of (x ∷ xs)) → p top ≡ false
      → AllByRecursion (λ y. p y ≡ false) (x ∷ xs)
  unfolding IsStrictAfter last_of
  none_pass last top x [] ends strict early = (sym (edge.by_end top x ends) ∙ early, tt)
  none_pass last top x (y ∷ ys) ends strict early =
      let more : AllByRecursion (λ y. p y ≡ false) (y ∷ ys) =
      none_pass (Some (end_of x)) top y ys ends strict.1 early in
      (is_false (p x) (λ hit. apart (p y) (edge.upward x y strict.1.0 hit) more.0), more)

  some_pass : (top x : Handle) (xs rest : List Handle) → end_of top ≡ last_end (x ∷ xs)
      → p top ≡ true → up_to_first p ((x ∷ xs) ++ rest) ≡ up_to_first p (x ∷ xs)
  unfolding last_of
  some_pass top x [] rest ends hit =
      let here : p x ≡ true = sym (edge.by_end top x ends) ∙ hit in
      to_here p x rest here ∙ sym (to_here p x [] here)
  some_pass top x (y ∷ ys) rest ends hit =
      elim (p x) as (λ b. p x ≡ b → up_to_first p ((x ∷ y ∷ ys) ++ rest)
      ≡ up_to_first p (x ∷ y ∷ ys)) [
        | true ↦ λ t. to_here p x ((y ∷ ys) ++ rest) t ∙ sym (to_here p x (y ∷ ys) t)
        | false ↦ λ f. to_later p x ((y ∷ ys) ++ rest) f
            ∙ ap (λ (hs : List Handle). x ∷ hs) (some_pass top y ys rest ends hit)
            ∙ sym (to_later p x (y ∷ ys) f)
      ] refl

  -- a handle of the top level tells of its part
  tell : (last : Option Entry) (top x : Handle) (xs : List Handle) → end_of top ≡ last_end (x ∷ xs)
      → IsStrictAfter last (map end_of (x ∷ xs)) → ReportsOf p top (x ∷ xs)
  tell last top x xs ends strict = record {
    none = none_pass last top x xs ends strict;
    some =
        λ hit rest. some_pass top x xs rest ends hit;
  }

  states : (body : List ℕ) (last : Option Entry) (tops : List Handle) (parts : List (List Handle))
      → AllZip (NamesPart body) tops parts → IsStrictAfter last (map end_of (joined_parts parts))
      → AllReport p tops parts
  states body last [] [] named strict = tt
  states body last [] (part ∷ parts) named strict = absurd named
  states body last (top ∷ tops) [] named strict = absurd named
  states body last (top ∷ tops) ([] ∷ ps) named strict = absurd (omega (arith, (named.0).some))
  states body last (top ∷ tops) ((x ∷ xs) ∷ ps) named strict =
      let part = x ∷ xs in
      let whole = split last part ps strict in (
        tell last top x xs (part_end body top x xs named.0)
            (strict_front last (map end_of part) (map end_of (joined_parts ps)) whole),
        states body (last_of last (map end_of part)) tops ps named.1
            (strict_back last (map end_of part) (map end_of (joined_parts ps)) whole),
      )

-- ---- what a block and what partitions have between the edges

block_has : (r : Result Loaded Error) (hs : List Handle) (lo : Option (List ℕ × ℕ))
    (hi : Option (List ℕ)) → (r >>= λ b. Ok (handles_of b)) ≡ Ok hs
    → between lo hi r ≡ ok_results (window hs lo hi)
block_has (Ok b) hs lo hi returned = let same : handles_of b ≡ hs = cc in
    ap (λ (xs : List Handle). ok_results (window xs lo hi)) same
block_has (Err e) hs lo hi returned = absurd cc

pub between_here : (body : List ℕ) (place : Place) (hs : List Handle) (lo : Option (List ℕ × ℕ))
    (hi : Option (List ℕ)) → handles_result body place ≡ Ok hs
    → block_between body lo hi place ≡ ok_results (window hs lo hi)
between_here body place hs lo hi returned =
    block_has (load_result body place.offset place.size Index) hs lo hi returned

module _ (body : List ℕ) (tops : List Handle) (parts : List (List Handle))
    (named : AllZip (NamesPart body) tops parts) (strict : AreStrictHandles (joined_parts parts))
    (lo : Option (List ℕ × ℕ)) (hi : Option (List ℕ)) where
  abbrev result : Handle → Result Handle Error
  result h = Ok h

  abbrev results : Handle → List (Result Handle Error)
  results top = block_between body lo hi (place_of top)

  cuts : (ts : List Handle) (ps : List (List Handle)) → AllZip (NamesPart body) ts ps
      → AllCut (from_test lo) (to_test hi) result results ts ps
  cuts [] [] n = tt
  cuts [] (part ∷ ps) n = absurd n
  cuts (top ∷ ts) [] n = absurd n
  cuts (top ∷ ts) (part ∷ ps) n = (
    between_here body (place_of top) part lo hi (n.0).handles ∙ ap (map result)
        (window_is part lo hi),
    cuts ts ps n.1,
  )

  pub parts_window : parts_between body lo hi (window tops lo hi)
      ≡ ok_results (window (joined_parts parts) lo hi)
  parts_window =
      ap (flat_map results) (window_is tops lo hi)
      ∙ parts_cut (from_test lo) (to_test hi) result results tops parts
      (states (from_test lo) (from_is_edge lo) body None tops parts named strict)
      (states (to_test hi) (to_is_edge hi) body None tops parts named strict)
      (cuts tops parts named)
      (rises (from_test lo) (from_is_edge lo) None (joined_parts parts) strict)
      ∙ ap (map result) (sym (window_is (joined_parts parts) lo hi))
