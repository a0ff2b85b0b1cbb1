-- Parts of a strict list: each is strict, and so are their last items.
use Rattle.std.proofs.Common.{◌≡◌, ℕ, List, [], ◌∷◌, ◌++◌, map, refl, ap, subst, ◌∙◌, append_assoc}
use Rattle.std.proofs.Common.{arith}
use Rattle.std.specs.Prelude.{Option, Some, Bool}
use Rattle.std.specs.List.{AllByRecursion, flat_map}
use Rattle.std.proofs.lemmas.List.{map-append}
use Rattle.std.proofs.lemmas.List.Concat.{flat_map-append}
use Rattle.sst_entries.specs.Entry.{Entry}
use Rattle.sst_entries.specs.Strict.{IsStrict, IsStrictAfter, last_of}
use Rattle.sst_entries.proofs.Lists.{all_front, all_behind}
use Rattle.sst_entries.proofs.Strictness.{strict_alone, strict_front, strict_back}
use Rattle.sst_blocks.specs.table.Index.{last_entry}
use Rattle.sst_blocks.specs.table.Parts.{AreParts, joined_parts}
use Rattle.lsm_readers.proofs.FileLengths.{follow_last, last_some}
use Rattle.lsm_readers.proofs.PartReads.{AreSomeParts}

pub some_parts : {A : Type 0} (full : List A → Bool) (ps : List (List A)) → AreParts full ps
    → AreSomeParts ps
some_parts full [] h = tt
some_parts full (p ∷ ps) h = ((h.0).some, some_parts full ps h.2)

-- parts of nothing
pub no_parts : {A : Type 0} (ps : List (List A)) → AreSomeParts ps → joined_parts ps ≡ [] → ps ≡ []
no_parts [] some none = refl
no_parts ([] ∷ ps) some none = absurd (omega (arith, some.0))
no_parts ((x ∷ xs) ∷ ps) some none = absurd cc

-- what holds of all items holds of those of each part
pub part_all : {A : Type 0} (P : A → Type 0) (before : List (List A)) (part : List A)
    (behind : List (List A)) → AllByRecursion P (joined_parts (before ++ part ∷ behind))
    → AllByRecursion P part
part_all P [] part behind h = all_front P part (joined_parts behind) h
part_all P (b ∷ before) part behind h = part_all P before part behind
    (all_behind P b (joined_parts (before ++ part ∷ behind)) h)

module _ {A : Type 0} (end : A → Entry) where
  split : (last : Option Entry) (p : List A) (ps : List (List A))
      → IsStrictAfter last (map end (joined_parts (p ∷ ps)))
      → IsStrictAfter last (map end p ++ map end (joined_parts ps))
  split last p ps h = subst (λ (es : List Entry). IsStrictAfter last es)
      (map-append end p (joined_parts ps)) h

  pub part_strict : (last : Option Entry) (before : List (List A)) (part : List A)
      (behind : List (List A)) → IsStrictAfter last
      (map end (joined_parts (before ++ part ∷ behind))) → IsStrict (map end part)
  part_strict last [] part behind h = strict_alone last (map end part)
      (strict_front last (map end part) (map end (joined_parts behind)) (split last part behind h))
  part_strict last (b ∷ before) part behind h =
      let rest = before ++ part ∷ behind in
      part_strict (last_of last (map end b)) before part behind
      (strict_back last (map end b) (map end (joined_parts rest)) (split last b rest h))

  -- the last items of the parts are strict
  pub ends_strict : (last : Option Entry) (parts : List (List A)) → AreSomeParts parts
      → IsStrictAfter last (map end (joined_parts parts))
      → IsStrictAfter last (map (λ (p : List A). last_entry (map end p)) parts)
  unfolding IsStrictAfter last_of
  ends_strict last [] some h = tt
  ends_strict last ([] ∷ ps) some h = absurd (omega (arith, some.0))
  ends_strict last ((x ∷ xs) ∷ ps) some h =
      let es : List Entry = end x ∷ map end xs in
      let whole = split last (x ∷ xs) ps h in
      let here = follow_last last (end x) (map end xs)
      (strict_front last es (map end (joined_parts ps)) whole) in
      let rest : IsStrictAfter (Some (last_entry es)) (map end (joined_parts ps)) =
      subst (λ (l : Option Entry). IsStrictAfter l (map end (joined_parts ps)))
      (last_some (end x) (map end xs)) (strict_back last es
      (map end (joined_parts ps)) whole) in
      (here, ends_strict (Some (last_entry es)) ps some.1 rest)

-- one of the blocks of a section
pub block_of : {A : Type 0} (block : A → List ℕ) (before : List A) (x : A) (behind : List A)
    (pre post : List ℕ) → pre ++ (flat_map block (before ++ x ∷ behind) ++ post)
    ≡ (pre ++ flat_map block before) ++ block x ++ (flat_map block behind ++ post)
block_of block before x behind pre post =
    ap (λ (bs : List ℕ). pre ++ (bs ++ post)) (flat_map-append block before (x ∷ behind))
    ∙ simp append_assoc
