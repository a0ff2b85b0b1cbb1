-- The words of lines.
use Rattle.std.proofs.Common.{◌≡◌, refl, sym, ◌∙◌, ap, subst, ℕ, ◌+◌, ◌<◌, ◌≤◌, Bool, true, false}
use Rattle.std.proofs.Common.{List, [], ◌∷◌, length, take, drop, arith, ltb-true, ltb-false}
use Rattle.std.specs.Prelude.{Option, Some, None, Result, Ok, Err, IfErr, is_some, ◌==◌, nat_lt}
use Rattle.std.specs.Option.{option_copied}
use Rattle.std.specs.Borrow.{Bor}
use Rattle.std.specs.Result.{IsErrAnd}
use Rattle.std.specs.List.{onto_first, position, position_or_len, slice_split}
use Rattle.std.proofs.lemmas.List.Splits.{length-slice_split, slice_split_first}
use Rattle.sst_entries.specs.Entry.{Entry}
use Rattle.sst_entries.specs.declared.value_type.ValueType.{ValueType}
use Rattle.sst_tool.specs.lines.Escapes.{WordMeans}
use Rattle.sst_tool.specs.lines.Faults.{lacks_memory}
use Rattle.sst_tool.specs.lines.WordLine.{SpellsEntry, SpellsNumber, kind_letter, line_words}
use Rattle.sst_tool.specs.lines.WordLine.{line_words_behind}
use Rattle.sst_tool.specs.declared.lines.entry_line.LineError.{LineError}

abbrev pub is_space : ℕ → Bool
is_space b = b == 32

found_by : (line : List ℕ) (at : ℕ) (b : Bool)
    → nat_lt (position_or_len is_space line) (length line) ≡ b → Some at ≡ position is_space line
    → (position_or_len is_space line < length line) × (at ≡ position_or_len is_space line)
found_by line at true h found = let e : Some at ≡ Some (position_or_len is_space line) = found
    ∙ rw h refl in (ltb-true _ _ h, cc)
found_by line at false h found = let e : Some at ≡ None = found ∙ rw h refl in absurd cc

-- a line that has a space
pub cut_at : (line : List ℕ) (at : ℕ) → Some at ≡ position is_space line
    → line_words line ≡ take at line ∷ line_words (drop (at + 1) line)
cut_at line at found =
    let f = found_by line at _ refl found in
    slice_split_first is_space line 0 f.0 ∙ sym (rw f.1 refl)

uncut_step : (x : ℕ) (xs : List ℕ) (b : Bool) → is_space x ≡ b
    → length (x ∷ xs) ≤ position_or_len is_space (x ∷ xs)
    → (length xs ≤ position_or_len is_space xs → slice_split is_space xs ≡ xs ∷ [])
    → slice_split is_space (x ∷ xs) ≡ (x ∷ xs) ∷ []
uncut_step x xs true e h again = absurd (omega (arith, rw e at h))
uncut_step x xs false e h again = rw e (ap (onto_first x) (again (omega (arith, rw e at h))))

uncut_from : (line : List ℕ) → length line ≤ position_or_len is_space line
    → line_words line ≡ line ∷ []
uncut_from [] h = refl
uncut_from (x ∷ xs) h = uncut_step x xs _ refl h (uncut_from xs)

none_by : (line : List ℕ) (b : Bool) → nat_lt (position_or_len is_space line) (length line) ≡ b
    → None ≡ position is_space line → length line ≤ position_or_len is_space line
none_by line true h found = let e : None ≡ Some (position_or_len is_space line) = found
    ∙ rw h refl in absurd cc
none_by line false h found = ltb-false _ _ h

-- a line that has none
pub uncut : (line : List ℕ) → None ≡ position is_space line → line_words line ≡ line ∷ []
uncut line found = uncut_from line (none_by line _ refl found)

-- what the four words of a line mean that spells an entry
pub spelled_by : (line key number kind value : List ℕ)
    → line_words line ≡ key ∷ number ∷ kind ∷ value ∷ [] → (e : Entry) → SpellsEntry line e
    → WordMeans key e.user_key × SpellsNumber number e.seqno × (kind ≡ kind_letter e.kind ∷ [])
    × WordMeans value e.value
spelled_by line key number kind value are e s =
    let w = s.words in
    let same : w.key ∷ w.number ∷ w.kind ∷ w.value ∷ [] ≡ key ∷ number ∷ kind ∷ value ∷ [] =
    sym w.are ∙ are in
    let k : w.key ≡ key = cc in
    let n : w.number ≡ number = cc in
    let t : w.kind ≡ kind = cc in
    let v : w.value ≡ value = cc in (
      subst (λ (x : List ℕ). WordMeans x e.user_key) k s.key_is,
      subst (λ (x : List ℕ). SpellsNumber x e.seqno) n s.seqno_is,
      sym t ∙ s.kind_is,
      subst (λ (x : List ℕ). WordMeans x e.value) v s.value_is,
    )

-- an error that is passed on
pub passed_on : {X : Type 0} (P : LineError → Type 0) (r : Result X LineError) (e : LineError)
    → IsErrAnd r (λ y. y ≡ e) → P e → IfErr r P
passed_on P (Ok x) e is h = absurd is
passed_on P (Err y) e is h = subst P (sym is) h

-- a letter that is none
pub no_kind : (word : List ℕ) (r : Option ValueType) → r ≡ None
    → ((kind : ValueType) → word ≡ kind_letter kind ∷ [] → r ≡ Some kind) → (kind : ValueType)
    → word ≡ kind_letter kind ∷ [] → ⊥
no_kind word r none all kind is = let e : None ≡ Some kind = sym none ∙ all kind is in absurd cc

behind_some : (r : Option (List ℕ)) → is_some r ≡ true → 0 < length (line_words_behind r)
behind_some None h = absurd cc
behind_some (Some rest) h = omega (arith, length-slice_split is_space rest)

-- a line of more than four words
pub five_words : (line k r₁ n r₂ t r₃ v : List ℕ) (r : Option (List ℕ))
    → line_words line ≡ k ∷ line_words r₁ → line_words r₁ ≡ n ∷ line_words r₂
    → line_words r₂ ≡ t ∷ line_words r₃ → line_words r₃ ≡ v ∷ line_words_behind r → is_some r ≡ true
    → length (line_words line) ≡ 4 → ⊥
five_words line k r₁ n r₂ t r₃ v r p q s u some four =
    absurd (omega (
      arith,
      ap length p,
      ap length q,
      ap length s,
      ap length u,
      behind_some r some,
      four,
    ))

pub copied_some : (r : Option (Bor (List ℕ))) → is_some r ≡ true → is_some (option_copied r) ≡ true
copied_some None h = h
copied_some (Some rest) h = refl

-- a fault of a line whose words spell no entry
abbrev pub SpellsNone : List ℕ → LineError → Type 0
SpellsNone line e = lacks_memory e ≡ false → (item : Entry) → ¬ SpellsEntry line item
