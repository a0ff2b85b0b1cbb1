-- The words of lines.
use Rattle.std.proofs.Common.{◌≡◌, refl, sym, ◌∙◌, ap, subst, ℕ, ◌+◌, ◌<◌, ◌≤◌, Bool, true, false}
use Rattle.std.proofs.Common.{List, [], ◌∷◌, length, take, drop, arith, ltb-true, ltb-false}
use Rattle.std.specs.Prelude.{Some, None, ◌==◌, nat_lt, codes}
use Rattle.std.specs.declared.ops.Bound.{Bound}
use Rattle.std.specs.declared.ops.Bound.TheVariants.{Included, Excluded, Unbounded}
use Rattle.std.specs.Char.{is_ascii_graphic}
use Rattle.std.specs.List.{position, position_or_len, slice_split, onto_first, list_all}
use Rattle.std.proofs.lemmas.Bool.Decides.{nat_tests}
use Rattle.std.proofs.lemmas.List.Splits.{slice_split_first}
use Rattle.std.specs.Int.{IsInRange}
use Rattle.std.specs.List.{join_with_byte}
use Rattle.std.specs.Str.Parse.{AllDigits}
use Rattle.std.proofs.lemmas.List.Splits.{length-slice_split, join_with_byte-slice_split}
use Rattle.std.proofs.lemmas.Str.Parse.{digit_from_value}
use Rattle.sst_script.specs.declared.command.Command.{Command}
use Rattle.sst_script.specs.declared.command.Command.TheVariants.{Entry, Table, Get, Range}
use Rattle.sst_script.specs.declared.command.Command.TheVariants.{Compact, Pack}
use Rattle.sst_script.specs.Command.{words_of, AskFor, Limits, setting_words}
use Rattle.sst_entries.proofs.Booleans.{and_parts}

abbrev pub is_space : ℕ → Bool
is_space b = b == 32

found_by : (line : List ℕ) (at : ℕ) (b : Bool)
    → nat_lt (position_or_len is_space line) (length line) ≡ b → Some at ≡ position is_space line
    → (position_or_len is_space line < length line) × (at ≡ position_or_len is_space line)
found_by line at true h found = let e : Some at ≡ Some (position_or_len is_space line) = found
    ∙ rw h refl in (ltb-true _ _ h, cc)
found_by line at false h found = let e : Some at ≡ None = found ∙ rw h refl in absurd cc

-- a line that has a space
pub cut_at : (line : List ℕ) (at : ℕ) → Some at ≡ position is_space line
    → words_of line ≡ take at line ∷ words_of (drop (at + 1) line)
cut_at line at found =
    let f = found_by line at _ refl found in
    slice_split_first is_space line 0 f.0 ∙ sym (rw f.1 refl)

uncut_step : (x : ℕ) (xs : List ℕ) (b : Bool) → is_space x ≡ b
    → length (x ∷ xs) ≤ position_or_len is_space (x ∷ xs)
    → (length xs ≤ position_or_len is_space xs → slice_split is_space xs ≡ xs ∷ [])
    → slice_split is_space (x ∷ xs) ≡ (x ∷ xs) ∷ []
uncut_step x xs true e h again = absurd (omega (arith, rw e at h))
uncut_step x xs false e h again = rw e (ap (onto_first x) (again (omega (arith, rw e at h))))

uncut_from : (line : List ℕ) → length line ≤ position_or_len is_space line
    → words_of line ≡ line ∷ []
uncut_from [] h = refl
uncut_from (x ∷ xs) h = uncut_step x xs _ refl h (uncut_from xs)

none_by : (line : List ℕ) (b : Bool) → nat_lt (position_or_len is_space line) (length line) ≡ b
    → None ≡ position is_space line → length line ≤ position_or_len is_space line
none_by line true h found = let e : None ≡ Some (position_or_len is_space line) = found
    ∙ rw h refl in absurd cc
none_by line false h found = ltb-false _ _ h

-- a line that has none
pub uncut : (line : List ℕ) → None ≡ position is_space line → words_of line ≡ line ∷ []
uncut line found = uncut_from line (none_by line _ refl found)

visible_step : (x : ℕ) (b c : Bool) → is_ascii_graphic x ≡ b → is_space x ≡ c
    → is_ascii_graphic x ≡ true → c ≡ false
visible_step x b true p q h = absurd (grind (arith, nat_tests))
visible_step x b false p q h = refl

-- a word of visible bytes is one word
pub visible_word : (word : List ℕ) → list_all is_ascii_graphic word ≡ true
    → words_of word ≡ word ∷ []
visible_word [] h = refl
visible_word (x ∷ xs) h =
    let both = and_parts (is_ascii_graphic x) (list_all is_ascii_graphic xs) h in
    rw (visible_step x _ _ refl refl both.0) (ap (onto_first x) (visible_word xs both.1))

-- the word of a bound is one word
pub limit_word : (word : List ℕ) (bound : Bound (List ℕ)) → Limits word bound
    → words_of word ≡ word ∷ []
limit_word word (Included key) h = subst (λ (w : List ℕ). words_of w ≡ w ∷ []) (sym h.1)
    (ap (onto_first 61) (visible_word h.0 h.2.visible))
limit_word word (Excluded key) h = subst (λ (w : List ℕ). words_of w ≡ w ∷ []) (sym h.1)
    (ap (onto_first 33) (visible_word h.0 h.2.visible))
limit_word word Unbounded h = subst (λ (w : List ℕ). words_of w ≡ w ∷ []) (sym h) refl

no_digit : (x : ℕ) (b : Bool) → is_space x ≡ b → IsInRange 48 57 x → b ≡ false
no_digit x true p h = absurd (grind (arith, nat_tests))
no_digit x false p h = refl

-- a word of digits is one word
pub digits_word : (word : List ℕ) → AllDigits 10 word → words_of word ≡ word ∷ []
digits_word [] h = refl
digits_word (x ∷ xs) h = rw (no_digit x _ refl (digit_from_value x h.0))
    (ap (onto_first x) (digits_word xs h.1))

-- a line of one word is that word
pub one_word : (line word : List ℕ) → words_of line ≡ word ∷ [] → line ≡ word
one_word line word h = sym (join_with_byte-slice_split 32 line) ∙ ap (join_with_byte 32) h

-- a line is its words with spaces between them
pub words_joined : (line : List ℕ) (words : List (List ℕ)) → words_of line ≡ words
    → line ≡ join_with_byte 32 words
words_joined line words h = sym (join_with_byte-slice_split 32 line) ∙ ap (join_with_byte 32) h

-- a line has words
pub some_word : (line : List ℕ) → words_of line ≡ [] → ⊥
some_word line h = omega (arith, length-slice_split is_space line, ap length h)

-- the first of some words, and those after it
pub parts : (w x : List ℕ) (ws rest others : List (List ℕ)) → ws ≡ w ∷ rest → ws ≡ x ∷ others
    → (w ≡ x) × (rest ≡ others)
parts w x ws rest others h k = let e : w ∷ rest ≡ x ∷ others = sym h ∙ k in (cc, cc)

-- a line of several words whose first is none of these names is no command
pub no_command : (line name rest : List ℕ) → words_of line ≡ name ∷ words_of rest
    → (name ≡ codes "entry" → ⊥) → (name ≡ codes "get" → ⊥) → (name ≡ codes "range" → ⊥)
    → (name ≡ codes "compact" → ⊥) → (command : Command) → AskFor (words_of line) command → ⊥
no_command line name rest words no_entry no_get no_range no_compact (Entry key seqno kind value) h =
    no_entry (parts name (codes "entry") (words_of line) (words_of rest) _ words h.words_are).0
no_command line name rest words no_entry no_get no_range no_compact Table h =
    some_word rest (parts name (codes "table") (words_of line) (words_of rest) [] words h).1
no_command line name rest words no_entry no_get no_range no_compact (Get key bound) h =
    no_get (parts name (codes "get") (words_of line) (words_of rest) _ words h.words_are).0
no_command line name rest words no_entry no_get no_range no_compact (Range low high) h =
    no_range (parts name (codes "range") (words_of line) (words_of rest) _ words h.words_are).0
no_command line name rest words no_entry no_get no_range no_compact
    (Compact watermark evict zero) h = no_compact
    (parts name (codes "compact") (words_of line) (words_of rest) _ words h.words_are).0
no_command line name rest words no_entry no_get no_range no_compact Pack h =
    some_word rest (parts name (codes "pack") (words_of line) (words_of rest) [] words h).1

-- words after a watermark that are none of these are no settings
pub no_settings : (rest : List ℕ) → (rest ≡ codes "evict" → ⊥) → (rest ≡ codes "zero" → ⊥)
    → (rest ≡ codes "evict zero" → ⊥) → (evict zero : Bool)
    → words_of rest ≡ setting_words evict zero → ⊥
no_settings rest no_evict no_zero no_both false false h = some_word rest h
no_settings rest no_evict no_zero no_both true false h =
    no_evict (words_joined rest (codes "evict" ∷ []) h)
no_settings rest no_evict no_zero no_both false true h =
    no_zero (words_joined rest (codes "zero" ∷ []) h)
no_settings rest no_evict no_zero no_both true true h =
    no_both (words_joined rest (codes "evict" ∷ codes "zero" ∷ []) h)

-- both of them
pub both_settings : (rest : List ℕ) → rest ≡ codes "evict zero"
    → words_of rest ≡ setting_words true true
both_settings rest is = ap words_of is
