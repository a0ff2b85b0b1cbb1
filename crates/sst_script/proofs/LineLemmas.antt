-- The line of an entry, and the lines of the entries that a lending iterator has yielded.
use Rattle.std.proofs.Common.{◌≡◌, refl, sym, ◌∙◌, ap, subst, ◌<◌, inl, inr, true, false, List, []}
use Rattle.std.proofs.Common.{◌∷◌, ◌++◌, ℕ, length, append_assoc, append-nil, arith}
use Rattle.std.proofs.Common.{length-append}
use Rattle.std.specs.Prelude.{Option, Some, None, Result, Ok, Err, IfErr, is_some, ◌==◌}
use Rattle.std.specs.Fmt.{decimal}
use Rattle.std.specs.List.{flat_map, join_with_byte}
use Rattle.std.specs.Option.{option_map}
use Rattle.std.specs.Result.{IsErrAnd}
use Rattle.std.proofs.lemmas.Bool.{cases_Bool, eqb-true}
use Rattle.std.proofs.lemmas.Bool.Decides.{nat_tests}
use Rattle.std.proofs.lemmas.Grind.{flat_map-append}
use Rattle.sst_entries.specs.declared.error.Error.{Error}
use Rattle.sst_entries.specs.declared.error.Error.TheVariants.{OutOfMemory}
use Rattle.sst_entries.specs.Entry.{Entry}
use Rattle.sst_entries.specs.Error.{is_memory}
use Rattle.sst_entries.specs.Stream.{Lowers, nowhere}
use Rattle.sst_entries.proofs.Refusals.{memory_is}
use Rattle.sst_script.specs.Answer.{entry_line, entry_lines, none_line}
use Rattle.sst_script.specs.Text.{letter_of, printed}
use Rattle.lsm_runs.specs.RunLists.{YieldsList}
use Rattle.sst_script.proofs.YieldedLemmas.{end_yielded, error_yielded, next_yielded}

-- ---- the line of an entry, part by part

line_parts : (before key number value : List ℕ) (letter : ℕ)
    → (((((before ++ key) ++ 32 ∷ []) ++ number) ++ 32 ∷ letter ∷ 32 ∷ []) ++ value) ++ 10 ∷ []
    ≡ before ++ ((key ++ 32 ∷ (number ++ 32 ∷ (letter ∷ 32 ∷ value))) ++ 10 ∷ [])
line_parts before key number value letter = simp append_assoc

pub line_is : (e : Entry) (before key number value : List ℕ) (letter : ℕ)
    → key ≡ printed e.user_key → number ≡ decimal e.seqno → letter ≡ letter_of e.kind
    → value ≡ printed e.value
    → (((((before ++ key) ++ 32 ∷ []) ++ number) ++ 32 ∷ letter ∷ 32 ∷ []) ++ value) ++ 10 ∷ []
    ≡ before ++ entry_line e
line_is e before key number value letter k n l v = rw (k, n, l, v)
    (line_parts before (printed e.user_key) (decimal e.seqno) (printed e.value) (letter_of e.kind))

-- ---- the lines of a source

-- an entry that was yielded
abbrev pub item : Entry → Result Entry Error
item e = Ok e

-- the lines of the first entries of a list were added to a text, and the source yields the others
pub record HasLines {S : Type 0} (advances : S → Option (Result Entry Error) → S → Type 0)
    (es : List Entry) (before text : List ℕ) (s : S) : Type 0 where
  pub done : List Entry
  pub left : List Entry
  pub parts : es ≡ done ++ left
  pub lines : text ≡ before ++ flat_map entry_line done
  pub yields : YieldsList advances nowhere left s

module _ {S : Type 0} (advances : S → Option (Result Entry Error) → S → Type 0) (es : List Entry)
    (before : List ℕ) where
  pub no_lines : (s : S) → YieldsList advances nowhere es s → HasLines advances es before before s
  no_lines s yields = record {
    done = [];
    left = es;
    parts = refl;
    lines = sym (append-nil before);
    yields = yields;
  }

  module _ (text : List ℕ) (s t : S) (has : HasLines advances es before text s) where
    -- one more line
    pub line_more : (e : Entry) (lent : Option Entry) (new : List ℕ) → Some e ≡ lent
        → advances s (option_map item lent) t → new ≡ text ++ entry_line e
        → HasLines advances es before new t
    line_more e lent new found goes is =
        let step = subst (λ (o : Option Entry). advances s (option_map item o) t)
        (sym found) goes in
        let next = next_yielded advances nowhere s t has.left e has.yields step in
        record {
          done = has.done ++ e ∷ [];
          left = next.0;
          parts = has.parts ∙ ap (λ (xs : List Entry). has.done ++ xs) next.1
              ∙ sym (append_assoc has.done (e ∷ []) next.0);
          lines = is ∙ ap (λ (l : List ℕ). l ++ entry_line e) has.lines
              ∙ append_assoc before (flat_map entry_line has.done) (entry_line e)
              ∙ ap (λ (l : List ℕ). before ++ l) (sym (flat_map-append entry_line has.done (e ∷ [])
              ∙ ap (λ (l : List ℕ). flat_map entry_line has.done ++ l) (append-nil (entry_line e))));
          yields = next.2;
        }

    -- no entry is left
    pub lines_whole : (lent : Option Entry) → is_some lent ≡ false
        → advances s (option_map item lent) t
        → text ≡ before ++ flat_map entry_line es
    lines_whole (Some e) is step = absurd cc
    lines_whole None is step =
        let none = end_yielded advances nowhere s t has.left has.yields step in
        has.lines ∙ ap (λ (xs : List Entry). before ++ flat_map entry_line xs)
        (sym (has.parts ∙ ap (λ (xs : List Entry). has.done ++ xs) none ∙ append-nil has.done))

    -- an error is `OutOfMemory`
    pub lines_fail : {X : Type 0} (r : Result X Error) (e : Error) → IsErrAnd r (λ y. y ≡ e)
        → advances s (Some (Err e)) t → IfErr r (λ y. y ≡ OutOfMemory)
    lines_fail (Ok x) e is step = tt
    lines_fail (Err y) e is step =
        elim (cases_Bool (is_memory e)) [
          | inl memory ↦ is ∙ memory_is e memory
          | inr other ↦ absurd (error_yielded advances nowhere s t has.left e has.yields step other)
        ]

-- if an entry is borrowed, one was yielded
pub not_more : (lent : Option Entry) → None ≡ lent → is_some lent ≡ true → ⊥
not_more None none some = absurd cc
not_more (Some e) none some = absurd cc

-- a step that yields an entry lowers the bound on those that remain
pub fewer : (e : Entry) (lent : Option Entry) (old new : ℕ) → Some e ≡ lent
    → Lowers (option_map item lent) old new → new < old
fewer e lent old new found lowers =
    subst (λ (o : Option Entry). Lowers (option_map item o) old new)
    (sym found) lowers

-- ---- the text of a list

-- a line has bytes
ended_some : (line more : List ℕ) → 0 < length ((line ++ 10 ∷ []) ++ more)
ended_some line more =
    omega (arith, length-append (line ++ 10 ∷ []) more, length-append line (10 ∷ []))

line_some : (e : Entry) (more : List ℕ) → 0 < length (entry_line e ++ more)
line_some e more = ended_some
    (join_with_byte 32
    (printed e.user_key ∷ decimal e.seqno ∷ (letter_of e.kind ∷ []) ∷ printed e.value ∷ [])) more

-- the lines of a list that has entries
pub lines_are : (es : List Entry) (text : List ℕ) → text ≡ flat_map entry_line es
    → (length text == 0) ≡ false → text ≡ entry_lines es
lines_are [] text is some = absurd (grind (ap length is, some, arith, nat_tests))
lines_are (e ∷ es) text is some = is

-- a text without bytes has no entry, and gets the line for none
pub none_are : (es : List Entry) (text new : List ℕ) → text ≡ flat_map entry_line es
    → (length text == 0) ≡ true → new ≡ text ++ none_line → new ≡ entry_lines es
none_are [] text new is none added = added ∙ ap (λ (l : List ℕ). l ++ none_line) is
none_are (e ∷ es) text new is none added =
    absurd (omega (arith, line_some e (flat_map entry_line es), eqb-true _ _ none, ap length is))
