-- Words of codes: what they stand for, and that it is one.
use Rattle.std.proofs.Common.{◌≡◌, refl, sym, ◌∙◌, ap, subst, inl, inr, ℕ, ◌+◌, ◌*◌, ◌<◌, ◌/◌, ◌%◌}
use Rattle.std.proofs.Common.{Bool, true, false, List, [], ◌∷◌, ◌++◌, ◌⊎◌, length, arith, append_assoc}
use Rattle.std.specs.Prelude.{Result, Ok, Err, IfErr, ◌==◌}
use Rattle.std.specs.Char.{digit_char}
use Rattle.std.proofs.lemmas.Bool.{eqb-true}
use Rattle.std.proofs.lemmas.Bool.Decides.{nat_tests}
use Rattle.sst_tool.specs.lines.Escapes.{AreCodes, Begins, WordMeans, escaped, is_plain}
use Rattle.sst_tool.specs.lines.Faults.{IsSameFault, lacks_memory}
use Rattle.sst_tool.specs.declared.lines.entry_line.LineError.{LineError}
use Rattle.sst_tool.specs.declared.lines.entry_line.LineError.TheVariants.{Key, Value}

-- a digit tells its value
digit_once : (h l : ℕ) → h < 16 → l < 16 → digit_char h ≡ digit_char l → h ≡ l
digit_once h l p q e = grind (arith, nat_tests)

-- two digits tell their byte
pub byte_once : (b c : ℕ) → b < 256 → c < 256 → digit_char (b / 16) ≡ digit_char (c / 16)
    → digit_char (b % 16) ≡ digit_char (c % 16) → b ≡ c
byte_once b c p q high low =
    let h : b / 16 ≡ c / 16 = digit_once (b / 16) (c / 16) (omega arith) (omega arith) high in
    let l : b % 16 ≡ c % 16 = digit_once (b % 16) (c % 16) (omega arith) (omega arith) low in
    omega arith

-- a plain byte is no backslash
plain_other : (b : ℕ) (r t : List ℕ) → is_plain b ≡ true → b ∷ r ≡ 92 ∷ t → ⊥
plain_other b r t plain e =
    let is : b ≡ 92 = cc in
    let backslash : is_plain 92 ≡ true = subst (λ (n : ℕ). is_plain n ≡ true) is plain in
    absurd cc

once_by : (w : List ℕ) (b c : ℕ) (r s : List ℕ) → b < 256 → c < 256
    → ((is_plain b ≡ true) × (w ≡ b ∷ r)) ⊎ (w ≡ escaped b ++ r)
    → ((is_plain c ≡ true) × (w ≡ c ∷ s)) ⊎ (w ≡ escaped c ++ s) → (b ≡ c) × (r ≡ s)
once_by w b c r s p q (inl h) (inl k) =
    let e : b ∷ r ≡ c ∷ s = sym h.1 ∙ k.1 in
    let byte : b ≡ c = cc in
    let rest : r ≡ s = cc in
    (byte, rest)
once_by w b c r s p q (inl h) (inr k) = absurd (plain_other b r _ h.0 (sym h.1 ∙ k))
once_by w b c r s p q (inr h) (inl k) = absurd (plain_other c s _ k.0 (sym k.1 ∙ h))
once_by w b c r s p q (inr h) (inr k) =
    let e : 92 ∷ 120 ∷ digit_char (b / 16) ∷ digit_char (b % 16) ∷ r
    ≡ 92 ∷ 120 ∷ digit_char (c / 16) ∷ digit_char (c % 16) ∷ s = sym h ∙ k in
    let high : digit_char (b / 16) ≡ digit_char (c / 16) = cc in
    let low : digit_char (b % 16) ≡ digit_char (c % 16) = cc in
    let rest : r ≡ s = cc in
    (byte_once b c p q high low, rest)

-- a word begins with one byte's code
pub begins_once : (w : List ℕ) (b c : ℕ) (r s : List ℕ) → Begins w b r → Begins w c s
    → (b ≡ c) × (r ≡ s)
begins_once w b c r s h k = once_by w b c r s h.0 k.0 h.1 k.1

some_by : (b : ℕ) (r : List ℕ) → ((is_plain b ≡ true) × ([] ≡ b ∷ r)) ⊎ ([] ≡ escaped b ++ r) → ⊥
some_by b r (inl h) = let e : [] ≡ b ∷ r = h.1 in absurd cc
some_by b r (inr h) = absurd cc

-- no bytes begin with none
pub begins_some : (w : List ℕ) (b : ℕ) (r : List ℕ) → w ≡ [] → Begins w b r → ⊥
begins_some w b r none h =
    some_by b r (subst (λ (v : List ℕ). Begins v b r) none h).1

-- the bytes of a front of a word were read, and what is left of it
pub record Reading (word bytes rest : List ℕ) : Type 0 where
  pub adds : (bs : List ℕ) → AreCodes rest bs → AreCodes word (bytes ++ bs)
  pub parts : (bs : List ℕ) → AreCodes word bs
      → (tail : List ℕ) × (bs ≡ bytes ++ tail) × AreCodes rest tail

pub reading_starts : (word : List ℕ) → Reading word [] word
reading_starts word = record {
  adds = λ bs h. h;
  parts = λ bs h. (bs, refl, h);
}

tail_step : (bytes bs tail rest behind : List ℕ) (b : ℕ) → Begins rest b behind
    → bs ≡ bytes ++ tail → AreCodes rest tail
    → (left : List ℕ) × (bs ≡ (bytes ++ b ∷ []) ++ left) × AreCodes behind left
tail_step bytes bs [] rest behind b begins e h = absurd (begins_some rest b behind h begins)
tail_step bytes bs (c ∷ cs) rest behind b begins e h =
    let o = begins_once rest b c behind h.0 begins h.1 in (
      cs,
      e ∙ ap (λ (n : ℕ). bytes ++ (n ∷ cs)) (sym o.0) ∙ sym (append_assoc bytes (b ∷ []) cs),
      subst (λ (v : List ℕ). AreCodes v cs) (sym o.1) h.2,
    )

-- one byte more
pub reading_goes : (word bytes rest behind : List ℕ) (b : ℕ) → Begins rest b behind
    → Reading word bytes rest → Reading word (bytes ++ b ∷ []) behind
reading_goes word bytes rest behind b begins r = record {
  adds = λ bs h. subst (λ (v : List ℕ). AreCodes word v) (sym (append_assoc bytes (b ∷ []) bs))
      (r.adds (b ∷ bs) (behind, begins, h));
  parts = λ bs h.
      let p = r.parts bs h in
      tail_step bytes bs p.0 rest behind b begins p.1 p.2;
}

stops_by : (rest tail : List ℕ) → (rest ≡ [] → ⊥)
    → ((b : ℕ) (r : List ℕ) → Begins rest b r → ⊥) → AreCodes rest tail → ⊥
stops_by rest [] some none h = some h
stops_by rest (c ∷ cs) some none h = none c h.0 h.1

-- where the rest begins with no code, the word stands for nothing
pub reading_stops : (word bytes rest : List ℕ) → Reading word bytes rest → (rest ≡ [] → ⊥)
    → ((b : ℕ) (r : List ℕ) → Begins rest b r → ⊥) → (bs : List ℕ) → AreCodes word bs → ⊥
reading_stops word bytes rest r some none bs h =
    let p = r.parts bs h in
    stops_by rest p.0 some none p.2

not_dash : (w : List ℕ) → w ≡ [] → w ≡ 45 ∷ [] → ⊥
not_dash [] none h = absurd cc
not_dash (x ∷ xs) none h = absurd cc

-- no codes stand for no bytes
pub no_codes : (word bs : List ℕ) → word ≡ [] → WordMeans word bs → ⊥
no_codes word [] none h = not_dash word none h
no_codes word (b ∷ bs) none h = begins_some word b h.1.0 none h.1.1

-- codes of a word that is not - stand for what the word does
pub codes_stand : (word bytes : List ℕ) → (word ≡ [] → ⊥) → (word ≡ 45 ∷ [] → ⊥)
    → AreCodes word bytes → WordMeans word bytes
codes_stand word [] some other h = absurd (some h)
codes_stand word (b ∷ bs) some other h = (other, h)

pub stand_codes : (word bytes : List ℕ) → (word ≡ 45 ∷ [] → ⊥) → WordMeans word bytes
    → AreCodes word bytes
stand_codes word [] other h = absurd (other h)
stand_codes word (b ∷ bs) other h = h.1

-- the two digits behind a backslash are of one byte
pub digits_of : (high low : ℕ) → high < 16 → low < 16
    → digit_char ((high * 16 + low) / 16) ∷ digit_char ((high * 16 + low) % 16) ∷ []
    ≡ digit_char high ∷ digit_char low ∷ []
digits_of high low p q =
    let h : (high * 16 + low) / 16 ≡ high = omega arith in
    let l : (high * 16 + low) % 16 ≡ low = omega arith in
    cc

-- whether a list is empty, by its test
pub some_is : (xs : List ℕ) (b : Bool) → b ≡ (length xs == 0) → b ≡ false → xs ≡ [] → ⊥
some_is [] b e h none = absurd cc
some_is (x ∷ xs) b e h none = absurd cc

pub empty_is : (xs : List ℕ) (b : Bool) → b ≡ (length xs == 0) → b ≡ true → xs ≡ []
empty_is [] b e h = refl
empty_is (x ∷ xs) b e h =
    absurd (omega (arith, eqb-true (length (x ∷ xs)) 0 (sym e ∙ h)))

-- an error is the same as itself
pub same_fault : (fault : LineError) → IsSameFault fault fault
same_fault (Key n) = (n, refl)
same_fault (Value n) = (n, refl)
same_fault fault = refl

-- where codes are refused, so is the word
pub refused_word : {X : Type 0} (r : Result X LineError) (word : List ℕ) (fault : LineError)
    → (word ≡ 45 ∷ [] → ⊥)
    → IfErr r (λ e. lacks_memory e ≡ false → IsSameFault fault e × ((bs : List ℕ) → AreCodes word bs → ⊥))
    → IfErr r (λ e. lacks_memory e ≡ false → IsSameFault fault e × ((bs : List ℕ) → WordMeans word bs → ⊥))
refused_word (Ok x) word fault other h = tt
refused_word (Err e) word fault other h = λ fine.
    ((h fine).0, λ bs stands. (h fine).1 bs (stand_codes word bs other stands))
