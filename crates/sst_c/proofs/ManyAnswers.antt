-- Telling of each, and what reads of some keys answer. Assumes `Logic`.
use Rattle.std.proofs.Common.{◌≡◌, ℕ, suc, ◌+◌, ◌-◌, ◌<◌, ◌≤◌, ◌⊎◌, List, [], ◌∷◌, ◌++◌, length, refl, sym, ap, ◌∙◌, arith, append_assoc, inl, inr, subst}
use Rattle.std.specs.Prelude.{map, take, drop, slice_set, slice_index_or, Option, Some, None, Result, Ok, Err}
use Rattle.std.proofs.lemmas.List.{drop_more, map_more, set-append_right, length-map, length-take-le}
use Rattle.sst_entries.specs.Entry.{Entry}
use Rattle.sst_entries.specs.Error.{Fails, Gives, number_of}
use Rattle.sst_entries.specs.declared.error.Error.{Error}
use Rattle.lsm_readers.specs.point.Many.{answers_to}
use Rattle.lsm_readers.specs.point.Read.{◌>>=◌}
use Rattle.sst_c.specs.Copies.{laid_over}
use Rattle.sst_c.specs.Many.{AnswersMany, many_kept, queries_for}
use Rattle.std.specs.Prelude.{IsSomeAnd}
use Rattle.sst_c.specs.What.{many_in}
use Rattle.sst_c.specs.declared.held.Held.{Held}
use Rattle.sst_c.specs.Reported.{entry_facts}
use Rattle.sst_c.specs.declared.entries.EntryReport.{EntryReport}
use Rattle.sst_c.proofs.Answering.{is_one_or_not}

-- one more stands in the front of a room
pub one_more_result : {X Y : Type 0} (f : X → Y) (i : ℕ) (xs : List X) (ys zs : List Y) (x : X)
    → zs ≡ map f (take i xs) ++ drop i ys → i < length xs → length xs ≤ length ys
    → x ≡ slice_index_or xs i x
    → slice_set zs i (f x) ≡ map f (take (i + 1) xs) ++ drop (i + 1) ys
one_more_result f i xs ys zs x same within room at =
    let front = map f (take i xs) in
    let len : length front ≡ i = length-map (take i xs) f ∙ length-take-le i xs (omega arith) in
    ap (λ l. slice_set l i (f x)) same
    ∙ set-append_right front (drop i ys) i i (f x) len (omega arith)
    ∙ ap (λ n. front ++ slice_set (drop i ys) n (f x)) (let e : i - i ≡ 0 = omega arith in e)
    ∙ ap (λ l. front ++ slice_set l 0 (f x)) (drop_more ys i (f x) (omega arith))
    ∙ sym (append_assoc front (f x ∷ []) (drop (i + 1) ys))
    ∙ ap (λ l. l ++ drop (i + 1) ys) (sym (map_more f xs i x within ∙ ap (λ y. front ++ f y ∷ []) (sym at)))

bind_ok : {X Y : Type 0} (r : Result X Error) (g : X → Result Y Error) (y : Y) → r >>= g ≡ Ok y
    → (x : X) × (r ≡ Ok x) × (g x ≡ Ok y)
bind_ok (Ok x) g y same = (x, refl, same)
bind_ok (Err e) g y same = absurd (let no : ⊥ = cc in no)

abbrev list_or : {Y : Type 0} → List Y → Result (List Y) Error → List Y
list_or none (Ok ys) = ys
list_or none (Err e) = none

-- a read of each leaves as many answers as there are queries
pub as_many : {X Y : Type 0} (f : X → Result Y Error) (xs : List X) (ys : List Y)
    → answers_to f xs ≡ Ok ys → length ys ≡ length xs
as_many f [] ys same = ap (λ r. length (list_or [] r)) (sym same)
as_many f (x ∷ xs) ys same =
    let one = bind_ok (f x) (λ y. answers_to f xs >>= λ zs. Ok (y ∷ zs)) ys same in
    let more = bind_ok (answers_to f xs) (λ zs. Ok (one.0 ∷ zs)) ys one.2 in
    ap (λ r. length (list_or [] r)) (sym more.2) ∙ ap suc (as_many f xs more.0 more.1)

pub cut_length : (lens bytes : List ℕ) (seqno : ℕ)
    → length (queries_for bytes lens seqno) ≡ length lens
cut_length [] bytes seqno = refl
cut_length (n ∷ ns) bytes seqno = ap suc (cut_length ns (drop n bytes) seqno)

-- want of memory may be answered whatever is told
pub many_one : (kept : Option (List (Option Entry))) (old new : List EntryReport)
    (returned : Result (List (Option Entry)) Error) → AnswersMany 1 kept old new returned
unfolding AnswersMany
many_one kept old new (Ok found) = inl refl
many_one kept old new (Err e) = inl refl

many_reported_err : (e : Error) (kept : Option (List (Option Entry))) (old new : List EntryReport)
    (returned : Result (List (Option Entry)) Error) → returned ≡ Err e
    → AnswersMany (number_of e) kept old new returned
unfolding AnswersMany
many_reported_err e kept old new returned same =
    subst (λ (r : Result (List (Option Entry)) Error). AnswersMany (number_of e) kept old new r) (sym same) (inr refl)

-- a refusal is the one that is told
pub many_err : (e : Error) (kept : Option (List (Option Entry))) (old new : List EntryReport)
    (returned : Result (List (Option Entry)) Error) → Fails e returned
    → AnswersMany (number_of e) kept old new returned
many_err e kept old new returned fails = elim (is_one_or_not e) [
  | inl one ↦ subst (λ (n : ℕ). AnswersMany n kept old new returned) (sym one) (many_one kept old new returned)
  | inr other ↦ many_reported_err e kept old new returned (fails other)
]

-- what was found is kept and told
pub many_ok : (code : ℕ) (kept : Option (List (Option Entry))) (old new : List EntryReport)
    (found : List (Option Entry)) (returned : Result (List (Option Entry)) Error) → returned ≡ Ok found
    → (code ≡ 0) ⊎ (code ≡ 1) → (code ≡ 0 → kept ≡ Some found)
    → (code ≡ 0 → new ≡ laid_over (map entry_facts found) old)
    → AnswersMany code kept old new returned
unfolding AnswersMany
many_ok code kept old new found returned same codes keeps states =
    subst (λ (r : Result (List (Option Entry)) Error). AnswersMany code kept old new r) (sym same)
    (elim codes [
      | inl zero ↦ inr (zero, keeps zero, states zero)
      | inr one ↦ inl one
    ])

-- what a handle keeps
pub kept_many : (o : Option Held) (found : List (Option Entry))
    → IsSomeAnd o (λ h. many_in h.what ≡ Some found) → many_kept o ≡ Some found
kept_many (Some h) found is = is
kept_many None found is = absurd is

-- what a call gives is what is told
pub gives_ok : {X Y : Type 0} (view : X → Y) (r : Result X Error) (x : X) (returned : Result Y Error) → r ≡ Ok x → Gives view r returned
    → returned ≡ Ok (view x)
gives_ok {X} view r x returned is gives = subst (λ (s : Result X Error). Gives view s returned) is gives

pub gives_err : {X Y : Type 0} (view : X → Y) (r : Result X Error) (e : Error) (returned : Result Y Error) → r ≡ Err e
    → Gives view r returned → Fails e returned
gives_err {X} view r e returned is gives = subst (λ (s : Result X Error). Gives view s returned) is gives
