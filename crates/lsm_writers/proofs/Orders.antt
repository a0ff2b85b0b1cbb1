-- Strict lists of entries and of the handles of their chunks.
use Rattle.std.proofs.Common.{◌≡◌, refl, sym, ◌∙◌, ap, subst, ℕ, ◌+◌, ◌-◌, ◌<◌, true, List, []}
use Rattle.std.proofs.Common.{◌∷◌, ◌++◌, length, map, arith}
use Rattle.std.specs.Prelude.{Option, Some, None, unwrap_or, nat_lt, ◌^◌}
use Rattle.std.specs.List.{AllByRecursion}
use Rattle.sst_blocks.specs.declared.version.TableVersion.{TableVersion}
use Rattle.sst_entries.specs.declared.value_type.ValueType.TheVariants.{Value}
use Rattle.sst_entries.specs.Entry.{Entry, entry}
use Rattle.sst_blocks.specs.Handles.{end_of, AreStrictHandles}
use Rattle.sst_entries.proofs.OrderLemmas.{before_trans}
use Rattle.sst_entries.proofs.Strictness.{strict_front, strict_back}
use Rattle.sst_entries.specs.Strict.{is_before, may_follow, IsStrictAfter, IsStrict, last_of}
use Rattle.sst_blocks.specs.table.Chunks.{joined}
use Rattle.lsm_writers.specs.Writing.{may_be_written}
use Rattle.sst_blocks.specs.table.Index.{last_entry, block_size, handle_of, handles_from, handles}

pub nothing_last : last_of None [] ≡ None
unfolding last_of
nothing_last = refl

-- the last of two lists one after another
pub last_of-append : (before : Option Entry) (xs ys : List Entry)
    → last_of before (xs ++ ys) ≡ last_of (last_of before xs) ys
unfolding last_of
last_of-append before [] ys = refl
last_of-append before (x ∷ xs) ys = last_of-append (Some x) xs ys

-- what may come before the first of a strict list may come before its last
last_follows : (before : Option Entry) (x : Entry) (xs : List Entry) → may_follow before x ≡ true
    → IsStrictAfter (Some x) xs → may_follow before (last_entry (x ∷ xs)) ≡ true
unfolding IsStrictAfter last_of
last_follows before x [] f h = f
last_follows None x (y ∷ ys) f h = refl
last_follows (Some b) x (y ∷ ys) f h = last_follows (Some b) y ys (before_trans b x y f h.0) h.1

pub last_of_cons : (before : Option Entry) (x : Entry) (xs : List Entry)
    → last_of before (x ∷ xs) ≡ Some (last_entry (x ∷ xs))
unfolding last_of
last_of_cons before x [] = refl
last_of_cons before x (y ∷ ys) = last_of_cons (Some x) y ys

-- only the key and the number of what stands before count
same_before : (a b : Entry) (es : List Entry) → ((e : Entry) → is_before a e ≡ is_before b e)
    → IsStrictAfter (Some b) es → IsStrictAfter (Some a) es
unfolding IsStrictAfter
same_before a b [] same h = tt
same_before a b (e ∷ es) same h = (same e ∙ h.0, h.1)

-- only the key and the number of what comes next count
pub ends_follow : (before : Option Entry) (a b : Entry) → a.user_key ≡ b.user_key
    → a.seqno ≡ b.seqno → may_follow before b ≡ true → may_follow before a ≡ true
ends_follow None a b k n f = refl
ends_follow (Some x) a b k n f = rw (k, n) f

abbrev pub HasSome : List Entry → Type 0
HasSome c = 0 < length c

-- the ends of the chunks of a strict list are strict
handles_strict_from : (v : TableVersion) (at : ℕ) (before : Option Entry) (cs : List (List Entry))
    → AllByRecursion HasSome cs → IsStrictAfter before (joined cs)
    → IsStrictAfter before (map end_of (handles_from v at cs))
unfolding IsStrictAfter
handles_strict_from v at before [] some h = tt
handles_strict_from v at before ([] ∷ cs) some h = absurd (omega (arith, some.0))
handles_strict_from v at before ((x ∷ xs) ∷ cs) some h =
    let c = x ∷ xs in
    let front : IsStrictAfter before c = strict_front before c (joined cs) h in
    let back : IsStrictAfter (Some (last_entry c)) (joined cs) =
    subst (λ (l : Option Entry). IsStrictAfter l (joined cs)) (last_of_cons before x xs)
    (strict_back before c (joined cs) h) in
    let rest : IsStrictAfter (Some (last_entry c))
    (map end_of (handles_from v (at + block_size v c) cs)) =
    handles_strict_from v (at + block_size v c) (Some (last_entry c)) cs some.1 back in (
      ends_follow before (end_of (handle_of v at c)) (last_entry c) refl refl
          (last_follows before x xs front.0 front.1),
      same_before (end_of (handle_of v at c))
          (last_entry c) _ (λ e. refl) rest,
    )

pub handles_strict : (v : TableVersion) (cs : List (List Entry)) → AllByRecursion HasSome cs
    → IsStrict (joined cs) → AreStrictHandles (handles v cs)
handles_strict v cs some h = handles_strict_from v 0 None cs some h

pub some_last : (es : List Entry) (x : Entry) → last_of None es ≡ Some x → 0 < length es
unfolding last_of
some_last [] x h = absurd cc
some_last (e ∷ es) x h = omega arith

-- what may follow is told by the key and the number
pub follows_last : (es : List Entry) (key : List ℕ) (n : ℕ) (last : Entry)
    → last_of None es ≡ Some last → nat_lt n (2 ^ 64 - 1) ≡ true
    → is_before last (entry key [] n Value) ≡ may_be_written es key n
follows_last es key n last h lt = rw (h, lt) refl

pub follows_nothing : (es : List Entry) (key : List ℕ) (n : ℕ) → last_of None es ≡ None
    → nat_lt n (2 ^ 64 - 1) ≡ true → true ≡ may_be_written es key n
follows_nothing es key n h lt = rw (h, lt) refl

-- where there are entries, nothing before counts
pub behind_some : (before r : Option Entry) (es : List Entry) → (es ≡ [] → ⊥)
    → r ≡ last_of None es → r ≡ last_of before es
unfolding last_of
behind_some before r [] some h = absurd (some refl)
behind_some before r (e ∷ es) some h = h

pub the_last : (es : List Entry) (x : Entry) → last_of None es ≡ Some x → x ≡ last_entry es
the_last es x h = sym (ap (λ (o : Option Entry). unwrap_or o (entry [] [] 0 Value)) h)

pub nothing_is_last : (es : List Entry) → last_of None es ≡ None → es ≡ []
nothing_is_last [] h = refl
nothing_is_last (e ∷ es) h = let no : Some (last_entry (e ∷ es)) ≡ None =
    sym (last_of_cons None e es) ∙ h in absurd cc

pub is_not_empty : (es : List Entry) (x : Entry) → Some x ≡ last_of None es → es ≡ [] → ⊥
is_not_empty es x h e =
    let no : Some x ≡ None = h ∙ ap (last_of None) e ∙ nothing_last in
    absurd cc

pub behind_nothing : (before r : Option Entry) (es : List Entry) → es ≡ []
    → r ≡ before → r ≡ last_of before es
unfolding last_of
behind_nothing before r es h e = rw h e
