-- Strict lists, and the test for them.
use Rattle.std.proofs.Common.{◌≡◌, refl, true, false, List, [], ◌∷◌, ◌++◌}
use Rattle.std.specs.Prelude.{Option, Some, None}
use Rattle.sst_entries.specs.Entry.{Entry}
use Rattle.sst_entries.specs.Strict.{is_before, may_follow, IsStrictAfter, is_strict_after, last_of}
use Rattle.sst_entries.proofs.Booleans.{and_left, and_right, and_both, and_false}
use Rattle.sst_entries.proofs.OrderLemmas.{before_trans}

pub strict_from_test : (last : Option Entry) (es : List Entry) → is_strict_after last es ≡ true
    → IsStrictAfter last es
unfolding is_strict_after IsStrictAfter
strict_from_test last [] h = tt
strict_from_test last (e ∷ es) h = (
  and_left (may_follow last e)
      (is_strict_after (Some e) es) h,
  strict_from_test (Some e) es
      (and_right (may_follow last e) (is_strict_after (Some e) es) h),
)

pub test_from_strict : (last : Option Entry) (es : List Entry) → IsStrictAfter last es
    → is_strict_after last es ≡ true
unfolding is_strict_after IsStrictAfter
test_from_strict last [] h = refl
test_from_strict last (e ∷ es) h = and_both (may_follow last e) (is_strict_after (Some e) es) h.0
    (test_from_strict (Some e) es h.1)

-- one entry more
pub test_push : (last : Option Entry) (es : List Entry) (e : Entry) → is_strict_after last es ≡ true
    → may_follow (last_of last es) e ≡ true → is_strict_after last (es ++ e ∷ []) ≡ true
unfolding is_strict_after last_of
test_push last [] e h f = and_both (may_follow last e) true f refl
test_push last (x ∷ es) e h f = and_both (may_follow last x)
    (is_strict_after (Some x) (es ++ e ∷ [])) (and_left (may_follow last x)
    (is_strict_after (Some x) es) h) (test_push (Some x) es e
    (and_right (may_follow last x) (is_strict_after (Some x) es) h) f)

pub strict_push : (last : Option Entry) (es : List Entry) (e : Entry) → IsStrictAfter last es
    → may_follow (last_of last es) e ≡ true → IsStrictAfter last (es ++ e ∷ [])
unfolding IsStrictAfter last_of
strict_push last [] e h f = (f, tt)
strict_push last (x ∷ es) e h f = (h.0, strict_push (Some x) es e h.1 f)

-- an entry that may not come next makes the list no strict one
pub test_fails : (last : Option Entry) (es : List Entry) (e : Entry) (more : List Entry)
    → may_follow (last_of last es) e ≡ false → is_strict_after last (es ++ e ∷ more) ≡ false
unfolding is_strict_after last_of
test_fails last [] e more h = rw h refl
test_fails last (x ∷ es) e more h = and_false (may_follow last x)
    (is_strict_after (Some x) (es ++ e ∷ more)) (test_fails (Some x) es e more h)

pub last_push : (last : Option Entry) (es : List Entry) (e : Entry)
    → last_of last (es ++ e ∷ []) ≡ Some e
unfolding last_of
last_push last [] e = refl
last_push last (x ∷ es) e = last_push (Some x) es e

-- the rest is strict after the one before it
pub strict_alone : (last : Option Entry) (es : List Entry) → IsStrictAfter last es
    → IsStrictAfter None es
unfolding IsStrictAfter
strict_alone last [] h = tt
strict_alone last (e ∷ es) h = (refl, h.1)

-- both parts of a strict list
pub strict_front : (last : Option Entry) (es rest : List Entry) → IsStrictAfter last (es ++ rest)
    → IsStrictAfter last es
unfolding IsStrictAfter
strict_front last [] rest h = tt
strict_front last (e ∷ es) rest h = (h.0, strict_front (Some e) es rest h.1)

pub strict_back : (last : Option Entry) (es rest : List Entry) → IsStrictAfter last (es ++ rest)
    → IsStrictAfter (last_of last es) rest
unfolding IsStrictAfter last_of
strict_back last [] rest h = h
strict_back last (e ∷ es) rest h = strict_back (Some e) es rest h.1

-- what comes after an entry that may follow may follow too
pub may_jump : (last : Option Entry) (x y : Entry) → may_follow last x ≡ true → is_before x y ≡ true
    → may_follow last y ≡ true
may_jump None x y f g = refl
may_jump (Some l) x y f g = before_trans l x y f g
